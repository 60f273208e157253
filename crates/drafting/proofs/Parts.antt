-- The parts of a list on a row: the choosing part, the waiting part, the whole. Assumes nothing.
use mathlib.Core.Bool.{Bool, true, false, ◌&&◌}
use mathlib.Core.List.{List, []}
use mathlib.Core.Path.{◌≡◌, refl, sym, subst, ap, ap₂, ◌∙◌}
use Prim.Native.Nat.{ℕ, ◌-◌}
use native.Mathlib.Omega.{arith}
use Rattle.std.specs.Prelude.{Result, Err}
use Rattle.refusal.specs.declared.Refusal.{Refusal}
use Rattle.refusal.specs.declared.Refusal.TheVariants.{NoPlan}
use Rattle.model.specs.Prelude.{upd}
use Rattle.model.specs.Members.{Members, size, quorum}
use Rattle.model.specs.State.{Entry, entries, RowState, Status, normal, waiting}
use Rattle.model.specs.Records.{bare, of}
use Rattle.members.specs.Mask.{bits}
use Rattle.cluster.specs.Layout.{controller_of}
use Rattle.text.specs.Text.{Text}
use Rattle.refinement.specs.Refinement.{abs}
use Rattle.refinement.specs.Lent.{places_in, SameLent}
use Rattle.recovery.specs.Plan.{Draft, first_of, highest, start, turns, error, put, put_unless, need, informs_controller, hears, choosing_part, informs, follows, reads_leader, waiting_part, draft, plan}
use Rattle.orders.specs.declared.Order.{Order}
use Rattle.orders.specs.Orders.{all_of}
use Rattle.orders.specs.Noted.{noted}
use Rattle.delivery.specs.Planned.{Planned, planned}
use Rattle.delivery.specs.Delivery.{delivered, Gives}
use Rattle.pieces.specs.declared.Sketch.{Sketch}
use Rattle.pieces.specs.Pieces.{Stands, Moves}
use Rattle.pieces.proofs.Standing.{moves-as, moves-none, moves-then, need-moves}
use Rattle.drafting.proofs.Turning.{moves-within}

-- The choosing part, of the boards q: up to the last hearing, and whole.
unfoldable pub heard : Members → Draft Entry → Draft Entry
heard q m = turns 8 q (hears entries) (put_unless entries 12 (bare 10) m)

chosen : Members → Draft Entry → Draft Entry
chosen q m = put entries (of 15 (highest (heard q m).state.controller q)) (heard q m)

module _ (s : Sketch) (q : ℕ) where
  abbrev members : Members
  members = bits s.row.registry.view.members

  module _ (eq : bits q ≡ first_of (quorum (size members)) members) where
    chosen-is : (m : Draft Entry) → Stands m s → chosen (bits q) m ≡ choosing_part entries m
    unfolding choosing_part chosen heard informs_controller
    chosen-is m j =
        ap (λ g. chosen g m)
        (eq ∙ ap (λ (t : RowState). first_of (quorum (size t.registry.view.members)) t.registry.view.members)
        j.plays.state)

    pub choosing-moves : {t u : Sketch} → Moves 17 (heard (bits q)) s t → (b : ℕ)
        → b ≡ highest (controller_of t.row.controller) (bits q) → Moves 1 (put entries (of 15 b)) t u
        → Moves 18 (choosing_part entries) s u
    unfolding chosen
    choosing-moves h b e k =
        let named : (m : Draft Entry) → Stands m s → b ≡ highest (heard (bits q) m).state.controller (bits q) =
        λ m j. e ∙ ap (λ (w : RowState). highest w.controller (bits q)) (h.stands m j).plays.state in
        moves-as (λ m j. ap (λ i. put entries (of 15 i) (heard (bits q) m)) (named m j) ∙ chosen-is m j)
        (moves-then h k)

-- The waiting part, for the leader l, the members m and the boards q: up to the leader's reading, and whole.
unfoldable pub prepared : ℕ → Members → Draft Entry → Draft Entry
prepared l m w = reads_leader entries (informs entries l l (put_unless entries 12 (bare 10) (need entries (m l) w)))

unfoldable pub waited : ℕ → Members → Members → Draft Entry → Draft Entry
unfolding prepared
waited l m q w = put entries (bare 13) (turns 8 q (follows entries l) (prepared l m w))

-- A test of a draft before a piece.
pub need-first : {k : ℕ} {f : Draft Entry → Draft Entry} {t u : Sketch} (b : Bool) (s : Sketch) → Moves k f t u
    → abs t.row (places_in t.places) ≡ abs s.row (places_in s.places) → t.orders ≡ s.orders → SameLent s.places t.places
    → t.sound ≡ s.sound && b → Moves k (λ m. f (need entries b m)) s u
need-first {k} b s h w o l e =
    moves-within k (omega arith) (moves-then (need-moves (λ _. b) (moves-none 0 s) w o l (λ m j. e)) h)

pub waiting-moves : (s : Sketch) (q : ℕ)
    → bits q ≡ first_of (quorum (size (members s q)) - 1) (upd (members s q) s.row.registry.view.leader false)
    → {t : Sketch} → Moves 36 (waited s.row.registry.view.leader (members s q) (bits q)) s t
    → Moves 36 (waiting_part entries) s t
unfolding waiting_part waited prepared informs_controller
waiting-moves s q eq h =
    moves-as (λ w j. ap (λ r. waited s.row.registry.view.leader (members s q) r w) eq
    ∙ ap (λ (t : RowState).
    let k = t.registry.view.leader in
    let m = t.registry.view.members in
    waited k m (first_of (quorum (size m) - 1) (upd m k false)) w) j.plays.state) h

-- The whole

-- The part that a status asks for.
pub draft-normal : {s : Sketch} (g : Status) → g ≡ normal → Moves 54 (draft entries g) s s
unfolding draft
draft-normal {s} g e = subst (λ h. Moves 54 (draft entries h) s s) (sym e) (moves-none 54 s)

module _ {s t : Sketch} where
  pub draft-waiting : (g : Status) → g ≡ waiting → Moves 36 (waiting_part entries) s t → Moves 54 (draft entries g) s t
  unfolding draft
  draft-waiting g e h = subst (λ i. Moves 54 (draft entries i) s t) (sym e) (moves-within 54 (omega arith) h)

  pub draft-choosing : (g : Status) → g ≡ Status.choosing
      → Moves 54 (λ m. waiting_part entries (choosing_part entries m)) s t → Moves 54 (draft entries g) s t
  unfolding draft
  draft-choosing g e h = subst (λ i. Moves 54 (draft entries i) s t) (sym e) h

-- Nothing is noted yet, and no error was met: the draft that begins.
pub start-stands : (s : Sketch) → noted s.orders ≡ [] → s.sound ≡ true
    → Stands (start (abs s.row (places_in s.places))) s
start-stands s none sound = record { plays = record { state = refl; sound = sound }; records = none }

module _ (w : RowState) where
  drafted : Draft Entry
  drafted = draft entries w.registry.status (start w)

  -- What stands for the draft of a state is its list, and so it is given out.
  pub gives-plan : (s : Sketch) → Stands (draft entries w.registry.status (start w)) s
      → {out out' : Text} {x : Planned} → Gives (delivered s.sound (noted s.orders)) out x out'
      → Gives (plan entries w) out x out'
  unfolding plan
  gives-plan s j {out} {out'} {x} g =
      subst (λ q. Gives q out x out') (ap₂ delivered j.plays.sound j.records) g

  -- Where its draft has error 20, so has the state.
  pub gives-error : {e : Refusal} → (e ≡ NoPlan) × ((draft entries w.registry.status (start w)).sound ≡ false)
      → {y : Result ℕ Refusal} → y ≡ Err e → {out : Text} → Gives (plan entries w) out (planned y) out
  unfolding plan drafted
  gives-error h {y} i {out} =
      let none : delivered drafted.sound drafted.records ≡ error = ap (λ t. delivered t drafted.records) h.1 in
      subst (λ z. Gives (plan entries w) out (planned z) out) (sym (i ∙ ap Err h.0))
      (subst (λ q. Gives q out (planned (Err NoPlan)) out) (sym none)
      (record { answer = refl; count = refl; left = refl }))

-- So is given out what was made of the draft that begins, as a list of the orders.
pub gives-drafted : {s t : Sketch} → noted s.orders ≡ [] → s.sound ≡ true
    → Moves 54 (draft entries (abs s.row (places_in s.places)).registry.status) s t
    → (os : List Order) → all_of os ≡ noted t.orders → {out out' : Text} {x : Planned}
    → Gives (delivered t.sound (all_of os)) out x out'
    → Gives (plan entries (abs s.row (places_in s.places))) out x out'
gives-drafted {s} {t} none sound h os e {out} {out'} {x} g =
    gives-plan (abs s.row (places_in s.places)) t (h.stands _ (start-stands s none sound))
    (subst (λ rs. Gives (delivered t.sound rs) out x out') e g)
