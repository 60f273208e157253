-- Pieces of a list on a row: a record more, one left out, one piece after the other. Assumes nothing.
use mathlib.Core.Bool.{Bool, true, false, cond, ◌&&◌, true≢false}
use mathlib.Core.List.{[], ◌∷◌, ◌++◌, append-nil, append_assoc}
use mathlib.Core.Logic.{◌≢◌}
use mathlib.Core.Path.{◌≡◌, refl, sym, subst, ap, ap₂, ◌∙◌}
use Prim.Native.Nat.{ℕ, zero, suc, ◌+◌, ◌-◌, ◌≤◌}
use native.Mathlib.Numerals.{add-one}
use native.Mathlib.Omega.{arith}
use lib.ListN.{length, replicate}
use lib.Dec.{eqb, eqb-suc-suc}
use borrow.Author.Tests.{eq-eqb, ne_eqb}
use denote.Enum.Bare.{sameb, same_true}
use denote.Enum.Declared.{tag_of}
use Rattle.std.specs.Prelude.{Result, Ok, Err, is_ok}
use Rattle.refusal.specs.declared.Refusal.{Refusal}
use Rattle.refusal.specs.declared.Refusal.TheVariants.{Invalid, Sheet, Room, Status, Membership, Leader, EpochsUsedUp, NotLeader, FollowsNone, TermsDiffer, Joining, NothingDue, LogFull, NoMajority, EpochsDiffer, ImageLength, ImageNumber, ImageLinks, NoPlan}
use Rattle.refusal.specs.contracts.Refusal.{the_type}
use Rattle.refusal.specs.Refusal.{number, answer}
use Rattle.model.specs.State.{Entry, entries, RowState, Outline, outline}
use Rattle.model.specs.Steps.{Step, accepted, answer_of, step}
use Rattle.model.specs.Records.{Record, bare, of, step_of}
use Rattle.model.proofs.Answer.{zero-accepted, nonzero-refused}
use Rattle.cluster.specs.declared.Stage.{Stage}
use Rattle.cluster.specs.contracts.Stage as Stages
use Rattle.cluster.specs.Layout.{at, no_view, stage_of}
use Rattle.refinement.specs.Refinement.{logged, abs}
use Rattle.refinement.proofs.Turning.{log-len, logged-full}
use Rattle.refinement.specs.declared.LentMut.{LentMut}
use Rattle.refinement.specs.Lent.{places_in, SameLent}
use Rattle.recovery.specs.Plan.{in_boards, times, put, put_unless, need, receives, informs, reads_leader}
use Rattle.recovery.specs.Plan as P
use Rattle.orders.specs.declared.Orders.{Orders}
use Rattle.orders.specs.Noted.{noted, SameList}
use Rattle.pieces.specs.declared.Sketch.{Sketch}
use Rattle.pieces.specs.Pieces.{Tried, Plays, Stands, Moves}

-- Refusals

number-tag : (e : Refusal) → number e ≡ suc (tag_of the_type e)
number-tag Invalid = refl
number-tag Sheet = refl
number-tag Room = refl
number-tag Status = refl
number-tag Membership = refl
number-tag Leader = refl
number-tag EpochsUsedUp = refl
number-tag NotLeader = refl
number-tag FollowsNone = refl
number-tag TermsDiffer = refl
number-tag Joining = refl
number-tag NothingDue = refl
number-tag LogFull = refl
number-tag NoMajority = refl
number-tag Refusal.Stage = refl
number-tag EpochsDiffer = refl
number-tag ImageLength = refl
number-tag ImageNumber = refl
number-tag ImageLinks = refl
number-tag NoPlan = refl

-- Two are the same just where their numbers are. (Cited by guiding.)
pub number_same : (e d : Refusal) → eqb (number e) (number d) ≡ sameb the_type e d
number_same e d = rw (number-tag e, number-tag d) (eqb-suc-suc (tag_of the_type e) (tag_of the_type d))

pub number-injective : {e d : Refusal} → number e ≡ number d → e ≡ d
number-injective {e} {d} h = same_true the_type tt e d (sym (number_same e d) ∙ eq-eqb (number e) (number d) h)

-- What is accepted is no refusal.
accepted-ok : (x : Result ℕ Refusal) (m : Outline) (st : Step) → answer_of m st ≡ answer x → is_ok x ≡ accepted m st
accepted-ok (Ok n) m st h = sym (zero-accepted m st h)
accepted-ok (Err e) m st h = sym (nonzero-refused m st (λ z. omega (arith, number-tag e, h, z)))

-- What is no acceptance is not answered 0.
refused-some : (x : Result ℕ Refusal) → is_ok x ≡ false → answer x ≢ 0
refused-some (Ok n) e = absurd (true≢false e)
refused-some (Err d) e = λ z. omega (arith, number-tag d, z)

-- A record that was tried

module _ {r : Record} {s t : Sketch} {x : Result ℕ Refusal}
    (a : Tried r s x t) (m : P.Draft Entry) (k : Plays m s) where
  -- The model's answer.
  answer-of : answer_of (outline m.state) (step_of r) ≡ answer x
  answer-of = ap (λ (w : RowState). answer_of (outline w) (step_of r)) (sym k.state) ∙ sym a.answer

  -- It is a record more, accepted or not;
  pub plays-put : {u : Sketch} → abs u.row (places_in u.places) ≡ abs t.row (places_in t.places)
      → u.sound ≡ t.sound && is_ok x → Plays (put entries r m) u
  unfolding put
  plays-put w e = record {
    state = w ∙ a.state ∙ ap (λ (v : RowState). step entries v (step_of r)) k.state;
    sound = e ∙ ap₂ ◌&&◌ (a.sound ∙ k.sound) (accepted-ok x (outline m.state) (step_of r) answer-of);
  }

  -- refused, it leaves everything.
  plays-left : answer x ≢ 0 → Plays m t
  plays-left n = record {
    state = ap₂ abs (a.refused n).0 (a.refused n).1 ∙ k.state;
    sound = a.sound ∙ k.sound;
  }

  pub plays-refused : is_ok x ≡ false → Plays m t
  plays-refused e = plays-left (refused-some x e)

-- The places and the list that were lent

pub same-lent : (p : LentMut) → SameLent p p
same-lent p = record { store = refl; store2 = refl; list = refl; list2 = refl }

pub same-still : {p q r : LentMut} → SameLent p q → SameLent q r → SameLent p r
same-still h k = record {
  store = k.store ∙ h.store;
  store2 = k.store2 ∙ h.store2;
  list = k.list ∙ h.list;
  list2 = k.list2 ∙ h.list2;
}

list-same : {o p : Orders} → p ≡ o → SameList o p
list-same e = record { list = ap (λ q. q.list.ghost_name) e; room = ap (λ q. length q.list.now) e }

list-still : {o p q : Orders} → SameList o p → SameList p q → SameList o q
list-still h k = record { list = k.list ∙ h.list; room = k.room ∙ h.room }

-- Pieces

-- A piece that adds nothing.
pub moves-none : (k : ℕ) (s : Sketch) → Moves k (λ m. m) s s
moves-none k s =
    record { few = omega arith; stands = λ m j. j; same = same-lent s.places; list = list-same refl }

-- A piece by another name.
pub moves-as : {k : ℕ} {f g : P.Draft Entry → P.Draft Entry} {s t : Sketch}
    → ((m : P.Draft Entry) → Stands m s → f m ≡ g m) → Moves k f s t → Moves k g s t
moves-as {t = t} e h = record {
  few = h.few;
  stands = λ m j. subst (λ n. Stands n t) (e m j) (h.stands m j);
  same = h.same;
  list = h.list;
}

-- One piece after the other.
pub moves-then : {a b : ℕ} {f g : P.Draft Entry → P.Draft Entry} {s t u : Sketch} → Moves a f s t → Moves b g t u
    → Moves (a + b) (λ m. g (f m)) s u
moves-then {f = f} h k = record {
  few = omega (arith, h.few, k.few);
  stands = λ m j. k.stands (f m) (h.stands m j);
  same = same-still h.same k.same;
  list = list-still h.list k.list;
}

-- A test of a draft more, which adds nothing.
pub need-moves : {k : ℕ} {f : P.Draft Entry → P.Draft Entry} {s t u : Sketch} (b : P.Draft Entry → Bool) → Moves k f s t
    → abs u.row (places_in u.places) ≡ abs t.row (places_in t.places) → u.orders ≡ t.orders → SameLent t.places u.places
    → ((m : P.Draft Entry) → Stands (f m) t → u.sound ≡ t.sound && b (f m))
    → Moves k (λ m. need entries (b (f m)) (f m)) s u
unfolding need
need-moves {f = f} b h w o l e = record {
  few = omega (arith, h.few, ap (λ q. q.count) o);
  stands = λ m j.
      let z = h.stands m j in
      record {
        plays = record {
          state = w ∙ z.plays.state;
          sound = e m z ∙ ap (λ v. v && b (f m)) z.plays.sound;
        };
        records = ap noted o ∙ z.records;
      };
  same = same-still h.same l;
  list = list-still h.list (list-same o);
}

-- A record more

module _ {r : Record} {s t : Sketch} {x : Result ℕ Refusal} (a : Tried r s x t) where
  -- It was noted.
  pub put-moves : (u : Sketch) → abs u.row (places_in u.places) ≡ abs t.row (places_in t.places)
      → SameLent t.places u.places → noted u.orders ≡ noted t.orders ++ (r ∷ [])
      → u.orders.count ≡ suc t.orders.count → SameList t.orders u.orders → u.sound ≡ t.sound && is_ok x → Moves 1 (put entries r) s u
  unfolding put
  put-moves u w places n c list e = record {
    few = omega (arith, c, ap (λ o. o.count) a.orders);
    stands = λ m j.
        let k = plays-put a m j.plays {u = u} w e in
        record {
          plays = record { state = k.state; sound = k.sound };
          records = n ∙ ap (λ rs. rs ++ (r ∷ [])) (ap noted a.orders ∙ j.records);
        };
    same = same-still a.same places;
    list = list-still (list-same a.orders) list;
  }

  -- A record with another answer than n is not left out.
  pub kept-moves : (n : ℕ) → answer x ≢ n → {u : Sketch} → Moves 1 (put entries r) s u
      → Moves 1 (put_unless entries n r) s u
  unfolding put_unless
  kept-moves n ne h = moves-as (λ m j. ap (λ b. cond b m (put entries r m)) (sym
      (ap (λ k. eqb k n) (answer-of a m j.plays) ∙ ne_eqb (answer x) n ne))) h

  -- A record with the answer n, a refusal, is left out.
  pub left-moves : (n : ℕ) → 1 ≤ n → answer x ≡ n → Moves 1 (put_unless entries n r) s t
  unfolding put_unless
  left-moves n some e = moves-as (λ m j. ap (λ b. cond b m (put entries r m)) (sym
      (ap (λ k. eqb k n) (answer-of a m j.plays) ∙ eq-eqb (answer x) n e))) (record {
        few = omega (arith, ap (λ o. o.count) a.orders);
        stands = λ m j. record {
          plays = plays-left a m j.plays (λ z. absurd (omega (arith, some, e, z)));
          records = ap noted a.orders ∙ j.records;
        };
        same = a.same;
        list = list-same a.orders;
      })

-- News, and who leads in the view after it.
pub informs-moves : (l b : ℕ) {s t u : Sketch} → Moves 1 (put_unless entries 12 (of 6 b)) s t
    → abs u.row (places_in u.places) ≡ abs t.row (places_in t.places) → u.orders ≡ t.orders → SameLent t.places u.places
    → (k : ℕ) → k ≡ (at no_view t.row.views b).leader → u.sound ≡ t.sound && eqb k l → Moves 1 (informs entries l b) s u
unfolding informs
informs-moves l b {t = t} h w o p k q e =
    need-moves (λ m. eqb (m.state.view b).leader l) h w o p
    (λ m z. e ∙ ap (λ n. t.sound && eqb n l) (q ∙ ap (λ (v : RowState). (v.view b).leader) z.plays.state))

-- The leader's reading, left out in stage boards.

boards-told : (g : Stage) → sameb Stages.the_type g Stage.Boards ≡ in_boards (stage_of g)
boards-told Stage.Idle = refl
boards-told Stage.Leader = refl
boards-told Stage.Boards = refl
boards-told Stage.Choosing = refl

module _ (s : Sketch) {b : Bool} (e : b ≡ sameb Stages.the_type s.row.controller.stage Stage.Boards) where
  read_is : (m : P.Draft Entry) → Stands m s
      → cond b m (put entries (bare 11) m) ≡ cond (in_boards m.state.controller.stage) m (put entries (bare 11) m)
  read_is m j =
      ap (λ t. cond t m (put entries (bare 11) m))
      (e ∙ boards-told s.row.controller.stage ∙ ap (λ (t : RowState). in_boards t.controller.stage) j.plays.state)

  pub reads-none : b ≡ true → Moves 1 (reads_leader entries) s s
  unfolding reads_leader
  reads-none q = moves-as (λ m j. rw q at (read_is m j)) (moves-none 1 s)

  pub reads-put : b ≡ false → {t : Sketch} → Moves 1 (put entries (bare 11)) s t → Moves 1 (reads_leader entries) s t
  unfolding reads_leader
  reads-put q h = moves-as (λ m j. rw q at (read_is m j)) h

-- The same n times

pub times_none : {A : Type 0} (f : A → A) (d : A) → times 0 f d ≡ d
unfolding times
times_none f d = refl

-- Once more, at the end.
times-again : {A : Type 0} (n : ℕ) (f : A → A) (d : A) → times (suc n) f d ≡ f (times n f d)
unfolding times
times-again zero f d = refl
times-again (suc n) f d = times-again n f (f d)

pub times_more : {A : Type 0} (n : ℕ) (f : A → A) (d : A) → times (n + 1) f d ≡ f (times n f d)
times_more n f d = rw (add-one n) (times-again n f d)

-- One more of the same is tried.
pub plays-more : {r : Record} {s t : Sketch} {x : Result ℕ Refusal} → Tried r s x t → (n : ℕ) (m : P.Draft Entry)
    → Plays (times n (put entries r) m) s → (u : Sketch)
    → abs u.row (places_in u.places) ≡ abs t.row (places_in t.places) → u.sound ≡ t.sound && is_ok x
    → Plays (times (n + 1) (put entries r) m) u
plays-more {r} a n m k u w e =
    subst (λ d. Plays d u) (sym (times_more n (put entries r) m))
    (plays-put a (times n (put entries r) m) k {u = u} w e)

-- The same record n times.
times-records : (n : ℕ) (r : Record) (m : P.Draft Entry)
    → (times n (put entries r) m).records ≡ m.records ++ replicate n r
unfolding times put
times-records zero r m = sym (append-nil m.records)
times-records (suc n) r m =
    times-records n r (put entries r m) ∙ append_assoc m.records (r ∷ []) (replicate n r)

-- As many receives as b lacks, one order.
pub receives-moves : (l b n : ℕ) (s t u : Sketch) → n ≡ at 0 s.row.len l - at 0 s.row.len b → t.orders ≡ s.orders
    → ((m : P.Draft Entry) → Plays m s → Plays (times n (put entries (of 8 b)) m) t) → SameLent s.places t.places
    → abs u.row (places_in u.places) ≡ abs t.row (places_in t.places) → SameLent t.places u.places → u.sound ≡ t.sound
    → noted u.orders ≡ noted t.orders ++ replicate n (of 8 b) → u.orders.count ≡ suc t.orders.count
    → SameList t.orders u.orders → Moves 1 (receives entries l b) s u
unfolding receives
receives-moves l b n s t u e o played same w left q v c list = record {
  few = omega (arith, c, ap (λ p. p.count) o);
  stands = λ m j.
      let len : (k : ℕ) → length ((abs s.row (places_in s.places)).log k) ≡ at 0 s.row.len k =
      log-len (logged (places_in s.places)) (logged-full (places_in s.places) s.fit.full) s.row.len s.fit.short in
      let lacks : n ≡ length (m.state.log l) - length (m.state.log b) =
      e ∙ ap₂ ◌-◌ (sym (len l)) (sym (len b))
      ∙ ap (λ (r : RowState). length (r.log l) - length (r.log b)) j.plays.state in
      let k = played m j.plays in
      subst (λ i. Stands (times i (put entries (of 8 b)) m) u) lacks record {
        plays = record { state = w ∙ k.state; sound = q ∙ k.sound };
        records = v ∙ ap (λ rs. rs ++ replicate n (of 8 b)) (ap noted o ∙ j.records) ∙ sym (times-records n (of 8 b) m);
      };
  same = same-still same left;
  list = list-still (list-same o) list;
}
