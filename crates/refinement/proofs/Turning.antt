-- A row in outline, and the state that it stands for with the lent places: from a refused and from an accepted step to
-- `Turns`; what a write does to the lengths, the logs and the counts. Assumes nothing.
use mathlib.Core.Bool.{true, false, not, cond, ◌&&◌}
use mathlib.Core.List.{List, [], ◌∷◌, ◌++◌}
use mathlib.Core.Logic.{◌⊎◌, inl, inr, ◌≢◌}
use mathlib.Core.Path.{◌≡◌, refl, sym, subst, ap, ◌∙◌, fun_ext}
use Prim.Native.Nat.{ℕ, zero, suc, ◌+◌, ◌-◌, ◌*◌, ◌≤◌, ◌<◌}
use native.Mathlib.Omega.{arith}
use lib.Dec.{T, eqb}
use lib.ListN.{length, take, get_or, set, length-set, get_or-eq_default}
use lib.Seq.{length-take-le, get_or-set_same, get_or-set_other}
use borrow.Author.Tests.{ne_eqb}
use Rattle.std.specs.Prelude.{Result, Ok, Err}
use Rattle.std.specs.Result.{IsErr}
use Rattle.refusal.specs.declared.Refusal.{Refusal}
use Rattle.refusal.specs.declared.Refusal.TheVariants.{Invalid, Sheet, Room, Status, Membership, Leader, EpochsUsedUp, NotLeader, FollowsNone, TermsDiffer, Joining, NothingDue, LogFull, NoMajority, Stage, EpochsDiffer, ImageLength, ImageNumber, ImageLinks, NoPlan}
use Rattle.refusal.specs.Refusal.{number, answer}
use Rattle.model.specs.Prelude.{upd}
use Rattle.model.specs.Members.{is_replica, none}
use Rattle.model.specs.State.{Entry, entry, outline, entries}
use Rattle.model.specs.Steps.{Step, accepted, answer_of, qualified, next}
use Rattle.model.proofs.Tests.{at-or, by-test, by_cond, ne-fact, eqb_same, upd_same, upd_other, le-or-lt, split-and, is_true, is_false}
use Rattle.model.proofs.Quorum.{replica-range}
use Rattle.model.proofs.Answer.{zero-accepted, nonzero-refused}
use Rattle.members.specs.Mask.{bits}
pub use Rattle.members.proofs.Laws.{bits_none}
use Rattle.logstore.specs.Log.{place, log_of}
use Rattle.logstore.proofs.Laws.{pairs-length, pairs-at, pairs_set, log-length, log-other, log-gains}
use Rattle.cluster.specs.declared.Cluster.{Cluster}
use Rattle.cluster.specs.Ended.{outcome, settled}
use Rattle.cluster.specs.Layout.{at, at_pair, outline_of}
use Rattle.cluster.proofs.Laws.{at-index, at_set}
use Rattle.refinement.specs.Refinement.{Places, logged, listed, put_log, put_list, store_at, Full, abs, Short, places_after, lent, Turns, Leaves, Governs, RestStays}

-- A refusal is no acceptance.
refused : (r : Refusal) → number r ≢ 0
refused r e = absurd (ne-fact (number r) 0 (go r) e)
  where
    go : (r : Refusal) → T (not (eqb (number r) 0))
    go Invalid = tt
    go Sheet = tt
    go Room = tt
    go Status = tt
    go Membership = tt
    go Leader = tt
    go EpochsUsedUp = tt
    go NotLeader = tt
    go FollowsNone = tt
    go TermsDiffer = tt
    go Joining = tt
    go NothingDue = tt
    go LogFull = tt
    go NoMajority = tt
    go Stage = tt
    go EpochsDiffer = tt
    go ImageLength = tt
    go ImageNumber = tt
    go ImageLinks = tt
    go NoPlan = tt

-- A list of eight by a number that is no replica.
pub at_none : {A : Type 0} (d : A) (xs : List A) (b : ℕ) → length xs ≡ 8 → 8 < b → at d xs b ≡ d
at_none d xs b e h = get_or-eq_default (d ∷ xs) d {n = b} (omega arith)

-- Places of their lengths hold as many entries, and what is written is an entry.
module _ (p : Places) (full : Full p) where
  store-pairs : length p.store ≡ length p.store2
  store-pairs = full.store ∙ sym full.store2

  list-pairs : length p.list ≡ length p.list2
  list-pairs = full.list ∙ sym full.list2

  pub logged-full : length (logged p) ≡ 4096
  logged-full = pairs-length p.store p.store2 store-pairs ∙ full.store

  pub listed-full : length (listed p) ≡ 512
  listed-full = pairs-length p.list p.list2 list-pairs ∙ full.list

  pub logged-at : (i : ℕ) → get_or (logged p) i (entry 0 0) ≡ store_at p i
  logged-at i = pairs-at p.store p.store2 i store-pairs

pub logged-put : (p : Places) (i : ℕ) (x : Entry) → logged (put_log p i x) ≡ set (logged p) i x
logged-put p i x = pairs_set p.store p.store2 i x.value x.term

pub listed-put : (p : Places) (i : ℕ) (x : Entry) → listed (put_list p i x) ≡ set (listed p) i x
listed-put p i x = pairs_set p.list p.list2 i x.value x.term

-- The lengths of the logs are the row's.
module _ (store : List Entry) (full : length store ≡ 4096) (len : List ℕ) (short : Short len) where
  pub log-len : (b : ℕ) → length (log_of store b (at 0 len b)) ≡ at 0 len b
  log-len zero = refl
  log-len (suc b) = go (le-or-lt (suc b) 8)
    where
      go : (suc b ≤ 8) ⊎ (8 < suc b) → length (log_of store (suc b) (at 0 len (suc b))) ≡ at 0 len (suc b)
      go (inl h) = log-length store full (suc b) (omega arith) h (at 0 len (suc b)) (short.most (suc b))
      go (inr h) = rw (at_none 0 len (suc b) short.eight h)

module _ (row : Cluster) (short : Short row.len) (few : row.issued ≤ 512) (p : Places) (full : Full p) where
  pub outline-abs : outline (abs row p) ≡ outline_of row
  outline-abs =
      let c : length (take row.issued (listed p)) ≡ row.issued =
      length-take-le row.issued (listed p) (omega (arith, listed-full p full)) in
      let l = fun_ext (log-len (logged p) (logged-full p full) row.len short) in
      λ i. record {
        registry = (outline_of row).registry;
        controller = (outline_of row).controller;
        view = (outline_of row).view;
        joined = (outline_of row).joined;
        acked = (outline_of row).acked;
        len = l i;
        issued = c i;
      }

  -- A refused step leaves everything.
  pub turns-refused : (st : Step) (n : ℕ) → n ≡ answer_of (outline_of row) st → n ≢ 0
      → Turns st row p (record { answer = n; behind = 0; row = row }) p
  turns-refused st n e h =
      let t = nonzero-refused (outline_of row) st (λ z. h (e ∙ z)) in
      let u : accepted (outline (abs row p)) st ≡ false = ap (λ m. accepted m st) outline-abs ∙ t in
      record {
        answer = e;
        behind = bits_none ∙ ap (λ x. cond x (qualified (outline_of row) st) none) (sym t);
        state = ap (λ x. cond x (next entries (abs row p) st) (abs row p)) (sym u);
        short = short;
        issued = few;
        places = ap (λ x. cond x (places_after st row p) p) (sym t);
        refused = λ _. refl;
      }

  -- An accepted one leaves what the model's does, if it writes what it is to write, and has those behind it that
  -- qualify.
  pub turns-accepted : (st : Step) (n q : ℕ) (row' : Cluster) (p' : Places) → n ≡ answer_of (outline_of row) st → n ≡ 0
      → bits q ≡ qualified (outline_of row) st
      → (accepted (outline_of row) st ≡ true → abs row' p' ≡ next entries (abs row p) st)
      → Short row'.len → row'.issued ≤ 512 → p' ≡ places_after st row p
      → Turns st row p (record { answer = 0; behind = q; row = row' }) p'
  turns-accepted st n q row' p' e z b f short' few' w =
      let t = zero-accepted (outline_of row) st (sym e ∙ z) in
      let u : accepted (outline (abs row p)) st ≡ true = ap (λ m. accepted m st) outline-abs ∙ t in
      record {
        answer = sym z ∙ e;
        behind = b ∙ ap (λ x. cond x (qualified (outline_of row) st) none) (sym t);
        state = f t ∙ ap (λ x. cond x (next entries (abs row p) st) (abs row p)) (sym u);
        short = short';
        issued = few';
        places = w ∙ ap (λ x. cond x (places_after st row p) p) (sym t);
        refused = λ h. absurd (h refl);
      }

-- So where a call's result is the step's refusal.
pub turned_away : {A : Type 0} (row : Cluster) (p : Places) (st : Step) (x : Result A Refusal) → IsErr x
    → answer x ≡ answer_of (outline_of row) st → Short row.len → row.issued ≤ 512 → Full p
    → Turns st row p (record { answer = answer x; behind = 0; row = row }) p
turned_away row p st (Ok y) e h short few full = absurd (cc)
turned_away row p st (Err r) e h short few full = turns-refused row short few p full st (number r) h (refused r)

-- The same of a call that hands back the set behind the step.
pub turned_away_set : (row : Cluster) (p : Places) (st : Step) (x : Result ℕ Refusal) → IsErr x
    → answer x ≡ answer_of (outline_of row) st → Short row.len → row.issued ≤ 512 → Full p
    → Turns st row p (outcome x row) p
turned_away_set row p st (Ok y) e h short few full = absurd (cc)
turned_away_set row p st (Err r) e h short few full = turned_away {A = ℕ} row p st (Err r) e h short few full

-- A step of the registry and the controller of a row whose rest stays is a step of the row.
pub governed : {st : Step} {row row' : Cluster} (x : Result ℕ Refusal) {p : Places}
    → Governs st row.registry row.controller row.views row.joined row.len (settled x row'.registry row'.controller)
    → RestStays row row' → row.issued ≤ 512 → Full p → Turns st row p (outcome x row') p
governed {st} {row} {row'} x {p} g rest few full =
    subst (λ y. Turns st row p (outcome x y) p) rest (g row.acked row.issued p few full)

-- A step that is told whatever the receipts and the lists are, of a row and lists that stay, is one of row and places.
pub told-of : {st : Step} {row row' : Cluster} {p p' : Places} (n q : ℕ)
    → Leaves st row p n q (record row' { issued = row.issued }) (lent p'.store p'.store2 p.list p.list2)
    → row'.issued ≡ row.issued → p'.list ≡ p.list → p'.list2 ≡ p.list2 → Leaves st row p n q row' p'
told-of {st} {row} {row'} {p} {p'} n q h a b c =
    subst (λ y. Leaves st row p n q y p') (λ i. record row' { issued = sym a i })
    (subst (λ y. Leaves st row p n q (record row' { issued = row.issued }) y)
    (λ i. lent p'.store p'.store2 (sym b i) (sym c i)) h)

-- What stands at a place, written there again.
pub set-idle : {A : Type 0} (d : A) (xs : List A) (i : ℕ) → set xs i (get_or xs i d) ≡ xs
set-idle d [] i = refl
set-idle d (x ∷ xs) zero = refl
set-idle d (x ∷ xs) (suc i) = ap (λ ys. x ∷ ys) (set-idle d xs i)

-- The length at the place of a replica.
pub short-at : (len : List ℕ) (k : ℕ) → Short len → 1 ≤ k → get_or len (k - 1) 0 ≤ 512
short-at len k short h = subst (λ m. m ≤ 512) (at-index 0 len k h) (short.most k)

-- The lengths after one of them becomes n.
module _ (len : List ℕ) (short : Short len) (k n : ℕ) (low : 1 ≤ k) (high : k ≤ 8) where
  pub len-set : (x : ℕ) → at 0 (set len (k - 1) n) x ≡ upd (at 0 len) k n x
  len-set x = ap (λ f. f x) (at_set 0 len k n low high short.eight)

  pub len_short : n ≤ 512 → Short (set len (k - 1) n)
  len_short h = record {
    eight = length-set len (k - 1) n ∙ short.eight;
    most = λ x. subst (λ m. m ≤ 512) (sym (len-set x)) (by_cond (λ m. m ≤ 512) (eqb x k) (λ _. h) (λ _. short.most x));
  }

  -- The log of k alone changes, if the others' places hold what they did.
  pub logs-set : (store store' : List Entry)
      → ((x : ℕ) → 1 ≤ x → x ≢ k → log_of store' x (at 0 len x) ≡ log_of store x (at 0 len x))
      → (λ x. log_of store' x (at 0 (set len (k - 1) n) x)) ≡ upd (λ x. log_of store x (at 0 len x)) k (log_of store' k n)
  logs-set store store' others = fun_ext (at-or k
      (rw (eqb_same k) (ap (log_of store' k) (len-set k ∙ upd_same (at 0 len) k n)))
      (λ x m. rw (ne_eqb x k m) (ap (log_of store' x) (len-set x ∙ upd_other (at 0 len) k n x m) ∙ other x m)))
    where
      other : (x : ℕ) → x ≢ k → log_of store' x (at 0 len x) ≡ log_of store x (at 0 len x)
      other zero m = refl
      other (suc x) m = others (suc x) (omega arith) m

-- A log of n entries that gets v at its end.
pub logs-grow : (len : List ℕ) (short : Short len) (store : List Entry) → length store ≡ 4096
    → (k : ℕ) (v : Entry) → 1 ≤ k → k ≤ 8 → at 0 len k < 512
    → (λ x. log_of (set store (place k (at 0 len k)) v) x (at 0 (set len (k - 1) (at 0 len k + 1)) x))
    ≡ upd (λ x. log_of store x (at 0 len x)) k (log_of store k (at 0 len k) ++ (v ∷ []))
logs-grow len short store full k v low high room =
    logs-set len short k (at 0 len k + 1) low high store (set store (place k (at 0 len k)) v)
    (λ x h m. log-other store k x (at 0 len k) (at 0 len x) v low h m room (short.most x))
    ∙ ap (upd (λ x. log_of store x (at 0 len x)) k) (log-gains store full k low high (at 0 len k) v room)

-- Counts, eight by eight in one list: a write is the model's update.
module _ (cs : List ℕ) (a b n : ℕ) (ra : T (is_replica a)) (rb : T (is_replica b)) (e : length cs ≡ 64) where
  abbrev pair : ℕ
  pair = 8 * (a - 1) + (b - 1)

  apart : (x y : ℕ) → (x ≡ a → y ≡ b → ⊥) → at_pair (set cs pair n) x y ≡ at_pair cs x y
  apart x y f = by-test (is_replica x && is_replica y)
      (λ t. let z = split-and (is_replica x) (is_replica y) t in
      rw (is_true (is_replica x && is_replica y) t) (get_or-set_other cs pair (8 * (x - 1) + (y - 1)) n 0 (λ q. f
      (omega (arith, q, replica-range a ra, replica-range b rb, replica-range x z.0, replica-range y z.1))
      (omega (arith, q, replica-range a ra, replica-range b rb, replica-range x z.0, replica-range y z.1)))))
      (λ t. rw (is_false (is_replica x && is_replica y) t))

  pub pair_set : at_pair (set cs pair n) ≡ upd (at_pair cs) a (upd (at_pair cs a) b n)
  pair_set =
      fun_ext (λ x. fun_ext (λ y. at-or
      {P = λ x. (y : ℕ) → at_pair (set cs pair n) x y ≡ upd (at_pair cs) a (upd (at_pair cs a) b n) x y} a
      (at-or b
      (rw (eqb_same a) (rw (eqb_same b)
      (rw (is_true (is_replica a) ra, is_true (is_replica b) rb)
      (get_or-set_same cs pair n 0 (omega (arith, replica-range a ra, replica-range b rb))))))
      (λ y m. rw (eqb_same a) (rw (ne_eqb y b m) (apart a y (λ _ q. m q)))))
      (λ x m y. rw (ne_eqb x a m) (apart x y (λ q _. m q))) x y))
