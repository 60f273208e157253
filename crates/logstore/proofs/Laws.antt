-- What a write in the store does to the logs, and when a number is the length of what two logs share. Assumes nothing.
use mathlib.Core.Bool.{Bool, true, false, cond, ◌&&◌}
use mathlib.Core.List.{List, [], ◌∷◌, ◌++◌, map}
use mathlib.Core.Logic.{◌⊎◌, inl, inr, ◌≢◌}
use mathlib.Core.Path.{◌≡◌, refl, sym, ap, ◌∙◌}
use Prim.Native.Nat.{ℕ, zero, suc, ◌+◌, ◌-◌, ◌*◌, ◌<◌, ◌≤◌, min}
use native.Mathlib.Numerals.{add-one}
use native.Mathlib.Nat.{mul_comm}
use native.Mathlib.Omega.{arith}
use lib.Dec.{eqb, ltb}
use lib.ListN.{length, get_or, take, drop, set, length-take, length-drop, drop_of_length-le}
use lib.Seq.{length-take-le, take-take, get_or-take, get_or-drop, take-suc-set, take-set-le, drop-set-add, drop-set-lt, drop-cons}
use borrow.Author.Tests.{ltb-true, ltb-false}
use borrow.Rule.Slice.PartMut.{mid_of, put_mid, set_mid_at, mid_len}
use Rattle.model.specs.State.{Entry, entry, same_entry}
use Rattle.model.proofs.Tests.{le-or-lt}
use Rattle.model.specs.Steps.{shared}
use Rattle.logstore.specs.Log.{pairs, place, log_of}

-- A part at a slice's start begins where the slice does: a block, and an offset in bytes; a number has w bytes.
pub from_start : (w : ℕ) (p : ℕ × ℕ) → ◌≡◌ {A = ℕ × ℕ} (p.0, 0 * w + p.1) p
from_start w p = let o : 0 * w + p.1 ≡ p.1 = omega arith in ap (λ i. (p.0, i)) o

-- One from place n on begins n numbers further.
pub from_place : (w : ℕ) (p : ℕ × ℕ) (n : ℕ) → ◌≡◌ {A = ℕ × ℕ} (p.0, n * w + p.1) (p.0, p.1 + w * (n + 0))
from_place w p n = let o : n * w + p.1 ≡ p.1 + w * (n + 0) = omega (arith, mul_comm n w) in ap (λ i. (p.0, i)) o

-- Entries

-- There are as many entries as values, if there are as many terms.
pub pairs-length : (vs ts : List ℕ) → length vs ≡ length ts → length (pairs vs ts) ≡ length vs
pairs-length [] ts e = refl
pairs-length (v ∷ vs) [] e = absurd (omega (arith, e))
pairs-length (v ∷ vs) (t ∷ ts) e = ap suc (pairs-length vs ts (omega (arith, e)))

-- The entry at a place is of the value and the term there.
pub pairs-at : (vs ts : List ℕ) (i : ℕ) → length vs ≡ length ts
    → get_or (pairs vs ts) i (entry 0 0) ≡ entry (get_or vs i 0) (get_or ts i 0)
pairs-at [] [] i e = refl
pairs-at [] (t ∷ ts) i e = absurd (omega (arith, e))
pairs-at (v ∷ vs) [] i e = absurd (omega (arith, e))
pairs-at (v ∷ vs) (t ∷ ts) zero e = refl
pairs-at (v ∷ vs) (t ∷ ts) (suc i) e = pairs-at vs ts i (omega (arith, e))

-- So two entries are the same by both.
pub same_at : (vs ts : List ℕ) (i j : ℕ) → length vs ≡ length ts
    → same_entry (get_or (pairs vs ts) i (entry 0 0)) (get_or (pairs vs ts) j (entry 0 0))
    ≡ (eqb (get_or vs i 0) (get_or vs j 0) && eqb (get_or ts i 0) (get_or ts j 0))
same_at vs ts i j e = rw (pairs-at vs ts i e, pairs-at vs ts j e)

-- A write of both at one place is a write of the entry.
pub pairs_set : (vs ts : List ℕ) (i v t : ℕ) → pairs (set vs i v) (set ts i t) ≡ set (pairs vs ts) i (entry v t)
pairs_set [] ts i v t = refl
pairs_set (u ∷ vs) [] i v t = go i
  where
    go : (i : ℕ) → pairs (set (u ∷ vs) i v) [] ≡ []
    go zero = refl
    go (suc i) = refl
pairs_set (u ∷ vs) (s ∷ ts) zero v t = refl
pairs_set (u ∷ vs) (s ∷ ts) (suc i) v t = ap (λ xs. entry u s ∷ xs) (pairs_set vs ts i v t)

-- The first n entries are of the first n of both, and those past n of those past n.
pub pairs-take : (n : ℕ) (vs ts : List ℕ) → take n (pairs vs ts) ≡ pairs (take n vs) (take n ts)
pairs-take zero vs ts = refl
pairs-take (suc n) [] ts = refl
pairs-take (suc n) (v ∷ vs) [] = refl
pairs-take (suc n) (v ∷ vs) (t ∷ ts) = ap (λ xs. entry v t ∷ xs) (pairs-take n vs ts)

pub pairs-drop : (n : ℕ) (vs ts : List ℕ) → drop n (pairs vs ts) ≡ pairs (drop n vs) (drop n ts)
pairs-drop zero vs ts = refl
pairs-drop (suc n) [] ts = refl
pairs-drop (suc n) (v ∷ vs) [] = go (drop n vs)
  where
    go : (xs : List ℕ) → [] ≡ pairs xs []
    go [] = refl
    go (x ∷ xs) = refl
pairs-drop (suc n) (v ∷ vs) (t ∷ ts) = pairs-drop n vs ts

-- The values of entries are the first list, their terms the second.
pairs-values : (vs ts : List ℕ) → length vs ≡ length ts → map (λ x. x.value) (pairs vs ts) ≡ vs
pairs-values [] ts e = refl
pairs-values (v ∷ vs) [] e = absurd (omega (arith, e))
pairs-values (v ∷ vs) (t ∷ ts) e = ap (λ xs. v ∷ xs) (pairs-values vs ts (omega (arith, e)))

pairs-terms : (vs ts : List ℕ) → length vs ≡ length ts → map (λ x. x.term) (pairs vs ts) ≡ ts
pairs-terms [] [] e = refl
pairs-terms [] (t ∷ ts) e = absurd (omega (arith, e))
pairs-terms (v ∷ vs) [] e = absurd (omega (arith, e))
pairs-terms (v ∷ vs) (t ∷ ts) e = ap (λ xs. t ∷ xs) (pairs-terms vs ts (omega (arith, e)))

-- So it is for a beginning, and for a log.
module _ (vs ts : List ℕ) (n : ℕ) (e : length vs ≡ length ts) where
  taken : length (take n vs) ≡ length (take n ts)
  taken = length-take n vs ∙ ap (min n) e ∙ sym (length-take n ts)

  pub take-values : map (λ x. x.value) (take n (pairs vs ts)) ≡ take n vs
  take-values = ap (map (λ x. x.value)) (pairs-take n vs ts) ∙ pairs-values (take n vs) (take n ts) taken

  pub take-terms : map (λ x. x.term) (take n (pairs vs ts)) ≡ take n ts
  take-terms = ap (map (λ x. x.term)) (pairs-take n vs ts) ∙ pairs-terms (take n vs) (take n ts) taken

module _ (vs ts : List ℕ) (b n : ℕ) (e : length vs ≡ length ts) where
  dropped : length (drop (512 * (b - 1)) vs) ≡ length (drop (512 * (b - 1)) ts)
  dropped = length-drop (512 * (b - 1)) vs ∙ ap (λ m. m - 512 * (b - 1)) e ∙ sym (length-drop (512 * (b - 1)) ts)

  pub log-values : map (λ x. x.value) (log_of (pairs vs ts) b n) ≡ log_of vs b n
  log-values =
      ap (λ xs. map (λ x. x.value) (take n xs)) (pairs-drop (512 * (b - 1)) vs ts)
      ∙ take-values (drop (512 * (b - 1)) vs) (drop (512 * (b - 1)) ts) n dropped

  pub log-terms : map (λ x. x.term) (log_of (pairs vs ts) b n) ≡ log_of ts b n
  log-terms =
      ap (λ xs. map (λ x. x.term) (take n xs)) (pairs-drop (512 * (b - 1)) vs ts)
      ∙ take-terms (drop (512 * (b - 1)) vs) (drop (512 * (b - 1)) ts) n dropped

-- Writes

-- A replica's part, written at n and put back, is the store written at n's place.
pub part_set :
    (s part : List ℕ) (a n v : ℕ) → a + 512 ≤ length s → n < 512 → part ≡ set (mid_of a (a + 512 - a) s) n v
    → put_mid a (a + 512 - a) s part ≡ set s (a + n) v
part_set s part a n v h k e = rw e (set_mid_at a (a + 512 - a) n s v (rw (mid_len a (a + 512) s h) (omega arith)))

-- A list of n entries, as the committed one, that gets v has v at its end.
pub list-gains : {A : Type 0} (s : List A) (n : ℕ) (v : A) → n < length s
    → take (n + 1) (set s n v) ≡ take n s ++ (v ∷ [])
list-gains s n v h = rw (add-one n, take-suc-set s n v h)

-- Logs

-- The entry at a place of a log.
pub log-entry : {A : Type 0} (d : A) (s : List A) (b n k : ℕ) → k < n → get_or (log_of s b n) k d ≡ get_or s (place b k) d
log-entry d s b n k h = rw (get_or-take n (drop (512 * (b - 1)) s) k d h, get_or-drop)

-- A log cut to k entries.
pub log-cut : {A : Type 0} (s : List A) (b n k : ℕ) → k ≤ n → take k (log_of s b n) ≡ log_of s b k
log-cut s b n k h = take-take k n (drop (512 * (b - 1)) s) h

-- A write in b's part leaves every other replica's log as it was.
module _ {A : Type 0} (s : List A) (b c n k : ℕ) (v : A) (hb : 1 ≤ b) (hc : 1 ≤ c) (apart : c ≢ b) (hn : n < 512)
    (hk : k ≤ 512) where
  pub log-other : log_of (set s (place b n) v) c k ≡ log_of s c k
  log-other = go (ltb c b) refl
    where
      go : (t : Bool) → ltb c b ≡ t → log_of (set s (place b n) v) c k ≡ log_of s c k
      go true e =
          let l = ltb-true c b e in
          let a = 512 * (c - 1) in
          let i = place b n - a in
          let q : place b n ≡ a + i = omega arith in
          rw (q, drop-set-add a s i v, take-set-le k (drop a s) i v (omega arith))
      go false e =
          let l = ltb-false c b e in
          rw (drop-set-lt (512 * (c - 1)) s (place b n) v (omega arith))

-- What two logs share, by a test of entries
module _ {A : Type 0} (same : A → A → Bool) where
  kept :
      (x : A) (xs zs : List A) (t : Bool) → zs ≡ take (length zs) xs
      → cond t (x ∷ zs) [] ≡ take (length (cond t (x ∷ zs) [])) (x ∷ xs)
  kept x xs zs true e = ap (λ l. x ∷ l) e
  kept x xs zs false e = refl

  -- It is a beginning of the first.
  pub shared-take : (xs ys : List A) → shared same xs ys ≡ take (length (shared same xs ys)) xs
  shared-take [] ys = refl
  shared-take (x ∷ xs) [] = refl
  shared-take (x ∷ xs) (y ∷ ys) = kept x xs (shared same xs ys) (same x y) (shared-take xs ys)

  -- It is no longer than the first.
  pub shared-length : (xs ys : List A) → length (shared same xs ys) ≤ length xs
  shared-length xs ys =
      let e = ap length (shared-take xs ys) ∙ length-take (length (shared same xs ys)) xs in
      omega (arith, e)

  -- How many entries they share from i on.
  abbrev pub shared_from : List A → List A → ℕ → ℕ
  shared_from xs ys i = length (shared same (drop i xs) (drop i ys))

  counted : (x : A) (zs : List A) (t : Bool) → length (cond t (x ∷ zs) []) ≡ cond t (suc (length zs)) 0
  counted x zs true = refl
  counted x zs false = refl

  shared-nil : (xs : List A) → shared same xs [] ≡ []
  shared-nil [] = refl
  shared-nil (x ∷ xs) = refl

  -- None where one of them ends.
  module _ (xs ys : List A) (i : ℕ) where
    pub shared-first : length xs ≤ i → shared_from xs ys i ≡ 0
    shared-first h = rw (drop_of_length-le xs h)

    pub shared_second : length ys ≤ i → shared_from xs ys i ≡ 0
    shared_second h = rw (drop_of_length-le ys h, shared-nil (drop i xs))

  -- One more where the entries at i are the same, none where they differ.
  pub shared-next : (d : A) (xs ys : List A) (i : ℕ) → i < length xs → i < length ys
      → shared_from xs ys i ≡ cond (same (get_or xs i d) (get_or ys i d)) (suc (shared_from xs ys (i + 1))) 0
  shared-next d xs ys i h k =
      rw (add-one i, drop-cons xs i d h, drop-cons ys i d k)
      (counted (get_or xs i d) _ (same (get_or xs i d) (get_or ys i d)))

-- The log of a replica b in a whole store
module _ {A : Type 0} (s : List A) (full : length s ≡ 4096) (b : ℕ) (low : 1 ≤ b) (high : b ≤ 8) (n : ℕ) where
  pub log-length : n ≤ 512 → length (log_of s b n) ≡ n
  log-length h = length-take-le n (drop (512 * (b - 1)) s) (rw length-drop (omega arith))

  -- The log that gets v has v at its end.
  pub log-gains : (v : A) → n < 512 → log_of (set s (place b n) v) b (n + 1) ≡ log_of s b n ++ (v ∷ [])
  log-gains v h =
      let l : n < length (drop (512 * (b - 1)) s) = rw length-drop (omega arith) in
      rw (drop-set-add (512 * (b - 1)) s n v) (list-gains (drop (512 * (b - 1)) s) n v l)

  -- The log cut to what it shares with another.
  pub log-joins : (same : A → A → Bool) (ys : List A) → n ≤ 512
      → log_of s b (length (shared same (log_of s b n) ys)) ≡ shared same (log_of s b n) ys
  log-joins same ys h =
      let k : length (shared same (log_of s b n) ys) ≤ n =
      omega (arith, shared-length same (log_of s b n) ys, log-length h) in
      sym (shared-take same (log_of s b n) ys ∙ log-cut s b n (length (shared same (log_of s b n) ys)) k)

-- What the logs of two replicas share from i on: one more where the entries at i are the same, none where they differ,
-- or where one of them ends.
module _ (vs ts : List ℕ) (a m b n i : ℕ) (values : length vs ≡ 4096) (terms : length ts ≡ 4096)
    (low : 1 ≤ a) (high : a ≤ 8) (short : m ≤ 512) (low' : 1 ≤ b) (high' : b ≤ 8) (short' : n ≤ 512) where
  abbrev entries : List Entry
  entries = pairs vs ts

  full : length entries ≡ 4096
  full = pairs-length vs ts (values ∙ sym terms) ∙ values

  long : length (log_of entries a m) ≡ m
  long = log-length entries full a low high m short

  long' : length (log_of entries b n) ≡ n
  long' = log-length entries full b low' high' n short'

  abbrev pub logs_share : ℕ → ℕ
  logs_share = shared_from same_entry (log_of entries a m) (log_of entries b n)

  pub shared_on : i < m → i < n → {t : Bool}
      → t ≡ same_entry (get_or entries (place a i) (entry 0 0)) (get_or entries (place b i) (entry 0 0))
      → logs_share i ≡ cond t (suc (logs_share (i + 1))) 0
  shared_on h k e =
      shared-next same_entry (entry 0 0) (log_of entries a m) (log_of entries b n) i (rw long h) (rw long' k)
      ∙ rw (log-entry (entry 0 0) entries a m i h, log-entry (entry 0 0) entries b n i k, e)

  pub shared_ends : min m n ≤ i → logs_share i ≡ 0
  shared_ends h = go (le-or-lt m i)
    where
      go : (m ≤ i) ⊎ (i < m) → logs_share i ≡ 0
      go (inl k) = shared-first same_entry (log_of entries a m) (log_of entries b n) i (rw long k)
      go (inr k) = shared_second same_entry (log_of entries a m) (log_of entries b n) i (rw long' (omega arith))
