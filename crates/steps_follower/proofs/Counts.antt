-- The counts of a replica begun anew: the eight 0, then its own the length of its log. Assumes nothing.
use mathlib.Core.Bool.{◌&&◌}
use mathlib.Core.List.{List}
use mathlib.Core.Logic.{◌⊎◌, inl, inr, ◌≢◌}
use mathlib.Core.Path.{◌≡◌, refl, sym, ap, ◌∙◌, fun_ext}
use Prim.Native.Nat.{ℕ, ◌+◌, ◌-◌, ◌*◌, ◌≤◌, ◌<◌}
use native.Mathlib.Omega.{arith}
use lib.ListN.{length, take, drop, get_or, set, replicate, length-drop}
use lib.Seq.{length-take-le, get_or-take, get_or-drop}
use borrow.Author.Tests.{ne_eqb}
use borrow.Rule.Slice.PartMut.{put_mid, mid_of, same_len_mid, mid_len}
use Rattle.std.proofs.lemmas.List.{get_or_append_left, get_or-append-add, get_or-replicate}
use Rattle.std.proofs.lemmas.Slice.{drop-put_mid}
use Rattle.model.specs.Prelude.{upd}
use Rattle.model.specs.Members.{is_replica}
use Rattle.model.specs.State as M
use Rattle.model.proofs.Tests.{at-or, by-test, eqb_same, le-or-lt, split-and, is_true, is_false, of-true}
use Rattle.model.proofs.Quorum.{replica-range}
use Rattle.members.proofs.Laws.{replica}
use Rattle.cluster.specs.Layout.{at_pair}
use Rattle.refinement.proofs.Turning.{pair_set}

module _ (acked : List ℕ) (b : ℕ) (low : 1 ≤ b) (high : b ≤ 8) (all : length acked ≡ 64) where
  abbrev from : ℕ
  from = 8 * (b - 1)

  abbrev cleared : List ℕ
  cleared = put_mid from 8 acked (replicate 8 0)

  front : length (take from acked) ≡ from
  front = length-take-le from acked (omega arith)

  many : length cleared ≡ 64
  many =
      same_len_mid from 8 acked (replicate 8 0)
      (sym (length-take-le 8 (drop from acked) (rw length-drop (omega arith)))) ∙ all

  -- What stands before b's counts stays, and what stands after them.
  outside : (k : ℕ) → (k < from) ⊎ (from + 8 ≤ k) → get_or cleared k 0 ≡ get_or acked k 0
  outside k (inl h) =
      get_or_append_left (take from acked) _ 0 k (rw front h) ∙ get_or-take from acked k 0 h
  outside k (inr h) =
      let e : from + 8 + (k - (from + 8)) ≡ k = omega arith in
      rw (sym e) (sym (get_or-drop (from + 8) cleared (k - (from + 8)) 0)
      ∙ ap (λ xs. get_or xs (k - (from + 8)) 0) (drop-put_mid from 8 acked (replicate 8 0) (from + 8) (omega arith) (omega arith) refl)
      ∙ get_or-drop (from + 8) acked (k - (from + 8)) 0)

  inside : (j : ℕ) → j < 8 → get_or cleared (from + j) 0 ≡ 0
  inside j h =
      ap (λ a. get_or cleared (a + j) 0) (sym front)
      ∙ get_or-append-add (take from acked) _ j 0
      ∙ get_or_append_left (replicate 8 0) _ 0 j h ∙ get_or-replicate 8 j 0 0 h

  others : (x y : ℕ) → x ≢ b → at_pair cleared x y ≡ at_pair acked x y
  others x y m = by-test (is_replica x && is_replica y)
      (λ t. let z = split-and (is_replica x) (is_replica y) t in
      rw (is_true (is_replica x && is_replica y) t)
      (outside (8 * (x - 1) + (y - 1)) (apart (replica-range x z.0) (replica-range y z.1))))
      (λ t. rw (is_false (is_replica x && is_replica y) t))
    where
      apart : (1 ≤ x) × (x ≤ 8) → (1 ≤ y) × (y ≤ 8)
          → (8 * (x - 1) + (y - 1) < from) ⊎ (from + 8 ≤ 8 * (x - 1) + (y - 1))
      apart hx hy = go (le-or-lt b x)
        where
          go : (b ≤ x) ⊎ (x < b) → (8 * (x - 1) + (y - 1) < from) ⊎ (from + 8 ≤ 8 * (x - 1) + (y - 1))
          go (inl h) = inr (omega (arith, m))
          go (inr h) = inl (omega arith)

  own : (y : ℕ) → at_pair cleared b y ≡ 0
  own y = by-test (is_replica y)
      (λ t. let h = replica-range y t in
      rw (replica b low high, is_true (is_replica y) t) (inside (y - 1) (omega (arith, h))))
      (λ t. rw (replica b low high, is_false (is_replica y) t))

  -- All written at the places that the code counts: part is what stands in the eight.
  pub restarted : (n i : ℕ) (part : List ℕ) → i ≡ b - 1
      → part ≡ replicate (length (mid_of (8 * i) (8 * i + 8 - 8 * i) acked)) 0
      → at_pair (set (put_mid (8 * i) (8 * i + 8 - 8 * i) acked part) (8 * i + i) n)
      ≡ upd (at_pair acked) b (upd M.zeros b n)
  restarted n i part ei ep =
      let k : 8 * i + 8 - 8 * i ≡ 8 = omega arith in
      let m : length (mid_of (8 * i) (8 * i + 8 - 8 * i) acked) ≡ 8 =
      mid_len (8 * i) (8 * i + 8) acked (omega arith) ∙ k in
      let e : part ≡ replicate 8 0 = ep ∙ ap (λ j. replicate j 0) m in
      rw (k, ei, e)
      (pair_set cleared b b n (of-true (replica b low high)) (of-true (replica b low high)) many
      ∙ fun_ext (λ x. fun_ext (λ y. go x y)))
    where
      go : (x y : ℕ) → upd (at_pair cleared) b (upd (at_pair cleared b) b n) x y ≡ upd (at_pair acked) b (upd M.zeros b n) x y
      go = at-or b
          (λ y. rw (eqb_same b) (at-or {P = λ y. upd (at_pair cleared b) b n y ≡ upd M.zeros b n y} b (rw (eqb_same b))
          (λ y m. rw (ne_eqb y b m) (own y)) y))
          (λ x m y. rw (ne_eqb x b m) (others x y m))
