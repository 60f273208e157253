-- The tests of terms, one after the other, and that the terms of a row's entries are the numbers of the second store
-- and the second list. Assumes nothing.
use mathlib.Core.Bool.{Bool, ◌&&◌, and-true, and_assoc}
use mathlib.Core.List.{List, [], ◌∷◌, map, map-map}
use mathlib.Core.Path.{◌≡◌, sym, ap, ◌∙◌}
use Prim.Native.Nat.{ℕ}
use lib.ListN.{take}
use Rattle.std.specs.List.{fold}
use Rattle.model.specs.State.{Entry}
use Rattle.model.specs.Ranges.{every, eight, is_epoch, terms_in_range, kept_in_range}
use Rattle.logstore.specs.Log.{log_of}
use Rattle.logstore.proofs.Laws.{take-terms, log-terms}
use Rattle.cluster.specs.declared.Cluster.{Cluster}
use Rattle.cluster.specs.Layout.{at}
use Rattle.refinement.specs.Refinement.{Places, Full, abs}

-- The tests from the front, after those that were ok.
pub from_front : (xs : List ℕ) (ok : Bool) → fold (λ a t. a && is_epoch t) ok xs ≡ (ok && every (map is_epoch xs))
from_front [] ok = sym (and-true ok)
from_front (x ∷ xs) ok = from_front xs (ok && is_epoch x) ∙ and_assoc ok (is_epoch x) (every (map is_epoch xs))

-- The tests of entries are the tests of their terms.
terms-tests : (xs : List Entry) → terms_in_range xs ≡ every (map is_epoch (map (λ x. x.term) xs))
terms-tests xs = sym (ap every (map-map is_epoch (λ x. x.term) xs))

-- Those of a row are the tests of the numbers inside its lengths.
pub kept-tests : (row : Cluster) (p : Places) → Full p
    → kept_in_range (abs row p)
    ≡ (every (map is_epoch (take row.issued p.list2))
    && every (eight (λ b. every (map is_epoch (log_of p.store2 b (at 0 row.len b))))))
kept-tests row p full =
    let store = full.store ∙ sym full.store2 in
    let log : (b : ℕ) → terms_in_range ((abs row p).log b)
    ≡ every (map is_epoch (log_of p.store2 b (at 0 row.len b))) =
    λ b. terms-tests ((abs row p).log b)
    ∙ ap (λ ts. every (map is_epoch ts)) (log-terms p.store p.store2 b (at 0 row.len b) store) in
    let list : terms_in_range (abs row p).committed ≡ every (map is_epoch (take row.issued p.list2)) =
    terms-tests (abs row p).committed ∙ ap (λ ts. every (map is_epoch ts))
    (take-terms p.list p.list2 row.issued (full.list ∙ sym full.list2)) in
    λ i. list i && every (eight (λ b. log b i))
