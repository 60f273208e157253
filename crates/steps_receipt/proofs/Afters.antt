-- What a receipt leaves, where it is accepted, is what the model's leaves. Assumes nothing.
use mathlib.Core.List.{List, [], ◌∷◌, ◌++◌}
use mathlib.Core.Path.{◌≡◌, refl, sym, ap, ◌∙◌}
use Prim.Native.Nat.{ℕ, ◌+◌, ◌≤◌, ◌<◌}
use native.Mathlib.Omega.{arith}
use lib.Dec.{ltb→lt}
use lib.ListN.{length, take, get_or, set}
use lib.Seq.{length-take-le}
use Rattle.model.specs.State.{entry}
use Rattle.model.specs.Steps.{commit, checks, answer_of, qualified}
use Rattle.model.proofs.Tests.{facts, of-true}
use Rattle.model.proofs.Answer.{zero-accepted}
use Rattle.members.specs.Mask.{bits}
use Rattle.logstore.specs.Log.{place, log_of}
use Rattle.logstore.proofs.Laws.{list-gains, log-entry}
use Rattle.cluster.specs.declared.Cluster.{Cluster}
use Rattle.cluster.specs.Layout.{at, outline_of}
use Rattle.refinement.specs.Refinement.{Places, lent, logged, listed, put_list, store_at, Full, abs, Short, Turns}
use Rattle.refinement.proofs.Turning.{turns-accepted, listed-full, logged-at, listed-put}

-- Step 2, of the replica b, with those of q behind it.
pub commit-turns : (row : Cluster) (short : Short row.len) (few : row.issued ≤ 512) (p : Places) (full : Full p)
    (b q : ℕ) → 0 ≡ answer_of (outline_of row) (commit b) → bits q ≡ qualified (outline_of row) (commit b)
    → (values terms : List ℕ)
    → values ≡ set p.list row.issued (get_or p.store (place b row.issued) 0)
    → terms ≡ set p.list2 row.issued (get_or p.store2 (place b row.issued) 0)
    → Turns (commit b) row p (record { answer = 0; behind = q; row = record row { issued = row.issued + 1 } })
    (lent p.store p.store2 values terms)
commit-turns row short few p full b q e eq values terms es et =
    let a = zero-accepted (outline_of row) (commit b) (sym e) in
    let h = facts (checks (outline_of row) (commit b)) (of-true a) in
    let n = row.issued in
    let m = at 0 row.len b in
    let inside = ltb→lt n m (h 12) in
    let room : n < 512 = omega (arith, short.most b, inside) in
    let p' = lent p.store p.store2 values terms in
    let ep : p' ≡ put_list p n (store_at p (place b n)) = rw (es, et) in
    let entry-is : store_at p (place b n) ≡ get_or (log_of (logged p) b m) n (entry 0 0) =
    sym (logged-at p full (place b n)) ∙ sym (log-entry (entry 0 0) (logged p) b m n inside) in
    let long : length (take n (listed p)) ≡ n = length-take-le n (listed p) (omega (arith, listed-full p full)) in
    let given : take (n + 1) (listed p') ≡ take n (listed p)
    ++ (get_or (log_of (logged p) b m) (length (take n (listed p))) (entry 0 0) ∷ []) =
    ap (λ z. take (n + 1) (listed z)) ep ∙ ap (take (n + 1)) (listed-put p n (store_at p (place b n)))
    ∙ list-gains (listed p) n _ (omega (arith, listed-full p full))
    ∙ ap (λ x. take n (listed p) ++ (x ∷ []))
    (entry-is ∙ ap (λ i. get_or (log_of (logged p) b m) i (entry 0 0)) (sym long)) in
    turns-accepted row short few p full (commit b) 0 q _ p' e refl eq
    (λ _ j. record (abs row p) { committed = given j })
    short (omega (arith, room)) ep
