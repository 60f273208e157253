-- What a leader's steps leave, where they are accepted, is what the model's leave. Assumes nothing.
use mathlib.Core.Bool.{◌&&◌}
use mathlib.Core.List.{List, [], ◌∷◌, ◌++◌}
use mathlib.Core.Path.{◌≡◌, refl, sym, ap, ◌∙◌}
use Prim.Native.Nat.{ℕ, suc, ◌+◌, ◌-◌, ◌*◌, ◌≤◌}
use native.Mathlib.Omega.{arith}
use lib.Dec.{ltb→lt}
use lib.ListN.{length, take, set}
use Rattle.model.specs.Prelude.{upd}
use Rattle.model.specs.Members.{is_replica}
use Rattle.model.specs.State.{Entry, entry}
use Rattle.model.specs.Steps.{append, acknowledge, checks, answer_of}
use Rattle.model.proofs.Tests.{facts, split-and, of-true}
use Rattle.model.proofs.Quorum.{replica-range}
use Rattle.model.proofs.Answer.{zero-accepted}
use Rattle.logstore.specs.Log.{place, log_of}
use Rattle.cluster.specs.declared.View.{View}
use Rattle.cluster.specs.declared.Cluster.{Cluster}
use Rattle.cluster.specs.Layout.{at, at_pair, no_view, outline_of}
use Rattle.refinement.specs.Refinement.{Places, lent, logged, listed, put_log, Full, abs, Short, Turns}
use Rattle.refinement.proofs.Turning.{bits_none, turns-accepted, len_short, logged-full, logged-put, log-len, logs-grow, pair_set}

module _ (row : Cluster) (short : Short row.len) (few : row.issued ≤ 512) (p : Places) (full : Full p)
    (pairs : length row.acked ≡ 64) where
  abbrev store : List Entry
  store = logged p

  -- Step 1, of the replica b, whose view is v, whose log has n entries, at the place i.
  pub append-turns : (b value i n : ℕ) (v : View) → i ≡ b - 1 → n ≡ at 0 row.len b → v ≡ at no_view row.views b
      → 0 ≡ answer_of (outline_of row) (append b value)
      → (k : ℕ) → k ≡ b → (values terms : List ℕ)
      → values ≡ set p.store (place k n) value → terms ≡ set p.store2 (place k n) v.term
      → Turns (append b value) row p (record {
        answer = 0;
        behind = 0;
        row = record row { acked = set row.acked (9 * i) (n + 1); len = set row.len i (n + 1) };
      }) (lent values terms p.list p.list2)
  append-turns b value i n v ei en ev e k ek values terms es et =
      let a = zero-accepted (outline_of row) (append b value) (sym e) in
      let h = facts (checks (outline_of row) (append b value)) (of-true a) in
      let r = replica-range b (h 1) in
      let m = at 0 row.len b in
      let x = entry value (at no_view row.views b).term in
      let room = ltb→lt m 512 (h 13) in
      let p' = lent values terms p.list p.list2 in
      let ep : p' ≡ put_log p (place b m) x = rw (es, et, ek, en, ev) in
      let long : m + 1 ≡ suc (length (log_of store b m)) =
      omega (arith, log-len store (logged-full p full) row.len short b) in
      let own : 9 * i ≡ 8 * (b - 1) + (b - 1) = omega arith in
      let acked : at_pair (set row.acked (9 * i) (n + 1))
      ≡ upd (at_pair row.acked) b (upd (at_pair row.acked b) b (suc (length (log_of store b m)))) =
      rw (own, en, long) (pair_set row.acked b b _ (h 1) (h 1) pairs) in
      let logs : (λ y. log_of (logged p') y (at 0 (set row.len i (n + 1)) y))
      ≡ upd (λ y. log_of store y (at 0 row.len y)) b (log_of store b m ++ (x ∷ [])) =
      rw (ap logged ep ∙ logged-put p (place b m) x, en, ei)
      (logs-grow row.len short store (logged-full p full) b x r.0 r.1 room) in
      turns-accepted row short few p full (append b value) 0 0 _ p' e refl bits_none
      (λ _ j. record (abs row p) {
        acked = acked j;
        log = logs j;
        committed = take row.issued (listed (ep j));
      })
      (rw (ei, en) (len_short row.len short b (m + 1) r.0 r.1 (omega (arith, room))))
      few ep

  -- Step 9, of the replicas a and b at the places i and j.
  pub acknowledge-turns : (a b i j n : ℕ) → i ≡ a - 1 → j ≡ b - 1 → n ≡ at 0 row.len b
      → 0 ≡ answer_of (outline_of row) (acknowledge a b)
      → Turns (acknowledge a b) row p (record {
        answer = 0;
        behind = 0;
        row = record row { acked = set row.acked (8 * i + j) n };
      }) p
  acknowledge-turns a b i j n ei ej en e =
      let t = zero-accepted (outline_of row) (acknowledge a b) (sym e) in
      let h = facts (checks (outline_of row) (acknowledge a b)) (of-true t) in
      let w = split-and (is_replica a) (is_replica b) (split-and (is_replica a && is_replica b) _ (h 1)).0 in
      let acked : at_pair (set row.acked (8 * i + j) n)
      ≡ upd (at_pair row.acked) a (upd (at_pair row.acked a) b (length (log_of store b (at 0 row.len b)))) =
      rw (ei, ej, en, log-len store (logged-full p full) row.len short b) (pair_set row.acked a b _ w.0 w.1 pairs) in
      turns-accepted row short few p full (acknowledge a b) 0 0 _ p e refl bits_none
      (λ _ j. record (abs row p) { acked = acked j })
      short few refl
