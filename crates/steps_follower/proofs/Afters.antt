-- What steps 6, 7 and 8 leave, where they are accepted, is what the model's leave. The replica b of a step is its k, at
-- the place i. Assumes nothing.
use mathlib.Core.Bool.{Bool, true, false, not, cond, ◌&&◌}
use mathlib.Core.List.{List, [], ◌∷◌, ◌++◌}
use mathlib.Core.Path.{◌≡◌, refl, sym, ap, ◌∙◌, fun_ext}
use Prim.Native.Nat.{ℕ, ◌+◌, ◌-◌, ◌≤◌}
use native.Mathlib.Omega.{arith}
use lib.Dec.{eqb, ltb→lt}
use lib.ListN.{length, take, get_or, set}
use Rattle.model.specs.Prelude.{upd}
use Rattle.model.specs.State as M
use Rattle.model.specs.State.{Entry, entry, same_entry, entries}
use Rattle.model.specs.Steps.{refresh, join, receive, checks, answer_of, next, shared}
use Rattle.model.proofs.Tests.{facts, upd-idle, of-true}
use Rattle.model.proofs.Quorum.{replica-range}
use Rattle.model.proofs.Answer.{zero-accepted}
use Rattle.logstore.specs.Log.{place, log_of}
use Rattle.logstore.proofs.Laws.{log-entry, log-length, log-joins, shared-length}
use Rattle.cluster.specs.declared.View.{View}
use Rattle.cluster.specs.declared.Cluster.{Cluster}
use Rattle.cluster.specs.Layout.{view_of, at, at_pair, no_view, outline_of}
use Rattle.cluster.proofs.Laws.{at_set}
use Rattle.refinement.specs.Refinement.{Places, lent, logged, listed, put_log, store_at, Full, abs, Short, Turns}
use Rattle.refinement.proofs.Turning.{bits_none, turns-accepted, len_short, logged-full, logged-at, logged-put, log-len, logs-set, logs-grow}

-- A choice, then a function of it.
cond-ap : {A B : Type 0} (f : A → B) (t : Bool) (x y : A) → f (cond t x y) ≡ cond t (f x) (f y)
cond-ap f true x y = refl
cond-ap f false x y = refl

-- An update or none is an update by the new or by the old.
upd-cond : {A : Type 0} (f : ℕ → A) (b : ℕ) (t : Bool) (x : A) → cond t (upd f b x) f ≡ upd f b (cond t x (f b))
upd-cond f b true x = refl
upd-cond f b false x = sym (upd-idle f b (f b) refl)

module _ (row : Cluster) (short : Short row.len) (few : row.issued ≤ 512) (p : Places) (full : Full p)
    (views : length row.views ≡ 8) (joins : length row.joined ≡ 8) where
  abbrev store : List Entry
  store = logged p

  -- Step 6: b's view is v, its log has n entries; whether its term changed, and whether the news are that it leads.
  pub refresh-turns : (b k i n : ℕ) (v : View) → k ≡ b → i ≡ k - 1 → n ≡ at 0 row.len k → v ≡ at no_view row.views k
      → 0 ≡ answer_of (outline_of row) (refresh b)
      → (changed leads : Bool)
      → not (eqb v.term row.registry.view.term) ≡ changed → eqb row.registry.view.leader k ≡ leads
      → (acked : List ℕ)
      → at_pair acked ≡ cond changed (upd (at_pair row.acked) k (upd M.zeros k n)) (at_pair row.acked)
      → Turns (refresh b) row p (record {
        answer = 0;
        behind = 0;
        row = record row {
          views = set row.views i row.registry.view;
          joined = cond (changed && leads) (set row.joined i row.registry.view.term) row.joined;
          acked = acked;
        };
      }) p
  refresh-turns b k i n v ek ei en ev e changed leads ec el acked ea =
      let a = zero-accepted (outline_of row) (refresh b) (sym e) in
      let h = facts (checks (outline_of row) (refresh b)) (of-true a) in
      let r = replica-range b (h 1) in
      let w = row.registry.view in
      let viewed : (λ x. view_of (at no_view (set row.views i w) x))
      ≡ upd (λ x. view_of (at no_view row.views x)) b (view_of w) =
      rw (ei, ek) (fun_ext (λ x. ap (λ f. view_of (f x)) (at_set no_view row.views b w r.0 r.1 views)
      ∙ cond-ap view_of (eqb x b) w (at no_view row.views x))) in
      let joined : at 0 (cond (changed && leads) (set row.joined i w.term) row.joined)
      ≡ (next entries (abs row p) (refresh b)).joined =
      cond-ap (at 0) (changed && leads) (set row.joined i w.term) row.joined
      ∙ rw (sym ec, sym el, ev, ei, ek, at_set 0 row.joined b w.term r.0 r.1 joins)
      (upd-cond (at 0 row.joined) b (not (eqb (at no_view row.views b).term w.term) && eqb w.leader b) w.term) in
      let counts : at_pair acked ≡ (next entries (abs row p) (refresh b)).acked =
      ea ∙ rw (sym ec, ev, en, ek, log-len store (logged-full p full) row.len short b)
      (upd-cond (at_pair row.acked) b (not (eqb (at no_view row.views b).term w.term)) (upd M.zeros b (at 0 row.len b))) in
      turns-accepted row short few p full (refresh b) 0 0 _ p e refl bits_none
      (λ _ j. record (abs row p) { view = viewed j; joined = joined j; acked = counts j })
      short few refl

  -- Step 7: b's leader is l, their logs have n and m entries, t is b's term, and s entries are shared.
  pub join-turns : (b k i l n m s t : ℕ) → k ≡ b → i ≡ k - 1 → l ≡ (at no_view row.views b).leader
      → n ≡ at 0 row.len k → m ≡ at 0 row.len l → t ≡ (at no_view row.views k).term
      → 0 ≡ answer_of (outline_of row) (join b)
      → s ≡ length (shared same_entry (log_of store k n) (log_of store l m))
      → Turns (join b) row p (record {
        answer = 0;
        behind = 0;
        row = record row { joined = set row.joined i t; len = set row.len i s };
      }) p
  join-turns b k i l n m s t ek ei el en em et e es =
      let a = zero-accepted (outline_of row) (join b) (sym e) in
      let h = facts (checks (outline_of row) (join b)) (of-true a) in
      let r = replica-range b (h 1) in
      let leader = (at no_view row.views b).leader in
      let own = log_of store b (at 0 row.len b) in
      let other = log_of store leader (at 0 row.len leader) in
      let whole = logged-full p full in
      let is : s ≡ length (shared same_entry own other) = es ∙ rw (en, em, ek, el) in
      let joined : at 0 (set row.joined i t) ≡ upd (at 0 row.joined) b (at no_view row.views b).term =
      rw (ei, et, ek) (at_set 0 row.joined b (at no_view row.views b).term r.0 r.1 joins) in
      let logs : (λ x. log_of store x (at 0 (set row.len i s) x))
      ≡ upd (λ x. log_of store x (at 0 row.len x)) b (shared same_entry own other) =
      rw (ei, ek) (logs-set row.len short b s r.0 r.1 store store (λ _ _ _. refl))
      ∙ ap (upd (λ x. log_of store x (at 0 row.len x)) b)
      (ap (log_of store b) is ∙ log-joins store whole b r.0 r.1 (at 0 row.len b) same_entry other (short.most b)) in
      let less : s ≤ 512 =
      omega (arith, shared-length same_entry own other, log-length store whole b r.0 r.1 (at 0 row.len b) (short.most b), short.most b) in
      turns-accepted row short few p full (join b) 0 0 _ p e refl bits_none
      (λ _ j. record (abs row p) { joined = joined j; log = logs j })
      (rw (ei, ek) (len_short row.len short b s r.0 r.1 less))
      few refl

  -- Step 8: b's leader is l, b's log has n entries.
  pub receive-turns : (b k i l n : ℕ) → k ≡ b → i ≡ k - 1 → l ≡ (at no_view row.views b).leader → n ≡ at 0 row.len k
      → 0 ≡ answer_of (outline_of row) (receive b)
      → (values terms : List ℕ)
      → values ≡ set p.store (place k n) (get_or p.store (place l n) 0)
      → terms ≡ set p.store2 (place k n) (get_or p.store2 (place l n) 0)
      → Turns (receive b) row p (record {
        answer = 0;
        behind = 0;
        row = record row { len = set row.len i (n + 1) };
      }) (lent values terms p.list p.list2)
  receive-turns b k i l n ek ei el en e values terms es et =
      let a = zero-accepted (outline_of row) (receive b) (sym e) in
      let h = facts (checks (outline_of row) (receive b)) (of-true a) in
      let r = replica-range b (h 1) in
      let o = (at no_view row.views b).leader in
      let m = at 0 row.len b in
      let less = ltb→lt m (at 0 row.len o) (h 12) in
      let whole = logged-full p full in
      let p' = lent values terms p.list p.list2 in
      let x = store_at p (place o m) in
      let ep : p' ≡ put_log p (place b m) x = rw (es, et, en, ek, el) in
      let is : x ≡ get_or (log_of store o (at 0 row.len o)) (length (log_of store b m)) (entry 0 0) =
      sym (logged-at p full (place o m)) ∙ sym (log-entry (entry 0 0) store o (at 0 row.len o) m less)
      ∙ ap (λ j. get_or (log_of store o (at 0 row.len o)) j (entry 0 0)) (sym (log-len store whole row.len short b)) in
      let logs : (λ y. log_of (logged p') y (at 0 (set row.len i (n + 1)) y))
      ≡ upd (λ y. log_of store y (at 0 row.len y)) b
      (log_of store b m ++ (get_or (log_of store o (at 0 row.len o)) (length (log_of store b m)) (entry 0 0) ∷ [])) =
      rw (ap logged ep ∙ logged-put p (place b m) x, en, ei, ek)
      (logs-grow row.len short store whole b x r.0 r.1 (omega (arith, less, short.most o)))
      ∙ ap (λ y. upd (λ z. log_of store z (at 0 row.len z)) b (log_of store b m ++ (y ∷ []))) is in
      turns-accepted row short few p full (receive b) 0 0 _ p' e refl bits_none
      (λ _ j. record (abs row p) { log = logs j; committed = take row.issued (listed (ep j)) })
      (rw (ei, en, ek) (len_short row.len short b (m + 1) r.0 r.1 (omega (arith, less, short.most o))))
      few ep
