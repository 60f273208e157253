-- A row together with the lent places as a state of the model, and what a step makes of them. Cited by the contracts of
-- steps_leader, steps_receipt, steps_follower, steps_central, dispatch, kept, shown, steps, hub and sheet. Assumes
-- nothing.
use Rattle.std.specs.Prelude.{cond, List, ◌≢◌, ◌≡◌, ℕ, ◌≤◌, length, take, get_or, set}
use Rattle.model.specs.State.{Entry, entry, RowState, entries}
use Rattle.model.specs.Steps.{Step, Writes, appends, commits, receives, nothing, writes, accepted, answer_of, behind, step}
use Rattle.logstore.specs.Log.{pairs, place, log_of}
use Rattle.cluster.specs.declared.View.{View}
use Rattle.cluster.specs.declared.Registry.{Registry}
use Rattle.cluster.specs.declared.Controller.{Controller}
use Rattle.cluster.specs.declared.Cluster.{Cluster}
use Rattle.cluster.specs.Ended.{Outcome, Settled}
use Rattle.cluster.specs.Layout.{bits, registry_of, controller_of, view_of, at, at_pair, no_view, outline_of}
pub use Rattle.cluster.specs.Stages.{HasLeader}

-- The lent places of a call: the log store and the committed list (document 01: the receipts), which hold values, and
-- "a second store of 4,096 numbers and a second list of 512", which hold the terms (document 02, Paper 4).
pub record Places : Type 0 where
  pub store : List ℕ
  pub store2 : List ℕ
  pub list : List ℕ
  pub list2 : List ℕ

abbrev pub lent : List ℕ → List ℕ → List ℕ → List ℕ → Places
lent store store2 list list2 =
    record { store = store; store2 = store2; list = list; list2 = list2 }

-- The entries that the places of the store hold, and those of the list.
abbrev pub logged : Places → List Entry
logged p = pairs p.store p.store2

abbrev pub listed : Places → List Entry
listed p = pairs p.list p.list2

-- Places of their lengths: not "a store not 4,096 or receipts not 512 long", "with refusal 1 as for the first pair".
pub record Full (p : Places) : Type 0 where
  pub store : length p.store ≡ 4096
  pub store2 : length p.store2 ≡ 4096
  pub list : length p.list ≡ 512
  pub list2 : length p.list2 ≡ 512

-- The state that a row and the lent places stand for.
abbrev pub abs : Cluster → Places → RowState
abs row p = record {
  registry = registry_of row.registry;
  controller = controller_of row.controller;
  view = λ b. view_of (at no_view row.views b);
  joined = at 0 row.joined;
  acked = at_pair row.acked;
  log = λ b. log_of (logged p) b (at 0 row.len b);
  committed = take row.issued (listed p);
}

-- The row of these parts.
abbrev pub row_of : Registry → Controller → List View → List ℕ → List ℕ → List ℕ → ℕ → Cluster
row_of g c views joined acked len issued =
    record { registry = g; controller = c; views = views; joined = joined; acked = acked; len = len; issued = issued }

-- Eight lengths of logs, each at most 512.
pub record Short (len : List ℕ) : Type 0 where
  pub eight : length len ≡ 8
  pub most : (b : ℕ) → at 0 len b ≤ 512

-- Views whose leaders are replicas, or none.
abbrev pub Led : List View → Type 0
Led views = (b : ℕ) → (at no_view views b).leader ≤ 8

-- The lengths of the arrays that a row holds beside the controller's, which its type fixes.
pub record Shape (row : Cluster) : Type 0 where
  pub views : length row.views ≡ 8
  pub joined : length row.joined ≡ 8
  pub acked : length row.acked ≡ 64
  pub len : length row.len ≡ 8

-- What the steps rely on in a row that refusal 1 lets through.
pub record Ready (row : Cluster) : Type 0 where
  pub shape : Shape row
  pub short : Short row.len
  pub issued : row.issued ≤ 512
  pub leaders : Led row.views
  pub reads : HasLeader row.controller

-- An entry written at a place of the store, value and term, and one at a place of the list.
abbrev pub put_log : Places → ℕ → Entry → Places
put_log p i x = lent (set p.store i x.value) (set p.store2 i x.term) p.list p.list2

abbrev pub put_list : Places → ℕ → Entry → Places
put_list p i x = lent p.store p.store2 (set p.list i x.value) (set p.list2 i x.term)

-- The entry at a place of the store.
abbrev pub store_at : Places → ℕ → Entry
store_at p i = entry (get_or p.store i 0) (get_or p.store2 i 0)

-- The places after an accepted step. Append (1) writes the value and b's own term at the end of b's log; receive (8)
-- the leader's next entry there; commit (2) the next entry of b's log at the end of the receipts; no other step writes
-- a place.
abbrev pub written : Writes → Cluster → Places → Places
written (appends b value) row p =
    put_log p (place b (at 0 row.len b)) (entry value (at no_view row.views b).term)
written (commits b) row p = put_list p row.issued (store_at p (place b row.issued))
written (receives b) row p =
    let n = at 0 row.len b in put_log p (place b n) (store_at p (place (at no_view row.views b).leader n))
written nothing row p = p

abbrev pub places_after : Step → Cluster → Places → Places
places_after st row p = written (writes st) row p

-- What the step st of a row and its places answers, who is behind it, and what it leaves: the row of x, the places p'.
pub record Turns (st : Step) (row : Cluster) (p : Places) (x : Outcome) (p' : Places) : Type 0 where
  pub answer : x.answer ≡ answer_of (outline_of row) st
  pub behind : bits x.behind ≡ behind (outline_of row) st
  pub state : abs x.row p' ≡ step entries (abs row p) st
  pub short : Short x.row.len
  pub issued : x.row.issued ≤ 512
  pub places : p' ≡ cond (accepted (outline_of row) st) (places_after st row p) p
  pub refused : x.answer ≢ 0 → x.row ≡ row

-- The same by the answer n, the mask q of those behind it, and the row row' that a step leaves.
abbrev pub Leaves : Step → Cluster → Places → ℕ → ℕ → Cluster → Places → Type 0
Leaves st row p n q row' p' = Turns st row p (record { answer = n; behind = q; row = row' }) p'

-- A step of the registry g and the controller c: what it answers, who is behind it and what it leaves, whatever the
-- counts, the receipts and the lent places are.
abbrev pub Governs : Step → Registry → Controller → List View → List ℕ → List ℕ → Settled → Type 0
Governs st g c views joined len x = (acked : List ℕ) (issued : ℕ) (p : Places) → issued ≤ 512 → Full p
    → Leaves st (row_of g c views joined acked len issued) p
    x.answer x.behind (row_of x.registry x.controller views joined acked len issued) p

-- Of a row nothing but the registry and the controller is another.
abbrev pub RestStays : Cluster → Cluster → Type 0
RestStays row row' =
    row_of row'.registry row'.controller row.views row.joined row.acked row.len row.issued ≡ row'
