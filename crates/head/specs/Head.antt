-- The head of an image (document 02, Paper 7), 258 bytes: that of a state in outline, byte for byte, and what a head
-- says of a row, apart from its lists. Cited by the contracts of head and image. Assumes nothing.
use Rattle.std.specs.Prelude.{Bool, cond, ◌&&◌, List, [], ◌∷◌, ◌++◌, ℕ, suc, ◌+◌, ◌-◌, ◌*◌, leb, eqb, get_or}
use Rattle.model.specs.Members.{Members}
use Rattle.model.specs.State as M
use Rattle.model.specs.State.{Outline, stage_number}
use Rattle.fields.specs.Fields.{two, two_at}
use Rattle.cluster.specs.declared.View.{View}
use Rattle.cluster.specs.declared.Status.{Status}
use Rattle.cluster.specs.declared.Status.TheVariants.{Normal, Waiting}
use Rattle.cluster.specs.declared.Stage.{Stage}
use Rattle.cluster.specs.declared.Stage.TheVariants.{Idle, Leader, Boards}
use Rattle.cluster.specs.declared.Controller.{Controller}
use Rattle.cluster.specs.declared.Cluster.{Cluster}
use Rattle.cluster.specs.Layout.{at}
use Rattle.text.specs.Text.{Text}

-- What the eight boards have, board 1 first: as texts one after the other, and as a list.
abbrev pub texts : (ℕ → Text) → Text
texts f = f 1 ++ (f 2 ++ (f 3 ++ (f 4 ++ (f 5 ++ (f 6 ++ (f 7 ++ f 8))))))

abbrev pub boards : {A : Type 0} → (ℕ → A) → List A
boards f = f 1 ∷ f 2 ∷ f 3 ∷ f 4 ∷ f 5 ∷ f 6 ∷ f 7 ∷ f 8 ∷ []

-- Writing

-- "Member sets have board 1 as the lowest bit."
abbrev pub mask_of : Members → ℕ
mask_of q =
    cond (q 1) 1 0 + cond (q 2) 2 0 + cond (q 3) 4 0 + cond (q 4) 8 0
    + cond (q 5) 16 0 + cond (q 6) 32 0 + cond (q 7) 64 0 + cond (q 8) 128 0

-- "Status is 0 to 2 and stage 0 to 3 in document 01's order."
abbrev pub status_number : M.Status → ℕ
status_number M.normal = 0
status_number M.waiting = 1
status_number M.Status.choosing = 2

-- "heard length ..., length 65,535 for none": a state has 0 for none and n + 1 for n.
abbrev pub heard_number : ℕ → ℕ
heard_number h = cond (eqb h 0) 65535 (h - 1)

-- "epoch, leader epoch in 2 bytes each; leader, members, status, zero in one each"; "controller the same with stage"
abbrev pub view_bytes : M.View → ℕ → Text
view_bytes v code = two v.epoch ++ (two v.term ++ (v.leader ∷ mask_of v.members ∷ code ∷ 0 ∷ []))

-- "for each board heard length and heard joined, 2 bytes each"
abbrev pub heard_bytes : M.Controller → ℕ → Text
heard_bytes c b = two (heard_number (c.heard b)) ++ two (c.heard_joined b)

-- "for each board epoch, leader epoch, joined (2 bytes each), leader, members, eight 2-byte counts and a 2-byte first
-- record"
abbrev pub board_bytes : Outline → List ℕ → ℕ → Text
board_bytes m firsts b =
    let v = m.view b in
    two v.epoch ++ (two v.term ++ (two (m.joined b) ++ ((v.leader ∷ mask_of v.members ∷ [])
    ++ (texts (λ x. two (m.acked b x)) ++ two (at 0 firsts b)))))

-- The head of a state whose lists have these first records: those of boards 1 to 8, "then the receipts' first record".
unfoldable pub head_bytes : Outline → List ℕ → Text
head_bytes m firsts =
    view_bytes m.registry.view (status_number m.registry.status)
    ++ (view_bytes m.controller.view (stage_number m.controller.stage)
    ++ (texts (heard_bytes m.controller) ++ (texts (board_bytes m firsts) ++ two (at 0 firsts 9))))

-- Reading

-- (A number past the last stands for the last: `codes_fit` turns such an image away.)
abbrev pub status_from : ℕ → Status
status_from n = cond (eqb n 0) Normal (cond (eqb n 1) Waiting Status.Choosing)

abbrev pub stage_from : ℕ → Stage
stage_from n = cond (eqb n 0) Idle (cond (eqb n 1) Leader (cond (eqb n 2) Boards Stage.Choosing))

abbrev pub heard_from : ℕ → ℕ
heard_from n = cond (eqb n 65535) 0 (suc n)

-- A view whose epochs stand at i, its leader and members at j.
abbrev pub view_at : Text → ℕ → ℕ → View
view_at s i j = record { epoch = two_at s i; term = two_at s (i + 2); leader = get_or s j 0; members = get_or s (j + 1) 0 }

-- The counts of the board a, whose 26 bytes begin at 22 + 26 a.
abbrev pub counts_at : Text → ℕ → List ℕ
counts_at s a = boards (λ b. two_at s (28 + 26 * a + 2 * b))

abbrev pub counts_from : Text → List ℕ
counts_from s = counts_at s 1 ++ (counts_at s 2 ++ (counts_at s 3 ++ (counts_at s 4
    ++ (counts_at s 5 ++ (counts_at s 6 ++ (counts_at s 7 ++ counts_at s 8))))))

abbrev pub controller_at : Text → Controller
controller_at s = record {
  view = view_at s 8 12;
  stage = stage_from (get_or s 14 0);
  heard = boards (λ b. heard_from (two_at s (12 + 4 * b)));
  joined = boards (λ b. two_at s (14 + 4 * b));
}

-- What a head says of a row whose logs have the lengths len, and with so many receipts.
unfoldable pub row_at : Text → List ℕ → ℕ → Cluster
row_at s len issued = record {
  registry = record { view = view_at s 0 4; status = status_from (get_or s 6 0) };
  controller = controller_at s;
  views = boards (λ b. view_at s (22 + 26 * b) (28 + 26 * b));
  joined = boards (λ b. two_at s (26 + 26 * b));
  acked = counts_from s;
  len = len;
  issued = issued;
}

-- "a zero byte that is not 0", and status and stage outside their ranges: a part of error 18. (The row's own numbers
-- are the other part.)
abbrev pub codes_fit : Text → Bool
codes_fit s = leb (get_or s 6 0) 2 && leb (get_or s 14 0) 3 && eqb (get_or s 7 0) 0 && eqb (get_or s 15 0) 0
