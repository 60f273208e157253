-- What is written in a head is read back from it. Assumes nothing.
use mathlib.Core.Bool.{Bool, true, false, cond}
use mathlib.Core.List.{List, [], ◌∷◌, ◌++◌}
use mathlib.Core.Path.{◌≡◌, refl, sym, ◌∙◌}
use Prim.Native.Nat.{ℕ, zero, suc, ◌+◌, ◌-◌, ◌*◌, ◌/◌, ◌%◌, ◌<◌, ◌≤◌}
use native.Mathlib.Omega.{arith}
use lib.Dec.{eqb, leb}
use lib.ListN.{length, get_or}
use lib.Seq.{ext_get_or}
use borrow.Author.Tests.{ne_eqb, eqb-true, eqb-false}
use Rattle.model.specs.State as M
use Rattle.model.specs.State.{Outline, stage_number}
use Rattle.members.specs.Mask.{bits}
use Rattle.members.proofs.Finite.{all, below, table}
use Rattle.fields.specs.Fields.{two_at}
use Rattle.fields.proofs.Back.{two_back}
use Rattle.cluster.specs.declared.View.{View}
use Rattle.cluster.specs.declared.Status.{Status}
use Rattle.cluster.specs.declared.Status.TheVariants.{Normal, Waiting}
use Rattle.cluster.specs.declared.Stage.{Stage}
use Rattle.cluster.specs.declared.Stage.TheVariants.{Idle, Leader, Boards}
use Rattle.cluster.specs.declared.Cluster.{Cluster}
use Rattle.cluster.specs.Layout.{at, no_view, status_of, stage_of, outline_of}
use Rattle.text.specs.Text.{Text}
use Rattle.head.specs.Head.{boards, mask_of, status_number, status_from, stage_from, heard_number, heard_from, head_bytes, row_at, codes_fit}
use Rattle.head.proofs.Filled.{places}

-- Single fields

status-back : (g : Status) → status_from (status_number (status_of g)) ≡ g
status-back Normal = refl
status-back Waiting = refl
status-back Status.Choosing = refl

stage-back : (g : Stage) → stage_from (stage_number (stage_of g)) ≡ g
stage-back Idle = refl
stage-back Leader = refl
stage-back Boards = refl
stage-back Stage.Choosing = refl

status-fits : (g : M.Status) → leb (status_number g) 2 ≡ true
status-fits M.normal = refl
status-fits M.waiting = refl
status-fits M.Status.choosing = refl

stage-fits : (g : M.Stage) → leb (stage_number g) 3 ≡ true
stage-fits M.idle = refl
stage-fits M.Stage.leader = refl
stage-fits M.boards = refl
stage-fits M.Stage.choosing = refl

heard-back : (h : ℕ) → h ≤ 513 → heard_from (heard_number h) ≡ h
heard-back h l = go (eqb h 0) refl
  where
    go : (t : Bool) → eqb h 0 ≡ t → heard_from (cond t 65535 (h - 1)) ≡ h
    go true e = sym (eqb-true h 0 e)
    go false e =
        let d = eqb-false h 0 e in
        let n : h - 1 ≡ 65535 → ⊥ = λ q. omega (arith, q) in
        rw (ne_eqb (h - 1) 65535 n) (omega (arith, d))

mask-passes : all (λ m. eqb (mask_of (bits m)) m) 256 ≡ true
unfolding bits
mask-passes = refl

-- A mask of eight bits is that of its set.
pub mask-back : (m : ℕ) → m < 256 → mask_of (bits m) ≡ m
mask-back m h = eqb-true _ _ (below (λ n. eqb (mask_of (bits n)) n) 256 mask-passes m h)

-- A view as it is read from its bytes.
abbrev view_read : View → View
view_read v = record {
  epoch = v.epoch % 256 + 256 * (v.epoch / 256);
  term = v.term % 256 + 256 * (v.term / 256);
  leader = v.leader;
  members = mask_of (bits v.members);
}

view-back : (v : View) → v.members < 256 → view_read v ≡ v
view-back v h = λ i. record {
  epoch = two_back v.epoch i;
  term = two_back v.term i;
  leader = v.leader;
  members = mask-back v.members h i;
}

-- Lists

-- Two bytes each, back.
twos : List ℕ → List ℕ
twos [] = []
twos (n ∷ ns) = (n % 256 + 256 * (n / 256)) ∷ twos ns

twos_back : (ns : List ℕ) → twos ns ≡ ns
unfolding twos
twos_back [] = refl
twos_back (n ∷ ns) = λ i. two_back n i ∷ twos_back ns i

-- The list whose every place is read back.
twos-all : (ns : List ℕ) (k : ℕ) → length ns ≡ k → twos (table (λ i. get_or ns i 0) k) ≡ ns
twos-all ns k e = twos_back (table (λ i. get_or ns i 0) k) ∙ sym (places ns k e)

-- A list of eight by its boards.
boards-at : {A : Type 0} (d : A) (xs : List A) → length xs ≡ 8 → boards (at d xs) ≡ xs
boards-at d xs e = ext_get_or d (boards (at d xs)) xs (sym e) go
  where
    go : (i : ℕ) → i < 8 → get_or (boards (at d xs)) i d ≡ get_or xs i d
    go zero h = refl
    go (suc zero) h = refl
    go (suc (suc zero)) h = refl
    go (suc (suc (suc zero))) h = refl
    go (suc (suc (suc (suc zero)))) h = refl
    go (suc (suc (suc (suc (suc zero))))) h = refl
    go (suc (suc (suc (suc (suc (suc zero)))))) h = refl
    go (suc (suc (suc (suc (suc (suc (suc zero))))))) h = refl
    go (suc (suc (suc (suc (suc (suc (suc (suc i)))))))) h = absurd (omega (arith, h))

-- The head of a state

module _ (m : Outline) (firsts : List ℕ) where
  pub head-length : length (head_bytes m firsts) ≡ 258
  unfolding head_bytes
  head-length = refl

  module _ (rest : Text) where
    abbrev image : Text
    image = head_bytes m firsts ++ rest

    pub codes-back : codes_fit image ≡ true
    unfolding head_bytes
    codes-back = rw (status-fits m.registry.status, stage-fits m.controller.stage)

    -- The first records: of the boards, and of the receipts.
    pub firsts-back :
        length firsts ≡ 9
        → (two_at image 72 ∷ two_at image 98 ∷ two_at image 124 ∷ two_at image 150 ∷ two_at image 176 ∷ two_at image 202
        ∷ two_at image 228 ∷ two_at image 254 ∷ two_at image 256 ∷ [])
        ≡ firsts
    unfolding head_bytes twos
    firsts-back e = twos-all firsts 9 e

-- The head of a row

-- The row's arrays have their lengths, its masks eight bits, and no heard length is above 512.
pub record Sized (row : Cluster) : Type 0 where
  pub views : length row.views ≡ 8
  pub joined : length row.joined ≡ 8
  pub acked : length row.acked ≡ 64
  pub heard : length row.controller.heard ≡ 8
  pub heard_joined : length row.controller.joined ≡ 8
  pub registry_mask : row.registry.view.members < 256
  pub controller_mask : row.controller.view.members < 256
  pub view_mask : (b : ℕ) → (at no_view row.views b).members < 256
  pub heard_most : (b : ℕ) → at 0 row.controller.heard b ≤ 513

module _ (row : Cluster) (firsts : List ℕ) (rest : Text) (len : List ℕ) (issued : ℕ) (s : Sized row) where
  abbrev read : Cluster
  read = row_at (head_bytes (outline_of row) firsts ++ rest) len issued

  registry-back : read.registry ≡ row.registry
  unfolding head_bytes row_at
  registry-back = λ i. record {
    view = view-back row.registry.view s.registry_mask i;
    status = status-back row.registry.status i;
  }

  heard-there : read.controller.heard ≡ row.controller.heard
  unfolding head_bytes row_at
  heard-there =
      let f = at 0 row.controller.heard in
      (λ i. boards (λ b. heard_from (two_back (heard_number (f b)) i)))
      ∙ (λ i. boards (λ b. heard-back (f b) (s.heard_most b) i)) ∙ boards-at 0 row.controller.heard s.heard

  controller-back : read.controller ≡ row.controller
  unfolding head_bytes row_at twos
  controller-back = λ i. record {
    view = view-back row.controller.view s.controller_mask i;
    stage = stage-back row.controller.stage i;
    heard = heard-there i;
    joined = twos-all row.controller.joined 8 s.heard_joined i;
  }

  views-back : read.views ≡ row.views
  unfolding head_bytes row_at
  views-back =
      (λ i. boards (λ b. view-back (at no_view row.views b) (s.view_mask b) i))
      ∙ boards-at no_view row.views s.views

  joined_back : read.joined ≡ row.joined
  unfolding head_bytes row_at twos
  joined_back = twos-all row.joined 8 s.joined

  acked-back : read.acked ≡ row.acked
  unfolding head_bytes row_at twos
  acked-back = twos-all row.acked 64 s.acked

  -- All but the lengths, which a head has not.
  pub row_back : row_at (head_bytes (outline_of row) firsts ++ rest) len issued ≡ record {
    registry = row.registry;
    controller = row.controller;
    views = row.views;
    joined = row.joined;
    acked = row.acked;
    len = len;
    issued = issued;
  }
  unfolding row_at
  row_back = λ i. record {
    registry = registry-back i;
    controller = controller-back i;
    views = views-back i;
    joined = joined_back i;
    acked = acked-back i;
    len = len;
    issued = issued;
  }
