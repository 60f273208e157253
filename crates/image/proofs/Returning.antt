-- A written row reads back as the same row. Assumes nothing.
use mathlib.Core.Bool.{true, ◌&&◌}
use mathlib.Core.List.{List, [], ◌∷◌, ◌++◌, map}
use mathlib.Core.Logic.{⊎_elim}
use mathlib.Core.Path.{◌≡◌, refl, sym, ap, subst, ◌∙◌, fun_ext}
use Prim.Native.Nat.{ℕ, zero, suc, ◌+◌, ◌*◌, ◌<◌, ◌≤◌}
use native.Mathlib.Omega.{arith}
use lib.ListN.{length, get_or, replicate}
use borrow.Author.Tests.{eq-eqb, le-leb}
use Rattle.model.specs.State.{Entry}
use Rattle.model.specs.Ranges.{every, eight, in_range, terms_in_range, kept_in_range}
use Rattle.model.proofs.Tests.{of-true, is_true, split-and, le-or-lt}
use Rattle.model.proofs.Range.{to-ranges, of-eight, to-every}
use Rattle.text.specs.Text.{Text, over}
use Rattle.cluster.specs.declared.Cluster.{Cluster}
use Rattle.cluster.specs.Layout.{outline_of}
use Rattle.cluster.proofs.Laws.{get_d-same}
use Rattle.logstore.specs.Log.{pairs, log_of}
use Rattle.refinement.specs.Refinement.{Places, Full, Ready, abs}
use Rattle.refinement.specs.Rows.{Typed}
use Rattle.shown.specs.Shown.{lengths_fit, valid}
use Rattle.shown.proofs.Valid.{bounded, ready, fits-full, valid-range}
use Rattle.head.specs.Head.{head_bytes, row_at}
use Rattle.head.proofs.Back as Head
use Rattle.head.proofs.Back.{head-length, codes-back, firsts-back, row_back}
use Rattle.chains.specs.Image.{firsts_from, firsts_of, epochs_fit, holds}
use Rattle.saving.specs.Saved.{firsts_for, records_all, bytes_of, nine_lists, sum_of, firsts_by}
use Rattle.saving.proofs.Lengths.{nine-at, board-list, list_at, sized-sum, sized-most, sized-firsts}
use Rattle.saving.proofs.Back.{Linked, image-back, places-back}
use Rattle.image.specs.Image.{records_in, length_fits, numbers_fit, links_fit, verdict, row_in, places_in}
use Rattle.image.specs.Keeping.{ReadsBack}
use Rattle.image.proofs.Fitting.{lengths-range, past_end, records-are}
use Rattle.image.proofs.Writing.{lists, sized, image-is, image-length}

module _ (row : Cluster) (p : Places) (typed : Typed row) (v : valid row p ≡ true) where
  abbrev firsts : List ℕ
  firsts = firsts_by 1 (row.len ++ (row.issued ∷ []))

  abbrev head : Text
  head = head_bytes (outline_of row) firsts

  abbrev all : List (List Entry)
  all = lists row p typed.shape v

  abbrev image : Text
  image = head ++ bytes_of (records_all 1 all)

  fit : Ready row
  fit = ready row typed.shape (valid-range row p v)

  nine-firsts : length firsts ≡ 9
  unfolding firsts_for
  nine-firsts = ap length (sym (sized-firsts all row.len row.issued (sized row p typed.shape v) 1))

  firsts-right : firsts_of image ≡ firsts_for 1 all
  unfolding firsts_from
  firsts-right =
      firsts-back (outline_of row) firsts (bytes_of (records_all 1 all)) nine-firsts
      ∙ sym (sized-firsts all row.len row.issued (sized row p typed.shape v) 1)

  back : Linked all row.len row.issued image
  back = image-back all row.len row.issued (sized row p typed.shape v) head
      (head-length (outline_of row) firsts) firsts-right

  size : length image ≡ 8 * sum_of all + 258
  size =
      let e = ap length (sym (image-is row p typed.shape v)) ∙ image-length row p typed.shape v in
      omega (arith, e, sized-sum all row.len row.issued (sized row p typed.shape v))

  count : records_in image ≡ sum_of all
  count = records-are image (sum_of all) size

  long : length_fits image ≡ true
  long =
      let m = sized-most all row.len row.issued (sized row p typed.shape v) in
      rw (
        eq-eqb (length image) (8 * records_in image + 258) (omega (arith, size, count)),
        le-leb (records_in image) 4608 (omega (arith, m, count)),
      )

  masks : Head.Sized row
  masks = record {
    views = typed.shape.views;
    joined = typed.shape.joined;
    acked = typed.shape.acked;
    heard = typed.controller.heard;
    heard_joined = typed.controller.joined;
    registry_mask = typed.registry;
    controller_mask = typed.controller.members;
    view_mask = typed.views;
    heard_most = bounded 0 row.controller.heard (λ x. x) 513 typed.controller.heard (omega arith)
        (to-ranges (outline_of row) (of-true (valid-range row p v))).heard;
  }

  row-there : row_at image row.len row.issued ≡ row
  row-there = row_back row firsts (bytes_of (records_all 1 all)) row.len row.issued masks

  terms : every (map terms_in_range all) ≡ true
  terms =
      let s = abs row p in
      let k = split-and (terms_in_range s.committed) (every (eight (λ b. terms_in_range (s.log b))))
      (split-and (lengths_fit p && in_range (outline_of row)) (kept_in_range s) (of-true v)).1 in
      let log = of-eight (λ b. terms_in_range (s.log b)) k.1 in
      is_true (every (map terms_in_range all)) (to-every (map terms_in_range all)
      (log 1 tt, (log 2 tt, (log 3 tt, (log 4 tt, (log 5 tt, (log 6 tt, (log 7 tt, (log 8 tt, (k.0, tt))))))))))

  epochs : epochs_fit (records_in image) image ≡ true
  epochs = ap (λ n. epochs_fit n image) count ∙ back.epochs terms

  numbers : numbers_fit image ≡ true
  unfolding numbers_fit
  numbers =
      let r = lengths-range image row.len (replicate 8 0) row.issued 0
      (λ b. subst (λ n. n ≤ 512) (sym (get_d-same {A = ℕ} 0 9 b)) (omega arith)) (omega arith)
      (ap (λ x. in_range (outline_of x)) row-there ∙ valid-range row p v) in
      rw (codes-back (outline_of row) firsts (bytes_of (records_all 1 all)), r, epochs)

  links : links_fit image ≡ true
  unfolding links_fit
  links = ap (λ n. holds n image) count ∙ back.linked

  row-in : row_in image ≡ row
  unfolding row_in
  row-in = (λ i. row_at image (back.logs i) (back.receipts i)) ∙ row-there

  -- Places that it is read into, whatever they hold.
  module _ (q : Places) (l : lengths_fit q ≡ true) where
    abbrev read : Places
    read = places_in image q

    full : Full q
    full = fits-full row q l

    same_lists : nine_lists read.store read.store2 row.len read.list read.list2 row.issued ≡ all
    unfolding places_in over
    same_lists = places-back all row.len row.issued (sized row p typed.shape v) head
        (head-length (outline_of row) firsts) firsts-right q.store q.store2 q.list q.list2
        full.store full.store2 full.list full.list2

    -- The list i of either.
    list_same : (i : ℕ) → i < 9
        → list_at read.store read.store2 row.len read.list read.list2 row.issued i
        ≡ list_at p.store p.store2 row.len p.list p.list2 row.issued i
    unfolding nine_lists
    list_same i h =
        sym (nine-at read.store read.store2 row.len read.list read.list2 row.issued i h)
        ∙ ap (λ xss. get_or xss i []) same_lists
        ∙ nine-at p.store p.store2 row.len p.list p.list2 row.issued i h

    log-same : (b : ℕ) → (abs row read).log b ≡ (abs row p).log b
    log-same zero = refl
    log-same (suc i) = ⊎_elim
        (λ h.
        sym (board-list read.store read.store2 row.len read.list read.list2 row.issued i h)
        ∙ list_same i (omega (arith, h))
        ∙ board-list p.store p.store2 row.len p.list p.list2 row.issued i h)
        (λ h.
        let z = past_end row.len i (omega (arith, h, typed.shape.len)) in
        ap (λ n. log_of (pairs read.store read.store2) (suc i) n) z
        ∙ sym (ap (λ n. log_of (pairs p.store p.store2) (suc i) n) z))
        (le-or-lt (suc i) 8)

    state-same : abs row read ≡ abs row p
    state-same = λ j. record {
      registry = (abs row p).registry;
      controller = (abs row p).controller;
      view = (abs row p).view;
      joined = (abs row p).joined;
      acked = (abs row p).acked;
      log = fun_ext log-same j;
      committed = list_same 8 (omega arith) j;
    }

pub reads-back : ReadsBack
unfolding ReadsBack
reads-back row p t v =
    let e = image-is row p t.shape v in
    subst (λ x. (verdict x ≡ 0) × (row_in x ≡ row)
    × ((q : Places) → lengths_fit q ≡ true → abs row (places_in x q) ≡ abs row p)) (sym e)
    (rw (long row p t v, numbers row p t v, links row p t v), row-in row p t v, state-same row p t v)
