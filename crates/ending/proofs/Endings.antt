-- The ending of a listing: its parts from the row and the list, and how long it is. Assumes nothing.
use mathlib.Core.Bool.{Bool, true}
use mathlib.Core.List.{List, [], ◌∷◌, ◌++◌, append-nil, append_assoc}
use mathlib.Core.Path.{◌≡◌, refl, sym, ap, ◌∙◌}
use Prim.Native.Nat.{ℕ, zero, suc, ◌+◌, ◌-◌, ◌*◌, ◌^◌, ◌<◌, ◌≤◌}
use native.Mathlib.Numerals.{add-one}
use native.Mathlib.Omega.{arith}
use lib.Dec.{T}
use lib.ListN.{length, get_or, take, drop, length-append, length-take}
use lib.Seq.{take-suc}
use Rattle.std.proofs.Common.{take-append-drop, Fits, w32}
use Rattle.model.specs.Members.{is_replica}
use Rattle.model.specs.State as M
use Rattle.model.specs.State.{Entry, entry}
use Rattle.model.specs.Ranges.{is_epoch, in_range, terms_in_range}
use Rattle.model.proofs.Tests.{of-true, split-and}
use Rattle.model.proofs.Quorum.{replica-range}
use Rattle.model.proofs.Made.{All, Word}
use Rattle.model.proofs.Range.{InRange, epoch-of, to-ranges}
use Rattle.logstore.specs.Log.{pairs}
use Rattle.logstore.proofs.Laws.{pairs-length, pairs-at, pairs-take}
use Rattle.cluster.specs.declared.Cluster.{Cluster}
use Rattle.cluster.specs.Layout.{view_of, no_view, outline_of}
use Rattle.cluster.proofs.Laws.{at-index}
use Rattle.text.specs.declared.Page.{Page}
use Rattle.text.specs.Text.{Puts, HasRoom, each_of, digits}
use Rattle.text.proofs.Laws.{room_as, room-first, room-rest, digits-most-4, digits-most-10}
use Rattle.lines.specs.Lines.{word, space, newline, board_text, receipt_text, registry_line, control_line}
use Rattle.lines.proofs.Eights.{eight-each}
use Rattle.lines.proofs.Lengths.{three-digits, eight-most, registry-most, control-most, board-most}
use Rattle.mark.specs.Mark.{late, late_in}
use Rattle.ending.specs.Ending.{board_line, board_lines, receipts_text, receipts_line, ending}

-- The line of the replica b, from its place in the row's arrays.
pub board-line-is : (row : Cluster) (b i : ℕ) (l : Bool) → 1 ≤ b → i ≡ b - 1
    → l ≡ late (view_of (get_or row.views i no_view)) (get_or row.joined i 0) (view_of row.registry.view)
    → board_line (outline_of row) b
    ≡ board_text b (view_of (get_or row.views i no_view)) (get_or row.joined i 0) (get_or row.len i 0) l
unfolding board_line
board-line-is row b i l h e q =
    rw (q, e, at-index no_view row.views b h, at-index 0 row.joined b h, at-index 0 row.len b h)

-- The lines of the eight, as a loop writes them.
pub board-lines-each : (m : M.Outline) → board_lines m ≡ each_of (λ k. board_line m (k + 1)) 8
unfolding board_lines
board-lines-each m = eight-each (board_line m)

-- Receipts, one after the other

receipts-append : (xs ys : List Entry) → receipts_text (xs ++ ys) ≡ receipts_text xs ++ receipts_text ys
unfolding receipts_text
receipts-append [] ys = refl
receipts-append (x ∷ xs) ys =
    rw (receipts-append xs ys, append_assoc (receipt_text x) (receipts_text xs) (receipts_text ys))

-- The first i receipts and then the next are the first i + 1.
pub receipts-next : (s : List Entry) (i : ℕ) → i < length s
    → receipts_text (take (i + 1) s) ≡ receipts_text (take i s) ++ (space ++ receipt_text (get_or s i (entry 0 0)))
unfolding receipts_text
receipts-next s i h =
    let x = get_or s i (entry 0 0) in
    rw (add-one i, take-suc s i (entry 0 0) h, receipts-append (take i s) (x ∷ []), append-nil (receipt_text x))

-- Receipts of values and terms: the one at place i, v and t.
module _ (vs ts : List ℕ) (i v t : ℕ) (same : length vs ≡ length ts) (h : i < length vs) (p : v ≡ get_or vs i 0)
    (q : t ≡ get_or ts i 0) where
  pub entries-next : receipts_text (take (i + 1) (pairs vs ts))
      ≡ receipts_text (take i (pairs vs ts)) ++ (space ++ receipt_text (entry v t))
  entries-next =
      receipts-next (pairs vs ts) i (omega (arith, pairs-length vs ts same))
      ∙ rw (pairs-at vs ts i same, p, q)

  -- Room for all is room for it, once those before it are written.
  pub entries-room : {x y : Page} → Puts x (receipts_text (take i (pairs vs ts))) y
      → HasRoom x (receipts_text (pairs vs ts)) → HasRoom y (space ++ receipt_text (entry v t))
  entries-room {x} {y} w r =
      let s = pairs vs ts in
      let one = space ++ receipt_text (entry v t) in
      let front = receipts_text (take i s) in
      let whole : receipts_text s ≡ front ++ (one ++ receipts_text (drop (i + 1) s)) =
      ap receipts_text (sym (take-append-drop (i + 1) s)) ∙ receipts-append (take (i + 1) s) (drop (i + 1) s)
      ∙ rw (entries-next, append_assoc front one (receipts_text (drop (i + 1) s))) in
      room-first y one (receipts_text (drop (i + 1) s)) (room-rest front _ w (room_as x whole r))

pub receipts_none : receipts_text [] ≡ []
unfolding receipts_text
receipts_none = refl

-- The line of as many receipts as there are values.
pub receipts-line-is : (vs ts : List ℕ) → length vs ≡ length ts
    → receipts_line (pairs vs ts) ≡ word "receipts " ++ (digits (length vs) ++ (receipts_text (pairs vs ts) ++ newline))
unfolding receipts_line
receipts-line-is vs ts e = rw (pairs-length vs ts e)

-- For the writers of receipts.
pub ruleset receipts = (receipts_none, pairs-length, pairs-take)

-- How long it is

-- The words that begin three of its lines are 26 bytes.
pub ending-least : (m : M.Outline) (xs : List Entry) → 20 ≤ length (ending m xs)
unfolding ending registry_line control_line receipts_line
ending-least m xs = simp length-append (omega arith)

-- A receipt has at most sixteen bytes: a space, ten digits, `@`, four digits.
receipts-most : (xs : List Entry) → All Word xs → T (terms_in_range xs) → length (receipts_text xs) ≤ 16 * length xs
unfolding receipts_text receipt_text
receipts-most [] h k = omega arith
receipts-most (x ∷ xs) h k =
    let z = split-and (is_epoch x.term) (terms_in_range xs) k in
    simp length-append (omega (
      arith,
      digits-most-10 x.value h.0,
      digits-most-4 x.term (omega (arith, epoch-of x.term z.0)),
      receipts-most xs h.1 z.1,
    ))

line-of-receipts : (xs : List Entry) → length xs ≤ 512 → length (receipts_line xs) ≤ 13 + length (receipts_text xs)
unfolding receipts_line
line-of-receipts xs h = simp length-append (omega (arith, three-digits (length xs) h))

module _ (m : M.Outline) (xs : List Entry) (ranges : in_range m ≡ true) (few : length xs ≤ 512) (words : All Word xs)
    (kept : terms_in_range xs ≡ true) where
  all : InRange m
  all = to-ranges m (of-true ranges)

  line-most : (b : ℕ) → T (is_replica b) → length (board_line m b) ≤ 46
  unfolding board_line
  line-most b t =
      board-most b (m.view b) (m.joined b) (m.len b) (late_in m b)
      (replica-range b t).1 (all.views b t) (all.joined b t).1 (all.logs b t)

  boards-most : length (board_lines m) ≤ 368
  unfolding board_lines
  boards-most =
      eight-most 46 (board_line m) (line-most 1 tt) (line-most 2 tt) (line-most 3 tt) (line-most 4 tt) (line-most 5 tt)
      (line-most 6 tt) (line-most 7 tt) (line-most 8 tt)

  pub ending-most : length (ending m xs) ≤ 8650
  unfolding ending
  ending-most =
      simp length-append (omega (
        arith,
        registry-most m.registry all.registry,
        control-most m.controller all.controller,
        boards-most,
        line-of-receipts xs few,
        receipts-most xs words (of-true kept),
        few,
      ))

-- Numbers of 32 bits make such receipts.
pub words-taken : (vs ts : List ℕ) (n : ℕ) → ((i : ℕ) → get_or vs i 0 < 2 ^ 32) → All Word (take n (pairs vs ts))
words-taken vs ts zero h = tt
words-taken [] ts (suc n) h = tt
words-taken (v ∷ vs) [] (suc n) h = tt
words-taken (v ∷ vs) (t ∷ ts) (suc n) h = (h 0, words-taken vs ts n (λ i. h (suc i)))

-- So the ending of a row in range is short.
pub ending-fits : (row : Cluster) (vs ts : List ℕ) → in_range (outline_of row) ≡ true
    → terms_in_range (take row.issued (pairs vs ts)) ≡ true → ((i : ℕ) → Fits w32 (get_or vs i 0))
    → length (ending (outline_of row) (take row.issued (pairs vs ts))) ≤ 8650
ending-fits row vs ts h k w =
    let few = (to-ranges (outline_of row) (of-true h)).committed in
    ending-most (outline_of row) (take row.issued (pairs vs ts)) h
    (omega (arith, few, length-take row.issued (pairs vs ts))) (words-taken vs ts row.issued (λ i. omega (arith, w i))) k
