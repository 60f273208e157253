-- How long a line is, and how long at most. Assumes nothing.
use mathlib.Core.Bool.{Bool, true, false, cond, ◌||◌, and-eq-true_iff, false≢true}
use mathlib.Core.List.{[], ◌∷◌, ◌++◌}
use mathlib.Core.Path.{◌≡◌, refl}
use Prim.Native.Nat.{ℕ, ◌+◌, ◌*◌, ◌≤◌, ◌<◌}
use native.Mathlib.Omega.{arith}
use lib.Dec.{eqb}
use lib.ListN.{length, length-append}
use borrow.Author.Tests.{eqb-true}
use Rattle.model.specs.Members.{Members, bit, size}
use Rattle.model.specs.State as M
use Rattle.model.proofs.Range.{ViewInRange}
use Rattle.members.proofs.Laws.{size-le}
use Rattle.text.specs.Text.{Text, digits}
use Rattle.text.proofs.Laws.{digits-most, digits-most-10}
use Rattle.lines.specs.Lines.{word, space, newline, eight, member_text, members_text, view_text, status_word, stage_word, late_word, has_fourth, fourth_field, answer_line, registry_line, control_line, board_text}

-- A line by its numbers and its fourth field.
pub line-length : (k n a : ℕ) (q : Members)
    → length (answer_line k n a q)
    ≡ length (digits k) + length (digits n) + length (digits a) + length (fourth_field n a q) + 3
unfolding answer_line
line-length k n a q = omega (
  arith,
  length-append (digits k) (space ++ (digits n ++ (space ++ (digits a ++ (fourth_field n a q ++ newline))))),
  length-append (digits n) (space ++ (digits a ++ (fourth_field n a q ++ newline))),
  length-append (digits a) (fourth_field n a q ++ newline),
  length-append (fourth_field n a q) newline,
)

-- Eight texts of at most n bytes each.
pub eight-most :
    (n : ℕ) (text : ℕ → Text) → length (text 1) ≤ n → length (text 2) ≤ n → length (text 3) ≤ n → length (text 4) ≤ n
    → length (text 5) ≤ n → length (text 6) ≤ n → length (text 7) ≤ n → length (text 8) ≤ n
    → length (eight text) ≤ 8 * n
eight-most n text a b c d e f g h = simp length-append (omega (arith, a, b, c, d, e, f, g, h))

member-most : (t : Bool) (x : ℕ) → length (cond {A = Text} t (x ∷ []) []) ≤ 1
member-most true x = omega arith
member-most false x = omega arith

pub members-most : (m : Members) → length (members_text m) ≤ 8
unfolding members_text
members-most m =
    eight-most 1 (member_text m) (member-most (m 1) 49) (member-most (m 2) 50) (member-most (m 3) 51)
    (member-most (m 4) 52) (member-most (m 5) 53) (member-most (m 6) 54) (member-most (m 7) 55) (member-most (m 8) 56)

-- A set has a digit for each of its members.
member-length : (t : Bool) (x : ℕ) → length (cond {A = Text} t (x ∷ []) []) ≡ bit t
member-length true x = refl
member-length false x = refl

pub members-length : (m : Members) → length (members_text m) ≡ size m
unfolding members_text
members-length m =
    simp length-append (omega (
      arith,
      member-length (m 1) 49,
      member-length (m 2) 50,
      member-length (m 3) 51,
      member-length (m 4) 52,
      member-length (m 5) 53,
      member-length (m 6) 54,
      member-length (m 7) 55,
      member-length (m 8) 56,
    ))

-- The fourth field, where a line has none and where it has one.
module _ (n a : ℕ) (q : Members) where
  pub fourth-none : has_fourth n a ≡ false → fourth_field n a q ≡ []
  unfolding fourth_field
  fourth-none e = rw e

  pub fourth-some : has_fourth n a ≡ true → fourth_field n a q ≡ space ++ members_text q
  unfolding fourth_field
  fourth-some e = rw e

-- For the length of a line; for a writer of the field, or of its length.
pub ruleset one_line = (line-length, digits-most-10)

pub ruleset fourth = (fourth-none, fourth-some, members-length, size-le)

-- A line that has one is of an accepted step, whose number has two digits at most.
pub fourth-of : (n a : ℕ) → has_fourth n a ≡ true → (a ≡ 0) × (n < 16)
fourth-of n a e =
    let h = (and-eq-true_iff (eqb a 0) (eqb n 2 || (eqb n 13 || eqb n 15))).0 e in
    (eqb-true a 0 h.0, go (eqb n 2) (eqb n 13) (eqb n 15) refl refl refl h.1)
  where
    go : (t u v : Bool) → eqb n 2 ≡ t → eqb n 13 ≡ u → eqb n 15 ≡ v → (t || (u || v)) ≡ true → n < 16
    go true u v p q r z = omega (arith, eqb-true n 2 p)
    go false true v p q r z = omega (arith, eqb-true n 13 q)
    go false false true p q r z = omega (arith, eqb-true n 15 r)
    go false false false p q r z = absurd (false≢true z)

-- The parts of a view, of a line and of a replica's line, as any texts.
of-view : (e t l m : Text) → length e ≤ 4 → length t ≤ 4 → length l ≤ 1 → length m ≤ 8
    → length (e ++ (space ++ (t ++ (space ++ (l ++ (space ++ m)))))) ≤ 20
of-view e t l m he ht hl hm = simp length-append (omega arith)

of-line : (n : ℕ) (w v g : Text) → length w ≤ n → length v ≤ 20 → length g ≤ 8
    → length (w ++ (v ++ (space ++ (g ++ newline)))) ≤ n + 30
of-line n w v g hw hv hg = simp length-append (omega arith)

of-board :
    (b v j l t : Text) → length b ≤ 1 → length v ≤ 20 → length j ≤ 4 → length l ≤ 3 → length t ≤ 7
    → length
    (word "board " ++ (b ++ (space ++ (v ++ (space ++ (j ++ (space ++ (l ++ (space ++ (t ++ newline)))))))))) ≤ 46
of-board b v j l t hb hv hj hl ht = simp length-append (omega arith)

one-digit : (n : ℕ) → n ≤ 8 → length (digits n) ≤ 1
one-digit n h = digits-most 0 n (omega arith)

pub three-digits : (n : ℕ) → n ≤ 512 → length (digits n) ≤ 3
three-digits n h = digits-most 2 n (omega arith)

four-digits : (n : ℕ) → n ≤ 4000 → length (digits n) ≤ 4
four-digits n h = digits-most 3 n (omega arith)

pub view-most : (v : M.View) → ViewInRange v → length (view_text v) ≤ 20
unfolding view_text
view-most v r =
    of-view (digits v.epoch) (digits v.term) (digits v.leader) (members_text v.members)
    (four-digits v.epoch r.epoch.1) (four-digits v.term r.term.1)
    (one-digit v.leader r.leader) (members-most v.members)

status-most : (g : M.Status) → length (status_word g) ≤ 8
status-most M.normal = omega arith
status-most M.waiting = omega arith
status-most M.Status.choosing = omega arith

stage-most : (g : M.Stage) → length (stage_word g) ≤ 8
stage-most M.idle = omega arith
stage-most M.Stage.leader = omega arith
stage-most M.boards = omega arith
stage-most M.Stage.choosing = omega arith

late-most : (t : Bool) → length (late_word t) ≤ 7
late-most true = omega arith
late-most false = omega arith

pub registry-most : (r : M.Registry) → ViewInRange r.view → length (registry_line r) ≤ 39
unfolding registry_line
registry-most r v =
    of-line 9 (word "registry ") (view_text r.view) (status_word r.status) (omega arith) (view-most r.view v)
    (status-most r.status)

pub control-most : (c : M.Controller) → ViewInRange c.view → length (control_line c) ≤ 38
unfolding control_line
control-most c v =
    of-line 8 (word "control ") (view_text c.view) (stage_word c.stage) (omega arith) (view-most c.view v)
    (stage-most c.stage)

pub board-most : (b : ℕ) (v : M.View) (joined len : ℕ) (late : Bool) → b ≤ 8 → ViewInRange v → joined ≤ 4000 → len ≤ 512
    → length (board_text b v joined len late) ≤ 46
unfolding board_text
board-most b v joined len late h r j l =
    of-board (digits b) (view_text v) (digits joined) (digits len) (late_word late) (one-digit b h) (view-most v r)
    (four-digits joined j) (three-digits len l) (late-most late)
