-- The phrase list of document 02, Paper 5: "a fixed list of phrases: the step's name, the boards and value it uses,
-- then `accepted` or the reason". docs/PHRASES.md prints it. Cited by Line, Layout, Describe and the
-- contracts. Assumes nothing.
use Rattle.std.specs.Prelude.{Bool, false, cond, ◌&&◌, ◌||◌, List, [], ◌∷◌, ℕ, eqb, get_or}
use Prim.Native.String.{String}

-- The steps

-- A step in words: what stands before the number of its board, and what after it.
pub record Form : Type 0 where
  pub lead : String
  pub trail : String

infix 30 ◌…◌
abbrev pub ◌…◌ : String → String → Form
◌…◌ x y = record { lead = x; trail = y }

-- What stands before the bytes of "a record malformed by itself".
abbrev pub malformed : Form
malformed = "record" … ""

-- The steps by number, from 0 on, and at 16 what is no step. Steps 1 and 9 have a second number, at the end.
abbrev pub forms : List Form
forms =
    ("opening with board " … "")
    ∷ ("board " … " appends value ")
    ∷ ("board " … " gives a receipt")
    ∷ ("add board " … "")
    ∷ ("remove board " … "")
    ∷ ("change leader" … "")
    ∷ ("board " … " takes news")
    ∷ ("board " … " joins")
    ∷ ("board " … " receives an entry")
    ∷ ("board " … " counts board ")
    ∷ ("controller takes news" … "")
    ∷ ("controller reads leader" … "")
    ∷ ("controller reads board " … "")
    ∷ ("set normal" … "")
    ∷ ("controller hears board " … "")
    ∷ ("install board " … "")
    ∷ malformed
    ∷ []

abbrev pub no_step : ℕ
no_step = 16

abbrev pub form_of : ℕ → Form
form_of k = get_or forms k malformed

-- The answers

-- A phrase: its answer, the steps that it is for, its words.
pub record Reason : Type 0 where
  pub answer : ℕ
  pub steps : List ℕ
  pub phrase : String

abbrev pub of : ℕ → List ℕ → String → Reason
of n ks p = record { answer = n; steps = ks; phrase = p }

-- A phrase for every step, and for a malformed record.
abbrev pub any : ℕ → String → Reason
any n p = of n (0 ∷ 1 ∷ 2 ∷ 3 ∷ 4 ∷ 5 ∷ 6 ∷ 7 ∷ 8 ∷ 9 ∷ 10 ∷ 11 ∷ 12 ∷ 13 ∷ 14 ∷ 15 ∷ no_step ∷ []) p

-- The phrases, in the order of their answers. One number means different things in different steps: the phrases of
-- single steps stand before the one for any. A new answer is a new line here.
abbrev pub reasons : List Reason
reasons =
    (any 0 "accepted")
    ∷ (of 1 (0 ∷ []) "an opening stands first and nowhere else")
    ∷ (of 1 (no_step ∷ []) "these eight bytes are no step")
    ∷ (any 1 "the row or the memory for it is not valid")
    ∷ (any 2 "the sheet has a wrong length or no valid opening")
    ∷ (any 3 "the text is longer than the room for it")
    ∷ (of 4 (3 ∷ 4 ∷ []) "a leader is being chosen")
    ∷ (of 4 (5 ∷ []) "the registry's status is not normal")
    ∷ (any 4 "the registry's status does not allow it")
    ∷ (of 5 (3 ∷ []) "the board is a member already")
    ∷ (of 5 (4 ∷ []) "the board is not a member")
    ∷ (of 5 (7 ∷ []) "it is not a member in its own view")
    ∷ (of 5 (8 ∷ []) "its own view or its leader's does not have it as a member")
    ∷ (of 5 (9 ∷ []) "the counted board is not a member in its own view")
    ∷ (of 5 (12 ∷ 14 ∷ 15 ∷ []) "the board is not a member in the controller's view")
    ∷ (any 5 "membership does not allow it")
    ∷ (of 6 (4 ∷ []) "the board is the leader")
    ∷ (of 6 (5 ∷ []) "there are fewer than two members")
    ∷ (of 6 (12 ∷ []) "the board is the leader in the controller's view")
    ∷ (any 6 "the leader does not allow it")
    ∷ (any 7 "the registry's epochs are used up")
    ∷ (of 8 (1 ∷ 2 ∷ []) "it is not the leader in its own view")
    ∷ (of 8 (9 ∷ []) "the counting board is not the leader in its own view")
    ∷ (any 8 "a board is not the leader in its own view")
    ∷ (of 9 (7 ∷ 8 ∷ []) "it follows no other board")
    ∷ (any 9 "a board follows no other board")
    ∷ (of 10 (7 ∷ 8 ∷ []) "its leader has another leader epoch")
    ∷ (of 10 (9 ∷ []) "the two boards have different leader epochs")
    ∷ (any 10 "the leader epochs differ")
    ∷ (of 11 (7 ∷ []) "it has joined under its leader epoch already")
    ∷ (of 11 (8 ∷ []) "it has not joined under its leader epoch yet")
    ∷ (of 11 (9 ∷ []) "the counted board has not joined under its leader epoch yet")
    ∷ (of 11 (12 ∷ []) "the board last joined under another leader epoch")
    ∷ (any 11 "joining does not allow it")
    ∷ (of 12 (2 ∷ []) "its log is not longer than the receipts")
    ∷ (of 12 (6 ∷ 10 ∷ []) "it has the newest news already")
    ∷ (of 12 (8 ∷ []) "its log is not shorter than its leader's")
    ∷ (of 12 (9 ∷ []) "the counted board's log is not longer than the count")
    ∷ (of 12 (12 ∷ 14 ∷ []) "the board's log is not longer than heard before")
    ∷ (any 12 "nothing is due")
    ∷ (of 13 (1 ∷ []) "its log is full")
    ∷ (any 13 "a log is full")
    ∷ (of 14 (2 ∷ []) "its counts show no majority of members with the next entry")
    ∷ (of 14 (13 ∷ []) "no majority of members is heard at the leader's heard length or above")
    ∷ (of 14 (15 ∷ []) "no majority that has the board is heard with none ranked above it")
    ∷ (any 14 "there is no majority for it")
    ∷ (of 15 (11 ∷ []) "the controller is not at stage leader")
    ∷ (of 15 (12 ∷ 13 ∷ []) "the controller is not at stage boards")
    ∷ (of 15 (14 ∷ 15 ∷ []) "the controller is not at stage choosing")
    ∷ (any 15 "the controller is at another stage")
    ∷ (of 16 (11 ∷ []) "the leader board's epoch is not the controller's")
    ∷ (of 16 (14 ∷ []) "the board's epoch is not the controller's")
    ∷ (of 16 (13 ∷ 15 ∷ []) "the controller's epoch is not the registry's")
    ∷ (any 16 "the epochs differ")
    ∷ (any 17 "the image has a wrong length")
    ∷ (any 18 "a number in the image is not valid")
    ∷ (any 19 "the records in the image are wrongly linked")
    ∷ []

abbrev pub has : ℕ → List ℕ → Bool
has k [] = false
has k (n ∷ ns) = eqb k n || has k ns

-- Whether a phrase is for the answer a to the step k.
abbrev pub is_for : ℕ → ℕ → Reason → Bool
is_for k a r = eqb a r.answer && has k r.steps

-- The first phrase that is.
unfoldable pub phrase_in : List Reason → ℕ → ℕ → String
phrase_in [] k a = ""
phrase_in (r ∷ rs) k a = cond (is_for k a r) r.phrase (phrase_in rs k a)

-- "An answer not on it": whether some phrase is of the answer a.
unfoldable pub is_listed_in : List Reason → ℕ → Bool
is_listed_in [] a = false
is_listed_in (r ∷ rs) a = eqb a r.answer || is_listed_in rs a

abbrev pub is_listed : ℕ → Bool
is_listed a = is_listed_in reasons a
