-- An image that is taken gives a row that refusal 1 lets through, with its lists in the places. Assumes nothing.
use mathlib.Core.Bool.{Bool, true, false, cond, ◌&&◌}
use mathlib.Core.List.{List, [], ◌∷◌, map}
use mathlib.Core.Logic.{⊎_elim}
use mathlib.Core.Path.{◌≡◌, refl, sym, ap, ap₂, subst, ◌∙◌}
use Prim.Native.Nat.{ℕ, zero, suc, ◌+◌, ◌-◌, ◌*◌, ◌<◌, ◌≤◌}
use native.Mathlib.Nat.{not-suc-le-zero}
use native.Mathlib.Omega.{arith}
use lib.Dec.{T, leb, eqb, eqb→eq}
use lib.ListN.{length, get_or, take, drop, replicate, length-map}
use borrow.Author.Tests.{leb-true}
use Rattle.model.specs.Members.{is_replica}
use Rattle.model.specs.State.{Entry}
use Rattle.model.specs.Ranges.{every, eight, is_epoch, in_range, terms_in_range, kept_in_range}
use Rattle.model.proofs.Tests.{of-true, is_true, split-and, join-and, le-or-lt}
use Rattle.model.proofs.Range.{to-ranges, from-ranges, to-eight}
use Rattle.cluster.specs.Layout.{at, outline_of}
use Rattle.logstore.specs.Log.{pairs, log_of}
use Rattle.logstore.proofs.Laws.{pairs-take, log-terms, take-terms}
use Rattle.refinement.specs.Refinement.{Places, Full, logged, listed, abs}
use Rattle.text.specs.Text.{Text, over}
use Rattle.text.proofs.Laws.{over-holds, over-length}
use Rattle.head.specs.Head.{row_at, codes_fit}
use Rattle.chains.specs.Chain as Chain
use Rattle.chains.specs.Chain.{is_record, up_to, chains_of}
use Rattle.chains.specs.Image.{value_of, epoch_of, values_of, epochs_of, list_of, firsts_from, epochs_fit, holds}
use Rattle.loading.specs.Read.{boards_of, receipts_of, laid}
use Rattle.loading.proofs.Boards.{sound-at}
use Rattle.loading.proofs.Laid.{laid-length, sets-after}
use Rattle.loading.proofs.Places.{list-there, rest-left}
use Rattle.shown.proofs.Valid.{fits-full, all-tests}
use Rattle.image.specs.Image.{records_in, length_fits, numbers_fit, links_fit, verdict, row_in, places_in}
use Rattle.image.specs.Keeping.{TakenFits, PastLeft}

-- A row that differs in its lengths alone is in range with it.
pub lengths-range : (s : Text) (len len' : List ℕ) (n n' : ℕ) → ((b : ℕ) → at 0 len' b ≤ 512) → n' ≤ 512
    → in_range (outline_of (row_at s len n)) ≡ true → in_range (outline_of (row_at s len' n')) ≡ true
unfolding row_at
lengths-range s len len' n n' h k e =
    let r = to-ranges (outline_of (row_at s len n)) (of-true e) in
    is_true _ (from-ranges (outline_of (row_at s len' n')) (record {
      registry = r.registry;
      controller = r.controller;
      views = r.views;
      joined = r.joined;
      heard = r.heard;
      heard_joined = r.heard_joined;
      acked = r.acked;
      logs = λ b t. h b;
      committed = k;
      named = r.named;
      reads = r.reads;
      reads_on = r.reads_on;
    }))

-- Epochs

terms-by : (xs : List Entry) → terms_in_range xs ≡ every (map is_epoch (map (λ x. x.term) xs))
terms-by [] = refl
terms-by (x ∷ xs) = ap (λ t. is_epoch x.term && t) (terms-by xs)

-- What holds of the numbers 1 to n holds of each.
up_to-at : (n : ℕ) (m : ℕ → Bool) (k : ℕ) → T (up_to n m) → 1 ≤ k → k ≤ n → T (m k)
unfolding up_to
up_to-at zero m k t a b = absurd (omega (arith, a, b))
up_to-at (suc n) m k t a b =
    let s = split-and (m (suc n)) (up_to n m) t in
    ⊎_elim (λ h. up_to-at n m k s.1 a h)
    (λ h. let e : suc n ≡ k = omega (arith, h, b) in subst (λ i. T (m i)) e s.0) (le-or-lt k n)

-- The epochs of a chain's records are in range, if those of all records are.
chain-epochs : (image : Text) (n : ℕ) (ks : List ℕ) → T (epochs_fit n image) → T (Chain.every (is_record n) ks)
    → T (every (map is_epoch (map (epoch_of image) ks)))
unfolding Chain.every
chain-epochs image n [] e t = tt
chain-epochs image n (k ∷ ks) e t =
    let s = split-and (is_record n k) (Chain.every (is_record n) ks) t in
    let r = split-and (leb 1 k) (leb k n) s.0 in
    join-and (is_epoch (epoch_of image k)) (every (map is_epoch (map (epoch_of image) ks)))
    (up_to-at n (λ j. is_epoch (epoch_of image j)) k e (leb-true 1 k (is_true (leb 1 k) r.0))
    (leb-true k n (is_true (leb k n) r.1)))
    (chain-epochs image n ks e s.1)

-- The lists in the places

pub past_end : (xs : List ℕ) (i : ℕ) → length xs ≤ i → get_or xs i 0 ≡ 0
past_end [] zero h = refl
past_end [] (suc i) h = refl
past_end (x ∷ xs) zero h = absurd (not-suc-le-zero h)
past_end (x ∷ xs) (suc i) h = past_end xs i (omega (arith, h))

module _ (image : Text) where
  -- The length of board j + 1's log in the row of an image.
  pub length_at : (j : ℕ) → j < 8 → at 0 (map length (boards_of image)) (suc j) ≡ length (list_of image j)
  unfolding chains_of firsts_from
  length_at zero h = refl
  length_at (suc zero) h = refl
  length_at (suc (suc zero)) h = refl
  length_at (suc (suc (suc zero))) h = refl
  length_at (suc (suc (suc (suc zero)))) h = refl
  length_at (suc (suc (suc (suc (suc zero))))) h = refl
  length_at (suc (suc (suc (suc (suc (suc zero)))))) h = refl
  length_at (suc (suc (suc (suc (suc (suc (suc zero))))))) h = refl
  length_at (suc (suc (suc (suc (suc (suc (suc (suc j)))))))) h = absurd (omega (arith, h))

  lengths-eight : length (map length (boards_of image)) ≡ 8
  unfolding chains_of firsts_from
  lengths-eight = refl

  module _ (n : ℕ) (ok : holds n image ≡ true) (e : T (epochs_fit n image)) (p : Places) (f : Full p) where
    own : (j : ℕ) → j < 8 → T (terms_in_range (log_of (logged (places_in image p)) (suc j) (length (list_of image j))))
    unfolding places_in
    own j h =
        let vs = laid p.store 0 (map (values_of image) (boards_of image)) in
        let ts = laid p.store2 0 (map (epochs_of image) (boards_of image)) in
        let l : length vs ≡ length ts =
        laid-length p.store 0 _ ∙ f.store ∙ sym f.store2 ∙ sym (laid-length p.store2 0 _) in
        let m = length (list_of image j) in
        let z : suc j - 1 ≡ j = omega arith in
        let g : map (λ x. x.term) (log_of (pairs vs ts) (suc j) m) ≡ map (epoch_of image) (list_of image j) =
        log-terms vs ts (suc j) m l ∙ ap (λ i. take m (drop (512 * i) ts)) z
        ∙ list-there (epoch_of image) image n ok p.store2 j h f.store2 in
        of-true (terms-by (log_of (pairs vs ts) (suc j) m) ∙ ap (λ xs. every (map is_epoch xs)) g
        ∙ is_true (every (map is_epoch (map (epoch_of image) (list_of image j))))
        (chain-epochs image n (list_of image j) e (of-true (sound-at n image j (omega (arith, h)) ok).records)))

    given : T (terms_in_range (take (length (receipts_of image)) (listed (places_in image p))))
    unfolding places_in
    given =
        let ks = receipts_of image in
        let vs = over p.list 0 (values_of image ks) in
        let ts = over p.list2 0 (epochs_of image ks) in
        let l : length vs ≡ length ts =
        over-length p.list 0 (values_of image ks) ∙ f.list ∙ sym f.list2
        ∙ sym (over-length p.list2 0 (epochs_of image ks)) in
        let s = sound-at n image 8 (omega arith) ok in
        let c : length (map (epoch_of image) ks) ≡ length ks = length-map ks (epoch_of image) in
        let g : map (λ x. x.term) (take (length ks) (pairs vs ts)) ≡ map (epoch_of image) ks =
        take-terms vs ts (length ks) l ∙ ap (λ i. take i ts) (sym c)
        ∙ over-holds p.list2 0 (map (epoch_of image) ks) (omega (arith, c, s.short, f.list2)) in
        of-true (terms-by (take (length ks) (pairs vs ts)) ∙ ap (λ xs. every (map is_epoch xs)) g
        ∙ is_true (every (map is_epoch (map (epoch_of image) ks))) (chain-epochs image n ks e (of-true s.records)))

    replica-own : (b : ℕ) → T (is_replica b) → T (terms_in_range ((abs (row_in image) (places_in image p)).log b))
    unfolding row_in row_at
    replica-own zero t = absurd t
    replica-own (suc j) t =
        let s = split-and (leb 1 (suc j)) (leb (suc j) 8) t in
        let h : j < 8 = leb-true (suc j) 8 (is_true (leb (suc j) 8) s.1) in
        subst (λ i. T (terms_in_range (log_of (logged (places_in image p)) (suc j) i))) (sym (length_at j h)) (own j h)

    pub kept-fit : T (kept_in_range (abs (row_in image) (places_in image p)))
    unfolding row_in row_at
    kept-fit =
        let s = abs (row_in image) (places_in image p) in
        join-and (terms_in_range s.committed) (every (eight (λ b. terms_in_range (s.log b)))) given
        (to-eight (λ b. terms_in_range (s.log b)) replica-own)

-- Places keep their lengths.
pub places-full : (image : Text) (p : Places) → Full p → Full (places_in image p)
unfolding places_in
places-full image p f = record {
  store = laid-length p.store 0 (map (values_of image) (boards_of image)) ∙ f.store;
  store2 = laid-length p.store2 0 (map (epochs_of image) (boards_of image)) ∙ f.store2;
  list = over-length p.list 0 (values_of image (receipts_of image)) ∙ f.list;
  list2 = over-length p.list2 0 (epochs_of image (receipts_of image)) ∙ f.list2;
}

-- The verdict

pub record Taken (image : Text) : Type 0 where
  pub long : length_fits image ≡ true
  pub numbers : numbers_fit image ≡ true
  pub links : links_fit image ≡ true

pub taken-parts : (image : Text) → verdict image ≡ 0 → Taken image
taken-parts image = go (length_fits image) (numbers_fit image) (links_fit image) refl refl refl
  where
    go : (a b c : Bool) → length_fits image ≡ a → numbers_fit image ≡ b → links_fit image ≡ c
        → ◌≡◌ {A = ℕ} (cond a (cond b (cond c 0 19) 18) 17) 0 → Taken image
    go true true true x y z e = record { long = x; numbers = y; links = z }
    go true true false x y z e = absurd (omega (arith, e))
    go true false c x y z e = absurd (omega (arith, e))
    go false b c x y z e = absurd (omega (arith, e))

module _ (image : Text) (v : verdict image ≡ 0) where
  linked : holds (records_in image) image ≡ true
  unfolding links_fit
  linked = (taken-parts image v).links

  numbered : T (in_range (outline_of (row_at image (replicate 8 0) 0))) × T (epochs_fit (records_in image) image)
  unfolding numbers_fit
  numbered =
      let row = in_range (outline_of (row_at image (replicate 8 0) 0)) in
      let s = split-and (codes_fit image && row) (epochs_fit (records_in image) image)
      (of-true (taken-parts image v).numbers) in
      ((split-and (codes_fit image) row s.0).1, s.1)

  short-at : (b : ℕ) → at 0 (map length (boards_of image)) b ≤ 512
  short-at zero = omega arith
  short-at (suc j) = ⊎_elim
      (λ h. let k : j < 9 = omega (arith, h) in
      subst (λ i. i ≤ 512) (sym (length_at image j h)) (sound-at (records_in image) image j k linked).short)
      (λ h. let z = past_end (map length (boards_of image)) j (omega (arith, h, lengths-eight image)) in
      omega (arith, z))
      (le-or-lt (suc j) 8)

  pub range-fit : in_range (outline_of (row_in image)) ≡ true
  unfolding row_in
  range-fit = lengths-range image (replicate 8 0) (map length (boards_of image)) 0 (length (receipts_of image))
      short-at (sound-at (records_in image) image 8 (omega arith) linked).short (is_true _ numbered.0)

pub taken-fits : TakenFits
unfolding TakenFits
taken-fits image p v l =
    let f = fits-full (row_in image) p l in
    all-tests (row_in image) (places_in image p) (places-full image p f) (range-fit image v)
    ∙ is_true (kept_in_range (abs (row_in image) (places_in image p)))
    (kept-fit image (records_in image) (linked image v) (numbered image v).1 p f)

-- No place past a list is another.
pub past-left : PastLeft
unfolding PastLeft places_in row_in row_at over
past-left image p v l =
    let n = records_in image in
    let ok = linked image v in
    let ks = receipts_of image in (
      λ b i h k m g.
          let e : suc (b - 1) ≡ b = omega (arith, h) in
          let s : length (list_of image (b - 1)) ≤ i =
          subst (λ x. x ≤ i) (ap (at 0 (map length (boards_of image))) (sym e)
          ∙ length_at image (b - 1) (omega (arith, h, k))) m in (
            rest-left (value_of image) image n ok p.store (b - 1) (omega (arith, h, k)) i g s,
            rest-left (epoch_of image) image n ok p.store2 (b - 1) (omega (arith, h, k)) i g s,
          ),
      λ i m. (
        sets-after p.list 0 (values_of image ks) i (omega (arith, m, length-map ks (value_of image))),
        sets-after p.list2 0 (epochs_of image ks) i (omega (arith, m, length-map ks (epoch_of image))),
      ),
    )

-- An image of n records has n.
pub records-are : (image : Text) (n : ℕ) → length image ≡ 8 * n + 258 → records_in image ≡ n
records-are image n e = omega (arith, e)

-- One whose length fits has as many bytes as it should, and not too many records.
pub long-enough : (image : Text) → length_fits image ≡ true
    → (length image ≡ 8 * records_in image + 258) × (records_in image ≤ 4608)
long-enough image e =
    let s = split-and (eqb (length image) (8 * records_in image + 258)) (leb (records_in image) 4608) (of-true e) in (
      eqb→eq (length image) (8 * records_in image + 258) s.0,
      leb-true (records_in image) 4608 (is_true (leb (records_in image) 4608) s.1),
    )

-- The receipts of an image, where they were read to.
pub receipts-there : (image : Text) → verdict image ≡ 0 → (p : Places) → Full p
    → take (row_in image).issued (listed (places_in image p))
    ≡ pairs (values_of image (receipts_of image)) (epochs_of image (receipts_of image))
unfolding row_in row_at places_in
receipts-there image v p f =
    let ks = receipts_of image in
    let s = (sound-at (records_in image) image 8 (omega arith) (linked image v)).short in
    let c : length (values_of image ks) ≡ length ks = length-map ks (value_of image) in
    let d : length (epochs_of image ks) ≡ length ks = length-map ks (epoch_of image) in
    pairs-take (length ks) (over p.list 0 (values_of image ks)) (over p.list2 0 (epochs_of image ks))
    ∙ ap₂ pairs
    (ap (λ n. take n (over p.list 0 (values_of image ks))) (sym c)
    ∙ over-holds p.list 0 (values_of image ks) (omega (arith, c, s, f.list)))
    (ap (λ n. take n (over p.list2 0 (epochs_of image ks))) (sym d)
    ∙ over-holds p.list2 0 (epochs_of image ks) (omega (arith, d, s, f.list2)))
