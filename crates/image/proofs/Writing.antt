-- The image of a row, and what the writer hands back and leaves. Assumes nothing.
use mathlib.Core.Bool.{Bool, true, false}
use mathlib.Core.List.{List, [], ◌∷◌, ◌++◌}
use mathlib.Core.Path.{◌≡◌, refl, sym, ap, ◌∙◌}
use Prim.Native.Nat.{ℕ, zero, suc, ◌+◌, ◌-◌, ◌*◌, ◌≤◌}
use native.Mathlib.Omega.{arith}
use lib.Dec.{T, leb}
use lib.ListN.{length, take, drop, length-append}
use Rattle.model.specs.Members.{is_replica}
use Rattle.model.specs.State.{Entry, RowState, outline}
use Rattle.model.proofs.Tests.{of-true}
use Rattle.model.proofs.Range.{to-ranges}
use Rattle.std.specs.Prelude.{Ok, Err}
use Rattle.refusal.specs.declared.Refusal.TheVariants.{Invalid, Room}
use Rattle.text.specs.declared.Page.{Page}
use Rattle.text.specs.Text.{Text, over, Puts, HasRoom}
use Rattle.text.proofs.Laws.{puts-then, puts-length}
use Rattle.cluster.specs.declared.Cluster.{Cluster}
use Rattle.cluster.specs.Layout.{at, outline_of}
use Rattle.refinement.specs.Refinement.{Places, Full, Shape, Ready, logged, listed, abs}
use Rattle.shown.specs.Shown.{valid}
use Rattle.shown.proofs.Valid.{ready, valid-full, valid-range}
use Rattle.head.specs.Head.{head_bytes}
use Rattle.head.proofs.Back.{head-length}
use Rattle.saving.specs.Saved.{firsts_for, records_all, bytes_of, nine_lists, sum_of, sum_by, firsts_by}
use Rattle.saving.proofs.Lengths.{Sized, nine-sized, sized-sum, sized-firsts, sum-most as nine-most}
use Rattle.saving.proofs.Bytes.{bytes-length}
use Rattle.image.specs.Image.{lists_of, image_of}
use Rattle.image.specs.Keeping.{saved, Saves, ImagesTell}

-- No head looks at the lists.
head-same : (row : Cluster) (p : Places) (firsts : List ℕ)
    → head_bytes (outline (abs row p)) firsts ≡ head_bytes (outline_of row) firsts
unfolding head_bytes
head-same row p firsts = refl

-- The nine lists of a row that refusal 1 lets through have its lengths.
module _ (row : Cluster) (p : Places) (shape : Shape row) (v : valid row p ≡ true) where
  abbrev pub lists : List (List Entry)
  lists = lists_of (abs row p)

  -- What its ranges give.
  pub full : Full p
  full = valid-full row p v

  pub fit : Ready row
  fit = ready row shape (valid-range row p v)

  pub total-most : sum_by (row.len ++ (row.issued ∷ [])) ≤ 4608
  total-most = nine-most row.len row.issued fit.short.eight fit.short.most fit.issued

  pub sized : Sized lists row.len row.issued
  unfolding nine_lists
  sized =
      nine-sized p.store p.store2 row.len p.list p.list2 row.issued
      full.store full.store2 shape.len fit.short.most full.list full.list2 fit.issued

  -- Its image, by the lengths.
  pub image-is : image_of (abs row p)
      ≡ head_bytes (outline_of row) (firsts_by 1 (row.len ++ (row.issued ∷ []))) ++ bytes_of (records_all 1 lists)
  unfolding image_of
  image-is =
      ap (λ h. h ++ bytes_of (records_all 1 lists)) (head-same row p (firsts_for 1 lists)
      ∙ ap (head_bytes (outline_of row)) (sized-firsts lists row.len row.issued sized 1))

  -- The head and the records have room where the image has.
  module _ (a : Page) (firsts : List ℕ) (z : a.at ≡ 0)
      (room : 258 + 8 * sum_by (row.len ++ (row.issued ∷ [])) ≤ length a.out.now) where
    pub head-room : HasRoom a (head_bytes (outline_of row) firsts)
    head-room = omega (arith, z, room, head-length (outline_of row) firsts)

    pub records-room : {b : Page} → Puts a (head_bytes (outline_of row) firsts) b → HasRoom b (bytes_of (records_all 1 lists))
    records-room w =
        omega (
          arith,
          z,
          room,
          head-length (outline_of row) firsts,
          w.wrote.next,
          puts-length w,
          bytes-length 1 lists,
          sized-sum lists row.len row.issued sized,
        )

  pub image-length : length (image_of (abs row p)) ≡ 258 + 8 * sum_by (row.len ++ (row.issued ∷ []))
  image-length =
      let firsts = firsts_by 1 (row.len ++ (row.issued ∷ [])) in
      ap length image-is ∙ length-append (head_bytes (outline_of row) firsts) (bytes_of (records_all 1 lists))
      ∙ rw (head-length (outline_of row) firsts, bytes-length 1 lists, sized-sum lists row.len row.issued sized)

  module _ (out : Text) (n : ℕ) (e : n ≡ 258 + 8 * sum_by (row.len ++ (row.issued ∷ []))) where
    pub same : n ≡ length (image_of (abs row p))
    same = e ∙ sym image-length

    test : (b : Bool) → leb n (length out) ≡ b → leb (length (image_of (abs row p))) (length out) ≡ b
    test b q = ap (λ m. leb m (length out)) (sym same) ∙ q

    -- The slice is too short,
    pub too_short : leb n (length out) ≡ false → (Err Room ≡ saved row p out) × Saves row p out 3 out
    too_short h = (
      sym (rw (v, test false h)),
      record { answer = sym (rw (v, test false h)); left = sym (rw (v, test false h)) },
    )

    -- or the image is written: its head and then its records.
    pub stored : leb n (length out) ≡ true → {a b c : Page} → a.out.now ≡ out → a.at ≡ 0
        → Puts a (head_bytes (outline_of row) (firsts_by 1 (row.len ++ (row.issued ∷ [])))) b
        → Puts b (bytes_of (records_all 1 lists)) c → (out' : Text) → out' ≡ c.out.now
        → (Ok n ≡ saved row p out) × Saves row p out n out'
    stored h {a} {b} {c} o z d f out' q =
        let w = (puts-then d f).wrote.text in
        let whole : out' ≡ over out 0 (image_of (abs row p)) = q ∙ w ∙ rw (o, z, image-is) in (
          ap Ok same ∙ sym (rw (v, test true h)),
          record { answer = same ∙ sym (rw (v, test true h)); left = whole ∙ sym (rw (v, test true h)) },
        )

pub not_valid : (row : Cluster) (p : Places) (out : Text) → valid row p ≡ false
    → (Err Invalid ≡ saved row p out) × Saves row p out 1 out
not_valid row p out e = (sym (rw e), record { answer = sym (rw e); left = sym (rw e) })

-- How long an image is

-- No shorter than its head,
pub image-least : (s : RowState) → 258 ≤ length (image_of s)
unfolding image_of
image-least s =
    let h = head_bytes (outline s) (firsts_for 1 (lists_of s)) in
    omega (
      arith,
      length-append h (bytes_of (records_all 1 (lists_of s))),
      head-length (outline s) (firsts_for 1 (lists_of s)),
    )

-- and it has no more records than nine full lists.
module _ (s : RowState) (short : (b : ℕ) → T (is_replica b) → length (s.log b) ≤ 512)
    (few : length s.committed ≤ 512) where
  sum-most : sum_of (lists_of s) ≤ 4608
  unfolding sum_of
  sum-most = omega (
    arith,
    short 1 tt,
    short 2 tt,
    short 3 tt,
    short 4 tt,
    short 5 tt,
    short 6 tt,
    short 7 tt,
    short 8 tt,
    few,
  )

  pub image-most : length (image_of s) ≤ 37122
  unfolding image_of
  image-most =
      let h = head_bytes (outline s) (firsts_for 1 (lists_of s)) in
      omega (
        arith,
        sum-most,
        length-append h (bytes_of (records_all 1 (lists_of s))),
        head-length (outline s) (firsts_for 1 (lists_of s)),
        bytes-length 1 (lists_of s),
      )

take-most : {A : Type 0} (n : ℕ) (xs : List A) → length (take n xs) ≤ n
take-most zero xs = omega arith
take-most (suc n) [] = omega arith
take-most (suc n) (x ∷ xs) = omega (arith, take-most n xs)

pub images-tell : ImagesTell
unfolding ImagesTell
images-tell row p v =
    let s = abs row p in
    let r = to-ranges (outline_of row) (of-true (valid-range row p v)) in (
      image-least s,
      image-most s
          (λ b t. omega (arith, r.logs b t, take-most (at 0 row.len b) (drop (512 * (b - 1)) (logged p))))
          (omega (arith, r.committed, take-most row.issued (listed p))),
    )
