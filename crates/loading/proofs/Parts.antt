-- Lists stored in a part of a slice. Assumes nothing.
use mathlib.Core.List.{List, ◌++◌, append_assoc, map}
use mathlib.Core.Path.{◌≡◌, sym, ap, ◌∙◌}
use Prim.Native.Nat.{ℕ, ◌+◌, ◌-◌, ◌*◌, ◌<◌, ◌≤◌}
use native.Mathlib.Omega.{arith}
use lib.ListN.{length, take, drop, take-append-drop, length-map}
use lib.Seq.{sets, sets-eq, drop-append-le, drop-drop}
use borrow.Rule.Slice.PartMut.{mid_of, put_mid, mid_len}

-- Values stored at the start of a part, and the part put back, are stored in the slice from where the part starts.
pub part-sets : (s part : List ℕ) (a e : ℕ) (vs : List ℕ) → a ≤ e → e ≤ length s → length vs ≤ e - a
    → part ≡ sets (mid_of a (e - a) s) 0 vs → put_mid a (e - a) s part ≡ sets s a vs
part-sets s part a e vs h l k p =
    let m : length (mid_of a (e - a) s) ≡ e - a = mid_len a e s l in
    let d = drop a s in
    let back : drop (length vs) (take (e - a) d) ++ drop (e - a) d ≡ drop (a + length vs) s =
    sym (drop-append-le (length vs) (take (e - a) d) (drop (e - a) d) (omega arith))
    ∙ ap (drop (length vs)) (take-append-drop (e - a) d) ∙ drop-drop (length vs) a s in
    let z : 0 + length vs ≡ length vs = omega arith in
    let own = sets-eq vs (mid_of a (e - a) s) 0 (omega arith) in
    let whole = sets-eq vs s a (omega arith) in
    rw (p, own, whole, z, append_assoc vs _ _, back, append_assoc (take a s) vs (drop (a + length vs) s))

-- A part from a place to the 512th after it has 512 places.
pub places-there : (s : List ℕ) (a : ℕ) → a + 512 ≤ length s → 512 ≤ length (mid_of a (a + 512 - a) s)
places-there s a h = omega (arith, mid_len a (a + 512) s h)

-- The part of the list b: it has 512 places, and a chain that was stored at its start is in the store.
module _ (s : List ℕ) (b : ℕ) (h : b < 8) (l : length s ≡ 4096) where
  pub part_room : 512 ≤ length (mid_of (512 * b) (512 * b + 512 - 512 * b) s)
  part_room = places-there s (512 * b) (omega arith)

  pub part-copied : (part : List ℕ) (f : ℕ → ℕ) (ks : List ℕ) → length ks ≤ 512
      → part ≡ sets (mid_of (512 * b) (512 * b + 512 - 512 * b) s) 0 (map f ks)
      → put_mid (512 * b) (512 * b + 512 - 512 * b) s part ≡ sets s (512 * b) (map f ks)
  part-copied part f ks k e =
      let m : length (map f ks) ≡ length ks = length-map ks f in
      part-sets s part (512 * b) (512 * b + 512) (map f ks) (omega arith) (omega arith) (omega arith) e
