-- Boards in turn: none yet, one more, one that has no turn. Assumes nothing.
use mathlib.Core.Bool.{Bool, true, false, cond}
use mathlib.Core.Path.{◌≡◌, sym, subst, ap, ◌∙◌}
use Prim.Native.Nat.{ℕ, suc, ◌+◌, ◌*◌, ◌≤◌}
use native.Mathlib.Numerals.{add-one}
use native.Mathlib.Omega.{arith}
use Rattle.model.specs.Members.{Members}
use Rattle.model.specs.State.{Entry}
use Rattle.recovery.specs.Plan.{Draft, turns}
use Rattle.pieces.specs.declared.Sketch.{Sketch}
use Rattle.pieces.specs.Pieces.{Moves}
use Rattle.pieces.proofs.Standing.{moves-as, moves-none, moves-then}

-- Fewer orders are as many at most.
pub moves-within : {k : ℕ} {f : Draft Entry → Draft Entry} {s t : Sketch} (n : ℕ) → k ≤ n → Moves k f s t
    → Moves n f s t
moves-within n h j = record { few = omega (arith, h, j.few); stands = j.stands; same = j.same; list = j.list }

module _ (q : Members) (f : ℕ → Draft Entry → Draft Entry) where
  turns-next : (n b : ℕ) → b ≡ n + 1 → (d : Draft Entry) {t : Bool} → q b ≡ t
      → turns (n + 1) q f d ≡ cond t (f b (turns n q f d)) (turns n q f d)
  unfolding turns
  turns-next n b i d z =
      let e : b ≡ suc n = i ∙ add-one n in
      rw (add-one n)
      (ap (λ x. cond (q x) (f x (turns n q f d)) (turns n q f d)) (sym e)
      ∙ ap (λ c. cond c (f b (turns n q f d)) (turns n q f d)) z)

  pub turns-none : (s : Sketch) → Moves 0 (turns 0 q f) s s
  unfolding turns
  turns-none s = moves-none 0 s

  module _ (k n : ℕ) {s t : Sketch} (h : Moves (k * n) (turns n q f) s t) where
    -- One more, b, has its turn,
    pub turns-more : (b : ℕ) → b ≡ n + 1 → q b ≡ true → {u x : Sketch} → Moves k (f b) t u → x ≡ u
        → Moves (k * (n + 1)) (turns (n + 1) q f) s x
    turns-more b i z {u} {x} j same =
        subst (λ y. Moves (k * (n + 1)) (turns (n + 1) q f) s y) (sym same)
        (moves-within (k * (n + 1)) (omega arith) (moves-as (λ m _. sym (turns-next n b i m z)) (moves-then h j)))

    -- or none.
    pub turns-skip : (b : ℕ) → b ≡ n + 1 → q b ≡ false → {x : Sketch} → x ≡ t
        → Moves (k * (n + 1)) (turns (n + 1) q f) s x
    turns-skip b i z same =
        subst (λ y. Moves (k * (n + 1)) (turns (n + 1) q f) s y) (sym same)
        (moves-within (k * (n + 1)) (omega arith) (moves-as (λ m _. sym (turns-next n b i m z)) h))

  -- All of them had their turn.
  pub turns-all : (k n : ℕ) {s t : Sketch} → n ≡ 8 → Moves (k * n) (turns n q f) s t → Moves (k * 8) (turns 8 q f) s t
  turns-all k n {s} {t} e h = subst (λ i. Moves (k * i) (turns i q f) s t) e h
