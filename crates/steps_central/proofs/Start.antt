-- The opened row is the model's, and the opening call's answer. Assumes nothing.
use mathlib.Core.Bool.{Bool, true, false, cond, ◌&&◌}
use mathlib.Core.Logic.{◌⊎◌, inl, inr}
use mathlib.Core.Path.{◌≡◌, refl, ap, ◌∙◌, fun_ext}
use Prim.Native.Nat.{ℕ, zero, suc, ◌+◌, ◌-◌, ◌*◌, ◌≤◌, ◌<◌}
use native.Mathlib.Omega.{arith}
use lib.ListN.{get_or, take, replicate, get_or-replicate, get_or-eq_default}
use borrow.Author.Tests.{le-leb, lt-leb}
use Rattle.model.specs.Members.{is_replica, only}
use Rattle.model.specs.State as M
use Rattle.model.specs.Steps.{deaf}
use Rattle.model.proofs.Tests.{le-or-lt}
use Rattle.members.specs.Mask.{bits}
use Rattle.members.proofs.Laws.{replica, bits_none}
use Rattle.logstore.specs.Log.{log_of}
use Rattle.cluster.specs.declared.View.{View}
use Rattle.cluster.specs.declared.Status.TheVariants.{Normal}
use Rattle.cluster.specs.declared.Controller.{Controller}
use Rattle.cluster.specs.declared.Cluster.{Cluster}
use Rattle.cluster.specs.Layout.{at, at_pair, no_view, view_of, controller_of, outline_of}
use Rattle.refinement.specs.Refinement.{logged, listed}
use Rattle.steps_central.specs.Opening.{OpenedWith}

-- Eight of a kind, by a number: 0, 1 to 8, or above.
at_all : {A : Type 0} (d v : A) (x : ℕ) → at d (replicate 8 v) x ≡ cond (is_replica x) v d
at_all d v zero = refl
at_all d v (suc x) = go (le-or-lt (suc x) 8)
  where
    go : (suc x ≤ 8) ⊎ (8 < suc x) → get_or (replicate 8 v) x d ≡ cond (is_replica (suc x)) v d
    go (inl h) = rw (replica (suc x) (omega arith) h) (get_or-replicate 8 x v d (omega arith))
    go (inr h) =
        rw (le-leb 1 (suc x) (omega arith), lt-leb (suc x) 8 h)
        (get_or-eq_default (replicate 8 v) d {n = x} (omega arith))

zero-at : (n k : ℕ) → ◌≡◌ {A = ℕ} (get_or (replicate n 0) k 0) 0
zero-at zero k = refl
zero-at (suc n) zero = refl
zero-at (suc n) (suc k) = zero-at n k

none-heard : at 0 (replicate 8 0) ≡ M.zeros
none-heard = fun_ext (zero-at 9)

none-counted : at_pair (replicate 64 0) ≡ (λ x. M.zeros)
none-counted = fun_ext (λ x. fun_ext (λ y. go (is_replica x) (is_replica y) (8 * (x - 1) + (y - 1))))
  where
    go : (t u : Bool) (k : ℕ) → ◌≡◌ {A = ℕ} (cond (t && u) (get_or (replicate 64 0) k 0) 0) 0
    go true true k = zero-at 64 k
    go true false k = refl
    go false u k = refl

-- The board b, whose mask is m, and a controller that has heard nothing.
module _ (b m : ℕ) (e : bits m ≡ only b) (c : Controller) where
  abbrev first : View
  first = record { epoch = 1; term = 1; leader = b; members = m }

  abbrev open_row : Cluster
  open_row = record {
    registry = record { view = first; status = Normal };
    controller = c;
    views = replicate 8 first;
    joined = replicate 8 1;
    acked = replicate 64 0;
    len = replicate 8 0;
    issued = 0;
  }

  first-view : view_of first ≡ M.first_view (M.opening_with b)
  first-view i = record { epoch = 1; term = 1; leader = b; members = e i }

  views : (λ x. view_of (at no_view (replicate 8 first) x)) ≡ (M.opened {E = M.Entry} (M.opening_with b)).view
  views = fun_ext (λ x. ap view_of (at_all no_view first x) ∙ go (is_replica x))
    where
      go : (t : Bool) → view_of (cond t first no_view) ≡ cond t (M.first_view (M.opening_with b)) M.no_view
      go true = first-view
      go false = λ i. record { epoch = 0; term = 0; leader = 0; members = bits_none i }

  module _ (quiet : controller_of c ≡ deaf (view_of first) M.idle) where
    heard : controller_of c ≡ (M.opened {E = M.Entry} (M.opening_with b)).controller
    heard = quiet ∙ (λ i. record { view = first-view i; stage = M.idle; heard = M.zeros; heard_joined = M.zeros })

    outlined : outline_of open_row ≡ M.outline {E = M.Entry} (M.opened (M.opening_with b))
    outlined i = record {
      registry = record { view = first-view i; status = M.normal };
      controller = heard i;
      view = views i;
      joined = fun_ext (at_all 0 1) i;
      acked = none-counted i;
      len = none-heard i;
      issued = 0;
    }

    pub opened_with : OpenedWith (M.opening_with b) open_row
    opened_with = record {
      state = λ p i. record {
        registry = (outlined i).registry;
        controller = (outlined i).controller;
        view = (outlined i).view;
        joined = (outlined i).joined;
        acked = (outlined i).acked;
        log = λ x. log_of (logged p) x (none-heard i x);
        committed = take 0 (listed p);
      };
      outline = outlined;
    }
