-- The extremes of a layout fit the 32 bits that they are stored in. Assumes nothing.
use mathlib.Core.Path.{◌≡◌, refl, sym, ◌∙◌, subst}
use mathlib.Core.List.{List}
use Prim.Native.Nat.{ℕ, zero, suc, ◌^◌, ◌<◌}
use native.Mathlib.Omega.{arith}
use lib.IntN.{ℤ, pos}
use lib.Signed.{mag}
use mir.Syntax.{w32}
use mir.ValLaws.{to_z-of_z}
use Rattle.refusal.specs.After.{granted}
use Rattle.distance.specs.Needed.{needed}
use Rattle.rule.specs.Join.{spaced}
use Rattle.rule.specs.Result.{Slices, LaidOut}
use Rattle.level_order.proofs.Signed32.{stored}
use Rattle.layout.specs.Operation.{answer, Taken}
use Rattle.layout.proofs.Answers.{least_fits, greatest-fits}

-- a field that fits where the operation is accepted
fits : (k : ℕ) (x z : ℤ) → (k ≡ 0 → mag x < 2 ^ 31) → z ≡ granted k x (pos 0) → stored z ≡ granted k x (pos 0)
fits k x z h e = to_z-of_z w32 z (record { sfits = subst (λ (y : ℤ). mag y < 2 ^ 31) (sym e) (small k h) }) ∙ e
  where
    small : (j : ℕ) → (j ≡ 0 → mag x < 2 ^ 31) → mag (granted j x (pos 0)) < 2 ^ 31
    small zero f = f refl
    small (suc j) f = omega arith

pub laid-stored : {k : ℕ} {t : List ℕ} {D : ℕ} {hs : List ℕ} {extra : ℕ} {s u : Slices} {number nodes levels pairs : ℕ} {least greatest : ℤ} → (k ≡ 0 → Taken t D hs extra s)
    → LaidOut k (spaced (needed D hs) extra) t s (answer number nodes levels least greatest pairs) u
    → LaidOut k (spaced (needed D hs) extra) t s (answer number nodes levels (stored least) (stored greatest) pairs) u
laid-stored {k} {least = least} {greatest = greatest} T L =
    record {
      number = L.number;
      nodes = L.nodes;
      level_count = L.level_count;
      least = fits k _ least (λ e. least_fits (T e)) L.least;
      greatest = fits k _ greatest (λ e. greatest-fits (T e)) L.greatest;
      pairs = L.pairs;
      places = L.places;
      levels = L.levels;
      the_record = L.the_record;
      work = L.work;
    }
