-- The levels of a tree, from the first on, as the level of each node tells them. Assumes nothing.
use mathlib.Core.Path.{◌≡◌, refl, ap}
use mathlib.Core.Bool.{Bool, cond}
use mathlib.Core.List.{List, [], ◌∷◌}
use Prim.Native.Nat.{ℕ, suc, ◌+◌, ◌≤◌}
use native.Mathlib.Omega.{arith}
use Rattle.tree.specs.Numbers.{count}
use Rattle.tree.specs.Forest.{tree_of}
use Rattle.tree.specs.Levels.{levels, together, level_in, level}
use Rattle.tree.specs.WellFormed.{table_number}
use Rattle.tree.proofs.Counting.{All, is_same, count-append}
use Rattle.tree.proofs.Tests.{count-member, none-member}
use Rattle.tree.proofs.Stands.{accepted-once}
use Rattle.tree.proofs.LevelOf.{count-levels}

-- the first of these levels is level i
abbrev pub Leveled : (ℕ → ℕ) → ℕ → List (List ℕ) → Type 0
Leveled lev i [] = Unit {0}
Leveled lev i (l ∷ ls) = All (λ v. lev v ≡ i) l × Leveled lev (suc i) ls

pub all-counted : (P : ℕ → Type 0) (l : List ℕ) → ((v : ℕ) → 1 ≤ count v l → P v) → All P l
all-counted P [] h = tt
all-counted P (x ∷ l) h = (h x (omega (arith, is_same x x refl)), all-counted P l (λ v k. h v (omega (arith, k))))

leveled : (lev : ℕ → ℕ) (i : ℕ) (ls : List (List ℕ)) → ((v : ℕ) → 1 ≤ count v (together ls) → lev v ≡ i + level_in ls v)
    → ((v : ℕ) → count v (together ls) ≤ 1) → Leveled lev i ls
leveled lev i [] h once = tt
leveled lev i (l ∷ ls) h once = (
  all-counted (λ v. lev v ≡ i) l (λ v k.
      omega (
        arith,
        h v (omega (arith, k, count-append v l (together ls))),
        ap (λ (b : Bool). cond b 0 (suc (level_in ls v))) (count-member v l k),
      )),
  leveled lev (suc i) ls (λ v k.
      omega (
        arith,
        h v (omega (arith, k, count-append v l (together ls))),
        ap (λ (b : Bool). cond b 0 (suc (level_in ls v))) (none-member v l (omega (arith, k, once v, count-append v l (together ls)))),
      ))
      (λ v. omega (arith, once v, count-append v l (together ls))),
)

pub accepted-leveled : (t : List ℕ) → table_number t ≡ 0 → Leveled (level t) 0 (levels (tree_of t))
unfolding level
accepted-leveled t e = leveled (level t) 0 (levels (tree_of t)) (λ v h. omega arith) (λ v. omega (arith, count-levels v (tree_of t), accepted-once t e v))
