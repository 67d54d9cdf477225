-- Another number for each node of a forest. Assumes nothing.
use mathlib.Core.Path.{◌≡◌, refl, ap, ap₂}
use mathlib.Core.Bool.{true, ◌&&◌}
use Prim.Native.Nat.{ℕ, suc}
use lib.ListN.{length}
use Rattle.tree.specs.Forest.{Forest, nil, node, join, roots}
use Rattle.tree.specs.Shape.{same_shape}

abbrev pub rename : (ℕ → ℕ) → Forest → Forest
rename g nil = nil
rename g (node v f h) = node (g v) (rename g f) (rename g h)

pub rename-join : (g : ℕ → ℕ) (f h : Forest) → rename g (join f h) ≡ join (rename g f) (rename g h)
rename-join g nil h = refl
rename-join g (node v f k) h = ap (node (g v) (rename g f)) (rename-join g k h)

pub rename-roots : (g : ℕ → ℕ) (f : Forest) → length (roots (rename g f)) ≡ length (roots f)
rename-roots g nil = refl
rename-roots g (node v f h) = ap suc (rename-roots g h)

pub rename_shape : (g : ℕ → ℕ) (f : Forest) → same_shape (rename g f) f ≡ true
rename_shape g nil = refl
rename_shape g (node v f h) = ap₂ ◌&&◌ (rename_shape g f) (rename_shape g h)
