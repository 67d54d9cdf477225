-- The numbers of a list of pairs in a row, as the record holds them. Assumes nothing.
use mathlib.Core.Path.{◌≡◌, refl, ap, ◌∙◌}
use mathlib.Core.List.{List, [], ◌∷◌, ◌++◌}
use Prim.Native.Nat.{ℕ, zero, suc, ◌+◌, ◌*◌, ◌<◌}
use native.Mathlib.Nat.{not-suc-le-zero}
use native.Mathlib.Omega.{arith}
use lib.ListN.{length, get_or}
use Rattle.tree.specs.Levels.{Pair}
use Rattle.rule.specs.Record.{flat}

pub length-flat : (ps : List Pair) → length (flat ps) ≡ 2 * length ps
length-flat [] = refl
length-flat (p ∷ ps) = omega (arith, length-flat ps)

pub flat_append : (ps qs : List Pair) → flat (ps ++ qs) ≡ flat ps ++ flat qs
flat_append [] qs = refl
flat_append (p ∷ ps) qs = ap (λ (l : List ℕ). p.0 ∷ p.1 ∷ l) (flat_append ps qs)

-- the pair at index i of a list of numbers
abbrev pub pair_at : List ℕ → ℕ → Pair
pair_at l i = (get_or l (2 * i) 0, get_or l (2 * i + 1) 0)

pub flat-at : (ps : List Pair) (rest : List ℕ) (d : Pair) (i : ℕ) → i < length ps → pair_at (flat ps ++ rest) i ≡ get_or ps i d
flat-at [] rest d i h = absurd (not-suc-le-zero h)
flat-at (p ∷ ps) rest d zero h = refl
flat-at (p ∷ ps) rest d (suc i) h =
    let l = p.0 ∷ p.1 ∷ (flat ps ++ rest) in
    let left : 2 * suc i ≡ suc (suc (2 * i)) = omega arith in
    let right : 2 * suc i + 1 ≡ suc (suc (2 * i + 1)) = omega arith in
    (λ j. (get_or l (left j) 0, get_or l (right j) 0)) ∙ flat-at ps rest d i (omega arith)
