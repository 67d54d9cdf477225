-- The measured pairs are the pairs of neighbours: for any weight of a pair, those measured weigh as much as those side by side.
-- Assumes nothing.
use mathlib.Core.Path.{◌≡◌, refl, ap, ap₂, ◌∙◌}
use mathlib.Core.List.{List, [], ◌∷◌, ◌++◌, map}
use Prim.Native.Nat.{ℕ, ◌+◌}
use native.Mathlib.Omega.{arith}
use lib.IntN.{pos}
use Rattle.distance.specs.Needed.{Distance}
use Rattle.tree.specs.Numbers.{flat_map}
use Rattle.tree.specs.Forest.{Forest, nil, node}
use Rattle.tree.specs.Levels.{beside, levels, side_by_side, Pair}
use Rattle.tree.proofs.Counting.{All, sum_over, sum_over-append}
use Rattle.tree.proofs.Joined.{levels-join, beside-nil, Some, some, levels-some}
use Rattle.rule.specs.Drawing.{Drawing, none, at, width, Dot, dots, row_dots, first_of, last_of, left_contour, right_contour}
use Rattle.rule.specs.Join.{Spacing, measure, measured, join, start}
use Rattle.rule.specs.Rule.{draw_onto, record_onto}
use Rattle.rule.proofs.Names.{names, names-join, nodes-dots, nodes-row_dots}

-- ---- the last and the first of a list of nodes

abbrev first_node : List ℕ → ℕ
first_node [] = 0
first_node (x ∷ l) = x

abbrev last_node : List ℕ → ℕ
last_node [] = 0
last_node (x ∷ []) = x
last_node (x ∷ y ∷ l) = last_node (y ∷ l)

-- what is measured where levels xs stand beside levels ys
abbrev seams : List (List ℕ) → List (List ℕ) → List Pair
seams [] ys = []
seams (x ∷ xs) [] = []
seams (x ∷ xs) (y ∷ ys) = (last_node x, first_node y) ∷ seams xs ys

last_node_lem : (l : List Dot) → (last_of l).node ≡ last_node (map (λ e. e.node) l)
last_node_lem [] = refl
last_node_lem (d ∷ []) = refl
last_node_lem (d ∷ e ∷ l) = last_node_lem (e ∷ l)

first_node_lem : (l : List Dot) → (first_of l).node ≡ first_node (map (λ e. e.node) l)
first_node_lem [] = refl
first_node_lem (d ∷ l) = refl

measure-seams : (xs ys : List (List Dot))
    → measure (right_contour xs) (left_contour ys) ≡ seams (map (map (λ e. e.node)) xs) (map (map (λ e. e.node)) ys)
measure-seams [] ys = refl
measure-seams (x ∷ xs) [] = refl
measure-seams (x ∷ xs) (y ∷ ys) = ap₂ (λ (p : Pair) (ps : List Pair). p ∷ ps) (ap₂ (λ (a b : ℕ). (a, b)) (last_node_lem x) (first_node_lem y)) (measure-seams xs ys)

-- ---- levels side by side, with a weight w for each pair

pairs_seam : (w : Pair → ℕ) (x y : List ℕ) → Some x → Some y
    → sum_over w (side_by_side (x ++ y)) ≡ sum_over w (side_by_side x) + (w (last_node x, first_node y) + sum_over w (side_by_side y))
pairs_seam w [] y h k = elim h [ ]
pairs_seam w (u ∷ []) [] h k = elim k [ ]
pairs_seam w (u ∷ []) (z ∷ y) h k = omega arith
pairs_seam w (u ∷ z ∷ x) y h k = omega (arith, pairs_seam w (z ∷ x) y some k)

abbrev pub pairs_in : List (List ℕ) → List Pair
pairs_in = flat_map side_by_side

pub pairs-beside : (w : Pair → ℕ) (xs ys : List (List ℕ)) → All Some xs → All Some ys
    → sum_over w (pairs_in (beside xs ys)) ≡ sum_over w (pairs_in xs) + sum_over w (seams xs ys) + sum_over w (pairs_in ys)
pairs-beside w [] ys s t = omega arith
pairs-beside w (x ∷ xs) [] s t = omega arith
pairs-beside w (x ∷ xs) (y ∷ ys) s t =
    omega (
      arith,
      pairs-beside w xs ys s.1 t.1,
      pairs_seam w x y s.0 t.0,
      sum_over-append w (side_by_side (x ++ y)) (pairs_in (beside xs ys)),
      sum_over-append w (side_by_side x) (pairs_in xs),
      sum_over-append w (side_by_side y) (pairs_in ys),
    )

-- ---- joining measures the pairs between the row and the new child

measured-seams : (D : Distance) (row : Drawing) (v : ℕ) (below : Drawing)
    → measured D row v below ≡ seams (levels (names row)) (levels (node v (names below) nil))
measured-seams D row v below =
    measure-seams (row_dots 0 row) (dots (width row) (pos 0) (at v (start D row v) below none))
    ∙ ap₂ seams (nodes-row_dots 0 row) (nodes-dots (width row) (pos 0) (at v (start D row v) below none))

-- the pairs of a drawing's levels
abbrev pairs_of : Drawing → List Pair
pairs_of d = pairs_in (levels (names d))

pairs-join : (w : Pair → ℕ) (D : Spacing) (row : Drawing) (v : ℕ) (below : Drawing)
    → sum_over w (pairs_of (join D row v below)) ≡ sum_over w (pairs_of row) + sum_over w (measured D.need row v below) + sum_over w (pairs_of below)
pairs-join w D row v below =
    ap (λ (f : Forest). sum_over w (pairs_in (levels f))) (names-join D row v below)
    ∙ ap (λ (l : List (List ℕ)). sum_over w (pairs_in l)) (levels-join (names row) (node v (names below) nil))
    ∙ pairs-beside w (levels (names row)) (levels (node v (names below) nil)) (levels-some (names row)) (levels-some (node v (names below) nil))
    ∙ omega (
      arith,
      ap (sum_over w) (measured-seams D.need row v below),
      ap (λ (l : List (List ℕ)). sum_over w (pairs_in l)) (beside-nil ((v ∷ []) ∷ levels (names below))),
    )

pub pairs_record : (w : Pair → ℕ) (D : Spacing) (row : Drawing) (f : Forest)
    → sum_over w (pairs_of row) + sum_over w (record_onto D row f) ≡ sum_over w (pairs_of (draw_onto D row f))
pairs_record w D row nil = omega arith
pairs_record w D row (node v f g) =
    omega (
      arith,
      pairs_record w D none f,
      pairs_record w D (join D row v (draw_onto D none f)) g,
      pairs-join w D row v (draw_onto D none f),
      sum_over-append w (record_onto D none f ++ measured D.need row v (draw_onto D none f)) (record_onto D (join D row v (draw_onto D none f)) g),
      sum_over-append w (record_onto D none f) (measured D.need row v (draw_onto D none f)),
    )
