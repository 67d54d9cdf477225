-- The forest under a drawing: joining and moving leave it as it is, and the drawing's levels are the forest's. Assumes nothing.
use mathlib.Core.Path.{◌≡◌, refl, sym, ap, ap₂, ◌∙◌}
use mathlib.Core.List.{List, [], ◌∷◌, map}
use Prim.Native.Nat.{ℕ, ◌+◌}
use lib.IntN.{ℤ, pos, ◌+ℤ◌, ◌-ℤ◌}
use Rattle.tree.specs.Forest.{Forest, nil, node, join as joinForest}
use Rattle.tree.specs.Levels.{beside, levels}
use Rattle.rule.specs.Drawing.{Drawing, none, at, append, dots, row_dots, middle}
use Rattle.rule.specs.Join.{Spacing, Meeting, spread, join, meetings, settled}
use Rattle.rule.specs.Rule.{draw_onto, draw}
use Rattle.tree.proofs.Joined.{join-nil, join_assoc, beside-nil, map-beside}

-- the nodes of a drawing, without their places
abbrev pub names : Drawing → Forest
names none = nil
names (at v x below after) = node v (names below) (names after)

pub names-append : (d e : Drawing) → names (append d e) ≡ joinForest (names d) (names e)
names-append none e = refl
names-append (at v x below after) e = ap (node v (names below)) (names-append after e)

pub names-spread : (j : ℕ) (ms : List Meeting) (p : ℕ) (d : Drawing) → names (spread j ms p d) ≡ names d
names-spread j ms p none = refl
names-spread j ms p (at v x below after) = ap (node v (names below)) (names-spread j ms (p + 1) after)

pub names-join : (D : Spacing) (row : Drawing) (v : ℕ) (below : Drawing) → names (join D row v below) ≡ joinForest (names row) (node v (names below) nil)
names-join D row v below =
    names-append (spread _ (meetings D.need row v below) 0 row) (at v (settled D row v below) below none)
    ∙ ap (λ (f : Forest). joinForest f (node v (names below) nil)) (names-spread _ (meetings D.need row v below) 0 row)

pub names-draw_onto : (D : Spacing) (row : Drawing) (f : Forest) → names (draw_onto D row f) ≡ joinForest (names row) f
names-draw_onto D row nil = sym (join-nil (names row))
names-draw_onto D row (node v f g) =
    names-draw_onto D (join D row v (draw_onto D none f)) g
    ∙ ap (λ (h : Forest). joinForest h g) (names-join D row v (draw_onto D none f))
    ∙ join_assoc (names row) (node v (names (draw_onto D none f)) nil) g
    ∙ ap (λ (h : Forest). joinForest (names row) (node v h g)) (names-draw_onto D none f)

-- the drawing of a forest is one of that forest
pub names-draw : (D : Spacing) (f : Forest) → names (draw D f) ≡ f
names-draw D f = names-draw_onto D none f

-- ---- levels

pub nodes-dots : (i : ℕ) (o : ℤ) (d : Drawing) → map (map (λ e. e.node)) (dots i o d) ≡ levels (names d)
nodes-dots i o none = refl
nodes-dots i o (at v x below after) =
    map-beside (λ e. e.node) (_ ∷ dots i _ below) (dots i o after)
    ∙ ap₂ beside (ap (λ (l : List (List ℕ)). (v ∷ []) ∷ l) (nodes-dots i (o +ℤ pos x -ℤ pos (middle below)) below)) (nodes-dots i o after)

pub nodes-row_dots : (i : ℕ) (d : Drawing) → map (map (λ e. e.node)) (row_dots i d) ≡ levels (names d)
nodes-row_dots i none = refl
nodes-row_dots i (at v x below after) =
    map-beside (λ e. e.node) (dots i (pos 0) (at v x below none)) (row_dots (i + 1) after)
    ∙ ap₂ beside (nodes-dots i (pos 0) (at v x below none) ∙ beside-nil ((v ∷ []) ∷ levels (names below))) (nodes-row_dots (i + 1) after)
