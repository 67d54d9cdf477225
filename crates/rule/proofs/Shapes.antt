-- A drawing goes along with another number for each node: of the numbers it knows only what two nodes need. So forests of one shape, in which
-- corresponding nodes need the same, are drawn alike. Assumes nothing.
use mathlib.Core.Path.{◌≡◌, refl, sym, ap, ap₂, ◌∙◌}
use mathlib.Core.Bool.{true, true≢false}
use mathlib.Core.List.{List, [], ◌∷◌, map}
use Prim.Native.Nat.{ℕ, suc, ◌+◌, ◌-◌, ◌/◌}
use lib.IntN.{ℤ, pos, ◌+ℤ◌, ◌-ℤ◌}
use Rattle.distance.specs.Needed.{Distance}
use Rattle.refusal.proofs.Truth.{and_left, and_right}
use Rattle.tree.specs.Forest.{Forest, nil, node, preorder}
use Rattle.tree.specs.Levels.{beside}
use Rattle.tree.specs.Shape.{same_shape, corresponding}
use Rattle.tree.proofs.Counting.{All, all_left, all_right}
use Rattle.tree.proofs.Joined.{Some, some, beside-some, map-beside}
use Rattle.tree.proofs.Rename.{rename}
use Rattle.rule.specs.Drawing.{Drawing, none, at, width, append, first_place, last_place, middle, Dot, dot, dots, row_dots, left_contour, right_contour}
use Rattle.rule.specs.Join.{Spacing, spaced, Meeting, shortfall, meet, shares, movement, spread, start, alone, join, meetings, settled, row_contour, new_contour}
use Rattle.rule.specs.Rule.{draw_onto, draw}
use Rattle.rule.proofs.Names.{names, names-draw}
use Rattle.rule.proofs.LevelEnds.{last-map, first-map}

abbrev pub rename_drawing : (ℕ → ℕ) → Drawing → Drawing
rename_drawing g none = none
rename_drawing g (at v x below after) = at (g v) x (rename_drawing g below) (rename_drawing g after)

abbrev pub rename_dot : (ℕ → ℕ) → Dot → Dot
rename_dot g e = dot e.child (g e.node) e.place

-- what the nodes need whose new numbers are the arguments
abbrev pub need_by : (ℕ → ℕ) → Distance → Distance
need_by g D a b = D (g a) (g b)

abbrev pub spaced_by : (ℕ → ℕ) → Spacing → Spacing
spaced_by g D = spaced (need_by g D.need) D.extra

-- ---- places, levels and contours

rename-first : (g : ℕ → ℕ) (d : Drawing) → first_place (rename_drawing g d) ≡ first_place d
rename-first g none = refl
rename-first g (at v x below after) = refl

rename-last : (g : ℕ → ℕ) (d : Drawing) → last_place (rename_drawing g d) ≡ last_place d
rename-last g none = refl
rename-last g (at v x below none) = refl
rename-last g (at v x below (at w y under after)) = rename-last g (at w y under after)

pub rename-middle : (g : ℕ → ℕ) (d : Drawing) → middle (rename_drawing g d) ≡ middle d
rename-middle g d = ap₂ (λ (a b : ℕ). a + (b - a) / 2) (rename-first g d) (rename-last g d)

rename-width : (g : ℕ → ℕ) (d : Drawing) → width (rename_drawing g d) ≡ width d
rename-width g none = refl
rename-width g (at v x below after) = ap suc (rename-width g after)

pub rename-dots : (g : ℕ → ℕ) (i : ℕ) (o : ℤ) (d : Drawing) → dots i o (rename_drawing g d) ≡ map (map (rename_dot g)) (dots i o d)
rename-dots g i o none = refl
rename-dots g i o (at v x below after) =
    ap₂ (λ (l k : List (List Dot)). beside ((dot i (g v) (o +ℤ pos x) ∷ []) ∷ l) k)
    (ap (λ (m : ℕ). dots i (o +ℤ pos x -ℤ pos m) (rename_drawing g below)) (rename-middle g below)
    ∙ rename-dots g i (o +ℤ pos x -ℤ pos (middle below)) below)
    (rename-dots g i o after)
    ∙ sym (map-beside (rename_dot g) ((dot i v (o +ℤ pos x) ∷ []) ∷ dots i (o +ℤ pos x -ℤ pos (middle below)) below) (dots i o after))

rename-row_dots : (g : ℕ → ℕ) (i : ℕ) (d : Drawing) → row_dots i (rename_drawing g d) ≡ map (map (rename_dot g)) (row_dots i d)
rename-row_dots g i none = refl
rename-row_dots g i (at v x below after) =
    ap₂ (λ (l k : List (List Dot)). beside l k) (rename-dots g i (pos 0) (at v x below none)) (rename-row_dots g (i + 1) after)
    ∙ sym (map-beside (rename_dot g) (dots i (pos 0) (at v x below none)) (row_dots (i + 1) after))

-- no level is empty
dots-some : (i : ℕ) (o : ℤ) (d : Drawing) → All Some (dots i o d)
dots-some i o none = tt
dots-some i o (at v x below after) =
    beside-some ((dot i v (o +ℤ pos x) ∷ []) ∷ dots i (o +ℤ pos x -ℤ pos (middle below)) below) (dots i o after)
    (some, dots-some i (o +ℤ pos x -ℤ pos (middle below)) below) (dots-some i o after)

row_dots-some : (i : ℕ) (d : Drawing) → All Some (row_dots i d)
row_dots-some i none = tt
row_dots-some i (at v x below after) =
    beside-some (dots i (pos 0) (at v x below none)) (row_dots (i + 1) after) (dots-some i (pos 0) (at v x below none)) (row_dots-some (i + 1) after)

contour-last : (g : ℕ → ℕ) (xs : List (List Dot)) → All Some xs → right_contour (map (map (rename_dot g)) xs) ≡ map (rename_dot g) (right_contour xs)
contour-last g [] s = refl
contour-last g (x ∷ xs) s = ap₂ (λ (e : Dot) (l : List Dot). e ∷ l) (last-map (rename_dot g) x s.0) (contour-last g xs s.1)

contour-first : (g : ℕ → ℕ) (xs : List (List Dot)) → All Some xs → left_contour (map (map (rename_dot g)) xs) ≡ map (rename_dot g) (left_contour xs)
contour-first g [] s = refl
contour-first g (x ∷ xs) s = ap₂ (λ (e : Dot) (l : List Dot). e ∷ l) (first-map (rename_dot g) x s.0) (contour-first g xs s.1)

-- ---- joins and whole rows

module _ (D : Distance) (g : ℕ → ℕ) where
  rename-start : (d : Drawing) (v : ℕ) → start D (rename_drawing g d) (g v) ≡ start (need_by g D) d v
  rename-start none v = refl
  rename-start (at u x below none) v = refl
  rename-start (at u x below (at z y under after)) v = rename-start (at z y under after) v

  meet-renamed : (m : ℕ) (us ws : List Dot) → meet D m (map (rename_dot g) us) (map (rename_dot g) ws) ≡ meet (need_by g D) m us ws
  meet-renamed m [] ws = refl
  meet-renamed m (u ∷ us) [] = refl
  meet-renamed m (u ∷ us) (w ∷ ws) =
      let s = shortfall (D (g u.node) (g w.node)) u.place (w.place +ℤ pos m) in
      ap (λ (l : List Meeting). record { child = u.child; amount = s } ∷ l) (meet-renamed (m + s) us ws)

  rename-meetings : (row : Drawing) (v : ℕ) (below : Drawing)
      → meetings D (rename_drawing g row) (g v) (rename_drawing g below) ≡ meetings (need_by g D) row v below
  rename-meetings row v below =
      let new = alone v (start (need_by g D) row v) below in
      ap₂ (meet D 0)
      (ap right_contour (rename-row_dots g 0 row) ∙ contour-last g (row_dots 0 row) (row_dots-some 0 row))
      (ap₂ (λ (j x : ℕ). left_contour (dots j (pos 0) (alone (g v) x (rename_drawing g below)))) (rename-width g row) (rename-start row v)
      ∙ ap left_contour (rename-dots g (width row) (pos 0) new)
      ∙ contour-first g (dots (width row) (pos 0) new) (dots-some (width row) (pos 0) new))
      ∙ meet-renamed 0 (row_contour row) (new_contour (need_by g D) row v below)

  rename-append : (d e : Drawing) → rename_drawing g (append d e) ≡ append (rename_drawing g d) (rename_drawing g e)
  rename-append none e = refl
  rename-append (at v x below after) e = ap (at (g v) x (rename_drawing g below)) (rename-append after e)

  rename-spread : (j : ℕ) (ms : List Meeting) (p : ℕ) (d : Drawing) → rename_drawing g (spread j ms p d) ≡ spread j ms p (rename_drawing g d)
  rename-spread j ms p none = refl
  rename-spread j ms p (at v x below after) = ap (at (g v) (x + shares j ms p) (rename_drawing g below)) (rename-spread j ms (p + 1) after)

module _ (D : Spacing) (g : ℕ → ℕ) where
  rename-join : (row : Drawing) (v : ℕ) (below : Drawing)
      → join D (rename_drawing g row) (g v) (rename_drawing g below) ≡ rename_drawing g (join (spaced_by g D) row v below)
  rename-join row v below =
      let N = D.need in
      let ms = meetings (need_by g N) row v below in
      ap₂ append
      (ap₂ (λ (j : ℕ) (ms : List Meeting). spread j ms 0 (rename_drawing g row)) (rename-width g row) (rename-meetings N g row v below)
      ∙ sym (rename-spread N g (width row) ms 0 row))
      (ap₂ (λ (x : ℕ) (ms : List Meeting). alone (g v) (x + movement D.extra ms) (rename_drawing g below)) (rename-start N g row v) (rename-meetings N g row v below))
      ∙ sym (rename-append N g (spread (width row) ms 0 row) (alone v (settled (spaced_by g D) row v below) below))

  rename-draw_onto : (row : Drawing) (f : Forest) → draw_onto D (rename_drawing g row) (rename g f) ≡ rename_drawing g (draw_onto (spaced_by g D) row f)
  rename-draw_onto row nil = refl
  rename-draw_onto row (node v f h) =
      ap (λ (d : Drawing). draw_onto D (join D (rename_drawing g row) (g v) d) (rename g h)) (rename-draw_onto none f)
      ∙ ap (λ (d : Drawing). draw_onto D d (rename g h)) (rename-join row v (draw_onto (spaced_by g D) none f))
      ∙ rename-draw_onto (join (spaced_by g D) row v (draw_onto (spaced_by g D) none f)) h

  -- the drawing of a renamed forest is the renamed drawing
  pub rename-draw : (f : Forest) → draw D (rename g f) ≡ rename_drawing g (draw (spaced_by g D) f)
  rename-draw f = rename-draw_onto none f

-- ---- forests of one shape

-- forests of one shape, with one number at every two corresponding nodes once these are renamed
same-renamed : (g h : ℕ → ℕ) (a b : Forest) → same_shape a b ≡ true → All (λ p. g p.0 ≡ h p.1) (corresponding a b) → rename g a ≡ rename h b
same-renamed g h nil nil e s = refl
same-renamed g h nil (node w c d) e s = absurd (true≢false (sym e))
same-renamed g h (node v a b) nil e s = absurd (true≢false (sym e))
same-renamed g h (node v a b) (node w c d) e s =
    let first = same-renamed g h a c (and_left (same_shape a c) (same_shape b d) e) (all_left _ (corresponding a c) (corresponding b d) s.1) in
    let others = same-renamed g h b d (and_right (same_shape a c) (same_shape b d) e) (all_right _ (corresponding a c) (corresponding b d) s.1) in
    λ i. node (s.0 i) (first i) (others i)

-- are drawn alike
pub same-drawing : (D : Spacing) (g h : ℕ → ℕ) (a b : Forest) → same_shape a b ≡ true → All (λ p. g p.0 ≡ h p.1) (corresponding a b)
    → rename_drawing g (draw (spaced_by g D) a) ≡ rename_drawing h (draw (spaced_by h D) b)
same-drawing D g h a b e s = sym (rename-draw D g a) ∙ ap (draw D) (same-renamed g h a b e s) ∙ rename-draw D h b

-- ---- numbers that stay

kept-forest : (g : ℕ → ℕ) (f : Forest) → All (λ v. g v ≡ v) (preorder f) → rename g f ≡ f
kept-forest g nil s = refl
kept-forest g (node v a b) s =
    let first = kept-forest g a (all_left _ (preorder a) (preorder b) s.1) in
    let others = kept-forest g b (all_right _ (preorder a) (preorder b) s.1) in
    λ i. node (s.0 i) (first i) (others i)

kept-drawing : (g : ℕ → ℕ) (d : Drawing) → All (λ v. g v ≡ v) (preorder (names d)) → rename_drawing g d ≡ d
kept-drawing g none s = refl
kept-drawing g (at v x b c) s =
    let first = kept-drawing g b (all_left _ (preorder (names b)) (preorder (names c)) s.1) in
    let others = kept-drawing g c (all_right _ (preorder (names b)) (preorder (names c)) s.1) in
    λ i. at (s.0 i) x (first i) (others i)

-- a drawing looks only at what its own nodes need
pub draw-kept : (D : Spacing) (g : ℕ → ℕ) (f : Forest) → All (λ v. g v ≡ v) (preorder f) → draw D f ≡ draw (spaced_by g D) f
draw-kept D g f s =
    ap (draw D) (sym (kept-forest g f s)) ∙ rename-draw D g f
    ∙ kept-drawing g (draw (spaced_by g D) f) (rw (names-draw (spaced_by g D) f) s)
