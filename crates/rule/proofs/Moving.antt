-- What moving does to levels: a subtree's dots move with its root, and a join puts the levels of the moved row beside those of the new
-- child. Assumes nothing.
use mathlib.Core.Path.{◌≡◌, refl, sym, ap, ap₂, ◌∙◌}
use mathlib.Core.List.{List, [], ◌∷◌, map}
use Prim.Native.Nat.{ℕ, zero, suc, ◌+◌, ◌<◌}
use native.Mathlib.Nat.{not-suc-le-zero, add-zero, zero-add}
use native.Mathlib.Omega.{arith}
use lib.IntN.{ℤ, pos, neg_ℤ, ◌+ℤ◌, ◌-ℤ◌}
use Rattle.tree.specs.Levels.{beside}
use Rattle.tree.proofs.Joined.{beside_assoc, beside-nil, map-beside}
use Rattle.rule.specs.Drawing.{Drawing, none, at, width, append, place_at, middle, Dot, dot, dots, row_dots}
use Rattle.rule.specs.Join.{Spacing, Meeting, shares, movement, spread, start, alone, join, meetings, settled}
use Rattle.rule.proofs.Signed.{parts_add, parts_sub, parts_eq, swap_last}

-- ---- a dot moved, alone or by what its child moves

abbrev pub shift_by : ℤ → Dot → Dot
shift_by c e = dot e.child e.node (e.place +ℤ c)

abbrev pub move_by : (ℕ → ℕ) → Dot → Dot
move_by m e = shift_by (pos (m e.child)) e

-- (o + c) + x - y is (o + x) - y + c
swap_less : (o c x y : ℤ) → ((o +ℤ c) +ℤ x) -ℤ y ≡ ((o +ℤ x) -ℤ y) +ℤ c
swap_less o c x y = ap (λ (z : ℤ). z -ℤ y) (swap_last o c x) ∙ swap_last (o +ℤ x) c (neg_ℤ y)

-- a dot of another child, at another place
abbrev pub settle : ℕ → ℤ → Dot → Dot
settle i c e = dot i e.node (e.place +ℤ c)

-- a row whose count starts further right, and that belongs to another child
pub dots-settle : (i p : ℕ) (o c : ℤ) (d : Drawing) → dots i (o +ℤ c) d ≡ map (map (settle i c)) (dots p o d)
dots-settle i p o c none = refl
dots-settle i p o c (at v x below after) =
    ap₂ (λ (l m : List (List Dot)). beside l m)
    (ap₂ (λ (q : ℤ) (l : List (List Dot)). (dot i v q ∷ []) ∷ l) (swap_last o c (pos x))
    (ap (λ (q : ℤ). dots i q below) (swap_less o c (pos x) (pos (middle below))) ∙ dots-settle i p (o +ℤ pos x -ℤ pos (middle below)) c below))
    (dots-settle i p o c after)
    ∙ sym (map-beside (settle i c) ((dot p v (o +ℤ pos x) ∷ []) ∷ dots p (o +ℤ pos x -ℤ pos (middle below)) below) (dots p o after))

-- all dots of one child move alike
pub dots_move : (m : ℕ → ℤ) (i : ℕ) (o : ℤ) (d : Drawing) → map (map (λ e. shift_by (m e.child) e)) (dots i o d) ≡ map (map (settle i (m i))) (dots i o d)
dots_move m i o none = refl
dots_move m i o (at v x below after) =
    map-beside (λ e. shift_by (m e.child) e) ((dot i v (o +ℤ pos x) ∷ []) ∷ dots i (o +ℤ pos x -ℤ pos (middle below)) below) (dots i o after)
    ∙ ap₂ (λ (l k : List (List Dot)). beside ((settle i (m i) (dot i v (o +ℤ pos x)) ∷ []) ∷ l) k)
    (dots_move m i (o +ℤ pos x -ℤ pos (middle below)) below) (dots_move m i o after)
    ∙ sym (map-beside (settle i (m i)) ((dot i v (o +ℤ pos x) ∷ []) ∷ dots i (o +ℤ pos x -ℤ pos (middle below)) below) (dots i o after))

pub dots-shift : (i : ℕ) (o c : ℤ) (d : Drawing) → dots i (o +ℤ c) d ≡ map (map (shift_by c)) (dots i o d)
dots-shift i o c d = dots-settle i i o c d ∙ sym (dots_move (λ p. c) i o d)

-- a child that stands s further right
pub alone-shift : (i : ℕ) (v x s : ℕ) (below : Drawing) → dots i (pos 0) (alone v (x + s) below) ≡ map (map (shift_by (pos s))) (dots i (pos 0) (alone v x below))
alone-shift i v x s below =
    let here : pos (0 + (x + s)) ≡ pos (0 + x) +ℤ pos s = ap pos (omega arith) in
    let there : pos (0 + (x + s)) -ℤ pos (middle below) ≡ (pos (0 + x) -ℤ pos (middle below)) +ℤ pos s =
    parts_eq (pos (0 + (x + s)) -ℤ pos (middle below)) ((pos (0 + x) -ℤ pos (middle below)) +ℤ pos s)
    (omega (
      arith,
      parts_sub (pos (0 + (x + s))) (pos (middle below)),
      parts_sub (pos (0 + x)) (pos (middle below)),
      parts_add (pos (0 + x) -ℤ pos (middle below)) (pos s),
    )) in
    ap₂ (λ (p : ℤ) (l : List (List Dot)). (dot i v p ∷ []) ∷ l) here
    (ap (λ (p : ℤ). dots i p below) there ∙ dots-shift i (pos (0 + x) -ℤ pos (middle below)) (pos s) below)

-- ---- a row

pub width-spread : (j : ℕ) (ms : List Meeting) (p : ℕ) (d : Drawing) → width (spread j ms p d) ≡ width d
width-spread j ms p none = refl
width-spread j ms p (at v x below after) = ap suc (width-spread j ms (p + 1) after)

pub row_dots-spread : (j : ℕ) (ms : List Meeting) (p : ℕ) (d : Drawing) → row_dots p (spread j ms p d) ≡ map (map (move_by (shares j ms))) (row_dots p d)
row_dots-spread j ms p none = refl
row_dots-spread j ms p (at v x below after) =
    ap₂ (λ (l k : List (List Dot)). beside l k)
    (alone-shift p v x (shares j ms p) below
    ∙ dots_move (λ r. pos (shares j ms p)) p (pos 0) (alone v x below) ∙ sym (dots_move (λ r. pos (shares j ms r)) p (pos 0) (alone v x below)))
    (row_dots-spread j ms (p + 1) after)
    ∙ sym (map-beside (move_by (shares j ms)) (dots p (pos 0) (alone v x below)) (row_dots (p + 1) after))

pub row_dots-append : (i : ℕ) (d e : Drawing) → row_dots i (append d e) ≡ beside (row_dots i d) (row_dots (i + width d) e)
row_dots-append i none e = ap (λ (k : ℕ). row_dots k e) (sym (add-zero i))
row_dots-append i (at v x below after) e =
    let next : (i + 1) + width after ≡ i + suc (width after) = omega arith in
    ap (beside (dots i (pos 0) (alone v x below))) (row_dots-append (i + 1) after e ∙ ap (λ (k : ℕ). beside (row_dots (i + 1) after) (row_dots k e)) next)
    ∙ sym (beside_assoc (dots i (pos 0) (alone v x below)) (row_dots (i + 1) after) (row_dots (i + suc (width after)) e))

width-append : (d e : Drawing) → width (append d e) ≡ width d + width e
width-append none e = sym (zero-add (width e))
width-append (at v x below after) e = omega (arith, width-append after e)

-- ---- the places of a row's children

pub append_left : (d e : Drawing) (p : ℕ) → p < width d → place_at (append d e) p ≡ place_at d p
append_left none e p h = absurd (not-suc-le-zero h)
append_left (at v x below after) e zero h = refl
append_left (at v x below after) e (suc p) h = append_left after e p (omega arith)

pub append_right : (d : Drawing) (v x : ℕ) (below : Drawing) → place_at (append d (alone v x below)) (width d) ≡ x
append_right none v x below = refl
append_right (at w y under after) v x below = append_right after v x below

pub spread-place : (j : ℕ) (ms : List Meeting) (q : ℕ) (d : Drawing) (p : ℕ) → p < width d → place_at (spread j ms q d) p ≡ place_at d p + shares j ms (q + p)
spread-place j ms q none p h = absurd (not-suc-le-zero h)
spread-place j ms q (at v x below after) zero h = rw add-zero
spread-place j ms q (at v x below after) (suc p) h =
    let next : (q + 1) + p ≡ q + suc p = omega arith in
    rw next at (spread-place j ms (q + 1) after p (omega arith))

-- ---- a join

pub width-join : (D : Spacing) (row : Drawing) (v : ℕ) (below : Drawing) → width (join D row v below) ≡ suc (width row)
width-join D row v below =
    omega (
      arith,
      width-append (spread (width row) (meetings D.need row v below) 0 row) (alone v (settled D row v below) below),
      width-spread (width row) (meetings D.need row v below) 0 row,
    )

-- the levels after a join: those of the row, each child moved by its shares, beside those of the new child, moved by all that it moves
pub row_dots-join : (D : Spacing) (row : Drawing) (v : ℕ) (below : Drawing)
    → row_dots 0 (join D row v below)
    ≡ beside (map (map (move_by (shares (width row) (meetings D.need row v below)))) (row_dots 0 row))
    (map (map (shift_by (pos (movement D.extra (meetings D.need row v below))))) (dots (width row) (pos 0) (alone v (start D.need row v) below)))
row_dots-join D row v below =
    let ms = meetings D.need row v below in
    let place : 0 + width (spread (width row) ms 0 row) ≡ width row = zero-add _ ∙ width-spread (width row) ms 0 row in
    row_dots-append 0 (spread (width row) ms 0 row) (alone v (settled D row v below) below)
    ∙ ap₂ (λ (l k : List (List Dot)). beside l k) (row_dots-spread (width row) ms 0 row)
    (ap (λ (k : ℕ). row_dots k (alone v (settled D row v below) below)) place ∙ beside-nil (dots (width row) (pos 0) (alone v (settled D row v below) below))
    ∙ alone-shift (width row) v (start D.need row v) (movement D.extra ms) below)

-- a row seen from outside: its dots belong to one child, and its count starts at o
pub dots-row : (i p : ℕ) (o : ℤ) (d : Drawing) → dots i o d ≡ map (map (settle i o)) (row_dots p d)
dots-row i p o none = refl
dots-row i p o (at v x below after) =
    let here : o +ℤ pos x ≡ pos (0 + x) +ℤ o = parts_eq (o +ℤ pos x) (pos (0 + x) +ℤ o) (omega (arith, parts_add o (pos x), parts_add (pos (0 + x)) o)) in
    let there : (o +ℤ pos x) -ℤ pos (middle below) ≡ (pos (0 + x) -ℤ pos (middle below)) +ℤ o =
    parts_eq ((o +ℤ pos x) -ℤ pos (middle below)) ((pos (0 + x) -ℤ pos (middle below)) +ℤ o)
    (omega (
      arith,
      parts_add o (pos x),
      parts_sub (o +ℤ pos x) (pos (middle below)),
      parts_sub (pos (0 + x)) (pos (middle below)),
      parts_add (pos (0 + x) -ℤ pos (middle below)) o,
    )) in
    ap₂ (λ (l m : List (List Dot)). beside l m)
    (ap₂ (λ (q : ℤ) (l : List (List Dot)). (dot i v q ∷ []) ∷ l) here
    (ap (λ (q : ℤ). dots i q below) there ∙ dots-settle i p (pos (0 + x) -ℤ pos (middle below)) o below))
    (dots-row i (p + 1) o after)
    ∙ sym (map-beside (settle i o) (dots p (pos 0) (alone v x below)) (row_dots (p + 1) after))
