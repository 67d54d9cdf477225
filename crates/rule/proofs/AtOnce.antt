-- Moving the go-betweens at the time or at the end gives one drawing: below a level on which a child is met, the right contour belongs to
-- that child or to an earlier one, so what has been moved is hidden. Assumes nothing.
use mathlib.Core.Path.{◌≡◌, refl, sym, ap, ap₂, ◌∙◌}
use mathlib.Core.List.{List, [], ◌∷◌, ◌++◌, map, append-nil, append_assoc}
use Prim.Native.Nat.{ℕ, zero, suc, ◌+◌, ◌≤◌}
use native.Mathlib.Nat.{le_refl, le_trans, not-suc-le-zero, add-zero, add_assoc}
use native.Mathlib.Omega.{arith}
use lib.IntN.{ℤ, pos, ◌+ℤ◌}
use lib.ListN.{length, drop}
use Rattle.distance.specs.Needed.{Distance}
use Rattle.tree.specs.Forest.{Forest, nil, node}
use Rattle.rule.specs.Rule.{draw_onto, draw}
use Rattle.tree.proofs.Counting.{All}
use Rattle.rule.specs.Drawing.{Drawing, none, at, width, append, Dot, dot, dots, row_dots, last_of, left_contour, right_contour}
use Rattle.rule.specs.Join.{Spacing, Meeting, shortfall, meet, shares, total, added, spread, start, alone, row_contour, new_contour, meetings, join}
use Rattle.rule.specs.AtOnce.{Joining, with_child, step, walk_down, join_at_once, draw_onto_at_once}
use Rattle.rule.proofs.Signed.{parts_add, parts_eq}
use Rattle.tree.proofs.Joined.{Some}
use Rattle.rule.proofs.Moving.{shift_by, move_by, row_dots-spread, alone-shift}
use Rattle.rule.proofs.Shares.{share-none}
use Rattle.rule.proofs.LevelEnds.{last-map, first-map}
use Rattle.rule.proofs.Walk.{Falling}
use Rattle.rule.proofs.Spacing.{Row, alone-child, row-none, row-join, row-draw_onto}

-- ---- lists

tail-drop : {A : Type 0} (l : ℕ) (xs : List A) (a : A) (r : List A) → drop l xs ≡ a ∷ r → drop (suc l) xs ≡ r
tail-drop zero [] a r e = ap (drop 1) e
tail-drop zero (x ∷ xs) a r e = ap (drop 1) e
tail-drop (suc l) [] a r e = ap (drop 1) e
tail-drop (suc l) (x ∷ xs) a r e = tail-drop l xs a r e

none-drop : {A : Type 0} (l : ℕ) (xs : List A) → drop l xs ≡ [] → drop (suc l) xs ≡ []
none-drop zero [] e = refl
none-drop zero (x ∷ xs) e = ap (drop 1) e
none-drop (suc l) [] e = refl
none-drop (suc l) (x ∷ xs) e = none-drop l xs e

map-drop : {A B : Type 0} (f : A → B) (l : ℕ) (xs : List A) → drop l (map f xs) ≡ map f (drop l xs)
map-drop f zero xs = refl
map-drop f (suc l) [] = refl
map-drop f (suc l) (x ∷ xs) = map-drop f l xs

-- ---- meetings in a row

pub shares-append : (j : ℕ) (ms ns : List Meeting) (p : ℕ) → shares j (ms ++ ns) p ≡ shares j ms p + shares j ns p
shares-append j [] ns p = omega arith
shares-append j (m ∷ ms) ns p = omega (arith, shares-append j ms ns p)

pub total-append : (ms ns : List Meeting) → total (ms ++ ns) ≡ total ms + total ns
total-append [] ns = omega arith
total-append (m ∷ ms) ns = omega (arith, total-append ms ns)

spread-spread : (j : ℕ) (ms ns : List Meeting) (p : ℕ) (d : Drawing) → spread j ns p (spread j ms p d) ≡ spread j (ms ++ ns) p d
spread-spread j ms ns p none = refl
spread-spread j ms ns p (at v x below after) =
    let sum : x + shares j ms p + shares j ns p ≡ x + shares j (ms ++ ns) p = omega (arith, shares-append j ms ns p) in
    ap₂ (λ (y : ℕ) (r : Drawing). at v y below r) sum (spread-spread j ms ns (p + 1) after)

spread_none : (j p : ℕ) (d : Drawing) → spread j [] p d ≡ d
spread_none j p none = refl
spread_none j p (at v x below after) = ap₂ (λ (y : ℕ) (r : Drawing). at v y below r) (add-zero x) (spread_none j (p + 1) after)

-- ---- contours

-- the children of the dots fall
abbrev Descending : ℕ → List Dot → Type 0
Descending c [] = Unit {0}
Descending c (a ∷ us) = (a.child ≤ c) × Descending a.child us

descending : (c : ℕ) (xs : List (List Dot)) → Falling c xs → Descending c (right_contour xs)
descending c [] f = tt
descending c (x ∷ xs) f = (f.0, descending (last_of x).child xs f.1)

-- dots of children that do not move
unmoved : (m : ℕ → ℕ) (c : ℕ) (us : List Dot) → Descending c us → ((p : ℕ) → p ≤ c → m p ≡ 0) → map (move_by m) us ≡ us
unmoved m c [] d q = refl
unmoved m c (a ∷ us) d q =
    ap₂ (λ (z : ℤ) (r : List Dot). dot a.child a.node z ∷ r)
    (parts_eq (a.place +ℤ pos (m a.child)) a.place (omega (arith, q a.child d.0, parts_add a.place (pos (m a.child)))))
    (unmoved m a.child us d.1 (λ p h. q p (le_trans h d.0)))

contour_move : (m : ℕ → ℕ) (xs : List (List Dot)) → All Some xs → right_contour (map (map (move_by m)) xs) ≡ map (move_by m) (right_contour xs)
contour_move m [] s = refl
contour_move m (x ∷ xs) s = ap₂ (λ (e : Dot) (r : List Dot). e ∷ r) (last-map (move_by m) x s.0) (contour_move m xs s.1)

contour-shift : (c : ℤ) (ys : List (List Dot)) → All Some ys → left_contour (map (map (shift_by c)) ys) ≡ map (shift_by c) (left_contour ys)
contour-shift c [] s = refl
contour-shift c (y ∷ ys) s = ap₂ (λ (e : Dot) (r : List Dot). e ∷ r) (first-map (shift_by c) y s.0) (contour-shift c ys s.1)

module _ (D : Distance) (row : Drawing) (v : ℕ) (below : Drawing) (R : Row D (width row) (row_dots 0 row)) (B : Row D (width below) (row_dots 0 below)) where
  -- the row and the child after some meetings
  abbrev after : List Meeting → Joining
  after ps = record { row = spread (width row) ps 0 row; place = start D row v + total ps }

  row_contour_lem : (ps : List Meeting) (l : ℕ) (us : List Dot) → drop l (row_contour row) ≡ us
      → drop l (row_contour (spread (width row) ps 0 row)) ≡ map (move_by (shares (width row) ps)) us
  row_contour_lem ps l us e =
      ap (λ (xs : List (List Dot)). drop l (right_contour xs)) (row_dots-spread (width row) ps 0 row)
      ∙ ap (drop l) (contour_move (shares (width row) ps) (row_dots 0 row) R.some)
      ∙ map-drop (move_by (shares (width row) ps)) l (row_contour row)
      ∙ ap (map (move_by (shares (width row) ps))) e

  child-contour : (T l : ℕ) (ws : List Dot) → drop l (new_contour D row v below) ≡ ws
      → drop l (left_contour (dots (width row) (pos 0) (alone v (start D row v + T) below))) ≡ map (shift_by (pos T)) ws
  child-contour T l ws e =
      ap (λ (ys : List (List Dot)). drop l (left_contour ys)) (alone-shift (width row) v (start D row v) T below)
      ∙ ap (drop l) (contour-shift (pos T) (dots (width row) (pos 0) (alone v (start D row v) below))
      (alone-child D (width row) (width below) v (start D row v) below B).some)
      ∙ map-drop (shift_by (pos T)) l (new_contour D row v below)
      ∙ ap (map (shift_by (pos T))) e

  -- past the end of a contour nothing more is moved
  ended-row : (k l : ℕ) (ps : List Meeting) → drop l (row_contour row) ≡ [] → walk_down D k l (width row) v below (after ps) ≡ after ps
  ended-row zero l ps e = refl
  ended-row (suc k) l ps e =
      ap (λ (us : List Dot). walk_down D k (suc l) (width row) v below
      (step D (width row) (after ps) us (drop l (left_contour (dots (width row) (pos 0) (alone v (start D row v + total ps) below))))))
      (row_contour_lem ps l [] e)
      ∙ ended-row k (suc l) ps (none-drop l (row_contour row) e)

  ended-child : (k l : ℕ) (ps : List Meeting) → drop l (new_contour D row v below) ≡ [] → walk_down D k l (width row) v below (after ps) ≡ after ps
  ended-child zero l ps e = refl
  ended-child (suc k) l ps e =
      ap (λ (ws : List Dot). walk_down D k (suc l) (width row) v below
      (step D (width row) (after ps) (drop l (row_contour (spread (width row) ps 0 row))) ws))
      (child-contour (total ps) l [] e)
      ∙ ap (walk_down D k (suc l) (width row) v below) (no_step (after ps) (drop l (row_contour (spread (width row) ps 0 row))))
      ∙ ended-child k (suc l) ps (none-drop l (new_contour D row v below) e)
    where
      no_step : (s : Joining) (us : List Dot) → step D (width row) s us [] ≡ s
      no_step s [] = refl
      no_step s (a ∷ us) = refl

  -- the walk from level l on, after the meetings above it
  walk-meet : (k l c : ℕ) (ps : List Meeting) (us ws : List Dot) → drop l (row_contour row) ≡ us → drop l (new_contour D row v below) ≡ ws
      → length us ≤ k → Descending c us → ((p : ℕ) → p ≤ c → shares (width row) ps p ≡ 0)
      → walk_down D k l (width row) v below (after ps) ≡ after (ps ++ meet D (total ps) us ws)
  walk-meet k l c ps [] ws eu ew h d q = ended-row k l ps eu ∙ ap after (sym (append-nil ps))
  walk-meet k l c ps (a ∷ us) [] eu ew h d q = ended-child k l ps ew ∙ ap after (sym (append-nil ps))
  walk-meet zero l c ps (a ∷ us) (b ∷ ws) eu ew h d q = absurd (not-suc-le-zero h)
  walk-meet (suc k) l c ps (a ∷ us) (b ∷ ws) eu ew h d q =
      ap₂ (λ (x y : List Dot). walk_down D k (suc l) (width row) v below (step D (width row) (after ps) x y))
      (row_contour_lem ps l (a ∷ us) eu ∙ unmoved (shares (width row) ps) c (a ∷ us) d q)
      (child-contour (total ps) l (b ∷ ws) ew)
      ∙ ap (walk_down D k (suc l) (width row) v below) moved
      ∙ walk-meet k (suc l) a.child (ps ++ (m ∷ [])) us ws (tail-drop l (row_contour row) a us eu) (tail-drop l (new_contour D row v below) b ws ew)
      (omega arith) d.1 quiet
      ∙ ap after (ap (λ (T : ℕ). ps ++ (m ∷ []) ++ meet D T us ws) grown ∙ append_assoc ps (m ∷ []) (meet D (total ps + m.amount) us ws))
    where
      m : Meeting
      m = record { child = a.child; amount = shortfall (D a.node b.node) a.place (b.place +ℤ pos (total ps)) }

      grown : total (ps ++ (m ∷ [])) ≡ total ps + m.amount
      grown = omega (arith, total-append ps (m ∷ []))

      moved : step D (width row) (after ps) (a ∷ us) (shift_by (pos (total ps)) b ∷ map (shift_by (pos (total ps))) ws) ≡ after (ps ++ (m ∷ []))
      moved =
          let further : start D row v + total ps + m.amount ≡ start D row v + total (ps ++ (m ∷ [])) = omega (arith, grown) in
          ap₂ (λ (r : Drawing) (x : ℕ). record { row = r; place = x }) (spread-spread (width row) ps (m ∷ []) 0 row) further

      quiet : (p : ℕ) → p ≤ a.child → shares (width row) (ps ++ (m ∷ [])) p ≡ 0
      quiet p g = omega (arith, shares-append (width row) ps (m ∷ []) p, q p (le_trans g d.0), share-none (width row) m p g)

-- both joins are one
module _ (D : Spacing) (row : Drawing) (v : ℕ) (below : Drawing) (R : Row D.need (width row) (row_dots 0 row)) (B : Row D.need (width below) (row_dots 0 below)) where
  pub join_at_once_lem : join_at_once D row v below ≡ join D row v below
  join_at_once_lem =
      let N = D.need in
      let ms = meetings N row v below in
      ap (λ (s : Joining). with_child (record { row = s.row; place = s.place + added D.extra ms }) v below)
      (ap₂ (λ (r : Drawing) (x : ℕ). walk_down N (length (row_contour row)) 0 (width row) v below (record { row = r; place = x }))
      (sym (spread_none (width row) 0 row)) (sym (add-zero (start N row v)))
      ∙ walk-meet N row v below R B (length (row_contour row)) 0 (width row) [] (row_contour row) (new_contour N row v below) refl refl (le_refl _)
      (descending (width row) (row_dots 0 row) R.falling) (λ p h. refl))
      ∙ ap (λ (x : ℕ). append (spread (width row) ms 0 row) (alone v x below)) (add_assoc (start N row v) (total ms) (added D.extra ms))

-- and so are the drawings
draw_onto_lem : (D : Spacing) (row : Drawing) (f : Forest) → Row D.need (width row) (row_dots 0 row) → draw_onto_at_once D row f ≡ draw_onto D row f
draw_onto_lem D row nil R = refl
draw_onto_lem D row (node v f g) R =
    let B = row-draw_onto D none f row-none in
    ap (λ (d : Drawing). draw_onto_at_once D (join_at_once D row v d) g) (draw_onto_lem D none f row-none)
    ∙ ap (λ (d : Drawing). draw_onto_at_once D d g) (join_at_once_lem D row v (draw_onto D none f) R B)
    ∙ draw_onto_lem D (join D row v (draw_onto D none f)) g (row-join D row v (draw_onto D none f) R B)

pub draw-at-once : (D : Spacing) (f : Forest) → draw_onto_at_once D none f ≡ draw D f
draw-at-once D f = draw_onto_lem D none f row-none
