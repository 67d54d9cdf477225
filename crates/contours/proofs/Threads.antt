-- The contours of a row after a join: on the left the row's own, and below its last level that of the new child; on the right the other way
-- round. What is seen of the row on either has not been moved. Assumes nothing.
use mathlib.Core.Path.{◌≡◌, refl, ap, ap₂, ◌∙◌}
use mathlib.Core.List.{List, [], ◌∷◌, map}
use Prim.Native.Nat.{ℕ, ◌+◌, ◌≤◌, ◌<◌}
use native.Mathlib.Nat.{le_refl, le_trans}
use native.Mathlib.Omega.{arith}
use lib.IntN.{pos, ◌+ℤ◌, +ℤ_idr}
use Rattle.distance.specs.Needed.{Distance}
use Rattle.tree.specs.Forest.{Forest, nil, node}
use Rattle.tree.proofs.Counting.{All, all-weaken, all_map}
use Rattle.tree.proofs.Joined.{Some, some}
use Rattle.rule.specs.Drawing.{Drawing, none, width, Dot, dot, dots, row_dots, first_of, last_of, left_contour, right_contour}
use Rattle.rule.specs.Join.{Spacing, Meeting, shortfall, meet, shares, movement, start, alone, join, meetings}
use Rattle.rule.specs.Rule.{draw_onto}
use Rattle.rule.proofs.Moving.{shift_by, move_by, row_dots-join}
use Rattle.rule.proofs.Spacing.{Spaced, Row, Child, alone-child, row-join, row-none, row-draw_onto}
use Rattle.contours.proofs.Contour.{over, picked_all, left-beside, right-beside}
use Rattle.rule.proofs.Shares.{share-none}
use Rattle.rule.proofs.Significant.{meet-none}
use Rattle.rule.proofs.Walk.{Falling}
use Rattle.rule.proofs.LevelEnds.{first_in}

-- ---- no first child is moved

-- down the left contour the children are met from left to right
abbrev pub Rising : ℕ → List Dot → Type 0
Rising c [] = Unit {0}
Rising c (d ∷ l) = (c ≤ d.child) × Rising d.child l

rising-over : (j c : ℕ) (l m : List Dot) → All (λ e. e.child < j) l → All (λ e. e.child ≡ j) m → c ≤ j → Rising c l → Rising c (over l m)
rising-over j c [] [] a b h r = tt
rising-over j c [] (e ∷ m) a b h r = (omega (arith, b.0), rising-over j e.child [] m tt b.1 (omega (arith, b.0)) tt)
rising-over j c (d ∷ l) [] a b h r = r
rising-over j c (d ∷ l) (e ∷ m) a b h r = (r.0, rising-over j d.child l m a.1 b.1 (omega (arith, a.0)) r.1)

order_in : (D : Distance) (x : List Dot) → Some x → Spaced D x → (first_of x).child ≤ (last_of x).child
order_in D [] s p = elim s [ ]
order_in D (d ∷ []) s p = le_refl _
order_in D (d ∷ e ∷ l) s p = le_trans p.0.order (order_in D (e ∷ l) some p.1)

-- the first child on the deepest level stands between all first ones and all last ones
between : (D : Distance) (c d : ℕ) (xs : List (List Dot)) → All Some xs → All (Spaced D) xs → Rising c (left_contour xs) → Falling d xs
    → (z : ℕ) × All (λ x. (first_of x).child ≤ z) xs × All (λ x. z ≤ (last_of x).child) xs
between D c d [] s p r f = (0, tt, tt)
between D c d (x ∷ []) s p r f = ((first_of x).child, (le_refl _, tt), (order_in D x s.0 p.0, tt))
between D c d (x ∷ y ∷ ys) s p r f =
    let b = between D (first_of x).child (last_of x).child (y ∷ ys) s.1 p.1 r.1 f.1 in
    (b.0, (le_trans r.1.0 b.1.0, b.1), (le_trans b.2.0 f.1.0, b.2))

-- the meeting of two dots, of which the second has been moved
abbrev meeting : Distance → ℕ → Dot → Dot → Meeting
meeting D moved d e = record { child = d.child; amount = shortfall (D d.node e.node) d.place (e.place +ℤ pos moved) }

-- a child before every one that is met does not move
shares-before : (D : Distance) (moved j p : ℕ) (xs : List (List Dot)) (ws : List Dot) → All (λ y. p ≤ (last_of y).child) xs → shares j (meet D moved (right_contour xs) ws) p ≡ 0
shares-before D moved j p [] ws a = refl
shares-before D moved j p (x ∷ xs) [] a = refl
shares-before D moved j p (x ∷ xs) (w ∷ ws) a =
    let now = meeting D moved (last_of x) w in
    omega (arith, share-none j now p a.0, shares-before D (moved + now.amount) j p xs ws a.1)

unmoved : (m : ℕ → ℕ) (e : Dot) → m e.child ≡ 0 → move_by m e ≡ e
unmoved m e h = ap (dot e.child e.node) (ap (λ (k : ℕ). e.place +ℤ pos k) h ∙ +ℤ_idr e.place)

all-unmoved : (m : ℕ → ℕ) (l : List Dot) → All (λ e. m e.child ≡ 0) l → map (move_by m) l ≡ l
all-unmoved m [] a = refl
all-unmoved m (e ∷ l) a = ap₂ ◌∷◌ (unmoved m e a.0) (all-unmoved m l a.1)

firsts_stay : (D : Distance) (j : ℕ) (xs : List (List Dot)) (ws : List Dot) → Row D j xs → Rising 0 (left_contour xs)
    → map (move_by (shares j (meet D 0 (right_contour xs) ws))) (left_contour xs) ≡ left_contour xs
firsts_stay D j xs ws R r =
    let b = between D 0 j xs R.some R.spaced r R.falling in
    all-unmoved _ (left_contour xs)
    (all_map first_of (λ x. (first_of x).child ≤ b.0) (λ e. shares j (meet D 0 (right_contour xs) ws) e.child ≡ 0)
    (λ x h. shares-before D 0 j (first_of x).child xs ws (all-weaken (λ y. b.0 ≤ (last_of y).child) (λ y. (first_of x).child ≤ (last_of y).child) (λ y k. le_trans h k) xs b.2)) xs b.1)

-- ---- below the new child's last level no last child is moved

lasts_stay : (D : Distance) (j c moved : ℕ) (xs ys : List (List Dot)) (m : ℕ → ℕ) (h : Dot → Dot) → Falling c xs
    → ((p : ℕ) → p ≤ c → m p ≡ shares j (meet D moved (right_contour xs) (left_contour ys)) p)
    → over (map h (right_contour ys)) (map (move_by m) (right_contour xs)) ≡ over (map h (right_contour ys)) (right_contour xs)
lasts_stay D j c moved [] ys m h f k = refl
lasts_stay D j c moved (x ∷ xs) [] m h f k =
    ap₂ ◌∷◌ (unmoved m (last_of x) (k (last_of x).child f.0))
    (lasts_stay D j (last_of x).child moved xs [] m h f.1 (λ p l. rw meet-none (k p (le_trans l f.0))))
lasts_stay D j c moved (x ∷ xs) (y ∷ ys) m h f k =
    let now = meeting D moved (last_of x) (first_of y) in
    ap (λ (l : List Dot). h (last_of y) ∷ l)
    (lasts_stay D j (last_of x).child (moved + now.amount) xs ys m h f.1 (λ p l. omega (arith, k p (le_trans l f.0), share-none j now p l)))

-- ---- a join

module _ (D : Spacing) (row : Drawing) (v : ℕ) (below : Drawing) where
  abbrev xs : List (List Dot)
  xs = row_dots 0 row

  abbrev ys : List (List Dot)
  ys = dots (width row) (pos 0) (alone v (start D.need row v) below)

  abbrev pub shifted : Dot → Dot
  shifted = shift_by (pos (movement D.extra (meetings D.need row v below)))

  module _ (R : Row D.need (width row) xs) (C : Child D.need (width row) ys) where
    pub left_join : Rising 0 (left_contour xs) → left_contour (row_dots 0 (join D row v below)) ≡ over (left_contour xs) (map shifted (left_contour ys))
    left_join r =
        rw (row_dots-join D row v below, left-beside _ shifted xs ys R.some C.some, firsts_stay D.need (width row) xs (left_contour ys) R r)

    pub right-join : right_contour (row_dots 0 (join D row v below)) ≡ over (map shifted (right_contour ys)) (right_contour xs)
    right-join =
        rw (row_dots-join D row v below, right-beside _ shifted xs ys R.some C.some)
        (lasts_stay D.need (width row) (width row) 0 xs ys _ shifted R.falling (λ p h. refl))

    rising-join : Rising 0 (left_contour xs) → Rising 0 (left_contour (row_dots 0 (join D row v below)))
    rising-join r =
        rw (left_join r)
        (rising-over (width row) 0 (left_contour xs) (map shifted (left_contour ys)) (picked_all first_of _ (first_in _) xs R.some R.tags)
        (all_map shifted Own Own (λ e h. h) (left_contour ys) (picked_all first_of Own (first_in Own) ys C.some C.tags)) (omega arith) r)
      where
        Own : Dot → Type 0
        Own e = e.child ≡ width row

pub rising-draw_onto : (D : Spacing) (row : Drawing) (f : Forest) → Row D.need (width row) (row_dots 0 row) → Rising 0 (left_contour (row_dots 0 row)) → Rising 0 (left_contour (row_dots 0 (draw_onto D row f)))
rising-draw_onto D row nil R r = r
rising-draw_onto D row (node v f g) R r =
    let b = draw_onto D none f in
    let B = row-draw_onto D none f row-none in
    rising-draw_onto D (join D row v b) g (row-join D row v b R B) (rising-join D row v b R (alone-child D.need (width row) (width b) v (start D.need row v) b B) r)
