-- How wide a join is: where no two nodes need more than W, joining adds at most W, and what is added after the walk; a node above its children adds
-- nothing. Assumes nothing.
use mathlib.Core.Path.{◌≡◌, refl, ap, subst}
use mathlib.Core.Logic.{◌⊎◌, inl, inr, ⊎_elim}
use mathlib.Core.List.Memᴰ
use mathlib.Core.List.{List, [], ◌∷◌, map}
use Prim.Native.Nat.{ℕ, zero, suc, ◌+◌, ◌≤◌}
use native.Mathlib.Nat.{not-suc-le-zero, le_refl}
use native.Mathlib.Omega.{arith}
use lib.IntN.{ℤ, pos, ◌+ℤ◌, ◌-ℤ◌}
use Rattle.distance.specs.Needed.{Distance}
use Rattle.tree.specs.Levels.{beside}
use Rattle.tree.proofs.Counting.{below_or_not}
use Rattle.rule.specs.Drawing.{Drawing, none, at, last_place, middle, Dot, dot, dots, row_dots}
use Rattle.rule.specs.Join.{above0, alone}
use Rattle.rule.proofs.Signed.{below0, parts_add, parts_sub, parts_eq, AtMost}
use Rattle.rule.proofs.Moving.{shift_by, move_by, settle, dots-row}
use Rattle.rule.proofs.OnLevel.{OnLevel, top, down, on-left, on-right, on-cases, on-map, on-moved, on_some}
use Rattle.rule.proofs.Exact.{Measured}
use Rattle.rule.proofs.Led.{Led}

-- ---- no dot stands further than w right of another

abbrev pub Narrow : ℕ → List (List Dot) → Type 0
Narrow w xs = (e f : Dot) (l k : ℕ) → OnLevel e l xs → OnLevel f k xs → AtMost e.place (f.place +ℤ pos w)

-- levels all of whose dots moved alike
pub narrow-map : (w : ℕ) (c : ℤ) (g : Dot → Dot) → ((e : Dot) → (g e).place ≡ e.place +ℤ c) → (xs : List (List Dot)) → Narrow w xs → Narrow w (map (map g) xs)
narrow-map w c g h xs n e f l k o p =
    let r = on-map g xs o in
    let s = on-map g xs p in
    let a = r.0.place in
    let b = s.0.place in
    rw (r.2, s.2, h r.0, h s.0)
    (omega (arith, n r.0 s.0 l k r.1 s.1, parts_add a c, parts_add b c, parts_add b (pos w), parts_add (b +ℤ c) (pos w)))

-- ---- the join

-- Where every dot of the row stays or is led, a dot of the join is not right of a dot of the row as it was, or of one of the child as it
-- is now; and it is not left of one.
module _ (D : Distance) (W : ℕ) (most : (a b : ℕ) → D a b ≤ W) (extra : ℕ) (m : ℕ → ℕ) (t : ℕ) (xs ys : List (List Dot)) (w v : ℕ) (nx : Narrow w xs) (ny : Narrow v ys)
    (M : Measured D extra m t xs ys)
    (led : (d : Dot) (l : ℕ) → OnLevel d l xs → (m d.child ≡ 0) ⊎ Led m t d l ys) where
  abbrev joined : List (List Dot)
  joined = beside (map (map (move_by m)) xs) (map (map (shift_by (pos t))) ys)

  abbrev Bound : (ℤ → Type 0) → Type 0
  Bound P = ((d : Dot) × (k : ℕ) × OnLevel d k xs × P d.place) ⊎ ((d : Dot) × (k : ℕ) × OnLevel d k ys × P (d.place +ℤ pos t))

  upper : (e : Dot) (l : ℕ) → OnLevel e l joined → Bound (λ z. AtMost e.place z)
  upper e l o =
      ⊎_elim (on-moved (move_by m) xs (λ e. Bound (λ z. AtMost e.place z)) (λ d p.
      ⊎_elim (λ z. inl (d, l, p, omega (arith, parts_add d.place (pos (m d.child))))) (λ g. inr (g.leader, l, g.on, g.right)) (led d l p)) e)
      (on-moved (shift_by (pos t)) ys (λ e. Bound (λ z. AtMost e.place z)) (λ d p. inr (d, l, p, le_refl _)) e)
      (on-cases (map (map (move_by m)) xs) (map (map (shift_by (pos t))) ys) o)

  lower : (f : Dot) (l : ℕ) → OnLevel f l joined → Bound (λ z. AtMost z f.place)
  lower f l o =
      ⊎_elim (on-moved (move_by m) xs (λ f. Bound (λ z. AtMost z f.place)) (λ d p. inl (d, l, p, omega (arith, parts_add d.place (pos (m d.child))))) f)
      (on-moved (shift_by (pos t)) ys (λ f. Bound (λ z. AtMost z f.place)) (λ d p. inr (d, l, p, le_refl _)) f)
      (on-cases (map (map (move_by m)) xs) (map (map (shift_by (pos t))) ys) o)

  pub narrow-join : Narrow (w + v + W + extra) joined
  narrow-join e f l k o p =
      let left = M.left.place in
      let right = M.right.place in
      let past = parts_add f.place (pos (w + v + W + extra)) in
      let bound = most M.left.node M.right.node in
      let above = ap above0 M.exactly in
      let below = ap below0 M.exactly in
      let new = parts_add right (pos t) in
      let old = parts_add left (pos (D M.left.node M.right.node + extra)) in
      ⊎_elim (λ a.
      ⊎_elim (λ b. omega (arith, nx a.0 b.0 a.1 b.1 a.2 b.2, parts_add b.0.place (pos w)))
      (λ b.
      omega (
        arith,
        nx a.0 M.left a.1 M.level a.2 M.on_row,
        ny M.right b.0 M.level b.1 M.on-child b.2,
        parts_add left (pos w),
        parts_add b.0.place (pos v),
        parts_add b.0.place (pos t),
      ))
      (lower f k p))
      (λ a.
      ⊎_elim (λ b.
      omega (
        arith,
        ny a.0 M.right a.1 M.level a.2 M.on-child,
        nx M.left b.0 M.level b.1 M.on_row b.2,
        parts_add right (pos v),
        parts_add b.0.place (pos w),
        parts_add a.0.place (pos t),
      ))
      (λ b.
      omega (
        arith,
        ny a.0 b.0 a.1 b.1 a.2 b.2,
        parts_add b.0.place (pos v),
        parts_add b.0.place (pos t),
        parts_add a.0.place (pos t),
      ))
      (lower f k p))
      (upper e l o)

-- ---- a node above its children

-- the first and the last of a row are among its dots
first-dot : (i : ℕ) (o : ℤ) (u x : ℕ) (below after : Drawing) → OnLevel (dot i u (o +ℤ pos x)) 0 (dots i o (at u x below after))
first-dot i o u x below after = on-left (dots i o after) (top (Memᴰ.head refl))

last-dot : (i : ℕ) (o : ℤ) (u x : ℕ) (below after : Drawing)
    → (w : ℕ) × OnLevel (dot i w (o +ℤ pos (last_place (at u x below after)))) 0 (dots i o (at u x below after))
last-dot i o u x below none = (u, on-left [] (top (Memᴰ.head refl)))
last-dot i o u x below (at w y under after) =
    let r = last-dot i o w y under after in
    (r.0, on-right ((dot i u (o +ℤ pos x) ∷ []) ∷ dots i (o +ℤ pos x -ℤ pos (middle below)) below) r.1)

-- A node stands over its children, not right of both the first and the last and not left of the first, so it makes the drawing no wider.
module _ (w i v : ℕ) (o : ℤ) (u x : ℕ) (below after : Drawing) (n : Narrow w (dots i o (at u x below after))) where
  abbrev children : List (List Dot)
  children = dots i o (at u x below after)

  abbrev above : ℤ
  above = o +ℤ pos (middle (at u x below after))

  split : (e : Dot) (l : ℕ) → OnLevel e l ((dot i v above ∷ []) ∷ children) → (e ≡ dot i v above) ⊎ ((k : ℕ) × OnLevel e k children)
  split e zero (top m) = ⊎_elim inl (λ k. absurd (Memᴰ.not-nil k)) (Memᴰ.cases_cons m)
  split e (suc l) (down d) = inr (l, d)

  upper-child : (e : Dot) (l : ℕ) → OnLevel e l ((dot i v above ∷ []) ∷ children) → (d : Dot) × (k : ℕ) × OnLevel d k children × AtMost e.place d.place
  upper-child e l p =
      let y = last_place (at u x below after) in
      let z = last-dot i o u x below after in
      let over = parts_add o (pos (middle (at u x below after))) in
      ⊎_elim (λ q.
      ⊎_elim (λ h. (dot i z.0 (o +ℤ pos y), 0, z.1, rw q (omega (arith, parts_add o (pos y)))))
      (λ h. (dot i u (o +ℤ pos x), 0, first-dot i o u x below after, rw q (omega (arith, parts_add o (pos x)))))
      (below_or_not x y))
      (λ q. (e, q.0, q.1, le_refl _))
      (split e l p)

  lower-child : (e : Dot) (l : ℕ) → OnLevel e l ((dot i v above ∷ []) ∷ children) → (d : Dot) × (k : ℕ) × OnLevel d k children × AtMost d.place e.place
  lower-child e l p =
      ⊎_elim (λ q.
      (dot i u (o +ℤ pos x), 0, first-dot i o u x below after, rw q (omega (arith, parts_add o (pos x), parts_add o (pos (middle (at u x below after)))))))
      (λ q. (e, q.0, q.1, le_refl _))
      (split e l p)

  narrow-node : Narrow w ((dot i v above ∷ []) ∷ children)
  narrow-node e f l k oe of =
      let a = upper-child e l oe in
      let b = lower-child f k of in
      omega (arith, n a.0 b.0 a.1 b.1 a.2 b.2, parts_add b.0.place (pos w), parts_add f.place (pos w))

-- a child and what is drawn below it
pub narrow-alone : (w i v x : ℕ) (below : Drawing) → Narrow w (row_dots 0 below) → Narrow w (dots i (pos 0) (alone v x below))
narrow-alone w i v x none n = λ e f l k oe of. rw (only e l oe, only f k of) (omega (arith, parts_add (pos (0 + x)) (pos w)))
  where
    only : (e : Dot) (l : ℕ) → OnLevel e l ((dot i v (pos (0 + x)) ∷ []) ∷ []) → e ≡ dot i v (pos (0 + x))
    only e zero (top m) = Memᴰ.eq_of_singleton m
    only e (suc l) (down o) = absurd (not-suc-le-zero (on_some o))
narrow-alone w i v x (at u y b c) n =
    subst (λ (p : ℤ). Narrow w ((dot i v p ∷ []) ∷ dots i o (at u y b c))) back
    (narrow-node w i v o u y b c (rw (dots-row i 0 o (at u y b c)) (narrow-map w o (settle i o) (λ e. refl) (row_dots 0 (at u y b c)) n)))
  where
    o : ℤ
    o = pos (0 + x) -ℤ pos (middle (at u y b c))

    back : o +ℤ pos (middle (at u y b c)) ≡ pos (0 + x)
    back =
        parts_eq (o +ℤ pos (middle (at u y b c))) (pos (0 + x))
        (omega (arith, parts_sub (pos (0 + x)) (pos (middle (at u y b c))), parts_add o (pos (middle (at u y b c)))))
