-- How wide a drawing is: where no two nodes need more than W, a forest of m nodes spans at most m - 1 times W, and half that many times the extra
-- space E, which is added only where a child that is joined is no leaf; and so does a tree with m nodes below its root. Assumes nothing.
use mathlib.Core.Path.{◌≡◌, refl, sym, ap, subst, subst₂}
use mathlib.Core.List.{List, []}
use Prim.Native.Nat.{ℕ, zero, suc, ◌+◌, ◌*◌, ◌/◌, ◌≤◌}
use native.Mathlib.Nat.{not-suc-le-zero, le_trans, mul-le-mul_left, mul-le-mul_right}
use native.Mathlib.Omega.{arith}
use lib.IntN.{ℤ, pos}
use Rattle.distance.specs.Needed.{Distance}
use Rattle.tree.specs.Forest.{Forest, nil, node, size}
use Rattle.tree.proofs.Joined.{size-join}
use Rattle.rule.specs.Drawing.{Drawing, none, at, width, Dot, dots, row_dots}
use Rattle.rule.specs.Join.{Spacing, Meeting, shares, added, movement, start, alone, settled, join, meetings}
use Rattle.rule.specs.Rule.{draw_onto, draw}
use Rattle.rule.proofs.Signed.{parts_add}
use Rattle.rule.proofs.Names.{names, names-join, names-draw}
use Rattle.rule.proofs.Moving.{shift_by, settle, row_dots-join, dots-row}
use Rattle.rule.proofs.Shares.{shares-mono}
use Rattle.rule.proofs.OnLevel.{on_some}
use Rattle.rule.proofs.Spacing.{Row, Child, row-join, row-none, row-draw_onto, row-walk, alone-child}
use Rattle.rule.proofs.Exact.{exact-dots, join-exact}
use Rattle.rule.proofs.Significant.{added-at_most, leaf-added}
use Rattle.rule.proofs.Led.{stay_or_led}
use Rattle.rule.proofs.Width.{Narrow, narrow-map, narrow-join, narrow-alone}

-- the width that m nodes may take
abbrev pub span : ℕ → ℕ → ℕ → ℕ
span W E zero = 0
span W E (suc m) = m * W + m / 2 * E

-- k + 1 nodes that need at most 1,536
pub span_small : (W E k m : ℕ) → m ≤ suc k → W ≤ 1536 → span W E m ≤ k * 1536 + k / 2 * E
span_small W E k zero h hW = omega arith
span_small W E k (suc m) h hW =
    let few : m ≤ k = omega arith in
    let halves : m / 2 ≤ k / 2 = omega arith in
    omega (arith, le_trans (mul-le-mul_right W few) (mul-le-mul_left k hW), mul-le-mul_right E halves)

-- the width that a row of a nodes and a child with b nodes below it may take, where e is added
abbrev Room : ℕ → ℕ → ℕ → ℕ → ℕ → Type 0
Room W E a b e = span W E (suc a) + span W E b + W + e ≤ span W E (suc (a + suc b))

room-leaf : (W E a : ℕ) → Room W E a 0 0
room-leaf W E a = let halves : a / 2 ≤ (a + 1) / 2 = omega arith in omega (arith, mul-le-mul_right E halves)

room-child : (W E a b e : ℕ) → e ≤ E → Room W E a (suc b) e
room-child W E a b e h = let halves : a / 2 + b / 2 + 1 ≤ (a + suc (suc b)) / 2 = omega arith in omega (arith, mul-le-mul_right E halves)

-- a node above b others takes no more
span-node : (W E b : ℕ) → span W E b ≤ span W E (suc b)
span-node W E zero = omega arith
span-node W E (suc b) = let halves : b / 2 ≤ suc b / 2 = omega arith in omega (arith, mul-le-mul_right E halves)

narrow-wider : (w v : ℕ) (xs : List (List Dot)) → w ≤ v → Narrow w xs → Narrow v xs
narrow-wider w v xs h n e f l k o p = omega (arith, n e f l k o p, parts_add f.place (pos w), parts_add f.place (pos v))

-- Where no two nodes need more than W,
module _ (D : Spacing) (W : ℕ) (most : (a b : ℕ) → D.need a b ≤ W) where
  -- the nodes of a drawing bound its width
  abbrev Fits : Drawing → Type 0
  Fits d = Narrow (span W D.extra (size (names d))) (row_dots 0 d)

  narrow-row-join : (row : Drawing) (v : ℕ) (below : Drawing) → Row D.need (width row) (row_dots 0 row) → Row D.need (width below) (row_dots 0 below)
      → Fits row → Fits below → Fits (join D row v below)
  narrow-row-join none v below R B n b =
      let further = pos (movement D.extra (meetings D.need none v below)) in
      let m = size (names below) in
      let sizes : suc m ≡ size (names (join D none v below)) = omega (arith, ap size (names-join D none v below)) in
      subst₂ Narrow (ap (span W D.extra) sizes) (sym (row_dots-join D none v below))
      (narrow-map _ further (shift_by further) (λ e. refl) (dots 0 (pos 0) (alone v 0 below))
      (narrow-wider (span W D.extra m) _ (dots 0 (pos 0) (alone v 0 below)) (span-node W D.extra m) (narrow-alone (span W D.extra m) 0 v 0 below b)))
  narrow-row-join (at u x under after) v below R B n b =
      subst (Narrow _) (sym (row_dots-join D row v below))
      (narrow-wider _ _ _ fits
      (narrow-join N W most extra m t xs ys (span W E (size (names row))) (span W E (size (names below))) n
      (narrow-alone (span W E (size (names below))) j v (start N row v) below b)
      (exact-dots N extra m t xs ys R.some C.some (join-exact N extra u x under after v below R))
      (stay_or_led xs ys (shares-mono j ms) R.spaced C.some (row-walk extra xs ys R))))
    where
      N : Distance
      N = D.need

      E : ℕ
      E = D.extra

      row : Drawing
      row = at u x under after

      j : ℕ
      j = width row

      ms : List Meeting
      ms = meetings N row v below

      extra : ℕ
      extra = added E ms

      m : ℕ → ℕ
      m = shares j ms

      t : ℕ
      t = movement E ms

      xs : List (List Dot)
      xs = row_dots 0 row

      ys : List (List Dot)
      ys = dots j (pos 0) (alone v (start N row v) below)

      C : Child N j ys
      C = alone-child N j (width below) v (start N row v) below B

      a : ℕ
      a = size (names under) + size (names after)

      room : (d : Drawing) → Room W E a (size (names d)) (added E (meetings N row v d))
      room none = rw leaf-added (room-leaf W E a)
      room (at z y b c) = room-child W E a (size (names b) + size (names c)) _ (added-at_most E (meetings N row v (at z y b c)))

      fits : span W E (size (names row)) + span W E (size (names below)) + W + extra ≤ span W E (size (names (join D row v below)))
      fits =
          let counted : suc (a + suc (size (names below))) ≡ size (names (join D row v below)) =
          omega (arith, ap size (names-join D row v below), size-join (names row) (node v (names below) nil)) in
          subst (λ (k : ℕ). span W E (size (names row)) + span W E (size (names below)) + W + extra ≤ span W E k) counted (room below)

pub narrow-none : Narrow 0 []
narrow-none e f l k o p = absurd (not-suc-le-zero (on_some o))

module _ (D : Spacing) (W : ℕ) (most : (a b : ℕ) → D.need a b ≤ W) where
  pub narrow-draw_onto : (row : Drawing) (f : Forest) → Row D.need (width row) (row_dots 0 row) → Narrow (span W D.extra (size (names row))) (row_dots 0 row)
      → Narrow (span W D.extra (size (names (draw_onto D row f)))) (row_dots 0 (draw_onto D row f))
  narrow-draw_onto row nil R n = n
  narrow-draw_onto row (node v f g) R n =
      let B = row-draw_onto D none f row-none in
      narrow-draw_onto (join D row v (draw_onto D none f)) g (row-join D row v (draw_onto D none f) R B)
      (narrow-row-join D W most row v (draw_onto D none f) R B n (narrow-draw_onto none f row-none narrow-none))

  -- a drawing of m nodes
  pub narrow-draw : (i : ℕ) (o : ℤ) (f : Forest) → Narrow (span W D.extra (size f)) (dots i o (draw D f))
  narrow-draw i o f =
      rw (dots-row i 0 o (draw D f))
      (narrow-map (span W D.extra (size f)) o (settle i o) (λ e. refl) (row_dots 0 (draw D f))
      (rw (names-draw D f) at (narrow-draw_onto none f row-none narrow-none)))

  -- a tree with m nodes below its root, which makes it no wider
  pub narrow-tree : (v : ℕ) (f : Forest) → Narrow (span W D.extra (size f)) (dots 0 (pos 0) (draw D (node v f nil)))
  narrow-tree v f =
      narrow-alone (span W D.extra (size f)) 0 v (settled D none v (draw D f)) (draw D f) (rw (names-draw D f) at (narrow-draw_onto none f row-none narrow-none))
