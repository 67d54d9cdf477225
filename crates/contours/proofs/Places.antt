-- The places of the children in a row, before and after a join. Assumes nothing.
use mathlib.Core.Path.{◌≡◌, refl, sym, ap, ◌∙◌}
use mathlib.Core.List.{List, [], ◌∷◌}
use Prim.Native.Nat.{ℕ, zero, suc, ◌+◌, ◌-◌, ◌≤◌, ◌<◌}
use native.Mathlib.Nat.{zero-add}
use native.Mathlib.Omega.{arith}
use Rattle.distance.specs.Needed.{Distance}
use Rattle.tree.specs.Forest.{nil, node}
use Rattle.rule.specs.Drawing.{Drawing, none, at, width, place_at, first_place, last_place}
use Rattle.rule.specs.Join.{Spacing, Meeting, shares, added, spread, start, alone, settled, meetings}
use Rattle.rule.specs.Join as rule
use Rattle.rule.specs.Rule.{draw}
use Rattle.rule.proofs.Names.{names}
use Rattle.rule.proofs.Moving.{width-spread, append_left, append_right, spread-place, width-join}
use Rattle.rule.proofs.LastJoin.{draw_onto-join}
use Rattle.rule.proofs.Shares.{share-none}
use Rattle.contours.specs.Rows.{row_drawn, children_drawn}
use Rattle.level_order.proofs.Positions.{Ordered, Laid, run, family, run-last, run-nil}

-- after a join a child of the row has moved by its shares, and the new child stands where it settled
pub join-place : (D : Spacing) (row : Drawing) (v : ℕ) (below : Drawing) (p : ℕ) → p < width row
    → place_at (rule.join D row v below) p ≡ place_at row p + shares (width row) (meetings D.need row v below) p
join-place D row v below p h =
    append_left (spread (width row) (meetings D.need row v below) 0 row) (alone v (settled D row v below) below) p (omega (arith, width-spread (width row) (meetings D.need row v below) 0 row))
    ∙ spread-place (width row) (meetings D.need row v below) 0 row p h
    ∙ ap (λ (k : ℕ). place_at row p + shares (width row) (meetings D.need row v below) k) (zero-add p)

pub join-new : (D : Spacing) (row : Drawing) (v : ℕ) (below : Drawing) → place_at (rule.join D row v below) (width row) ≡ settled D row v below
join-new D row v below =
    ap (place_at (rule.join D row v below)) (sym (width-spread (width row) (meetings D.need row v below) 0 row))
    ∙ append_right (spread (width row) (meetings D.need row v below) 0 row) v (settled D row v below) below

-- the next child of a row of the positions from a to b starts after the last one, b - 1, at what the two need
pub start-place : (D : Distance) (first : ℕ → ℕ) (d : Drawing) (a b v w : ℕ) → Laid first a b (names d) → width d ≡ suc w
    → start D d v ≡ place_at d w + D (b - 1) v
start-place D first none a b v w l e = absurd (omega arith)
start-place D first (at u x below none) a b v w l e =
    let last : w ≡ 0 = omega arith in
    let here : u ≡ b - 1 = omega (arith, l.0, l.3) in
    rw (last, here)
start-place D first (at u x below (at z y under after)) a b v zero l e = absurd (omega arith)
start-place D first (at u x below (at z y under after)) a b v (suc w) l e = start-place D first (at z y under after) (suc a) b v w l.3 (omega arith)

pub last_place_lem : (d : Drawing) (w : ℕ) → width d ≡ suc w → last_place d ≡ place_at d w
last_place_lem none w e = absurd (omega arith)
last_place_lem (at u x below none) w e = let last : w ≡ 0 = omega arith in rw last
last_place_lem (at u x below (at z y under after)) zero e = absurd (omega arith)
last_place_lem (at u x below (at z y under after)) (suc w) e = last_place_lem (at z y under after) w (omega arith)

pub first_place_lem : (d : Drawing) → first_place d ≡ place_at d 0
first_place_lem none = refl
first_place_lem (at v x below after) = refl

-- ---- the rows of level order

module _ (first : ℕ → ℕ) (n : ℕ) (O : Ordered first n) (D : Spacing) where
  -- the row with one child more
  pub row_more : (f c : ℕ) → f ≤ c → c < n → row_drawn first n D f (suc c) ≡ rule.join D (row_drawn first n D f c) c (children_drawn first n D c)
  row_more f c h k = ap (draw D) (run-last first n O f c h k) ∙ draw_onto-join D none (run first n f c) (node c (family first n c) nil)

  pub row-width : (k f c : ℕ) → c ≡ f + k → c ≤ n → width (row_drawn first n D f c) ≡ k
  row-width zero f c e h = rw (run-nil first n O f c (omega arith))
  row-width (suc k) f zero e h = absurd (omega arith)
  row-width (suc k) f (suc c) e h = rw (row_more f c (omega arith) h, width-join, row-width k f c (omega arith) (omega arith))

  -- the first child stands at 0
  pub row_first : (k f c : ℕ) → c ≡ f + suc k → c ≤ n → place_at (row_drawn first n D f c) 0 ≡ 0
  unfolding added
  row_first zero f zero e h = absurd (omega arith)
  row_first zero f (suc c) e h = rw (row_more f c (omega arith) h, run-nil first n O f c (omega arith))
  row_first (suc k) f zero e h = absurd (omega arith)
  row_first (suc k) f (suc c) e h =
      let w = row-width (suc k) f c (omega arith) (omega arith) in
      rw (row_more f c (omega arith) h, join-place D (row_drawn first n D f c) c (children_drawn first n D c) 0 (omega arith))
      (omega (arith, row_first k f c (omega arith) (omega arith), first-share (width (row_drawn first n D f c)) (meetings D.need (row_drawn first n D f c) c (children_drawn first n D c))))
    where
      first-share : (j : ℕ) (ms : List Meeting) → shares j ms 0 ≡ 0
      first-share j [] = refl
      first-share j (m ∷ ms) = omega (arith, first-share j ms, share-none j m 0 (omega arith))
