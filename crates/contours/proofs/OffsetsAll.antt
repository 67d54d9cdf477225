-- The offsets of a whole drawing of positions, from those of every family. Assumes nothing.
use mathlib.Core.Path.{◌≡◌, refl, ap}
use mathlib.Core.List.{List}
use Prim.Native.Nat.{ℕ, zero, suc, ◌+◌, ◌-◌, ◌≤◌, ◌<◌}
use native.Mathlib.Nat.{le_refl}
use native.Mathlib.Omega.{arith}
use lib.IntN.{ℤ, pos, ◌-ℤ◌}
use Rattle.rule.specs.Drawing.{Drawing, none, at, width, append, place_at, middle}
use Rattle.rule.specs.Join.{Spacing, Meeting, spread, alone, settled, meetings}
use Rattle.rule.specs.Join as rule
use Rattle.rule.proofs.Moving.{width-spread}
use Rattle.contours.specs.Rows.{row_drawn, children_drawn, Offsets}
use Rattle.level_order.proofs.Positions.{Ordered, within, run-nil}
use Rattle.contours.proofs.Places.{row_more, row-width, row_first}

-- the children of a row are the positions from a on, each with its own drawing below it
abbrev Kids : (ℕ → Drawing) → ℕ → Drawing → Type 0
Kids under a none = Unit {0}
Kids under a (at v x below after) = (v ≡ a) × (below ≡ under a) × Kids under (suc a) after

module _ (under : ℕ → Drawing) where
  kids_last : (d : Drawing) (a v x : ℕ) → v ≡ a + width d → Kids under a d → Kids under a (append d (alone v x (under v)))
  kids_last none a v x h r = let same : v ≡ a = omega arith in (same, ap under same, tt)
  kids_last (at w y below after) a v x h r = (r.0, r.1, kids_last after (suc a) v x (omega arith) r.2)

  kids_spread : (j : ℕ) (ms : List Meeting) (p : ℕ) (d : Drawing) (a : ℕ) → Kids under a d → Kids under a (spread j ms p d)
  kids_spread j ms p none a r = tt
  kids_spread j ms p (at v x below after) a r = (r.0, r.1, kids_spread j ms (p + 1) after (suc a) r.2)

  kids_join : (D : Spacing) (row : Drawing) (a v : ℕ) → v ≡ a + width row → Kids under a row → Kids under a (rule.join D row v (under v))
  kids_join D row a v h r =
      let ms = meetings D.need row v (under v) in
      kids_last (spread (width row) ms 0 row) a v (settled D row v (under v)) (omega (arith, width-spread (width row) ms 0 row)) (kids_spread (width row) ms 0 row a r)

  -- a row has its offsets, where its children have theirs and so has everything below them
  offsets_kids : (offset : ℕ → ℤ) (m : ℕ) (d : Drawing) (a : ℕ) → Kids under a d
      → ((q : ℕ) → a ≤ q → q < a + width d → offset q ≡ pos (place_at d (q - a)) -ℤ pos m)
      → ((q : ℕ) → a ≤ q → q < a + width d → Offsets offset (middle (under q)) (under q))
      → Offsets offset m d
  offsets_kids offset m none a r s u = tt
  offsets_kids offset m (at v x below after) a r s u =
      let self : a - a ≡ 0 = omega arith in (
        rw r.0 (rw self at (s a (le_refl a) (omega arith))),
        rw r.1 (u a (le_refl a) (omega arith)),
        offsets_kids offset m after (suc a) r.2 (λ q h k. let later : q - a ≡ suc (q - suc a) = omega arith in rw later at (s q (omega arith) (omega arith)))
            (λ q h k. u q (omega arith) (omega arith)),
      )

module _ (first : ℕ → ℕ) (n : ℕ) (O : Ordered first n) (D : Spacing) where
  kids_row : (k f c : ℕ) → c ≡ f + k → c ≤ n → Kids (children_drawn first n D) f (row_drawn first n D f c)
  kids_row zero f c e h = rw (run-nil first n O f c (omega arith)) tt
  kids_row (suc k) f zero e h = absurd (omega arith)
  kids_row (suc k) f (suc c) e h =
      rw (row_more first n O D f c (omega arith) h)
      (kids_join (children_drawn first n D) D (row_drawn first n D f c) f c (omega (arith, row-width first n O D k f c (omega arith) (omega arith)))
      (kids_row k f c (omega arith) (omega arith)))

  module _ (offset : ℕ → ℤ)
      (families : (r : ℕ) → r < n → (q : ℕ) → first r ≤ q → q < first (suc r)
      → offset q ≡ pos (place_at (children_drawn first n D r) (q - first r)) -ℤ pos (middle (children_drawn first n D r))) where
    offsets_row : (k a b m : ℕ) → n ≤ k + a → a ≤ b → b ≤ n
        → ((q : ℕ) → a ≤ q → q < b → offset q ≡ pos (place_at (row_drawn first n D a b) (q - a)) -ℤ pos m)
        → Offsets offset m (row_drawn first n D a b)
    offsets_row zero a b m hk hb hn s = rw (run-nil first n O a b (omega arith)) tt
    offsets_row (suc k) a b m hk hb hn s =
        let w : width (row_drawn first n D a b) ≡ b - a = row-width first n O D (b - a) a b (omega arith) hn in
        offsets_kids (children_drawn first n D) offset m (row_drawn first n D a b) a (kids_row (b - a) a b (omega arith) hn)
        (λ q h l. s q h (omega (arith, l, w)))
        (λ q h l.
        let inside : q < n = omega (arith, l, w) in
        offsets_row k (first q) (first (suc q)) (middle (children_drawn first n D q)) (omega (arith, O.later q inside)) (O.mono q inside)
        (within first n O (suc q) inside) (families q inside))

    -- the root, at its place 0
    pub offsets_all : 0 < n → offset 0 ≡ pos 0 → Offsets offset 0 (row_drawn first n D 0 1)
    offsets_all h z =
        offsets_row n 0 1 0 (omega arith) (omega arith) h
        (λ q l k.
        let root : q ≡ 0 = omega arith in
        rw (root, z, row_first first n O D 0 0 1 refl h))
