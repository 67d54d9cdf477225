-- No dot of a row or of a subtree is far from 0: a run of level order has few nodes, so its drawing is narrow. Assumes nothing.
use mathlib.Core.Path.{◌≡◌, refl, ap, ◌∙◌}
use mathlib.Core.List.{List, [], ◌∷◌, ◌++◌, Memᴰ}
use Prim.Native.Nat.{ℕ, zero, suc, ◌+◌, ◌-◌, ◌≤◌, ◌<◌}
use native.Mathlib.Nat.{le_refl, le_trans, not-suc-le-zero}
use native.Mathlib.Omega.{arith}
use lib.IntN.{ℤ, pos, negsuc, ◌+ℤ◌, nat_abs}
use lib.ListN.{length}
use Rattle.tree.specs.Forest.{size}
use Rattle.tree.proofs.Joined.{size-join}
use Rattle.rule.specs.Drawing.{Drawing, none, at, width, place_at, last_place, Dot, dot, dots, row_dots}
use Rattle.rule.specs.Join.{Spacing, alone}
use Rattle.rule.proofs.Signed.{parts_add, AtMost}
use Rattle.rule.proofs.Names.{names, names-draw}
use Rattle.rule.proofs.Spacing.{row-none}
use Rattle.rule.proofs.OnLevel.{OnLevel, top, down, on-left, on-right}
use Rattle.rule.proofs.Width.{Narrow, narrow-alone}
use Rattle.rule.proofs.Span.{span, span_small, narrow-draw_onto, narrow-none}
use Rattle.contours.specs.Rows.{row_drawn, children_drawn}
use Rattle.level_order.proofs.Positions.{Ordered, mono-le, within, run, run-node, run-nil, run_cut}
use Rattle.contours.proofs.Places.{row-width, row_first, last_place_lem}

-- a dot of one of the levels
pub on-here : (us : List (List Dot)) (x : List Dot) (xs : List (List Dot)) (e : Dot) → Memᴰ e x → OnLevel e (length us) (us ++ (x ∷ xs))
on-here [] x xs e m = top m
on-here (u ∷ us) x xs e m = down (on-here us x xs e m)

-- the children of a row are among its dots
place-dot : (i : ℕ) (d : Drawing) (j : ℕ) → j < width d → (e : Dot) × OnLevel e 0 (row_dots i d) × (e.place ≡ pos (place_at d j))
place-dot i none j h = absurd (not-suc-le-zero h)
place-dot i (at u x below after) zero h = (dot i u (pos (0 + x)), on-left (row_dots (i + 1) after) (top (Memᴰ.head refl)), ap pos (omega arith))
place-dot i (at u x below after) (suc j) h =
    let r = place-dot (i + 1) after j (omega arith) in
    (r.0, on-right (dots i (pos 0) (alone u x below)) r.1, r.2)

-- a number within w of s
near : (z : ℤ) (s w : ℕ) → AtMost z (pos s +ℤ pos w) → AtMost (pos s) (z +ℤ pos w) → nat_abs z ≤ s + w
near (pos k) s w h g = omega (arith, h, parts_add (pos s) (pos w))
near (negsuc k) s w h g = omega (arith, g, parts_add (negsuc k) (pos w))

module _ (first : ℕ → ℕ) (n : ℕ) (O : Ordered first n) where
  -- the forest that waits at position p has the nodes from p on
  size-waiting : (k p : ℕ) → n ≡ p + k → size (run first n p (first p)) ≡ k
  size-waiting zero p e = ap size (run-nil first n O p (first p) (omega (arith, within first n O p (omega arith))))
  size-waiting (suc k) p e =
      ap size (run-node first n O p (first p) (O.later p (omega arith)) (within first n O p (omega arith)))
      ∙ omega (
        arith,
        size-waiting k (suc p) (omega arith),
        ap size (run_cut first n O (first p - suc p) (suc p) (first p) (first (suc p)) (omega (arith, O.later p (omega arith))) (O.mono p (omega arith)) (within first n O (suc p) (omega arith))),
        size-join (run first n (suc p) (first p)) (run first n (first p) (first (suc p))),
      )

  size-run : (a b : ℕ) → a ≤ b → b ≤ n → b ≤ first a → size (run first n a b) ≤ n
  size-run a b h hb k =
      omega (
        arith,
        size-waiting (n - a) a (omega arith),
        ap size (run_cut first n O (b - a) a b (first a) (omega arith) k (within first n O a (omega arith))),
        size-join (run first n a b) (run first n b (first a)),
      )

  module _ (D : Spacing) (few : n ≤ 1024) (small : (a b : ℕ) → D.need a b ≤ 1536) (little : D.extra ≤ 1024) where
    narrow-run : (a b : ℕ) → a ≤ b → b ≤ n → b ≤ first a → (w : ℕ) × (w ≤ 2094592) × Narrow w (row_dots 0 (row_drawn first n D a b))
    narrow-run a b h hb k = (
      span 1536 D.extra (size (names (row_drawn first n D a b))),
      omega (arith, little, span_small 1536 D.extra 1023 (size (names (row_drawn first n D a b))) (omega (arith, ap size (names-draw D (run first n a b)), size-run a b h hb k)) (le_refl 1536)),
      narrow-draw_onto D 1536 small none (run first n a b) row-none narrow-none,
    )

    child-dot : (a b : ℕ) → b ≤ n → (j : ℕ) → j < b - a → (e : Dot) × OnLevel e 0 (row_dots 0 (row_drawn first n D a b)) × (e.place ≡ pos (place_at (row_drawn first n D a b) j))
    child-dot a b hb j h = place-dot 0 (row_drawn first n D a b) j (omega (arith, row-width first n O D (b - a) a b (omega arith) hb))

    pub row_near : (a b : ℕ) → a < b → b ≤ n → b ≤ first a → (e : Dot) (l : ℕ) → OnLevel e l (row_dots 0 (row_drawn first n D a b)) → nat_abs e.place ≤ 2094592
    row_near a b h hb k e l o =
        let N = narrow-run a b (omega arith) hb k in
        let z = child-dot a b hb 0 (omega arith) in
        let at-0 = z.2 ∙ ap pos (row_first first n O D (b - a - 1) a b (omega arith) hb) in
        le_trans (near e.place 0 N.0
        (rw at-0 at (N.2 e z.0 l 0 o z.1))
        (rw at-0 at (N.2 z.0 e 0 l z.1 o)))
        (omega (arith, N.1))

    -- every child of a row, and so the last
    pub place_bound : (a b : ℕ) → a < b → b ≤ n → b ≤ first a → (j : ℕ) → j < b - a → place_at (row_drawn first n D a b) j ≤ 2094592
    place_bound a b h hb k j l =
        let r = child-dot a b hb j l in
        omega (arith, ap nat_abs r.2, row_near a b h hb k r.0 0 r.1)

    pub row_bound : (a b : ℕ) → a < b → b ≤ n → b ≤ first a → last_place (row_drawn first n D a b) ≤ 2094592
    row_bound a b h hb k =
        let last = last_place_lem (row_drawn first n D a b) (b - a - 1) (row-width first n O D (suc (b - a - 1)) a b (omega arith) hb) in
        omega (arith, place_bound a b h hb k (b - a - 1) (omega arith))

    -- a subtree whose root stands at x
    pub alone-near : (i c x : ℕ) → c < n → (e : Dot) (l : ℕ) → OnLevel e l (dots i (pos 0) (alone c x (children_drawn first n D c))) → nat_abs e.place ≤ x + 2094592
    alone-near i c x h e l o =
        let N = narrow-run (first c) (first (suc c)) (O.mono c h) (within first n O (suc c) h) (mono-le first n O (suc c) (first c) (O.later c h) (within first n O c (omega arith))) in
        let A = narrow-alone N.0 i c x (children_drawn first n D c) N.2 in
        let r = dot i c (pos (0 + x)) in
        let top-here : OnLevel r 0 (dots i (pos 0) (alone c x (children_drawn first n D c))) = top (Memᴰ.head refl) in
        le_trans (near e.place (0 + x) N.0
        (A e r l 0 o top-here)
        (A r e 0 l top-here o))
        (omega (arith, N.1))
