-- No slack at the last child: at every node with two or more children, some pair of neighbours, the right one in the last child's subtree
-- and the left one in an earlier child's, stands exactly at the distance that the two need, and what is added there more; and no two nodes
-- between the two stand closer. Assumes nothing.
use mathlib.Core.Path.{◌≡◌, refl, sym, ap, ◌∙◌, subst, subst₂}
use mathlib.Core.List.{List, ◌++◌}
use Prim.Native.Nat.{ℕ, ◌+◌, ◌≤◌, ◌<◌}
use native.Mathlib.Omega.{arith}
use lib.IntN.{ℤ, pos, ◌+ℤ◌}
use lib.ListN.{length}
use lib.Signed.{◌≤ℤ◌}
use Rattle.tree.specs.Numbers.{count}
use Rattle.tree.specs.Forest.{Forest, nil, node, join as joinForest, tree_of, preorder, size, roots}
use Rattle.tree.specs.Table.{nodes}
use Rattle.tree.specs.Levels.{level, neighbours}
use Rattle.tree.specs.Shape.{under}
use Rattle.tree.specs.WellFormed.{table_number}
use Rattle.tree.proofs.Parts.{Part, whole, in_children, in_siblings}
use Rattle.rule.specs.Drawing.{Drawing, none, at, width, Dot, dots, row_dots}
use Rattle.rule.specs.Join.{Spacing, above0, shares, added, movement, join, measured, meetings, start, alone}
use Rattle.rule.specs.Rule.{draw_onto, draw, record_onto, recorded, extra_at}
use Rattle.rule.specs.Record.{pair_count}
use Rattle.rule.specs.Result.{place}
use Rattle.rule.proofs.Signed.{below0, parts_add, parts_eq, parts_le, AtMost}
use Rattle.rule.proofs.PairCounts.{pair_count-append}
use Rattle.rule.proofs.Names.{names, names-draw, nodes-dots, nodes-row_dots}
use Rattle.rule.proofs.Shares.{shares-mono}
use Rattle.rule.proofs.Spacing.{Row, row-walk, row-draw_onto, row-none, alone-child}
use Rattle.rule.proofs.Walk.{walk-seams}
use Rattle.rule.proofs.Lookup.{on-names, names-on}
use Rattle.rule.proofs.OnLevel.{OnLevel}
use Rattle.rule.proofs.Exact.{Measured, exact-dots, join-exact}
use Rattle.rule.proofs.Across.{across}
use Rattle.rule.proofs.Promises.{measured-neighbours, part_at}
use Rattle.rule.proofs.LastJoin.{LastOf, Parent, earlier, latest, row, new, met, row_levels, child_levels, row_kept, child-kept, extra-is, origin, row-place, row-level, child-place, child-level, two-or-more}

-- ---- pairs that a part of the forest measures are measured

record_join : (a b : ℕ) (D : Spacing) (row : Drawing) (f g : Forest)
    → pair_count a b (record_onto D row (joinForest f g)) ≡ pair_count a b (record_onto D row f) + pair_count a b (record_onto D (draw_onto D row f) g)
record_join a b D row nil g = omega arith
record_join a b D row (node v f h) g =
    let B = draw_onto D none f in
    omega (
      arith,
      record_join a b D (join D row v B) h g,
      pair_count-append a b (record_onto D none f ++ measured D.need row v B) (record_onto D (join D row v B) (joinForest h g)),
      pair_count-append a b (record_onto D none f ++ measured D.need row v B) (record_onto D (join D row v B) h),
    )

-- the pairs of one join
record_node : (a b : ℕ) (D : Spacing) (row : Drawing) (v : ℕ) (f g : Forest)
    → pair_count a b (record_onto D none f) + pair_count a b (measured D.need row v (draw D f)) + pair_count a b (record_onto D (join D row v (draw D f)) g)
    ≡ pair_count a b (record_onto D row (node v f g))
record_node a b D row v f g =
    omega (
      arith,
      pair_count-append a b (record_onto D none f ++ measured D.need row v (draw D f)) (record_onto D (join D row v (draw D f)) g),
      pair_count-append a b (record_onto D none f) (measured D.need row v (draw D f)),
    )

record_part : (a b : ℕ) (D : Spacing) {v : ℕ} {f g : Forest} (row : Drawing) {h : Forest} → Part (node v f g) h → pair_count a b (record_onto D none f) ≤ pair_count a b (record_onto D row h)
record_part a b D {v} {f} {g} row whole = omega (arith, record_node a b D row v f g)
record_part a b D row (in_children {v = u} {f = f} {h = g} p) = omega (arith, record_node a b D row u f g, record_part a b D none p)
record_part a b D row (in_siblings {v = u} {f = f} {h = g} p) = omega (arith, record_node a b D row u f g, record_part a b D (join D row u (draw D f)) p)

recorded-is : (D : Spacing) (t : List ℕ) → recorded D t ≡ record_onto D none (tree_of t)
unfolding recorded
recorded-is D t = refl

-- ---- the exact pair

-- neighbours, the left one in f and the right one in g, that stand at the distance that they need and what is added at node v
pub record ExactBetween (D : Spacing) (t : List ℕ) (v : ℕ) (f g : Forest) : Type 0 where
  pub left : ℕ
  pub right : ℕ
  pub left_in : 1 ≤ count left (preorder f)
  pub right_in : 1 ≤ count right (preorder g)
  pub side_by_side : 1 ≤ pair_count left right (neighbours t)
  pub exactly : place D t right ≡ place D t left +ℤ pos (D.need left right + extra_at D t v)

module _ (D : Spacing) {t : List ℕ} {v : ℕ} (P : Parent t v) where
  abbrev L : LastOf (under t v)
  L = P.children

  -- the dots of both sides, and their nodes
  abbrev old : Drawing
  old = row D P

  abbrev below : Drawing
  below = new D P

  abbrev child : Drawing
  child = alone L.last (start D.need old L.last) below

  abbrev xs : List (List Dot)
  xs = row_levels D P

  abbrev ys : List (List Dot)
  ys = child_levels D P

  abbrev m : ℕ → ℕ
  m = shares (width old) (met D P)

  abbrev k : ℕ
  k = movement D.extra (met D P)

  abbrev extra : ℕ
  extra = added D.extra (met D P)

  exact : Measured D.need extra m k xs ys
  exact = some-row old (names-draw D (earlier L)) (row_kept D P)
    where
      some-row : (d : Drawing) → names d ≡ earlier L → Row D.need (width d) (row_dots 0 d)
          → Measured D.need (added D.extra (meetings D.need d L.last below)) (shares (width d) (meetings D.need d L.last below))
          (movement D.extra (meetings D.need d L.last below)) (row_dots 0 d) (dots (width d) (pos 0) (alone L.last (start D.need d L.last) below))
      some-row none e r = absurd (omega (arith, ap size e))
      some-row (at u x b c) e r =
          exact-dots D.need _ _ _ (row_dots 0 (at u x b c)) (dots (width (at u x b c)) (pos 0) (alone L.last (start D.need (at u x b c) L.last) below)) r.some
          (alone-child D.need (width (at u x b c)) (width below) L.last (start D.need (at u x b c) L.last) below (row-draw_onto D none L.below row-none)).some
          (join-exact D.need _ u x b c L.last below r)

  pub exact_between : ExactBetween D t v (earlier L) (latest L)
  exact_between =
      record {
        left = M.left.node;
        right = M.right.node;
        left_in = subst (λ (f : Forest). 1 ≤ count M.left.node (preorder f)) (names-draw D (earlier L)) (on-names old xs (nodes-row_dots 0 old) M.on_row);
        right_in = subst (λ (f : Forest). 1 ≤ count M.right.node (preorder (node L.last f nil))) (names-draw D L.below)
            (on-names child ys (nodes-dots (width old) (pos 0) child) M.on-child);
        side_by_side = side_by_side;
        exactly = exactly;
      }
    where
      M : Measured D.need extra m k xs ys
      M = exact

      a : ℕ
      a = M.left.node

      b : ℕ
      b = M.right.node

      exactly : place D t b ≡ place D t a +ℤ pos (D.need a b + extra_at D t v)
      exactly =
          parts_eq (place D t b) (place D t a +ℤ pos (D.need a b + extra_at D t v))
          (omega (
            arith,
            M.stays,
            extra-is D P,
            ap above0 left_at,
            ap below0 left_at,
            ap above0 right-at,
            ap below0 right-at,
            ap above0 M.exactly,
            ap below0 M.exactly,
            parts_add M.left.place (pos (m M.left.child)),
            parts_add (M.left.place +ℤ pos (m M.left.child)) o,
            parts_add M.right.place (pos k),
            parts_add (M.right.place +ℤ pos k) o,
            parts_add M.left.place (pos (D.need a b + extra)),
            parts_add (place D t a) (pos (D.need a b + extra_at D t v)),
          ))
        where
          o : ℤ
          o = origin D P

          left_at : place D t a ≡ (M.left.place +ℤ pos (m M.left.child)) +ℤ o
          left_at = row-place D P M.on_row

          right-at : place D t b ≡ (M.right.place +ℤ pos k) +ℤ o
          right-at = child-place D P M.on-child

      side_by_side : 1 ≤ pair_count a b (neighbours t)
      side_by_side =
          omega (
            arith,
            M.counted,
            (measured-neighbours D t).each a b,
            record_part a b D none (part_at t P.accepted v P.inside).1,
            ap (λ (f : Forest). pair_count a b (record_onto D none f)) L.split,
            record_join a b D none (earlier L) (latest L),
            record_node a b D old L.last L.below nil,
            ap (pair_count a b) (recorded-is D t),
          )

  -- ---- no two nodes between the two sides stand closer

  pub no_closer : ((a b c : ℕ) → D.need a c ≤ D.need a b + D.need b c) → (x y : ℕ) → 1 ≤ count x (preorder (earlier L)) → 1 ≤ count y (preorder (latest L))
      → level t x ≡ level t y → (place D t x +ℤ pos (D.need x y + extra_at D t v)) ≤ℤ place D t y
  no_closer around x y cx cy same =
      subst₂ (λ (x y : ℕ). (place D t x +ℤ pos (D.need x y + extra_at D t v)) ≤ℤ place D t y) p.3 q.3
      (parts_le _ _
      (omega (
        arith,
        apart,
        extra-is D P,
        ap above0 left_at,
        ap below0 left_at,
        ap above0 right-at,
        ap below0 right-at,
        parts_add (p.0.place +ℤ pos (m p.0.child)) (pos (D.need p.0.node q.0.node + extra)),
        parts_add (p.0.place +ℤ pos (m p.0.child)) o,
        parts_add (q.0.place +ℤ pos k) o,
        parts_add (place D t p.0.node) (pos (D.need p.0.node q.0.node + extra_at D t v)),
      )))
    where
      o : ℤ
      o = origin D P

      p : (e : Dot) × (l : ℕ) × OnLevel e l xs × (e.node ≡ x)
      p = names-on old xs (nodes-row_dots 0 old) x (subst (λ (f : Forest). 1 ≤ count x (preorder f)) (sym (names-draw D (earlier L))) cx)

      q : (e : Dot) × (l : ℕ) × OnLevel e l ys × (e.node ≡ y)
      q = names-on child ys (nodes-dots (width old) (pos 0) child) y (subst (λ (f : Forest). 1 ≤ count y (preorder (node L.last f nil))) (sym (names-draw D L.below)) cy)

      one_level : q.1 ≡ p.1
      one_level =
          omega (arith, row-level D P p.2, child-level D P q.2, ap (level t) p.3, ap (level t) q.3, same)

      left_at : place D t p.0.node ≡ (p.0.place +ℤ pos (m p.0.child)) +ℤ o
      left_at = row-place D P p.2

      right-at : place D t q.0.node ≡ (q.0.place +ℤ pos k) +ℤ o
      right-at = child-place D P q.2

      apart : AtMost (p.0.place +ℤ pos (m p.0.child) +ℤ pos (D.need p.0.node q.0.node + extra)) (q.0.place +ℤ pos k)
      apart =
          across D.need around extra m k (shares-mono (width old) (met D P)) xs ys (row_kept D P).spaced (child-kept D P).spaced
          (walk-seams xs ys (row-walk extra xs ys (row_kept D P))) p.0 q.0 p.1 p.2 (subst (λ (l : ℕ). OnLevel q.0 l ys) one_level q.2)

-- ---- at any node with two or more children

-- neighbours below node v, the left one in an earlier child's subtree and the right one in the last child's, that stand at the distance that they
-- need and what is added where the last child is joined
pub record ExactPair (D : Spacing) (t : List ℕ) (v : ℕ) : Type 0 where
  pub earlier : Forest
  pub last : ℕ
  pub below : Forest
  pub split : under t v ≡ joinForest earlier (node last below nil)
  pub left : ℕ
  pub right : ℕ
  pub left_in : 1 ≤ count left (preorder earlier)
  pub right_in : 1 ≤ count right (preorder (node last below nil))
  pub side_by_side : 1 ≤ pair_count left right (neighbours t)
  pub exactly : place D t right ≡ place D t left +ℤ pos (D.need left right + added D.extra (meetings D.need (draw D earlier) last (draw D below)))

pub no_slack : (D : Spacing) (t : List ℕ) → table_number t ≡ 0 → (v : ℕ) → v < nodes t → 2 ≤ length (roots (under t v)) → ExactPair D t v
no_slack D t accepted v h two =
    let P : Parent t v = record { accepted = accepted; inside = h; children = two-or-more (under t v) two } in
    let X = exact_between D P in
    record {
      earlier = earlier P.children;
      last = P.children.last;
      below = P.children.below;
      split = P.children.split;
      left = X.left;
      right = X.right;
      left_in = X.left_in;
      right_in = X.right_in;
      side_by_side = X.side_by_side;
      exactly = X.exactly ∙ ap (λ (k : ℕ). place D t X.left +ℤ pos (D.need X.left X.right + k)) (sym (extra-is D P));
    }
