-- The promises of the written rule, for every accepted table, whatever distance neighbours need and whatever is added. Assumes nothing.
use mathlib.Core.Path.{◌≡◌, refl, sym, ap, ◌∙◌, subst, subst₂}
use mathlib.Core.Bool.{true}
use mathlib.Core.List.{List, [], ◌∷◌, map, Memᴰ}
use Prim.Native.Nat.{ℕ, suc, ◌+◌, ◌≤◌, ◌<◌}
use native.Mathlib.Omega.{arith}
use lib.IntN.{ℤ, pos, ◌+ℤ◌, ◌-ℤ◌}
use lib.Signed.{◌≤ℤ◌}
use lib.ListN.{length}
use Rattle.distance.specs.Needed.{Distance}
use Rattle.tree.specs.Table.{nodes, first_child}
use Rattle.tree.specs.Forest.{Forest, node, forest, forest_from, tree_of, preorder}
use Rattle.tree.specs.Levels.{Pair, levels, level, level_count, side_by_side, neighbours}
use Rattle.tree.specs.Shape.{under, same_ordered_shape, corresponding_under, corresponding}
use Rattle.tree.specs.WellFormed.{table_number}
use Rattle.tree.proofs.Counting.{All, all_append, all_left, all-weaken, sum_over}
use Rattle.tree.proofs.Linked.{read_back}
use Rattle.tree.proofs.Parts.{Part, locate, part-agrees, part-below, part-size}
use Rattle.tree.proofs.Stands.{accepted-numbers, accepted-once, accepted-size, accepted-agrees}
use Rattle.tree.proofs.LevelOf.{count-levels}
use Rattle.rule.specs.Drawing.{Drawing, none, width, middle, Dot, dot, dots}
use Rattle.rule.specs.Join.{Spacing}
use Rattle.rule.specs.Rule.{draw, drawn, recorded}
use Rattle.rule.specs.Record.{is_pair, pair_count, SamePairs}
use Rattle.rule.specs.Result.{place}
use Rattle.rule.proofs.Signed.{parts_add, parts_sub, parts_eq, parts_le}
use Rattle.rule.proofs.Names.{names-draw}
use Rattle.rule.proofs.Pairs.{pairs_record, pairs_in}
use Rattle.rule.proofs.PairCounts.{pair_count-sum, length-sum, levels-once, levels-pairs}
use Rattle.rule.proofs.Spacing.{Spaced, row-child, row-draw_onto, row-none}
use Rattle.rule.proofs.Shapes.{rename_drawing, spaced_by, rename-middle, same-drawing}
use Rattle.rule.proofs.OnLevel.{OnLevel, top, down}
use Rattle.rule.proofs.Within.{Stands, has_stands, has_draw, renamed-alike, Match, alike_match}
use Rattle.rule.proofs.Lookup.{nodes_of, nodes-drawn, dot-place, dot-level}
use Rattle.tree.proofs.Joined.{levels-some, length-levels}

-- ---- 1. the measured pairs are the neighbours

weighed : (w : Pair → ℕ) (D : Spacing) (t : List ℕ) → sum_over w (recorded D t) ≡ sum_over w (neighbours t)
unfolding recorded neighbours
weighed w D t = omega (arith, pairs_record w D none (tree_of t), ap (λ (f : Forest). sum_over w (pairs_in (levels f))) (names-draw D (tree_of t)))

-- the measured pairs are the pairs of neighbours, each as often
pub measured-neighbours : (D : Spacing) (t : List ℕ) → SamePairs (recorded D t) (neighbours t)
measured-neighbours D t =
    record {
      many = length-sum (recorded D t) ∙ weighed (λ p. 1) D t ∙ sym (length-sum (neighbours t));
      each = λ a b. pair_count-sum a b (recorded D t) ∙ weighed (is_pair a b) D t ∙ sym (pair_count-sum a b (neighbours t));
    }

module _ (t : List ℕ) (accepted : table_number t ≡ 0) where
  -- each pair of neighbours once
  pub neighbours-once : (a b : ℕ) → pair_count a b (neighbours t) ≤ 1
  unfolding neighbours
  neighbours-once a b = omega (arith, levels-once a b (levels (tree_of t)), count-levels a (tree_of t), accepted-once t accepted a)

  -- pairs and levels together are as many as the nodes
  pub neighbours-count : length (neighbours t) + level_count t ≡ nodes t
  unfolding neighbours level_count
  neighbours-count = omega (arith, levels-pairs (levels (tree_of t)) (levels-some (tree_of t)), length-levels (tree_of t), accepted-size t accepted)

-- ---- 2. each level keeps tree order

-- the neighbours on a list of levels, each dot of which stands where `spot` says, keep their distance
spaced-pairs : (D : Distance) (spot : ℕ → ℤ) (xs : List (List Dot)) → All (Spaced D) xs → ((e : Dot) (l : ℕ) → OnLevel e l xs → spot e.node ≡ e.place)
    → All (λ p. (spot p.0 +ℤ pos (D p.0 p.1)) ≤ℤ (spot p.1)) (pairs_in (map nodes_of xs))
spaced-pairs D spot [] s h = tt
spaced-pairs D spot (x ∷ xs) s h =
    all_append (λ p. (spot p.0 +ℤ pos (D p.0 p.1)) ≤ℤ (spot p.1)) (side_by_side (nodes_of x)) (pairs_in (map nodes_of xs))
    (one x s.0 (λ e m. h e 0 (top m)))
    (spaced-pairs D spot xs s.1 (λ e l o. h e (suc l) (down o)))
  where
    one : (x : List Dot) → Spaced D x → ((e : Dot) → Memᴰ e x → spot e.node ≡ e.place)
        → All (λ p. (spot p.0 +ℤ pos (D p.0 p.1)) ≤ℤ (spot p.1)) (side_by_side (nodes_of x))
    one [] s h = tt
    one (d ∷ []) s h = tt
    one (d ∷ e ∷ l) s h = (
      subst₂ (λ (a b : ℤ). (a +ℤ pos (D d.node e.node)) ≤ℤ b) (sym (h d (Memᴰ.head refl))) (sym (h e (Memᴰ.tail (Memᴰ.head refl))))
          (parts_le (d.place +ℤ pos (D d.node e.node)) e.place s.0.apart),
      one (e ∷ l) s.1 (λ f m. h f (Memᴰ.tail m)),
    )

-- of every two neighbours the right one stands at least the distance that they need further right
pub neighbours-apart : (D : Spacing) (t : List ℕ) → table_number t ≡ 0 → All (λ p. (place D t p.0 +ℤ pos (D.need p.0 p.1)) ≤ℤ (place D t p.1)) (neighbours t)
unfolding neighbours drawn
neighbours-apart D t accepted =
    subst (λ (ls : List (List ℕ)). All (λ p. (place D t p.0 +ℤ pos (D.need p.0 p.1)) ≤ℤ (place D t p.1)) (pairs_in ls)) (nodes-drawn D t accepted)
    (spaced-pairs D.need (place D t) (drawn D t)
    (row-child D.need 0 (width (draw D (tree_of t))) (pos 0) (draw D (tree_of t)) (row-draw_onto D none (tree_of t) row-none)).spaced
    (dot-place D t accepted))

-- ---- 3. equal ordered shapes are drawn equally

-- node v of an accepted table heads a part of its tree, in front of its children
pub part_at : (t : List ℕ) → table_number t ≡ 0 → (v : ℕ) → v < nodes t → (g : Forest) × Part (node v (under t v) g) (tree_of t)
unfolding under forest
part_at t accepted v h =
    let N = accepted-numbers t accepted in
    let r = locate (tree_of t) v (omega (arith, N.each v h)) in
    let a = part-agrees t r.2 (accepted-agrees t accepted) in
    let b = part-below (nodes t) r.2 N.below in
    let reads : forest_from (nodes t) t (first_child t v) ≡ r.0 =
    ap (forest_from (nodes t) t) a.0
    ∙ read_back t N.few r.0 a.2 (all_left (λ x. x < nodes t) (preorder r.0) (preorder r.1) b.1) (nodes t)
    (omega (arith, part-size r.2, accepted-size t accepted)) in
    (r.1, subst (λ (f : Forest). Part (node v f r.1) (tree_of t)) (sym reads) r.2)

-- where node v of an accepted table stands, with what is drawn below it
pub stands_at : (D : Spacing) (t : List ℕ) → table_number t ≡ 0 → (v : ℕ) → v < nodes t → Stands 0 v (draw D (under t v)) (drawn D t)
unfolding drawn
stands_at D t accepted v h = has_stands 0 (pos 0) (has_draw D none (part_at t accepted v h).1)

-- two nodes, in one table or in two, with one sideways shift and one difference in depth at every two corresponding nodes below them
pub record DrawnEqually (D : Spacing) (t : List ℕ) (v : ℕ) (D' : Spacing) (u : List ℕ) (w : ℕ) : Type 0 where
  pub shift : ℤ
  pub depth : ℤ
  pub places : All (λ p. place D' u p.1 ≡ place D t p.0 +ℤ shift) (corresponding_under t v u w)
  pub levels : All (λ p. pos (level u p.1) ≡ pos (level t p.0) +ℤ depth) (corresponding_under t v u w)

-- The nodes of the one table are known to the distance by g, those of the other by h: what they need is equal at corresponding nodes.
pub shapes_equal : (N : Spacing) (g h : ℕ → ℕ) (t u : List ℕ) → table_number t ≡ 0 → table_number u ≡ 0 → (v w : ℕ) → v < nodes t → w < nodes u
    → same_ordered_shape t v u w ≡ true → All (λ p. g p.0 ≡ h p.1) (corresponding (under t v) (under u w))
    → DrawnEqually (spaced_by g N) t v (spaced_by h N) u w
unfolding same_ordered_shape corresponding_under
shapes_equal N g h t u ok ok' v w hv hw same equal =
    record {
      shift = S'.place -ℤ S.place;
      depth = pos S'.level -ℤ pos S.level;
      places = (root-place, all-weaken (Match 0 0 o q (dots 0 o b) (dots 0 q b')) _ below-place (corresponding (under t v) (under u w)) matches);
      levels = (root-level, all-weaken (Match 0 0 o q (dots 0 o b) (dots 0 q b')) _ below-level (corresponding (under t v) (under u w)) matches);
    }
  where
    D : Spacing
    D = spaced_by g N

    D' : Spacing
    D' = spaced_by h N

    b : Drawing
    b = draw D (under t v)

    b' : Drawing
    b' = draw D' (under u w)

    S : Stands 0 v b (drawn D t)
    S = stands_at D t ok v hv

    S' : Stands 0 w b' (drawn D' u)
    S' = stands_at D' u ok' w hw

    o : ℤ
    o = S.place -ℤ pos (middle b)

    q : ℤ
    q = S'.place -ℤ pos (middle b')

    alike : rename_drawing g b ≡ rename_drawing h b'
    alike = same-drawing N g h (under t v) (under u w) same equal

    middles : middle b ≡ middle b'
    middles = sym (rename-middle g b) ∙ ap middle alike ∙ rename-middle h b'

    matches : All (Match 0 0 o q (dots 0 o b) (dots 0 q b')) (corresponding (under t v) (under u w))
    matches =
        subst₂ (λ (f g : Forest). All (Match 0 0 o q (dots 0 o b) (dots 0 q b')) (corresponding f g)) (names-draw D (under t v)) (names-draw D' (under u w))
        (alike_match 0 0 o q b b' (renamed-alike g h b b' alike))

    across : (x y : ℤ) → y ≡ x +ℤ (y -ℤ x)
    across x y = parts_eq y (x +ℤ (y -ℤ x)) (omega (arith, parts_sub y x, parts_add x (y -ℤ x)))

    root-place : place D' u w ≡ place D t v +ℤ (S'.place -ℤ S.place)
    root-place =
        rw (dot-place D' u ok' (dot 0 w S'.place) S'.level S'.root, dot-place D t ok (dot 0 v S.place) S.level S.root) (across S.place S'.place)

    root-level : pos (level u w) ≡ pos (level t v) +ℤ (pos S'.level -ℤ pos S.level)
    root-level =
        rw (dot-level D' u ok' (dot 0 w S'.place) S'.level S'.root, dot-level D t ok (dot 0 v S.place) S.level S.root) (across (pos S.level) (pos S'.level))

    moved : (d : ℤ) → q +ℤ d ≡ (o +ℤ d) +ℤ (S'.place -ℤ S.place)
    moved d =
        parts_eq (q +ℤ d) ((o +ℤ d) +ℤ (S'.place -ℤ S.place))
        (omega (
          arith,
          middles,
          parts_sub S.place (pos (middle b)),
          parts_sub S'.place (pos (middle b')),
          parts_add q d,
          parts_add o d,
          parts_sub S'.place S.place,
          parts_add (o +ℤ d) (S'.place -ℤ S.place),
        ))

    below-place : (p : Pair) → Match 0 0 o q (dots 0 o b) (dots 0 q b') p → place D' u p.1 ≡ place D t p.0 +ℤ (S'.place -ℤ S.place)
    below-place p M =
        rw (
          dot-place D' u ok' (dot 0 p.1 (q +ℤ M.distance)) (suc (S'.level + M.level)) (S'.under _ M.level M.right),
          dot-place D t ok (dot 0 p.0 (o +ℤ M.distance)) (suc (S.level + M.level)) (S.under _ M.level M.left),
        )
        (moved M.distance)

    deeper : (r : ℕ) → pos (suc (S'.level + r)) ≡ pos (suc (S.level + r)) +ℤ (pos S'.level -ℤ pos S.level)
    deeper r =
        parts_eq (pos (suc (S'.level + r))) (pos (suc (S.level + r)) +ℤ (pos S'.level -ℤ pos S.level))
        (omega (arith, parts_sub (pos S'.level) (pos S.level), parts_add (pos (suc (S.level + r))) (pos S'.level -ℤ pos S.level)))

    below-level : (p : Pair) → Match 0 0 o q (dots 0 o b) (dots 0 q b') p → pos (level u p.1) ≡ pos (level t p.0) +ℤ (pos S'.level -ℤ pos S.level)
    below-level p M =
        rw (
          dot-level D' u ok' (dot 0 p.1 (q +ℤ M.distance)) (suc (S'.level + M.level)) (S'.under _ M.level M.right),
          dot-level D t ok (dot 0 p.0 (o +ℤ M.distance)) (suc (S.level + M.level)) (S.under _ M.level M.left),
        )
        (deeper M.level)
