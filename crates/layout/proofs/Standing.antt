-- Where the positions stand: each at its offset from its parent, one level below it. Assumes nothing.
use mathlib.Core.Path.{◌≡◌, refl, sym, ap, ◌∙◌, subst}
use mathlib.Core.List.Memᴰ
use mathlib.Core.List.{List, [], ◌∷◌}
use Prim.Native.Nat.{ℕ, suc, ◌+◌, ◌*◌, ◌≤◌, ◌<◌}
use native.Mathlib.Omega.{arith}
use lib.IntN.{ℤ, pos, ◌+ℤ◌, ◌-ℤ◌}
use lib.ListN.{length}
use Rattle.tree.specs.Numbers.{count}
use Rattle.tree.specs.Table.{nodes}
use Rattle.tree.specs.Forest.{Forest, nil, node, roots, entry, siblings, preorder, tree_of}
use Rattle.tree.specs.Levels.{level}
use Rattle.tree.specs.WellFormed.{table_number}
use Rattle.tree.proofs.Counting.{All, all_append, from_more}
use Rattle.tree.proofs.Tests.{counted-all}
use Rattle.tree.proofs.Stands.{accepted-numbers, accepted-size}
use Rattle.rule.specs.Drawing.{Drawing, none, at, middle, Dot, dot, dots}
use Rattle.rule.specs.Join.{Spacing, above0, added}
use Rattle.rule.specs.Rule.{draw, drawn}
use Rattle.rule.specs.Result.{place}
use Rattle.rule.proofs.Signed.{below0, parts_add, parts_sub, parts_eq}
use Rattle.rule.proofs.Names.{names, names-draw}
use Rattle.rule.proofs.Shapes.{rename_dot, spaced_by, rename-dots, rename-draw}
use Rattle.rule.proofs.OnLevel.{OnLevel, top, down, on-left, on-right, on_move}
use Rattle.rule.proofs.Lookup.{dot-place, dot-level}
use Rattle.level_order.specs.LevelOrder.{node_at, first_at, positions, position_tree}
use Rattle.level_order.specs.Fields.{get, NODE, PARENT, PLACE}
use Rattle.level_order.specs.Numbered.{Numbered, Parents}
use Rattle.tree.proofs.Rename.{rename}
use Rattle.level_order.proofs.Positions.{Ordered, Laid, family, run-node, run-nil, laid-run}
use Rattle.level_order.proofs.InOrder.{ordered}
use Rattle.level_order.proofs.Occurs.{times-all}
use Rattle.level_order.proofs.PositionTree.{position_tree_lem}
use Rattle.contours.specs.Rows.{Offsets}
use Rattle.families.specs.Families.{Placed}
use Rattle.second_walk.specs.SecondWalk.{Ready}

-- ---- a drawing of positions whose dots stand where X and L say

module _ (first : ℕ → ℕ) (offset X : ℕ → ℤ) (L : ℕ → ℕ) where
  -- each dot, the first level of which is level l
  abbrev Stand : ℕ → List (List Dot) → Type 0
  Stand l ls = (e : Dot) (r : ℕ) → OnLevel e r ls → (X e.node ≡ e.place) × (L e.node ≡ l + r)

  -- the children of position q stand at their offsets from it
  abbrev pub Children : ℕ → Type 0
  Children q = (p : ℕ) → first q ≤ p → p < first (suc q) → (X p ≡ X q +ℤ offset p) × (L p ≡ suc (L q))

  module _ (l i : ℕ) (o : ℤ) (v x : ℕ) (below after : Drawing) (S : Stand l (dots i o (at v x below after))) where
    stand-here : (X v ≡ o +ℤ pos x) × (L v ≡ l)
    stand-here =
        let s = S (dot i v (o +ℤ pos x)) 0 (on-left (dots i o after) (top (Memᴰ.head refl))) in
        (s.0, omega (arith, s.1))

    stand-below : Stand (suc l) (dots i (o +ℤ pos x -ℤ pos (middle below)) below)
    stand-below e r h =
        let s = S e (suc r) (on-left (dots i o after) (down h)) in
        (s.0, omega (arith, s.1))

    stand-after : Stand l (dots i o after)
    stand-after e r h = S e r (on-right ((dot i v (o +ℤ pos x) ∷ []) ∷ dots i (o +ℤ pos x -ℤ pos (middle below)) below) h)

  -- each position of a row stands at its offset from the row's parent
  row-stands : (d : Drawing) (a b m l i : ℕ) (o : ℤ) → Laid first a b (names d) → Offsets offset m d → Stand l (dots i o d)
      → (p : ℕ) → a ≤ p → p < b → (X p ≡ (o +ℤ pos m) +ℤ offset p) × (L p ≡ l)
  row-stands none a b m l i o G F S = λ p ha hp. absurd (omega (arith, G))
  row-stands (at v x below after) a b m l i o G F S =
      from_more (λ p. p < b → (X p ≡ (o +ℤ pos m) +ℤ offset p) × (L p ≡ l)) a
      (λ hp. subst (λ (q : ℕ). (X q ≡ (o +ℤ pos m) +ℤ offset q) × (L q ≡ l)) G.0 (first-stands, (stand-here l i o v x below after S).1))
      (row-stands after (suc a) b m l i o G.3 F.2 (stand-after l i o v x below after S))
    where
      first-stands : X v ≡ (o +ℤ pos m) +ℤ offset v
      first-stands =
          (stand-here l i o v x below after S).0
          ∙ parts_eq (o +ℤ pos x) ((o +ℤ pos m) +ℤ offset v)
          (omega (
            arith,
            parts_add o (pos x),
            parts_add o (pos m),
            parts_add (o +ℤ pos m) (offset v),
            ap above0 F.0,
            ap below0 F.0,
            parts_sub (pos x) (pos m),
          ))

  pub all-children : (d : Drawing) (a b m l i : ℕ) (o : ℤ) → Laid first a b (names d) → Offsets offset m d → Stand l (dots i o d)
      → All Children (preorder (names d))
  all-children none a b m l i o G F S = tt
  all-children (at v x below after) a b m l i o G F S = (
    here,
    all_append Children (preorder (names below)) (preorder (names after))
        (all-children below (first a) (first (suc a)) (middle below) (suc l) i inner G.2 F.1 (stand-below l i o v x below after S))
        (all-children after (suc a) b m l i o G.3 F.2 (stand-after l i o v x below after S)),
  )
    where
      inner : ℤ
      inner = o +ℤ pos x -ℤ pos (middle below)

      back : inner +ℤ pos (middle below) ≡ o +ℤ pos x
      back = parts_eq _ _ (omega (arith, parts_sub (o +ℤ pos x) (pos (middle below)), parts_add inner (pos (middle below))))

      here : Children v
      here p ha hp =
          let s = stand-here l i o v x below after S in
          let r = row-stands below (first a) (first (suc a)) (middle below) (suc l) i inner G.2 F.1 (stand-below l i o v x below after S) p
          (omega (arith, ap first G.0)) (omega (arith, ap (λ (q : ℕ). first (suc q)) G.0)) in
          (r.0 ∙ ap (λ (z : ℤ). z +ℤ offset p) (back ∙ sym s.0), r.1 ∙ ap suc (sym s.1))

-- ---- an accepted table

module _ (D : Spacing) (t : List ℕ) (accepted : table_number t ≡ 0) where
  abbrev f : Forest
  f = tree_of t

  abbrev n : ℕ
  n = nodes t

  abbrev X : ℕ → ℤ
  X p = place D t (node_at f p)

  abbrev L : ℕ → ℕ
  L p = level t (node_at f p)

  -- what keeps positions apart
  abbrev E : Spacing
  E = spaced_by (node_at f) D

  abbrev O : Ordered (first_at f) n
  O = ordered t accepted

  some : 1 ≤ n
  some = (accepted-numbers t accepted).some

  one-root : length (roots f) ≡ 1
  one-root = go f (accepted-numbers t accepted).root (accepted-numbers t accepted).alone
    where
      go : (g : Forest) → entry g ≡ 0 → siblings g ≡ nil → length (roots g) ≡ 1
      go nil e s = absurd (omega (arith, e))
      go (node v a b) e s = ap (λ (h : Forest). suc (length (roots h))) s

  -- the tree of positions, renamed, is the table's
  tree_of-positions : rename (node_at f) (position_tree f n) ≡ f
  tree_of-positions = ap (λ (m : ℕ). rename (node_at f) (position_tree f m)) (sym (accepted-size t accepted)) ∙ position_tree_lem f one-root

  -- a dot of the drawing of the tree of positions tells where the position's node stands
  position-stands : (e : Dot) (r : ℕ) → OnLevel e r (dots 0 (pos 0) (draw E (position_tree f n))) → (X e.node ≡ e.place) × (L e.node ≡ 0 + r)
  unfolding drawn
  position-stands e r o =
      let tree = position_tree f n in
      let s : OnLevel (rename_dot (node_at f) e) r (drawn D t) =
      subst (λ (g : Forest). OnLevel (rename_dot (node_at f) e) r (dots 0 (pos 0) (draw D g))) tree_of-positions
      (rw (rename-draw D (node_at f) tree, rename-dots) (on_move (rename_dot (node_at f)) (dots 0 (pos 0) (draw E tree)) o)) in
      (dot-place D t accepted (rename_dot (node_at f) e) r s, dot-level D t accepted (rename_dot (node_at f) e) r s ∙ omega arith)

  -- every position is in the tree of positions
  in_tree : (p : ℕ) → p < n → 1 ≤ count p (preorder (position_tree f n))
  in_tree p h =
      let one : first_at f 0 ≡ 1 = omega (arith, one-root) in
      omega (arith, subst (λ (b : ℕ). count p (preorder (positions n (first_at f) 0 b)) ≡ 1) one (times-all (first_at f) n O p h))

  module _ (work : List ℤ) (P : Placed E f n work) where
    placed-children : (q : ℕ) → q < n → Children (first_at f) (get work PLACE) X L q
    placed-children q h =
        let tree = position_tree f n in
        let laid : Laid (first_at f) 0 1 (names (draw E tree)) = subst (Laid (first_at f) 0 1) (sym (names-draw E tree)) (laid-run (first_at f) n O 0 1 (omega arith) some) in
        counted-all (Children (first_at f) (get work PLACE) X L) (preorder tree)
        (subst (λ (g : Forest). All (Children (first_at f) (get work PLACE) X L) (preorder g)) (names-draw E tree)
        (all-children (first_at f) (get work PLACE) X L (draw E tree) 0 1 0 0 0 (pos 0) laid P position-stands))
        q (in_tree q h)

    -- the root's own offset is 0
    placed-root : get work PLACE 0 ≡ pos 0
    unfolding added
    placed-root = top_offset (family (first_at f) n 0) (subst (λ (g : Forest). Offsets (get work PLACE) 0 (draw E g)) alone P)
      where
        alone : position_tree f n ≡ node 0 (family (first_at f) n 0) nil
        alone = run-node (first_at f) n O 0 1 (omega arith) some ∙ ap (node 0 (family (first_at f) n 0)) (run-nil (first_at f) n O 1 1 (omega arith))

        top_offset : (b : Forest) → Offsets (get work PLACE) 0 (draw E (node 0 b nil)) → get work PLACE 0 ≡ pos 0
        top_offset b h = h.0

  pub ready : (before work : List ℤ) → Numbered f E.need n before → Parents f n before → Placed E f n work → 16 * n ≤ length work
      → ((g p : ℕ) → g < PLACE → get work g p ≡ get before g p) → Ready D t work
  ready before work N Q P s same =
      record {
        size = s;
        node = λ p h. same NODE p (omega arith) ∙ N.node p h;
        root = placed-root work P;
        others = λ p h₀ h.
            let r = Q.parent p h₀ h in
            let c = placed-children work P r.0 (omega (arith, r.1)) p r.2 r.3 in
            record { parent = r.0; before = r.1; named = same PARENT p (omega arith) ∙ r.4; place = c.0; level = c.1 };
      }
