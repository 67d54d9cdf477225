-- The star is as wide as a sheet can be: where all half-widths are equal, its width is the bound, at every size. Assumes nothing.
use mathlib.Core.Path.{◌≡◌, refl, sym, ap, ap₂, ◌∙◌, subst, subst₂}
use mathlib.Core.Bool.{true, false, false≢true}
use mathlib.Core.List.{List, [], ◌∷◌, append-nil}
use Prim.Native.Nat.{ℕ, zero, suc, ◌+◌, ◌-◌, ◌*◌, ◌≤◌, ◌<◌}
use native.Mathlib.Omega.{arith}
use lib.IntN.{ℤ, pos, ◌+ℤ◌}
use lib.ListN.{length, replicate, length-replicate, get_or-replicate}
use lib.Signed.{◌≤ℤ◌}
use Rattle.refusal.proofs.Truth.{and_left}
use Rattle.distance.specs.Needed.{Distance, half_width, needed, widest, bad_half_widths}
use Rattle.distance.proofs.Separation.{separation-good}
use Rattle.distance.proofs.HalfWidths.{at_most-widest, widest-most, narrow_good}
use Rattle.tree.specs.Numbers.{flat_map}
use Rattle.tree.specs.Table.{nodes}
use Rattle.tree.specs.Forest.{Forest, nil, node, tree_of, size, roots, preorder}
use Rattle.tree.specs.Levels.{beside, levels, side_by_side, neighbours}
use Rattle.tree.specs.Operations.{number_from}
use Rattle.tree.specs.Shape.{same_shape}
use Rattle.tree.specs.WellFormed.{table_number}
use Rattle.tree.proofs.Counting.{All, Below, all_left}
use Rattle.tree.proofs.Stands.{Numbers, one-root, accepted-numbers}
use Rattle.tree.proofs.Renumbered.{tree-numbers, shape_number_from}
use Rattle.tree.proofs.TableOf.{table_of-accepted, table_of-tree, nodes-table_of}
use Rattle.rule.specs.Result.{Slices, Answer, Layout}
use Rattle.rule.proofs.Signed.{parts_add, parts_eq, at_most, AtMost}
use Rattle.small_trees.specs.SmallTrees.{leaves, star}
use Rattle.layout.proofs.Answers.{room-enough, by-widths, number-room}
use Rattle.layout.proofs.Returned.{Call, layout-call, accepted, place_of, apart-returned, least-returned, greatest-returned}
use Rattle.slack.specs.Slack.{most_width, star_table, star_width}
use Rattle.slack.proofs.Returned.{width-returned}

-- ---- a row of leaves

-- a row of nodes as a level, where there is one
abbrev one_level : List ℕ → List (List ℕ)
one_level [] = []
one_level (v ∷ l) = (v ∷ l) ∷ []

-- a forest of m leaves: its nodes are its roots, and stand on one level
record Leaves (m : ℕ) (f : Forest) : Type 0 where
  many : length (roots f) ≡ m
  order : preorder f ≡ roots f
  level : levels f ≡ one_level (roots f)

leaves-row : (m : ℕ) (f : Forest) → same_shape f (leaves m) ≡ true → Leaves m f
leaves-row zero nil e = record { many = refl; order = refl; level = refl }
leaves-row zero (node v f g) e = absurd (false≢true e)
leaves-row (suc m) nil e = absurd (false≢true e)
leaves-row (suc m) (node v nil g) e =
    let r = leaves-row m g e in
    record {
      many = ap suc r.many;
      order = ap (λ (l : List ℕ). v ∷ l) r.order;
      level = ap (beside ((v ∷ []) ∷ [])) r.level ∙ one (roots g);
    }
  where
    one : (l : List ℕ) → beside ((v ∷ []) ∷ []) (one_level l) ≡ (v ∷ l) ∷ []
    one [] = refl
    one (w ∷ l) = refl
leaves-row (suc m) (node v (node w f h) g) e = absurd (false≢true e)

beside-one : (l : List ℕ) → flat_map side_by_side (one_level l) ≡ side_by_side l
beside-one [] = refl
beside-one (v ∷ l) = append-nil (side_by_side (v ∷ l))

-- neighbours of a level that need W or more add up
far : (spot : ℕ → ℤ) (need : Distance) (W n : ℕ) → ((x y : ℕ) → x < n → y < n → W ≤ need x y) → (v : ℕ) (l : List ℕ) → Below n (v ∷ l)
    → All (λ p. (spot p.0 +ℤ pos (need p.0 p.1)) ≤ℤ spot p.1) (side_by_side (v ∷ l)) → (w : ℕ) × (w < n) × AtMost (spot v +ℤ pos (length l * W)) (spot w)
far spot need W n each v [] b a = (v, b.0, omega (arith, parts_add (spot v) (pos (0 * W))))
far spot need W n each v (x ∷ l) b a =
    let r = far spot need W n each x l b.1 a.1 in (
      r.0,
      r.1,
      omega (
        arith,
        r.2,
        at_most _ _ a.0,
        each v x b.0 b.1.0,
        parts_add (spot v) (pos (suc (length l) * W)),
        parts_add (spot v) (pos (need v x)),
        parts_add (spot x) (pos (length l * W)),
      ),
    )

-- ---- a star

-- any table of n nodes in which all but the root are the root's children
abbrev pub Star : List ℕ → Type 0
Star t = same_shape (tree_of t) (star (nodes t)) ≡ true

module _ {t : List ℕ} {D : ℕ} {hs : List ℕ} {s : Slices} {a : Answer} {u : Slices} (C : Call t D hs 0 s a u) where
  -- where every half-width is the greatest, the width is the bound
  pub star_width_lem : Star t → ((v : ℕ) → v < nodes t → half_width hs v ≡ widest (nodes t) hs)
      → a.greatest ≡ a.least +ℤ pos (most_width a.nodes (D + 2 * widest a.nodes hs) 0)
  unfolding neighbours
  star_width_lem shape equal =
      rw C.laid.nodes
      (parts_eq a.greatest (a.least +ℤ pos (most_width n W 0))
      (omega (arith, at_most _ _ (rw C.laid.nodes at (width-returned C)), reach, parts_add a.least (pos (most_width n W 0)), parts_add a.least (pos ((n - 2) * W)))))
    where
      n : ℕ
      n = nodes t

      W : ℕ
      W = D + 2 * widest n hs

      some : 0 < n
      some = (accepted-numbers t (accepted C)).some

      tree : (below : Forest) × (tree_of t ≡ node 0 below nil)
      tree = one-root n (tree_of t) (accepted-numbers t (accepted C))

      row : (m : ℕ) → suc m ≡ n → Leaves m tree.0
      row m e = leaves-row m tree.0 (and_left (same_shape tree.0 (leaves m)) true (subst₂ (λ (f : Forest) (k : ℕ). same_shape f (star k) ≡ true) tree.1 (sym e) shape))

      R : Leaves (n - 1) tree.0
      R = row (n - 1) (omega (arith, some))

      kept : All (λ p. (place_of u p.0 +ℤ pos (needed D hs p.0 p.1)) ≤ℤ place_of u p.1) (side_by_side (roots tree.0))
      kept =
          subst (All (λ p. (place_of u p.0 +ℤ pos (needed D hs p.0 p.1)) ≤ℤ place_of u p.1))
          (ap (λ (f : Forest). flat_map side_by_side (levels f)) tree.1 ∙ ap (flat_map side_by_side) R.level ∙ beside-one (roots tree.0)) (apart-returned C)

      inside : Below n (roots tree.0)
      inside =
          subst (Below n) R.order
          (all_left (λ x. x < n) (preorder tree.0) [] (subst (λ (f : Forest). Below n (preorder f)) tree.1 (accepted-numbers t (accepted C)).below).1)

      -- the first leaf and the last are so far apart
      reach : AtMost (a.least +ℤ pos ((n - 2) * W)) a.greatest
      reach = go (roots tree.0) R.many inside kept
        where
          go : (l : List ℕ) → length l ≡ n - 1 → Below n l → All (λ p. (place_of u p.0 +ℤ pos (needed D hs p.0 p.1)) ≤ℤ place_of u p.1) (side_by_side l)
              → AtMost (a.least +ℤ pos ((n - 2) * W)) a.greatest
          go [] e b k =
              let one : n - 2 ≡ 0 = omega arith in
              omega (
                arith,
                at_most _ _ ((least-returned C).0 0 some),
                at_most _ _ ((greatest-returned C).0 0 some),
                ap (λ (i : ℕ). i * W) one,
                parts_add a.least (pos ((n - 2) * W)),
              )
          go (v ∷ l) e b k =
              let r = far (place_of u) (needed D hs) W n (λ x y hx hy. omega (arith, equal x hx, equal y hy)) v l b k in
              let others : length l ≡ n - 2 = omega arith in
              omega (
                arith,
                r.2,
                at_most _ _ ((least-returned C).0 v b.0),
                at_most _ _ ((greatest-returned C).0 r.0 r.1),
                ap (λ (i : ℕ). i * W) others,
                parts_add (place_of u v) (pos (length l * W)),
                parts_add a.least (pos ((n - 2) * W)),
              )

-- ---- a star of every size

module _ (n : ℕ) (some : 1 ≤ n) (few : n ≤ 1024) where
  numbers : Numbers n (number_from 0 (star n))
  numbers = go n refl
    where
      counted : (m : ℕ) → size (leaves m) ≡ m
      counted zero = refl
      counted (suc m) = omega (arith, counted m)

      go : (m : ℕ) → m ≡ n → Numbers n (number_from 0 (star m))
      go zero e = absurd (omega arith)
      go (suc m) e = tree-numbers n 0 (leaves m) (omega (arith, counted m)) few

  star-accepted : table_number (star_table n) ≡ 0
  unfolding star_table
  star-accepted = table_of-accepted n (number_from 0 (star n)) numbers

  star-nodes : nodes (star_table n) ≡ n
  unfolding star_table
  star-nodes = nodes-table_of n (number_from 0 (star n)) numbers

  star_shape : Star (star_table n)
  unfolding star_table
  star_shape =
      ap₂ (λ (f : Forest) (k : ℕ). same_shape f (star k)) (table_of-tree n (number_from 0 (star n)) numbers) star-nodes ∙ shape_number_from 0 (star n)

  -- The layout takes it, whatever the separation and the half-width that all its nodes have, with slices long enough; and its width is the bound.
  module _ (D h : ℕ) (separate : 1 ≤ D) (near : D ≤ 1024) (narrow : h ≤ 256) (s : Slices) (a : Answer) (u : Slices)
      (places : n ≤ length s.places) (levels : n ≤ length s.levels) (measured : 2 * n ≤ length s.the_record) (work : 16 * n ≤ length s.work)
      (L : Layout (star_table n) D (replicate n h) s a u) where
    abbrev hs : List ℕ
    hs = replicate n h

    each : (v : ℕ) → v < n → half_width hs v ≡ h
    each v k = get_or-replicate n v h 0 k

    widths : widest n hs ≡ h
    widths = omega (arith, widest-most hs h n (λ v k. omega (arith, each v k)), at_most-widest hs n 0 some, each 0 some)

    pub star-taken : a.number ≡ 0
    star-taken =
        let long : n ≤ length hs = omega (arith, length-replicate n h) in
        let good = narrow_good hs n long (λ v k. omega (arith, each v k)) in
        let apart = by-widths (star_table n) D hs (separation-good D separate near) false (ap (λ (m : ℕ). bad_half_widths m hs) star-nodes ∙ good) in
        L.number ∙ sym (number-room (star_table n) D hs s star-accepted apart)
        ∙ room-enough (star_table n) s (omega (arith, star-nodes)) (omega (arith, star-nodes)) (omega (arith, star-nodes)) (omega (arith, star-nodes))

    pub star_sharp : a.greatest ≡ a.least +ℤ pos (star_width n D h)
    star_sharp =
        let C : Call (star_table n) D hs 0 s a u = layout-call {t = star_table n} {D = D} {hs = hs} {s = s} L star-taken in
        let counted : a.nodes ≡ n = C.laid.nodes ∙ star-nodes in
        let bound : most_width n (D + 2 * h) 0 ≡ star_width n D h = omega arith in
        star_width_lem C star_shape (λ v k. each v (omega (arith, star-nodes)) ∙ sym (ap (λ (m : ℕ). widest m hs) star-nodes ∙ widths))
        ∙ ap (λ (w : ℕ). a.least +ℤ pos w) (ap (λ (m : ℕ). most_width m (D + 2 * widest m hs) 0) counted ∙ ap (λ (k : ℕ). most_width n (D + 2 * k) 0) widths ∙ bound)
