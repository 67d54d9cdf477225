-- The subtrees of a node's children, told by the tree: what stands in an earlier one and what in the last. Assumes nothing.
use mathlib.Core.Path.{◌≡◌, refl, sym, ap, ap₂, ◌∙◌, subst}
use mathlib.Core.Bool.{◌||◌, ◌&&◌}
use mathlib.Core.List.{List, [], ◌∷◌, ◌++◌, append-nil}
use Prim.Native.Nat.{ℕ, ◌≤◌, ◌<◌}
use native.Mathlib.Omega.{arith}
use Rattle.tree.specs.Numbers.{count, any, member}
use Rattle.tree.specs.Table.{nodes}
use Rattle.tree.specs.Forest.{Forest, nil, node, join, tree_of, roots, preorder, children}
use Rattle.tree.specs.Levels.{children_of}
use Rattle.tree.specs.Shape.{under}
use Rattle.tree.specs.WellFormed.{table_number}
use Rattle.tree.proofs.Counting.{is_same}
use Rattle.tree.proofs.Joined.{roots-join, count-join}
use Rattle.tree.proofs.Tests.{member-append}
use Rattle.tree.proofs.Parts.{Part, whole, in_children, in_siblings, part_count, part_trans, starting_part}
use Rattle.tree.proofs.Stands.{accepted-inside, accepted-once}
use Rattle.tree.proofs.Followed.{followed_part}
use Rattle.rule.proofs.LastJoin.{LastOf, Parent, earlier, latest}
use Rattle.rule.proofs.Promises.{part_at}
use Rattle.slack.specs.Slack.{in_subtree, all_but_last, last_one, between}

-- ---- the last of a list

but_last : (l : List ℕ) (x : ℕ) → all_but_last (l ++ (x ∷ [])) ≡ l
but_last [] x = refl
but_last (a ∷ []) x = refl
but_last (a ∷ b ∷ l) x = ap (λ (r : List ℕ). a ∷ r) (but_last (b ∷ l) x)

last_one_lem : (l : List ℕ) (x : ℕ) → last_one (l ++ (x ∷ [])) ≡ x
last_one_lem [] x = refl
last_one_lem (a ∷ []) x = refl
last_one_lem (a ∷ b ∷ l) x = last_one_lem (b ∷ l) x

-- ---- an accepted table

module _ (t : List ℕ) (accepted : table_number t ≡ 0) where
  -- a part of the tree has the children of the node that heads it
  part-under : (c : ℕ) (f g : Forest) → Part (node c f g) (tree_of t) → under t c ≡ f
  unfolding under
  part-under c f g p =
      let inside = accepted-inside t accepted c (omega (arith, part_count c p, is_same c c refl)) in
      let once = accepted-once t accepted c in
      ap children (sym (starting_part c _ _ (followed_part t accepted c inside) once) ∙ starting_part c f g p once)

  -- each root of a forest with its children
  abbrev Rooted : Forest → Type 0
  Rooted nil = Unit {0}
  Rooted (node c f g) = (under t c ≡ f) × Rooted g

  rooted : (f : Forest) → Part f (tree_of t) → Rooted f
  rooted nil p = tt
  rooted (node c f g) p = (part-under c f g p, rooted g (part_trans (in_siblings whole) p))

  rooted-left : (f g : Forest) → Rooted (join f g) → Rooted f
  rooted-left nil g r = tt
  rooted-left (node c f h) g r = (r.0, rooted-left h g r.1)

  rooted-right : (f g : Forest) → Rooted (join f g) → Rooted g
  rooted-right nil g r = r
  rooted-right (node c f h) g r = rooted-right h g r.1

  -- what stands in the subtree of some root stands in the forest
  some-subtree : (x : ℕ) (f : Forest) → Rooted f → any (λ c. in_subtree t c x) (roots f) ≡ member x (preorder f)
  some-subtree x nil r = refl
  some-subtree x (node c f g) r =
      ap₂ ◌||◌ (ap (λ (k : Forest). member x (c ∷ preorder k)) r.0) (some-subtree x g r.1) ∙ sym (member-append x (c ∷ preorder f) (preorder g))

-- ---- a node with two or more children

module _ {t : List ℕ} {v : ℕ} (P : Parent t v) where
  abbrev L : LastOf (under t v)
  L = P.children

  listed : children_of t v ≡ roots (earlier L) ++ (L.last ∷ [])
  unfolding children_of under
  listed = ap roots L.split ∙ roots-join (earlier L) (latest L)

  part : Part (under t v) (tree_of t)
  part = part_trans (in_children whole) (part_at t P.accepted v P.inside).1

  inside : (x : ℕ) → 1 ≤ count x (preorder (join (earlier L) (latest L))) → x < nodes t
  inside x c = accepted-inside t P.accepted x (omega (arith, c, ap (λ (f : Forest). count x (preorder f)) L.split, part_count x part))

  pub earlier-inside : (x : ℕ) → 1 ≤ count x (preorder (earlier L)) → x < nodes t
  earlier-inside x c = inside x (omega (arith, c, count-join x (earlier L) (latest L)))

  pub latest-inside : (x : ℕ) → 1 ≤ count x (preorder (latest L)) → x < nodes t
  latest-inside x c = inside x (omega (arith, c, count-join x (earlier L) (latest L)))

  pub between_is : (x y : ℕ) → between t v x y ≡ (member x (preorder (earlier L)) && member y (preorder (latest L)))
  between_is x y =
      let below = subst (Rooted t P.accepted) L.split (rooted t P.accepted (under t v) part) in
      ap₂ ◌&&◌
      (ap (λ (l : List ℕ). any (λ c. in_subtree t c x) (all_but_last l)) listed
      ∙ ap (any (λ c. in_subtree t c x)) (but_last (roots (earlier L)) L.last)
      ∙ some-subtree t P.accepted x (earlier L) (rooted-left t P.accepted (earlier L) (latest L) below))
      (ap (λ (l : List ℕ). in_subtree t (last_one l) y) listed
      ∙ ap (λ (c : ℕ). in_subtree t c y) (last_one_lem (roots (earlier L)) L.last)
      ∙ ap (λ (f : Forest). member y (L.last ∷ preorder f)) (rooted-right t P.accepted (earlier L) (latest L) below).0
      ∙ ap (λ (l : List ℕ). member y (L.last ∷ l)) (sym (append-nil (preorder L.below))))
