-- The level of a node of an accepted table: 0 for the root, and for a child one more than its parent's. Assumes nothing.
use mathlib.Core.Path.{◌≡◌, refl, sym, ap, ap₂, ◌∙◌}
use mathlib.Core.Logic.{⊎_elim}
use mathlib.Core.Bool.{Bool, true, false, cond, ◌||◌}
use mathlib.Core.List.{List, [], ◌∷◌, ◌++◌}
use Prim.Native.Nat.{ℕ, suc, ◌+◌, ◌≤◌, ◌<◌}
use native.Mathlib.Nat.{not-suc-le-zero}
use native.Mathlib.Omega.{arith}
use Rattle.tree.specs.Numbers.{count, member}
use Rattle.tree.specs.Table.{nodes, first_child, next_sibling}
use Rattle.tree.specs.Forest.{Forest, nil, node, forest, tree_of, preorder, roots, entry}
use Rattle.tree.specs.Levels.{children_of, beside, levels, together, level_in, level}
use Rattle.tree.specs.WellFormed.{table_number}
use Rattle.tree.proofs.Counting.{is_same, count-append}
use Rattle.refusal.proofs.Truth.{true-or-false}
use Rattle.tree.proofs.Tests.{member-count, member-none, count-member, none-member, member-append}
use Rattle.tree.proofs.Parts.{Part, whole, in_children, in_siblings, part_count}
use Rattle.tree.proofs.Stands.{accepted-numbers, accepted-inside}
use Rattle.tree.proofs.Walked.{one_down, levels-down}
use Rattle.tree.proofs.Followed.{followed_part}

-- ---- how often a number occurs

count-beside : (x : ℕ) (xs ys : List (List ℕ)) → count x (together (beside xs ys)) ≡ count x (together xs) + count x (together ys)
count-beside x [] ys = omega arith
count-beside x (l ∷ xs) [] = omega arith
count-beside x (l ∷ xs) (m ∷ ys) =
    omega (
      arith,
      count-append x (l ++ m) (together (beside xs ys)),
      count-append x l m,
      count-beside x xs ys,
      count-append x l (together xs),
      count-append x m (together ys),
    )

-- a number occurs on the levels of a forest as often as in the forest
pub count-levels : (x : ℕ) (f : Forest) → count x (together (levels f)) ≡ count x (preorder f)
count-levels x nil = refl
count-levels x (node v f g) =
    omega (arith, count-beside x ((v ∷ []) ∷ levels f) (levels g), count-levels x f, count-levels x g, count-append x (preorder f) (preorder g))

-- ---- the first level that has a node

module _ (x : ℕ) where
  level-here : (l : List ℕ) (ls : List (List ℕ)) → member x l ≡ true → level_in (l ∷ ls) x ≡ 0
  level-here l ls e = ap (λ (b : Bool). cond b 0 (suc (level_in ls x))) e

  level-below : (l : List ℕ) (ls : List (List ℕ)) → member x l ≡ false → level_in (l ∷ ls) x ≡ suc (level_in ls x)
  level-below l ls e = ap (λ (b : Bool). cond b 0 (suc (level_in ls x))) e

  -- two forests side by side, of which one has the node
  level-left : (xs ys : List (List ℕ)) → 1 ≤ count x (together xs) → count x (together ys) ≡ 0 → level_in (beside xs ys) x ≡ level_in xs x
  level-left [] ys h e = absurd (not-suc-le-zero h)
  level-left (l ∷ xs) [] h e = refl
  level-left (l ∷ xs) (m ∷ ys) h e =
      let out : member x m ≡ false = none-member x m (omega (arith, count-append x m (together ys))) in
      ⊎_elim (λ i. level-here (l ++ m) (beside xs ys) (member-append x l m ∙ ap₂ ◌||◌ i out) ∙ sym (level-here l xs i))
      (λ i.
      level-below (l ++ m) (beside xs ys) (member-append x l m ∙ ap₂ ◌||◌ i out)
      ∙ ap suc (level-left xs ys (omega (arith, count-append x l (together xs), member-none x l i)) (omega (arith, count-append x m (together ys))))
      ∙ sym (level-below l xs i))
      (true-or-false (member x l))

  level-right : (xs ys : List (List ℕ)) → count x (together xs) ≡ 0 → 1 ≤ count x (together ys) → level_in (beside xs ys) x ≡ level_in ys x
  level-right [] ys e h = refl
  level-right (l ∷ xs) [] e h = absurd (not-suc-le-zero h)
  level-right (l ∷ xs) (m ∷ ys) e h =
      let out : member x l ≡ false = none-member x l (omega (arith, count-append x l (together xs))) in
      ⊎_elim (λ i. level-here (l ++ m) (beside xs ys) (member-append x l m ∙ ap₂ ◌||◌ out i) ∙ sym (level-here m ys i))
      (λ i.
      level-below (l ++ m) (beside xs ys) (member-append x l m ∙ ap₂ ◌||◌ out i)
      ∙ ap suc (level-right xs ys (omega (arith, count-append x l (together xs))) (omega (arith, count-append x m (together ys), member-none x m i)))
      ∙ sym (level-below m ys i))
      (true-or-false (member x m))

-- ---- of the roots, of a node below the first root, of a node beside it

pub level-root : (x : ℕ) (f : Forest) → member x (roots f) ≡ true → level_in (levels f) x ≡ 0
level-root x nil e = refl
level-root x (node v f g) e =
    ap (λ (ls : List (List ℕ)). level_in ls x) (levels-down v f g) ∙ level-here x (roots (node v f g)) (levels (one_down (node v f g))) e

module _ (v : ℕ) (f g : Forest) (x : ℕ) (once : count x (preorder (node v f g)) ≤ 1) where
  pub level-child : 1 ≤ count x (preorder f) → level_in (levels (node v f g)) x ≡ suc (level_in (levels f) x)
  level-child h =
      level-left x ((v ∷ []) ∷ levels f) (levels g) (omega (arith, count-levels x f))
      (omega (arith, count-append x (preorder f) (preorder g), count-levels x g))
      ∙ level-below x (v ∷ []) (levels f) (none-member x (v ∷ []) (omega (arith, count-append x (preorder f) (preorder g))))

  pub level-sibling : 1 ≤ count x (preorder g) → level_in (levels (node v f g)) x ≡ level_in (levels g) x
  level-sibling h =
      level-right x ((v ∷ []) ∷ levels f) (levels g) (omega (arith, count-append x (preorder f) (preorder g), count-levels x f))
      (omega (arith, count-levels x g))

-- ---- a child's level is one more than its parent's

count-roots : (x : ℕ) (f : Forest) → count x (roots f) ≤ count x (preorder f)
count-roots x nil = omega arith
count-roots x (node v f g) = omega (arith, count-roots x g, count-append x (preorder f) (preorder g))

module _ (v w : ℕ) (g h : Forest) (child : member w (roots g) ≡ true) where
  part-level : {f : Forest} → Part (node v g h) f → count v (preorder f) ≤ 1 → count w (preorder f) ≤ 1
      → level_in (levels f) w ≡ suc (level_in (levels f) v)
  part-level whole cv cw =
      level-child v g h w cw (omega (arith, member-count w (roots g) child, count-roots w g))
      ∙ ap suc (level-root w g child ∙ sym (level-root v (node v g h) (count-member v (roots (node v g h)) (omega (arith, is_same v v refl)))))
  part-level (in_children {v = u} {f = a} {h = b} p) cv cw =
      let hv : 1 ≤ count v (preorder a) = omega (arith, part_count v p, is_same v v refl) in
      let hw : 1 ≤ count w (preorder a) =
      omega (arith, part_count w p, member-count w (roots g) child, count-roots w g, count-append w (preorder g) (preorder h)) in
      level-child u a b w cw hw
      ∙ ap suc (part-level p (omega (arith, count-append v (preorder a) (preorder b))) (omega (arith, count-append w (preorder a) (preorder b))))
      ∙ ap suc (sym (level-child u a b v cv hv))
  part-level (in_siblings {v = u} {f = a} {h = b} p) cv cw =
      let hv : 1 ≤ count v (preorder b) = omega (arith, part_count v p, is_same v v refl) in
      let hw : 1 ≤ count w (preorder b) =
      omega (arith, part_count w p, member-count w (roots g) child, count-roots w g, count-append w (preorder g) (preorder h)) in
      level-sibling u a b w cw hw
      ∙ part-level p (omega (arith, count-append v (preorder a) (preorder b))) (omega (arith, count-append w (preorder a) (preorder b)))
      ∙ ap suc (sym (level-sibling u a b v cv hv))

module _ (t : List ℕ) (e : table_number t ≡ 0) where
  pub root-level : level t 0 ≡ 0
  unfolding level
  root-level = level-root 0 (tree_of t) (first (tree_of t) (accepted-numbers t e).root)
    where
      first : (f : Forest) → entry f ≡ 0 → member 0 (roots f) ≡ true
      first nil p = absurd (omega arith)
      first (node v f g) p = count-member 0 (roots (node v f g)) (omega (arith, is_same 0 v (sym p)))

  pub child-level : (v w : ℕ) → v < nodes t → member w (children_of t v) ≡ true → level t w ≡ suc (level t v)
  unfolding level children_of
  child-level v w h m =
      let p = followed_part t e v h in
      let N = accepted-numbers t e in
      part-level v w (forest t (first_child t v)) (forest t (next_sibling t v)) m p (omega (arith, N.each v h)) (omega (arith, N.each w inside))
    where
      inside : w < nodes t
      inside =
          accepted-inside t e w (omega (
            arith,
            part_count w (followed_part t e v h),
            member-count w (roots (forest t (first_child t v))) m,
            count-roots w (forest t (first_child t v)),
            count-append w (preorder (forest t (first_child t v))) (preorder (forest t (next_sibling t v))),
          ))
