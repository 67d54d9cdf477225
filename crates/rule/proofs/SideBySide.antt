-- Side by side, told by level and place: two nodes are neighbours exactly when they stand on one level, the one left of the other, and no
-- node of that level stands between them. Assumes nothing.
use mathlib.Core.Logic.{◌⊎◌, inl, inr, ⊎_elim}
use mathlib.Core.Path.{◌≡◌, refl, sym, ap₂, subst, subst₂, ◌∙◌}
use mathlib.Core.List.{List, [], ◌∷◌}
use Prim.Native.Nat.{ℕ, suc, ◌≤◌, ◌<◌}
use native.Mathlib.Nat.{le_refl}
use native.Mathlib.Omega.{arith}
use lib.IntN.{ℤ, pos, ◌+ℤ◌}
use lib.Signed.{◌≤ℤ◌, ◌<ℤ◌, ≤ℤ_refl, <ℤ_irrefl, clash_ℤ}
use Rattle.tree.specs.Numbers.{count, flat_map}
use Rattle.tree.specs.Table.{nodes}
use Rattle.tree.specs.Forest.{tree_of}
use Rattle.tree.specs.Levels.{Pair, level, levels, together, side_by_side, neighbours}
use Rattle.tree.specs.WellFormed.{table_number}
use Rattle.tree.proofs.Counting.{All, is_same, all_append, all_left, all_right, all-weaken, count-append}
use Rattle.tree.proofs.Tests.{counted-all, in_cons, in_append}
use Rattle.tree.proofs.Stands.{accepted-numbers, accepted-inside}
use Rattle.tree.proofs.LevelOf.{count-levels}
use Rattle.tree.proofs.Leveled.{Leveled, accepted-leveled}
use Rattle.rule.specs.Join.{Spacing}
use Rattle.rule.specs.Record.{is_pair, pair_count}
use Rattle.rule.specs.Result.{place}
use Rattle.rule.proofs.Signed.{at_most, parts_le, parts_add, not-le}
use Rattle.rule.proofs.PairCounts.{is_pair_lem, pair_count-append}
use Rattle.rule.proofs.ReadingOrder.{Pairwise, LeftBy, Apart, rising, neighbours-at-least}

-- z does not stand between x and y
abbrev pub NotBetween : (ℕ → ℤ) → ℕ → ℕ → ℕ → Type 0
NotBetween spot x y z = (spot z ≤ℤ spot x) ⊎ (spot y ≤ℤ spot z)

-- of the nodes In, x stands left of y on one level, and no node of that level between them
pub record SideBySide (In : ℕ → Type 0) (lev : ℕ → ℕ) (spot : ℕ → ℤ) (x y : ℕ) : Type 0 where
  pub left_in : In x
  pub right_in : In y
  pub one_level : lev x ≡ lev y
  pub left : spot x <ℤ spot y
  pub none_between : (z : ℕ) → In z → lev z ≡ lev x → NotBetween spot x y z

-- side by side among the nodes of a list
abbrev Within : (ℕ → ℕ) → (ℕ → ℤ) → List ℕ → ℕ → ℕ → Type 0
Within lev spot l = SideBySide (λ v. 1 ≤ count v l) lev spot

-- the same of other nodes, with no more on that level, and of levels and places that agree with these
pub beside-told : (In In' : ℕ → Type 0) (lev lev' : ℕ → ℕ) (spot spot' : ℕ → ℤ) (x y : ℕ) → ((v : ℕ) → In v → (lev v ≡ lev' v) × (spot v ≡ spot' v))
    → ((v : ℕ) → In' v → lev' v ≡ lev' x → In v) → In' x → In' y → SideBySide In lev spot x y → SideBySide In' lev' spot' x y
beside-told In In' lev lev' spot spot' x y to from i j B =
    let l = to x B.left_in in
    let r = to y B.right_in in
    record {
      left_in = i;
      right_in = j;
      one_level = sym l.0 ∙ B.one_level ∙ r.0;
      left = subst₂ ◌<ℤ◌ l.1 r.1 B.left;
      none_between = λ z h k.
          let m = from z h k in
          ⊎_elim (λ p. inl (subst₂ ◌≤ℤ◌ (to z m).1 l.1 p)) (λ p. inr (subst₂ ◌≤ℤ◌ r.1 (to z m).1 p)) (B.none_between z m ((to z m).0 ∙ k ∙ sym l.0));
    }

-- ---- one level

module _ (spot : ℕ → ℤ) (D : ℕ) (some : 1 ≤ D) where
  left_le : (a b : ℕ) → LeftBy spot D a b → spot a ≤ℤ spot b
  left_le a b h = parts_le (spot a) (spot b) (omega (arith, at_most (spot a +ℤ pos D) (spot b) h, parts_add (spot a) (pos D)))

  left_not : (a b : ℕ) → LeftBy spot D a b → spot b ≤ℤ spot a → ⊥
  left_not a b h k = omega (arith, at_most (spot a +ℤ pos D) (spot b) h, at_most (spot b) (spot a) k, parts_add (spot a) (pos D))

  -- only the second node can stand right of the first with none between
  second : (a b : ℕ) (l : List ℕ) → Pairwise (LeftBy spot D) (a ∷ b ∷ l) → (y : ℕ) → 1 ≤ count y (a ∷ b ∷ l) → spot a <ℤ spot y → NotBetween spot a y b → y ≡ b
  second a b l r y c left gap =
      ⊎_elim (λ e. absurd (<ℤ_irrefl (subst (λ (v : ℕ). spot a <ℤ spot v) e left)))
      (λ d. ⊎_elim (λ e. e)
      (λ m. ⊎_elim (λ u. absurd (left_not a b r.0.0 u)) (λ u. absurd (left_not b y (counted-all (LeftBy spot D b) l r.1.0 y m) u)) gap)
      (in_cons y b l d))
      (in_cons y a (b ∷ l) c)

  -- two nodes of a level that stand side by side are a pair of neighbours
  named : (l : List ℕ) → Pairwise (LeftBy spot D) l → (x y : ℕ) → 1 ≤ count x l → 1 ≤ count y l → spot x <ℤ spot y
      → ((z : ℕ) → 1 ≤ count z l → NotBetween spot x y z) → 1 ≤ pair_count x y (side_by_side l)
  named [] r x y c d left clear = absurd (omega arith)
  named (a ∷ []) r x y c d left clear =
      ⊎_elim (λ e. ⊎_elim (λ f. absurd (<ℤ_irrefl (subst (λ (v : ℕ). spot x <ℤ spot v) (f ∙ sym e) left))) (λ k. absurd (omega arith)) (in_cons y a [] d))
      (λ k. absurd (omega arith)) (in_cons x a [] c)
  named (a ∷ b ∷ l) r x y c d left clear =
      ⊎_elim first
      (λ k. ⊎_elim (λ e. absurd (clash_ℤ (subst (λ (v : ℕ). spot x <ℤ spot v) e left) (left_le a x (counted-all (LeftBy spot D a) (b ∷ l) r.0 x k))))
      (λ m. omega (arith, named (b ∷ l) r.1 x y k m left (λ z n. clear z (omega (arith, n)))))
      (in_cons y a (b ∷ l) d))
      (in_cons x a (b ∷ l) c)
    where
      first : x ≡ a → 1 ≤ pair_count x y ((a, b) ∷ side_by_side (b ∷ l))
      first e =
          let gap = subst (λ (v : ℕ). NotBetween spot v y b) e (clear b (omega (arith, is_same b b refl))) in
          let f = second a b l r y d (subst (λ (v : ℕ). spot v <ℤ spot y) e left) gap in
          omega (arith, is_pair_lem a b, ap₂ (λ (v w : ℕ). is_pair v w (a, b)) e f)

module _ (lev : ℕ → ℕ) (spot : ℕ → ℤ) (D : ℕ) (some : 1 ≤ D) where
  -- the nodes of every pair of neighbours stand side by side
  abbrev EachBeside : List ℕ → List Pair → Type 0
  EachBeside l = All (λ p. Within lev spot l p.0 p.1)

  beside : (i : ℕ) (l : List ℕ) → All (λ v. lev v ≡ i) l → Pairwise (LeftBy spot D) l → EachBeside l (side_by_side l)
  beside i [] h r = tt
  beside i (a ∷ []) h r = tt
  beside i (a ∷ b ∷ l) h r = (first, all-weaken _ _ further (side_by_side (b ∷ l)) (beside i (b ∷ l) h.1 r.1))
    where
      first : Within lev spot (a ∷ b ∷ l) a b
      first =
          record {
            left_in = omega (arith, is_same a a refl);
            right_in = omega (arith, is_same b b refl);
            one_level = h.0 ∙ sym h.1.0;
            left = not-le (spot a) (spot b) (left_not spot D some a b r.0.0);
            none_between = λ z k n.
                ⊎_elim (λ e. inl (subst (λ (v : ℕ). spot v ≤ℤ spot a) (sym e) (≤ℤ_refl (spot a))))
                (λ d. inr (⊎_elim (λ e. subst (λ (v : ℕ). spot b ≤ℤ spot v) (sym e) (≤ℤ_refl (spot b))) (λ m. left_le spot D some b z (counted-all (LeftBy spot D b) l r.1.0 z m)) (in_cons z b l d)))
                (in_cons z a (b ∷ l) k);
          }

      further : (p : Pair) → Within lev spot (b ∷ l) p.0 p.1 → Within lev spot (a ∷ b ∷ l) p.0 p.1
      further p B =
          record {
            left_in = omega (arith, B.left_in);
            right_in = omega (arith, B.right_in);
            one_level = B.one_level;
            left = B.left;
            none_between = λ z k n.
                ⊎_elim
                (λ e. inl (subst (λ (v : ℕ). spot v ≤ℤ spot p.0) (sym e) (left_le spot D some a p.0 (counted-all (LeftBy spot D a) (b ∷ l) r.0 p.0 B.left_in))))
                (λ m. B.none_between z m n) (in_cons z a (b ∷ l) k);
          }

  -- among other nodes, with no more on that level
  among : (In In' : ℕ → Type 0) (x y : ℕ) → ((v : ℕ) → In' v → lev v ≡ lev x → In v) → In' x → In' y → SideBySide In lev spot x y → SideBySide In' lev spot x y
  among In In' x y = beside-told In In' lev lev spot spot x y (λ v k. (refl, refl))

  -- ---- a level and those below it

  low : (i : ℕ) (ls : List (List ℕ)) → Leveled lev i ls → (v : ℕ) → 1 ≤ count v (together ls) → i ≤ lev v
  low i [] h v c = absurd (omega arith)
  low i (l ∷ ls) h v c =
      ⊎_elim (λ k. omega (arith, counted-all (λ u. lev u ≡ i) l h.0 v k)) (λ k. omega (arith, low (suc i) ls h.1 v k)) (in_append v l (together ls) c)

  module _ (i : ℕ) (l : List ℕ) (ls : List (List ℕ)) (h : Leveled lev i (l ∷ ls)) where
    abbrev all : List ℕ
    all = together (l ∷ ls)

    on : (v : ℕ) → 1 ≤ count v l → lev v ≡ i
    on = counted-all (λ u. lev u ≡ i) l h.0

    first_in : (v : ℕ) → 1 ≤ count v l → 1 ≤ count v all
    first_in v k = omega (arith, k, count-append v l (together ls))

    rest_in : (v : ℕ) → 1 ≤ count v (together ls) → 1 ≤ count v all
    rest_in v k = omega (arith, k, count-append v l (together ls))

    -- a node on one level with x is where x is
    with_first : (x : ℕ) → 1 ≤ count x l → (v : ℕ) → 1 ≤ count v all → lev v ≡ lev x → 1 ≤ count v l
    with_first x c v k e = ⊎_elim (λ m. m) (λ m. absurd (omega (arith, e, on x c, low (suc i) ls h.1 v m))) (in_append v l (together ls) k)

    with_rest : (x : ℕ) → 1 ≤ count x (together ls) → (v : ℕ) → 1 ≤ count v all → lev v ≡ lev x → 1 ≤ count v (together ls)
    with_rest x c v k e = ⊎_elim (λ m. absurd (omega (arith, e, on v m, low (suc i) ls h.1 x c))) (λ m. m) (in_append v l (together ls) k)

  -- ---- all levels

  abbrev pairs : List (List ℕ) → List Pair
  pairs ls = flat_map side_by_side ls

  levels-beside : (i : ℕ) (ls : List (List ℕ)) → Leveled lev i ls → All (Apart spot D) (pairs ls) → EachBeside (together ls) (pairs ls)
  levels-beside i [] h s = tt
  levels-beside i (l ∷ ls) h s =
      all_append _ (side_by_side l) (pairs ls)
      (all-weaken _ _ (λ p B. among _ _ p.0 p.1 (with_first i l ls h p.0 B.left_in) (first_in i l ls h p.0 B.left_in) (first_in i l ls h p.1 B.right_in) B) (side_by_side l)
      (beside i l h.0 (rising spot D l (all_left (Apart spot D) (side_by_side l) (pairs ls) s))))
      (all-weaken _ _ (λ p B. among _ _ p.0 p.1 (with_rest i l ls h p.0 B.left_in) (rest_in i l ls h p.0 B.left_in) (rest_in i l ls h p.1 B.right_in) B) (pairs ls)
      (levels-beside (suc i) ls h.1 (all_right (Apart spot D) (side_by_side l) (pairs ls) s)))

  levels-named : (i : ℕ) (ls : List (List ℕ)) → Leveled lev i ls → All (Apart spot D) (pairs ls) → (x y : ℕ) → Within lev spot (together ls) x y → 1 ≤ pair_count x y (pairs ls)
  levels-named i [] h s x y B = absurd (omega (arith, B.left_in))
  levels-named i (l ∷ ls) h s x y B =
      let e = sym B.one_level in
      let whole = pair_count-append x y (side_by_side l) (pairs ls) in
      ⊎_elim
      (λ c.
      let same = on i l ls h in
      omega (
        arith,
        whole,
        named spot D some l (rising spot D l (all_left (Apart spot D) (side_by_side l) (pairs ls) s)) x y c (with_first i l ls h x c y B.right_in e) B.left
            (λ z k. B.none_between z (first_in i l ls h z k) (same z k ∙ sym (same x c))),
      ))
      (λ c.
      let d = with_rest i l ls h x c y B.right_in e in
      omega (
        arith,
        whole,
        levels-named (suc i) ls h.1 (all_right (Apart spot D) (side_by_side l) (pairs ls) s) x y (among _ _ x y (λ v k m. rest_in i l ls h v k) c d B),
      ))
      (in_append x l (together ls) B.left_in)

-- ---- an accepted table

module _ (N : Spacing) (t : List ℕ) (some : (a b : ℕ) → 1 ≤ N.need a b) (accepted : table_number t ≡ 0) where
  member : (v : ℕ) → v < nodes t → 1 ≤ count v (together (levels (tree_of t)))
  member v h = omega (arith, count-levels v (tree_of t), (accepted-numbers t accepted).each v h)

  inside : (v : ℕ) → 1 ≤ count v (together (levels (tree_of t))) → v < nodes t
  inside v c = accepted-inside t accepted v (omega (arith, count-levels v (tree_of t)))

  abbrev pub Drawn : ℕ → ℕ → Type 0
  Drawn x y = SideBySide (λ v. v < nodes t) (level t) (place N t) x y

  pub neighbours-beside : All (λ p. Drawn p.0 p.1) (neighbours t)
  unfolding neighbours
  neighbours-beside =
      all-weaken _ _ (λ p B. among (level t) (place N t) 1 (le_refl 1) _ _ p.0 p.1 (λ v h e. member v h) (inside p.0 B.left_in) (inside p.1 B.right_in) B) (neighbours t)
      (levels-beside (level t) (place N t) 1 (le_refl 1) 0 (levels (tree_of t)) (accepted-leveled t accepted) (neighbours-at-least N 1 some t accepted))

  pub beside-neighbours : (x y : ℕ) → Drawn x y → 1 ≤ pair_count x y (neighbours t)
  unfolding neighbours
  beside-neighbours x y B =
      levels-named (level t) (place N t) 1 (le_refl 1) 0 (levels (tree_of t)) (accepted-leveled t accepted) (neighbours-at-least N 1 some t accepted) x y
      (among (level t) (place N t) 1 (le_refl 1) _ _ x y (λ v c e. inside v c) (member x B.left_in) (member y B.right_in) B)
