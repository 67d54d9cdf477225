-- Reading order told by level and place: of two pairs of neighbours the earlier one stands on a higher level, or on the same level and
-- further left by at least what any two nodes need. Assumes nothing.
use mathlib.Core.Logic.{◌⊎◌, inl, inr}
use mathlib.Core.Path.{◌≡◌, sym, ◌∙◌}
use mathlib.Core.List.{List, [], ◌∷◌, ◌++◌}
use Prim.Native.Nat.{ℕ, zero, suc, ◌≤◌, ◌<◌}
use native.Mathlib.Nat.{not-suc-le-zero}
use native.Mathlib.Omega.{arith}
use lib.IntN.{ℤ, pos, ◌+ℤ◌}
use lib.ListN.{length, get_or}
use lib.Signed.{◌≤ℤ◌}
use Rattle.tree.specs.Numbers.{flat_map}
use Rattle.tree.specs.Forest.{tree_of}
use Rattle.tree.specs.Levels.{Pair, level, levels, side_by_side, neighbours}
use Rattle.tree.specs.WellFormed.{table_number}
use Rattle.tree.proofs.Counting.{All, all_append, all_left, all_right, all-weaken, all_both}
use Rattle.tree.proofs.Tests.{all-at}
use Rattle.tree.proofs.Leveled.{Leveled, accepted-leveled}
use Rattle.rule.specs.Join.{Spacing}
use Rattle.rule.specs.Result.{place}
use Rattle.rule.proofs.Signed.{at_most, parts_le, parts_add}
use Rattle.rule.proofs.Promises.{neighbours-apart}

-- every entry of the list is related to every later one
abbrev pub Pairwise : {A : Type 0} → (A → A → Type 0) → List A → Type 0
Pairwise R [] = Unit {0}
Pairwise R (x ∷ l) = All (R x) l × Pairwise R l

pub pairwise_append : {A : Type 0} (R : A → A → Type 0) (l m : List A) → Pairwise R l → Pairwise R m → All (λ x. All (R x) m) l → Pairwise R (l ++ m)
pairwise_append R [] m a b c = b
pairwise_append R (x ∷ l) m a b c = (all_append (R x) l m a.0 c.0, pairwise_append R l m a.1 b c.1)

pairwise_at : {A : Type 0} (R : A → A → Type 0) (l : List A) (d : A) → Pairwise R l → (i j : ℕ) → i < j → j < length l → R (get_or l i d) (get_or l j d)
pairwise_at R [] d a i j h k = absurd (not-suc-le-zero k)
pairwise_at R (x ∷ l) d a i zero h k = absurd (not-suc-le-zero h)
pairwise_at R (x ∷ l) d a zero (suc j) h k = all-at (R x) l d a.0 j (omega arith)
pairwise_at R (x ∷ l) d a (suc i) (suc j) h k = pairwise_at R l d a.1 i j (omega arith) (omega arith)

-- ---- pairs of neighbours

-- node a stands at least D further left than node b
abbrev pub LeftBy : (ℕ → ℤ) → ℕ → ℕ → ℕ → Type 0
LeftBy spot D a b = (spot a +ℤ pos D) ≤ℤ spot b

-- pair p comes before pair q: its left node is on a higher level, or on the same level and at least D further left
abbrev pub ReadBefore : (ℕ → ℕ) → (ℕ → ℤ) → ℕ → Pair → Pair → Type 0
ReadBefore lev spot D p q = (lev p.0 < lev q.0) ⊎ ((lev p.0 ≡ lev q.0) × LeftBy spot D p.0 q.0)

-- what holds of the nodes of a level holds of the left nodes of its pairs
left-nodes : (P : ℕ → Type 0) (l : List ℕ) → All P l → All (λ q. P q.0) (side_by_side l)
left-nodes P [] h = tt
left-nodes P (a ∷ []) h = tt
left-nodes P (a ∷ b ∷ l) h = (h.0, left-nodes P (b ∷ l) h.1)

module _ (spot : ℕ → ℤ) (D : ℕ) where
  abbrev pub Apart : Pair → Type 0
  Apart p = LeftBy spot D p.0 p.1

  further : (a b c : ℕ) → LeftBy spot D a b → LeftBy spot D b c → LeftBy spot D a c
  further a b c h k =
      parts_le (spot a +ℤ pos D) (spot c)
      (omega (arith, at_most (spot a +ℤ pos D) (spot b) h, at_most (spot b +ℤ pos D) (spot c) k, parts_add (spot a) (pos D), parts_add (spot b) (pos D)))

  -- a level whose neighbours are apart rises from left to right
  pub rising : (l : List ℕ) → All Apart (side_by_side l) → Pairwise (LeftBy spot D) l
  rising [] s = tt
  rising (a ∷ []) s = (tt, tt)
  rising (a ∷ b ∷ l) s =
      let r = rising (b ∷ l) s.1 in
      ((s.0, all-weaken (LeftBy spot D b) (LeftBy spot D a) (λ c. further a b c s.0) l r.0), r)

module _ (lev : ℕ → ℕ) (spot : ℕ → ℤ) (D : ℕ) where
  lower : (i j : ℕ) (ls : List (List ℕ)) → i < j → Leveled lev j ls → All (λ q. i < lev q.0) (flat_map side_by_side ls)
  lower i j [] m h = tt
  lower i j (l ∷ ls) m h =
      all_append (λ q. i < lev q.0) (side_by_side l) (flat_map side_by_side ls)
      (all-weaken (λ q. lev q.0 ≡ j) (λ q. i < lev q.0) (λ q e. omega arith) (side_by_side l) (left-nodes (λ v. lev v ≡ j) l h.0))
      (lower i (suc j) ls (omega arith) h.1)

  one_level : (i : ℕ) (l : List ℕ) → All (λ v. lev v ≡ i) l → Pairwise (LeftBy spot D) l → Pairwise (ReadBefore lev spot D) (side_by_side l)
  one_level i [] h r = tt
  one_level i (a ∷ []) h r = tt
  one_level i (a ∷ b ∷ l) h r = (
    all_both (λ q. lev q.0 ≡ i) (λ q. LeftBy spot D a q.0) (ReadBefore lev spot D (a, b)) (λ q e m. inr (h.0 ∙ sym e, m)) (side_by_side (b ∷ l))
        (left-nodes (λ v. lev v ≡ i) (b ∷ l) h.1) (left-nodes (LeftBy spot D a) (b ∷ l) r.0),
    one_level i (b ∷ l) h.1 r.1,
  )

  levels_in-order : (i : ℕ) (ls : List (List ℕ)) → Leveled lev i ls → All (Apart spot D) (flat_map side_by_side ls) → Pairwise (ReadBefore lev spot D) (flat_map side_by_side ls)
  levels_in-order i [] h s = tt
  levels_in-order i (l ∷ ls) h s =
      let rest = flat_map side_by_side ls in
      pairwise_append (ReadBefore lev spot D) (side_by_side l) rest
      (one_level i l h.0 (rising spot D l (all_left (Apart spot D) (side_by_side l) rest s)))
      (levels_in-order (suc i) ls h.1 (all_right (Apart spot D) (side_by_side l) rest s))
      (all-weaken (λ p. lev p.0 ≡ i) (λ p. All (ReadBefore lev spot D p) rest)
      (λ p e. all-weaken (λ q. i < lev q.0) (ReadBefore lev spot D p) (λ q m. inl (omega arith)) rest (lower i (suc i) ls (omega arith) h.1))
      (side_by_side l) (left-nodes (λ v. lev v ≡ i) l h.0))

  -- no pair comes before itself
  pub not_itself : 1 ≤ D → (p : Pair) → ReadBefore lev spot D p p → ⊥
  not_itself some p (inl above) = omega arith
  not_itself some p (inr beside) = omega (arith, at_most (spot p.0 +ℤ pos D) (spot p.0) beside.1, parts_add (spot p.0) (pos D))

-- Where no two nodes need less than D, neighbours of an accepted table stand at least D apart,
module _ (N : Spacing) (D : ℕ) (least : (a b : ℕ) → D ≤ N.need a b) (t : List ℕ) (accepted : table_number t ≡ 0) where
  pub neighbours-at-least : All (Apart (place N t) D) (neighbours t)
  neighbours-at-least = all-weaken _ _ (λ p h. nearer (place N t p.0) (place N t p.1) (least p.0 p.1) h) (neighbours t) (neighbours-apart N t accepted)
    where
      nearer : {m n : ℕ} (x y : ℤ) → m ≤ n → (x +ℤ pos n) ≤ℤ y → (x +ℤ pos m) ≤ℤ y
      nearer {m} {n} x y k h = parts_le (x +ℤ pos m) y (omega (arith, at_most (x +ℤ pos n) y h, parts_add x (pos n), parts_add x (pos m)))

  -- and their pairs come in reading order
  pub neighbours-read : (d : Pair) (i j : ℕ) → i < j → j < length (neighbours t)
      → ReadBefore (level t) (place N t) D (get_or (neighbours t) i d) (get_or (neighbours t) j d)
  unfolding neighbours
  neighbours-read d =
      pairwise_at (ReadBefore (level t) (place N t) D) (neighbours t) d
      (levels_in-order (level t) (place N t) D 0 (levels (tree_of t)) (accepted-leveled t accepted) neighbours-at-least)
