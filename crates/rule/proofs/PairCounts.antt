-- How often a pair occurs in a list of pairs, and how many pairs of neighbours levels have. Assumes nothing.
use mathlib.Core.Path.{◌≡◌, refl, sym, ap, ap₂}
use mathlib.Core.Logic.{◌⊎◌, inl, inr, ⊎_elim}
use mathlib.Core.Bool.{Bool, true, false, cond, ◌&&◌}
use mathlib.Core.List.{List, [], ◌∷◌, ◌++◌}
use Prim.Native.Nat.{ℕ, suc, ◌+◌, ◌≤◌, ◌<◌}
use native.Mathlib.Omega.{arith}
use lib.Dec.{eqb}
use lib.ListN.{length, get_or, length-append}
use borrow.Author.Tests.{eq-eqb, eqb-true}
use Rattle.tree.specs.Numbers.{is, count}
use Rattle.tree.specs.Levels.{Pair, together, side_by_side}
use Rattle.tree.proofs.Counting.{All, sum_over, count-append}
use Rattle.tree.proofs.Joined.{Some, some}
use Rattle.rule.specs.Record.{is_pair, pair_count}
use Rattle.rule.proofs.Pairs.{pairs_in}

pub is_pair_lem : (a b : ℕ) → is_pair a b (a, b) ≡ 1
is_pair_lem a b = ap₂ (λ (x y : Bool). cond (x && y) 1 0) (eq-eqb a a refl) (eq-eqb b b refl)

-- either the pair is (a, b), or it does not count
pub pair_cases : (a b : ℕ) (p : Pair) → ((a ≡ p.0) × (b ≡ p.1)) ⊎ (is_pair a b p ≡ 0)
pair_cases a b p = go (eqb a p.0) (eqb b p.1) refl refl
  where
    go : (x y : Bool) → eqb a p.0 ≡ x → eqb b p.1 ≡ y → ((a ≡ p.0) × (b ≡ p.1)) ⊎ (is_pair a b p ≡ 0)
    go true true e f = inl (eqb-true a p.0 e, eqb-true b p.1 f)
    go true false e f = inr (ap₂ (λ (x y : Bool). cond (x && y) 1 0) e f)
    go false y e f = inr (ap (λ (x : Bool). cond (x && eqb b p.1) 1 0) e)

pub pair_count-sum : (a b : ℕ) (l : List Pair) → pair_count a b l ≡ sum_over (is_pair a b) l
pair_count-sum a b [] = refl
pair_count-sum a b (p ∷ l) = omega (arith, pair_count-sum a b l)

pub length-sum : (l : List Pair) → length l ≡ sum_over (λ p. 1) l
length-sum [] = refl
length-sum (p ∷ l) = omega (arith, length-sum l)

pub pair_count-append : (a b : ℕ) (l m : List Pair) → pair_count a b (l ++ m) ≡ pair_count a b l + pair_count a b m
pair_count-append a b [] m = omega arith
pair_count-append a b (p ∷ l) m = omega (arith, pair_count-append a b l m)

-- a pair that occurs has an index
pub pair_index : (x y : ℕ) (ps : List Pair) (d : Pair) → 1 ≤ pair_count x y ps → (i : ℕ) × (i < length ps) × (get_or ps i d ≡ (x, y))
pair_index x y [] d c = absurd (omega arith)
pair_index x y (p ∷ ps) d c =
    ⊎_elim (λ e. (0, omega arith, sym (λ i. (e.0 i, e.1 i))))
    (λ e. let m = pair_index x y ps d (omega (arith, e, c)) in (suc m.0, omega (arith, m.1), m.2))
    (pair_cases x y p)

-- a pair on a level takes up one occurrence of its left node
pair_le : (a b : ℕ) (p : Pair) → is_pair a b p ≤ is a p.0
pair_le a b p = go (eqb a p.0) (eqb b p.1)
  where
    go : (x y : Bool) → cond (x && y) 1 0 ≤ cond {A = ℕ} x 1 0
    go true true = omega arith
    go true false = omega arith
    go false y = omega arith

level-once : (a b : ℕ) (l : List ℕ) → pair_count a b (side_by_side l) ≤ count a l
level-once a b [] = omega arith
level-once a b (x ∷ []) = omega arith
level-once a b (x ∷ y ∷ l) = omega (arith, pair_le a b (x, y), level-once a b (y ∷ l))

pub levels-once : (a b : ℕ) (ls : List (List ℕ)) → pair_count a b (pairs_in ls) ≤ count a (together ls)
levels-once a b [] = omega arith
levels-once a b (l ∷ ls) =
    omega (arith, levels-once a b ls, level-once a b l, pair_count-append a b (side_by_side l) (pairs_in ls), count-append a l (together ls))

level-pairs : (l : List ℕ) → Some l → length (side_by_side l) + 1 ≡ length l
level-pairs [] h = elim h [ ]
level-pairs (x ∷ []) h = refl
level-pairs (x ∷ y ∷ l) h = omega (arith, level-pairs (y ∷ l) some)

pub levels-pairs : (ls : List (List ℕ)) → All Some ls → length (pairs_in ls) + length ls ≡ length (together ls)
levels-pairs [] a = refl
levels-pairs (l ∷ ls) a =
    omega (arith, levels-pairs ls a.1, level-pairs l a.0, length-append (side_by_side l) (pairs_in ls), length-append l (together ls))
