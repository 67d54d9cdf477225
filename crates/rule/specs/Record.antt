-- Lists of pairs of nodes: their numbers in a row, as the record holds them; how often a pair occurs; two lists that differ in their order
-- alone.
use Rattle.std.specs.Prelude.{ℕ, ◌+◌, ◌≡◌, cond, ◌&&◌, List, [], ◌∷◌, eqb, length}
use Rattle.tree.specs.Levels.{Pair}

-- the numbers of a list of pairs in a row, two for each pair
abbrev pub flat : List Pair → List ℕ
flat [] = []
flat (p ∷ ps) = p.0 ∷ p.1 ∷ flat ps

-- 1 where the pair is (a, b), else 0
abbrev pub is_pair : ℕ → ℕ → Pair → ℕ
is_pair a b p = cond (eqb a p.0 && eqb b p.1) 1 0

-- how often (a, b) occurs
abbrev pub pair_count : ℕ → ℕ → List Pair → ℕ
pair_count a b [] = 0
pair_count a b (p ∷ ps) = is_pair a b p + pair_count a b ps

-- the same pairs, each as often, in any order
pub record SamePairs (ps qs : List Pair) : Type 0 where
  pub many : length ps ≡ length qs
  pub each : (a b : ℕ) → pair_count a b ps ≡ pair_count a b qs
