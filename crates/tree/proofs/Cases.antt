-- The paper's sheets P8 to P11, the three nodes of which two name each other, a ring beside a stray and a ring beside a whole tree: one list
-- of tables with their numbers, checked by one computation of the definitions. Assumes nothing.
use mathlib.Core.Path.{◌≡◌, refl}
use mathlib.Core.Bool.{Bool, false, not}
use mathlib.Core.List.{List, [], ◌∷◌}
use Prim.Native.Nat.{ℕ}
use lib.Dec.{eqb}
use borrow.Author.Tests.{eqb-true, not-false}
use Rattle.tree.specs.Numbers.{any}
use Rattle.tree.specs.Table.{none}
use Rattle.tree.specs.Forest.{forest, tree_of}
use Rattle.tree.specs.WellFormed.{bad_length, bad_entry, root_has_sibling, named_twice, unnamed, not_reached, table_conditions, table_number}
use Rattle.tree.proofs.Counting.{All}
use Rattle.tree.proofs.Tests.{any_false}

-- a table and its number
abbrev pub Case : Type 0
Case = List ℕ × ℕ

abbrev pub cases : List Case
cases =
    ([], 1)
    ∷ (none ∷ 1 ∷ none ∷ none ∷ [], 3)
    ∷ (0 ∷ none ∷ [], 4)
    ∷ (none ∷ none ∷ none ∷ none ∷ [], 5)
    ∷ (none ∷ none ∷ 2 ∷ none ∷ 1 ∷ none ∷ [], 14)
    ∷ (none ∷ none ∷ 1 ∷ none ∷ none ∷ none ∷ [], 5)
    ∷ (1 ∷ none ∷ none ∷ none ∷ none ∷ 3 ∷ 2 ∷ none ∷ [], 14)
    ∷ []

abbrev wrong : Case → Bool
wrong c = not (eqb (table_number c.0) c.1)

computed : any wrong cases ≡ false
unfolding table_number table_conditions bad_length bad_entry root_has_sibling named_twice unnamed not_reached tree_of forest
computed = refl

-- each table of the list has its number
pub cases_hold : All (λ (c : Case). table_number c.0 ≡ c.1) cases
cases_hold = each cases (any_false wrong cases computed)
  where
    each : (l : List Case) → All (λ c. wrong c ≡ false) l → All (λ (c : Case). table_number c.0 ≡ c.1) l
    each [] a = tt
    each (c ∷ l) a = (eqb-true (table_number c.0) c.1 (not-false _ a.0), each l a.1)

pub P8 : table_number [] ≡ 1
P8 = cases_hold.0

pub P9 : table_number (none ∷ 1 ∷ none ∷ none ∷ []) ≡ 3
P9 = cases_hold.1.0

pub P10 : table_number (0 ∷ none ∷ []) ≡ 4
P10 = cases_hold.1.1.0

pub P11 : table_number (none ∷ none ∷ none ∷ none ∷ []) ≡ 5
P11 = cases_hold.1.1.1.0
