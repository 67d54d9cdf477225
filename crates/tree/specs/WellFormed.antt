-- The conditions under which a tree table is refused, in the paper's order. A table is well-formed if none holds.
use Rattle.std.specs.Prelude.{ℕ, ◌%◌, ◌<◌, ◌≡◌, Bool, false, ◌||◌, ◌&&◌, not, List, [], ◌∷◌, eqb, ltb, length}
use Rattle.refusal.specs.First.{Condition, ◌⇐◌, first}
use Rattle.tree.specs.Numbers.{up_to, count, any, member}
use Rattle.tree.specs.Table.{none, nodes, first_child, next_sibling}
use Rattle.tree.specs.Forest.{tree_of, preorder}

-- 1: the length is odd, 0, or above 2,048
unfoldable pub bad_length : List ℕ → Bool
bad_length t = eqb (length t % 2) 1 || eqb (length t) 0 || ltb 2048 (length t)

-- 2: an entry is neither 65,535 nor below n
unfoldable pub bad_entry : List ℕ → Bool
bad_entry t = any (λ e. not (eqb e none) && not (ltb e (nodes t))) t

-- 3: node 0 has a next sibling
unfoldable pub root_has_sibling : List ℕ → Bool
root_has_sibling t = not (eqb (next_sibling t 0) none)

-- 4: some node is named by more than one entry, or node 0 by any
unfoldable pub named_twice : List ℕ → Bool
named_twice t = any (λ v. ltb 1 (count v t)) (up_to (nodes t)) || ltb 0 (count 0 t)

-- 5: some node other than 0 is named by no entry
unfoldable pub unnamed : List ℕ → Bool
unnamed t = any (λ v. not (eqb v 0) && eqb (count v t) 0) (up_to (nodes t))

-- One step: node v names node w as its first child or its next sibling.
pub data Step (t : List ℕ) (v w : ℕ) : Type 0 where
  to_first_child : first_child t v ≡ w → w < nodes t → Step t v w
  to_next_sibling : next_sibling t v ≡ w → w < nodes t → Step t v w

-- Node w is reached from node v: it is node v, or one step leads to it from a node that is reached.
pub data Reached (t : List ℕ) (v : ℕ) : ℕ → Type 0 where
  at-start : Reached t v v
  by-step : {u w : ℕ} → Reached t v u → Step t u w → Reached t v w

-- 14, after 5: some node is not reached from node 0. The tree read off the table has just the nodes that are reached (`reached-exactly` of
-- proofs/Reached.antt), and then there is a ring (`ring_exactly` of proofs/Rings.antt).
unfoldable pub not_reached : List ℕ → Bool
not_reached t = any (λ v. not (member v (preorder (tree_of t)))) (up_to (nodes t))

-- A ring: a node that is reached from itself by one or more steps, and that node 0 does not reach.
pub record Ring (t : List ℕ) : Type 0 where
  pub node : ℕ
  pub next : ℕ
  pub leaves : Step t node next
  pub returns : Reached t next node
  pub apart : Reached t 0 node → ⊥

unfoldable pub table_conditions : List ℕ → List Condition
table_conditions t =
    1 ⇐ bad_length t
    ∷ 2 ⇐ bad_entry t
    ∷ 3 ⇐ root_has_sibling t
    ∷ 4 ⇐ named_twice t
    ∷ 5 ⇐ unnamed t
    ∷ 14 ⇐ not_reached t
    ∷ []

-- the number of a table: 0 where it is well-formed
unfoldable pub table_number : List ℕ → ℕ
table_number t = first (table_conditions t)

-- conditions 1 to 4 do not hold
pub record Passed (t : List ℕ) : Type 0 where
  pub size : bad_length t ≡ false
  pub entries : bad_entry t ≡ false
  pub root : root_has_sibling t ≡ false
  pub named : named_twice t ≡ false
