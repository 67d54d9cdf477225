-- The number of a table: 0 exactly when no condition holds, and else that of the first that does; and what it says of an operation that
-- tries conditions of its own after the table's. Assumes nothing.
use mathlib.Core.Path.{◌≡◌, refl, sym, ◌∙◌}
use mathlib.Core.Logic.{◌↔◌, ◌⊎◌, inl, inr, ⊎_elim}
use mathlib.Core.Bool.{true, false}
use mathlib.Core.List.{List, ◌++◌}
use Prim.Native.Nat.{ℕ, zero, suc, ◌%◌, ◌<◌, ◌≤◌}
use native.Mathlib.Omega.{arith}
use lib.ListN.{length}
use Rattle.refusal.specs.First.{Condition, first}
use Rattle.refusal.proofs.Laws.{Lacks, NoneHolds, first-refused, first-passed, first-lacks, first-none, none_first}
use Rattle.tree.specs.Table.{nodes}
use Rattle.tree.specs.Forest.{tree_of, size}
use Rattle.tree.specs.WellFormed.{bad_length, bad_entry, root_has_sibling, named_twice, unnamed, not_reached, table_conditions, table_number, Passed}
use Rattle.refusal.proofs.Truth.{true-or-false}
use Rattle.tree.proofs.Accepted.{linked, good_length, reached-size, size-reached}

-- accepted exactly when no condition holds
pub accepted : (t : List ℕ) → table_number t ≡ 0 ↔ NoneHolds (table_conditions t)
unfolding table_number table_conditions
accepted t = (first-none (table_conditions t) (omega arith), none_first (table_conditions t))

-- ---- and then an operation's own conditions

module _ (t : List ℕ) (own : List Condition) where
  pub table-refused : (k : ℕ) → k ≡ table_number t → (k ≡ 0 → ⊥) → first (table_conditions t ++ own) ≡ k
  unfolding table_number
  table-refused k e d = first-refused (table_conditions t) own (λ z. d (e ∙ z)) ∙ sym e

  pub table-passed : table_number t ≡ 0 → first (table_conditions t ++ own) ≡ first own
  table-passed e = first-passed (table_conditions t) own ((accepted t).0 e)

  -- a number that is none of the operation's own is the table's
  pub table_said : (k : ℕ) → Lacks k own → first (table_conditions t ++ own) ≡ k → table_number t ≡ k
  table_said k l e = go (table_number t) refl
    where
      go : (j : ℕ) → j ≡ table_number t → table_number t ≡ k
      go zero h = sym h ∙ (first-lacks own k l (sym (table-passed (sym h)) ∙ e)).1
      go (suc j) h = sym h ∙ sym (table-refused (suc j) h (λ z. omega arith)) ∙ e

-- ---- one by one

pub length-bad : (t : List ℕ) → (length t % 2 ≡ 1) ⊎ ((length t ≡ 0) ⊎ (2048 < length t)) → bad_length t ≡ true
length-bad t h = ⊎_elim (λ e. e) (λ e. absurd (no (good_length t e) h)) (true-or-false (bad_length t))
  where
    no : (length t % 2 ≡ 0) × (0 < length t) × (length t ≤ 2048) → (length t % 2 ≡ 1) ⊎ ((length t ≡ 0) ⊎ (2048 < length t)) → ⊥
    no g (inl e) = omega arith
    no g (inr (inl e)) = omega arith
    no g (inr (inr e)) = omega arith

module _ (t : List ℕ) where
  pub number_1 : bad_length t ≡ true → table_number t ≡ 1
  unfolding table_number table_conditions
  number_1 a = simp a

  pub number_2 : bad_length t ≡ false → bad_entry t ≡ true → table_number t ≡ 2
  unfolding table_number table_conditions
  number_2 a b = simp (a, b)

  pub number_3 : bad_length t ≡ false → bad_entry t ≡ false → root_has_sibling t ≡ true → table_number t ≡ 3
  unfolding table_number table_conditions
  number_3 a b c = simp (a, b, c)

  pub number_4 : bad_length t ≡ false → bad_entry t ≡ false → root_has_sibling t ≡ false → named_twice t ≡ true → table_number t ≡ 4
  unfolding table_number table_conditions
  number_4 a b c d = simp (a, b, c, d)

  pub number_5 : Passed t → unnamed t ≡ true → table_number t ≡ 5
  unfolding table_number table_conditions
  number_5 p e = simp (p.size, p.entries, p.root, p.named, e)

  -- where conditions 1 to 5 do not hold, how many nodes are reached decides
  pub number_14 : Passed t → unnamed t ≡ false → size (tree_of t) < nodes t → table_number t ≡ 14
  unfolding table_number table_conditions
  number_14 p f h =
      let e : not_reached t ≡ true = ⊎_elim (λ e. e) (λ e. absurd (omega (arith, reached-size t (linked t p) e))) (true-or-false (not_reached t)) in
      simp (p.size, p.entries, p.root, p.named, f, e)

  pub number_0 : Passed t → unnamed t ≡ false → size (tree_of t) ≡ nodes t → table_number t ≡ 0
  unfolding table_number table_conditions
  number_0 p f h =
      let e : not_reached t ≡ false = size-reached t (linked t p) h in
      simp (p.size, p.entries, p.root, p.named, f, e)
