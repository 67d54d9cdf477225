-- What a call gives, from what its steps give. Assumes nothing.
use mathlib.Core.Path.{◌≡◌, sym, ap, ◌∙◌, subst⁻¹}
use mathlib.Core.List.{List, ◌++◌}
use Prim.Native.Nat.{ℕ, ◌*◌, ◌≤◌, ◌<◌}
use native.Mathlib.Omega.{arith}
use lib.ListN.{length, take, drop}
use lib.Seq.{length-take-le}
use Rattle.refusal.proofs.After.{after-accepted, after-refused, overwrite-split}
use Rattle.tree.specs.Forest.{table_of}
use Rattle.tree.proofs.TableOf.{length-table_of}
use Rattle.tree.proofs.Stands.{Numbers}
use Rattle.small_trees.specs.Sequence.{tree_of_levels}
use Rattle.small_trees.specs.SmallTrees.{tree_count, sequence_at, tree_at, most_nodes, refusal, SmallTree}
use Rattle.small_trees.specs.Steps.{InList, Linkable}
use Rattle.small_trees.proofs.AllComplete.{at-sequence, at_length}
use Rattle.small_trees.proofs.Rows.{tree_of-numbers}
use Rattle.small_trees.proofs.Numbers.{accepted}

-- ---- the levels and then the links

module _ (place : ℕ) (levels table : List ℕ) (L : InList place levels) (room : length table ≡ 2 * length levels) where
  pub stored_linkable : (levels' : List ℕ) → levels' ≡ sequence_at (length levels) place → Linkable levels' table
  stored_linkable levels' e =
      let same = at_length (length levels) place L.within in
      subst⁻¹ (λ (l : List ℕ). Linkable l table) e
      (record { sequence = at-sequence (length levels) place L.within; few = omega (arith, same, L.few); room = omega (arith, same, room) })

  pub stored-table : (levels' table' : List ℕ) → levels' ≡ sequence_at (length levels) place → table' ≡ table_of (length levels') (tree_of_levels levels')
      → table' ≡ table_of (length levels) (tree_at (length levels) place)
  unfolding tree_at
  stored-table levels' table' e f =
      f ∙ ap (λ (l : List ℕ). table_of (length l) (tree_of_levels l)) e
      ∙ ap (λ (n : ℕ). table_of n (tree_of_levels (sequence_at (length levels) place))) (at_length (length levels) place L.within)

-- ---- the table at a place

module _ (n place : ℕ) (few : n ≤ most_nodes) (within : place < tree_count n) where
  pub at-numbers : Numbers n (tree_at n place)
  unfolding tree_at
  at-numbers =
      let same = at_length n place within in
      subst⁻¹ (λ (k : ℕ). Numbers k (tree_of_levels (sequence_at n place))) (sym same)
      (tree_of-numbers (sequence_at n place) (at-sequence n place within) (omega (arith, same)))

  pub length_at : length (table_of n (tree_at n place)) ≡ 2 * n
  length_at = length-table_of n (tree_at n place) at-numbers

-- ---- the call

module _ (n place : ℕ) (table : List ℕ) where
  pub call-refused : (k : ℕ) → k ≡ refusal n place (length table) → (k ≡ 0 → ⊥) → SmallTree n place table k table
  call-refused k e other = record {
    number = e;
    table-after = sym (after-refused (refusal n place (length table)) (table_of n (tree_at n place)) table (λ z. other (e ∙ z)));
  }

  module _ (ok : refusal n place (length table) ≡ 0) where
    pub call-listed : (levels : List ℕ) → length levels ≡ 8 → InList place (take n levels)
    call-listed levels e =
        let a = accepted n place (length table) ok in
        let size : length (take n levels) ≡ n = length-take-le n levels (omega (arith, a.1)) in
        record { few = omega (arith, size, a.1); within = subst⁻¹ (λ (k : ℕ). place < tree_count k) size a.2 }

    pub call-accepted : (stored : List ℕ) → stored ≡ table_of n (tree_at n place) → SmallTree n place table 0 (stored ++ drop (2 * n) table)
    call-accepted stored e =
        let a = accepted n place (length table) ok in
        record {
          number = sym ok;
          table-after =
              ap (λ (l : List ℕ). l ++ drop (2 * n) table) e
              ∙ sym (overwrite-split (2 * n) (table_of n (tree_at n place)) table (length_at n place a.1 a.2))
              ∙ sym (after-accepted (refusal n place (length table)) (table_of n (tree_at n place)) table ok);
        }
