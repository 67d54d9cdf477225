-- Of what a call of `small_tree` returns. Assumes nothing.
use mathlib.Core.Path.{◌≡◌, sym, ap, ap₂, ◌∙◌, subst⁻¹}
use mathlib.Core.List.{List}
use Prim.Native.Nat.{ℕ, ◌-◌, ◌*◌, ◌≤◌, ◌<◌}
use native.Mathlib.Omega.{arith}
use lib.ListN.{length, get_or, take}
use Rattle.refusal.specs.After.{overwrite}
use Rattle.refusal.proofs.After.{after-accepted, after-refused, take-overwrite}
use Rattle.tree.specs.Numbers.{up_to, run}
use Rattle.tree.specs.Table.{nodes}
use Rattle.tree.specs.Forest.{tree_of, preorder, table_of}
use Rattle.tree.specs.WellFormed.{table_number}
use Rattle.tree.specs.Operations.{number_from, renumbered, old_numbers}
use Rattle.tree.proofs.Renumbered.{run-up_to, preorder-number_from}
use Rattle.tree.proofs.Stands.{numbers-size}
use Rattle.tree.proofs.TableOf.{table_of-accepted, table_of-tree, nodes-table_of}
use Rattle.small_trees.specs.Sequence.{level_sequence, levels_from}
use Rattle.small_trees.specs.SmallTrees.{tree_count, sequence_at, tree_at, most_nodes, refusal, Says, SmallTree, counts}
use Rattle.small_trees.proofs.AllComplete.{at-sequence, at-levels, one_place, all-complete}
use Rattle.small_trees.proofs.Rows.{numbered}
use Rattle.small_trees.proofs.Numbers.{number_0, number-says, accepted}
use Rattle.small_trees.proofs.Answer.{at-numbers, length_at}
use Rattle.small_trees.proofs.Tables.{sequence-table, one_table}

module _ (n place : ℕ) (table : List ℕ) (k : ℕ) (table' : List ℕ) (call : SmallTree n place table k table') where
  -- its number says what it says of n, the place and the output
  pub says-returned : Says n place (length table) k
  says-returned = subst⁻¹ (Says n place (length table)) call.number (number-says n place (length table))

  -- a refusal changes nothing
  pub refused-returned : (k ≡ 0 → ⊥) → table' ≡ table
  refused-returned other =
      call.table-after ∙ after-refused (refusal n place (length table)) (table_of n (tree_at n place)) table (λ z. other (call.number ∙ z))

  module _ (some : 1 ≤ n) (few : n ≤ most_nodes) (room : 2 * n ≤ length table) where
    -- where n and the output are right, just the places below 1, 1, 2, 5, 14, 42, 132 and 429 are taken
    pub count-returned : (k ≡ 0 → place < get_or counts (n - 1) 0) × (place < get_or counts (n - 1) 0 → k ≡ 0)
    count-returned =
        let c = (all-complete n some few).count in (
          λ z. omega (arith, c, (accepted n place (length table) (sym call.number ∙ z)).2),
          λ h. call.number ∙ number_0 n place (length table) some few (omega (arith, c)) room,
        )

    module _ (within : place < tree_count n) where
      pub tree-returned : (k ≡ 0) × (table' ≡ overwrite (table_of n (tree_at n place)) table)
      tree-returned =
          let ok = number_0 n place (length table) some few within room in
          (call.number ∙ ok, call.table-after ∙ after-accepted (refusal n place (length table)) (table_of n (tree_at n place)) table ok)

      -- what stands at the output's start
      pub table-returned : take (2 * n) table' ≡ table_of n (tree_at n place)
      table-returned =
          ap (take (2 * n)) tree-returned.1 ∙ take-overwrite (2 * n) (table_of n (tree_at n place)) table (length_at n place few within)

      -- the table check passes it
      pub checked-returned : table_number (take (2 * n) table') ≡ 0
      checked-returned = ap table_number table-returned ∙ table_of-accepted n (tree_at n place) (at-numbers n place few within)

      same-tree : tree_of (take (2 * n) table') ≡ tree_at n place
      same-tree = ap tree_of table-returned ∙ table_of-tree n (tree_at n place) (at-numbers n place few within)

      -- its levels in Renumber's order are the sequence at that place
      pub sequence-returned : level_sequence (take (2 * n) table') ≡ sequence_at n place
      sequence-returned = sequence-table (take (2 * n) table') checked-returned ∙ ap (levels_from 0) same-tree ∙ at-levels n place within

      as_numbered : number_from 0 (tree_at n place) ≡ tree_at n place
      unfolding tree_at
      as_numbered = numbered (sequence_at n place) (at-sequence n place within)

      -- renumbering it changes no link, and the map gives each number itself
      pub renumbered-returned : renumbered (take (2 * n) table') ≡ take (2 * n) table'
      unfolding renumbered
      renumbered-returned =
          ap₂ table_of (ap nodes table-returned ∙ nodes-table_of n (tree_at n place) (at-numbers n place few within))
          (ap (number_from 0) same-tree ∙ as_numbered)
          ∙ sym table-returned

      pub map-returned : old_numbers (take (2 * n) table') ≡ up_to n
      unfolding old_numbers
      map-returned =
          ap preorder (same-tree ∙ sym as_numbered)
          ∙ preorder-number_from 0 (tree_at n place)
          ∙ ap (run 0) (numbers-size n (tree_at n place) (at-numbers n place few within))
          ∙ sym (run-up_to n)

-- calls at two places return two tables
pub apart-returned : (n p q : ℕ) (table other : List ℕ) (k j : ℕ) (table' other' : List ℕ)
    → SmallTree n p table k table' → SmallTree n q other j other' → k ≡ 0 → j ≡ 0 → take (2 * n) table' ≡ take (2 * n) other' → p ≡ q
apart-returned n p q table other k j table' other' call call' z z' same =
    let a = accepted n p (length table) (sym call.number ∙ z) in
    let b = accepted n q (length other) (sym call'.number ∙ z') in
    one_place n p q a.2 b.2
    (sym (sequence-returned n p table k table' call a.0 a.1 a.3 a.2)
    ∙ ap level_sequence same
    ∙ sequence-returned n q other j other' call' b.0 b.1 b.3 b.2)

-- every accepted table of 1 to 8 nodes, renumbered, is what a call at one place returns
pub every-returned : (t : List ℕ) → table_number t ≡ 0 → 1 ≤ nodes t → nodes t ≤ most_nodes
    → (place : ℕ) × ((table : List ℕ) (k : ℕ) (table' : List ℕ) → SmallTree (nodes t) place table k table' → 2 * nodes t ≤ length table
    → (k ≡ 0) × (take (2 * nodes t) table' ≡ renumbered t))
every-returned t e some few =
    let o = one_table t e few in (
      o.place,
      λ table k table' call room. (
        (tree-returned (nodes t) o.place table k table' call some few room o.within).0,
        table-returned (nodes t) o.place table k table' call some few room o.within ∙ o.table,
      ),
    )
