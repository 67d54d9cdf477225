-- Of what a call of `read_newick` returns. Assumes nothing.
use mathlib.Core.Path.{◌≡◌, sym, ap, ap₂, ◌∙◌, subst, subst⁻¹}
use Prim.Native.Nat.{ℕ, ◌+◌, ◌*◌, ◌≤◌, ◌<◌}
use native.Mathlib.Omega.{arith}
use mathlib.Core.List.{List}
use lib.ListN.{length, get_or, take, drop, get_or-append}
use Rattle.refusal.specs.After.{overwrite}
use Rattle.refusal.proofs.After.{granted-accepted, granted-refused, after-accepted, after-refused, take-overwrite}
use Rattle.lines.specs.Listing.{tape_number}
use Rattle.tree.specs.Forest.{Forest, nil, node, tree_of, size, preorder}
use Rattle.tree.specs.WellFormed.{table_number}
use Rattle.tree.specs.Operations.{number_from, renumbered}
use Rattle.newick.specs.Text.{IsText}
use Rattle.newick.specs.Reading.{tree_read}
use Rattle.newick.specs.Read.{most_bytes, most_nodes, nodes_of, links_of, tapes_of, refusal, Says, Answer, NewickRead}
use Rattle.newick.proofs.Stored.{length-tapes, tape_label}
use Rattle.newick.proofs.Linked.{length-links, links-accepted, links-tree, links-renumbered}
use Rattle.newick.proofs.Numbers.{nodes_text, text_accepted, number-says}

module _ (text table tapes : List ℕ) (r : Answer) (table' tapes' : List ℕ) (call : NewickRead text table tapes r table' tapes') where
  -- its number says what it says of the text
  pub says-returned : Says text (length table) (length tapes) r.number
  says-returned = subst⁻¹ (Says text (length table) (length tapes)) call.number (number-says text (length table) (length tapes))

  -- a refusal leaves n 0 and both slices as they were
  pub refused-returned : (r.number ≡ 0 → ⊥) → (r.nodes ≡ 0) × (table' ≡ table) × (tapes' ≡ tapes)
  refused-returned other =
      let refused : refusal text (length table) (length tapes) ≡ 0 → ⊥ = λ e. other (call.number ∙ e) in (
        call.nodes ∙ granted-refused (refusal text (length table) (length tapes)) (nodes_of text) 0 refused,
        call.table-after ∙ after-refused (refusal text (length table) (length tapes)) (links_of (tree_read text)) table refused,
        call.tapes-after ∙ after-refused (refusal text (length table) (length tapes)) (tapes_of (tree_read text)) tapes refused,
      )

  module _ (tree : Forest) (is : IsText tree text) (short : length text ≤ most_bytes) (few : size tree ≤ most_nodes)
      (in_table : 2 * size tree ≤ length table) (in_tapes : 2 * size tree ≤ length tapes) where
    fewer : size (node is.root is.below nil) ≤ most_nodes
    fewer = subst (λ (f : Forest). size f ≤ most_nodes) is.is-tree few

    -- the text of a tree gives 0, the tree's n, table and tape words, and leaves what lies past them
    pub text_returned : (r.number ≡ 0) × (r.nodes ≡ size tree) × (table' ≡ overwrite (links_of tree) table) × (tapes' ≡ overwrite (tapes_of tree) tapes)
    text_returned =
        let t = text_accepted text (length table) (length tapes) tree is short few in_table in_tapes in (
          call.number ∙ t.0,
          call.nodes ∙ granted-accepted (refusal text (length table) (length tapes)) (nodes_of text) 0 t.0 ∙ nodes_text tree text is,
          call.table-after ∙ after-accepted (refusal text (length table) (length tapes)) (links_of (tree_read text)) table t.0
              ∙ ap (λ (f : Forest). overwrite (links_of f) table) t.1,
          call.tapes-after ∙ after-accepted (refusal text (length table) (length tapes)) (tapes_of (tree_read text)) tapes t.0
              ∙ ap (λ (f : Forest). overwrite (tapes_of f) tapes) t.1,
        )

    -- the table that stands at the slice's start: the table check passes it, it stands for the tree numbered in preorder, and
    -- renumbering it changes no link
    table-returned : take (2 * size tree) table' ≡ links_of tree
    table-returned =
        ap (take (2 * size tree)) text_returned.2
        ∙ take-overwrite (2 * size tree) (links_of tree) table
        (subst⁻¹ (λ (f : Forest). length (links_of f) ≡ 2 * size f) is.is-tree (length-links is.root is.below fewer))

    pub checked-returned : table_number (take (2 * size tree) table') ≡ 0
    checked-returned =
        ap table_number table-returned ∙ subst⁻¹ (λ (f : Forest). table_number (links_of f) ≡ 0) is.is-tree (links-accepted is.root is.below fewer)

    pub tree-returned : tree_of (take (2 * size tree) table') ≡ number_from 0 tree
    tree-returned =
        ap tree_of table-returned
        ∙ subst⁻¹ (λ (f : Forest). tree_of (links_of f) ≡ number_from 0 f) is.is-tree (links-tree is.root is.below fewer)

    pub renumbered-returned : renumbered (take (2 * size tree) table') ≡ take (2 * size tree) table'
    renumbered-returned =
        ap renumbered table-returned
        ∙ subst⁻¹ (λ (f : Forest). renumbered (links_of f) ≡ links_of f) is.is-tree (links-renumbered is.root is.below fewer)
        ∙ sym table-returned

    -- the tape number of node k is the label of the tree's k-th node in preorder
    pub label-returned : (k : ℕ) → k < size tree → tape_number tapes' k ≡ get_or (preorder tree) k 0
    unfolding overwrite
    label-returned k h =
        let stored : (i : ℕ) → i < 2 * size tree → get_or tapes' i 0 ≡ get_or (tapes_of tree) i 0 =
        λ i l. ap (λ (s : List ℕ). get_or s i 0) text_returned.3
        ∙ get_or-append (tapes_of tree) (drop (length (tapes_of tree)) tapes) 0 i (omega (arith, length-tapes tree, l)) in
        ap₂ (λ (x y : ℕ). x + 65536 * y) (stored (2 * k) (omega arith)) (stored (2 * k + 1) (omega arith)) ∙ tape_label tree k h
