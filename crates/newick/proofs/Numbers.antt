-- What the numbers say: just the texts of the grammar are read, each in a single way, and a refusal has its number's reason alone.
-- Assumes nothing.
use mathlib.Core.Path.{◌≡◌, refl, sym, ap, ◌∙◌, subst⁻¹}
use mathlib.Core.Logic.{inl, inr, ⊎_elim}
use Prim.Native.Nat.{ℕ, ◌*◌, ◌≤◌}
use native.Mathlib.Omega.{arith}
use mathlib.Core.List.{List}
use lib.ListN.{length}
use Rattle.lines.proofs.Decimal.{split}
use Rattle.tree.specs.Forest.{Forest, size}
use Rattle.tree.proofs.Counting.{is-cases}
use Rattle.newick.specs.Text.{IsText}
use Rattle.newick.specs.Reading.{tree_read}
use Rattle.newick.specs.Read.{most_bytes, most_nodes, nodes_of, refusal, Says, no_text, too_large, too_short, taken}
use Rattle.newick.specs.Steps.{tree_number}
use Rattle.newick.proofs.Exact.{text_read}
use Rattle.newick.proofs.Answer.{too_long, number_of, no-tree, too_many, short_table, short_tapes_lem, accepted, text_of}

-- the nodes of a text are those of its tree
pub nodes_text : (tree : Forest) (text : List ℕ) → IsText tree text → nodes_of text ≡ size tree
unfolding nodes_of
nodes_text tree text t = ap size (text_read tree text t)

-- a tree has some node
some-node : (tree : Forest) (text : List ℕ) → IsText tree text → size tree ≡ 0 → ⊥
some-node tree text t e = absurd (omega (arith, e, ap size t.is-tree))

module _ (text : List ℕ) (t p : ℕ) where
  -- every text of a tree that is small enough is accepted, and read to that tree
  pub text_accepted : (tree : Forest) → IsText tree text → length text ≤ most_bytes → size tree ≤ most_nodes → 2 * size tree ≤ t → 2 * size tree ≤ p
      → (refusal text t p ≡ 0) × (tree_read text ≡ tree)
  text_accepted tree is short few in_table in_tapes =
      let n = nodes_text tree text is in (
        number_of text t p short
            ∙ accepted (nodes_of text) t p (λ e. some-node tree text is (sym n ∙ e)) (omega (arith, n, few)) (omega (arith, n, in_table)) (omega (arith, n, in_tapes)),
        text_read tree text is,
      )

  -- the number that reading gives says what it says of the text
  module _ (short : length text ≤ most_bytes) where
    says : (k : ℕ) → tree_number (nodes_of text) t p ≡ k → Says text t p k → Says text t p (refusal text t p)
    says k e s = subst⁻¹ (Says text t p) (number_of text t p short ∙ e) s

    module _ (some : nodes_of text ≡ 0 → ⊥) where
      n : nodes_of text ≡ size (tree_read text)
      unfolding nodes_of
      n = refl

      with_room : nodes_of text ≤ most_nodes → 2 * nodes_of text ≤ t → Says text t p (refusal text t p)
      with_room few in_table =
          split (2 * nodes_of text) p
          (λ h. says 0 (accepted (nodes_of text) t p some few in_table h)
          (taken (text_of text some) short (omega (arith, n, few)) (omega (arith, n, in_table)) (omega (arith, n, h))))
          (λ h. says 7 (short_tapes_lem (nodes_of text) t p some few in_table h)
          (too_short (tree_read text) (text_of text some) short (omega (arith, n, few)) (inr (omega (arith, n, h)))))

      of_tree : Says text t p (refusal text t p)
      of_tree =
          split (nodes_of text) most_nodes
          (λ few. split (2 * nodes_of text) t (with_room few)
          (λ h. says 7 (short_table (nodes_of text) t p some few h)
          (too_short (tree_read text) (text_of text some) short (omega (arith, n, few)) (inl (omega (arith, n, h))))))
          (λ h. says 16 (too_many (nodes_of text) t p some h) (too_large (tree_read text) (text_of text some) short (omega (arith, n, h))))

    of_short : Says text t p (refusal text t p)
    of_short =
        ⊎_elim
        (λ e. says 15 (no-tree (nodes_of text) t p e.0) (no_text (λ tree is s. some-node tree text is (sym (nodes_text tree text is) ∙ e.0))))
        (λ e. of_tree e.0)
        (is-cases (nodes_of text) 0)

  pub number-says : Says text t p (refusal text t p)
  number-says =
      split (length text) most_bytes of_short
      (λ h. subst⁻¹ (Says text t p) (too_long text t p h) (no_text (λ tree is s. absurd (omega (arith, s, h)))))
