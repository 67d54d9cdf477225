-- The answer: the number by what the code tested, and the promise for a refused and for an accepted text. Assumes nothing.
use mathlib.Core.Path.{◌≡◌, refl, sym, ap, ◌∙◌, subst}
use Prim.Native.Nat.{ℕ, ◌*◌, ◌≤◌, ◌<◌}
use native.Mathlib.Omega.{arith}
use mathlib.Core.List.{List, [], ◌∷◌, ◌++◌, append-nil}
use lib.ListN.{length}
use lib.Dec.{eqb, ltb}
use borrow.Author.Tests.{eq-eqb, ne_eqb, eqb-false, lt-ltb, le-ltb, ltb-false}
use Rattle.refusal.specs.After.{overwrite}
use Rattle.refusal.proofs.After.{granted-accepted, granted-refused, after-accepted, after-refused, sets_start}
use Rattle.refusal.proofs.Laws.{first-none}
use Rattle.refusal.specs.Number.{number}
use Rattle.refusal.specs.declared.Refusal.{Refusal}
use Rattle.refusal.proofs.Numbers.{number-nonzero}
use Rattle.std.specs.Prelude.{Ok, Err}
use Rattle.refusal.proofs.Truth.{or-false-left, or-false-right}
use Rattle.tree.specs.Forest.{Forest, nil, node, size}
use Rattle.newick.specs.Text.{comma, semicolon, Labels, subtree_text, list_text, IsText}
use Rattle.newick.specs.Reading.{is_digit, tree_read}
use Rattle.newick.specs.Read.{most_bytes, most_nodes, conditions, nodes_of, links_of, tapes_of, refusal, answer_of, NewickRead}
use Rattle.newick.specs.Steps.{tree_number, rows_from, Stands, Stops, ListHere, ListRead}
use Rattle.newick.specs.declared.rows.Reached.{Reached}
use Rattle.newick.proofs.Shown.{read_text}
use Rattle.newick.proofs.Stored.{length-rows, length-tapes}
use Rattle.newick.proofs.Linked.{rows-links}

-- ---- the number

pub too_long : (text : List ℕ) (t p : ℕ) → most_bytes < length text → refusal text t p ≡ 15
unfolding refusal
too_long text t p h = simp (lt-ltb most_bytes (length text) h)

-- where the text is not too long, its number is that of its nodes
pub number_of : (text : List ℕ) (t p : ℕ) → length text ≤ most_bytes → refusal text t p ≡ tree_number (nodes_of text) t p
unfolding refusal tree_number
number_of text t p short = simp (le-ltb most_bytes (length text) short)

module _ (n t p : ℕ) where
  pub no-tree : n ≡ 0 → tree_number n t p ≡ 15
  unfolding tree_number
  no-tree h = simp (eq-eqb n 0 h)

  module _ (some : n ≡ 0 → ⊥) where
    pub too_many : most_nodes < n → tree_number n t p ≡ 16
    unfolding tree_number
    too_many h = simp (ne_eqb n 0 some, lt-ltb most_nodes n h)

    module _ (few : n ≤ most_nodes) where
      pub short_table : t < 2 * n → tree_number n t p ≡ 7
      unfolding tree_number
      short_table h = simp (ne_eqb n 0 some, le-ltb most_nodes n few, lt-ltb t (2 * n) h)

      module _ (in_table : 2 * n ≤ t) where
        pub short_tapes_lem : p < 2 * n → tree_number n t p ≡ 7
        unfolding tree_number
        short_tapes_lem h = simp (ne_eqb n 0 some, le-ltb most_nodes n few, le-ltb t (2 * n) in_table, lt-ltb p (2 * n) h)

        pub accepted : 2 * n ≤ p → tree_number n t p ≡ 0
        unfolding tree_number
        accepted h = simp (ne_eqb n 0 some, le-ltb most_nodes n few, le-ltb t (2 * n) in_table, le-ltb p (2 * n) h)

-- what 0 says of the nodes
pub record Fits (n t p : ℕ) : Type 0 where
  pub some : n ≡ 0 → ⊥
  pub few : n ≤ most_nodes
  pub in_table : 2 * n ≤ t
  pub in_tapes : 2 * n ≤ p

pub fits_told : (text : List ℕ) (t p : ℕ) → refusal text t p ≡ 0 → Fits (nodes_of text) t p
unfolding refusal
fits_told text t p e =
    let n = nodes_of text in
    let h = first-none (conditions text t p) (omega arith) e in
    let room = h.1.1.0 in
    record {
      some = eqb-false n 0 (or-false-right (ltb most_bytes (length text)) (eqb n 0) h.0);
      few = ltb-false most_nodes n h.1.0;
      in_table = ltb-false t (2 * n) (or-false-left (ltb t (2 * n)) (ltb p (2 * n)) room);
      in_tapes = ltb-false p (2 * n) (or-false-right (ltb t (2 * n)) (ltb p (2 * n)) room);
    }

-- ---- the promise

-- where a text has nodes, it is that of the tree to which it is read
pub text_of : (text : List ℕ) → (nodes_of text ≡ 0 → ⊥) → IsText (tree_read text) text
unfolding nodes_of
text_of text some = read_text text (λ e. some (ap size e))

module _ (text table tapes : List ℕ) where
  pub refused_read : (why : Refusal) → number why ≡ refusal text (length table) (length tapes)
      → NewickRead text table tapes (answer_of (Err why)) table tapes
  refused_read why e =
      let no : refusal text (length table) (length tapes) ≡ 0 → ⊥ = λ z. number-nonzero why (e ∙ z) in
      record {
        number = e;
        nodes = sym (granted-refused (refusal text (length table) (length tapes)) (nodes_of text) 0 no);
        table-after = sym (after-refused (refusal text (length table) (length tapes)) (links_of (tree_read text)) table no);
        tapes-after = sym (after-refused (refusal text (length table) (length tapes)) (tapes_of (tree_read text)) tapes no);
      }

  module _ (fits : Fits (nodes_of text) (length table) (length tapes)) where
    whole : IsText (tree_read text) text
    whole = text_of text fits.some

    abbrev tree : Forest
    tree = node whole.root whole.below nil

    size-tree : nodes_of text ≡ size tree
    unfolding nodes_of
    size-tree = ap size whole.is-tree

    tree-stands : Stands text 0 tree (semicolon ∷ [])
    tree-stands = record {
      here =
          whole.is_text ∙ ap (λ (l : List ℕ). l ++ semicolon ∷ []) (sym (append-nil (subtree_text whole.root whole.below (list_text whole.below))));
      labels = subst Labels whole.is-tree whole.labels;
    }

    semicolon-stops : Stops semicolon
    unfolding is_digit
    semicolon-stops = (refl, eqb-false semicolon comma refl)

    -- the whole tree stands at the text's start, a list of one subtree, with room for it
    pub tree-here : ListHere text 0 0 table tapes
    tree-here = record {
      root = whole.root;
      below = whole.below;
      after = nil;
      byte = semicolon;
      more = [];
      stands = tree-stands;
      stops = semicolon-stops;
      room = record { few = omega (arith, size-tree, fits.few); in_table = omega (arith, size-tree, fits.in_table); in_tapes = omega (arith, size-tree, fits.in_tapes) };
    }

    pub accepted-read : {n : ℕ} {r : Reached} {table' tapes' : List ℕ} → nodes_of text ≡ n → refusal text (length table) (length tapes) ≡ 0
        → ListRead text 0 0 table tapes r table' tapes'
        → NewickRead text table tapes (answer_of (Ok n)) table' tapes'
    accepted-read is e read =
        let got = read whole.root whole.below nil semicolon [] tree-stands semicolon-stops in
        record {
          number = sym e;
          nodes = sym is ∙ sym (granted-accepted (refusal text (length table) (length tapes)) (nodes_of text) 0 e);
          table-after =
              got.table-after
              ∙ sets_start (rows_from 0 tree) table (omega (arith, length-rows 0 tree, size-tree, fits.in_table))
              ∙ ap (λ (l : List ℕ). overwrite l table)
              (rows-links whole.root whole.below (omega (arith, size-tree, fits.few)) ∙ ap links_of (sym whole.is-tree))
              ∙ sym (after-accepted (refusal text (length table) (length tapes)) (links_of (tree_read text)) table e);
          tapes-after =
              got.tapes-after
              ∙ sets_start (tapes_of tree) tapes (omega (arith, length-tapes tree, size-tree, fits.in_tapes))
              ∙ ap (λ (l : List ℕ). overwrite l tapes) (ap tapes_of (sym whole.is-tree))
              ∙ sym (after-accepted (refusal text (length table) (length tapes)) (tapes_of (tree_read text)) tapes e);
        }
