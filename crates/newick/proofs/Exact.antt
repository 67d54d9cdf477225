-- A tree's text is read to the tree. With what `Shown` proves, just the texts of trees are read, each in a single way. Assumes nothing.
use mathlib.Core.Path.{◌≡◌, refl, sym, ap, ◌∙◌, subst}
use Prim.Native.Nat.{ℕ, ◌+◌, ◌-◌, ◌*◌, ◌/◌, ◌%◌, ◌≤◌, ◌<◌}
use native.Mathlib.Omega.{arith}
use mathlib.Core.Bool.{true}
use mathlib.Core.List.{List, [], ◌∷◌, ◌++◌, append_assoc, append-nil}
use lib.Seq.{append_snoc}
use borrow.Author.Tests.{ne_eqb, le-leb}
use Rattle.lines.specs.Decimal.{zero_byte, digit, decimal}
use Rattle.lines.proofs.Decimal.{by-tens, decimal-small, decimal-large}
use Rattle.tree.specs.Forest.{Forest, nil, node, join}
use Rattle.tree.proofs.Joined.{join_assoc}
use Rattle.newick.specs.Text.{opening, closing, comma, semicolon, most_label, Labels, subtree_text, list_text, IsText}
use Rattle.newick.specs.Reading.{Reading, due, closed, label, is_digit, next, reading, whole, tree_read}
use Rattle.newick.proofs.Digits.{is_digit_lem, digit_low}

reading-append : (state : Reading) (a b : List ℕ) → reading state (a ++ b) ≡ reading (reading state a) b
unfolding reading
reading-append state [] b = refl
reading-append state (byte ∷ a) b = reading-append (next state byte) a b

reading-one : (state : Reading) (byte : ℕ) → reading state (byte ∷ []) ≡ next state byte
unfolding reading
reading-one state byte = refl

-- ---- a label

first-due : (rows : List Forest) (byte : ℕ) → is_digit byte ≡ true → next (due rows) byte ≡ label rows nil (byte - zero_byte)
unfolding next
first-due rows byte h =
    let low = digit_low byte h in
    simp (ne_eqb byte opening (omega arith), h)

first-closed : (rows : List Forest) (below : Forest) (byte : ℕ) → is_digit byte ≡ true → next (closed rows below) byte ≡ label rows below (byte - zero_byte)
unfolding next
first-closed rows below byte h = simp h

further-digit : (rows : List Forest) (below : Forest) (v byte : ℕ) → is_digit byte ≡ true → 1 ≤ v → 10 * v + (byte - zero_byte) ≤ most_label
    → next (label rows below v) byte ≡ label rows below (10 * v + (byte - zero_byte))
unfolding next
further-digit rows below v byte h some fits = simp (h, ne_eqb v 0 (omega arith), le-leb (10 * v + (byte - zero_byte)) most_label fits)

-- a number's digits where a label is due
label-read : (rows : List Forest) (below : Forest) (state : Reading)
    → ((byte : ℕ) → is_digit byte ≡ true → next state byte ≡ label rows below (byte - zero_byte))
    → (v : ℕ) → v ≤ most_label → reading state (decimal v) ≡ label rows below v
label-read rows below state starts = by-tens (λ v. v ≤ most_label → reading state (decimal v) ≡ label rows below v) small large
  where
    small : (v : ℕ) → v < 10 → v ≤ most_label → reading state (decimal v) ≡ label rows below v
    small v h fits =
        ap (reading state) (decimal-small v h)
        ∙ reading-one state (digit v)
        ∙ starts (digit v) (is_digit_lem (digit v) (omega arith) (omega arith))
        ∙ ap (label rows below) (omega arith)

    large : (v : ℕ) → 10 ≤ v → (v / 10 ≤ most_label → reading state (decimal (v / 10)) ≡ label rows below (v / 10))
        → v ≤ most_label → reading state (decimal v) ≡ label rows below v
    large v h before fits =
        ap (reading state) (decimal-large v h)
        ∙ reading-append state (decimal (v / 10)) (digit (v % 10) ∷ [])
        ∙ ap (λ (s : Reading). reading s (digit (v % 10) ∷ [])) (before (omega arith))
        ∙ reading-one (label rows below (v / 10)) (digit (v % 10))
        ∙ further-digit rows below (v / 10) (digit (v % 10)) (is_digit_lem (digit (v % 10)) (omega arith) (omega arith)) (omega arith) (omega arith)
        ∙ ap (label rows below) (omega arith)

-- ---- subtrees and lists

-- a list is read up to its closing bracket, behind the subtrees of `row`
abbrev Reads : Forest → Type 0
Reads nil = Unit
Reads (node v below after) =
    (rows : List Forest) (row : Forest)
    → reading (due (row ∷ rows)) (list_text (node v below after) ++ closing ∷ []) ≡ closed rows (join row (node v below after))

subtree-read : (v : ℕ) (below : Forest) → v ≤ most_label → Reads below → (rows : List Forest)
    → reading (due rows) (subtree_text v below (list_text below)) ≡ label rows below v
unfolding reading next
subtree-read v nil fits list rows = label-read rows nil (due rows) (first-due rows) v fits
subtree-read v (node w f g) fits list rows =
    ap (reading (due (nil ∷ rows))) (sym (append_snoc (list_text (node w f g)) closing (decimal v)))
    ∙ reading-append (due (nil ∷ rows)) (list_text (node w f g) ++ closing ∷ []) (decimal v)
    ∙ ap (λ (s : Reading). reading s (decimal v)) (list rows nil)
    ∙ label-read rows (node w f g) (closed rows (node w f g)) (first-closed rows (node w f g)) v fits

-- a subtree, and what comes after it
subtree_then : (v : ℕ) (below : Forest) → v ≤ most_label → Reads below → (rows : List Forest) (more : List ℕ)
    → reading (due rows) (subtree_text v below (list_text below) ++ more) ≡ reading (label rows below v) more
subtree_then v below fits list rows more =
    reading-append (due rows) (subtree_text v below (list_text below)) more ∙ ap (λ (s : Reading). reading s more) (subtree-read v below fits list rows)

list_read : (f : Forest) → Labels f → Reads f
unfolding reading next is_digit
list_read nil l = tt
list_read (node v below nil) l =
    λ rows row. ap (λ (t : List ℕ). reading (due (row ∷ rows)) (t ++ closing ∷ [])) (append-nil (subtree_text v below (list_text below)))
    ∙ subtree_then v below l.0 (list_read below l.1.0) (row ∷ rows) (closing ∷ [])
list_read (node v below (node w f g)) l =
    λ rows row. ap (reading (due (row ∷ rows))) (append_assoc (subtree_text v below (list_text below)) (comma ∷ list_text (node w f g)) (closing ∷ []))
    ∙ subtree_then v below l.0 (list_read below l.1.0) (row ∷ rows) (comma ∷ (list_text (node w f g) ++ closing ∷ []))
    ∙ list_read (node w f g) l.1.1 rows (join row (node v below nil))
    ∙ ap (closed rows) (join_assoc row (node v below nil) (node w f g))

-- ---- the tree of a text

-- a tree's text is read to the tree
pub text_read : (tree : Forest) (text : List ℕ) → IsText tree text → tree_read text ≡ tree
unfolding tree_read reading next is_digit
text_read tree text t =
    let l = subst Labels t.is-tree t.labels in
    ap tree_read t.is_text
    ∙ ap whole (subtree_then t.root t.below l.0 (list_read t.below l.1.0) [] (semicolon ∷ []))
    ∙ sym t.is-tree

-- no text is that of two trees
pub one-tree : (a b : Forest) (text : List ℕ) → IsText a text → IsText b text → a ≡ b
one-tree a b text t u = sym (text_read a text t) ∙ text_read b text u
