-- The bytes that were read are the text of what reading leaves, so that a tree that was read whole is the tree of its text.
-- Assumes nothing.
use mathlib.Core.Path.{◌≡◌, refl, sym, ap, ap₂, ◌∙◌, subst}
use Prim.Native.Nat.{ℕ, ◌+◌, ◌-◌, ◌*◌}
use native.Mathlib.Omega.{arith}
use mathlib.Core.Bool.{Bool, true, false}
use mathlib.Core.List.{List, [], ◌∷◌, ◌++◌, append_assoc, append-nil}
use lib.Dec.{eqb, leb}
use borrow.Author.Tests.{eqb-true, eqb-false, leb-true}
use Rattle.lines.specs.Decimal.{zero_byte, decimal}
use Rattle.tree.specs.Forest.{Forest, nil, node, join}
use Rattle.tree.proofs.Counting.{All}
use Rattle.newick.specs.Text.{opening, closing, comma, semicolon, most_label, Labels, subtree_text, further, list_text, IsText}
use Rattle.newick.specs.Reading.{Reading, due, closed, label, ended, broken, is_digit, begun, lengthened, parted, next, reading, whole, tree_read}
use Rattle.newick.proofs.Digits.{digit-high, decimal-byte, decimal-more}

-- ---- the text of a reading

-- what stands before a node's label: its list in brackets, where it has one
abbrev pub bracketed : Forest → List ℕ → List ℕ
bracketed nil list = []
bracketed (node v below after) list = opening ∷ list ++ closing ∷ []

-- a list's whole subtrees, each with the comma after it
abbrev pub ended-each : Forest → List ℕ
ended-each nil = []
ended-each (node v below after) = subtree_text v below (list_text below) ++ comma ∷ ended-each after

-- everything up to the subtree that is due
abbrev pub before : List Forest → List ℕ
before [] = []
before (row ∷ rows) = before rows ++ opening ∷ ended-each row

-- and a node's list
abbrev pub up_to-label : List Forest → Forest → List ℕ
up_to-label rows below = before rows ++ bracketed below (list_text below)

-- a reading shows the bytes that were read
abbrev pub Shows : Reading → List ℕ → Type 0
Shows (due rows) text = (text ≡ before rows) × All Labels rows
Shows (closed rows below) text = (text ≡ up_to-label rows below) × (All Labels rows × Labels below)
Shows (label rows below v) text = (text ≡ up_to-label rows below ++ decimal v) × (All Labels rows × Labels (node v below nil))
Shows (ended tree) text = IsText tree text
Shows broken text = Unit

-- ---- a list with one subtree more

module _ (v : ℕ) (below : Forest) where
  abbrev subtree : List ℕ
  subtree = subtree_text v below (list_text below)

  label-last : (f : Forest) (list : List ℕ) → bracketed f list ++ decimal v ≡ subtree_text v f list
  label-last nil list = refl
  label-last (node w f g) list = append_assoc (opening ∷ list) (closing ∷ []) (decimal v)

  bracketed-more : (row : Forest) (text : List ℕ) → bracketed (join row (node v below nil)) text ≡ opening ∷ text ++ closing ∷ []
  bracketed-more nil text = refl
  bracketed-more (node w f g) text = refl

  further-more : (row : Forest) (text : List ℕ) → further (join row (node v below nil)) text ≡ comma ∷ text
  further-more nil text = refl
  further-more (node w f g) text = refl

  row_more : (row : Forest) → list_text (join row (node v below nil)) ≡ ended-each row ++ subtree
  row_more nil = append-nil subtree
  row_more (node w f g) =
      ap (λ (t : List ℕ). subtree_text w f (list_text f) ++ t) (further-more g (list_text (join g (node v below nil))) ∙ ap (λ (t : List ℕ). comma ∷ t) (row_more g))
      ∙ sym (append_assoc (subtree_text w f (list_text f)) (comma ∷ ended-each g) subtree)

  ended-more : (row : Forest) → ended-each (join row (node v below nil)) ≡ ended-each row ++ (subtree ++ comma ∷ [])
  ended-more nil = refl
  ended-more (node w f g) =
      ap (λ (t : List ℕ). subtree_text w f (list_text f) ++ comma ∷ t) (ended-more g)
      ∙ sym (append_assoc (subtree_text w f (list_text f)) (comma ∷ ended-each g) (subtree ++ comma ∷ []))

  labels-more : (row : Forest) → Labels row → Labels (node v below nil) → Labels (join row (node v below nil))
  labels-more nil r l = l
  labels-more (node w f g) r l = (r.0, (r.1.0, labels-more g r.1.1 l))

-- ---- one byte more

-- by what a test says
either : {X : Type 0} (b : Bool) → (b ≡ true → X) → (b ≡ false → X) → X
either true h k = h refl
either false h k = k refl

begun_shows : (rows : List Forest) (below : Forest) (text : List ℕ) (byte : ℕ) → text ≡ up_to-label rows below → All Labels rows → Labels below
    → Shows (begun rows below byte) (text ++ byte ∷ [])
begun_shows rows below text byte e l m = either (is_digit byte) (λ h. simp h (digit h)) (λ h. simp h tt)
  where
    digit : is_digit byte ≡ true → Shows (label rows below (byte - zero_byte)) (text ++ byte ∷ [])
    digit h =
        let high = digit-high byte h in
        (ap₂ ◌++◌ e (sym (decimal-byte byte h)), (l, (omega arith, (m, tt))))

lengthened_shows : (rows : List Forest) (below : Forest) (v : ℕ) (text : List ℕ) (byte : ℕ) → is_digit byte ≡ true
    → Shows (label rows below v) text → Shows (lengthened rows below v (byte - zero_byte)) (text ++ byte ∷ [])
lengthened_shows rows below v text byte h s =
    either (eqb v 0) (λ z. simp z tt)
    (λ z. either (leb (10 * v + (byte - zero_byte)) most_label) (λ f. simp (z, f) (more z f)) (λ f. simp (z, f) tt))
  where
    more : eqb v 0 ≡ false → leb (10 * v + (byte - zero_byte)) most_label ≡ true → Shows (label rows below (10 * v + (byte - zero_byte))) (text ++ byte ∷ [])
    more z fits =
        let some : v ≡ 0 → ⊥ = eqb-false v 0 z in (
          ap (λ (t : List ℕ). t ++ byte ∷ []) s.0
              ∙ append_assoc (up_to-label rows below) (decimal v) (byte ∷ [])
              ∙ ap (λ (t : List ℕ). up_to-label rows below ++ t) (sym (decimal-more v byte (omega arith) h)),
          (s.1.0, (leb-true (10 * v + (byte - zero_byte)) most_label fits, s.1.1.1)),
        )

parted_shows : (rows : List Forest) (below : Forest) (v : ℕ) (text : List ℕ) (byte : ℕ) → Shows (label rows below v) text
    → Shows (parted rows (node v below nil) byte) (text ++ byte ∷ [])
parted_shows [] below v text byte s = either (eqb byte semicolon) (λ h. simp h (whole h)) (λ h. simp h tt)
  where
    whole : eqb byte semicolon ≡ true → Shows (ended (node v below nil)) (text ++ byte ∷ [])
    whole h = record {
      root = v;
      below = below;
      is-tree = refl;
      is_text = ap₂ (λ (t : List ℕ) (b : ℕ). t ++ b ∷ []) (s.0 ∙ label-last v below below (list_text below)) (eqb-true byte semicolon h);
      labels = s.1.1;
    }
parted_shows (row ∷ rows) below v text byte s =
    either (eqb byte comma) (λ h. simp h (after-comma h))
    (λ n. either (eqb byte closing) (λ h. simp (n, h) (after-closing h)) (λ h. simp (n, h) tt))
  where
    labels : Labels (join row (node v below nil))
    labels = labels-more v below row s.1.0.0 s.1.1

    so_far : (b : ℕ) → byte ≡ b → text ++ byte ∷ [] ≡ before rows ++ opening ∷ (ended-each row ++ subtree v below ++ b ∷ [])
    so_far b h =
        ap₂ (λ (t : List ℕ) (c : ℕ). t ++ c ∷ [])
        (s.0
        ∙ append_assoc (before rows ++ opening ∷ ended-each row) (bracketed below (list_text below)) (decimal v)
        ∙ ap (λ (t : List ℕ). before rows ++ opening ∷ ended-each row ++ t) (label-last v below below (list_text below))
        ∙ append_assoc (before rows) (opening ∷ ended-each row) (subtree v below))
        h
        ∙ append_assoc (before rows) (opening ∷ (ended-each row ++ subtree v below)) (b ∷ [])

    after-comma : eqb byte comma ≡ true → Shows (due (join row (node v below nil) ∷ rows)) (text ++ byte ∷ [])
    after-comma h = (
      so_far comma (eqb-true byte comma h)
          ∙ ap (λ (t : List ℕ). before rows ++ opening ∷ t) (append_assoc (ended-each row) (subtree v below) (comma ∷ []) ∙ sym (ended-more v below row)),
      (labels, s.1.0.1),
    )

    after-closing : eqb byte closing ≡ true → Shows (closed rows (join row (node v below nil))) (text ++ byte ∷ [])
    after-closing h = (
      so_far closing (eqb-true byte closing h)
          ∙ ap (λ (t : List ℕ). before rows ++ opening ∷ (t ++ closing ∷ [])) (sym (row_more v below row))
          ∙ ap (λ (t : List ℕ). before rows ++ t) (sym (bracketed-more v below row (list_text (join row (node v below nil))))),
      (s.1.0.1, labels),
    )

next_shows : (state : Reading) (text : List ℕ) (byte : ℕ) → Shows state text → Shows (next state byte) (text ++ byte ∷ [])
unfolding next
next_shows (due rows) text byte s =
    either (eqb byte opening)
    (λ h. simp h (ap₂ (λ (t : List ℕ) (b : ℕ). t ++ b ∷ []) s.0 (eqb-true byte opening h), (tt, s.1)))
    (λ n. simp n (begun_shows rows nil text byte (s.0 ∙ sym (append-nil (before rows))) s.1 tt))
next_shows (closed rows below) text byte s = begun_shows rows below text byte s.0 s.1.0 s.1.1
next_shows (label rows below v) text byte s =
    either (is_digit byte) (λ h. simp h (lengthened_shows rows below v text byte h s)) (λ n. simp n (parted_shows rows below v text byte s))
next_shows (ended tree) text byte s = tt
next_shows broken text byte s = tt

reading_shows : (state : Reading) (past text : List ℕ) → Shows state past → Shows (reading state text) (past ++ text)
unfolding reading
reading_shows state past [] s = subst (Shows state) (sym (append-nil past)) s
reading_shows state past (byte ∷ text) s =
    subst (Shows (reading (next state byte) text)) (append_assoc past (byte ∷ []) text) (reading_shows (next state byte) (past ++ byte ∷ []) text (next_shows state past byte s))

pub text_shows : (text : List ℕ) → Shows (reading (due []) text) text
text_shows text = reading_shows (due []) [] text (refl, tt)

-- ---- the tree that was read

-- what a text is read to is the tree whose text it is
pub read_text : (text : List ℕ) → (tree_read text ≡ nil → ⊥) → IsText (tree_read text) text
unfolding tree_read
read_text text some = go (reading (due []) text) some (text_shows text)
  where
    go : (state : Reading) → (whole state ≡ nil → ⊥) → Shows state text → IsText (whole state) text
    go (due rows) some s = absurd (some refl)
    go (closed rows below) some s = absurd (some refl)
    go (label rows below v) some s = absurd (some refl)
    go (ended tree) some s = s
    go broken some s = absurd (some refl)
