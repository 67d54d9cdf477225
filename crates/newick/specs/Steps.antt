-- What the inner steps promise.
use Rattle.std.specs.Prelude.{ℕ, zero, suc, ◌+◌, ◌-◌, ◌*◌, ◌≤◌, ◌<◌, ◌≡◌, false, cond, List, [], ◌∷◌, ◌++◌, eqb, leb, ltb, length, drop, Option, Some, None, option_and_then, MatchOption}
use Rattle.std.proofs.lemmas.List.Edits.{sets}
use Rattle.refusal.specs.First.{◌⇐◌, first}
use Rattle.lines.specs.Decimal.{zero_byte}
use Rattle.tree.specs.Forest.{Forest, nil, node, size, entry}
use Rattle.tree.specs.Operations.{number_from}
use Rattle.newick.specs.Text.{opening, closing, comma, semicolon, most_label, Labels, list_text}
use Rattle.newick.specs.Reading.{is_digit}
use Rattle.newick.specs.Read.{most_nodes, room_wrong, nodes_of, tapes_of}
use Rattle.newick.specs.declared.judge.Scan.{Scan}
use Rattle.newick.specs.declared.judge.Scan.TheVariants.{Due, Closed, Label, Ended}
use Rattle.newick.specs.declared.rows.Reached.{Reached}

-- ---- the first pass: reading with counts in place of trees; None where the text breaks a rule

abbrev pub begun : ℕ → ℕ → ℕ → Option Scan
begun depth nodes byte = cond (is_digit byte) (Some (Label depth (nodes + 1) (byte - zero_byte))) None

abbrev pub lengthened : ℕ → ℕ → ℕ → ℕ → Option Scan
lengthened depth nodes value d =
    cond (eqb value 0) None (cond (leb (10 * value + d) most_label) (Some (Label depth nodes (10 * value + d))) None)

abbrev pub parted : ℕ → ℕ → ℕ → Option Scan
parted zero nodes byte = cond (eqb byte semicolon) (Some (Ended nodes)) None
parted (suc depth) nodes byte = cond (eqb byte comma) (Some (Due (suc depth) nodes)) (cond (eqb byte closing) (Some (Closed depth nodes)) None)

unfoldable pub step : Scan → ℕ → Option Scan
step (Due depth nodes) byte = cond (eqb byte opening) (Some (Due (depth + 1) nodes)) (begun depth nodes byte)
step (Closed depth nodes) byte = begun depth nodes byte
step (Label depth nodes value) byte = cond (is_digit byte) (lengthened depth nodes value (byte - zero_byte)) (parted depth nodes byte)
step (Ended nodes) byte = None

unfoldable pub steps : Scan → List ℕ → Option Scan
steps scan [] = Some scan
steps scan (byte ∷ bytes) = option_and_then (λ next. steps next bytes) (step scan byte)

-- the count of nodes of a text that has ended
abbrev pub counted : Option Scan → Option ℕ
counted (Some (Due depth nodes)) = None
counted (Some (Closed depth nodes)) = None
counted (Some (Label depth nodes value)) = None
counted (Some (Ended nodes)) = Some nodes
counted None = None

-- a count of nodes is that of the tree whose text this is; None where it is that of none
abbrev pub CountIs : List ℕ → Option ℕ → Type 0
CountIs text count = MatchOption count (nodes_of text ≡ 0) (λ nodes. (nodes_of text ≡ nodes) × (0 < nodes))

-- open brackets and labels together
abbrev pub counts : Scan → ℕ
counts (Due depth nodes) = depth + nodes
counts (Closed depth nodes) = depth + nodes
counts (Label depth nodes value) = depth + nodes
counts (Ended nodes) = nodes

-- the number of a text of n nodes that is not too long
unfoldable pub tree_number : ℕ → ℕ → ℕ → ℕ
tree_number n tableLength tapesLength = first (15 ⇐ eqb n 0 ∷ 16 ⇐ ltb most_nodes n ∷ 7 ⇐ room_wrong n tableLength tapesLength ∷ [])

-- ---- a label

-- how many digits a text begins with
unfoldable pub leading : List ℕ → ℕ
leading [] = 0
leading (byte ∷ bytes) = cond (is_digit byte) (suc (leading bytes)) 0

-- the number that they stand for, behind digits that stand for m
unfoldable pub label_after : ℕ → List ℕ → ℕ
label_after m [] = m
label_after m (byte ∷ bytes) = cond (is_digit byte) (label_after (10 * m + (byte - zero_byte)) bytes) m

-- the number that stands at a place
abbrev pub label_at : List ℕ → ℕ → ℕ
label_at text at = label_after 0 (drop at text)

-- a number stands at a place that is no greater than a label may be, and another byte comes after it
pub record LabelHere (text : List ℕ) (at : ℕ) : Type 0 where
  pub ends : at + leading (drop at text) < length text
  pub fits : label_at text at ≤ most_label

-- ---- subtrees and lists

-- the entries of a forest that is numbered from k on
abbrev pub rows_from : ℕ → Forest → List ℕ
rows_from k nil = []
rows_from k (node label below after) =
    entry (number_from (k + 1) below) ∷ entry (number_from (k + 1 + size below) after) ∷ (rows_from (k + 1) below ++ rows_from (k + 1 + size below) after)

-- at a place of a text stand the subtrees of a list, parted by commas, and then `more`
pub record Stands (text : List ℕ) (at : ℕ) (list : Forest) (more : List ℕ) : Type 0 where
  pub here : drop at text ≡ list_text list ++ more
  pub labels : Labels list

-- a byte that ends a list: it neither belongs to a label nor parts two subtrees
abbrev pub Stops : ℕ → Type 0
Stops byte = (is_digit byte ≡ false) × (byte ≡ comma → ⊥)

-- both slices have room for a list that is numbered from k on
pub record Room (k : ℕ) (list : Forest) (table tapes : List ℕ) : Type 0 where
  pub few : k + size list ≤ most_nodes
  pub in_table : 2 * (k + size list) ≤ length table
  pub in_tapes : 2 * (k + size list) ≤ length tapes

-- some subtree stands at a place, with room for it
pub record SubtreeHere (text : List ℕ) (at k : ℕ) (table tapes : List ℕ) : Type 0 where
  pub root : ℕ
  pub below : Forest
  pub byte : ℕ
  pub more : List ℕ
  pub stands : Stands text at (node root below nil) (byte ∷ more)
  pub ends : is_digit byte ≡ false
  pub room : Room k (node root below nil) table tapes

-- some list
pub record ListHere (text : List ℕ) (at k : ℕ) (table tapes : List ℕ) : Type 0 where
  pub root : ℕ
  pub below : Forest
  pub after : Forest
  pub byte : ℕ
  pub more : List ℕ
  pub stands : Stands text at (node root below after) (byte ∷ more)
  pub stops : Stops byte
  pub room : Room k (node root below after) table tapes

-- a list is read, numbered from k on: the place after it, the next number, and both slices
pub record RowsRead (list : Forest) (at k : ℕ) (table tapes : List ℕ) (r : Reached) (table' tapes' : List ℕ) : Type 0 where
  pub place : r.at ≡ at + length (list_text list)
  pub next : r.node ≡ k + size list
  pub table-after : table' ≡ sets table (2 * k) (rows_from k list)
  pub tapes-after : tapes' ≡ sets tapes (2 * k) (tapes_of list)

-- whatever subtree stands at the place is read
abbrev pub SubtreeRead : List ℕ → ℕ → ℕ → List ℕ → List ℕ → Reached → List ℕ → List ℕ → Type 0
SubtreeRead text at k table tapes r table' tapes' =
    (root : ℕ) (below : Forest) (byte : ℕ) (more : List ℕ) → Stands text at (node root below nil) (byte ∷ more) → is_digit byte ≡ false
    → RowsRead (node root below nil) at k table tapes r table' tapes'

-- and whatever list
abbrev pub ListRead : List ℕ → ℕ → ℕ → List ℕ → List ℕ → Reached → List ℕ → List ℕ → Type 0
ListRead text at k table tapes r table' tapes' =
    (root : ℕ) (below after : Forest) (byte : ℕ) (more : List ℕ) → Stands text at (node root below after) (byte ∷ more) → Stops byte
    → RowsRead (node root below after) at k table tapes r table' tapes'
