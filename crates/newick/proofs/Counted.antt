-- The first pass is reading with counts in place of trees, and a byte adds one to its counts at most.
-- Assumes nothing.
use mathlib.Core.Path.{◌≡◌, refl, sym, ap, ap₂, ◌∙◌, subst}
use Prim.Native.Nat.{ℕ, zero, suc, ◌+◌, ◌-◌, ◌*◌, ◌≤◌, ◌<◌}
use native.Mathlib.Nat.{le_antisymm}
use native.Mathlib.Numerals.{add-one}
use native.Mathlib.Omega.{arith}
use mathlib.Core.Bool.{Bool, true, false, cond}
use mathlib.Core.List.{List, [], ◌∷◌}
use lib.Dec.{eqb, leb}
use lib.ListN.{length, get_or, drop}
use lib.Seq.{drop-length}
use Rattle.lines.specs.Decimal.{zero_byte}
use Rattle.tree.specs.Forest.{Forest, nil, node, join, size}
use Rattle.tree.proofs.Joined.{size-join}
use Rattle.tree.proofs.Places.{from_place}
use Rattle.std.specs.Prelude.{Option, Some, None, option_and_then, MatchOption, IfSome}
use Rattle.newick.specs.Text.{opening, closing, comma, semicolon, most_label}
use Rattle.newick.specs.Reading as reading
use Rattle.newick.specs.Reading.{Reading, due, closed, label, ended, broken, is_digit, next, reading, whole, tree_read}
use Rattle.newick.specs.Read.{nodes_of}
use Rattle.newick.proofs.Shown.{Shows, text_shows}
use Rattle.newick.specs.Steps.{lengthened, parted, step, steps, counted, counts, CountIs}
use Rattle.newick.specs.declared.judge.Scan.{Scan}
use Rattle.newick.specs.declared.judge.Scan.TheVariants.{Due, Closed, Label, Ended}

-- ---- counts in place of trees

abbrev sizes : List Forest → ℕ
sizes [] = 0
sizes (row ∷ rows) = sizes rows + size row

abbrev seen : Reading → Option Scan
seen (due rows) = Some (Due (length rows) (sizes rows))
seen (closed rows below) = Some (Closed (length rows) (sizes rows + size below))
seen (label rows below v) = Some (Label (length rows) (sizes rows + size below + 1) v)
seen (ended tree) = Some (Ended (size tree))
seen broken = None

seen-cond : (b : Bool) (x y : Reading) (p q : Option Scan) → seen x ≡ p → seen y ≡ q → seen (cond b x y) ≡ cond b p q
seen-cond true x y p q e f = e
seen-cond false x y p q e f = f

-- another byte after a whole subtree
seen-parted : (rows : List Forest) (below : Forest) (v byte : ℕ)
    → seen (reading.parted rows (node v below nil) byte) ≡ parted (length rows) (sizes rows + size below + 1) byte
seen-parted [] below v byte = seen-cond (eqb byte semicolon) _ _ _ _ (ap (λ (n : ℕ). Some (Ended n)) (omega arith)) refl
seen-parted (row ∷ rows) below v byte =
    seen-cond (eqb byte comma) _ _ _ _ (ap (λ (n : ℕ). Some (Due (suc (length rows)) n)) more)
    (seen-cond (eqb byte closing) _ _ _ _ (ap (λ (n : ℕ). Some (Closed (length rows) n)) more) refl)
  where
    more : sizes rows + size (join row (node v below nil)) ≡ sizes rows + size row + size below + 1
    more = omega (arith, size-join row (node v below nil))

seen-lengthened : (rows : List Forest) (below : Forest) (v d : ℕ)
    → seen (reading.lengthened rows below v d) ≡ lengthened (length rows) (sizes rows + size below + 1) v d
seen-lengthened rows below v d = seen-cond (eqb v 0) _ _ _ _ refl (seen-cond (leb (10 * v + d) most_label) _ _ _ _ refl refl)

seen_next : (state : Reading) (byte : ℕ) → seen (next state byte) ≡ option_and_then (λ scan. step scan byte) (seen state)
unfolding next step
seen_next (due rows) byte =
    seen-cond (eqb byte opening) _ _ _ _ (ap₂ (λ (d n : ℕ). Some (Due d n)) (sym (add-one (length rows))) (omega arith))
    (seen-cond (is_digit byte) _ _ _ _ (ap (λ (n : ℕ). Some (Label (length rows) n (byte - zero_byte))) (omega arith)) refl)
seen_next (closed rows below) byte = seen-cond (is_digit byte) _ _ _ _ refl refl
seen_next (label rows below v) byte =
    seen-cond (is_digit byte) _ _ _ _ (seen-lengthened rows below v (byte - zero_byte)) (seen-parted rows below v byte)
seen_next (ended tree) byte = refl
seen_next broken byte = refl

seen-reading : (state : Reading) (text : List ℕ) → seen (reading state text) ≡ option_and_then (λ scan. steps scan text) (seen state)
unfolding reading steps
seen-reading state [] = go (seen state)
  where
    go : (s : Option Scan) → s ≡ option_and_then (λ scan. Some scan) s
    go None = refl
    go (Some scan) = refl
seen-reading state (byte ∷ text) =
    seen-reading (next state byte) text ∙ ap (option_and_then (λ scan. steps scan text)) (seen_next state byte) ∙ go (seen state)
  where
    go : (s : Option Scan) → option_and_then (λ scan. steps scan text) (option_and_then (λ scan. step scan byte) s) ≡ option_and_then (λ scan. steps scan (byte ∷ text)) s
    go None = refl
    go (Some scan) = refl

-- the count at the end is that of the tree's nodes
pub nodes-counted : (text : List ℕ) → CountIs text (counted (steps (Due 0 0) text))
unfolding nodes_of tree_read
nodes-counted text =
    subst (λ (s : Option Scan). CountIs text (counted s)) (seen-reading (due []) text) (go (reading (due []) text) (text_shows text))
  where
    go : (state : Reading) → Shows state text
        → MatchOption (counted (seen state)) (size (whole state) ≡ 0) (λ nodes. (size (whole state) ≡ nodes) × (0 < nodes))
    go (due rows) s = refl
    go (closed rows below) s = refl
    go (label rows below v) s = refl
    go (ended tree) s = (refl, omega (arith, ap size s.is-tree))
    go broken s = refl

-- ---- in the loop: a state that what is left of the text takes to where the whole text takes the first

module _ (text : List ℕ) (scan : Scan) (at : ℕ) (same_end : steps scan (drop at text) ≡ steps (Due 0 0) text) where
  counted_from : (s : Option Scan) → steps scan (drop at text) ≡ s → CountIs text (counted s)
  counted_from s e = subst (λ (s : Option Scan). CountIs text (counted s)) (sym same_end ∙ e) (nodes-counted text)

  module _ (within : at < length text) where
    turn : (s : Option Scan) → s ≡ step scan (get_or text at 0) → steps scan (drop at text) ≡ option_and_then (λ next. steps next (drop (at + 1) text)) s
    unfolding steps
    turn s e = ap (steps scan) (from_place text at 0 within) ∙ ap (option_and_then (λ next. steps next (drop (at + 1) text))) (sym e)

    -- a byte that breaks a rule
    pub broken_here : None ≡ step scan (get_or text at 0) → nodes_of text ≡ 0
    broken_here e = counted_from None (turn None e)

    -- another byte
    pub step_here : (next : Scan) → Some next ≡ step scan (get_or text at 0) → steps next (drop (at + 1) text) ≡ steps (Due 0 0) text
    step_here next e = sym (turn (Some next) e) ∙ same_end

  -- no byte is left
  module _ (past : length text ≤ at) (not_past : at ≤ length text) where
    at-end : steps scan (drop at text) ≡ Some scan
    unfolding steps
    at-end = ap (steps scan) (ap (λ (i : ℕ). drop i text) (le_antisymm not_past past) ∙ drop-length text)

    pub ended_here : (nodes : ℕ) → scan ≡ Ended nodes → (nodes_of text ≡ nodes) × (0 < nodes)
    ended_here nodes e = counted_from (Some (Ended nodes)) (at-end ∙ ap (λ (s : Scan). Some s) e)

    pub unended_here : ((nodes : ℕ) → scan ≡ Ended nodes → ⊥) → nodes_of text ≡ 0
    unended_here other = go scan other (counted_from (Some scan) at-end)
      where
        go : (s : Scan) → ((nodes : ℕ) → s ≡ Ended nodes → ⊥) → CountIs text (counted (Some s)) → nodes_of text ≡ 0
        go (Due depth nodes) other e = e
        go (Closed depth nodes) other e = e
        go (Label depth nodes value) other e = e
        go (Ended nodes) other e = absurd (other nodes refl)

-- ---- counts and bytes

abbrev AtMost : ℕ → Option Scan → Type 0
AtMost k s = IfSome s (λ scan. counts scan ≤ k)

at_most-cond : (k : ℕ) (b : Bool) (x y : Option Scan) → AtMost k x → AtMost k y → AtMost k (cond b x y)
at_most-cond k true x y p q = p
at_most-cond k false x y p q = q

-- a byte adds one at most
pub counts_step : (scan : Scan) (byte : ℕ) → IfSome (step scan byte) (λ next. counts next ≤ counts scan + 1)
unfolding step
counts_step (Due depth nodes) byte =
    at_most-cond _ (eqb byte opening) _ _ (omega arith) (at_most-cond _ (is_digit byte) _ _ (omega arith) tt)
counts_step (Closed depth nodes) byte = at_most-cond _ (is_digit byte) _ _ (omega arith) tt
counts_step (Label depth nodes value) byte = at_most-cond _ (is_digit byte) _ _ longer (other depth)
  where
    longer : AtMost (depth + nodes + 1) (lengthened depth nodes value (byte - zero_byte))
    longer = at_most-cond _ (eqb value 0) _ _ tt (at_most-cond _ (leb (10 * value + (byte - zero_byte)) most_label) _ _ (omega arith) tt)

    other : (d : ℕ) → AtMost (d + nodes + 1) (parted d nodes byte)
    other zero = at_most-cond _ (eqb byte semicolon) _ _ (omega arith) tt
    other (suc d) = at_most-cond _ (eqb byte comma) _ _ (omega arith) (at_most-cond _ (eqb byte closing) _ _ (omega arith) tt)
counts_step (Ended nodes) byte = tt

pub counts_here : (scan next : Scan) (byte : ℕ) → Some next ≡ step scan byte → counts next ≤ counts scan + 1
counts_here scan next byte e = subst (AtMost (counts scan + 1)) (sym e) (counts_step scan byte)
