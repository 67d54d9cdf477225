-- With slices that are long enough the layout's number is that of the table with its half-widths; and the text that a number decides on.
-- Assumes nothing.
use mathlib.Core.Path.{◌≡◌, refl, sym, ◌∙◌}
use mathlib.Core.Bool.{Bool, true, false, cond}
use mathlib.Core.List.{List, [], ◌∷◌, ◌++◌}
use Prim.Native.Nat.{ℕ, zero, suc, ◌≤◌}
use native.Mathlib.Omega.{arith}
use lib.ListN.{length}
use Rattle.refusal.specs.First.{Condition, ◌⇐◌, first}
use Rattle.refusal.proofs.After.{granted-accepted, granted-refused}
use Rattle.distance.specs.Needed.{bad_half_widths}
use Rattle.distance.proofs.Separation.{separation-good}
use Rattle.tree.specs.Table.{nodes}
use Rattle.tree.specs.WellFormed.{table_conditions, table_number}
use Rattle.tree.proofs.Number.{table-refused, table-passed}
use Rattle.tree.proofs.Stands.{accepted-numbers}
use Rattle.rule.specs.Result.{Slices, layout_number}
use Rattle.layout.proofs.Answers.{room-enough, by-widths, number-table, number-distance, number-room}
use Rattle.lines.specs.Listing.{refused_line}
use Rattle.render.specs.Text.{unless_refused, drawing_number}

-- ---- the layout

module _ (t : List ℕ) (D : ℕ) (hs : List ℕ) (s : Slices) (some : 1 ≤ D) (small : D ≤ 1024) (places : 1024 ≤ length s.places) (levels : 1024 ≤ length s.levels)
    (measured : 2048 ≤ length s.the_record) (work : 16384 ≤ length s.work) where
  abbrev own : List Condition
  own = 17 ⇐ bad_half_widths (nodes t) hs ∷ []

  pub table-decides : layout_number t D hs s ≡ drawing_number t hs
  unfolding drawing_number
  table-decides = go (table_number t) refl
    where
      -- past the table's conditions the half-widths decide
      past : table_number t ≡ 0 → (b : Bool) → bad_half_widths (nodes t) hs ≡ b → layout_number t D hs s ≡ cond b 17 0
      past e true wide = sym (number-distance t D hs s e 17 (sym (by-widths t D hs (separation-good D some small) true wide)) (λ z. omega arith))
      past e false narrow =
          let few = (accepted-numbers t e).few in
          sym (number-room t D hs s e (by-widths t D hs (separation-good D some small) false narrow))
          ∙ room-enough t s (omega (arith, few)) (omega (arith, few)) (omega (arith, few)) (omega (arith, few))

      go : (k : ℕ) → k ≡ table_number t → layout_number t D hs s ≡ first (table_conditions t ++ own)
      go zero e = past (sym e) (bad_half_widths (nodes t) hs) refl ∙ sym (table-passed t own (sym e))
      go (suc k) e = sym (number-table t D hs s (suc k) e (λ z. omega arith)) ∙ sym (table-refused t own (suc k) e (λ z. omega arith))

-- ---- the text

pub text_refused : (k : ℕ) (text : List ℕ) → (k ≡ 0 → ⊥) → unless_refused k text ≡ refused_line k
text_refused k text h = granted-refused k text (refused_line k) h

pub text_granted : (k : ℕ) (text : List ℕ) → k ≡ 0 → unless_refused k text ≡ text
text_granted k text e = granted-accepted k text (refused_line k) e
