-- `conditions::fixed_wrong` says whether a fixed word differs. The invariant: the blocks passed hold, and `left` is what they leave of the
-- nodes. Assumes nothing.
use mathlib.Core.Path.{◌≡◌, refl, ap, ◌∙◌}
use mathlib.Core.Bool.{Bool, not}
use mathlib.Core.List.{List}
use Prim.Native.Nat.{ℕ, ◌-◌, ◌*◌, ◌≤◌, min}
use native.Mathlib.Omega.{arith}
use Rattle.blocks.specs.Below.{every}
use Rattle.sheet.specs.Layout.{block_rows, row_word, fixed_hold, rows_in, laid_out}
use Rattle.sheet.proofs.Blocks.{block-fails, block_passes}
use Rattle.sheet.proofs.Fixed.{laid-header, laid-rows}
use Rattle.sheet.proofs.conditions.fixed_wrong.Goals as goal

-- a block of rows is tested for what the layout fixes of it, where the rows are those that are left for it
tested : (nodes place left rows : ℕ) (block : List ℕ) (answer : Bool) → 1 ≤ place → left ≡ nodes - block_rows * (place - 1)
    → rows ≡ min block_rows left
    → answer ≡ fixed_hold rows (row_word rows) block
    → answer ≡ laid_out nodes place block
tested nodes place left rows block answer past isLeft isRows asked =
    let here : rows ≡ rows_in nodes (place - 1) = omega arith in
    asked ∙ laid-rows nodes block place rows past here

pub returns-then-not-header_laid : goal.returns-then-not-header_laid
returns-then-not-header_laid c =
    block-fails (laid_out c.args.nodes) c.args.file.now 0 _ _ c.block_at.ensures
    (c.header_laid.ensures ∙ laid-header c.args.nodes _) (omega arith) (ap not c.if-not-header_laid.true)

pub loop-place-init : goal.loop-place-init
unfolding every
loop-place-init c = (
  omega arith,
  block_passes (laid_out c.args.nodes) c.args.file.now 0 _ _ c.block_at.ensures
      (c.header_laid.ensures ∙ laid-header c.args.nodes _) refl (ap not c.if-not-header_laid.false),
)

pub returns-then-not-rows_laid : goal.returns-then-not-rows_laid
returns-then-not-rows_laid c =
    let answer = tested c.args.nodes c.loop-place.place _ _ _ _ (omega arith) c.loop-place.invariant.0 c.rows_of-rows.ensures c.rows_laid.ensures in
    block-fails (laid_out c.args.nodes) c.args.file.now c.loop-place.place _ _ c.block_at-in-loop-place.ensures answer (omega arith)
    (ap not c.if-not-rows_laid.true)

pub loop-place-preserved : goal.loop-place-preserved
loop-place-preserved c =
    let answer = tested c.args.nodes c.loop-place.place _ _ _ _ (omega arith) c.loop-place.invariant.0 c.rows_of-rows.ensures c.rows_laid.ensures in (
      omega arith,
      block_passes (laid_out c.args.nodes) c.args.file.now c.loop-place.place _ _ c.block_at-in-loop-place.ensures answer c.loop-place.invariant.1
          (ap not c.if-not-rows_laid.false),
    )
