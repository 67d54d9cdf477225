-- `conditions::fixed_wrong` says whether a fixed word differs. The invariant: the blocks passed hold, and `left` is what they leave of the
-- nodes. Assumes nothing.
use mathlib.Core.Path.{◌≡◌}
use Prim.Native.Nat.{◌-◌, ◌*◌}
use Rattle.sheet.specs.Layout.{block_rows, laid_out}
use Rattle.sheet.proofs.Blocks.{Passed}
use Rattle.sheet.proofs.conditions.fixed_wrong.Given as goal

abbrev pub invariant-loop-place : goal.invariant-loop-place
invariant-loop-place l = (l.left ≡ l.nodes - block_rows * (l.place - 1)) × Passed (laid_out l.nodes) l.file l.place
