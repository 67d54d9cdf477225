-- `layout::fixed_hold` says whether the fixed words of a block hold. The invariant: those before the place do. Assumes nothing.
use Rattle.std.proofs.Common.{◌≡◌, true}
use Rattle.blocks.specs.Below.{every}
use Rattle.blocks.specs.Block.{word_at}
use Rattle.sheet.specs.Layout.{fixed, agrees}
use Rattle.sheet.proofs.layout.fixed_hold.Given as goal

abbrev pub invariant-loop-place : goal.invariant-loop-place
invariant-loop-place l = every l.place (λ k. agrees (fixed l.count l.used k) (word_at l.block k)) ≡ true
