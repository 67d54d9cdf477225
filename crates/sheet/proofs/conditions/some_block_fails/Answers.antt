-- `conditions::some_block_fails` says whether a test fails for a block. The invariant: the blocks passed hold. Assumes nothing.
use Rattle.std.proofs.Common.{◌≡◌, sym, refl, ap, arith, not}
use Rattle.blocks.specs.Below.{every}
use Rattle.blocks.specs.Block.{block_count}
use Rattle.sheet.proofs.Blocks.{block-fails, block_passes}
use Rattle.sheet.proofs.conditions.some_block_fails.Goals as goal

pub loop-place-init : goal.loop-place-init
unfolding every
loop-place-init g c = (c.requires, λ t is. refl)

pub returns-then-not-test : goal.returns-then-not-test
returns-then-not-test g c =
    λ t is. block-fails t c.args.file.now c.loop-place.place _ _ c.block_at.ensures (is _ _ _ c.test.ensures)
    (omega arith) (ap not c.if-not-test.true)

pub loop-place-preserved : goal.loop-place-preserved
loop-place-preserved g c =
    (c.loop-place.invariant.0, λ t is. block_passes t c.args.file.now c.loop-place.place _ _ c.block_at.ensures (is _ _ _ c.test.ensures) (c.loop-place.invariant.1 t is) (ap not c.if-not-test.false))

pub returns : goal.returns
returns g c = λ t is.
    let all : c.loop-place.place ≡ block_count c.args.file.now = omega arith in
    sym (ap not (rw all at c.loop-place.invariant.1 t is))
