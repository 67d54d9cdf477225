-- `check::together` gives the sums of the words of all lanes. Assumes nothing.
use Rattle.std.proofs.Common.{refl, rules, arith}
use Rattle.blocks.proofs.Sums.{lanes-together}
use Rattle.blocks.proofs.check.together.Goals as goal

pub returns : goal.returns
returns c block k count side =
    lanes-together block k count _ side _ _ _ _ (c.across-sums.ensures (λ s. s.plain) (λ s w is. search rules))
    (c.across-counted.ensures (λ s. s.weighted) (λ s w is. search rules))
    (omega arith) refl refl
