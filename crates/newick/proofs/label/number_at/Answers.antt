-- The loop over a label's digits. Assumes nothing.
use mathlib.Core.Path.{sym, ap₂}
use Prim.Native.Nat.{ℕ}
use native.Mathlib.Omega.{arith}
use Rattle.newick.specs.Reading.{is_digit}
use Rattle.newick.proofs.LabelAt.{DigitTurn, passed_turn, passed-label, passed-end}
use Rattle.newick.proofs.label.number_at.Goals as goal

pub overflow_mul-value : goal.overflow_mul-value
unfolding is_digit
overflow_mul-value c =
    let l = c.loop-value in
    let turn = passed_turn c.args.text.now c.args.at l.value l.end c.requires l.invariant (sym c.loop-value-test.ensures.value) in
    record { fits = omega (arith, turn.fits) }

-- what is known where the digit has been taken
turn : (c : goal.After-from) → DigitTurn c.args.text.now c.args.at c.loop-value.value c.loop-value.end
unfolding is_digit
turn c =
    let l = c.loop-value in
    passed_turn c.args.text.now c.args.at l.value l.end c.requires l.invariant (sym c.loop-value-test.ensures.value)

pub overflow_add-value : goal.overflow_add-value
overflow_add-value c = record { fits = omega (arith, (turn c).fits) }

pub loop-value-smaller : goal.loop-value-smaller
loop-value-smaller c = (turn c).falls

pub loop-value-preserved : goal.loop-value-preserved
loop-value-preserved c = rw c.from.ensures (turn c).again

pub returns : goal.returns
unfolding is_digit
returns c =
    let a = c.args in
    let l = c.loop-value in
    let stop = sym c.loop-value-test.ensures.value in
    ap₂ (λ (v e : ℕ). record { value = v; end = e }) (passed-label a.text.now a.at l.value l.end c.requires l.invariant stop)
    (passed-end a.text.now a.at l.value l.end c.requires l.invariant stop)
