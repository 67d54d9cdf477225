-- `layout::fixed_hold` says whether the fixed words of a block hold. The invariant: those before the place do. Assumes nothing.
use Rattle.std.proofs.Common.{◌≡◌, sym, ◌∙◌, arith, lit<, eq-eqb, ne_eqb}
use Rattle.blocks.specs.Block.{weighted_place}
use Rattle.sheet.specs.Layout.{fixed_hold}
use Rattle.blocks.proofs.Below.{every_more, every-fails, every_holds}
use Rattle.sheet.proofs.Fixed.{used-agrees, count_differs, unused}
use Rattle.sheet.proofs.layout.fixed_hold.Goals as goal

pub returns-then-from-count : goal.returns-then-from-count
unfolding fixed_hold
returns-then-from-count c =
    let a = c.args in
    sym (every-fails weighted_place _ 1 (lit< tt) (count_differs a.count a.used a.block.now (λ e. c.if-from-count.true (c.from.ensures ∙ c.word.ensures ∙ e))))

pub loop-place-init : goal.loop-place-init
loop-place-init c =
    let a = c.args in
    let count = sym (c.from.ensures ∙ c.word.ensures) ∙ c.if-from-count.false in
    every_holds _ _ (λ k l. used-agrees a.count a.used a.block.now k l count)

pub returns-then-word-ne0 : goal.returns-then-word-ne0
unfolding fixed_hold
returns-then-word-ne0 c =
    let a = c.args in
    let place = c.loop-place.place in
    let differs = unused a.count a.used a.block.now place (omega arith) (omega arith) ∙ ne_eqb _ _ (λ e. c.if-word-ne0.true (c.word-in-loop-place.ensures ∙ e)) in
    sym (every-fails weighted_place _ place (omega arith) differs)

pub loop-place-preserved : goal.loop-place-preserved
loop-place-preserved c =
    let a = c.args in
    let place = c.loop-place.place in
    let agrees = unused a.count a.used a.block.now place (omega arith) (omega arith) ∙ eq-eqb _ _ (sym c.word-in-loop-place.ensures ∙ c.if-word-ne0.false) in
    every_more _ _ c.loop-place.invariant agrees

pub returns : goal.returns
unfolding fixed_hold
returns c =
    let place : c.loop-place.place ≡ weighted_place = omega arith in
    sym (rw place at c.loop-place.invariant)
