-- `check::is_sound` says whether a block's check is right. Assumes nothing.
use Rattle.std.proofs.Common.{Bool, ◌&&◌, eqb, sym, ap, ◌∙◌, eq-eqb, ne_eqb, refl}
use Rattle.blocks.specs.Block.{block_words, weighted_place, closing_place, word_at, word_sum, weighted_sum, sound}
use Rattle.blocks.proofs.Words.{sum_more}
use Rattle.blocks.proofs.check.is_sound.Goals as goal

pub returns-then-weighted-sums : goal.returns-then-weighted-sums
unfolding sound weighted_sum word_sum
returns-then-weighted-sums c =
    let block = c.args.block.now in
    let word = c.word-weighted.ensures in
    let sums = c.sums_of-sums.ensures in
    let right = eq-eqb (word_at block weighted_place) (weighted_sum (word_at block)) (sym word ∙ c.if-weighted-sums.true ∙ sums.weighted) in
    let before = sum_more weighted_place (word_at block) _ _ _ sums.plain word refl in
    let sum = sum_more closing_place (word_at block) _ _ _ before c.word.ensures refl in
    rw (right, sum)

pub returns-else-weighted-sums : goal.returns-else-weighted-sums
unfolding sound weighted_sum
returns-else-weighted-sums c =
    let block = c.args.block.now in
    let word = c.word-weighted.ensures in
    let sums = c.sums_of-sums.ensures in
    let differs = ne_eqb (word_at block weighted_place) (weighted_sum (word_at block)) (λ e. c.if-weighted-sums.false (word ∙ e ∙ sym sums.weighted)) in
    ne_eqb _ _ c.if-weighted-sums.false ∙ sym (ap (λ (right : Bool). right && eqb (word_sum block_words (word_at block)) 0) differs)
