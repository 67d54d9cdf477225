-- `block::close` stores the weighted sum and the word that closes the sum with it. Assumes nothing.
use Rattle.std.proofs.Common.{◌≡◌, ℕ, ◌+◌, ◌-◌, ◌%◌, [], ◌∷◌, refl, ap, ◌∙◌, ap₂, arith}
use Rattle.blocks.specs.Block.{word_limit, weighted_place, closing_place, word_at, word_sum, weighted_sum, closes}
use Rattle.blocks.proofs.Words.{closes-left}
use Rattle.writer.specs.Steps.{store_words, close_block}
use Rattle.writer.proofs.Stored.{stored_next}
use Rattle.writer.proofs.block.close.Goals as goal

pub returns : goal.returns
unfolding close_block word_sum weighted_sum
returns c =
    let sums = c.sums_of-sums.ensures in
    let block = c.args.block.now in
    let sum : ℕ = (c.sums_of-sums.result.plain + c.sums_of-sums.result.weighted) % word_limit in
    let closing : ℕ = (0 + (word_limit - sum)) % word_limit in
    let last : closing ≡ closes ((word_sum weighted_place (word_at block) + weighted_sum (word_at block)) % word_limit) =
    closes-left closing sum (omega arith) (omega arith) (omega arith) ∙ ap closes (ap₂ (λ (p w : ℕ). (p + w) % word_limit) sums.plain sums.weighted)
    in
    stored_next block weighted_place (c.sums_of-sums.result.weighted ∷ []) (closing ∷ []) _ _ closing_place refl c.put.ensures c.put-2.ensures
    ∙ ap₂ (λ (w l : ℕ). store_words block weighted_place (w ∷ l ∷ [])) sums.weighted last
