-- Blocks with few words that are not 0: their weights, and whether they are sound. By computation. Assumes nothing.
use Rattle.std.proofs.Common.{◌≡◌, ℕ, ◌-◌, true, false, List, [], ◌∷◌, ◌++◌, replicate, refl}
use Rattle.blocks.specs.Below.{total}
use Rattle.blocks.specs.Block.{closing_place, word_at, bytes_of, word_sum, weighted_sum, sound}

-- all words 0 but for word k, which is 1
abbrev single : ℕ → List ℕ
single k = bytes_of (replicate k 0 ++ 1 ∷ replicate (closing_place - k) 0)

-- the first word weighs 1, the last one 254, and the check words nothing; 65,536 is nothing
pub weights : (weighted_sum (word_at (single 0)) ≡ 1) × (weighted_sum (word_at (single 253)) ≡ 254) × (weighted_sum (word_at (single 254)) ≡ 0)
    × (weighted_sum (word_at (bytes_of (0 ∷ 32768 ∷ []))) ≡ 0)
unfolding total word_at bytes_of weighted_sum
weights = (refl, refl, refl, refl)

-- a block that is sound, one in which the plain sum alone is wrong, and one in which the weighted sum alone is
pub check_cases : (sound (bytes_of (1 ∷ replicate 253 0 ++ 1 ∷ 65534 ∷ [])) ≡ true) × (sound (single 255) ≡ false)
    × (sound (bytes_of (replicate 254 0 ++ 1 ∷ 65535 ∷ [])) ≡ false)
unfolding total word_at bytes_of word_sum weighted_sum sound
check_cases = (refl, refl, refl)

-- words two apart that differ by 32,768 weigh the same when they are swapped: both blocks are sound
pub two-apart : (sound (bytes_of (32768 ∷ replicate 253 0 ++ 32768 ∷ 0 ∷ [])) ≡ true)
    × (sound (bytes_of (0 ∷ 0 ∷ 32768 ∷ replicate 251 0 ++ 32768 ∷ 0 ∷ [])) ≡ true)
unfolding total word_at bytes_of word_sum weighted_sum sound
two-apart = (refl, refl)
