-- Both sums of a row of words, and how they are come by: from the last word down, and over eight lanes side by side.
use Rattle.std.specs.Prelude.{◌≡◌, ℕ, suc, ◌+◌, ◌*◌, ◌%◌, ◌<◌, cond, List, length, get_or, nat_lt}
use Rattle.blocks.specs.Below.{total}
use Rattle.blocks.specs.Block.{word_limit, weighted_place, word_at}
use Rattle.blocks.specs.declared.check.Sums.{Sums}

-- the sums of f 0, .., f (count − 1), modulo 65,536: plain, and weighted by one more than the index
pub record Summed (count : ℕ) (f : ℕ → ℕ) (s : Sums) : Type 0 where
  pub plain : s.plain ≡ total count f % word_limit
  pub weighted : s.weighted ≡ total count (λ i. f i * (i + 1)) % word_limit

-- the sums with one word more, in front of the others
pub record More (s : Sums) (word : ℕ) (r : Sums) : Type 0 where
  pub plain : r.plain ≡ (s.plain + word) % word_limit
  pub weighted : r.weighted ≡ (s.weighted + r.plain) % word_limit

-- word k of a block as it is summed: the check words count nothing
abbrev pub summed_word : List ℕ → ℕ → ℕ
summed_word block k = cond (nat_lt k weighted_place) (word_at block k) 0

-- every eighth of these words, from word k on
abbrev pub eighths : List ℕ → ℕ → ℕ → ℕ
eighths block k i = summed_word block (k + 8 * i)

-- how many lanes there are
abbrev pub lane_count : ℕ
lane_count = 8

-- the sums of lane j
abbrev pub lane : List Sums → ℕ → Sums
lane lanes j = get_or lanes j (record { plain = 0; weighted = 0 })

-- some lanes with a word more in each, those from word k on
abbrev pub EachMore : List ℕ → ℕ → List Sums → List Sums → Type 0
EachMore block k l r = (j : ℕ) → j < length l → More (lane l j) (word_at block (k + j)) (lane r j)

-- the lanes of 8 × count words of a block, from word k on
pub record SideBySide (block : List ℕ) (k count : ℕ) (lanes : List Sums) : Type 0 where
  pub each : (j : ℕ) → j < lane_count → Summed count (eighths block (k + j)) (lane lanes j)

-- lanes with eight words more, in front of the others
abbrev pub Grouped : List ℕ → ℕ → List Sums → List Sums → Type 0
Grouped block k l r = (count : ℕ) → SideBySide block (k + 8) count l → SideBySide block k (suc count) r

-- the sums of the words of all lanes
abbrev pub Together : List Sums → Sums → Type 0
Together l r = (block : List ℕ) (k count : ℕ) → SideBySide block k count l → Summed (8 * count) (λ i. summed_word block (k + i)) r
