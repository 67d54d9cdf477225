-- A file as blocks of words: 256 words of 16 bits to a block, the low byte first. Its last two are check words: the weighted sum of
-- the words before it, and the closing word, with which all 256 add up to zero, both modulo 65,536. Word 0 is the block's place.
use Rattle.std.specs.Prelude.{◌≡◌, ℕ, ◌+◌, ◌-◌, ◌*◌, ◌/◌, ◌%◌, ◌<◌, Bool, ◌&&◌, List, [], ◌∷◌, ◌++◌, length, take, drop, replicate, ◌==◌, slice_index}
use Rattle.blocks.specs.Below.{total}

abbrev pub block_words : ℕ
block_words = 256

abbrev pub block_bytes : ℕ
block_bytes = 512

-- words wrap at this number
abbrev pub word_limit : ℕ
word_limit = 65536

-- the places of the check words: of the weighted sum, and of the closing word
abbrev pub weighted_place : ℕ
weighted_place = 254

abbrev pub closing_place : ℕ
closing_place = 255

-- how many blocks a file has
abbrev pub block_count : List ℕ → ℕ
block_count file = length file / block_bytes

-- the bytes of block b of a file, counted from 0
unfoldable pub block_at : List ℕ → ℕ → List ℕ
block_at file b = take block_bytes (drop (block_bytes * b) file)

-- word k of a block's bytes
unfoldable pub word_at : List ℕ → ℕ → ℕ
word_at block k = slice_index block (2 * k) + 256 * slice_index block (2 * k + 1)

-- the bytes of words in order
unfoldable pub bytes_of : List ℕ → List ℕ
bytes_of [] = []
bytes_of (w ∷ ws) = w % 256 ∷ w / 256 ∷ bytes_of ws

-- word k of a list, and 0 past its end
abbrev pub listed : List ℕ → ℕ → ℕ
listed words k = slice_index words k

-- the sum of the first words, modulo 65,536
unfoldable pub word_sum : ℕ → (ℕ → ℕ) → ℕ
word_sum count word = total count word % word_limit

-- the sum over words 0 to 253 of the word times one more than its index, modulo 65,536
unfoldable pub weighted_sum : (ℕ → ℕ) → ℕ
weighted_sum word = total weighted_place (λ k. word k * (k + 1)) % word_limit

-- a block's check: word 254 is the weighted sum, and the sum of all words is zero
unfoldable pub sound : List ℕ → Bool
sound block = word_at block weighted_place == weighted_sum (word_at block) && word_sum block_words (word_at block) == 0

-- the word that brings a sum to zero
abbrev pub closes : ℕ → ℕ
closes sum = (word_limit - sum) % word_limit

-- the word that closes the sum over the words before it
unfoldable pub closing : List ℕ → ℕ
closing words = closes (word_sum closing_place (listed words))

-- words with 0 after them up to the check words
unfoldable pub padded : List ℕ → List ℕ
padded words = words ++ replicate (weighted_place - length words) 0

-- words with their weighted sum after them
unfoldable pub weighed : List ℕ → List ℕ
weighed words = words ++ weighted_sum (listed words) ∷ []

-- words with the closing word after them
unfoldable pub closed : List ℕ → List ℕ
closed words = words ++ closing words ∷ []

-- a block's first word is its place
unfoldable pub in_place : ℕ → List ℕ → Bool
in_place b block = word_at block 0 == b

-- a part of a file is its block b, whole
pub record IsBlock (file : List ℕ) (b : ℕ) (part : List ℕ) : Type 0 where
  pub bytes : part ≡ block_at file b
  pub size : length part ≡ block_bytes

-- every entry is below m
abbrev pub EachBelow : ℕ → List ℕ → Type 0
EachBelow m entries = (i : ℕ) → slice_index entries i < m
