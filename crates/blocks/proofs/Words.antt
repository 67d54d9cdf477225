-- Words and their bytes, the blocks of a file, and the block that uses some words. Assumes nothing.
use Rattle.std.proofs.Common.{◌≡◌, ℕ, zero, suc, ◌+◌, ◌-◌, ◌*◌, ◌/◌, ◌%◌, ◌<◌, ◌≤◌, true, ◌&&◌, eqb, List, [], ◌∷◌, ◌++◌, length, get_or, take, drop, replicate, sym, refl, ap, ◌∙◌, ap₂, mul-zero, mul-suc, arith, length-append, length-drop, length-take, length-take-le, get_or-drop, get_or-take, eq-eqb, eqb-true}
use lib.ListN.{length-replicate, get_or-append, get_or-eq_default}
use lib.Seq.{get_or_at}
use Rattle.std.specs.Simd.{first_chunks}
use Rattle.std.proofs.lemmas.List.{drop-drop}
use Rattle.refusal.proofs.Truth.{and_left, and_right}
use Rattle.blocks.specs.Block.{block_words, block_bytes, word_limit, weighted_place, closing_place, word_at, bytes_of, block_at, listed, word_sum, weighted_sum, sound, closes, closing, padded, weighed, closed, EachBelow}
use Rattle.blocks.proofs.Below.{split, total-more, total_cong}

pub length-bytes : (words : List ℕ) → length (bytes_of words) ≡ 2 * length words
unfolding bytes_of
length-bytes [] = refl
length-bytes (w ∷ ws) = omega (arith, length-bytes ws)

-- the bytes of words are read as these words
pub word_bytes : (words : List ℕ) (k : ℕ) → word_at (bytes_of words) k ≡ get_or words k 0
unfolding word_at bytes_of
word_bytes [] k = refl
word_bytes (w ∷ ws) zero = omega arith
word_bytes (w ∷ ws) (suc k) =
    let low : 2 * suc k ≡ suc (suc (2 * k)) = omega arith in
    let high : 2 * suc k + 1 ≡ suc (suc (2 * k + 1)) = omega arith in
    rw (high, low) (word_bytes ws k)

-- words that a block's bytes are read as give these bytes back
pub bytes-words : (words block : List ℕ) → length block ≡ 2 * length words → EachBelow 256 block
    → ((k : ℕ) → k < length words → get_or words k 0 ≡ word_at block k)
    → bytes_of words ≡ block
unfolding word_at bytes_of
bytes-words [] [] size fits same = refl
bytes-words [] (x ∷ block) size fits same = absurd (omega arith)
bytes-words (w ∷ ws) [] size fits same = absurd (omega arith)
bytes-words (w ∷ ws) (x ∷ []) size fits same = absurd (omega arith)
bytes-words (w ∷ ws) (x ∷ y ∷ block) size fits same =
    let word : w ≡ x + 256 * y = same 0 (omega arith) in
    let low : w % 256 ≡ x = omega (arith, fits 0) in
    let high : w / 256 ≡ y = omega (arith, fits 0) in
    ap₂ (λ (a b : ℕ). a ∷ b ∷ bytes_of ws) low high
    ∙ ap (λ (rest : List ℕ). x ∷ y ∷ rest) (bytes-words ws block (omega arith) (λ i. fits (suc (suc i))) (λ k l. next k (same (suc k) (further l))))
  where
    further : {k : ℕ} → k < length ws → suc k < suc (length ws)
    further l = omega arith

    next : (k : ℕ) → get_or ws k 0 ≡ word_at (x ∷ y ∷ block) (suc k) → get_or ws k 0 ≡ word_at block k
    next k e =
        let even : 2 * suc k ≡ suc (suc (2 * k)) = omega arith in
        let odd : 2 * suc k + 1 ≡ suc (suc (2 * k + 1)) = omega arith in
        rw (odd, even) at e

-- bytes give words of 16 bits
pub word_below : (block : List ℕ) (k : ℕ) → EachBelow 256 block → word_at block k < word_limit
unfolding word_at
word_below block k fits = omega (arith, fits (2 * k), fits (2 * k + 1))

-- chunk i of a slice's chunks of n
pub chunk_at : (n count i : ℕ) (xs : List ℕ) → i < count → get_or (first_chunks n count xs) i [] ≡ take n (drop (n * i) xs)
chunk_at n zero i xs l = absurd (omega arith)
chunk_at n (suc count) zero xs l = rw mul-zero refl
chunk_at n (suc count) (suc i) xs l =
    let place : n + n * i ≡ n * suc i = omega (arith, mul-suc n i) in
    chunk_at n count i (drop n xs) (omega arith) ∙ ap (take n) (drop-drop (n * i) n xs ∙ ap (λ (from : ℕ). drop from xs) place)

-- a block of a file is whole, and made of the file's bytes
pub length-block : (file : List ℕ) (b : ℕ) → block_bytes * b + block_bytes ≤ length file → length (block_at file b) ≡ block_bytes
unfolding block_at
length-block file b h = length-take-le block_bytes (drop (block_bytes * b) file) (omega (arith, length-drop (block_bytes * b) file))

pub block-below : (file : List ℕ) (b : ℕ) → EachBelow 256 file → EachBelow 256 (block_at file b)
unfolding block_at
block-below file b fits i =
    split block_bytes i
    (λ l.
    let past = get_or-eq_default (take block_bytes (drop (block_bytes * b) file)) 0 {n = i}
    (omega (arith, length-take block_bytes (drop (block_bytes * b) file)))
    in
    omega arith)
    (λ l.
    let same = get_or-take block_bytes (drop (block_bytes * b) file) i 0 l ∙ get_or-drop (block_bytes * b) file i 0 in
    omega (arith, fits (block_bytes * b + i)))

-- zeros after a list are what stands past its end
get_or_zeros : (words : List ℕ) (m k : ℕ) → get_or (words ++ replicate m 0) k 0 ≡ get_or words k 0
get_or_zeros [] zero k = refl
get_or_zeros [] (suc m) zero = refl
get_or_zeros [] (suc m) (suc k) = get_or_zeros [] m k
get_or_zeros (w ∷ ws) m zero = refl
get_or_zeros (w ∷ ws) m (suc k) = get_or_zeros ws m k

-- sums over equal words
pub sum_cong : (count : ℕ) (f g : ℕ → ℕ) → ((k : ℕ) → k < count → f k ≡ g k) → word_sum count f ≡ word_sum count g
unfolding word_sum
sum_cong count f g h = ap (λ (sum : ℕ). sum % word_limit) (total_cong count f g h)

pub weighted_cong : (f g : ℕ → ℕ) → ((k : ℕ) → k < weighted_place → f k ≡ g k) → weighted_sum f ≡ weighted_sum g
unfolding weighted_sum
weighted_cong f g h =
    ap (λ (sum : ℕ). sum % word_limit) (total_cong weighted_place _ _ (λ k l. ap (λ (w : ℕ). w * (k + 1)) (h k l)))

-- a sum with one word more
pub sum_more : (count : ℕ) (word : ℕ → ℕ) (sum w more : ℕ) → sum ≡ word_sum count word → w ≡ word count → more ≡ (sum + w) % word_limit
    → more ≡ word_sum (count + 1) word
unfolding word_sum
sum_more count word sum w more isSum isWord isMore = omega (arith, total-more count word)

-- what brings a sum to zero closes it
pub closes-left : (w sum : ℕ) → (w + sum) % word_limit ≡ 0 → w < word_limit → sum < word_limit → w ≡ closes sum
closes-left w sum e wordFits sumFits = omega arith

-- a word that brings the sum of all words to zero, and no other
pub closes-sum : (word : ℕ → ℕ) → word closing_place ≡ closes (word_sum closing_place word) → word_sum block_words word ≡ 0
unfolding word_sum
closes-sum word e = omega (arith, total-more closing_place word)

pub closes_unique : (word : ℕ → ℕ) → word_sum block_words word ≡ 0 → word closing_place < word_limit → word closing_place ≡ closes (word_sum closing_place word)
unfolding word_sum
closes_unique word sum fit = closes-left _ _ (omega (arith, total-more closing_place word)) fit (omega arith)

-- what is known of a sound block
pub sound-weighted : (block : List ℕ) → sound block ≡ true → word_at block weighted_place ≡ weighted_sum (word_at block)
unfolding sound
sound-weighted block check = eqb-true _ _ (and_left _ _ check)

pub sound-sum : (block : List ℕ) → sound block ≡ true → word_sum block_words (word_at block) ≡ 0
unfolding sound
sound-sum block check = eqb-true _ _ (and_right (eqb (word_at block weighted_place) (weighted_sum (word_at block))) _ check)

-- a block that uses these words
module _ (words : List ℕ) (fits : length words ≤ weighted_place) where
  pub length-padded : length (padded words) ≡ weighted_place
  unfolding padded
  length-padded =
      omega (arith, length-append words (replicate (weighted_place - length words) 0), length-replicate {A = ℕ} (weighted_place - length words) 0)

  pub length-weighed : length (weighed (padded words)) ≡ closing_place
  unfolding weighed
  length-weighed = omega (arith, length-padded, length-append (padded words) (weighted_sum (listed (padded words)) ∷ []))

  -- all its words
  abbrev pub whole : List ℕ
  whole = closed (weighed (padded words))

  pub length_whole : length whole ≡ block_words
  unfolding closed
  length_whole = omega (arith, length-weighed, length-append (weighed (padded words)) (closing (weighed (padded words)) ∷ []))

  before-closing : (k : ℕ) → k < closing_place → get_or whole k 0 ≡ get_or (weighed (padded words)) k 0
  unfolding closed
  before-closing k l = get_or-append (weighed (padded words)) (closing (weighed (padded words)) ∷ []) 0 k (omega (arith, length-weighed))

  pub before-weighted : (k : ℕ) → k < weighted_place → get_or (weighed (padded words)) k 0 ≡ get_or (padded words) k 0
  unfolding weighed
  before-weighted k l = get_or-append (padded words) (weighted_sum (listed (padded words)) ∷ []) 0 k (omega (arith, length-padded))

  pub at-weighted : get_or (weighed (padded words)) weighted_place 0 ≡ weighted_sum (listed (padded words))
  unfolding weighed
  at-weighted = get_or_at (padded words) (weighted_sum (listed (padded words))) [] 0 weighted_place length-padded

  before_check : (k : ℕ) → k < weighted_place → get_or whole k 0 ≡ get_or (padded words) k 0
  before_check k l = before-closing k (omega arith) ∙ before-weighted k l

  pub get_or_whole : (k : ℕ) → k < weighted_place → get_or whole k 0 ≡ get_or words k 0
  unfolding padded
  get_or_whole k l = before_check k l ∙ get_or_zeros words (weighted_place - length words) k

  -- its check words
  weighted-word : get_or whole weighted_place 0 ≡ weighted_sum (listed whole)
  weighted-word = before-closing weighted_place (omega arith) ∙ at-weighted ∙ sym (weighted_cong _ _ before_check)

  closing-word : get_or whole closing_place 0 ≡ closes (word_sum closing_place (listed whole))
  unfolding closed closing
  closing-word =
      get_or_at (weighed (padded words)) (closing (weighed (padded words))) [] 0 closing_place length-weighed
      ∙ ap closes (sym (sum_cong closing_place _ _ before-closing))

  -- it is sound
  pub whole-sound : sound (bytes_of whole) ≡ true
  unfolding sound
  whole-sound =
      ap (λ (word : ℕ → ℕ). eqb (word weighted_place) (weighted_sum word) && eqb (word_sum block_words word) 0) (λ i k. word_bytes whole k i)
      ∙ rw (eq-eqb _ _ weighted-word) (eq-eqb _ _ (closes-sum (listed whole) closing-word))

  -- and a sound block with these words before the check words has all words of it
  module _ (block : List ℕ) (same : (k : ℕ) → k < weighted_place → get_or words k 0 ≡ word_at block k) (check : sound block ≡ true)
      (fit : word_at block closing_place < word_limit) where
    same-before : (k : ℕ) → k < closing_place → get_or whole k 0 ≡ word_at block k
    same-before k l =
        split weighted_place k
        (λ h.
        let last : k ≡ weighted_place = omega arith in
        rw last (weighted-word ∙ weighted_cong _ _ (λ j m. get_or_whole j m ∙ same j m) ∙ sym (sound-weighted block check)))
        (λ h. get_or_whole k h ∙ same k h)

    pub whole_unique : (k : ℕ) → k < block_words → get_or whole k 0 ≡ word_at block k
    whole_unique k l =
        split closing_place k
        (λ h.
        let last : k ≡ closing_place = omega arith in
        rw last
        (closing-word ∙ ap closes (sum_cong closing_place _ _ same-before) ∙ sym (closes_unique (word_at block) (sound-sum block check) fit)))
        (λ h. same-before k h)
