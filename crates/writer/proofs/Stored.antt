-- Words stored in a block one after the other: at its start they are its first words. Assumes nothing.
use Rattle.std.proofs.Common.{◌≡◌, ℕ, ◌+◌, ◌*◌, ◌/◌, ◌%◌, ◌<◌, ◌≤◌, List, [], ◌∷◌, ◌++◌, length, get_or, drop, set, refl, ◌∙◌, add-one, arith}
use lib.ListN.{get_or-append}
use lib.Seq.{length-sets}
use Rattle.refusal.specs.After.{overwrite}
use Rattle.refusal.proofs.After.{sets_append, sets_start}
use Rattle.blocks.specs.Block.{word_at, bytes_of}
use Rattle.blocks.proofs.Words.{length-bytes, word_bytes}
use Rattle.writer.specs.Steps.{store_words}

-- ---- bytes of words

pub bytes-append : (words more : List ℕ) → bytes_of (words ++ more) ≡ bytes_of words ++ bytes_of more
unfolding bytes_of
bytes-append [] more = refl
bytes-append (w ∷ words) more = rw (bytes-append words more)

-- ---- stores

module _ (block : List ℕ) (k : ℕ) where
  pub store_none : store_words block k [] ≡ block
  unfolding store_words bytes_of
  store_none = refl

  -- a word's two bytes
  pub store_bytes : (w : ℕ) → set (set block (2 * k) (w % 256)) (2 * k + 1) (w / 256) ≡ store_words block k (w ∷ [])
  unfolding store_words bytes_of
  store_bytes w = rw add-one

  pub length-stored : (words : List ℕ) → length (store_words block k words) ≡ length block
  unfolding store_words
  length-stored words = length-sets block (2 * k) (bytes_of words)

  -- words stored behind others
  pub store_more : (words more : List ℕ) (j : ℕ) → j ≡ k + length words → store_words (store_words block k words) j more ≡ store_words block k (words ++ more)
  unfolding store_words
  store_more words more j e =
      let behind : 2 * j ≡ 2 * k + length (bytes_of words) = omega (arith, length-bytes words) in
      rw (behind, bytes-append) (sets_append block (2 * k) (bytes_of words) (bytes_of more))

  pub stored_next : (words more current last : List ℕ) (j : ℕ) → j ≡ k + length words → current ≡ store_words block k words
      → last ≡ store_words current j more
      → last ≡ store_words block k (words ++ more)
  stored_next words more current last j e isCurrent is_last = is_last ∙ rw isCurrent (store_more words more j e)

-- words stored from the first on
pub stored-start : (words old : List ℕ) → 2 * length words ≤ length old → store_words old 0 words ≡ overwrite (bytes_of words) old
unfolding store_words
stored-start words old room = sets_start (bytes_of words) old (omega (arith, length-bytes words))

-- and read
pub word-stored : (words old : List ℕ) (k : ℕ) → k < length words → word_at (overwrite (bytes_of words) old) k ≡ get_or words k 0
unfolding word_at overwrite
word-stored words old k l =
    let rest : List ℕ = drop (length (bytes_of words)) old in
    rw (
      get_or-append (bytes_of words) rest 0 (2 * k) (omega (arith, length-bytes words)),
      get_or-append (bytes_of words) rest 0 (2 * k + 1) (omega (arith, length-bytes words)),
    )
    (word_bytes words k)
