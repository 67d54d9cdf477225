-- The file of a sheet whose entries are words is made of bytes. Assumes nothing.
use Prim.Native.Nat.{ℕ, zero, suc, ◌+◌, ◌-◌, ◌*◌, ◌<◌}
use native.Mathlib.Nat.{le_refl}
use native.Mathlib.Omega.{arith}
use mathlib.Core.List.{List, [], ◌∷◌, ◌++◌}
use lib.ListN.{length, replicate}
use Rattle.blocks.specs.Below.{joined}
use Rattle.blocks.specs.Block.{word_limit, weighted_place, bytes_of, listed, weighted_sum, closing, padded, weighed, closed, EachBelow}
use Rattle.sheet.specs.Layout.{block_rows, blocks_for, rows_in, count_word}
use Rattle.sheet.specs.File.{row, content, block_of, file_of, Contents}
use Rattle.blocks.proofs.Below.{further}

module _ (m : ℕ) (positive : 0 < m) where
  none_below : EachBelow m []
  none_below i = positive

  one_below : (x : ℕ) (xs : List ℕ) → x < m → EachBelow m xs → EachBelow m (x ∷ xs)
  one_below x xs h hs zero = h
  one_below x xs h hs (suc i) = hs i

  append-below : (xs ys : List ℕ) → EachBelow m xs → EachBelow m ys → EachBelow m (xs ++ ys)
  append-below [] ys hx hy i = hy i
  append-below (x ∷ xs) ys hx hy zero = hx 0
  append-below (x ∷ xs) ys hx hy (suc i) = append-below xs ys (λ k. hx (suc k)) hy i

  zeros_below : (n : ℕ) → EachBelow m (replicate n 0)
  zeros_below zero = none_below
  zeros_below (suc n) = one_below 0 (replicate n 0) positive (zeros_below n)

  joined-below : (n : ℕ) (f : ℕ → List ℕ) → ((k : ℕ) → k < n → EachBelow m (f k)) → EachBelow m (joined n f)
  unfolding joined
  joined-below zero f h = none_below
  joined-below (suc n) f h = append-below (joined n f) (f n) (joined-below n f (λ k l. h k (further l))) (h n (le_refl (suc n)))

-- words of 16 bits give bytes
bytes_below : (words : List ℕ) → EachBelow word_limit words → EachBelow 256 (bytes_of words)
unfolding bytes_of
bytes_below [] h i = omega arith
bytes_below (w ∷ ws) h zero = omega arith
bytes_below (w ∷ ws) h (suc zero) = omega (arith, h 0)
bytes_below (w ∷ ws) h (suc (suc i)) = bytes_below ws (λ k. h (suc k)) i

module _ (n separation : ℕ) (table tapes half_widths : List ℕ) (held : Contents n separation table tapes half_widths) (table-words : EachBelow word_limit table)
    (tapes-words : EachBelow word_limit tapes) (half-width-words : EachBelow word_limit half_widths) where
  row_below : (r : ℕ) → EachBelow word_limit (row table tapes half_widths r)
  unfolding row
  row_below r zero = table-words (2 * r)
  row_below r (suc zero) = table-words (2 * r + 1)
  row_below r (suc (suc zero)) = tapes-words (2 * r)
  row_below r (suc (suc (suc zero))) = tapes-words (2 * r + 1)
  row_below r (suc (suc (suc (suc zero)))) = half-width-words r
  row_below r (suc (suc (suc (suc (suc i))))) = omega arith

  content-below : (b : ℕ) → EachBelow word_limit (content n separation table tapes half_widths b)
  unfolding content
  content-below zero zero = omega arith
  content-below zero (suc zero) = omega arith
  content-below zero (suc (suc i)) = omega arith
  content-below (suc b) i = joined-below word_limit (omega arith) (rows_in n b) _ (λ k l. row_below (block_rows * b + k)) i

  count-below : (b : ℕ) → count_word n b < word_limit
  unfolding count_word
  count-below zero = omega arith
  count-below (suc b) = omega arith

  body_below : (b : ℕ) → b < blocks_for n → EachBelow word_limit (b ∷ count_word n b ∷ content n separation table tapes half_widths b)
  body_below b l zero = omega arith
  body_below b l (suc zero) = count-below b
  body_below b l (suc (suc i)) = content-below b i

  block-below : (b : ℕ) → b < blocks_for n → EachBelow word_limit (block_of n separation table tapes half_widths b)
  unfolding block_of closed weighed padded closing weighted_sum
  block-below b l =
      let some : 0 < word_limit = omega arith in
      let body : List ℕ = b ∷ count_word n b ∷ content n separation table tapes half_widths b in
      let zeros : List ℕ = replicate (weighted_place - length body) 0 in
      let words : List ℕ = padded body in
      append-below word_limit some (weighed words) (closing (weighed words) ∷ [])
      (append-below word_limit some words (weighted_sum (listed words) ∷ [])
      (append-below word_limit some body zeros (body_below b l) (zeros_below word_limit some (weighted_place - length body)))
      (one_below word_limit some _ [] (omega arith) (none_below word_limit some)))
      (one_below word_limit some _ [] (omega arith) (none_below word_limit some))

  pub file-bytes : EachBelow 256 (file_of n separation table tapes half_widths)
  unfolding file_of
  file-bytes = joined-below 256 (omega arith) (blocks_for n) _ (λ b l. bytes_below _ (block-below b l))
