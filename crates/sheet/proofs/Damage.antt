-- What the check sees: one word of a sound block changed, and two unequal words side by side swapped, give 10, of the reader's number and
-- of what a call returns; and so does a file from before word 254 was a check. Assumes nothing.
use mathlib.Core.Path.{◌≡◌, refl, sym, ap, ap₂, ◌∙◌}
use Prim.Native.Nat.{ℕ, suc, ◌+◌, ◌*◌, ◌/◌, ◌%◌, ◌≤◌, ◌<◌}
use native.Mathlib.Nat.{zero-mul, mod-eq_of_lt}
use native.Mathlib.Numerals.{add-one}
use native.Mathlib.Omega.{arith}
use mathlib.Core.Bool.{Bool, true, false}
use mathlib.Core.List.{List, [], ◌∷◌}
use lib.ListN.{length, get_or, drop, set, length-set}
use lib.Seq.{length-sets, get_or-set_same, get_or-set_other, get_or-take, get_or-drop}
use Rattle.refusal.proofs.After.{granted-refused, after-refused}
use Rattle.blocks.specs.Below.{total}
use Rattle.blocks.specs.Block.{block_words, block_bytes, block_count, word_limit, weighted_place, word_at, bytes_of, block_at, word_sum, weighted_sum, sound, EachBelow}
use Rattle.sheet.specs.Read.{nodes_of, separation_of, length_wrong, check_wrong, refusal, number_read, SheetRead}
use Rattle.sheet.specs.Damage.{file_word, with_word, swapped, Seen, OldHeader}
use Rattle.sheet.specs.Read.{Answer}
use Rattle.blocks.proofs.Below.{total_but_one, total-start, some-fails}
use Rattle.sheet.proofs.Answer.{long-enough}
use Rattle.blocks.proofs.Words.{word_below, sound-weighted, sound-sum, block-below}

-- ---- the words of a file with a word changed

-- a word's bytes, where they stand in the file
file_word_lem : (file : List ℕ) (b k : ℕ) → k < block_words
    → file_word file b k ≡ get_or file (block_bytes * b + 2 * k) 0 + 256 * get_or file (block_bytes * b + 2 * k + 1) 0
unfolding word_at block_at
file_word_lem file b k l =
    let next : block_bytes * b + (2 * k + 1) ≡ block_bytes * b + 2 * k + 1 = omega arith in
    let part : List ℕ = drop (block_bytes * b) file in
    ap₂ (λ (low high : ℕ). low + 256 * high)
    (get_or-take block_bytes part (2 * k) 0 (omega arith) ∙ get_or-drop (block_bytes * b) file (2 * k) 0)
    (get_or-take block_bytes part (2 * k + 1) 0 (omega arith)
    ∙ get_or-drop (block_bytes * b) file (2 * k + 1) 0
    ∙ ap (λ (i : ℕ). get_or file i 0) next)

module _ (file : List ℕ) (b k w : ℕ) where
  pub length_with : length (with_word file b k w) ≡ length file
  unfolding with_word
  length_with = length-sets file (block_bytes * b + 2 * k) (bytes_of (w ∷ []))

  module _ (there : block_bytes * b + block_bytes ≤ length file) (place : k < block_words) where
    abbrev at : ℕ
    at = block_bytes * b + 2 * k

    abbrev first : List ℕ
    first = set file at (w % 256)

    abbrev changed : List ℕ
    changed = set first (suc at) (w / 256)

    -- the words of the block afterwards
    with_same : file_word (with_word file b k w) b k ≡ w
    unfolding with_word bytes_of
    with_same =
        let low : get_or changed at 0 ≡ w % 256 =
        get_or-set_other first (suc at) at (w / 256) 0 (λ e. omega arith) ∙ get_or-set_same file at (w % 256) 0 (omega arith)
        in
        let high : get_or changed (at + 1) 0 ≡ w / 256 = rw add-one (get_or-set_same first (suc at) (w / 256) 0 (omega (arith, length-set file at (w % 256)))) in
        file_word_lem changed b k place ∙ omega arith

    other : (i : ℕ) → (i ≡ at → ⊥) → (i ≡ suc at → ⊥) → get_or changed i 0 ≡ get_or file i 0
    other i d e = get_or-set_other first (suc at) i (w / 256) 0 e ∙ get_or-set_other file at i (w % 256) 0 d

    with_other : (j : ℕ) → j < block_words → (j ≡ k → ⊥) → file_word (with_word file b k w) b j ≡ file_word file b j
    unfolding with_word bytes_of
    with_other j l d =
        file_word_lem changed b j l
        ∙ ap₂ (λ (low high : ℕ). low + 256 * high)
        (other (block_bytes * b + 2 * j) (λ e. d (omega arith)) (λ e. omega arith))
        (other (block_bytes * b + 2 * j + 1) (λ e. omega arith) (λ e. d (omega arith)))
        ∙ sym (file_word_lem file b j l)

-- ---- what is seen

module _ (damaged table tapes half_widths : List ℕ) (answer : Answer) (table' tapes' halfWidths' : List ℕ)
    (read : SheetRead damaged table tapes half_widths answer table' tapes' halfWidths') where
  seen : number_read damaged table tapes half_widths ≡ 10 → Seen table tapes half_widths answer table' tapes' halfWidths'
  seen ten =
      let refused : number_read damaged table tapes half_widths ≡ 0 → ⊥ = λ e. omega arith in
      let number : answer.number ≡ 10 = read.number ∙ ten in
      let nodes : answer.nodes ≡ 0 = read.nodes ∙ granted-refused _ _ 0 refused in
      let separation : answer.separation ≡ 0 = read.separation ∙ granted-refused _ _ 0 refused in
      record {
        refused = λ i. record { number = number i; nodes = nodes i; separation = separation i };
        table_kept = read.table-after ∙ after-refused _ _ table refused;
        tapes-kept = read.tapes-after ∙ after-refused _ _ tapes refused;
        half_widths-kept = read.half_widths-after ∙ after-refused _ _ half_widths refused;
      }

-- a file whose length passes 9 and whose block b is not sound gives 10, whatever else is in it
module _ (file : List ℕ) (b : ℕ) (size : length_wrong (length file) ≡ false) (there : b < block_count file) (unsound : sound (block_at file b) ≡ true → ⊥) where
  fails : (right : Bool) → sound (block_at file b) ≡ right → sound (block_at file b) ≡ false
  fails true e = absurd (unsound e)
  fails false e = e

  wrong : check_wrong file ≡ true
  wrong = sym (some-fails (block_count file) (λ c. sound (block_at file c)) b there (fails _ refl))

  gives_ten : (tableLength tapesLength halfWidthsLength : ℕ) → refusal file tableLength tapesLength halfWidthsLength ≡ 10
  unfolding refusal
  gives_ten t s h = rw (size, wrong)

module _ (file : List ℕ) (b : ℕ) (bytes : EachBelow 256 file) (size : length_wrong (length file) ≡ false) (there : b < block_count file)
    (check : sound (block_at file b) ≡ true) where
  room : block_bytes * b + block_bytes ≤ length file
  room = omega arith

  word_fits : (k : ℕ) → file_word file b k < word_limit
  word_fits k = word_below (block_at file b) k (block-below file b bytes)

  -- a word that is changed to another value
  module _ (k w : ℕ) (place : k < block_words) (fits : w < word_limit) (other : w ≡ file_word file b k → ⊥) where
    changed_unsound : sound (block_at (with_word file b k w) b) ≡ true → ⊥
    unfolding word_sum
    changed_unsound check' =
        let one = total_but_one block_words k (file_word file b) (file_word (with_word file b k w) b) place
        (λ j l d. sym (with_other file b k w room place j l d))
        in
        other
        (omega (arith, sound-sum (block_at file b) check, sound-sum (block_at (with_word file b k w) b) check', with_same file b k w room place, word_fits k))

    pub change-refused : (tableLength tapesLength halfWidthsLength : ℕ) → refusal (with_word file b k w) tableLength tapesLength halfWidthsLength ≡ 10
    change-refused =
        let same = length_with file b k w in
        gives_ten (with_word file b k w) b (rw same size) (rw same there) changed_unsound

    pub change-seen : (table tapes half_widths : List ℕ) (answer : Answer) (table' tapes' halfWidths' : List ℕ)
        → SheetRead (with_word file b k w) table tapes half_widths answer table' tapes' halfWidths'
        → Seen table tapes half_widths answer table' tapes' halfWidths'
    change-seen table tapes half_widths answer table' tapes' halfWidths' read =
        seen _ table tapes half_widths answer table' tapes' halfWidths' read (change-refused (length table) (length tapes) (length half_widths))

  -- two unequal words side by side, before the check words, that are swapped
  module _ (k : ℕ) (place : k + 1 < weighted_place) (unequal : file_word file b k ≡ file_word file b (k + 1) → ⊥) where
    abbrev left : ℕ
    left = file_word file b k

    abbrev right : ℕ
    right = file_word file b (k + 1)

    abbrev half : List ℕ
    half = with_word file b k right

    half_room : block_bytes * b + block_bytes ≤ length half
    half_room = omega (arith, length_with file b k right, room)

    swapped_unsound : sound (block_at (swapped file b k) b) ≡ true → ⊥
    unfolding weighted_sum
    swapped_unsound check' =
        let first = total_but_one weighted_place k (λ j. file_word file b j * (j + 1)) (λ j. file_word half b j * (j + 1)) (omega arith)
        (λ j l d. ap (λ (x : ℕ). x * (j + 1)) (sym (with_other file b k right room (omega arith) j (omega arith) d)))
        in
        let second = total_but_one weighted_place (k + 1) (λ j. file_word half b j * (j + 1)) (λ j. file_word (swapped file b k) b j * (j + 1)) place
        (λ j l d. ap (λ (x : ℕ). x * (j + 1)) (sym (with_other half b (k + 1) left half_room (omega arith) j (omega arith) d)))
        in
        let word-k : file_word half b k ≡ right = with_same file b k right room (omega arith) in
        let word_next : file_word half b (k + 1) ≡ right = with_other file b k right room (omega arith) (k + 1) (omega arith) (λ e. omega arith) in
        let word-last : file_word (swapped file b k) b (k + 1) ≡ left = with_same half b (k + 1) left half_room (omega arith) in
        let check-word : file_word (swapped file b k) b weighted_place ≡ file_word file b weighted_place =
        with_other half b (k + 1) left half_room (omega arith) weighted_place (omega arith) (λ e. omega arith)
        ∙ with_other file b k right room (omega arith) weighted_place (omega arith) (λ e. omega arith)
        in
        unequal
        (omega (
          arith,
          sound-weighted (block_at file b) check,
          sound-weighted (block_at (swapped file b k) b) check',
          first,
          second,
          ap (λ (x : ℕ). x * (k + 1)) word-k,
          ap (λ (x : ℕ). x * (k + 1 + 1)) word_next,
          ap (λ (x : ℕ). x * (k + 1 + 1)) word-last,
          check-word,
          word_fits k,
          word_fits (k + 1),
        ))

    pub swap_refused : (tableLength tapesLength halfWidthsLength : ℕ) → refusal (swapped file b k) tableLength tapesLength halfWidthsLength ≡ 10
    swap_refused =
        let same = length_with half b (k + 1) left ∙ length_with file b k right in
        gives_ten (swapped file b k) b (rw same size) (rw same there) swapped_unsound

    pub swap_seen : (table tapes half_widths : List ℕ) (answer : Answer) (table' tapes' halfWidths' : List ℕ)
        → SheetRead (swapped file b k) table tapes half_widths answer table' tapes' halfWidths'
        → Seen table tapes half_widths answer table' tapes' halfWidths'
    swap_seen table tapes half_widths answer table' tapes' halfWidths' read =
        seen _ table tapes half_widths answer table' tapes' halfWidths' read (swap_refused (length table) (length tapes) (length half_widths))

-- ---- files from before word 254 was a check

header-sum : (f : ℕ → ℕ) → total 4 f ≡ f 0 + f 1 + f 2 + f 3
unfolding total
header-sum f = omega arith

module _ (file : List ℕ) (old : OldHeader file) (size : length_wrong (length file) ≡ false) where
  -- the header weighs something, and word 254 is 0
  old_unsound : sound (block_at file 0) ≡ true → ⊥
  unfolding weighted_sum
  old_unsound check =
      let weighted = total-start 4 250 (λ k. file_word file 0 k * (k + 1)) (λ k l m. ap (λ (w : ℕ). w * (k + 1)) (old.others k l (omega arith)) ∙ zero-mul (k + 1)) in
      let sum : total weighted_place (λ k. file_word file 0 k * (k + 1)) ≡ 2 * file_word file 0 1 + (3 * nodes_of file + 4 * separation_of file) =
      weighted ∙ header-sum (λ k. file_word file 0 k * (k + 1)) ∙ omega (arith, old.place)
      in
      let small : total weighted_place (λ k. file_word file 0 k * (k + 1)) < word_limit = omega (arith, sum, old) in
      let zero_word = old.others weighted_place (omega arith) (omega arith) in
      omega (arith, sound-weighted (block_at file 0) check, mod-eq_of_lt small, sum, zero_word, old)

  pub old-refused : (tableLength tapesLength halfWidthsLength : ℕ) → refusal file tableLength tapesLength halfWidthsLength ≡ 10
  old-refused = gives_ten file 0 size (let long = long-enough (length file) size in omega arith) old_unsound
