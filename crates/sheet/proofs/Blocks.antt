-- A walk over the blocks of a file with a test that stops at the first block that fails. Assumes nothing.
use mathlib.Core.Path.{◌≡◌, sym, ap, ◌∙◌}
use Prim.Native.Nat.{ℕ, ◌+◌, ◌<◌}
use mathlib.Core.Bool.{Bool, true, false, not}
use mathlib.Core.List.{List}
use borrow.Author.Tests.{not-true, not-false}
use Rattle.blocks.specs.Below.{every}
use Rattle.blocks.specs.Block.{block_count, block_at, IsBlock}
use Rattle.sheet.specs.Read.{some_block_fails}
use Rattle.blocks.proofs.Below.{every_more, some-fails}

-- the test holds for the blocks before block b
abbrev pub Passed : (ℕ → List ℕ → Bool) → List ℕ → ℕ → Type 0
Passed test file b = every b (λ k. test k (block_at file k)) ≡ true

module _ (test : ℕ → List ℕ → Bool) (file : List ℕ) where
  -- a turn: the test of block b gave the answer r
  module _ (b : ℕ) (block : List ℕ) (r : Bool) (isBlock : IsBlock file b block) (tested : r ≡ test b block) where
    answer : r ≡ test b (block_at file b)
    answer = tested ∙ ap (test b) isBlock.bytes

    pub block-fails : b < block_count file → not r ≡ true → true ≡ some_block_fails test file
    block-fails l h = some-fails (block_count file) _ b l (sym answer ∙ not-true r h)

    pub block_passes : Passed test file b → not r ≡ false → Passed test file (b + 1)
    block_passes all h = every_more b _ all (sym answer ∙ not-false r h)
