-- `conditions::some_block_fails` says whether a test fails for a block. The invariant: the blocks passed hold. Assumes nothing.
use Rattle.std.proofs.Common.{◌≡◌, ℕ, Bool, List, Bor}
use Rattle.sheet.proofs.Blocks.{Passed}
use Rattle.sheet.proofs.conditions.some_block_fails.Given as goal

abbrev pub invariant-loop-place : goal.invariant-loop-place
invariant-loop-place g l =
    goal.F-IsAlwaysCallable g l.test
    × ((t : ℕ → List ℕ → Bool) → ((place : ℕ) (block : Bor (List ℕ)) (r : Bool) → goal.F-post g l.test place block r → r ≡ t place block.now) → Passed t l.file l.place)
