-- The loop that stores the levels as long as the dots on each suffice. Assumes nothing.
use Rattle.std.proofs.Common.{ℕ, ◌≡◌, ◌-◌, List, get_or, set, arith}
use mathlib.Core.Path.{subst}
use Rattle.trees_of_dots.proofs.Descent.{Descending, some_level, descend_start, descend_next, descend_passed, descend_end}
use Rattle.trees_of_dots.proofs.search.descend.Goals as goal

pub bounds-levels-0 : goal.bounds-levels-0
bounds-levels-0 c = some_level _ _ _ c.requires

pub loop-node-init : goal.loop-node-init
loop-node-init c = descend_start _ _ _ c.requires

-- one dot of the level is taken
one_taken : {n place node behind rest dots : ℕ} {profile levels : List ℕ} (left : List ℕ) (level : ℕ)
    → Descending n place profile (set left level (get_or left level 0 - 1)) levels behind rest node → get_or left level 0 - 1 ≡ dots
    → Descending n place profile (set left level dots) levels behind rest node
one_taken {n} {place} {node} {behind} {rest} {profile = profile} {levels = levels} left level D fewer =
    subst (λ (k : ℕ). Descending n place profile (set left level k) levels behind rest node) fewer D

-- in a turn: the dots suffice, or they do not
pub loop-node-preserved : goal.loop-node-preserved
loop-node-preserved c =
    let enough = c.in-Some.ensures in
    one_taken _ _ (descend_next _ _ _ _ _ _ _ _ c.loop-node.invariant (omega arith) _ c.choose-behind.ensures c.requires.few (omega (arith, enough.0)))
    (omega (arith, enough.0, enough.1))

pub returns-in_default : goal.returns-in_default
returns-in_default c =
    let none = c.in_default.ensures in
    rw c.ways.ensures (descend_passed _ _ _ _ _ _ _ _ c.loop-node.invariant (omega arith) _ c.choose-behind.ensures c.requires.few (omega (arith, none)))

pub returns : goal.returns
returns c = descend_end _ _ _ _ _ _ _ _ c.loop-node.invariant (omega arith)
