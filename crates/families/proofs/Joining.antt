-- What the join of one child starts from: the row, the child, and why neither shares a node with the other nor lies far out.
-- Assumes nothing.
use mathlib.Core.Path.{◌≡◌, sym, ap, ap₂, ◌∙◌, subst}
use mathlib.Core.List.{List}
use Prim.Native.Nat.{ℕ, suc, ◌+◌, ◌-◌, ◌≤◌, ◌<◌}
use native.Mathlib.Omega.{arith}
use lib.IntN.{ℤ, pos, ◌+ℤ◌}
use Rattle.tree.specs.Table.{nodes}
use Rattle.tree.specs.Forest.{Forest, nil, node, tree_of, preorder}
use Rattle.tree.specs.Numbers.{count}
use Rattle.tree.proofs.Counting.{All}
use Rattle.tree.proofs.Stands.{accepted-numbers}
use Rattle.tree.proofs.Joined.{Some}
use Rattle.rule.specs.Drawing.{Drawing, none, width, place_at, last_place, Dot, row_dots}
use Rattle.rule.specs.Join.{Spacing, start, alone, movement, meetings}
use Rattle.rule.specs.Join as rule
use Rattle.rule.proofs.Names.{names-draw, nodes-dots, nodes-row_dots}
use Rattle.rule.proofs.Spacing.{Row as RuleRow, Child, row-draw_onto, row-none}
use Rattle.rule.proofs.OnLevel.{OnLevel}
use Rattle.rule.proofs.Lookup.{on-names}
use Rattle.level_order.specs.LevelOrder.{first_at}
use Rattle.level_order.specs.Fields.{get, NEED, PLACE, LEFT, RIGHT}
use Rattle.level_order.specs.Spaced.{table_of}
use Rattle.level_order.specs.declared.spaced_tree.SpacedTree.{SpacedTree}
use Rattle.level_order.proofs.Positions.{Ordered, run, family, run-node, run-nil, laid-run}
use Rattle.level_order.proofs.InOrder.{ordered}
use Rattle.level_order.proofs.Fielded.{needed-at}
use Rattle.level_order.proofs.Occurs.{times_cut}
use Rattle.contours.specs.Contours.{LeftSteps, RightSteps}
use Rattle.contours.specs.Rows.{row_drawn, children_drawn}
use Rattle.contours.proofs.Runs.{Runs, runs_draw, runs_alone}
use Rattle.contours.proofs.Walk.{Join, Fields}
use Rattle.contours.proofs.Places.{row_more, row-width, join-new, last_place_lem, start-place}
use Rattle.contours.proofs.Steps.{subtree-left, subtree-right}
use Rattle.contours.proofs.RowNext.{fields_of, the_width, rule_row, rule_child, the_join}
use Rattle.contours.proofs.Bounds.{row_bound}
use Rattle.families.specs.Joining.{spacing_of, columns_of, occurs, Given, Siblings, Rowed, Waiting}

-- a spaced tree's distances are no more than the walk can add up
pub given_of : (s : SpacedTree) → Given (table_of s) (spacing_of s)
given_of s = record { accepted = s.table.well_formed; high = s.high; little = s.little }

pub record Joins (t : List ℕ) (D : Spacing) (f c end default : ℕ) (before : List ℤ) : Type 0 where
  pub given : Given t D
  pub rowed : Rowed t D f c end default before
  pub waiting : Waiting t D f end c before
  pub inside : c < end

-- those of a spaced tree
pub joins_of : (s : SpacedTree) {f c end default : ℕ} {before : List ℤ} → Rowed (table_of s) (spacing_of s) f c end default before
    → Waiting (table_of s) (spacing_of s) f end c before → c < end → Joins (table_of s) (spacing_of s) f c end default before
joins_of s R W h = record { given = given_of s; rowed = R; waiting = W; inside = h }

-- the same, with what it speaks of
pub record Joining : Type 0 where
  pub t : List ℕ
  pub D : Spacing
  pub f : ℕ
  pub c : ℕ
  pub end : ℕ
  pub default : ℕ
  pub before : List ℤ
  pub joins : Joins t D f c end default before

abbrev pub joining : {t : List ℕ} {D : Spacing} {f c end default : ℕ} {before : List ℤ} → Joins t D f c end default before → Joining
joining {t} {D} {f} {c} {end} {default} {before} H =
    record { t = t; D = D; f = f; c = c; end = end; default = default; before = before; joins = H }

module _ (K : Joining) where
  open K use {t, D, f, c, end, default, before}

  abbrev pub first : ℕ → ℕ
  first = first_at (tree_of t)

  abbrev n : ℕ
  n = nodes t

  abbrev pub O : Ordered first n
  O = ordered t K.joins.given.accepted

  pub few : n ≤ 1024
  few = (accepted-numbers t K.joins.given.accepted).few

  abbrev pub S : Siblings t f c end
  S = K.joins.rowed.siblings

  -- the drawings of the row and of what is below the child, and where the child starts
  abbrev pub row : Drawing
  row = row_drawn first n D f c

  abbrev pub child : Drawing
  child = children_drawn first n D c

  abbrev pub start_at : ℕ
  start_at = start D.need row c

  -- the join as the walk has it, and the fields that it starts from
  abbrev pub J : Join
  J = the_join first n O D f c end default S.some K.joins.inside S.fits (columns_of before)

  abbrev pub F : Fields
  F = fields_of (columns_of before)

  pub row-wide : width row ≡ c - f
  row-wide = the_width first n O D f c end default S.some K.joins.inside S.fits

  pub spaced-row : RuleRow D.need (width row) J.row
  spaced-row = rule_row first n O D f c end default S.some K.joins.inside S.fits

  pub spaced-child : Child D.need (width row) J.child
  spaced-child = rule_child first n O D f c end default S.some K.joins.inside S.fits

  pub small_n : c < n
  small_n = omega (arith, K.joins.inside, S.fits)

  -- ---- no position is both in the row and in the child

  pub occurs-next : (z : ℕ) → occurs t f (suc c) z ≡ occurs t f c z + occurs t c (suc c) z
  occurs-next z = times_cut first n O f c (suc c) z (omega (arith, S.some)) (omega arith) small_n

  pub apart : (z : ℕ) → 1 ≤ occurs t f c z → 1 ≤ occurs t c (suc c) z → ⊥
  apart z h g =
      omega (arith, h, g, occurs-next z, times_cut first n O f (suc c) end z (omega (arith, S.some)) K.joins.inside S.fits, S.alone z)

  pub row_on : (e : Dot) (l : ℕ) → OnLevel e l J.row → 1 ≤ occurs t f c e.node
  row_on e l o =
      subst (λ (g : Forest). 1 ≤ count e.node (preorder g)) (names-draw D (run first n f c))
      (on-names row J.row (nodes-row_dots 0 row) o)

  pub child-on : (e : Dot) (l : ℕ) → OnLevel e l J.child → 1 ≤ occurs t c (suc c) e.node
  child-on e l o =
      subst (λ (g : Forest). 1 ≤ count e.node (preorder g))
      (ap (λ (g : Forest). node c g nil) (names-draw D (family first n c))
      ∙ sym (run-node first n O c (suc c) (omega arith) small_n ∙ ap (node c (family first n c)) (run-nil first n O (suc c) (suc c) (omega arith))))
      (on-names (alone c start_at child) J.child (nodes-dots (width row) (pos 0) (alone c start_at child)) o)

  -- ---- runs and contours

  pub row_runs : Runs first f c J.row
  row_runs = runs_draw first n O D f c (omega (arith, S.some)) (omega (arith, small_n))

  pub child_runs : Runs first c (suc c) J.child
  child_runs = runs_alone first n O D (width row) c start_at small_n

  below-some : All Some (row_dots 0 child)
  below-some = (row-draw_onto D none (family first n c) row-none).some

  pub child-left : LeftSteps (get before LEFT) J.child
  child-left =
      let P = K.joins.waiting.subtree in
      subtree-left (get before LEFT) (get before RIGHT) c (width row) start_at child below-some P.left-row P.left-root

  pub child-right : RightSteps (get before RIGHT) J.child
  child-right =
      let P = K.joins.waiting.subtree in
      subtree-right (get before LEFT) (get before RIGHT) c (width row) start_at child below-some P.right-row P.right-root

  -- ---- where the child starts and where it ends

  pub last-at : get before PLACE (c - 1) ≡ pos (last_place row)
  last-at =
      K.joins.rowed.row.settled (c - 1) (omega (arith, S.some))
      ∙ ap pos (sym (last_place_lem row (c - 1 - f) (omega (arith, row-wide, S.some))))

  pub start_at_lem : start_at ≡ last_place row + D.need (c - 1) c
  start_at_lem =
      start-place D.need first row f c c (c - f - 1) (rw names-draw (laid-run first n O f c (omega (arith, S.some)) (omega (arith, small_n))))
      (omega (arith, row-wide, S.some))
      ∙ ap (λ (k : ℕ). k + D.need (c - 1) c) (sym (last_place_lem row (c - f - 1) (omega (arith, row-wide, S.some))))

  -- what the child needs from the one before it
  pub need-here : get before NEED c ≡ pos (D.need (c - 1) c)
  need-here = needed-at K.joins.rowed.numbered c (omega (arith, S.some)) small_n

  pub start-here : get before PLACE (c - 1) +ℤ get before NEED c ≡ pos start_at
  start-here = ap₂ ◌+ℤ◌ last-at need-here ∙ ap pos (sym start_at_lem)

  pub next_last : last_place (row_drawn first n D f (suc c)) ≡ start_at + movement D.extra (meetings D.need row c child)
  next_last =
      last_place_lem (row_drawn first n D f (suc c)) (c - f) (row-width first n O D (suc (c - f)) f (suc c) (omega (arith, S.some)) small_n)
      ∙ ap (λ (d : Drawing). place_at d (c - f)) (row_more first n O D f c (omega (arith, S.some)) small_n)
      ∙ ap (place_at (rule.join D row c child)) (sym row-wide)
      ∙ join-new D row c child

  pub next_bound : last_place (row_drawn first n D f (suc c)) ≤ 2094592
  next_bound = row_bound first n O D few K.joins.given.high K.joins.given.little f (suc c) (omega (arith, S.some)) small_n (omega (arith, S.one_level, K.joins.inside))

  pub row_last_bound : last_place row ≤ 2094592
  row_last_bound = row_bound first n O D few K.joins.given.high K.joins.given.little f c S.some (omega (arith, small_n)) (omega (arith, S.one_level, K.joins.inside))
