-- Where the last of a node's children is joined to the others: what is met there, and where the nodes of both sides stand in the end. Assumes
-- nothing.
use mathlib.Core.Path.{◌≡◌, refl, sym, ap, ◌∙◌, subst}
use mathlib.Core.Bool.{Bool, cond}
use mathlib.Core.List.{List, map}
use Prim.Native.Nat.{ℕ, suc, ◌+◌, ◌≤◌, ◌<◌}
use native.Mathlib.Omega.{arith}
use lib.ListN.{length}
use lib.IntN.{ℤ, pos, ◌+ℤ◌, ◌-ℤ◌}
use Rattle.tree.specs.Table.{nodes}
use Rattle.tree.specs.Forest.{Forest, nil, node, join as joinForest, roots}
use Rattle.tree.specs.Levels.{beside, level}
use Rattle.tree.specs.Shape.{under}
use Rattle.tree.specs.WellFormed.{table_number}
use Rattle.rule.specs.Drawing.{Drawing, none, width, middle, Dot, dots, row_dots}
use Rattle.rule.specs.Join.{Spacing, Meeting, significant, added, shares, movement, join, meetings, start, alone}
use Rattle.rule.specs.Rule.{draw_onto, draw, drawn, last_meetings, significant_at, extra_at}
use Rattle.rule.specs.Result.{place}
use Rattle.rule.proofs.Moving.{shift_by, move_by, settle, row_dots-join, dots-row}
use Rattle.rule.proofs.Spacing.{Row, Child, row-draw_onto, row-none, alone-child}
use Rattle.rule.proofs.Within.{Stands}
use Rattle.rule.proofs.Lookup.{dot-place, dot-level}
use Rattle.rule.proofs.OnLevel.{OnLevel, on-left, on-right, on_move}
use Rattle.rule.proofs.Promises.{stands_at}

-- ---- the last of two or more trees

pub record LastOf (f : Forest) : Type 0 where
  pub first : ℕ
  pub first_below : Forest
  pub others : Forest
  pub last : ℕ
  pub below : Forest
  pub split : f ≡ joinForest (node first first_below others) (node last below nil)

last_of : (v w : ℕ) (f g h : Forest) → LastOf (node v f (node w g h))
last_of v w f g nil = record { first = v; first_below = f; others = nil; last = w; below = g; split = refl }
last_of v w f g (node u k h) =
    let r = last_of w u g k h in
    record {
      first = v;
      first_below = f;
      others = node r.first r.first_below r.others;
      last = r.last;
      below = r.below;
      split = ap (node v f) r.split;
    }

pub two-or-more : (f : Forest) → 2 ≤ length (roots f) → LastOf f
two-or-more nil h = absurd (omega arith)
two-or-more (node v f nil) h = absurd (omega arith)
two-or-more (node v f (node w g k)) h = last_of v w f g k

-- the others, in a row, and the last
abbrev pub earlier : {f : Forest} → LastOf f → Forest
earlier L = node L.first L.first_below L.others

abbrev pub latest : {f : Forest} → LastOf f → Forest
latest L = node L.last L.below nil

-- ---- drawn one after the other

-- one forest behind another
pub draw_onto-join : (D : Spacing) (row : Drawing) (f g : Forest) → draw_onto D row (joinForest f g) ≡ draw_onto D (draw_onto D row f) g
draw_onto-join D row nil g = refl
draw_onto-join D row (node v f h) g = draw_onto-join D (join D row v (draw_onto D none f)) h g

-- what is met at the last tree
last-met : (D : Spacing) (row : Drawing) (f : Forest) (w : ℕ) (g : Forest)
    → last_meetings D row (joinForest f (node w g nil)) ≡ meetings D.need (draw_onto D row f) w (draw D g)
last-met D row nil w g = refl
last-met D row (node v f nil) w g = refl
last-met D row (node v f (node u k h)) w g = last-met D (join D row v (draw D f)) (node u k h) w g

-- ---- the last child of a node

-- node v of an accepted table has two or more children
pub record Parent (t : List ℕ) (v : ℕ) : Type 0 where
  pub accepted : table_number t ≡ 0
  pub inside : v < nodes t
  pub children : LastOf (under t v)

module _ (D : Spacing) {t : List ℕ} {v : ℕ} (P : Parent t v) where
  abbrev L : LastOf (under t v)
  L = P.children

  -- the row that it is joined to, what is drawn below it, and what is met
  abbrev pub row : Drawing
  row = draw D (earlier L)

  abbrev pub new : Drawing
  new = draw D L.below

  abbrev pub met : List Meeting
  met = meetings D.need row L.last new

  -- the levels of both sides before anything moves
  abbrev pub row_levels : List (List Dot)
  row_levels = row_dots 0 row

  abbrev pub child_levels : List (List Dot)
  child_levels = dots (width row) (pos 0) (alone L.last (start D.need row L.last) new)

  pub row_kept : Row D.need (width row) row_levels
  row_kept = row-draw_onto D none (earlier L) row-none

  pub child-kept : Child D.need (width row) child_levels
  child-kept = alone-child D.need (width row) (width new) L.last (start D.need row L.last) new (row-draw_onto D none L.below row-none)

  pub significant-is : significant met ≡ significant_at D t v
  unfolding significant_at
  significant-is = ap significant (sym (ap (last_meetings D none) L.split ∙ last-met D none (earlier L) L.last L.below))

  pub extra-is : added D.extra met ≡ extra_at D t v
  unfolding added
  extra-is = ap (λ (b : Bool). cond b D.extra 0) significant-is

  -- where v stands, and where the count of its row of children starts
  abbrev pub S : Stands 0 v (draw D (under t v)) (drawn D t)
  S = stands_at D t P.accepted v P.inside

  abbrev pub origin : ℤ
  origin = S.place -ℤ pos (middle (draw D (under t v)))

  -- the levels of both sides as they stand: each child of the row moved by its shares, and the last by all that it moves
  abbrev row_moved : List (List Dot)
  row_moved = map (map (move_by (shares (width row) met))) row_levels

  abbrev child-moved : List (List Dot)
  child-moved = map (map (shift_by (pos (movement D.extra met)))) child_levels

  levels-below : dots 0 origin (draw D (under t v)) ≡ map (map (settle 0 origin)) (beside row_moved child-moved)
  levels-below =
      dots-row 0 0 origin (draw D (under t v))
      ∙ ap (λ (d : Drawing). map (map (settle 0 origin)) (row_dots 0 d)) (ap (draw D) L.split ∙ draw_onto-join D none (earlier L) (latest L))
      ∙ ap (map (map (settle 0 origin))) (row_dots-join D row L.last new)

  stands : {e : Dot} {l : ℕ} → OnLevel e l (beside row_moved child-moved) → OnLevel (settle 0 origin e) (suc (S.level + l)) (drawn D t)
  stands {e} {l} o = S.under _ l (subst (OnLevel (settle 0 origin e) l) (sym levels-below) (on_move (settle 0 origin) _ o))

  row-stands : {e : Dot} {l : ℕ} → OnLevel e l row_levels → OnLevel (settle 0 origin (move_by (shares (width row) met) e)) (suc (S.level + l)) (drawn D t)
  row-stands o = stands (on-left child-moved (on_move (move_by (shares (width row) met)) row_levels o))

  child-stands : {e : Dot} {l : ℕ} → OnLevel e l child_levels → OnLevel (settle 0 origin (shift_by (pos (movement D.extra met)) e)) (suc (S.level + l)) (drawn D t)
  child-stands o = stands (on-right row_moved (on_move (shift_by (pos (movement D.extra met))) child_levels o))

  pub row-place : {e : Dot} {l : ℕ} → OnLevel e l row_levels → place D t e.node ≡ (e.place +ℤ pos (shares (width row) met e.child)) +ℤ origin
  row-place o = dot-place D t P.accepted _ _ (row-stands o)

  pub row-level : {e : Dot} {l : ℕ} → OnLevel e l row_levels → level t e.node ≡ suc (S.level + l)
  row-level o = dot-level D t P.accepted _ _ (row-stands o)

  pub child-place : {e : Dot} {l : ℕ} → OnLevel e l child_levels → place D t e.node ≡ (e.place +ℤ pos (movement D.extra met)) +ℤ origin
  child-place o = dot-place D t P.accepted _ _ (child-stands o)

  pub child-level : {e : Dot} {l : ℕ} → OnLevel e l child_levels → level t e.node ≡ suc (S.level + l)
  child-level o = dot-level D t P.accepted _ _ (child-stands o)
