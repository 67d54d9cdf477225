-- One child more: a row of joined children, a drawn subtree and a finished walk give the row with the subtree's root joined. Assumes nothing.
use mathlib.Core.Path.{◌≡◌, refl, sym, ap, ◌∙◌, subst}
use mathlib.Core.Logic.{⊎_elim}
use mathlib.Core.List.{List, map}
use Prim.Native.Nat.{ℕ, suc, ◌+◌, ◌-◌, ◌≤◌, ◌<◌}
use native.Mathlib.Nat.{le_refl}
use native.Mathlib.Omega.{arith}
use lib.IntN.{pos, ◌+ℤ◌, +ℤ_assoc}
use Rattle.tree.specs.Levels.{beside}
use Rattle.tree.proofs.Counting.{is-cases}
use Rattle.rule.specs.Drawing.{Drawing, none, width, place_at, Dot, dots, row_dots, left_contour, right_contour}
use Rattle.rule.specs.Join.{Spacing, Meeting, shares, added, movement, start, alone, meetings}
use Rattle.rule.specs.Join as rule
use Rattle.rule.proofs.Moving.{shift_by, move_by, row_dots-join}
use Rattle.rule.proofs.Spacing.{Row as RuleRow, Child, alone-child, row-draw_onto, row-none}
use Rattle.contours.specs.Contours.{LeftSteps, RightSteps}
use Rattle.contours.specs.Gather.{pending}
use Rattle.contours.specs.Rows.{Columns, Owned, Row, row_drawn, children_drawn}
use Rattle.level_order.proofs.Positions.{Ordered, run, family}
use Rattle.contours.proofs.Contour.{Thread, left-steps, right-steps, steps-shift, steps-over}
use Rattle.contours.proofs.Threads.{Rising, rising-draw_onto, left_join, right-join}
use Rattle.contours.proofs.Owners.{owned-join}
use Rattle.contours.proofs.Walk.{Join, Fields}
use Rattle.contours.proofs.WalkEnds.{Ended}
use Rattle.contours.proofs.Places.{join-place, join-new, row_more, row-width}

-- the fields that the walk changes
abbrev pub fields_of : Columns → Fields
fields_of w = record { ancestor = w.ancestor; shift = w.shift; change = w.change }

module _ (first : ℕ → ℕ) (n : ℕ) (O : Ordered first n) (D : Spacing) (f c end default : ℕ) (some : f < c) (inside : c < end) (fits : end ≤ n) where
  -- the row, the drawing below the new child, and the levels of both
  abbrev pub the_row : Drawing
  the_row = row_drawn first n D f c

  abbrev pub the_child : Drawing
  the_child = children_drawn first n D c

  abbrev pub row_levels : List (List Dot)
  row_levels = row_dots 0 the_row

  abbrev pub child_levels : List (List Dot)
  child_levels = dots (width the_row) (pos 0) (alone c (start D.need the_row c) the_child)

  pub the_width : width the_row ≡ c - f
  the_width = row-width first n O D (c - f) f c (omega arith) (omega arith)

  pub rule_row : RuleRow D.need (width the_row) row_levels
  rule_row = row-draw_onto D none (run first n f c) row-none

  pub rule_child : Child D.need (width the_row) child_levels
  rule_child = alone-child D.need (width the_row) (width the_child) c (start D.need the_row c) the_child (row-draw_onto D none (family first n c) row-none)

  rising : Rising 0 (left_contour row_levels)
  rising = rising-draw_onto D none (run first n f c) row-none tt

  -- the join that the walk belongs to
  abbrev pub the_join : Columns → Join
  the_join w =
      record {
        first = first;
        n = n;
        ordered = O;
        need = D.need;
        f = f;
        c = c;
        end = end;
        default = default;
        left = w.left;
        right = w.right;
        row = row_levels;
        child = child_levels;
        inside = inside;
      }

  abbrev ms : List Meeting
  ms = meetings D.need the_row c the_child

  module _ (w w' : Columns) (moved d : ℕ) (R : Row first n D f c end default w) (E : Ended (the_join w) (fields_of w) (fields_of w') w'.left w'.right moved (added D.extra ms) d)
      (new-place : w'.place c ≡ pos (start D.need the_row c + moved)) (old-place : (p : ℕ) → (p ≡ c → ⊥) → w'.place p ≡ w.place p)
      (left-row : LeftSteps w'.left row_levels) (left-child : LeftSteps w'.left child_levels)
      (right-row : RightSteps w'.right row_levels) (right_child : RightSteps w'.right child_levels)
      (owned-row : Owned w'.ancestor f end default row_levels) where
    abbrev joined : Drawing
    joined = rule.join D the_row c the_child

    next_row : row_drawn first n D f (suc c) ≡ joined
    next_row = row_more first n O D f c (omega arith) (omega arith)

    next-levels : row_dots 0 (row_drawn first n D f (suc c)) ≡ beside (map (map (move_by (shares (width the_row) ms))) row_levels) (map (map (shift_by (pos (movement D.extra ms)))) child_levels)
    next-levels = ap (row_dots 0) next_row ∙ row_dots-join D the_row c the_child

    place_at-c : place_at (row_drawn first n D f (suc c)) (c - f) ≡ start D.need the_row c + moved
    place_at-c = rw (next_row, ← the_width, join-new, E.total)

    places : (p : ℕ) → f ≤ p → p < suc c → w'.place p +ℤ pending w'.shift w'.change end p ≡ pos (place_at (row_drawn first n D f (suc c)) (p - f))
    places p h k =
        ⊎_elim (λ e. rw (e.0, new-place, E.moves.beyond c (le_refl c) inside, R.beyond c (le_refl c) inside, place_at-c) (ap pos (omega arith)))
        (λ e.
        let other = e.0 in
        let less : p < c = omega arith in
        rw (old-place p other, E.moves.row p h less, ← +ℤ_assoc, R.places p h less, next_row, join-place D the_row c the_child (p - f) (omega (arith, the_width)), the_width))
        (is-cases p c)

    pub row_next : Row first n D f (suc c) end d w'
    row_next =
        record {
          places = places;
          settled = λ p e. let same : p ≡ c = omega arith in rw (same, new-place, place_at-c);
          beyond = λ p h k. E.moves.beyond p (omega arith) k ∙ R.beyond p (omega arith) k;
          left-steps = rw (next_row, left-steps, left_join D the_row c the_child rule_row rule_child rising)
              (steps-over w'.left (rw left-steps at left-row)
              (steps-shift w'.left (λ e. e.child) (pos (movement D.extra ms)) (left_contour child_levels) (rw left-steps at left-child))
              (subst (λ (k : ℕ). Thread w'.left (left_contour row_levels) (map (shift_by (pos k)) (left_contour child_levels))) E.total E.left-thread));
          right-steps = rw (next_row, right-steps, right-join D the_row c the_child rule_row rule_child)
              (steps-over w'.right (steps-shift w'.right (λ e. e.child) (pos (movement D.extra ms)) (right_contour child_levels) (rw right-steps at right_child))
              (rw right-steps at right-row)
              (subst (λ (k : ℕ). Thread w'.right (map (shift_by (pos k)) (right_contour child_levels)) (right_contour row_levels)) E.total E.right-thread));
          owned = subst (Owned w'.ancestor f end d) (sym next-levels)
              (owned-join w'.ancestor f end c default (width the_row) (omega (arith, the_width)) (move_by (shares (width the_row) ms)) (shift_by (pos (movement D.extra ms)))
              (λ e. refl) (λ e. refl) (λ e. refl) (λ e. refl) d row_levels child_levels rule_row.some rule_child.some rule_child.tags owned-row E.marked E.default);
        }
