-- The end of the contour walk: what holds when either contour has no further level. Assumes nothing.
use mathlib.Core.Path.{◌≡◌, refl, sym, ap, ◌∙◌}
use mathlib.Core.List.{List, [], ◌∷◌, ◌++◌, map, append-nil}
use Prim.Native.Nat.{ℕ, ◌+◌, ◌<◌}
use native.Mathlib.Omega.{arith}
use lib.IntN.{ℤ, pos, ◌+ℤ◌, ◌-ℤ◌}
use lib.ListN.{length}
use Rattle.tree.proofs.Counting.{All, all_left}
use Rattle.rule.specs.Drawing.{Dot, first_of, last_of, left_contour, right_contour}
use Rattle.rule.specs.Join.{Meeting, meet, total}
use Rattle.rule.proofs.Moving.{shift_by}
use Rattle.rule.proofs.Significant.{meet-none}
use Rattle.contours.specs.Rows.{Outside}
use Rattle.contours.proofs.Contour.{Thread, covered, threaded, deeper}
use Rattle.contours.proofs.Owners.{Marked, Default, kept, moved, lower}
use Rattle.contours.proofs.Walk.{Join, Fields, Stand, all_met, Moves, Walking, Turned, amount, owner, met_now, whole-now, moved-now, moves-now, marked-now}

-- ---- from the last level to the whole

-- what a level more at the top keeps, where the new child's level is as Q says
levels-above : (Q : List Dot → Type 0) (P : List (List Dot) → List (List Dot) → Type 0)
    → ((u w : List Dot) (xs ys : List (List Dot)) → Q w → P xs ys → P (u ∷ xs) (w ∷ ys))
    → (us ws xs ys : List (List Dot)) → length us ≡ length ws → All Q ws → P xs ys → P (us ++ xs) (ws ++ ys)
levels-above Q P h [] [] xs ys e a p = p
levels-above Q P h [] (w ∷ ws) xs ys e a p = absurd (omega arith)
levels-above Q P h (u ∷ us) [] xs ys e a p = absurd (omega arith)
levels-above Q P h (u ∷ us) (w ∷ ws) xs ys e a p = h u w (us ++ xs) (ws ++ ys) a.0 (levels-above Q P h us ws xs ys (omega arith) a.1 p)

-- ---- the end

-- what a finished walk gives: the child has moved by `moved`, of which `extra` was added after the walk
pub record Ended (J : Join) (before now : Fields) (left right : ℕ → ℤ) (moved extra d : ℕ) : Type 0 where
  pub total : moved ≡ total (all_met J) + extra
  pub moves : Moves J before now (all_met J)
  pub marked : Marked now.ancestor J.f J.end J.c J.row J.child
  pub default : Default J.c J.default J.row J.child d
  pub right-thread : Thread right (map (shift_by (pos moved)) (right_contour J.child)) (right_contour J.row)
  pub left-thread : Thread left (left_contour J.row) (map (shift_by (pos moved)) (left_contour J.child))

module _ {J : Join} {before old new : Fields} {s : Stand} (W : Walking J before old s)
    (T : Turned J old new (owner W) (amount W) (last_of W.y).node) (row : J.f + owner W < J.c) (extra : ℕ) where
  abbrev moved' : ℕ
  moved' = s.moved + amount W + extra

  -- from this level to the whole
  from-here : (P : List (List Dot) → List (List Dot) → Type 0) → ((u w : List Dot) (xs ys : List (List Dot)) → new.ancestor (last_of w).node ≡ pos J.c → P xs ys → P (u ∷ xs) (w ∷ ys))
      → P (W.x ∷ W.xs) (W.y ∷ W.ys) → P J.row J.child
  from-here P h p =
      rw (W.row, W.child)
      (levels-above Mark P h W.above-row W.above-child (W.x ∷ W.xs) (W.y ∷ W.ys) W.level
      (all_left Mark W.above-child (W.y ∷ []) (marked-now W T row)) p)
    where
      Mark : List Dot → Type 0
      Mark l = new.ancestor (last_of l).node ≡ pos J.c

  abbrev shifted : Dot → Dot
  shifted = shift_by (pos moved')

  -- what the last level that both have says of the end
  ended : (left right : ℕ → ℤ) (d : ℕ) → meet J.need (s.moved + amount W) (right_contour W.xs) (left_contour W.ys) ≡ []
      → Marked new.ancestor J.f J.end J.c W.xs W.ys → Default J.c J.default W.xs W.ys d
      → Thread right (map shifted (right_contour (W.y ∷ W.ys))) (right_contour (W.x ∷ W.xs)) → Thread left (left_contour (W.x ∷ W.xs)) (map shifted (left_contour (W.y ∷ W.ys)))
      → Ended J before new left right moved' extra d
  ended left right d none m r tr tl =
      let met : met_now W ≡ all_met J = sym (whole-now W ∙ ap (λ (l : List Meeting). met_now W ++ l) none ∙ append-nil (met_now W)) in
      record {
        total = omega (arith, moved-now W, ap total met);
        moves = rw met at (moves-now W T row);
        marked = from-here (Marked new.ancestor J.f J.end J.c) (λ u w xs ys q h. (q, h)) (T.mark, m);
        default = from-here (λ u v. Default J.c J.default u v d) (λ u w xs ys q h. lower h) (lower r);
        right-thread = from-here (λ u v. Thread right (map shifted (right_contour v)) (right_contour u)) (λ u w xs ys q h. deeper h) tr;
        left-thread = from-here (λ u v. Thread left (left_contour u) (map shifted (left_contour v))) (λ u w xs ys q h. deeper h) tl;
      }

  -- the new child has no further level: where the row has one, its next node is threaded
  pub child-ends : (left right : ℕ → ℤ) → W.ys ≡ [] → ((x' : List Dot) (xs' : List (List Dot)) → W.xs ≡ x' ∷ xs' → right (last_of W.y).node ≡ (last_of x').place -ℤ ((last_of W.y).place +ℤ pos moved'))
      → Ended J before new left right moved' extra J.default
  child-ends left right ey thread =
      ended left right J.default (rw (ey, meet-none)) (rw ey tt) (rw ey kept) (rw ey (go W.xs refl)) (rw ey (deeper covered))
    where
      go : (us : List (List Dot)) → W.xs ≡ us → Thread right (shifted (last_of W.y) ∷ []) (last_of W.x ∷ right_contour us)
      go [] e = deeper covered
      go (x' ∷ xs') e = threaded (thread x' xs' e)

  -- the row has no further level and the new child has: the child's next node is threaded, and the child becomes the default
  pub row_ends : (left right : ℕ → ℤ) {y' : List Dot} {ys' : List (List Dot)} → W.xs ≡ [] → W.ys ≡ y' ∷ ys'
      → left (first_of W.x).node ≡ ((first_of y').place +ℤ pos moved') -ℤ (first_of W.x).place
      → All (λ l. Outside J.f J.end (new.ancestor (last_of l).node)) W.ys
      → Ended J before new left right moved' extra J.c
  row_ends left right ex ey thread stale =
      ended left right J.c (rw ex refl) (rw ex (out_of_date W.ys stale)) (rw (ex, ey) moved) (rw ex (deeper covered)) (rw (ex, ey) (threaded thread))
    where
      out_of_date : (ls : List (List Dot)) → All (λ l. Outside J.f J.end (new.ancestor (last_of l).node)) ls → Marked new.ancestor J.f J.end J.c [] ls
      out_of_date [] a = tt
      out_of_date (l ∷ ls) a = (a.0, out_of_date ls a.1)
