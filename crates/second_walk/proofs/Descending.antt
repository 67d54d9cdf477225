-- The working slice, position by position: the first p positions stand at their places, on their levels. Assumes nothing.
use mathlib.Core.Path.{◌≡◌, refl, sym, ap, ◌∙◌, subst}
use mathlib.Core.List.{List}
use Prim.Native.Nat.{ℕ, ◌+◌, ◌*◌, ◌^◌, ◌≤◌, ◌<◌}
use native.Mathlib.Nat.{le_refl}
use native.Mathlib.Omega.{arith}
use borrow.Author.Count.{below_more}
use lib.IntN.{ℤ, pos, ◌+ℤ◌}
use lib.Signed.{mag}
use lib.ListN.{length, drop}
use Rattle.rule.specs.Join.{Spacing}
use Rattle.tree.specs.Table.{nodes}
use Rattle.tree.specs.WellFormed.{table_number}
use Rattle.tree.proofs.LevelOf.{root-level}
use Rattle.tree.proofs.Stands.{accepted-numbers}
use Rattle.rule.specs.Result.{place}
use Rattle.rule.proofs.Extremes.{root-place, small-place}
use Rattle.level_order.specs.Fields.{get, put, NODE, PARENT, PLACE, LEVEL}
use Rattle.level_order.proofs.Cells.{put-length, put_same, put-field, put-position, put_rest}
use Rattle.level_order.proofs.Order.{node-below, root-first}
use Rattle.level_order.proofs.Signed32.{mag_size}
use Rattle.second_walk.specs.SecondWalk.{FromParent, Ready, Descends, descended, Seen}
use Rattle.second_walk.proofs.Positions.{number_at, place_at, level_at}

pub record Stands (D : Spacing) (t : List ℕ) (work : List ℤ) (q : ℕ) : Type 0 where
  pub place : get work PLACE q ≡ place_at D t q
  pub level : get work LEVEL q ≡ pos (level_at t q)
  pub near : level_at t q ≤ q

pub record Descending (D : Spacing) (t : List ℕ) (before work : List ℤ) (p : ℕ) : Type 0 where
  pub accepted : table_number t ≡ 0
  pub small : (a b : ℕ) → D.need a b ≤ 1536
  pub little : D.extra ≤ 1024
  pub within : p ≤ nodes t
  pub fits : 16 * nodes t ≤ length work
  pub size : length work ≡ length before
  pub rest : drop (16 * nodes t) work ≡ drop (16 * nodes t) before
  pub node : (q : ℕ) → q < nodes t → get work NODE q ≡ pos (number_at t q)
  pub stands : (q : ℕ) → q < p → Stands D t work q
  pub others : (q : ℕ) → p ≤ q → q < nodes t → FromParent D t work q

-- another slice with the same offset and the same parent
same-parent : {D : Spacing} {t : List ℕ} {work work' : List ℤ} {q : ℕ} → get work' PARENT q ≡ get work PARENT q → get work' PLACE q ≡ get work PLACE q
    → FromParent D t work q → FromParent D t work' q
same-parent {D} {t} e f F =
    record {
      parent = F.parent;
      before = F.before;
      named = e ∙ F.named;
      place = F.place ∙ ap (λ (z : ℤ). place_at D t F.parent +ℤ z) (sym f);
      level = F.level;
    }

-- position 0 is the root, on level 0, at place 0
module _ {D : Spacing} {t : List ℕ} {work work' : List ℤ} (accepted : table_number t ≡ 0) (small : (a b : ℕ) → D.need a b ≤ 1536) (little : D.extra ≤ 1024) (R : Ready D t work)
    (e : work' ≡ put work LEVEL 0 (pos 0)) where
  some : 0 < nodes t
  some = (accepted-numbers t accepted).some

  kept : (other q : ℕ) → other < LEVEL → get work' other q ≡ get work other q
  kept other q h = rw e (put-field work LEVEL 0 (pos 0) (omega arith) other q (omega arith) (λ k. omega arith))

  pub descending-start : Descending D t work' work' 1
  descending-start =
      record {
        accepted = accepted;
        small = small;
        little = little;
        within = some;
        fits = omega (arith, R.size, ap length e, put-length work LEVEL 0 (pos 0));
        size = refl;
        rest = refl;
        node = λ q h. kept NODE q (omega arith) ∙ R.node q h;
        stands = below_more (Stands D t work') 0 (λ q h. absurd (omega arith)) root;
        others = λ q k h. same-parent (kept PARENT q (omega arith)) (kept PLACE q (omega arith)) (R.others q k h);
      }
    where
      root : Stands D t work' 0
      root =
          record {
            place = rw (root-first t accepted, root-place D t accepted) (kept PLACE 0 (omega arith) ∙ R.root);
            level = rw (root-first t accepted, root-level t accepted, e) (put_same work LEVEL 0 (pos 0) (omega (arith, R.size, some)));
            near = rw (root-first t accepted, root-level t accepted) (omega arith);
          }

  pub rest-start : drop (16 * nodes t) work' ≡ drop (16 * nodes t) work
  rest-start = rw e (put_rest work LEVEL 0 (pos 0) (omega arith) (nodes t) some)

module _ {D : Spacing} {t : List ℕ} {before work : List ℤ} {p : ℕ} (S : Descending D t before work p) where
  -- what has been met can be read
  pub seen : (q : ℕ) → q < p → Seen work q (number_at t q) (level_at t q)
  seen q h =
      let few = (accepted-numbers t S.accepted).few in
      record {
        inside = omega arith;
        node = S.node q (omega arith);
        level = (S.stands q h).level;
        small = omega (arith, node-below t S.accepted q (omega arith));
        near = omega (arith, (S.stands q h).near);
      }

  -- ---- the next position

  module _ (h : p < nodes t) where
    from : FromParent D t work p
    from = S.others p (omega arith) h

    abbrev q : ℕ
    q = from.parent

    parent : Stands D t work q
    parent = S.stands q from.before

    near-here : level_at t p ≤ p
    near-here = omega (arith, from.level, parent.near, from.before)

    place_here : get work PLACE q +ℤ get work PLACE p ≡ place_at D t p
    place_here = ap (λ (z : ℤ). z +ℤ get work PLACE p) parent.place ∙ sym from.place

    level-here : get work LEVEL q +ℤ pos 1 ≡ pos (level_at t p)
    level-here = ap (λ (z : ℤ). z +ℤ pos 1) parent.level ∙ ap pos (omega (arith, from.level))

    pub descends : Descends work p
    descends =
        let few = (accepted-numbers t S.accepted).few in
        record {
          small = omega arith;
          inside = omega arith;
          parent = q;
          before = from.before;
          named = from.named;
          place-fits = subst (λ (z : ℤ). mag z < 2 ^ 31) (sym place_here)
              (omega (
                arith,
                mag_size (place D t (number_at t p)),
                small-place D t S.accepted 1536 (λ a b h k. S.small a b) (le_refl 1536) (number_at t p) (node-below t S.accepted p h),
              ));
          level-fits = subst (λ (z : ℤ). mag z < 2 ^ 31) (sym level-here) (omega (arith, near-here));
        }

    module _ {work' : List ℤ} (gives : (q : ℕ) → get work PARENT p ≡ pos q → work' ≡ descended work p q) where
      e : work' ≡ descended work p q
      e = gives q from.named

      abbrev half : List ℤ
      half = put work PLACE p (get work PLACE q +ℤ get work PLACE p)

      abbrev next : ℤ
      next = get work LEVEL q +ℤ pos 1

      size_same : length work' ≡ length work
      size_same = ap length e ∙ put-length half LEVEL p next ∙ put-length work PLACE p _

      field-kept : (other r : ℕ) → other < PLACE → get work' other r ≡ get work other r
      field-kept other r k =
          let below : other < 16 = omega arith in
          rw e (put-field half LEVEL p next (omega arith) other r below (λ j. omega arith) ∙ put-field work PLACE p _ (omega arith) other r below (λ j. omega arith))

      position-kept : (other r : ℕ) → other < 16 → (r ≡ p → ⊥) → get work' other r ≡ get work other r
      position-kept other r k d = rw e (put-position half LEVEL p next (omega arith) other r k d ∙ put-position work PLACE p _ (omega arith) other r k d)

      pub descending-next : Descending D t before work' (p + 1)
      descending-next =
          record {
            accepted = S.accepted;
            small = S.small;
            little = S.little;
            within = omega arith;
            fits = omega (arith, size_same);
            size = size_same ∙ S.size;
            rest = rw e (put_rest half LEVEL p next (omega arith) (nodes t) h ∙ put_rest work PLACE p _ (omega arith) (nodes t) h) ∙ S.rest;
            node = λ r k. field-kept NODE r (omega arith) ∙ S.node r k;
            stands = below_more (Stands D t work') p old new;
            others = λ r k₀ k. same-parent (field-kept PARENT r (omega arith)) (position-kept PLACE r (omega arith) (λ j. omega arith)) (S.others r (omega arith) k);
          }
        where
          old : (r : ℕ) → r < p → Stands D t work' r
          old r k =
              record {
                place = position-kept PLACE r (omega arith) (λ j. omega arith) ∙ (S.stands r k).place;
                level = position-kept LEVEL r (omega arith) (λ j. omega arith) ∙ (S.stands r k).level;
                near = (S.stands r k).near;
              }

          new : Stands D t work' p
          new =
              record {
                place = rw e (put-field half LEVEL p next (omega arith) PLACE p (omega arith) (λ j. omega arith) ∙ put_same work PLACE p _ (omega arith)) ∙ place_here;
                level = rw e (put_same half LEVEL p next (omega (arith, put-length work PLACE p (get work PLACE q +ℤ get work PLACE p)))) ∙ level-here;
                near = near-here;
              }
