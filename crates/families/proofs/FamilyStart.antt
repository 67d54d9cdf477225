-- The start of a family: its first child alone is a row, and the other children wait. Assumes nothing.
use mathlib.Core.Path.{◌≡◌, refl, sym, ap, ap₂, ◌∙◌, subst}
use mathlib.Core.Logic.{inl, inr}
use mathlib.Core.List.{List, [], ◌∷◌}
use Prim.Native.Nat.{ℕ, zero, suc, ◌+◌, ◌-◌, ◌*◌, ◌≤◌, ◌<◌}
use native.Mathlib.Nat.{le_refl}
use native.Mathlib.Omega.{arith}
use lib.IntN.{ℤ, pos, ◌+ℤ◌, ◌-ℤ◌, nat_abs}
use lib.ListN.{length}
use Rattle.tree.specs.Table.{nodes}
use Rattle.tree.specs.Forest.{Forest, tree_of}
use Rattle.tree.proofs.Counting.{All}
use Rattle.rule.specs.Drawing.{none, width, place_at, middle, Dot, dots, row_dots, last_of}
use Rattle.rule.specs.Join.{Spacing, above0, added, alone}
use Rattle.rule.specs.Join as rule
use Rattle.rule.specs.Rule.{draw}
use Rattle.tree.proofs.Joined.{Some}
use Rattle.rule.proofs.Spacing.{row-draw_onto, row-none, alone-child}
use Rattle.level_order.specs.LevelOrder.{first_at}
use Rattle.level_order.specs.Fields.{get, put, PLACE, LEFT, RIGHT, ANCESTOR, SHIFT, CHANGE}
use Rattle.level_order.specs.Numbered.{Numbered}
use Rattle.level_order.proofs.Fielded.{numbered-kept}
use Rattle.contours.specs.Gather.{gather, pending}
use Rattle.contours.specs.Contours.{LeftSteps, RightSteps}
use Rattle.contours.specs.Rows.{Outside, Owned, Subtree, Row, row_drawn, children_drawn}
use Rattle.families.specs.Joining.{columns_of, occurs, Rowed, Given}
use Rattle.families.specs.Families.{Ready, Begun}
use Rattle.level_order.proofs.Cells.{put-length, put_same, put-field}
use Rattle.level_order.proofs.Positions.{Ordered, mono-le, within, family, run-nil}
use Rattle.contours.proofs.Runs.{Runs, runs_alone}
use Rattle.contours.proofs.Places.{row_more, row_first}
use Rattle.contours.proofs.Steps.{subtree-left, subtree-right}
use Rattle.level_order.proofs.InOrder.{ordered}
use Rattle.level_order.proofs.Occurs.{times-once, times-from, times_below}
use Rattle.contours.proofs.Kept.{subtree-kept}
use Rattle.rule.proofs.LevelEnds.{last_in}

-- nothing gathered, nothing pending
gather_none : (shift change : ℕ → ℤ) (f end m : ℕ) → ((q : ℕ) → f ≤ q → q < end → shift q ≡ pos 0) → ((q : ℕ) → f ≤ q → q < end → change q ≡ pos 0)
    → m + f ≤ end → ((gather shift change end m).sum ≡ pos 0) × ((gather shift change end m).rate ≡ pos 0)
gather_none shift change f end zero s c h = (refl, refl)
gather_none shift change f end (suc m) s c h =
    let r = gather_none shift change f end m s c (omega arith) in
    let a = s (end - suc m) (omega arith) (omega arith) in
    let b = c (end - suc m) (omega arith) (omega arith) in
    (ap₂ ◌+ℤ◌ (ap₂ ◌+ℤ◌ r.0 a) (ap₂ ◌+ℤ◌ r.1 b), ap₂ ◌+ℤ◌ r.1 b)

-- a row of one child
module _ (first : ℕ → ℕ) (n : ℕ) (O : Ordered first n) (D : Spacing) (f : ℕ) (inside : f < n) where
  pub row_one : row_drawn first n D f (suc f) ≡ alone f 0 (children_drawn first n D f)
  unfolding added
  row_one =
      row_more first n O D f f (le_refl f) inside
      ∙ ap (λ (g : Forest). rule.join D (draw D g) f (children_drawn first n D f)) (run-nil first n O f f (le_refl f))

  abbrev levels : List (List Dot)
  levels = dots 0 (pos 0) (alone f 0 (children_drawn first n D f))

  -- without the first
  abbrev deeper : List (List Dot)
  deeper = dots 0 (pos 0 +ℤ pos 0 -ℤ pos (middle (children_drawn first n D f))) (children_drawn first n D f)

  pub dots-one : row_dots 0 (row_drawn first n D f (suc f)) ≡ levels
  dots-one = ap (row_dots 0) row_one

  -- past the first level every owner is out of date
  module _ (ancestor : ℕ → ℤ) (end : ℕ) (below : (z : ℕ) → end ≤ z → z < n → (k : ℕ) × (end ≤ k) × (ancestor z ≡ pos k)) where
    pub stale-at : (z : ℕ) → end ≤ z → z < n → Outside f end (ancestor z)
    stale-at z h l k a b e =
        let r = below z h l in
        omega (arith, r.1, ap above0 (sym r.2 ∙ e))

    owned_below : (a b : ℕ) (xs : List (List Dot)) → end ≤ a → b ≤ n → Runs first a b xs → All Some xs → All (All (λ e. e.child ≡ 0)) xs → Owned ancestor f end f xs
    owned_below a b [] h l r s t = tt
    owned_below a b (x ∷ xs) h l r s t = (
      inr (
        stale-at (last_of x).node (omega (arith, r.0, r.2)) (omega (arith, r.2)),
        omega (arith, last_in (λ e. e.child ≡ 0) x s.0 t.0),
      ),
      owned_below (first a) (first b) xs (omega (arith, O.later a (omega (arith, r.0)))) (within first n O b l) r.4 s.1 t.1,
    )

    pub owned-one : end ≤ first f → ancestor f ≡ pos f → Owned ancestor f end f levels
    owned-one h e =
        let C = alone-child D.need 0 (width (children_drawn first n D f)) f 0 (children_drawn first n D f) (row-draw_onto D none (family first n f) row-none) in (
          inl (e ∙ ap pos (omega arith)),
          owned_below (first f) (first (suc f)) deeper h (within first n O (suc f) inside) (runs_alone first n O D 0 f 0 inside).4 C.some.1 C.tags.1,
        )

module _ {t : List ℕ} {D : Spacing} {p : ℕ} {before : List ℤ} (G : Given t D) (R : Ready t D p before) where
  abbrev pub first : ℕ → ℕ
  first = first_at (tree_of t)

  abbrev pub n : ℕ
  n = nodes t

  abbrev pub f : ℕ
  f = first p

  abbrev pub end : ℕ
  end = first (suc p)

  abbrev pub O : Ordered first n
  O = ordered t G.accepted

  -- the slice with the first child's place
  abbrev pub work : List ℤ
  work = put before PLACE f (pos 0)

  pub later : p < f
  later = O.later p R.inside

  pub fits : end ≤ n
  fits = within first n O (suc p) R.inside

  pub f-inside : f < n
  f-inside = omega (arith, R.some, fits)

  pub one_level : end ≤ first f
  one_level = mono-le first n O (suc p) f later (omega (arith, f-inside))

  pub room : 16 * n ≤ length before
  room = R.numbered.size

  pub other : (k q : ℕ) → k < 16 → (k ≡ PLACE → ⊥) → get work k q ≡ get before k q
  other k q h d = put-field before PLACE f (pos 0) (omega arith) k q h d

  pub start-numbered : Numbered (tree_of t) D.need n work
  start-numbered =
      numbered-kept R.numbered work (omega (arith, room, put-length before PLACE f (pos 0))) (λ g q h. other g q (omega arith) (λ e. omega (arith, e)))

  gathered : (g q : ℕ) → SHIFT ≤ g → g ≤ CHANGE → f ≤ q → q < end → get work g q ≡ pos 0
  gathered g q l r h k = other g q (omega arith) (λ e. omega (arith, e)) ∙ R.gathered g q l r h k

  nothing : (q : ℕ) → f ≤ q → q < end → pending (get work SHIFT) (get work CHANGE) end q ≡ pos 0
  nothing q h k =
      (gather_none (get work SHIFT) (get work CHANGE) f end (end - suc q)
      (λ x. gathered SHIFT x (omega arith) (omega arith)) (λ x. gathered CHANGE x (omega arith) (omega arith)) (omega arith)).0

  at-start : get work PLACE f ≡ pos 0
  at-start = put_same before PLACE f (pos 0) (omega (arith, f-inside, room))

  subtrees : (q : ℕ) → f ≤ q → q < end → Subtree first n D q (get work LEFT) (get work RIGHT)
  subtrees q h k =
      subtree-kept first n O D q (omega (arith, fits)) (get before LEFT) (get before RIGHT) (get work LEFT) (get work RIGHT)
      (λ z s. other LEFT z (omega arith) (λ e. omega (arith, e))) (λ z s. other RIGHT z (omega arith) (λ e. omega (arith, e))) (R.subtrees q h k)

  stale : (z : ℕ) → end ≤ z → z < n → (k : ℕ) × (end ≤ k) × (get work ANCESTOR z ≡ pos k)
  stale z h l =
      let r = R.below z h l in
      (r.0, r.1, other ANCESTOR z (omega arith) (λ e. omega (arith, e)) ∙ r.2)

  -- the one place of the row
  module _ (q : ℕ) (h : f ≤ q) (k : q < suc f) where
    same : q ≡ f
    same = omega arith

    place-now : get work PLACE q ≡ pos 0
    place-now = ap (get work PLACE) same ∙ at-start

    place-drawn : place_at (row_drawn first n D f (suc f)) (q - f) ≡ 0
    place-drawn =
        let z : q - f ≡ 0 = omega arith in
        ap (place_at (row_drawn first n D f (suc f))) z ∙ row_first first n O D 0 f (suc f) (omega arith) f-inside

  start-row : Row first n D f (suc f) end f (columns_of work)
  start-row =
      record {
        places = λ q h k. ap₂ ◌+ℤ◌ (place-now q h k) (nothing q h (omega (arith, k, R.some))) ∙ ap pos (sym (place-drawn q h k));
        settled = λ q e. place-now q (omega (arith, e)) (omega (arith, e)) ∙ ap pos (sym (place-drawn q (omega (arith, e)) (omega (arith, e))));
        beyond = λ q h k. nothing q (omega (arith, h)) k;
        left-steps = subst (LeftSteps (get work LEFT)) (sym (dots-one first n O D f f-inside))
            (subtree-left (get work LEFT) (get work RIGHT) f 0 0 (children_drawn first n D f) filled S.left-row S.left-root);
        right-steps = subst (RightSteps (get work RIGHT)) (sym (dots-one first n O D f f-inside))
            (subtree-right (get work LEFT) (get work RIGHT) f 0 0 (children_drawn first n D f) filled S.right-row S.right-root);
        owned = subst (Owned (get work ANCESTOR) f end f) (sym (dots-one first n O D f f-inside))
            (owned-one first n O D f f-inside (get work ANCESTOR) end stale one_level (other ANCESTOR f (omega arith) (λ e. omega (arith, e)) ∙ R.own f R.some));
      }
    where
      S : Subtree first n D f (get work LEFT) (get work RIGHT)
      S = subtrees f (le_refl f) R.some

      filled : All Some (row_dots 0 (children_drawn first n D f))
      filled = (row-draw_onto D none (family first n f) row-none).some

  start-rowed : Rowed t D f (suc f) end f work
  start-rowed =
      record {
        numbered = start-numbered;
        siblings = record {
          some = omega arith;
          more = R.some;
          fits = fits;
          one_level = one_level;
          alone = λ z. times-once first n O f end z (omega (arith, R.some)) one_level (omega (arith, f-inside));
        };
        default-low = le_refl f;
        default-high = omega arith;
        row = start-row;
        stood = λ q h k. (0, omega arith, place-now q h k);
        small = λ g q l r h k. omega (arith, ap nat_abs (gathered g q l r h k));
      }

  pub family-begun : Begun t D f end work
  family-begun =
      record {
        rowed = start-rowed;
        others = λ q h k. record { subtree = subtrees q (omega (arith, h)) k; own = own-now q k; stale = λ z s. wait q h k z s };
      }
    where
      own-now : (q : ℕ) → q < end → get work ANCESTOR q ≡ pos q
      own-now q k = other ANCESTOR q (omega arith) (λ e. omega (arith, e)) ∙ R.own q k

      wait : (q : ℕ) → f < q → q < end → (z : ℕ) → 1 ≤ occurs t (first q) (first (suc q)) z → Outside f end (get work ANCESTOR z)
      wait q h k z s =
          stale-at first n O D f f-inside (get work ANCESTOR) end stale z
          (omega (arith, one_level, mono-le first n O f q (omega arith) (omega (arith, fits)), times-from first n O (first q) (first (suc q)) z up next within-q s))
          (times_below first n O (first q) (first (suc q)) z up next within-q s)
        where
          up : first q ≤ first (suc q)
          up = O.mono q (omega (arith, fits))

          within-q : first q ≤ n
          within-q = within first n O q (omega (arith, fits))

          next : first (suc q) ≤ first (first q)
          next = mono-le first n O (suc q) (first q) (O.later q (omega (arith, fits))) within-q
