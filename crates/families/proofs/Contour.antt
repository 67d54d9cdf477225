-- The walk of one join over the working slice: what holds on every level, and at the start. Assumes nothing.
use mathlib.Core.Path.{◌≡◌, refl, sym, ap, ap₂, ◌∙◌, subst}
use mathlib.Core.Logic.{◌⊎◌, inl}
use mathlib.Core.List.{List, [], ◌∷◌, Memᴰ}
use Prim.Native.Nat.{ℕ, suc, ◌+◌, ◌-◌, ◌*◌, ◌≤◌, ◌<◌}
use native.Mathlib.Nat.{not-suc-le-zero}
use native.Mathlib.Omega.{arith}
use lib.IntN.{ℤ, pos, nat_abs, +ℤ_idr}
use lib.ListN.{length, drop}
use Rattle.tree.specs.Table.{nodes}
use Rattle.tree.specs.Forest.{tree_of}
use Rattle.rule.specs.Drawing.{Drawing, none, at, width, place_at, last_place, Dot, dot, dots, row_dots, first_of, last_of, left_contour, right_contour}
use Rattle.rule.specs.Join.{alone, total}
use Rattle.rule.specs.Join as rule
use Rattle.rule.proofs.AtOnce.{total-append}
use Rattle.rule.proofs.OnLevel.{OnLevel}
use Rattle.rule.proofs.LevelEnds.{last_mem, first-mem}
use Rattle.level_order.specs.Numbered.{Numbered}
use Rattle.level_order.proofs.Fielded.{numbered-kept}
use Rattle.level_order.specs.Fields.{get, ANCESTOR, SHIFT, CHANGE}
use Rattle.contours.proofs.Runs.{Runs}
use Rattle.contours.proofs.Walk.{Walking}
use Rattle.contours.proofs.Walk as walk
use Rattle.contours.proofs.Places.{row_first}
use Rattle.contours.proofs.Steps.{row-top}
use Rattle.contours.proofs.RowNext.{fields_of}
use Rattle.contours.proofs.Bounds.{on-here, row_near, alone-near}
use Rattle.descent.specs.declared.Stand.{Stand}
use Rattle.descent.specs.Descent.{Modest, Level, top_level}
use Rattle.families.specs.Joining.{columns_of, occurs}
use Rattle.families.proofs.Children.{first_reads, count-reads}
use Rattle.families.proofs.Joining.{Joining, first, O, few, S, row, child, start_at, J, F, row-wide, small_n, row_runs, child_runs, child-left, child-right, last-at, start_at_lem, start-here, next_last, next_bound, row_last_bound}

-- what the walk leaves as it was, when the child has been moved by k
pub record Kept (K : Joining) (now : List ℤ) (k : ℕ) : Type 0 where
  pub size : length now ≡ length K.before
  pub rest : drop (16 * nodes K.t) now ≡ drop (16 * nodes K.t) K.before
  pub field : (g p : ℕ) → g < ANCESTOR → get now g p ≡ get K.before g p
  pub still : (g p : ℕ) → SHIFT ≤ g → g ≤ CHANGE → (p < K.f) ⊎ (K.c < p) → get now g p ≡ get K.before g p
  pub small : (g p : ℕ) → SHIFT ≤ g → g ≤ CHANGE → K.f ≤ p → p < K.end → nat_abs (get now g p) ≤ last_place (row K) + k
  pub ancestor : (z : ℕ) → (get now ANCESTOR z ≡ get K.before ANCESTOR z) ⊎ ((get now ANCESTOR z ≡ pos K.c) × (1 ≤ occurs K.t K.c (suc K.c) z))

-- the code's stand as the walk has it
abbrev pub stand_of : Stand → ℕ → walk.Stand
stand_of s k =
    record { a = s.row; b = s.child; e = s.end; right = s.right; left = s.left; outer_left = s.outer_left; outer_right = s.outer_right; moved = k }

-- where the walk stands once the child has been moved by z
abbrev pub pushed : Stand → ℤ → Stand
pushed s z =
    record { row = s.row; child = s.child; end = s.end; right = s.right; left = s.left; outer_left = s.outer_left; outer_right = s.outer_right; moved = z }

-- the walk on one level
pub record Contour (K : Joining) (now : List ℤ) (s : Stand) : Type 0 where
  pub k : ℕ
  pub moved : s.moved ≡ pos k
  pub walking : Walking (J K) (F K) (fields_of (columns_of now)) (stand_of s k)
  pub kept : Kept K now k

-- ---- the numbering is not touched

module _ {K : Joining} {now : List ℤ} {k : ℕ} (kept : Kept K now k) where
  pub room : 16 * nodes K.t ≤ length now
  room = omega (arith, K.joins.rowed.numbered.size, kept.size)

  pub numbered : Numbered (tree_of K.t) K.D.need (nodes K.t) now
  numbered = numbered-kept K.joins.rowed.numbered now room (λ g p h. kept.field g p (omega arith))

-- ---- places are modest

module _ (K : Joining) where
  pub row_modest : (z : ℤ) (e : Dot) (l : ℕ) → z ≡ e.place → OnLevel e l (J K).row → Modest z
  row_modest z e l q o =
      omega (arith, ap nat_abs q, row_near (first K) (nodes K.t) (O K) K.D (few K) K.joins.given.high K.joins.given.little K.f K.c (S K).some (omega (arith, small_n K)) (omega (arith, (S K).one_level, K.joins.inside)) e l o)

  pub child_modest : (z : ℤ) (e : Dot) (l : ℕ) → z ≡ e.place → OnLevel e l (J K).child → Modest z
  child_modest z e l q o =
      omega (arith, ap nat_abs q, start_at_lem K, row_last_bound K, K.joins.given.high (K.c - 1) K.c, alone-near (first K) (nodes K.t) (O K) K.D (few K) K.joins.given.high K.joins.given.little (width (row K)) K.c (start_at K) (small_n K) e l o)

-- ---- a level

module _ {K : Joining} {now : List ℤ} {s : Stand} (C : Contour K now s) where
  abbrev W : Walking (J K) (F K) (fields_of (columns_of now)) (stand_of s C.k)
  W = C.walking

  on_row : (e : Dot) → Memᴰ e W.x → OnLevel e (length W.above-row) (J K).row
  on_row e m = subst (OnLevel e (length W.above-row)) (sym W.row) (on-here W.above-row W.x W.xs e m)

  on-child : (e : Dot) → Memᴰ e W.y → OnLevel e (length W.above-child) (J K).child
  on-child e m = subst (OnLevel e (length W.above-child)) (sym W.child) (on-here W.above-child W.y W.ys e m)

  pub last-row_on : OnLevel (last_of W.x) (length W.above-row) (J K).row
  last-row_on = on_row (last_of W.x) (last_mem W.x W.runs_row.3)

  pub first-row_on : OnLevel (first_of W.x) (length W.above-row) (J K).row
  first-row_on = on_row (first_of W.x) (first-mem W.x W.runs_row.3)

  pub last_child-on : OnLevel (last_of W.y) (length W.above-child) (J K).child
  last_child-on = on-child (last_of W.y) (last_mem W.y W.runs_child.3)

  pub first_child-on : OnLevel (first_of W.y) (length W.above-child) (J K).child
  first_child-on = on-child (first_of W.y) (first-mem W.y W.runs_child.3)

  -- the positions of the level
  pub a-few : s.row < nodes K.t
  a-few = omega (arith, W.runs_row.0, W.runs_child.0, W.fits)

  pub b-few : s.child < nodes K.t
  b-few = omega (arith, W.runs_child.0, W.fits)

  pub e-few : s.end - 1 < nodes K.t
  e-few = omega (arith, W.runs_child.0, W.fits)

  pub last-position : s.child - 1 ≡ (last_of W.x).node
  last-position = omega (arith, W.runs_row.2)

  pub last_child-position : s.end - 1 ≡ (last_of W.y).node
  last_child-position = omega (arith, W.runs_child.2)

  pub moved-most : start_at K + C.k ≤ 2094592
  moved-most =
      omega (arith, next_bound K, next_last K, W.moved, ap total W.whole, total-append W.met (rule.meet K.D.need C.k (right_contour (W.x ∷ W.xs)) (left_contour (W.y ∷ W.ys))))

  -- what can be done on the level, in the slice as it is or as the level leaves it, where the child has been moved by r in all
  pub level : (work : List ℤ) (m : ℕ) → Kept K work m → start_at K + m ≤ 2094592 → (r : ℕ) → r ≤ m + 1024 → (z : ℤ) → z ≡ pos r
      → Level work (pushed s z) K.f K.c K.default
  level work m kept most r near z ez =
      record {
        row = W.runs_row.0;
        child = W.runs_child.0;
        low = K.joins.rowed.default-low;
        high = K.joins.rowed.default-high;
        few = (omega (arith, W.fits, few K), omega (arith, small_n K, few K));
        inside = (omega (arith, room kept, W.fits), omega (arith, room kept, small_n K));
        right_modest = row_modest K s.right (last_of W.x) _ W.right-at last-row_on;
        left_modest = child_modest K s.left (first_of W.y) _ W.left_at first_child-on;
        outer_left_modest = row_modest K s.outer_left (first_of W.x) _ W.outer_left_holds first-row_on;
        outer_right_modest = child_modest K s.outer_right (last_of W.y) _ W.outer_right_holds last_child-on;
        moved_modest = omega (arith, ap nat_abs ez, most);
        gathered = λ p h g. (
          omega (arith, kept.small SHIFT p (omega arith) (omega arith) h (omega (arith, g, K.joins.inside)), most, start_at_lem K),
          omega (arith, kept.small CHANGE p (omega arith) (omega arith) h (omega (arith, g, K.joins.inside)), most, start_at_lem K),
        );
        looked = record {
          first-a = first_reads K.t K.joins.given.accepted (numbered kept) s.row a-few;
          first-b = first_reads K.t K.joins.given.accepted (numbered kept) s.child b-few;
          first-e = first_reads K.t K.joins.given.accepted (numbered kept) (s.end - 1) e-few;
          count-e = count-reads K.t K.joins.given.accepted (numbered kept) (s.end - 1) e-few;
          some = omega (arith, W.runs_child.0);
        };
      }

-- ---- the start

top-row : (d : Drawing) → 0 < width d
    → (x : List Dot) × (xs : List (List Dot)) × (row_dots 0 d ≡ x ∷ xs) × ((last_of x).place ≡ pos (last_place d)) × ((first_of x).place ≡ pos (place_at d 0))
top-row none h = absurd (not-suc-le-zero h)
top-row (at u y b a) h = let r = row-top 0 u y b a in (dot 0 u (pos (0 + y)) ∷ r.0, r.1, r.2, r.3, ap pos (omega arith))

pub split-child : (i v x : ℕ) (b : Drawing) → (ys : List (List Dot)) × (dots i (pos 0) (alone v x b) ≡ (dot i v (pos (0 + x)) ∷ []) ∷ ys)
split-child i v x none = ([], refl)
split-child i v x (at u y b a) = (_, refl)

module _ (K : Joining) where
  open K use {D, f, c, before}

  walk_begins : Walking (J K) (F K) (fields_of (columns_of before)) (stand_of (top_level before f c) 0)
  walk_begins =
      let T = top-row (row K) (omega (arith, row-wide K, (S K).some)) in
      let C = split-child (width (row K)) c (start_at K) (child K) in
      let R = K.joins.rowed.row in
      let e : c + 1 ≡ suc c = omega arith in
      record {
        above-row = [];
        above-child = [];
        x = T.0;
        y = dot (width (row K)) c (pos (0 + start_at K)) ∷ [];
        xs = T.1;
        ys = C.0;
        met = [];
        row = T.2;
        child = C.1;
        level = refl;
        one_level = omega (arith, K.joins.inside, (S K).one_level);
        fits = omega (arith, small_n K);
        runs_row = rw T.2 at (row_runs K);
        runs_child = subst (λ (x : ℕ). Runs (first K) c x ((dot (width (row K)) c (pos (0 + start_at K)) ∷ []) ∷ C.0)) (sym e) (subst (Runs (first K) c (suc c)) C.1 (child_runs K));
        left-row = rw T.2 at R.left-steps;
        right-row = rw T.2 at R.right-steps;
        left-child = rw C.1 at (child-left K);
        right_child = rw C.1 at (child-right K);
        right-at = last-at K ∙ sym T.3;
        left_at = start-here K ∙ ap pos (omega arith);
        outer_left_holds = ap pos (sym (row_first (first K) (nodes K.t) (O K) D (c - f - 1) f c (omega (arith, (S K).some)) (omega (arith, small_n K)))) ∙ sym T.4;
        outer_right_holds = start-here K ∙ ap pos (omega arith);
        moved = refl;
        whole = ap₂ (λ (u v : List (List Dot)). rule.meet D.need 0 (right_contour u) (left_contour v)) T.2 C.1;
        moves = record { row = λ p h k. sym (+ℤ_idr _); beyond = λ p h k. refl };
        passed = tt;
        marked = tt;
        unmarked = λ z a. refl;
      }

  pub contour-first : Contour K before (top_level before f c)
  contour-first =
      record {
        k = 0;
        moved = refl;
        walking = walk_begins;
        kept = record {
          size = refl;
          rest = refl;
          field = λ g p h. refl;
          still = λ g p l r h. refl;
          small = λ g p l r h i. omega (arith, K.joins.rowed.small g p l r h i);
          ancestor = λ z. inl refl;
        };
      }
