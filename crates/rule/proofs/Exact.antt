-- The walk leaves no slack: where a child is joined to a row, on some level the two nodes measured stand exactly at the distance that they
-- need, and what is added after the walk more, and the one on the left has not moved. Assumes nothing.
use mathlib.Core.Path.{◌≡◌, refl, sym, ap, subst}
use mathlib.Core.Logic.{◌⊎◌, inl, inr, ⊎_elim}
use mathlib.Core.List.{List, [], ◌∷◌}
use Prim.Native.Nat.{ℕ, suc, ◌+◌, ◌≤◌, ◌<◌}
use native.Mathlib.Nat.{le_trans, eq-zero-or-pos}
use native.Mathlib.Omega.{arith}
use lib.IntN.{ℤ, pos, ◌+ℤ◌, ◌-ℤ◌}
use Rattle.distance.specs.Needed.{Distance}
use Rattle.tree.specs.Levels.{beside}
use Rattle.tree.proofs.Counting.{All}
use Rattle.tree.proofs.Joined.{Some}
use Rattle.rule.specs.Drawing.{Drawing, none, at, width, Dot, dot, dots, row_dots, first_of, last_of, left_contour, right_contour}
use Rattle.rule.specs.Join.{Meeting, above0, shortfall, meet, measure, shares, total, start, alone, meetings}
use Rattle.rule.specs.Record.{pair_count}
use Rattle.rule.proofs.Signed.{below0, one-part, parts_add, parts_sub, parts_eq}
use Rattle.rule.proofs.PairCounts.{is_pair_lem}
use Rattle.rule.proofs.Shares.{shares-le}
use Rattle.rule.proofs.LevelEnds.{first-mem, last_mem}
use Rattle.rule.proofs.OnLevel.{OnLevel, top, down}
use Rattle.rule.proofs.Walk.{Walking, met, walk-on, met-moves}
use Rattle.rule.proofs.Spacing.{Row, row-walk}

-- on some level that both have, the last dot of the one stays where it is, and the first of the other, moved by t, stands from it at what the
-- two need and `extra` more
pub data Exact (D : Distance) (extra : ℕ) (m : ℕ → ℕ) (t : ℕ) : List (List Dot) → List (List Dot) → Type 0 where
  exact : {x y : List Dot} {xs ys : List (List Dot)} → m (last_of x).child ≡ 0 → (first_of y).place +ℤ pos t ≡ (last_of x).place +ℤ pos (D (last_of x).node (first_of y).node + extra)
      → Exact D extra m t (x ∷ xs) (y ∷ ys)
  lower : {x y : List Dot} {xs ys : List (List Dot)} → Exact D extra m t xs ys → Exact D extra m t (x ∷ xs) (y ∷ ys)

-- a shortfall above 0 is met exactly
shortfall-exact : (d extra : ℕ) (a b : ℤ) (moved t : ℕ) → 0 < shortfall d a (b +ℤ pos moved) → t ≡ moved + shortfall d a (b +ℤ pos moved) + extra
    → b +ℤ pos t ≡ a +ℤ pos (d + extra)
shortfall-exact d extra a b moved t h e =
    parts_eq (b +ℤ pos t) (a +ℤ pos (d + extra))
    (⊎_elim (λ z. absurd (omega arith))
    (λ z. omega (arith, parts_add a (pos (d + extra)), parts_add b (pos moved), parts_sub (b +ℤ pos moved) a, parts_sub (pos d) (b +ℤ pos moved -ℤ a), parts_add b (pos t)))
    (one-part (pos d -ℤ (b +ℤ pos moved -ℤ a))))

walk-exact : {D : Distance} {j c moved : ℕ} (xs ys : List (List Dot)) {m : ℕ → ℕ} {t extra : ℕ} → Walking D j c moved xs ys m t extra
    → (total (meet D moved (right_contour xs) (left_contour ys)) ≡ 0) ⊎ Exact D extra m t xs ys
walk-exact [] ys W = inl refl
walk-exact (x ∷ xs) [] W = inl refl
walk-exact {D} {c = c} {moved = moved} (x ∷ xs) (y ∷ ys) {t = t} {extra = extra} W =
    ⊎_elim (λ z.
    ⊎_elim (λ e. inl (omega arith))
    (λ h. inr (exact (omega (arith, met-moves W)) (shortfall-exact (D (last_of x).node (first_of y).node) extra (last_of x).place (first_of y).place moved t h (omega arith))))
    (eq-zero-or-pos (met D moved x y).amount))
    (λ e. inr (lower e))
    (walk-exact {c = (last_of x).child} xs ys (walk-on W))

-- ---- the top level: where nothing was too close, the child stands where it started

-- the first level of a row ends with its last child, and the next one starts at what the two need after it
pub row_last : (D : Distance) (i v u x : ℕ) (below after : Drawing)
    → (e : Dot) × (l : List Dot) × (ls : List (List Dot)) × (row_dots i (at u x below after) ≡ (e ∷ l) ∷ ls)
    × (pos (start D (at u x below after) v) ≡ (last_of (e ∷ l)).place +ℤ pos (D (last_of (e ∷ l)).node v))
row_last D i v u x below none = (dot i u (pos (0 + x)), [], _, refl, ap pos (omega arith))
row_last D i v u x below (at w y under after) =
    let r = row_last D (i + 1) v w y under after in
    (dot i u (pos (0 + x)), r.0 ∷ r.1, _, ap (beside (dots i (pos 0) (alone u x below))) r.3, r.4)

-- where a child is joined to a row of some children, a level is exact
pub join-exact : (D : Distance) (extra u x : ℕ) (below after : Drawing) (v : ℕ) (new : Drawing)
    → Row D (width (at u x below after)) (row_dots 0 (at u x below after))
    → Exact D extra (shares (width (at u x below after)) (meetings D (at u x below after) v new)) (total (meetings D (at u x below after) v new) + extra)
    (row_dots 0 (at u x below after)) (dots (width (at u x below after)) (pos 0) (alone v (start D (at u x below after) v) new))
join-exact D extra u x below after v new R =
    ⊎_elim (λ z.
    let r = row_last D 0 v u x below after in
    let here = (last_of (r.0 ∷ r.1)).place in
    subst (λ (xs : List (List Dot)). Exact D extra (shares j ms) (total ms + extra) xs ys) (sym r.3)
    (exact (omega (arith, shares-le j ms (last_of (r.0 ∷ r.1)).child (inside r.0 r.1 r.2 r.3)))
    (parts_eq (pos (0 + start D row v) +ℤ pos (total ms + extra)) (here +ℤ pos (D (last_of (r.0 ∷ r.1)).node v + extra))
    (omega (arith, ap above0 r.4, ap below0 r.4, parts_add here (pos (D (last_of (r.0 ∷ r.1)).node v)), parts_add here (pos (D (last_of (r.0 ∷ r.1)).node v + extra)))))))
    (λ e. e)
    (walk-exact (row_dots 0 row) ys walk)
  where
    row : Drawing
    row = at u x below after

    j : ℕ
    j = width row

    ms : List Meeting
    ms = meetings D row v new

    ys : List (List Dot)
    ys = dots j (pos 0) (alone v (start D row v) new)

    walk : Walking D j j 0 (row_dots 0 row) ys (shares j ms) (total ms + extra) extra
    walk = row-walk extra (row_dots 0 row) ys R

    inside : (e : Dot) (l : List Dot) (ls : List (List Dot)) → row_dots 0 row ≡ (e ∷ l) ∷ ls → (last_of (e ∷ l)).child ≤ j
    inside e l ls p = (subst (All (λ x. (last_of x).child ≤ j)) p walk.owned).0

-- ---- the two dots of an exact level

-- the two dots of an exact level, which are measured
pub record Measured (D : Distance) (extra : ℕ) (m : ℕ → ℕ) (t : ℕ) (xs ys : List (List Dot)) : Type 0 where
  pub left : Dot
  pub right : Dot
  pub level : ℕ
  pub on_row : OnLevel left level xs
  pub on-child : OnLevel right level ys
  pub stays : m left.child ≡ 0
  pub exactly : right.place +ℤ pos t ≡ left.place +ℤ pos (D left.node right.node + extra)
  pub counted : 1 ≤ pair_count left.node right.node (measure (right_contour xs) (left_contour ys))

pub exact-dots : (D : Distance) (extra : ℕ) (m : ℕ → ℕ) (t : ℕ) (xs ys : List (List Dot)) → All Some xs → All Some ys → Exact D extra m t xs ys → Measured D extra m t xs ys
exact-dots D extra m t [] ys p q x3 = elim x3 [ ]
exact-dots D extra m t (x ∷ xs) [] p q x8 = elim x8 [ ]
exact-dots D extra m t (x ∷ xs) (y ∷ ys) p q (exact z e) =
    record { left = last_of x; right = first_of y; level = 0; on_row = top (last_mem x p.0); on-child = top (first-mem y q.0); stays = z; exactly = e; counted = here }
  where
    here : 1 ≤ pair_count (last_of x).node (first_of y).node (measure (right_contour (x ∷ xs)) (left_contour (y ∷ ys)))
    here = omega (arith, is_pair_lem (last_of x).node (first_of y).node)
exact-dots D extra m t (x ∷ xs) (y ∷ ys) p q (lower e) =
    let M = exact-dots D extra m t xs ys p.1 q.1 e in
    record {
      left = M.left;
      right = M.right;
      level = suc M.level;
      on_row = down M.on_row;
      on-child = down M.on-child;
      stays = M.stays;
      exactly = M.exactly;
      counted = le_trans M.counted (omega arith);
    }
