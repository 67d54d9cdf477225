-- What is added after the walk: nothing in the plain rule, nothing at a leaf, and else the extra space where any conflict was met, since on the
-- children's own level there is none. Assumes nothing.
use mathlib.Core.Path.{◌≡◌, refl, ap}
use mathlib.Core.Logic.{⊎_elim}
use mathlib.Core.Bool.{Bool, true, false, cond}
use mathlib.Core.List.{List, [], ◌∷◌}
use Prim.Native.Nat.{ℕ, ◌+◌, ◌≤◌}
use native.Mathlib.Omega.{arith}
use lib.Dec.{ltb}
use lib.IntN.{pos, ◌+ℤ◌, ◌-ℤ◌}
use Rattle.distance.specs.Needed.{Distance}
use Rattle.rule.specs.Drawing.{Drawing, none, at, width, Dot, dot, dots, last_of, left_contour, right_contour}
use Rattle.rule.specs.Join.{Meeting, above0, shortfall, meet, total, significant, added, start, alone, row_contour, meetings}
use Rattle.rule.proofs.Signed.{below0, one-part, parts_add, parts_sub}
use Rattle.rule.proofs.Exact.{row_last}

-- what a test picks is one of the two
one_of : (P : ℕ → Type 0) (b : Bool) (x y : ℕ) → P x → P y → P (cond b x y)
one_of P true x y p q = p
one_of P false x y p q = q

pub added-at_most : (extra : ℕ) (ms : List Meeting) → added extra ms ≤ extra
unfolding added
added-at_most extra ms = one_of (λ z. z ≤ extra) (significant ms) extra 0 (omega arith) (omega arith)

-- the plain rule
pub nothing-added : (ms : List Meeting) → added 0 ms ≡ 0
unfolding added
nothing-added ms = one_of (λ z. z ≡ 0) (significant ms) 0 0 refl refl

-- ---- a leaf

pub meet-none : (D : Distance) (moved : ℕ) (l : List Dot) → meet D moved l [] ≡ []
meet-none D moved [] = refl
meet-none D moved (e ∷ l) = refl

-- the walk along a leaf has one level at most
pub leaf-added : (D : Distance) (extra : ℕ) (row : Drawing) (v : ℕ) → added extra (meetings D row v none) ≡ 0
unfolding added
leaf-added D extra row v = go (row_contour row)
  where
    e : Dot
    e = dot (width row) v (pos (0 + start D row v))

    go : (us : List Dot) → added extra (meet D 0 us (e ∷ [])) ≡ 0
    go [] = refl
    go (a ∷ us) =
        let s = shortfall (D a.node v) a.place (e.place +ℤ pos 0) in
        ap (λ (l : List Meeting). added extra (record { child = a.child; amount = s } ∷ l)) (meet-none D _ us)

-- ---- the children's own level

-- the first meeting is no conflict
pub own-level : (D : Distance) (u x : ℕ) (below after : Drawing) (v : ℕ) (new : Drawing)
    → (m : Meeting) × (ms : List Meeting) × (meetings D (at u x below after) v new ≡ m ∷ ms) × (m.amount ≡ 0)
own-level D u x below after v new =
    let r = row_last D 0 v u x below after in
    let last = last_of (r.0 ∷ r.1) in
    let here = pos (0 + start D row v) in
    let n = D last.node v in
    let distance = here +ℤ pos 0 -ℤ last.place in
    let starts = ap above0 r.4 in
    let starts' = ap below0 r.4 in
    let next = parts_add last.place (pos n) in
    let unmoved = parts_add here (pos 0) in
    let apart = parts_sub (here +ℤ pos 0) last.place in
    let short = parts_sub (pos n) distance in
    let free : shortfall n last.place (here +ℤ pos 0) ≡ 0 = ⊎_elim (λ z. omega arith) (λ z. omega arith) (one-part (pos n -ℤ distance)) in
    (_, _, ap (λ (xs : List (List Dot)). meet D 0 (right_contour xs) (left_contour ys)) r.3, free)
  where
    row : Drawing
    row = at u x below after

    ys : List (List Dot)
    ys = dots (width row) (pos 0) (alone v (start D row v) new)

-- so a conflict on any level is one below it
module _ (D : Distance) (u x : ℕ) (below after : Drawing) (v : ℕ) (new : Drawing) where
  pub significant-moved : significant (meetings D (at u x below after) v new) ≡ ltb 0 (total (meetings D (at u x below after) v new))
  significant-moved =
      let r = own-level D u x below after v new in
      let whole : total r.1 ≡ r.0.amount + total r.1 = omega (arith, r.3) in
      rw r.2 (ap (ltb 0) whole)

pub added-moved : (D : Distance) (extra u x : ℕ) (below after : Drawing) (v : ℕ) (new : Drawing)
    → added extra (meetings D (at u x below after) v new) ≡ cond (ltb 0 (total (meetings D (at u x below after) v new))) extra 0
unfolding added
added-moved D extra u x below after v new = ap (λ (b : Bool). cond b extra 0) (significant-moved D u x below after v new)
