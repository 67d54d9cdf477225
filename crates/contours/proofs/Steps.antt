-- Stored steps: those of a subtree from those of its children's row, and steps that a write elsewhere leaves as they are. Assumes nothing.
use mathlib.Core.Path.{◌≡◌, refl, ap, ◌∙◌}
use mathlib.Core.List.{List, [], ◌∷◌, ◌++◌, map}
use Prim.Native.Nat.{ℕ, suc, ◌+◌, ◌≤◌, ◌<◌}
use native.Mathlib.Omega.{arith}
use lib.IntN.{ℤ, pos, ◌+ℤ◌, ◌-ℤ◌}
use Rattle.tree.specs.Levels.{beside}
use Rattle.tree.proofs.Counting.{All}
use Rattle.rule.specs.Drawing.{Drawing, none, at, width, first_place, last_place, middle, Dot, dot, dots, row_dots, first_of, last_of}
use Rattle.rule.specs.Join.{above0, alone}
use Rattle.rule.proofs.Signed.{below0, parts_add, parts_sub, parts_eq}
use Rattle.tree.proofs.Joined.{Some}
use Rattle.rule.proofs.Moving.{settle, dots-row}
use Rattle.rule.proofs.LevelEnds.{first-map, last-map}
use Rattle.contours.specs.Contours.{LeftSteps, RightSteps}
use Rattle.level_order.proofs.Positions.{Ordered, mono-le, within}
use Rattle.contours.proofs.Runs.{Runs}
use Rattle.contours.proofs.Contour.{picked_map, Steps, left-steps, right-steps, steps-shift}

-- ---- the top level of a row

pub row-top : (i u y : ℕ) (b a : Drawing)
    → (l : List Dot) × (ls : List (List Dot)) × (row_dots i (at u y b a) ≡ (dot i u (pos (0 + y)) ∷ l) ∷ ls) × ((last_of (dot i u (pos (0 + y)) ∷ l)).place ≡ pos (last_place (at u y b a)))
row-top i u y b none = ([], _, refl, ap pos (omega arith))
row-top i u y b (at v z c d) =
    let r = row-top (i + 1) v z c d in
    (dot (i + 1) v (pos (0 + z)) ∷ r.0, _, ap (beside (dots i (pos 0) (alone u y b))) r.2, r.3)

-- ---- a subtree

-- a step from the root to a node of the row, in the row's count and in the root's
root-step : (h p x m : ℤ) → h ≡ p -ℤ m → h ≡ (p +ℤ (x -ℤ m)) -ℤ x
root-step h p x m e =
    parts_eq h ((p +ℤ (x -ℤ m)) -ℤ x) (omega (arith, ap above0 e, ap below0 e, parts_sub p m, parts_sub x m, parts_add p (x -ℤ m), parts_sub (p +ℤ (x -ℤ m)) x))

-- the root above its children's row, on the contour that picks a dot of each level
steps-root : (step : ℕ → ℤ) (c i x : ℕ) (pick : List Dot → Dot) → ((g : Dot → Dot) (l : List Dot) → Some l → pick (map g l) ≡ g (pick l))
    → (d : Drawing) (l : List Dot) (ls : List (List Dot)) (k : ℕ) → row_dots 0 d ≡ l ∷ ls → (pick l).place ≡ pos k → step c ≡ pos k -ℤ pos (middle d)
    → All Some (row_dots 0 d) → Steps step (map pick (row_dots 0 d)) → Steps step (dot i c (pos (0 + x)) ∷ map pick (dots i (pos (0 + x) -ℤ pos (middle d)) d))
steps-root step c i x pick picks d l ls k e top h s r =
    let o = pos (0 + x) -ℤ pos (middle d) in
    rw (dots-row i 0 o d, picked_map pick (settle i o) (picks (settle i o)) (row_dots 0 d) s, e) (
      root-step (step c) (pick l).place (pos (0 + x)) (pos (middle d)) (rw top h),
      steps-shift step (λ e. i) o (pick l ∷ map pick ls) (rw e at r),
    )

module _ (left right : ℕ → ℤ) (c i x : ℕ) where
  pub subtree-left : (b : Drawing) → All Some (row_dots 0 b) → LeftSteps left (row_dots 0 b) → (0 < width b → left c ≡ pos (first_place b) -ℤ pos (middle b))
      → LeftSteps left (dots i (pos 0) (alone c x b))
  subtree-left none s l r = tt
  subtree-left (at u y b a) s l r =
      let t = row-top 0 u y b a in
      rw left-steps
      (steps-root left c i x first_of first-map (at u y b a) (dot 0 u (pos (0 + y)) ∷ t.0) t.1 y t.2 (ap pos (omega arith)) (r (omega arith)) s
      (rw left-steps at l))

  pub subtree-right : (b : Drawing) → All Some (row_dots 0 b) → RightSteps right (row_dots 0 b) → (0 < width b → right c ≡ pos (last_place b) -ℤ pos (middle b))
      → RightSteps right (dots i (pos 0) (alone c x b))
  subtree-right none s l r = tt
  subtree-right (at u y b a) s l r =
      let t = row-top 0 u y b a in
      rw right-steps
      (steps-root right c i x last_of last-map (at u y b a) (dot 0 u (pos (0 + y)) ∷ t.0) t.1 (last_place (at u y b a)) t.2 t.3 (r (omega arith)) s
      (rw right-steps at l))

-- ---- writes that leave steps as they are

-- every level but the last
abbrev pub Inner : (List Dot → Type 0) → List (List Dot) → Type 0
Inner P [] = Unit {0}
Inner P (x ∷ []) = Unit {0}
Inner P (x ∷ y ∷ zs) = P x × Inner P (y ∷ zs)

steps_frame : (pick : List Dot → Dot) (old new : ℕ → ℤ) (xs : List (List Dot)) → Inner (λ x. new (pick x).node ≡ old (pick x).node) xs → Steps old (map pick xs) → Steps new (map pick xs)
steps_frame pick old new [] i s = tt
steps_frame pick old new (x ∷ []) i s = tt
steps_frame pick old new (x ∷ y ∷ zs) i s = (i.0 ∙ s.0, steps_frame pick old new (y ∷ zs) i.1 s.1)

pub left_frame : (left left' : ℕ → ℤ) (xs : List (List Dot)) → Inner (λ x. left' (first_of x).node ≡ left (first_of x).node) xs → LeftSteps left xs → LeftSteps left' xs
left_frame left left' xs i s = rw left-steps (steps_frame first_of left left' xs i (rw left-steps at s))

pub right_frame : (right right' : ℕ → ℤ) (xs : List (List Dot)) → Inner (λ x. right' (last_of x).node ≡ right (last_of x).node) xs → RightSteps right xs → RightSteps right' xs
right_frame right right' xs i s = rw right-steps (steps_frame last_of right right' xs i (rw right-steps at s))

pub all-inner : (P : List Dot → Type 0) (xs : List (List Dot)) → All P xs → Inner P xs
all-inner P [] a = tt
all-inner P (x ∷ []) a = tt
all-inner P (x ∷ y ∷ zs) a = (a.0, all-inner P (y ∷ zs) a.1)

pub inner-weaken : (P Q : List Dot → Type 0) → ((x : List Dot) → P x → Q x) → (xs : List (List Dot)) → Inner P xs → Inner Q xs
inner-weaken P Q h [] a = tt
inner-weaken P Q h (x ∷ []) a = tt
inner-weaken P Q h (x ∷ y ∷ zs) a = (h x a.0, inner-weaken P Q h (y ∷ zs) a.1)

inner-more : (P : List Dot → Type 0) (u : List Dot) (us : List (List Dot)) (x : List Dot) → P u → Inner P (us ++ (x ∷ [])) → Inner P (u ∷ us ++ (x ∷ []))
inner-more P u [] x p a = (p, tt)
inner-more P u (w ∷ us) x p a = (p, a)

runs_some : (first : ℕ → ℕ) (a b : ℕ) (us : List (List Dot)) (x : List Dot) → Runs first a b (us ++ (x ∷ [])) → a < b
runs_some first a b [] x r = r.0
runs_some first a b (u ∷ us) x r = r.0

-- On the levels of a run of level order the nodes lie before those of the last level.
module _ (first : ℕ → ℕ) (n : ℕ) (O : Ordered first n) where
  pub inner_first : (a b : ℕ) (us : List (List Dot)) (x : List Dot) → b ≤ n → Runs first a b (us ++ (x ∷ [])) → (a ≤ (first_of x).node) × Inner (λ l. (first_of l).node < (first_of x).node) (us ++ (x ∷ []))
  inner_first a b [] x h r = (omega (arith, r.1), tt)
  inner_first a b (u ∷ us) x h r =
      let i = inner_first (first a) (first b) us x (within first n O b h) r.4 in
      let up = O.later a (omega (arith, r.0)) in
      (omega (arith, i.0), inner-more _ u us x (omega (arith, r.1, i.0)) i.1)

  pub inner_last : (a b : ℕ) (us : List (List Dot)) (x : List Dot) → b ≤ n → b ≤ first a → Runs first a b (us ++ (x ∷ [])) → (b ≤ suc (last_of x).node) × Inner (λ l. (last_of l).node < (last_of x).node) (us ++ (x ∷ []))
  inner_last a b [] x h k r = (omega (arith, r.2), tt)
  inner_last a b (u ∷ us) x h k r =
      let i = inner_last (first a) (first b) us x (within first n O b h) (mono-le first n O b (first a) k (within first n O a (omega (arith, r.0)))) r.4 in
      let up = runs_some first (first a) (first b) us x r.4 in
      (omega (arith, i.0), inner-more _ u us x (omega (arith, r.2, i.0)) i.1)
