-- A contour has one dot of each level, and a step is stored from each dot to the next. Steps are kept where a contour moves as one piece;
-- where one contour is laid over another, which goes deeper, one thread more gives the steps of both. Assumes nothing.
use mathlib.Core.Path.{◌≡◌, refl, sym, ap, ap₂, ◌∙◌}
use mathlib.Core.List.{List, [], ◌∷◌, ◌++◌, map}
use Prim.Native.Nat.{ℕ}
use native.Mathlib.Omega.{arith}
use lib.IntN.{ℤ, ◌+ℤ◌, ◌-ℤ◌}
use Rattle.tree.specs.Levels.{beside}
use Rattle.tree.proofs.Counting.{All}
use Rattle.tree.proofs.Joined.{Some, some}
use Rattle.rule.specs.Drawing.{Dot, dot, first_of, last_of, left_contour, right_contour}
use Rattle.rule.proofs.Signed.{parts_add, parts_sub, parts_eq}
use Rattle.rule.proofs.LevelEnds.{first-map, last-map, last-append}
use Rattle.contours.specs.Contours.{LeftSteps, RightSteps}

-- ---- the contours of levels

pub some-map : {A B : Type 0} (g : A → B) (x : List A) → Some x → Some (map g x)
some-map {A = A} {B = B} g [] s = elim s [ ]
some-map g (d ∷ x) s = some

pub first-append : (x y : List Dot) → Some x → first_of (x ++ y) ≡ first_of x
first-append [] y s = elim s [ ]
first-append (d ∷ x) y s = refl

-- what holds of every dot holds of those that are picked, one of each level
pub picked_all : (pick : List Dot → Dot) (P : Dot → Type 0) → ((x : List Dot) → Some x → All P x → P (pick x))
    → (xs : List (List Dot)) → All Some xs → All (All P) xs → All P (map pick xs)
picked_all pick P h [] s a = tt
picked_all pick P h (x ∷ xs) s a = (h x s.0 a.0, picked_all pick P h xs s.1 a.1)

pub picked_map : (pick : List Dot → Dot) (g : Dot → Dot) → ((x : List Dot) → Some x → pick (map g x) ≡ g (pick x))
    → (xs : List (List Dot)) → All Some xs → map pick (map (map g) xs) ≡ map g (map pick xs)
picked_map pick g h [] s = refl
picked_map pick g h (x ∷ xs) s = ap₂ ◌∷◌ (h x s.0) (picked_map pick g h xs s.1)

-- a contour laid over another: its own dots, and below its last one those of the other
abbrev pub over : List Dot → List Dot → List Dot
over [] m = m
over (d ∷ l) [] = d ∷ l
over (d ∷ l) (e ∷ m) = d ∷ over l m

-- side by side, moved by g and h, the left levels lie over the right ones on the left, and under them on the right
pub left-beside : (g h : Dot → Dot) (xs ys : List (List Dot)) → All Some xs → All Some ys
    → left_contour (beside (map (map g) xs) (map (map h) ys)) ≡ over (map g (left_contour xs)) (map h (left_contour ys))
left-beside g h [] ys s t = picked_map first_of h (first-map h) ys t
left-beside g h (x ∷ xs) [] s t = picked_map first_of g (first-map g) (x ∷ xs) s
left-beside g h (x ∷ xs) (y ∷ ys) s t =
    ap₂ ◌∷◌ (first-append (map g x) (map h y) (some-map g x s.0) ∙ first-map g x s.0) (left-beside g h xs ys s.1 t.1)

pub right-beside : (g h : Dot → Dot) (xs ys : List (List Dot)) → All Some xs → All Some ys
    → right_contour (beside (map (map g) xs) (map (map h) ys)) ≡ over (map h (right_contour ys)) (map g (right_contour xs))
right-beside g h [] [] s t = refl
right-beside g h [] (y ∷ ys) s t = picked_map last_of h (last-map h) (y ∷ ys) t
right-beside g h (x ∷ xs) [] s t = picked_map last_of g (last-map g) (x ∷ xs) s
right-beside g h (x ∷ xs) (y ∷ ys) s t =
    ap₂ ◌∷◌ (last-append (map g x) (map h y) (some-map h y t.0) ∙ last-map h y t.0) (right-beside g h xs ys s.1 t.1)

-- ---- stored steps

abbrev pub Steps : (ℕ → ℤ) → List Dot → Type 0
Steps step [] = Unit {0}
Steps step (d ∷ []) = Unit {0}
Steps step (d ∷ e ∷ l) = (step d.node ≡ e.place -ℤ d.place) × Steps step (e ∷ l)

pub left-steps : (left : ℕ → ℤ) (xs : List (List Dot)) → LeftSteps left xs ≡ Steps left (left_contour xs)
left-steps left [] = refl
left-steps left (x ∷ []) = refl
left-steps left (x ∷ y ∷ zs) = ap (λ (T : Type 0). (left (first_of x).node ≡ (first_of y).place -ℤ (first_of x).place) × T) (left-steps left (y ∷ zs))

pub right-steps : (right : ℕ → ℤ) (xs : List (List Dot)) → RightSteps right xs ≡ Steps right (right_contour xs)
right-steps right [] = refl
right-steps right (x ∷ []) = refl
right-steps right (x ∷ y ∷ zs) = ap (λ (T : Type 0). (right (last_of x).node ≡ (last_of y).place -ℤ (last_of x).place) × T) (right-steps right (y ∷ zs))

-- a contour that moves as one piece, whatever children its dots are counted to
pub steps-shift : (step : ℕ → ℤ) (tag : Dot → ℕ) (o : ℤ) (l : List Dot) → Steps step l → Steps step (map (λ e. dot (tag e) e.node (e.place +ℤ o)) l)
steps-shift step tag o [] s = tt
steps-shift step tag o (d ∷ []) s = tt
steps-shift step tag o (d ∷ e ∷ l) s = (s.0 ∙ sym (same_step d.place e.place), steps-shift step tag o (e ∷ l) s.1)
  where
    same_step : (a b : ℤ) → (b +ℤ o) -ℤ (a +ℤ o) ≡ b -ℤ a
    same_step a b = parts_eq ((b +ℤ o) -ℤ (a +ℤ o)) (b -ℤ a) (omega (arith, parts_add b o, parts_add a o, parts_sub (b +ℤ o) (a +ℤ o), parts_sub b a))

-- where the contour below goes deeper, the step from the last dot of the one above to the next dot
pub data Thread (step : ℕ → ℤ) : List Dot → List Dot → Type 0 where
  covered : {l : List Dot} → Thread step l []
  threaded : {d e f : Dot} {m : List Dot} → step d.node ≡ f.place -ℤ d.place → Thread step (d ∷ []) (e ∷ f ∷ m)
  deeper : {d e : Dot} {l m : List Dot} → Thread step l m → Thread step (d ∷ l) (e ∷ m)

pub steps-over : (step : ℕ → ℤ) {l m : List Dot} → Steps step l → Steps step m → Thread step l m → Steps step (over l m)
steps-over step {l = []} s t covered = tt
steps-over step {l = d ∷ l} s t covered = s
steps-over step s t (threaded h) = (h, t.1)
steps-over step {l = d ∷ []} s t (deeper covered) = tt
steps-over step {l = d ∷ e ∷ l} s t (deeper covered) = s
steps-over step s t (deeper (threaded h)) = (s.0, (h, t.1.1))
steps-over step {l = d ∷ d' ∷ l} {m = e ∷ e' ∷ m} s t (deeper (deeper r)) =
    (s.0, steps-over step {l = d' ∷ l} {m = e' ∷ m} s.1 t.1 (deeper {d = d'} {e = e'} r))
