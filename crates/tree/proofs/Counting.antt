-- Counting: sums over the numbers below a bound, how often a number occurs in a list, and what follows for lists without repetition.
-- Assumes nothing.
use mathlib.Core.Path.{◌≡◌, refl, sym, ap, ap₂, ◌∙◌, subst}
use mathlib.Core.Logic.{◌⊎◌, inl, inr, ⊎_elim}
use mathlib.Core.Bool.{Bool, true, false, cond}
use mathlib.Core.List.{List, [], ◌∷◌, ◌++◌, map}
use Prim.Native.Nat.{ℕ, zero, suc, ◌+◌, ◌*◌, ◌≤◌, ◌<◌}
use native.Mathlib.Nat.{not-suc-le-zero}
use native.Mathlib.Omega.{arith}
use lib.Dec.{eqb, ltb}
use lib.ListN.{length}
use borrow.Author.Tests.{eq-eqb, ne_eqb, eqb-true, eqb-false, ltb-true, ltb-false}
use Rattle.tree.specs.Numbers.{is, count, up_to}

-- ---- one number against another

pub is_same : (x y : ℕ) → x ≡ y → is x y ≡ 1
is_same x y e = ap (λ (b : Bool). cond b 1 0) (eq-eqb x y e)

pub is-other : (x y : ℕ) → (x ≡ y → ⊥) → is x y ≡ 0
is-other x y h = ap (λ (b : Bool). cond b 1 0) (ne_eqb x y h)

-- either the two are one number, or they differ
pub is-cases : (x y : ℕ) → ((x ≡ y) × (is x y ≡ 1)) ⊎ ((x ≡ y → ⊥) × (is x y ≡ 0))
is-cases x y = go (eqb x y) refl
  where
    go : (b : Bool) → eqb x y ≡ b → ((x ≡ y) × (is x y ≡ 1)) ⊎ ((x ≡ y → ⊥) × (is x y ≡ 0))
    go true e = inl (eqb-true x y e, is_same x y (eqb-true x y e))
    go false e = inr (eqb-false x y e, is-other x y (eqb-false x y e))

-- either x is below n, or not, and the test says so
pub below_or_not : (x n : ℕ) → ((x < n) × (ltb x n ≡ true)) ⊎ ((n ≤ x) × (ltb x n ≡ false))
below_or_not x n = go (ltb x n) refl
  where
    go : (b : Bool) → ltb x n ≡ b → ((x < n) × (ltb x n ≡ true)) ⊎ ((n ≤ x) × (ltb x n ≡ false))
    go true e = inl (ltb-true x n e, e)
    go false e = inr (ltb-false x n e, e)

-- what holds at r and at every later number holds from r on
pub from_more : (P : ℕ → Type 0) (r : ℕ) → P r → ((q : ℕ) → suc r ≤ q → P q) → (q : ℕ) → r ≤ q → P q
from_more P r here later q h = ⊎_elim (λ e. subst P (sym e.0) here) (λ d. later q (past d.0)) (is-cases q r)
  where
    past : (q ≡ r → ⊥) → suc r ≤ q
    past d = omega arith

pub count-append : (x : ℕ) (l m : List ℕ) → count x (l ++ m) ≡ count x l + count x m
count-append x [] m = omega arith
count-append x (y ∷ l) m = omega (arith, count-append x l m)

-- ---- every element of a list

abbrev pub All {ℓ} : {A : Type ℓ} → (A → Type 0) → List A → Type 0
All P [] = Unit {0}
All P (x ∷ xs) = P x × All P xs

pub all_append {ℓ} : {A : Type ℓ} (P : A → Type 0) (l m : List A) → All P l → All P m → All P (l ++ m)
all_append P [] m a b = b
all_append P (x ∷ l) m a b = (a.0, all_append P l m a.1 b)

pub all_left {ℓ} : {A : Type ℓ} (P : A → Type 0) (l m : List A) → All P (l ++ m) → All P l
all_left P [] m a = tt
all_left P (x ∷ l) m a = (a.0, all_left P l m a.1)

pub all_right {ℓ} : {A : Type ℓ} (P : A → Type 0) (l m : List A) → All P (l ++ m) → All P m
all_right P [] m a = a
all_right P (x ∷ l) m a = all_right P l m a.1

pub all-weaken : {A : Type 0} (P Q : A → Type 0) → ((x : A) → P x → Q x) → (l : List A) → All P l → All Q l
all-weaken P Q h [] a = tt
all-weaken P Q h (x ∷ l) a = (h x a.0, all-weaken P Q h l a.1)

pub all_both : {A : Type 0} (P Q R : A → Type 0) → ((x : A) → P x → Q x → R x) → (l : List A) → All P l → All Q l → All R l
all_both P Q R h [] a b = tt
all_both P Q R h (x ∷ l) a b = (h x a.0 b.0, all_both P Q R h l a.1 b.1)

pub all_map : {A B : Type 0} (f : A → B) (P : A → Type 0) (Q : B → Type 0) → ((x : A) → P x → Q (f x)) → (l : List A) → All P l → All Q (map f l)
all_map f P Q h [] a = tt
all_map f P Q h (x ∷ l) a = (h x a.0, all_map f P Q h l a.1)

-- every element is below n
abbrev pub Below : ℕ → List ℕ → Type 0
Below n = All (λ x. x < n)

pub count-outside : (n : ℕ) (l : List ℕ) → Below n l → (x : ℕ) → n ≤ x → count x l ≡ 0
count-outside n [] b x h = refl
count-outside n (y ∷ l) b x h =
    let differ : x ≡ y → ⊥ = λ e. omega arith in
    omega (arith, is-other x y differ, count-outside n l b.1 x h)

-- ---- sums over the numbers below n

abbrev pub sum_below : ℕ → (ℕ → ℕ) → ℕ
sum_below zero f = 0
sum_below (suc n) f = f n + sum_below n f

pub sum_below-zero : (n : ℕ) → sum_below n (λ x. 0) ≡ 0
sum_below-zero zero = refl
sum_below-zero (suc n) = omega (arith, sum_below-zero n)

pub sum_below-one : (n : ℕ) → sum_below n (λ x. 1) ≡ n
sum_below-one zero = refl
sum_below-one (suc n) = omega (arith, sum_below-one n)

pub sum_below-add : (n : ℕ) (f g : ℕ → ℕ) → sum_below n (λ x. f x + g x) ≡ sum_below n f + sum_below n g
sum_below-add zero f g = refl
sum_below-add (suc n) f g = omega (arith, sum_below-add n f g)

pub sum_below-mono : (n : ℕ) (f g : ℕ → ℕ) → ((x : ℕ) → x < n → f x ≤ g x) → sum_below n f ≤ sum_below n g
sum_below-mono zero f g h = omega arith
sum_below-mono (suc n) f g h =
    let here : f n ≤ g n = h n (omega arith) in
    let below : sum_below n f ≤ sum_below n g = sum_below-mono n f g (λ x l. h x (omega arith)) in
    omega arith

pub sum_below_cong : (n : ℕ) (f g : ℕ → ℕ) → ((x : ℕ) → x < n → f x ≡ g x) → sum_below n f ≡ sum_below n g
sum_below_cong zero f g h = refl
sum_below_cong (suc n) f g h = ap₂ ◌+◌ (h n (omega arith)) (sum_below_cong n f g (λ x l. h x (omega arith)))

-- one number below n counts once, and one that is not below n not at all
pub sum_below-outside : (n a : ℕ) → n ≤ a → sum_below n (λ x. is x a) ≡ 0
sum_below-outside zero a h = refl
sum_below-outside (suc n) a h = omega (arith, is-other n a (λ e. omega arith), sum_below-outside n a (omega arith))

below : {n a : ℕ} → a < suc n → (n ≡ a → ⊥) → a < n
below h d = omega arith

pub sum_below-once : (n a : ℕ) → a < n → sum_below n (λ x. is x a) ≡ 1
sum_below-once zero a h = absurd (not-suc-le-zero h)
sum_below-once (suc n) a h =
    ⊎_elim (λ e. omega (arith, sum_below-outside n a (omega arith)))
    (λ e. omega (arith, sum_below-once n a (below h e.0)))
    (is-cases n a)

-- a term of a sum is at most the sum
pub sum_below_term : (n : ℕ) (f : ℕ → ℕ) (a : ℕ) → a < n → f a ≤ sum_below n f
sum_below_term zero f a h = absurd (not-suc-le-zero h)
sum_below_term (suc n) f a h =
    ⊎_elim (λ e. omega (arith, ap f e.0))
    (λ e. omega (arith, sum_below_term n f a (below h e.0)))
    (is-cases n a)

-- terms that are 0 or 1, of which one is 0
pub sum_below_lacking : (n : ℕ) (f : ℕ → ℕ) → ((x : ℕ) → x < n → f x ≤ 1) → (a : ℕ) → a < n → f a ≡ 0 → sum_below n f < n
sum_below_lacking n f few a h e =
    omega (
      arith,
      sum_below-add n (λ x. is x a) f,
      sum_below-once n a h,
      sum_below-one n,
      sum_below-mono n (λ x. is x a + f x) (λ x. 1) both,
    )
  where
    both : (x : ℕ) → x < n → is x a + f x ≤ 1
    both x k = ⊎_elim (λ s. omega (arith, ap f s.0)) (λ s. omega (arith, few x k)) (is-cases x a)

-- ---- a list and the counts of its elements

pub length-counts : (n : ℕ) (l : List ℕ) → Below n l → length l ≡ sum_below n (λ x. count x l)
length-counts n [] b = sym (sum_below-zero n)
length-counts n (y ∷ l) b = omega (arith, length-counts n l b.1, sum_below-add n (λ x. is x y) (λ x. count x l), sum_below-once n y b.0)

pub counts-length : (n : ℕ) (l : List ℕ) → sum_below n (λ x. count x l) ≤ length l
counts-length n [] = omega (arith, sum_below-zero n)
counts-length n (y ∷ l) =
    ⊎_elim (λ h. omega (arith, sum_below-add n (λ x. is x y) (λ x. count x l), sum_below-once n y h.0, counts-length n l))
    (λ h. omega (arith, sum_below-add n (λ x. is x y) (λ x. count x l), sum_below-outside n y h.0, counts-length n l))
    (below_or_not y n)

-- no number below n occurs twice
abbrev pub Distinct : ℕ → List ℕ → Type 0
Distinct n l = (x : ℕ) → x < n → count x l ≤ 1

pub distinct-length : (n : ℕ) (l : List ℕ) → Below n l → Distinct n l → length l ≤ n
distinct-length n l b d = omega (arith, length-counts n l b, sum_below-mono n (λ x. count x l) (λ x. 1) d, sum_below-one n)

-- where each number below n occurs, the list has at least n elements
pub covering_length : (n : ℕ) (l : List ℕ) → ((x : ℕ) → x < n → 1 ≤ count x l) → n ≤ length l
covering_length n l h = omega (arith, counts-length n l, sum_below-mono n (λ x. 1) (λ x. count x l) h, sum_below-one n)

-- a list without repetition that lacks a number below n is shorter than n
pub distinct_lacking : (n : ℕ) (l : List ℕ) → Below n l → Distinct n l → (a : ℕ) → a < n → count a l ≡ 0 → length l < n
distinct_lacking n l b d a h e = omega (arith, length-counts n l b, sum_below_lacking n (λ x. count x l) d a h e)

-- ---- sums over the elements of a list

abbrev pub sum_over {ℓ} : {A : Type ℓ} → (A → ℕ) → List A → ℕ
sum_over f [] = 0
sum_over f (x ∷ xs) = f x + sum_over f xs

pub sum_over-append {ℓ} : {A : Type ℓ} (f : A → ℕ) (l m : List A) → sum_over f (l ++ m) ≡ sum_over f l + sum_over f m
sum_over-append f [] m = omega arith
sum_over-append f (x ∷ l) m = omega (arith, sum_over-append f l m)

-- a sum that counts one number only
pub sum_below-single : (f : ℕ → ℕ) (n a : ℕ) → a < n → sum_below n (λ x. is x a * f x) ≡ f a
sum_below-single f zero a h = absurd (not-suc-le-zero h)
sum_below-single f (suc n) a h =
    ⊎_elim (λ e. omega (arith, outside n (omega arith), ap (λ (k : ℕ). k * f n) e.1, ap f e.0))
    (λ e. omega (arith, sum_below-single f n a (below h e.0), ap (λ (k : ℕ). k * f n) e.1))
    (is-cases n a)
  where
    outside : (m : ℕ) → m ≤ a → sum_below m (λ x. is x a * f x) ≡ 0
    outside zero h = refl
    outside (suc m) h = omega (arith, outside m (omega arith), ap (λ (k : ℕ). k * f m) (is-other m a (λ e. omega arith)))

-- a sum over a list is the sum over all numbers below n, each as often as it occurs
pub sum_over-counts : (f : ℕ → ℕ) (n : ℕ) (l : List ℕ) → Below n l → sum_over f l ≡ sum_below n (λ x. count x l * f x)
sum_over-counts f n [] b = sym (sum_below_cong n (λ x. 0 * f x) (λ x. 0) (λ x h. omega arith) ∙ sum_below-zero n)
sum_over-counts f n (y ∷ l) b =
    omega (arith, sum_over-counts f n l b.1, sum_below-add n (λ x. is x y * f x) (λ x. count x l * f x), split, sum_below-single f n y b.0)
  where
    split : sum_below n (λ x. (is x y + count x l) * f x) ≡ sum_below n (λ x. is x y * f x + count x l * f x)
    split = sum_below_cong n _ _ (λ x h. omega arith)

-- two lists of numbers below n in which each occurs equally often have equal sums
pub sum_over-same : (f : ℕ → ℕ) (n : ℕ) (l m : List ℕ) → Below n l → Below n m → ((x : ℕ) → x < n → count x l ≡ count x m)
    → sum_over f l ≡ sum_over f m
sum_over-same f n l m bl bm e =
    sum_over-counts f n l bl
    ∙ sum_below_cong n (λ x. count x l * f x) (λ x. count x m * f x) (λ x h. ap (λ (k : ℕ). k * f x) (e x h))
    ∙ sym (sum_over-counts f n m bm)

-- ---- the numbers below n as a list

pub below-up_to : (n : ℕ) → Below n (up_to n)
below-up_to zero = tt
below-up_to (suc n) = all_append (λ x. x < suc n) (up_to n) (n ∷ []) (wider (up_to n) (below-up_to n)) (omega arith, tt)
  where
    wider : (l : List ℕ) → Below n l → Below (suc n) l
    wider [] b = tt
    wider (x ∷ l) b = (omega arith, wider l b.1)

pub count-up_to : (n x : ℕ) → x < n → count x (up_to n) ≡ 1
count-up_to zero x h = absurd (not-suc-le-zero h)
count-up_to (suc n) x h =
    ⊎_elim (λ e. omega (arith, count-append x (up_to n) (n ∷ []), count-outside n (up_to n) (below-up_to n) x (omega arith)))
    (λ e. omega (arith, count-append x (up_to n) (n ∷ []), count-up_to n x (less h e.0)))
    (is-cases x n)
  where
    less : x < suc n → (x ≡ n → ⊥) → x < n
    less h d = omega arith

pub sum_over-up_to : (f : ℕ → ℕ) (n : ℕ) → sum_over f (up_to n) ≡ sum_below n f
sum_over-up_to f zero = refl
sum_over-up_to f (suc n) = omega (arith, sum_over-append f (up_to n) (n ∷ []), sum_over-up_to f n)
