-- A test that some element of a list passes, the same said of every element, and the members of a list of numbers. Assumes nothing.
use mathlib.Core.Path.{◌≡◌, refl, sym, ap, ◌∙◌, subst}
use mathlib.Core.Logic.{◌⊎◌, inl, inr, ⊎_elim}
use mathlib.Core.Bool.{Bool, true, false, ◌||◌, true≢false}
use mathlib.Core.List.{List, [], ◌∷◌, ◌++◌}
use Prim.Native.Nat.{ℕ, zero, suc, ◌+◌, ◌≤◌, ◌<◌}
use native.Mathlib.Nat.{not-suc-le-zero, le_of_suc-le-suc}
use native.Mathlib.Omega.{arith}
use lib.Dec.{eqb}
use lib.ListN.{length, get_or}
use borrow.Author.Tests.{eq-eqb, eqb-true}
use Rattle.refusal.proofs.Truth.{true-or-false, or-false-left, or-false-right, or-false}
use Rattle.tree.specs.Numbers.{count, any, member, up_to}
use Rattle.tree.proofs.Counting.{All, all_append, all_left, all_right, is_same, is-cases, count-append}

-- ---- no element passes

module _ {A : Type 0} (p : A → Bool) where
  pub any_false : (l : List A) → any p l ≡ false → All (λ x. p x ≡ false) l
  any_false [] e = tt
  any_false (x ∷ l) e = (or-false-left (p x) (any p l) e, any_false l (or-false-right (p x) (any p l) e))

  pub all_any : (l : List A) → All (λ x. p x ≡ false) l → any p l ≡ false
  all_any [] a = refl
  all_any (x ∷ l) a = or-false a.0 (all_any l a.1)

-- ---- by index

pub all-at : {A : Type 0} (P : A → Type 0) (l : List A) (d : A) → All P l → (i : ℕ) → i < length l → P (get_or l i d)
all-at P [] d a i h = absurd (not-suc-le-zero h)
all-at P (x ∷ l) d a zero h = a.0
all-at P (x ∷ l) d a (suc i) h = all-at P l d a.1 i (le_of_suc-le-suc h)

pub at_all : {A : Type 0} (P : A → Type 0) (l : List A) (d : A) → ((i : ℕ) → i < length l → P (get_or l i d)) → All P l
at_all P [] d h = tt
at_all P (x ∷ l) d h = (h 0 (omega arith), at_all P l d (λ i k. h (suc i) (omega arith)))

-- ---- over the numbers below n

pub up_to-all : (P : ℕ → Type 0) (n : ℕ) → All P (up_to n) → (v : ℕ) → v < n → P v
up_to-all P zero a v h = absurd (not-suc-le-zero h)
up_to-all P (suc n) a v h =
    ⊎_elim (λ e. subst P (sym e.0) (all_right P (up_to n) (n ∷ []) a).0)
    (λ e. up_to-all P n (all_left P (up_to n) (n ∷ []) a) v (less h e.0))
    (is-cases v n)
  where
    less : v < suc n → (v ≡ n → ⊥) → v < n
    less h d = omega arith

pub all-up_to : (P : ℕ → Type 0) (n : ℕ) → ((v : ℕ) → v < n → P v) → All P (up_to n)
all-up_to P zero h = tt
all-up_to P (suc n) h = all_append P (up_to n) (n ∷ []) (all-up_to P n (λ v k. h v (omega arith))) (h n (omega arith), tt)

-- some number below n passes a test, or none does
pub some_or_none : (p : ℕ → Bool) (n : ℕ) → ((v : ℕ) × (v < n) × (p v ≡ true)) ⊎ ((v : ℕ) → v < n → p v ≡ false)
some_or_none p zero = inr (λ v h. absurd (not-suc-le-zero h))
some_or_none p (suc n) =
    ⊎_elim (λ s. inl (s.0, omega arith, s.2))
    (λ none. ⊎_elim (λ e. inl (n, omega arith, e))
    (λ e. inr (λ v h. ⊎_elim (λ s. ap p s.0 ∙ e) (λ s. none v (less v h s.0)) (is-cases v n)))
    (true-or-false (p n)))
    (some_or_none p n)
  where
    less : (v : ℕ) → v < suc n → (v ≡ n → ⊥) → v < n
    less v h d = omega arith

pub any-up_to : (p : ℕ → Bool) (n : ℕ) → any p (up_to n) ≡ true → (v : ℕ) × (v < n) × (p v ≡ true)
any-up_to p n e =
    ⊎_elim (λ s. s) (λ none. absurd (true≢false (sym e ∙ all_any p (up_to n) (all-up_to (λ v. p v ≡ false) n none)))) (some_or_none p n)

-- ---- members

pub member-count : (x : ℕ) (l : List ℕ) → member x l ≡ true → 1 ≤ count x l
member-count x [] e = absurd (true≢false (sym e))
member-count x (y ∷ l) e =
    ⊎_elim (λ h. omega (arith, is_same x y (eqb-true x y h)))
    (λ h. omega (arith, member-count x l (sym (ap (λ (b : Bool). b || member x l) h) ∙ e)))
    (true-or-false (eqb x y))

pub member-none : (x : ℕ) (l : List ℕ) → member x l ≡ false → count x l ≡ 0
member-none x [] e = refl
member-none x (y ∷ l) e =
    ⊎_elim (λ s. absurd (true≢false (sym (eq-eqb x y s.0) ∙ or-false-left (eqb x y) (member x l) e)))
    (λ s. omega (arith, member-none x l (or-false-right (eqb x y) (member x l) e)))
    (is-cases x y)

pub count-member : (x : ℕ) (l : List ℕ) → 1 ≤ count x l → member x l ≡ true
count-member x l h = ⊎_elim (λ e. e) (λ e. absurd (omega (arith, member-none x l e))) (true-or-false (member x l))

pub none-member : (x : ℕ) (l : List ℕ) → count x l ≡ 0 → member x l ≡ false
none-member x l e = ⊎_elim (λ h. absurd (omega (arith, member-count x l h))) (λ h. h) (true-or-false (member x l))

pub member-append : (x : ℕ) (l m : List ℕ) → member x (l ++ m) ≡ (member x l || member x m)
member-append x [] m = refl
member-append x (y ∷ l) m = ap (λ (b : Bool). eqb x y || b) (member-append x l m) ∙ or_assoc (eqb x y) (member x l) (member x m)
  where
    or_assoc : (a b c : Bool) → (a || (b || c)) ≡ ((a || b) || c)
    or_assoc true b c = refl
    or_assoc false b c = refl

-- what holds of every element holds of a member
pub member-all : (P : ℕ → Type 0) (x : ℕ) (l : List ℕ) → All P l → member x l ≡ true → P x
member-all P x [] a e = absurd (true≢false (sym e))
member-all P x (y ∷ l) a e =
    ⊎_elim (λ h. subst P (sym (eqb-true x y h)) a.0)
    (λ h. member-all P x l a.1 (sym (ap (λ (b : Bool). b || member x l) h) ∙ e))
    (true-or-false (eqb x y))

pub counted-all : (P : ℕ → Type 0) (l : List ℕ) → All P l → (x : ℕ) → 1 ≤ count x l → P x
counted-all P l a x h = member-all P x l a (count-member x l h)

-- ---- a number that occurs in a longer list

pub one_of : (a b : ℕ) → 1 ≤ a + b → (1 ≤ a) ⊎ (1 ≤ b)
one_of zero b h = inr (omega arith)
one_of (suc a) b h = inl (omega arith)

pub in_cons : (v x : ℕ) (l : List ℕ) → 1 ≤ count v (x ∷ l) → (v ≡ x) ⊎ (1 ≤ count v l)
in_cons v x l h = ⊎_elim (λ e. inl e.0) (λ d. inr (omega (arith, d.1))) (is-cases v x)

pub in_append : (v : ℕ) (l m : List ℕ) → 1 ≤ count v (l ++ m) → (1 ≤ count v l) ⊎ (1 ≤ count v m)
in_append v l m h = one_of (count v l) (count v m) (omega (arith, count-append v l m))
