-- Lists of numbers: the numbers below a bound, how often a number occurs, and whether some element passes a test.
use Rattle.std.specs.Prelude.{ℕ, zero, suc, ◌+◌, Bool, false, cond, ◌||◌, List, [], ◌∷◌, ◌++◌, eqb}

-- the numbers from 0 up to, and without, n
abbrev pub up_to : ℕ → List ℕ
up_to zero = []
up_to (suc n) = up_to n ++ (n ∷ [])

-- m numbers from k on
abbrev pub run : ℕ → ℕ → List ℕ
run k zero = []
run k (suc m) = k ∷ run (k + 1) m

-- 1 where the two numbers are equal, else 0
abbrev pub is : ℕ → ℕ → ℕ
is x y = cond (eqb x y) 1 0

-- how often x occurs
abbrev pub count : ℕ → List ℕ → ℕ
count x [] = 0
count x (y ∷ ys) = is x y + count x ys

abbrev pub any {ℓ} : {A : Type ℓ} → (A → Bool) → List A → Bool
any p [] = false
any p (x ∷ xs) = p x || any p xs

abbrev pub member : ℕ → List ℕ → Bool
member x ys = any (eqb x) ys

-- the lists that f gives for each element, in a row
abbrev pub flat_map {ℓ κ} : {A : Type ℓ} {B : Type κ} → (A → List B) → List A → List B
flat_map f [] = []
flat_map f (x ∷ xs) = f x ++ flat_map f xs
