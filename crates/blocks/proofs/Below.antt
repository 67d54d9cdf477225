-- Laws of sums, tests and joined lists over the numbers below n. Assumes nothing.
use Rattle.std.proofs.Common.{◌≡◌, ℕ, zero, suc, ◌+◌, ◌*◌, ◌<◌, ◌≤◌, Bool, true, false, not, ◌&&◌, List, ◌++◌, length, get_or, take, drop, sym, refl, ap, ◌∙◌, ap₂, ⊎_elim, true≢false, append_assoc, append-nil, le_trans, le_of_eq, le_refl, le_of_suc-le-suc, not-suc-le-zero, add-zero, add-suc, eq-or-lt_of_le, mul-le-mul_left, lt_of_not-le, mul-zero, mul-suc, add-one, arith, length-append, length-drop, get_or-drop, take_all, get_or-take, take-add, drop_at}
use native.Mathlib.Decide.{dec_le}
use lib.Seq.{drop-append-le, take-append-le}
use Rattle.blocks.specs.Below.{total, every, joined}

-- one order or the other
pub split {ℓ} : {X : Type ℓ} (a b : ℕ) → (a ≤ b → X) → (b < a → X) → X
split a b f g = elim (dec_le a b) [ yes h ↦ f h | no h ↦ g (lt_of_not-le h) ]

-- a number below n is below the next
pub further : {k n : ℕ} → k < n → k < suc n
further l = omega arith

pub total-more : (n : ℕ) (f : ℕ → ℕ) → total (n + 1) f ≡ total n f + f n
unfolding total
total-more n f = rw add-one

-- equal summands give equal sums
pub total_cong : (n : ℕ) (f g : ℕ → ℕ) → ((k : ℕ) → k < n → f k ≡ g k) → total n f ≡ total n g
unfolding total
total_cong zero f g h = refl
total_cong (suc n) f g h = ap₂ (λ (a b : ℕ). a + b) (total_cong n f g (λ k l. h k (further l))) (h n (le_refl (suc n)))

-- two sums that differ in one summand
pub total_but_one : (n k : ℕ) (f g : ℕ → ℕ) → k < n → ((j : ℕ) → j < n → (j ≡ k → ⊥) → f j ≡ g j) → total n f + g k ≡ total n g + f k
unfolding total
total_but_one zero k f g l h = absurd (not-suc-le-zero l)
total_but_one (suc n) k f g l h =
    ⊎_elim (λ e. last e) (λ lt. earlier lt (total_but_one n k f g lt (λ j m d. h j (further m) d))) (eq-or-lt_of_le (le_of_suc-le-suc l))
  where
    last : k ≡ n → total n f + f n + g k ≡ total n g + g n + f k
    last e = rw e (omega (arith, total_cong n f g (λ j m. h j (further m) (λ q. omega arith))))

    earlier : k < n → total n f + g k ≡ total n g + f k → total n f + f n + g k ≡ total n g + g n + f k
    earlier lt ih = omega (arith, h n (le_refl (suc n)) (λ q. omega arith))

-- a sum by its first summand, of two functions, over numbers that are parted in two, and over groups of c of them
pub total_first : (n : ℕ) (f : ℕ → ℕ) → total (suc n) f ≡ f 0 + total n (λ k. f (suc k))
unfolding total
total_first zero f = omega arith
total_first (suc n) f = omega (arith, total_first n f)

pub total-both : (n : ℕ) (f g : ℕ → ℕ) → total n (λ k. f k + g k) ≡ total n f + total n g
unfolding total
total-both zero f g = refl
total-both (suc n) f g = omega (arith, total-both n f g)

pub total-add : (m n : ℕ) (f : ℕ → ℕ) → total (m + n) f ≡ total m f + total n (λ k. f (m + k))
unfolding total
total-add m zero f = rw (add-zero m) (sym (add-zero (total m f)))
total-add m (suc n) f = rw (add-suc, total) (omega (arith, total-add m n f))

-- summands that are 0, and those that are from k on
total-none : (n : ℕ) (f : ℕ → ℕ) → ((j : ℕ) → j < n → f j ≡ 0) → total n f ≡ 0
unfolding total
total-none zero f h = refl
total-none (suc n) f h = omega (arith, total-none n f (λ j l. h j (further l)), h n (le_refl (suc n)))

pub total-start : (k m : ℕ) (f : ℕ → ℕ) → ((j : ℕ) → k ≤ j → j < k + m → f j ≡ 0) → total (k + m) f ≡ total k f
total-start k m f h = omega (arith, total-add k m f, total-none m (λ j. f (k + j)) (λ j l. h (k + j) (omega arith) (omega arith)))

pub total_groups : (c n : ℕ) (f : ℕ → ℕ) → total (c * n) f ≡ total c (λ j. total n (λ i. f (c * i + j)))
unfolding total
total_groups c zero f = rw mul-zero (sym (total-none c (λ j. 0) (λ j l. refl)))
total_groups c (suc n) f =
    ap (λ (m : ℕ). total m f) (mul-suc c n)
    ∙ total-add (c * n) c f
    ∙ ap (λ (before : ℕ). before + total c (λ j. f (c * n + j))) (total_groups c n f)
    ∙ sym (total-both c (λ j. total n (λ i. f (c * i + j))) (λ j. f (c * n + j)))

and-false : (b : Bool) → b && false ≡ false
and-false true = refl
and-false false = refl

pub every_more : (n : ℕ) (p : ℕ → Bool) → every n p ≡ true → p n ≡ true → every (n + 1) p ≡ true
unfolding every
every_more n p h here = rw (add-one, every, h) here

-- one failure is enough
pub every-fails : (n : ℕ) (p : ℕ → Bool) (k : ℕ) → k < n → p k ≡ false → every n p ≡ false
unfolding every
every-fails zero p k l h = absurd (not-suc-le-zero l)
every-fails (suc n) p k l h =
    ⊎_elim (λ e. ap (λ (b : Bool). every n p && b) (ap p (sym e) ∙ h) ∙ and-false (every n p))
    (λ lt. ap (λ (b : Bool). b && p n) (every-fails n p k lt h)) (eq-or-lt_of_le (le_of_suc-le-suc l))

pub every_holds : (n : ℕ) (p : ℕ → Bool) → ((k : ℕ) → k < n → p k ≡ true) → every n p ≡ true
unfolding every
every_holds zero p h = refl
every_holds (suc n) p h = ap₂ (λ (a b : Bool). a && b) (every_holds n p (λ k l. h k (further l))) (h n (le_refl (suc n)))

pub every-at : (n : ℕ) (p : ℕ → Bool) → every n p ≡ true → (k : ℕ) → k < n → p k ≡ true
every-at n p h k l = go (p k) refl
  where
    go : (b : Bool) → p k ≡ b → p k ≡ true
    go true e = e
    go false e = absurd (true≢false (sym h ∙ every-fails n p k l e))

-- a search for a failure: found at k
pub some-fails : (n : ℕ) (p : ℕ → Bool) (k : ℕ) → k < n → p k ≡ false → true ≡ not (every n p)
some-fails n p k l h = sym (ap not (every-fails n p k l h))

pub joined-more : (n : ℕ) (f : ℕ → List ℕ) → joined (n + 1) f ≡ joined n f ++ f n
unfolding joined
joined-more n f = rw add-one

pub joined-add : (m k : ℕ) (f : ℕ → List ℕ) → joined (m + k) f ≡ joined m f ++ joined k (λ i. f (m + i))
unfolding joined
joined-add m zero f = rw add-zero (sym (append-nil (joined m f)))
joined-add m (suc k) f = rw (add-suc, joined, joined-add m k f) (append_assoc (joined m f) (joined k (λ i. f (m + i))) (f (m + k)))

pub joined_cong : (n : ℕ) (f g : ℕ → List ℕ) → ((k : ℕ) → k < n → f k ≡ g k) → joined n f ≡ joined n g
unfolding joined
joined_cong zero f g h = refl
joined_cong (suc n) f g h = ap₂ (λ (a b : List ℕ). a ++ b) (joined_cong n f g (λ k l. h k (further l))) (h n (le_refl (suc n)))

-- lists of one length c: the whole has n times c, and list k stands at k times c
module _ (c : ℕ) (f : ℕ → List ℕ) (each : (k : ℕ) → length (f k) ≡ c) where
  pub length-joined : (n : ℕ) → length (joined n f) ≡ c * n
  unfolding joined
  length-joined zero = sym (mul-zero c)
  length-joined (suc n) = length-append (joined n f) (f n) ∙ ap₂ (λ (a b : ℕ). a + b) (length-joined n) (each n) ∙ sym (mul-suc c n)

  pub joined_at : (n k : ℕ) → k < n → take c (drop (c * k) (joined n f)) ≡ f k
  unfolding joined
  joined_at zero k l = absurd (not-suc-le-zero l)
  joined_at (suc n) k l =
      ⊎_elim (λ e. last e) (λ lt. earlier lt (joined_at n k lt)) (eq-or-lt_of_le (le_of_suc-le-suc l))
    where
      last : k ≡ n → take c (drop (c * k) (joined n f ++ f n)) ≡ f k
      last e =
          rw (e, drop_at (joined n f) (f n) (c * n) (length-joined n))
          (take_all c (f n) (le_of_eq (each n)))

      earlier : k < n → take c (drop (c * k) (joined n f)) ≡ f k → take c (drop (c * k) (joined n f ++ f n)) ≡ f k
      earlier lt ih =
          let room : c * k + c ≤ c * n = le_trans (le_of_eq (sym (mul-suc c k))) (mul-le-mul_left c lt) in
          let within : c * k ≤ length (joined n f) = omega (arith, length-joined n) in
          let rest : c ≤ length (drop (c * k) (joined n f)) = omega (arith, length-joined n, length-drop (c * k) (joined n f)) in
          rw (drop-append-le (c * k) (joined n f) (f n) within, take-append-le c (drop (c * k) (joined n f)) (f n) rest) ih

  -- entry j of list k, in the whole
  pub get_or-joined : (n k j : ℕ) → k < n → j < c → get_or (joined n f) (c * k + j) 0 ≡ get_or (f k) j 0
  get_or-joined n k j l m =
      sym (get_or-drop (c * k) (joined n f) j 0)
      ∙ sym (get_or-take c (drop (c * k) (joined n f)) j 0 m)
      ∙ ap (λ (part : List ℕ). get_or part j 0) (joined_at n k l)

-- a list cut into parts of c and joined again
pub parts_joined : (c m : ℕ) (l : List ℕ) → joined m (λ b. take c (drop (c * b) l)) ≡ take (c * m) l
unfolding joined
parts_joined c zero l = ap (λ (k : ℕ). take k l) (sym (mul-zero c))
parts_joined c (suc m) l =
    ap (λ (before : List ℕ). before ++ take c (drop (c * m) l)) (parts_joined c m l)
    ∙ sym (take-add (c * m) c l)
    ∙ ap (λ (k : ℕ). take k l) (sym (mul-suc c m))
