-- The numbers of a list that pass a test. Assumes nothing.
use mathlib.Core.Path.{◌≡◌, refl, sym, ap, ap₂, ◌∙◌}
use mathlib.Core.Logic.{⊎_elim}
use mathlib.Core.Bool.{Bool, true, false, cond, true≢false}
use mathlib.Core.List.{List, [], ◌∷◌, ◌++◌, append-nil}
use Prim.Native.Nat.{ℕ, zero, suc, ◌+◌, ◌≤◌, ◌<◌}
use native.Mathlib.Numerals.{add-one}
use native.Mathlib.Omega.{arith}
use lib.ListN.{length}
use Rattle.tree.specs.Numbers.{up_to, run, is, count}
use Rattle.tree.proofs.Counting.{is-cases}
use Rattle.trees_of_dots.specs.TreesOfDots.{those}

module _ (test : ℕ → Bool) where
  pub those-append : (l m : List ℕ) → those test (l ++ m) ≡ those test l ++ those test m
  those-append [] m = refl
  those-append (x ∷ l) m = go (test x) (those-append l m)
    where
      go : (b : Bool) → those test (l ++ m) ≡ those test l ++ those test m
          → cond b (x ∷ those test (l ++ m)) (those test (l ++ m)) ≡ cond b (x ∷ those test l) (those test l) ++ those test m
      go true e = ap (λ (r : List ℕ). x ∷ r) e
      go false e = e

  pub those-few : (l : List ℕ) → length (those test l) ≤ length l
  those-few [] = omega arith
  those-few (x ∷ l) = go (test x) (those-few l)
    where
      go : (b : Bool) → length (those test l) ≤ length l → length (cond b (x ∷ those test l) (those test l)) ≤ suc (length l)
      go true h = omega arith
      go false h = omega arith

  -- of the places from p on only p may pass
  pub those-onward : (p s : ℕ) → 1 ≤ s → ((q : ℕ) → p < q → q < p + s → test q ≡ false) → those test (up_to (p + s)) ≡ those test (up_to p) ++ those test (p ∷ [])
  those-onward p zero some none = absurd (omega arith)
  those-onward p (suc zero) some none = ap (λ (k : ℕ). those test (up_to k)) (add-one p) ∙ those-append (up_to p) (p ∷ [])
  those-onward p (suc (suc s)) some none =
      let last : p + suc (suc s) ≡ suc (p + suc s) = omega arith in
      ap (λ (k : ℕ). those test (up_to k)) last
      ∙ those-append (up_to (p + suc s)) ((p + suc s) ∷ [])
      ∙ ap (λ (b : Bool). those test (up_to (p + suc s)) ++ cond b ((p + suc s) ∷ []) []) (none (p + suc s) (omega arith) (omega arith))
      ∙ append-nil (those test (up_to (p + suc s)))
      ∙ those-onward p (suc s) (omega arith) (λ q h k. none q h (omega arith))

  -- where none passes, there are none
  pub none-those : (m : ℕ) → ((q : ℕ) → q < m → test q ≡ false) → those test (up_to m) ≡ []
  none-those zero none = refl
  none-those (suc m) none =
      those-append (up_to m) (m ∷ [])
      ∙ ap₂ (λ (l : List ℕ) (b : Bool). l ++ cond b (m ∷ []) []) (none-those m (λ q h. none q (omega arith))) (none m (omega arith))

  -- the first of a run that passes; or none does
  pub those-first : (k m x : ℕ) (xs : List ℕ) → those test (run k m) ≡ x ∷ xs
      → (k ≤ x) × (x < k + m) × (test x ≡ true) × ((q : ℕ) → k ≤ q → q < x → test q ≡ false)
  those-first k zero x xs e = absurd (let z : 0 ≡ suc (length xs) = ap length e in omega arith)
  those-first k (suc m) x xs e = go (test k) refl e (λ f. those-first (k + 1) m x xs f)
    where
      go : (b : Bool) → test k ≡ b → cond b (k ∷ those test (run (k + 1) m)) (those test (run (k + 1) m)) ≡ x ∷ xs
          → (those test (run (k + 1) m) ≡ x ∷ xs → (k + 1 ≤ x) × (x < k + 1 + m) × (test x ≡ true) × ((q : ℕ) → k + 1 ≤ q → q < x → test q ≡ false))
          → (k ≤ x) × (x < k + suc m) × (test x ≡ true) × ((q : ℕ) → k ≤ q → q < x → test q ≡ false)
      go true h f later =
          let same : k ≡ x = cc in
          (omega arith, omega arith, ap test (sym same) ∙ h, λ q i j. absurd (omega arith))
      go false h f later =
          let r = later f in (
            omega (arith, r.0),
            omega (arith, r.1),
            r.2,
            λ q i j. ⊎_elim (λ s. ap test s.0 ∙ h) (λ s. r.3 q (apart q i s.0) j) (is-cases q k),
          )
        where
          apart : (q : ℕ) → k ≤ q → (q ≡ k → ⊥) → k + 1 ≤ q
          apart q i d = omega arith

  pub those-none : (k m : ℕ) → those test (run k m) ≡ [] → (q : ℕ) → k ≤ q → q < k + m → test q ≡ false
  those-none k zero e q i j = absurd (omega arith)
  those-none k (suc m) e q i j = go (test k) refl e (λ f. those-none (k + 1) m f q)
    where
      go : (b : Bool) → test k ≡ b → cond b (k ∷ those test (run (k + 1) m)) (those test (run (k + 1) m)) ≡ []
          → (those test (run (k + 1) m) ≡ [] → k + 1 ≤ q → q < k + 1 + m → test q ≡ false) → test q ≡ false
      go true h f later = absurd (let z : suc (length (those test (run (k + 1) m))) ≡ 0 = ap length f in omega arith)
      go false h f later = ⊎_elim (λ s. ap test s.0 ∙ h) (λ s. later f (apart s.0) (omega arith)) (is-cases q k)
        where
          apart : (q ≡ k → ⊥) → k + 1 ≤ q
          apart d = omega arith

  -- each element that passes is there as often as before, and no other is there
  pub those-count : (p : ℕ) (l : List ℕ) → count p (those test l) ≡ cond (test p) (count p l) 0
  those-count p [] = go (test p)
    where
      go : (b : Bool) → ◌≡◌ {A = ℕ} 0 (cond b 0 0)
      go true = refl
      go false = refl
  those-count p (x ∷ l) = go (test x) refl (test p) refl (those-count p l)
    where
      go : (b : Bool) → test x ≡ b → (c : Bool) → test p ≡ c → count p (those test l) ≡ cond c (count p l) 0
          → count p (cond b (x ∷ those test l) (those test l)) ≡ cond c (is p x + count p l) 0
      go true h true k e = ap (λ (m : ℕ). is p x + m) e
      go true h false k e = ⊎_elim (λ s. absurd (true≢false (sym h ∙ ap test (sym s.0) ∙ k))) (λ s. omega (arith, s.1)) (is-cases p x)
      go false h true k e = ⊎_elim (λ s. absurd (true≢false (sym k ∙ ap test s.0 ∙ h))) (λ s. omega (arith, s.1)) (is-cases p x)
      go false h false k e = e
