-- A list with an entry for each number below n: its length, its entries, and that these tell the list. Assumes nothing.
use mathlib.Core.Path.{◌≡◌, refl, sym, ap, ◌∙◌}
use mathlib.Core.List.{List, [], ◌∷◌, map}
use Prim.Native.Nat.{ℕ, zero, suc, ◌+◌, ◌<◌}
use native.Mathlib.Omega.{arith}
use lib.ListN.{length, get_or, length-append, length-map}
use lib.Seq.{ext_get_or}
use Rattle.tree.specs.Numbers.{up_to, run}
use Rattle.tree.proofs.Renumbered.{run-up_to}

pub length-up_to : (n : ℕ) → length (up_to n) ≡ n
length-up_to zero = refl
length-up_to (suc n) = omega (arith, length-append (up_to n) (n ∷ []), length-up_to n)

module _ {A : Type 0} (f : ℕ → A) (d : A) (n : ℕ) where
  pub map-up_to : (i : ℕ) → i < n → get_or (map f (up_to n)) i d ≡ f i
  map-up_to i h = ap (λ (l : List ℕ). get_or (map f l) i d) (run-up_to n) ∙ from 0 n i h ∙ ap f (omega arith)
    where
      from : (k m i : ℕ) → i < m → get_or (map f (run k m)) i d ≡ f (k + i)
      from k zero i h = absurd (omega arith)
      from k (suc m) zero h = ap f (omega arith)
      from k (suc m) (suc i) h = from (k + 1) m i (omega arith) ∙ ap f (omega arith)

  pub told-by-entries : (l : List A) → length l ≡ n → ((i : ℕ) → i < n → get_or l i d ≡ f i) → l ≡ map f (up_to n)
  told-by-entries l e h =
      ext_get_or d l (map f (up_to n)) (e ∙ sym (length-map (up_to n) f ∙ length-up_to n))
      (λ i k. let k' : i < n = omega arith in h i k' ∙ sym (map-up_to i k'))
