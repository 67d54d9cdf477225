-- The pairs of a list and its entries, joined again. Assumes nothing.
use mathlib.Core.Path.{◌≡◌, refl, sym, ◌∙◌}
use Prim.Native.Nat.{ℕ, zero, suc, ◌+◌, ◌*◌, ◌≤◌}
use native.Mathlib.Nat.{le_of_eq}
use native.Mathlib.Omega.{arith}
use mathlib.Core.List.{List, [], ◌∷◌, append_assoc}
use lib.ListN.{length, get_or, take}
use lib.Seq.{take-suc, take_all}
use Rattle.blocks.specs.Below.{joined}
use Rattle.sheet.specs.Steps.{pair_of}

-- the pairs of a list, joined
pairs-take : (n : ℕ) (l : List ℕ) → 2 * n ≤ length l → joined n (pair_of l) ≡ take (2 * n) l
unfolding joined
pairs-take zero l h = refl
pairs-take (suc n) l h =
    let two : 2 * suc n ≡ suc (suc (2 * n)) = omega arith in
    let second : 2 * n + 1 ≡ suc (2 * n) = omega arith in
    rw (pairs-take n l (omega arith), two, second, take-suc l (suc (2 * n)) 0 (omega arith), take-suc l (2 * n) 0 (omega arith))
    (sym (append_assoc (take (2 * n) l) (get_or l (2 * n) 0 ∷ []) (get_or l (suc (2 * n)) 0 ∷ [])))

pub pairs-joined : (n : ℕ) (l : List ℕ) → length l ≡ 2 * n → joined n (pair_of l) ≡ l
pairs-joined n l h = pairs-take n l (le_of_eq (sym h)) ∙ take_all (2 * n) l (le_of_eq h)

-- and its entries
singles_take : (n : ℕ) (l : List ℕ) → n ≤ length l → joined n (λ i. get_or l i 0 ∷ []) ≡ take n l
unfolding joined
singles_take zero l h = refl
singles_take (suc n) l h = rw (singles_take n l (omega arith)) (sym (take-suc l n 0 (omega arith)))

pub singles_joined : (n : ℕ) (l : List ℕ) → length l ≡ n → joined n (λ i. get_or l i 0 ∷ []) ≡ l
singles_joined n l h = singles_take n l (le_of_eq (sym h)) ∙ take_all n l (le_of_eq h)
