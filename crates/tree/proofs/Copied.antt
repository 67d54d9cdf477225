-- A list copied entry by entry. Assumes nothing.
use mathlib.Core.Path.{◌≡◌, refl, sym, ap, ◌∙◌}
use mathlib.Core.List.{List, [], ◌∷◌, ◌++◌}
use Prim.Native.Nat.{ℕ, ◌+◌, ◌≤◌, ◌<◌}
use native.Mathlib.Numerals.{add-one}
use native.Mathlib.Omega.{arith}
use lib.ListN.{length, get_or, take, set, length-set}
use lib.Seq.{take-suc, take-suc-set, take_all}

-- the first k entries are copied
pub record Copying (from to : List ℕ) (k : ℕ) : Type 0 where
  pub size : length to ≡ length from
  pub within : k ≤ length from
  pub same : take k to ≡ take k from

pub copy_start : (from to : List ℕ) → length to ≡ length from → Copying from to 0
copy_start from to e = record { size = e; within = omega arith; same = refl }

pub copy_next : (from to : List ℕ) (k : ℕ) → Copying from to k → k < length from → Copying from (set to k (get_or from k 0)) (k + 1)
copy_next from to k C inside =
    record {
      size = length-set to k (get_or from k 0) ∙ C.size;
      within = omega arith;
      same =
          ap (λ (j : ℕ). take j (set to k (get_or from k 0))) (add-one k)
          ∙ take-suc-set to k (get_or from k 0) (omega arith)
          ∙ ap (λ (l : List ℕ). l ++ (get_or from k 0 ∷ [])) C.same
          ∙ sym (ap (λ (j : ℕ). take j from) (add-one k) ∙ take-suc from k 0 inside);
    }

pub copy_end : (from to : List ℕ) (k : ℕ) → Copying from to k → length from ≤ k → to ≡ from
copy_end from to k C h = sym (take_all k to (omega arith)) ∙ C.same ∙ take_all k from h
