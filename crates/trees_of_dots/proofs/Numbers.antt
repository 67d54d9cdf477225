-- The numbers 20, 22 and 6, and what each says. Assumes nothing.
use mathlib.Core.Path.{◌≡◌, sym, ◌∙◌, subst⁻¹}
use mathlib.Core.Logic.{⊎_elim}
use mathlib.Core.Bool.{true, false, false≢true}
use mathlib.Core.List.{List, []}
use Prim.Native.Nat.{ℕ, ◌≤◌}
use native.Mathlib.Omega.{arith}
use lib.IntN.{ℤ}
use lib.ListN.{drop}
use Rattle.refusal.specs.First.{Condition, ◌⇐◌}
use Rattle.refusal.proofs.Laws.{first-here, first-after, none_first, first-none}
use Rattle.refusal.proofs.Truth.{true-or-false}
use Rattle.distance.specs.Needed.{bad_separation}
use Rattle.distance.proofs.Separation.{separation-good, good-separation}
use Rattle.small_trees.specs.SmallTrees.{most_nodes, size_wrong}
use Rattle.small_trees.proofs.Numbers.{right-size, size-right}
use Rattle.plots.specs.Dots.{dots_wrong}
use Rattle.trees_of_dots.specs.TreesOfDots.{conditions, refusal, Says, no_size, no-dots, no-separation, taken}
use Rattle.trees_of_dots.specs.Steps.{Plot}

module _ (n : ℕ) (dots : List ℤ) (D : ℕ) where
  abbrev all : List Condition
  all = conditions n dots D

  pub number_20 : size_wrong n ≡ true → refusal n dots D ≡ 20
  unfolding refusal
  number_20 wrong = first-here (20 ⇐ size_wrong n) (drop 1 all) wrong

  module _ (some : 1 ≤ n) (few : n ≤ most_nodes) where
    pub number_22 : dots_wrong n dots ≡ true → refusal n dots D ≡ 22
    unfolding refusal
    number_22 wrong =
        first-after (20 ⇐ size_wrong n) (drop 1 all) (right-size n some few)
        ∙ first-here (22 ⇐ dots_wrong n dots) (drop 2 all) wrong

    pub number_6 : dots_wrong n dots ≡ false → bad_separation D ≡ true → refusal n dots D ≡ 6
    unfolding refusal
    number_6 right wrong =
        first-after (20 ⇐ size_wrong n) (drop 1 all) (right-size n some few)
        ∙ first-after (22 ⇐ dots_wrong n dots) (drop 2 all) right
        ∙ first-here (6 ⇐ bad_separation D) [] wrong

    pub number_0 : dots_wrong n dots ≡ false → bad_separation D ≡ false → refusal n dots D ≡ 0
    unfolding refusal
    number_0 right good = none_first all (right-size n some few, (right, (good, tt)))

  pub accepted : refusal n dots D ≡ 0 → Plot n dots D
  unfolding refusal
  accepted e =
      let none = first-none all (omega arith) e in
      let s = size-right n none.0 in
      record { some = s.0; few = s.1; right = none.1.0; apart = none.1.1.0 }

  pub number-says : Says n dots D (refusal n dots D)
  number-says =
      ⊎_elim
      (λ e. subst⁻¹ (Says n dots D) (number_20 e) (no_size (λ some few. false≢true (sym (right-size n some few) ∙ e))))
      (λ e.
      let s = size-right n e in
      ⊎_elim
      (λ w. subst⁻¹ (Says n dots D) (number_22 s.0 s.1 w) (no-dots s.0 s.1 w))
      (λ r.
      ⊎_elim
      (λ w. subst⁻¹ (Says n dots D) (number_6 s.0 s.1 r w)
      (no-separation s.0 s.1 r (λ some few. false≢true (sym (separation-good D some few) ∙ w))))
      (λ g. subst⁻¹ (Says n dots D) (number_0 s.0 s.1 r g) (taken s.0 s.1 r (good-separation D g).0 (good-separation D g).1))
      (true-or-false (bad_separation D)))
      (true-or-false (dots_wrong n dots)))
      (true-or-false (size_wrong n))
