-- The numbers of the operation, in their order. Assumes nothing.
use mathlib.Core.Path.{◌≡◌, refl, sym, ◌∙◌}
use mathlib.Core.Bool.{true, false}
use mathlib.Core.List.{List, ◌∷◌, ◌++◌}
use Prim.Native.Nat.{ℕ, zero, suc, ◌≤◌, ◌<◌}
use native.Mathlib.Omega.{arith}
use Rattle.std.proofs.lemmas.Bool.Decides.{nat_tests}
use borrow.Author.Tests.{tests, lt-ltb, le-ltb}
use Rattle.refusal.specs.First.{Condition, ◌⇐◌, first}
use Rattle.tree.specs.WellFormed.{table_number}
use Rattle.tree.proofs.Number.{table-refused, table-passed, table_said}
use Rattle.rule.specs.Result.{Slices, layout_number}
use Rattle.layout.specs.Operation.{distance_conditions, room_conditions, Taken}
use Rattle.layout.proofs.Answers.{nothing-wrong}
use Rattle.layout.proofs.Answers as layout
use Rattle.treetex.specs.TreeTeX.{three_children, bad_extra, treetex_number}

-- the test of 24
pub too_wide : (extra : ℕ) → 1024 < extra → bad_extra extra ≡ true
unfolding bad_extra
too_wide extra h = lt-ltb 1024 extra h

pub not-too-wide : (extra : ℕ) → extra ≤ 1024 → bad_extra extra ≡ false
unfolding bad_extra
not-too-wide extra h = le-ltb 1024 extra h

module _ (t : List ℕ) (D : ℕ) (hs : List ℕ) (extra : ℕ) (s : Slices) where
  -- the conditions after the table's
  abbrev own : List Condition
  own = 23 ⇐ three_children t ∷ (distance_conditions t D hs ++ 24 ⇐ bad_extra extra ∷ room_conditions t s)

  pub number-table : (k : ℕ) → k ≡ table_number t → (k ≡ 0 → ⊥) → k ≡ treetex_number t D hs extra s
  unfolding treetex_number
  number-table k e d = sym (table-refused t own k e d)

  module _ (accepted : table_number t ≡ 0) where
    number-own : treetex_number t D hs extra s ≡ first own
    unfolding treetex_number
    number-own = table-passed t own accepted

    pub number_23 : three_children t ≡ true → 23 ≡ treetex_number t D hs extra s
    number_23 e = let n = number-own in grind (arith, tests)

    -- no node has three children
    module _ (two : three_children t ≡ false) where
      pub number-distance : (k : ℕ) → k ≡ first (distance_conditions t D hs) → (k ≡ 0 → ⊥) → k ≡ treetex_number t D hs extra s
      number-distance k e d = let n = number-own in grind (arith, tests)

      -- and the distances are right
      module _ (right : first (distance_conditions t D hs) ≡ 0) where
        pub number_wide : 1024 < extra → 24 ≡ treetex_number t D hs extra s
        number_wide h = let n = number-own in let w = too_wide extra h in grind (arith, tests)

        pub number-room : bad_extra extra ≡ false → first (room_conditions t s) ≡ treetex_number t D hs extra s
        number-room e = let n = number-own in grind (arith, tests)

  -- where the number is 0
  pub record Accepted : Type 0 where
    pub two : three_children t ≡ false
    pub taken : Taken t D hs extra s

  pub accepted-call : treetex_number t D hs extra s ≡ 0 → Accepted
  unfolding treetex_number bad_extra
  accepted-call e =
      let accepted = table_said t own 0 (omega arith) e in
      let n : first own ≡ 0 = sym (number-own accepted) ∙ e in
      record {
        two = grind (arith, tests);
        taken = nothing-wrong t D hs extra s accepted (grind (arith, tests)) (grind (arith, nat_tests)) (grind (arith, tests));
      }

-- with no extra space the number is the layout's, where no node of an accepted table has three children
module _ (t : List ℕ) (D : ℕ) (hs : List ℕ) (s : Slices) (two : table_number t ≡ 0 → three_children t ≡ false) where
  pub plain-number : treetex_number t D hs 0 s ≡ layout_number t D hs s
  unfolding bad_extra
  plain-number = go (table_number t) refl
    where
      past : table_number t ≡ 0 → (k : ℕ) → k ≡ first (distance_conditions t D hs) → treetex_number t D hs 0 s ≡ layout_number t D hs s
      past e zero h = sym (number-room t D hs 0 s e (two e) (sym h) refl) ∙ layout.number-room t D hs s e (sym h)
      past e (suc k) h = sym (number-distance t D hs 0 s e (two e) (suc k) h (λ z. omega arith)) ∙ layout.number-distance t D hs s e (suc k) h (λ z. omega arith)

      go : (k : ℕ) → k ≡ table_number t → treetex_number t D hs 0 s ≡ layout_number t D hs s
      go zero h = past (sym h) (first (distance_conditions t D hs)) refl
      go (suc k) h = sym (number-table t D hs 0 s (suc k) h (λ z. omega arith)) ∙ layout.number-table t D hs s (suc k) h (λ z. omega arith)
