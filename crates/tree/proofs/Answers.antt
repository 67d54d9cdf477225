-- The answers of mirror and renumber: refused for the table, refused for a slice that is too short, or accepted. Assumes nothing.
use mathlib.Core.Path.{◌≡◌, sym, ap, ◌∙◌}
use mathlib.Core.Logic.{◌⊎◌, inl, inr, ⊎_elim}
use mathlib.Core.Bool.{Bool, true, cond}
use mathlib.Core.List.{List, ◌++◌}
use Prim.Native.Nat.{ℕ, ◌*◌, ◌≤◌, ◌<◌}
use native.Mathlib.Omega.{arith}
use lib.Dec.{ltb}
use lib.ListN.{length, drop}
use borrow.Author.Tests.{lt-ltb, le-ltb}
use Rattle.refusal.proofs.After.{after-accepted, after-refused, overwrite-split}
use Rattle.tree.specs.Table.{nodes}
use Rattle.tree.specs.Forest.{tree_of}
use Rattle.tree.specs.WellFormed.{table_number}
use Rattle.tree.specs.Operations.{mirror, mirrored, mirror_number, Mirror, number_from, renumbered, old_numbers, renumber_number, Renumber}
use Rattle.tree.specs.Steps.{Numbered}
use Rattle.refusal.proofs.Truth.{or-false, or-true}
use Rattle.tree.proofs.Number.{table-refused, table-passed}
use Rattle.tree.proofs.Reading.{size-preorder}
use Rattle.tree.proofs.Stands.{accepted-numbers, accepted-length, accepted-size}
use Rattle.tree.proofs.TableOf.{length-table_of}
use Rattle.tree.proofs.Mirrored.{mirror-numbers}
use Rattle.tree.proofs.Renumbered.{number_from-numbers}

-- ---- mirror

module _ (t out : List ℕ) where
  refused : (k : ℕ) → mirror_number t (length out) ≡ k → (k ≡ 0 → ⊥) → Mirror t out k out
  refused k e d = record { number = sym e; out = sym (after-refused _ (mirrored t) out (rw e d)) }

  pub mirror-refused : (k : ℕ) → k ≡ table_number t → (k ≡ 0 → ⊥) → Mirror t out k out
  unfolding mirror_number
  mirror-refused k e d = refused k (table-refused t _ k e d) d

  module _ (accepted : table_number t ≡ 0) where
    mirrored-length : length (mirrored t) ≡ length t
    unfolding mirrored
    mirrored-length =
        length-table_of (nodes t) (mirror (tree_of t)) (mirror-numbers (nodes t) (tree_of t) (accepted-numbers t accepted))
        ∙ sym (accepted-length t accepted)

    pub mirror_short : length out < length t → Mirror t out 7 out
    unfolding mirror_number
    mirror_short h =
        refused 7 (table-passed t _ accepted ∙ rw (lt-ltb (length out) (2 * nodes t) (omega (arith, accepted-length t accepted)))) (λ e. omega arith)

    pub mirror-accepted : length t ≤ length out → (new : List ℕ) → new ≡ mirrored t → Mirror t out 0 (new ++ drop (length t) out)
    unfolding mirror_number
    mirror-accepted h new e =
        let number : mirror_number t (length out) ≡ 0 = table-passed t _ accepted ∙ rw (le-ltb (length out) (2 * nodes t) (omega (arith, accepted-length t accepted))) in
        record { number = sym number; out = rw (e, after-accepted, overwrite-split (length t) (mirrored t) out mirrored-length) }

-- ---- renumber

module _ (t out map : List ℕ) where
  refused₂ : (k : ℕ) → renumber_number t (length out) (length map) ≡ k → (k ≡ 0 → ⊥) → Renumber t out map k out map
  refused₂ k e d =
      record { number = sym e; out = sym (after-refused _ (renumbered t) out (rw e d)); map = sym (after-refused _ (old_numbers t) map (rw e d)) }

  pub renumber_refused : (k : ℕ) → k ≡ table_number t → (k ≡ 0 → ⊥) → Renumber t out map k out map
  unfolding renumber_number
  renumber_refused k e d = refused₂ k (table-refused t _ k e d) d

  module _ (accepted : table_number t ≡ 0) where
    renumbered-length : length (renumbered t) ≡ length t
    unfolding renumbered
    renumbered-length =
        length-table_of (nodes t) (number_from 0 (tree_of t)) (number_from-numbers (nodes t) (tree_of t) (accepted-numbers t accepted))
        ∙ sym (accepted-length t accepted)

    old_numbers-length : length (old_numbers t) ≡ nodes t
    unfolding old_numbers
    old_numbers-length = sym (size-preorder (tree_of t)) ∙ accepted-size t accepted

    pub renumber_short : (length out < length t) ⊎ (length map < nodes t) → Renumber t out map 7 out map
    unfolding renumber_number
    renumber_short h =
        refused₂ 7 (table-passed t _ accepted ∙ ap (λ (b : Bool). cond b 7 0) (or-true (⊎_elim too_short too_few h))) (λ e. omega arith)
      where
        too_short : length out < length t → (ltb (length out) (2 * nodes t) ≡ true) ⊎ (ltb (length map) (nodes t) ≡ true)
        too_short h = inl (lt-ltb (length out) (2 * nodes t) (omega (arith, accepted-length t accepted)))

        too_few : length map < nodes t → (ltb (length out) (2 * nodes t) ≡ true) ⊎ (ltb (length map) (nodes t) ≡ true)
        too_few h = inr (lt-ltb (length map) (nodes t) h)

    pub renumber_accepted : length t ≤ length out → nodes t ≤ length map → (l m : List ℕ) → Numbered t l m
        → Renumber t out map 0 (l ++ drop (length t) out) (m ++ drop (nodes t) map)
    unfolding renumber_number
    renumber_accepted h i l m N =
        let number : renumber_number t (length out) (length map) ≡ 0 =
        table-passed t _ accepted
        ∙ ap (λ (b : Bool). cond b 7 0)
        (or-false (le-ltb (length out) (2 * nodes t) (omega (arith, accepted-length t accepted))) (le-ltb (length map) (nodes t) i))
        in
        record {
          number = sym number;
          out = rw (N.out, after-accepted, overwrite-split (length t) (renumbered t) out renumbered-length);
          map = rw (N.map, after-accepted, overwrite-split (nodes t) (old_numbers t) map old_numbers-length);
        }
