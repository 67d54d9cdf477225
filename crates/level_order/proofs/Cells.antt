-- Reading and writing the fields of the working slice: a field written is read back, and any other is as it was. Assumes nothing.
use mathlib.Core.Path.{◌≡◌}
use mathlib.Core.List.{List}
use Prim.Native.Nat.{ℕ, ◌*◌, ◌<◌}
use native.Mathlib.Omega.{arith}
use lib.IntN.{ℤ, pos}
use lib.ListN.{length, drop, length-set}
use lib.Seq.{get_or-set_same, get_or-set_other, drop-set-lt}
use Rattle.level_order.specs.Fields.{cell, get, put}

module _ (work : List ℤ) (field p : ℕ) (z : ℤ) where
  pub put-length : length (put work field p z) ≡ length work
  put-length = length-set work (cell p field) z

  pub put_same : cell p field < length work → get (put work field p z) field p ≡ z
  put_same h = get_or-set_same work (cell p field) z (pos 0) h

  -- another field, of the same position or of another
  pub put-field : field < 16 → (other q : ℕ) → other < 16 → (other ≡ field → ⊥) → get (put work field p z) other q ≡ get work other q
  put-field a other q b d = get_or-set_other work (cell p field) (cell q other) z (pos 0) (λ e. d (same e))
    where
      same : cell q other ≡ cell p field → other ≡ field
      same e = omega arith

  -- any field of another position
  pub put-position : field < 16 → (other q : ℕ) → other < 16 → (q ≡ p → ⊥) → get (put work field p z) other q ≡ get work other q
  put-position a other q b d = get_or-set_other work (cell p field) (cell q other) z (pos 0) (λ e. d (same e))
    where
      same : cell q other ≡ cell p field → q ≡ p
      same e = omega arith

  -- what is past the positions below n
  pub put_rest : field < 16 → (n : ℕ) → p < n → drop (16 * n) (put work field p z) ≡ drop (16 * n) work
  put_rest a n h = drop-set-lt (16 * n) work (cell p field) z (omega arith)
