-- A position settled: its six fields are read back, and all else is as it was. Assumes nothing.
use mathlib.Core.Path.{◌≡◌, ap, ◌∙◌}
use mathlib.Core.Logic.{⊎_elim}
use mathlib.Core.List.{List}
use Prim.Native.Nat.{ℕ, ◌+◌, ◌*◌, ◌≤◌, ◌<◌}
use native.Mathlib.Omega.{arith}
use lib.IntN.{ℤ, pos}
use lib.ListN.{length, drop}
use Rattle.tree.proofs.Counting.{is-cases}
use Rattle.level_order.specs.Fields.{get, put, NODE, FIRST, COUNT, PARENT, NEED, ANCESTOR, SHIFT, CHANGE}
use Rattle.level_order.specs.Appending.{settled}
use Rattle.level_order.proofs.Cells.{put-length, put_same, put-field, put-position, put_rest}

module _ (work : List ℤ) (p first count need : ℕ) where
  abbrev work₁ : List ℤ
  work₁ = put work FIRST p (pos first)

  abbrev work₂ : List ℤ
  work₂ = put work₁ COUNT p (pos count)

  abbrev work₃ : List ℤ
  work₃ = put work₂ NEED p (pos need)

  abbrev work₄ : List ℤ
  work₄ = put work₃ ANCESTOR p (pos p)

  abbrev work₅ : List ℤ
  work₅ = put work₄ SHIFT p (pos 0)

  length₁ : length work₁ ≡ length work
  length₁ = put-length work FIRST p (pos first)

  length₂ : length work₂ ≡ length work
  length₂ = put-length work₁ COUNT p (pos count) ∙ length₁

  length₃ : length work₃ ≡ length work
  length₃ = put-length work₂ NEED p (pos need) ∙ length₂

  length₄ : length work₄ ≡ length work
  length₄ = put-length work₃ ANCESTOR p (pos p) ∙ length₃

  length₅ : length work₅ ≡ length work
  length₅ = put-length work₄ SHIFT p (pos 0) ∙ length₄

  pub settled-length : length (settled work p first count need) ≡ length work
  settled-length = put-length work₅ CHANGE p (pos 0) ∙ length₅

  pub settled-rest : (n : ℕ) → p < n → drop (16 * n) (settled work p first count need) ≡ drop (16 * n) work
  settled-rest n h =
      put_rest work₅ CHANGE p (pos 0) (omega arith) n h
      ∙ put_rest work₄ SHIFT p (pos 0) (omega arith) n h
      ∙ put_rest work₃ ANCESTOR p (pos p) (omega arith) n h
      ∙ put_rest work₂ NEED p (pos need) (omega arith) n h
      ∙ put_rest work₁ COUNT p (pos count) (omega arith) n h
      ∙ put_rest work FIRST p (pos first) (omega arith) n h

  pub settled-position : (other q : ℕ) → other < 16 → (q ≡ p → ⊥) → get (settled work p first count need) other q ≡ get work other q
  settled-position other q h d =
      put-position work₅ CHANGE p (pos 0) (omega arith) other q h d
      ∙ put-position work₄ SHIFT p (pos 0) (omega arith) other q h d
      ∙ put-position work₃ ANCESTOR p (pos p) (omega arith) other q h d
      ∙ put-position work₂ NEED p (pos need) (omega arith) other q h d
      ∙ put-position work₁ COUNT p (pos count) (omega arith) other q h d
      ∙ put-position work FIRST p (pos first) (omega arith) other q h d

  from₅ : (other q : ℕ) → other < CHANGE → get (settled work p first count need) other q ≡ get work₅ other q
  from₅ other q h = put-field work₅ CHANGE p (pos 0) (omega arith) other q (omega arith) (λ e. omega arith)

  from₄ : (other q : ℕ) → other < SHIFT → get (settled work p first count need) other q ≡ get work₄ other q
  from₄ other q h = from₅ other q (omega arith) ∙ put-field work₄ SHIFT p (pos 0) (omega arith) other q (omega arith) (λ e. omega arith)

  from₃ : (other q : ℕ) → other < ANCESTOR → get (settled work p first count need) other q ≡ get work₃ other q
  from₃ other q h = from₄ other q (omega arith) ∙ put-field work₃ ANCESTOR p (pos p) (omega arith) other q (omega arith) (λ e. omega arith)

  from₂ : (other q : ℕ) → other < NEED → get (settled work p first count need) other q ≡ get work₂ other q
  from₂ other q h = from₃ other q (omega arith) ∙ put-field work₂ NEED p (pos need) (omega arith) other q (omega arith) (λ e. omega arith)

  -- the fields that the queue has
  pub settled-node : (q : ℕ) → get (settled work p first count need) NODE q ≡ get work NODE q
  settled-node q =
      from₂ NODE q (omega arith)
      ∙ put-field work₁ COUNT p (pos count) (omega arith) NODE q (omega arith) (λ e. omega arith)
      ∙ put-field work FIRST p (pos first) (omega arith) NODE q (omega arith) (λ e. omega arith)

  pub settled-parent : (q : ℕ) → get (settled work p first count need) PARENT q ≡ get work PARENT q
  settled-parent q =
      from₂ PARENT q (omega arith)
      ∙ put-field work₁ COUNT p (pos count) (omega arith) PARENT q (omega arith) (λ e. omega arith)
      ∙ put-field work FIRST p (pos first) (omega arith) PARENT q (omega arith) (λ e. omega arith)

  -- the fields that are written
  module _ (room : 16 * (p + 1) ≤ length work) where
    pub settled-first : get (settled work p first count need) FIRST p ≡ pos first
    settled-first =
        from₂ FIRST p (omega arith)
        ∙ put-field work₁ COUNT p (pos count) (omega arith) FIRST p (omega arith) (λ e. omega arith)
        ∙ put_same work FIRST p (pos first) (omega arith)

    pub settled-count : get (settled work p first count need) COUNT p ≡ pos count
    settled-count = from₂ COUNT p (omega arith) ∙ put_same work₁ COUNT p (pos count) (omega (arith, length₁))

    pub settled-need : get (settled work p first count need) NEED p ≡ pos need
    settled-need = from₃ NEED p (omega arith) ∙ put_same work₂ NEED p (pos need) (omega (arith, length₂))

    pub settled-ancestor : get (settled work p first count need) ANCESTOR p ≡ pos p
    settled-ancestor = from₄ ANCESTOR p (omega arith) ∙ put_same work₃ ANCESTOR p (pos p) (omega (arith, length₃))

    settled-shift : get (settled work p first count need) SHIFT p ≡ pos 0
    settled-shift = from₅ SHIFT p (omega arith) ∙ put_same work₄ SHIFT p (pos 0) (omega (arith, length₄))

    settled-change : get (settled work p first count need) CHANGE p ≡ pos 0
    settled-change = put_same work₅ CHANGE p (pos 0) (omega (arith, length₅))

    pub settled-gathered : (g : ℕ) → SHIFT ≤ g → g ≤ CHANGE → get (settled work p first count need) g p ≡ pos 0
    settled-gathered g l r =
        ⊎_elim (λ e. ap (λ (k : ℕ). get (settled work p first count need) k p) e.0 ∙ settled-shift)
        (λ d. ap (λ (k : ℕ). get (settled work p first count need) k p) (the_other d.0) ∙ settled-change) (is-cases g SHIFT)
      where
        the_other : (g ≡ SHIFT → ⊥) → g ≡ CHANGE
        the_other d = omega arith
