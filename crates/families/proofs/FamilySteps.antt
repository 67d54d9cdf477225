-- What the steps of a family ask and leave, of the two ends of its row as the code reads them. Assumes nothing.
use mathlib.Core.Path.{◌≡◌, ◌∙◌}
use mathlib.Core.List.{List}
use Prim.Native.Nat.{ℕ, ◌-◌, ◌≤◌, ◌<◌}
use native.Mathlib.Omega.{arith}
use lib.IntN.{ℤ, pos}
use lib.ListN.{length}
use Rattle.rule.specs.Join.{Spacing}
use Rattle.level_order.specs.Fields.{cell, get, put, FIRST, COUNT, PLACE, LEFT, RIGHT}
use Rattle.level_order.specs.Spaced.{table_of}
use Rattle.level_order.specs.declared.spaced_tree.SpacedTree.{SpacedTree}
use Rattle.shifts.specs.Shifts.{Bounded, Executed}
use Rattle.descent.specs.Descent.{Reads, first_of_children, past_children}
use Rattle.families.specs.Joining.{spacing_of, Given}
use Rattle.families.specs.Families.{Ready, Begun, AllJoined, FamilyDrawn}
use Rattle.families.proofs.Children.{first_reads, count-reads, first-value, past_value}
use Rattle.families.proofs.Joining.{given_of}
use Rattle.families.proofs.FamilyStart.{f, end, work, family-begun, later, f-inside}
use Rattle.families.proofs.FamilyEnd.{joined-few, joined-bounded, family-drawn}

module _ (s : SpacedTree) {p : ℕ} {before : List ℤ} (R : Ready (table_of s) (spacing_of s) p before) where
  abbrev t : List ℕ
  t = table_of s

  abbrev D : Spacing
  D = spacing_of s

  abbrev G : Given t D
  G = given_of s

  pub first-read : Reads before FIRST p
  first-read = first_reads t G.accepted R.numbered p R.inside

  pub count-read : Reads before COUNT p
  count-read = count-reads t G.accepted R.numbered p R.inside

  -- x and y are the first child's position and the one past the last
  module _ {x y : ℕ} (ex : x ≡ first_of_children before p) (ey : y ≡ past_children before p) where
    is-first : x ≡ f G R
    is-first = ex ∙ first-value t G.accepted R.numbered p R.inside

    is-end : y ≡ end G R
    is-end = ey ∙ past_value t G.accepted R.numbered p R.inside

    pub first-inside : cell x PLACE < length before
    first-inside = omega (arith, is-first, f-inside G R, R.numbered.size)

    -- the first child has its place
    module _ {w : List ℤ} (ew : w ≡ put before PLACE x (pos 0)) where
      pub begun : Begun t D x y w
      begun = rw (ew, is-first, is-end) (family-begun G R)

      -- the children are joined
      module _ {mid : List ℤ} (A : AllJoined t D x y w mid) where
        all-joined : AllJoined t D (f G R) (end G R) (work G R) mid
        all-joined = rw (ew, is-first, is-end) at A

        pub ends : (0 < x) × (x < y) × (y ≤ 1024)
        ends = rw (is-first, is-end) (omega (arith, later G R), R.some, joined-few G R mid all-joined)

        pub bounded : Bounded x y mid
        bounded = rw (is-first, is-end) (joined-bounded G R mid all-joined)

        -- the moves are carried out, and the contours stored
        pub drawn : {moved u after : List ℤ} {a b : ℤ} → Executed x y mid moved → u ≡ put moved LEFT p a → a ≡ get moved PLACE x
            → after ≡ put u RIGHT p b → b ≡ get u PLACE (y - 1) → FamilyDrawn t D p before after
        drawn {moved} {u} {after} X eu ea ev eb =
            family-drawn G R mid all-joined moved (rw (is-first, is-end) at X) after
            (ev ∙ rw (eb, eu, ea, is-first, is-end))
