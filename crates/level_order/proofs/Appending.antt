-- The way along a node's children, each put at the end of the queue. Assumes nothing.
use mathlib.Core.Path.{◌≡◌, refl, sym, ap, ap₂, ◌∙◌, subst}
use mathlib.Core.Bool.{Bool, true, false, cond}
use mathlib.Core.Logic.{⊎_elim}
use mathlib.Core.List.{List, ◌∷◌}
use Prim.Native.Nat.{ℕ, ◌+◌, ◌≤◌, ◌<◌}
use native.Mathlib.Omega.{arith}
use lib.Dec.{eqb}
use lib.IntN.{ℤ}
use lib.ListN.{length}
use borrow.Author.Tests.{eqb-true, eqb-false}
use Rattle.std.specs.Prelude.{Option, Some, None}
use Rattle.tree.specs.Table.{none, nodes, first_child, next_sibling, named}
use Rattle.tree.specs.Forest.{Forest, nil, forest, size, roots}
use Rattle.tree.specs.Levels.{children_of}
use Rattle.tree.specs.WellFormed.{table_number}
use Rattle.tree.proofs.Linked.{Names}
use Rattle.tree.proofs.Followed.{accepted-linked, followed_node, followed_none}
use Rattle.level_order.specs.Appending.{queued, appended, Appended}
use Rattle.level_order.proofs.Queued.{queued-length}

-- the forest of what may come next
abbrev pub follow : List ℕ → Option ℕ → Forest
follow t None = nil
follow t (Some v) = forest t v

abbrev pub Within : ℕ → Option ℕ → Type 0
Within n None = Unit {0}
Within n (Some v) = v < n

-- an entry names a node, or none
module _ (t : List ℕ) (accepted : table_number t ≡ 0) where
  by_name : (e : ℕ) (b : Bool) → eqb e none ≡ b → Names (nodes t) e
      → (follow t (cond b None (Some e)) ≡ forest t e) × Within (nodes t) (cond b None (Some e))
  by_name e true p n = (sym (ap (forest t) (eqb-true e none p) ∙ followed_none t accepted), tt)
  by_name e false p n = (refl, ⊎_elim (λ h. h) (λ h. absurd (eqb-false e none p h)) n)

  pub follow-named : (e : ℕ) → Names (nodes t) e → (follow t (named e) ≡ forest t e) × Within (nodes t) (named e)
  follow-named e n = by_name e (eqb e none) refl n

-- `next` is the child to be queued, if any, and `end` its position
pub record Appending (t : List ℕ) (p v tail : ℕ) (before : List ℤ) (end : ℕ) (next : Option ℕ) (work : List ℤ) : Type 0 where
  pub within : Within (nodes t) next
  pub place : end + length (roots (follow t next)) ≡ tail + length (children_of t v)
  pub same : appended work p end (roots (follow t next)) ≡ appended before p tail (children_of t v)
  pub size : length work ≡ length before

module _ {t : List ℕ} (accepted : table_number t ≡ 0) {p v tail : ℕ} {before : List ℤ} where
  pub append-start : v < nodes t → Appending t p v tail before tail (named (first_child t v)) before
  unfolding children_of
  append-start h =
      let first = follow-named t accepted (first_child t v) ((accepted-linked t accepted).child v h) in
      record {
        within = first.1;
        place = ap (λ (f : Forest). tail + length (roots f)) first.0;
        same = ap (λ (f : Forest). appended before p tail (roots f)) first.0;
        size = refl;
      }

  module _ {end : ℕ} {next : Option ℕ} {work : List ℤ} (I : Appending t p v tail before end next work) where
    pub append-end : next ≡ None → Appended t p v tail before end work
    append-end e =
        let S = subst (λ (o : Option ℕ). Appending t p v tail before end o work) e I in
        record { end = omega (arith, S.place); work = S.same }

    pub append-some : {c : ℕ} → next ≡ Some c → Appending t p v tail before end (Some c) work
    append-some e = subst (λ (o : Option ℕ). Appending t p v tail before end o work) e I

  module _ {end c : ℕ} {work : List ℤ} (S : Appending t p v tail before end (Some c) work) where
    pub append-few : c < 1024
    append-few = omega (arith, S.within, (accepted-linked t accepted).few)

    opened : roots (forest t c) ≡ c ∷ roots (forest t (next_sibling t c))
    opened = ap roots (followed_node t accepted c S.within)

    -- there is room for it
    pub append-room : tail + length (children_of t v) ≤ nodes t → end + 1 ≤ nodes t
    append-room h = omega (arith, S.place, ap length opened)

    next : (follow t (named (next_sibling t c)) ≡ forest t (next_sibling t c)) × Within (nodes t) (named (next_sibling t c))
    next = follow-named t accepted (next_sibling t c) ((accepted-linked t accepted).sibling c S.within)

    pub append-next : (after : List ℤ) → after ≡ queued work p end c → Appending t p v tail before (end + 1) (named (next_sibling t c)) after
    append-next after e =
        record {
          within = next.1;
          place = omega (arith, S.place, ap length opened, ap (λ (f : Forest). length (roots f)) next.0);
          same = ap₂ (λ (w : List ℤ) (f : Forest). appended w p (end + 1) (roots f)) e next.0 ∙ sym (ap (appended work p end) opened) ∙ S.same;
          size = ap length e ∙ queued-length work p end c ∙ S.size;
        }

    pub append-less : size (follow t (named (next_sibling t c))) < size (forest t c)
    append-less = omega (arith, ap size (followed_node t accepted c S.within), ap size next.0)
