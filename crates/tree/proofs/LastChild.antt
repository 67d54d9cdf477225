-- The way along a node's children to the last one, in lists. Assumes nothing.
use mathlib.Core.Path.{◌≡◌, sym, ap, ◌∙◌, subst}
use mathlib.Core.Logic.{⊎_elim}
use mathlib.Core.List.{List}
use Prim.Native.Nat.{ℕ, ◌+◌, ◌*◌, ◌<◌}
use native.Mathlib.Omega.{arith}
use lib.ListN.{get_or}
use Rattle.tree.specs.Table.{none, nodes, first_child}
use Rattle.tree.specs.Forest.{Forest, forest, size, roots}
use Rattle.tree.specs.Levels.{children_of}
use Rattle.tree.specs.WellFormed.{table_number}
use Rattle.tree.specs.Steps.{last_or, last_child}
use Rattle.tree.proofs.Linked.{Names}
use Rattle.tree.proofs.Followed.{accepted-linked, first_read, second-read, followed_node, followed_none}

-- `next` is the child to look at, if any, and `found` the one before it
pub record Seeking (t : List ℕ) (v next found : ℕ) : Type 0 where
  pub names : Names (nodes t) next
  pub same : last_or found (roots (forest t next)) ≡ last_child t v

module _ (t : List ℕ) (accepted : table_number t ≡ 0) where
  pub seek_start : (v : ℕ) → v < nodes t → Seeking t v (get_or t (2 * v) 0) (get_or t (2 * v) 0)
  unfolding last_child children_of
  seek_start v h =
      subst (λ (e : ℕ). Seeking t v e e) (sym (first_read t accepted v h))
      (record { names = (accepted-linked t accepted).child v h; same = ⊎_elim some empty ((accepted-linked t accepted).child v h) })
    where
      some : first_child t v < nodes t → last_or (first_child t v) (roots (forest t (first_child t v))) ≡ last_or none (roots (forest t (first_child t v)))
      some k = ap (λ (f : Forest). last_or (first_child t v) (roots f)) (followed_node t accepted (first_child t v) k)
          ∙ sym (ap (λ (f : Forest). last_or none (roots f)) (followed_node t accepted (first_child t v) k))

      empty : first_child t v ≡ none → last_or (first_child t v) (roots (forest t (first_child t v))) ≡ last_or none (roots (forest t (first_child t v)))
      empty k = ap (λ (x : ℕ). last_or x (roots (forest t (first_child t v)))) k

  module _ (v next found : ℕ) (S : Seeking t v next found) where
    pub seek_node : (next ≡ none → ⊥) → next < nodes t
    seek_node d = ⊎_elim (λ h. h) (λ h. absurd (d h)) S.names

    pub seek_next : (next ≡ none → ⊥) → Seeking t v (get_or t (2 * next + 1) 0) next
    seek_next d =
        let h = seek_node d in
        subst (λ (e : ℕ). Seeking t v e next) (sym (second-read t accepted next h))
        (record {
          names = (accepted-linked t accepted).sibling next h;
          same = sym (ap (λ (f : Forest). last_or found (roots f)) (followed_node t accepted next h)) ∙ S.same;
        })

    pub seek_less : (next ≡ none → ⊥) → size (forest t (get_or t (2 * next + 1) 0)) < size (forest t next)
    seek_less d =
        let h = seek_node d in
        omega (arith, ap size (followed_node t accepted next h), ap (λ (e : ℕ). size (forest t e)) (second-read t accepted next h))

    pub seek_end : next ≡ none → found ≡ last_child t v
    seek_end e = sym (ap (λ (f : Forest). last_or found (roots f)) (ap (forest t) e ∙ followed_none t accepted)) ∙ S.same
