-- Nodes that are still to be visited, what their entries lead to, and the nodes that lie ahead below them. Assumes nothing.
use mathlib.Core.Path.{◌≡◌, refl, sym, ap, ◌∙◌, subst}
use mathlib.Core.Logic.{⊎_elim}
use mathlib.Core.List.{List, [], ◌∷◌, ◌++◌}
use Prim.Native.Nat.{ℕ, ◌≤◌, ◌<◌}
use native.Mathlib.Omega.{arith}
use lib.ListN.{length, length-append}
use borrow.Author.Tests.{eq-eqb, ne_eqb}
use Rattle.tree.specs.Numbers.{flat_map}
use Rattle.tree.specs.Table.{none, nodes, first_child, next_sibling}
use Rattle.tree.specs.Forest.{Forest, nil, node, forest_from, forest, size, preorder, entry}
use Rattle.tree.proofs.Counting.{is-cases, All, Below, all_left, all_right}
use Rattle.tree.proofs.Reading.{Agrees, from-below}
use Rattle.tree.proofs.Linked.{Names, Linked, read_back}
use Rattle.tree.proofs.Stack.{stacked, one}

pub record Pending (t : List ℕ) (v : ℕ) : Type 0 where
  pub below : v < nodes t
  pub agrees : Agrees t (forest t v)
  pub named : entry (forest t v) ≡ v
  pub small : size (forest t v) ≤ nodes t

-- what an entry leads to: nothing, or a node that is still to be visited
pub record Leads (t : List ℕ) (e : ℕ) (f : Forest) : Type 0 where
  pub names : Names (nodes t) e
  pub reads : forest t e ≡ f
  pub agrees : Agrees t f
  pub named : entry f ≡ e
  pub small : size f ≤ nodes t

-- a pending node, its children and its further siblings
pub record Opened (t : List ℕ) (v : ℕ) : Type 0 where
  pub children : Forest
  pub siblings : Forest
  pub reads : forest t v ≡ node v children siblings
  pub below : Leads t (first_child t v) children
  pub beside : Leads t (next_sibling t v) siblings

-- the nodes below pending nodes, in the order in which they are visited
abbrev pub ahead : List ℕ → List ℕ → List ℕ
ahead t = flat_map (λ v. preorder (forest t v))

module _ (t : List ℕ) (L : Linked t) where
  pub open_pending : (v : ℕ) → Pending t v → Opened t v
  unfolding forest
  open_pending v P = go (forest t v) refl P.agrees P.named P.small inside
    where
      inside : Below (nodes t) (preorder (forest t v))
      inside = from-below t (nodes t) v

      leads : (e : ℕ) (f : Forest) → Names (nodes t) e → Agrees t f → e ≡ entry f → Below (nodes t) (preorder f) → size f ≤ nodes t → Leads t e f
      leads e f n a p b s =
          record {
            names = n;
            reads = ap (forest_from (nodes t) t) p ∙ read_back t L.few f a b (nodes t) s;
            agrees = a;
            named = sym p;
            small = s;
          }

      go : (f : Forest) → forest t v ≡ f → Agrees t f → entry f ≡ v → size f ≤ nodes t → Below (nodes t) (preorder f) → Opened t v
      go nil e a n s b = absurd (omega arith)
      go (node w f g) e a n s b =
          record {
            children = f;
            siblings = g;
            reads = e ∙ ap (λ (x : ℕ). node x f g) n;
            below = leads (first_child t v) f (L.child v P.below) a.2 (ap (first_child t) (sym n) ∙ a.0)
                (all_left (λ x. x < nodes t) (preorder f) (preorder g) b.1) (omega arith);
            beside = leads (next_sibling t v) g (L.sibling v P.below) a.3 (ap (next_sibling t) (sym n) ∙ a.1)
                (all_right (λ x. x < nodes t) (preorder f) (preorder g) b.1) (omega arith);
          }

  -- an entry on the stack
  module _ (e : ℕ) (f : Forest) (E : Leads t e f) (l : List ℕ) where
    pub stacked-pending : All (Pending t) l → All (Pending t) (stacked e l)
    stacked-pending a =
        ⊎_elim (λ s. rw (eq-eqb e none s.0) a) (λ s. rw (ne_eqb e none s.0) (pending s.0, a)) (is-cases e none)
      where
        pending : (e ≡ none → ⊥) → Pending t e
        pending d =
            record {
              below = ⊎_elim (λ h. h) (λ h. absurd (d h)) E.names;
              agrees = subst (Agrees t) (sym E.reads) E.agrees;
              named = ap entry E.reads ∙ E.named;
              small = omega (arith, ap size E.reads);
            }

    pub stacked-ahead : ahead t (stacked e l) ≡ preorder f ++ ahead t l
    unfolding forest
    stacked-ahead =
        ⊎_elim (λ s. rw (eq-eqb e none s.0, empty f (E.named ∙ s.0) (within f E.reads))) (λ s. rw (ne_eqb e none s.0, E.reads)) (is-cases e none)
      where
        within : (f : Forest) → forest t e ≡ f → Below (nodes t) (preorder f)
        within f r = subst (λ (g : Forest). Below (nodes t) (preorder g)) r (from-below t (nodes t) e)

        empty : (f : Forest) → entry f ≡ none → Below (nodes t) (preorder f) → f ≡ nil
        empty nil p b = refl
        empty (node v g h) p b = absurd (omega arith)

-- an entry that names a node leads to at least one
pub one_size : (t : List ℕ) (e : ℕ) (f : Forest) → Leads t e f → one e ≤ length (preorder f)
one_size t e f E =
    ⊎_elim (λ s. rw (eq-eqb e none s.0) (omega arith)) (λ s. rw (ne_eqb e none s.0) (some f E.named s.0)) (is-cases e none)
  where
    some : (f : Forest) → entry f ≡ e → (e ≡ none → ⊥) → 1 ≤ length (preorder f)
    some nil p d = absurd (d (sym p))
    some (node v g h) p d = omega arith

-- as many nodes lie ahead as there are pending ones, at least
pub pending-ahead : (t l : List ℕ) → nodes t ≤ 1024 → All (Pending t) l → length l ≤ length (ahead t l)
pending-ahead t [] few a = omega arith
pending-ahead t (v ∷ l) few a =
    omega (arith, pending-ahead t l few a.1, length-append (preorder (forest t v)) (ahead t l), some (forest t v) a.0.named a.0.below)
  where
    some : (f : Forest) → entry f ≡ v → v < nodes t → 1 ≤ length (preorder f)
    some nil e h = absurd (omega arith)
    some (node w f g) e h = omega arith
