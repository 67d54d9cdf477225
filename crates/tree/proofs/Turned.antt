-- The mirrored table, row by row: what one turn writes, that no later turn touches it, and that the last list is the mirrored table.
-- Assumes nothing.
use mathlib.Core.Path.{◌≡◌, refl, sym, ap, ap₂, ◌∙◌, subst}
use mathlib.Core.Logic.{⊎_elim}
use mathlib.Core.Bool.{Bool, true, false, cond}
use mathlib.Core.List.{List}
use Prim.Native.Nat.{ℕ, ◌+◌, ◌*◌, ◌≤◌, ◌<◌}
use native.Mathlib.Omega.{arith}
use lib.Dec.{eqb}
use lib.ListN.{length, get_or, set, length-set}
use lib.Seq.{get_or-set_same, get_or-set_other}
use borrow.Author.Tests.{ne_eqb}
use Rattle.tree.specs.Table.{none, nodes, first_child, next_sibling}
use Rattle.tree.specs.Forest.{Forest, nil, node, tree_of, preorder, roots, entry}
use Rattle.tree.specs.Levels.{children_of}
use Rattle.tree.specs.WellFormed.{table_number}
use Rattle.tree.specs.Operations.{mirror_onto, mirror, mirrored}
use Rattle.tree.specs.Steps.{last_or, last_child, pointed}
use Rattle.tree.proofs.Counting.{is_same, is-cases, Below, all_left, all_right}
use Rattle.tree.proofs.Reading.{Agrees}
use Rattle.tree.proofs.Linked.{Linked}
use Rattle.tree.proofs.Places.{count_at, one_place}
use Rattle.tree.proofs.Stands.{accepted-agrees, accepted-numbers, accepted-length}
use Rattle.tree.proofs.TableOf.{table_of_unique}
use Rattle.tree.proofs.Mirrored.{mirror-numbers}
use Rattle.tree.proofs.Walked.{Leads, accepted-leads}
use Rattle.tree.proofs.Followed.{accepted-linked, first_read, second-read}

-- ---- one sibling that is pointed at another

module _ (e x : ℕ) (out : List ℕ) where
  -- what holds of the list as it was, and of the list with the entry set, holds of it
  either : (P : List ℕ → Type 0) → P out → P (set out (2 * e + 1) x) → P (pointed e x out)
  either P p q = go (eqb e none)
    where
      go : (b : Bool) → P (cond b out (set out (2 * e + 1) x))
      go true = p
      go false = q

  pub pointed-length : length (pointed e x out) ≡ length out
  pointed-length = either (λ l. length l ≡ length out) refl (length-set out (2 * e + 1) x)

  pointed-first : (u : ℕ) → first_child (pointed e x out) u ≡ first_child out u
  pointed-first u =
      either (λ l. first_child l u ≡ first_child out u) refl (get_or-set_other out (2 * e + 1) (2 * u) x none (λ p. omega arith))

  pointed-other : (w : ℕ) → (w ≡ e → ⊥) → next_sibling (pointed e x out) w ≡ next_sibling out w
  pointed-other w d =
      either (λ l. next_sibling l w ≡ next_sibling out w) refl
      (get_or-set_other out (2 * e + 1) (2 * w + 1) x none (λ p. d (omega arith)))

  pointed-same : (e ≡ none → ⊥) → 2 * e + 1 < length out → next_sibling (pointed e x out) e ≡ x
  pointed-same d h =
      ap (λ (b : Bool). next_sibling (cond b out (set out (2 * e + 1) x)) e) (ne_eqb e none d)
      ∙ get_or-set_same out (2 * e + 1) x none h

-- ---- no two entries name one node, and none names the root

module _ (t : List ℕ) (L : Linked t) where
  apart : (i j : ℕ) → i < length t → j < length t → get_or t i none < nodes t → get_or t i none ≡ get_or t j none → i ≡ j
  apart i j hi hj n e =
      one_place (get_or t i none) none t (omega (arith, L.once (get_or t i none) n)) i j hi hj refl (sym e)

  not_root : (j : ℕ) → j < length t → 0 ≡ get_or t j none → ⊥
  not_root j h e = omega (arith, L.once 0 L.some, is_same 0 0 refl, count_at 0 none t j h (sym e))

-- ---- where the turns have come to

pub record Turning (t out : List ℕ) (v : ℕ) : Type 0 where
  pub size : length out ≡ length t
  pub within : v ≤ nodes t
  pub root : next_sibling out 0 ≡ none
  pub first : (u : ℕ) → u < v → first_child out u ≡ last_child t u
  pub closed : (u : ℕ) → u < v → first_child t u < nodes t → next_sibling out (first_child t u) ≡ none
  pub back : (u : ℕ) → u < v → next_sibling t u < nodes t → next_sibling out (next_sibling t u) ≡ u

module _ (t : List ℕ) (accepted : table_number t ≡ 0) where
  L : Linked t
  L = accepted-linked t accepted

  pub turn_start : (out : List ℕ) → length out ≡ length t → Turning t (set out 1 none) 0
  turn_start out e =
      record {
        size = length-set out 1 none ∙ e;
        within = omega arith;
        root = get_or-set_same out 1 none none (omega (arith, L.some));
        first = λ u h. absurd (omega arith);
        closed = λ u h. absurd (omega arith);
        back = λ u h. absurd (omega arith);
      }

  module _ (v : ℕ) (out : List ℕ) (T : Turning t out v) (inside : v < nodes t) where
    abbrev pub out₁ : List ℕ
    out₁ = set out (2 * v) (last_child t v)

    abbrev pub out₂ : List ℕ
    out₂ = pointed (first_child t v) none out₁

    abbrev pub out₃ : List ℕ
    out₃ = pointed (next_sibling t v) v out₂

    length₁ : length out₁ ≡ length t
    length₁ = length-set out (2 * v) (last_child t v) ∙ T.size

    length₂ : length out₂ ≡ length t
    length₂ = pointed-length (first_child t v) none out₁ ∙ length₁

    pub room₁ : 2 * v < length out
    room₁ = omega arith

    pub room₂ : (first_child t v ≡ none → ⊥) → 2 * first_child t v + 1 < length out₁
    room₂ d = ⊎_elim (λ h. omega (arith, length₁, L.even)) (λ h. absurd (d h)) (L.child v inside)

    pub room₃ : (next_sibling t v ≡ none → ⊥) → 2 * next_sibling t v + 1 < length out₂
    room₃ d = ⊎_elim (λ h. omega (arith, length₂, L.even)) (λ h. absurd (d h)) (L.sibling v inside)

    some : {e : ℕ} → e < nodes t → e ≡ none → ⊥
    some h p = omega (arith, L.few)

    -- a node's next sibling that this turn does not write
    kept : (w : ℕ) → (w ≡ first_child t v → ⊥) → (w ≡ next_sibling t v → ⊥) → next_sibling out₃ w ≡ next_sibling out w
    kept w c s =
        pointed-other (next_sibling t v) v out₂ w s ∙ pointed-other (first_child t v) none out₁ w c
        ∙ get_or-set_other out (2 * v) (2 * w + 1) (last_child t v) none (λ p. omega arith)

    -- an entry of another row names neither of this row's nodes
    other : (i : ℕ) → i < length t → (i ≡ 2 * v → ⊥) → (i ≡ 2 * v + 1 → ⊥) → get_or t i none < nodes t
        → next_sibling out₃ (get_or t i none) ≡ next_sibling out (get_or t i none)
    other i h p q n =
        kept (get_or t i none) (λ e. p (apart t L i (2 * v) h (omega arith) n e))
        (λ e. q (apart t L i (2 * v + 1) h (omega arith) n e))

    first : (u : ℕ) → first_child out₃ u ≡ first_child out₁ u
    first u = pointed-first (next_sibling t v) v out₂ u ∙ pointed-first (first_child t v) none out₁ u

    closed : first_child t v < nodes t → next_sibling out₃ (first_child t v) ≡ none
    closed h =
        pointed-other (next_sibling t v) v out₂ (first_child t v)
        (λ e. omega (arith, apart t L (2 * v) (2 * v + 1) (omega arith) (omega arith) h e))
        ∙ pointed-same (first_child t v) none out₁ (some h) (room₂ (some h))

    back : next_sibling t v < nodes t → next_sibling out₃ (next_sibling t v) ≡ v
    back h = pointed-same (next_sibling t v) v out₂ (some h) (room₃ (some h))

    earlier : {u : ℕ} → u < v + 1 → (u ≡ v → ⊥) → u < v
    earlier h d = omega arith

    pub turn_next : Turning t out₃ (v + 1)
    turn_next =
        record {
          size = pointed-length (next_sibling t v) v out₂ ∙ length₂;
          within = omega arith;
          root = kept 0 (not_root t L (2 * v) (omega arith)) (not_root t L (2 * v + 1) (omega arith)) ∙ T.root;
          first = λ u h.
              ⊎_elim (λ s. subst (λ (x : ℕ). first_child out₃ x ≡ last_child t x) (sym s.0)
              (first v ∙ get_or-set_same out (2 * v) (last_child t v) none room₁))
              (λ s. first u ∙ get_or-set_other out (2 * v) (2 * u) (last_child t v) none (λ p. s.0 (omega arith)) ∙ T.first u (earlier h s.0))
              (is-cases u v);
          closed = λ u h.
              ⊎_elim (λ s. subst (λ (x : ℕ). first_child t x < nodes t → next_sibling out₃ (first_child t x) ≡ none) (sym s.0) closed)
              (λ s n.
              other (2 * u) (omega arith) (λ p. s.0 (omega arith)) (λ p. omega arith) n
              ∙ T.closed u (earlier h s.0) n)
              (is-cases u v);
          back = λ u h.
              ⊎_elim (λ s. subst (λ (x : ℕ). next_sibling t x < nodes t → next_sibling out₃ (next_sibling t x) ≡ x) (sym s.0) back)
              (λ s n.
              other (2 * u + 1) (omega arith) (λ p. omega arith) (λ p. s.0 (omega arith)) n
              ∙ T.back u (earlier h s.0) n)
              (is-cases u v);
        }

    -- ---- the same, as the code has it

    module _ (last : ℕ) (F : last ≡ last_child t v) where
      pub first-room : (get_or t (2 * v) 0 ≡ none → ⊥) → 2 * get_or t (2 * v) 0 + 1 < length (set out (2 * v) last)
      first-room d =
          omega (
            arith,
            first_read t accepted v inside,
            room₂ (λ e. d (first_read t accepted v inside ∙ e)),
            ap (λ (x : ℕ). length (set out (2 * v) x)) F,
          )

    module _ (last : ℕ) (F : last ≡ last_child t v) (o₂ : List ℕ) (P₂ : o₂ ≡ pointed (get_or t (2 * v) 0) none (set out (2 * v) last)) where
      first-order : o₂ ≡ out₂
      first-order = P₂ ∙ ap₂ (λ (e x : ℕ). pointed e none (set out (2 * v) x)) (first_read t accepted v inside) F

      pub second-room : (get_or t (2 * v + 1) 0 ≡ none → ⊥) → 2 * get_or t (2 * v + 1) 0 + 1 < length o₂
      second-room d = omega (arith, second-read t accepted v inside, room₃ (λ e. d (second-read t accepted v inside ∙ e)), ap length first-order)

      pub turn_row : (o₃ : List ℕ) → o₃ ≡ pointed (get_or t (2 * v + 1) 0) v o₂ → Turning t o₃ (v + 1)
      turn_row o₃ P₃ =
          subst (λ (o : List ℕ). Turning t o (v + 1))
          (sym (P₃ ∙ ap₂ (λ (e : ℕ) (o : List ℕ). pointed e v o) (second-read t accepted v inside) first-order)) turn_next

-- ---- past the last turn

entry-mirror_onto : (f done : Forest) → entry (mirror_onto f done) ≡ last_or (entry done) (roots f)
entry-mirror_onto nil done = refl
entry-mirror_onto (node v f g) done = entry-mirror_onto g (node v (mirror_onto f nil) done)

-- the first root's next sibling, if there is a root
abbrev Follows : List ℕ → Forest → ℕ → Type 0
Follows out nil p = Unit {0}
Follows out (node v f g) p = next_sibling out v ≡ p

module _ (t out : List ℕ) (T : Turning t out (nodes t)) where
  turned-agrees : (f done : Forest) → Agrees t f → Leads t f → Below (nodes t) (preorder f) → Follows out f (entry done) → Agrees out done
      → Agrees out (mirror_onto f done)
  unfolding last_child children_of
  turned-agrees nil done a r b s d = d
  turned-agrees (node v f g) done a r b s d =
      let left = all_left (λ x. x < nodes t) (preorder f) (preorder g) b.1 in
      let right = all_right (λ x. x < nodes t) (preorder f) (preorder g) b.1 in
      turned-agrees g (node v (mirror_onto f nil) done) a.3 r.2 right (beside g a.1 right) (
        T.first v b.0 ∙ ap (λ (h : Forest). last_or none (roots h)) r.0 ∙ sym (entry-mirror_onto f nil),
        s,
        turned-agrees f nil a.2 r.1 left (below f a.0 left) tt,
        d,
      )
    where
      below : (f : Forest) → first_child t v ≡ entry f → Below (nodes t) (preorder f) → Follows out f none
      below nil e h = tt
      below (node w f g) e h = ap (next_sibling out) (sym e) ∙ T.closed v b.0 (subst (λ (x : ℕ). x < nodes t) (sym e) h.0)

      beside : (g : Forest) → next_sibling t v ≡ entry g → Below (nodes t) (preorder g) → Follows out g v
      beside nil e h = tt
      beside (node w f g) e h = ap (next_sibling out) (sym e) ∙ T.back v b.0 (subst (λ (x : ℕ). x < nodes t) (sym e) h.0)

  pub turn_end : table_number t ≡ 0 → out ≡ mirrored t
  unfolding mirrored mirror
  turn_end e =
      let N = accepted-numbers t e in
      table_of_unique (nodes t) (mirror (tree_of t)) (mirror-numbers (nodes t) (tree_of t) N) out (T.size ∙ accepted-length t e)
      (turned-agrees (tree_of t) nil (accepted-agrees t e) (accepted-leads t e) N.below (root (tree_of t) N.root) tt)
    where
      root : (f : Forest) → entry f ≡ 0 → Follows out f none
      root nil e = tt
      root (node v f g) e = ap (next_sibling out) e ∙ T.root
