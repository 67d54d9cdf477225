-- Level order is the levels of a forest, one after the other; each number of an accepted table stands at one position. Assumes nothing.
use mathlib.Core.Path.{◌≡◌, refl, sym, ap, ◌∙◌}
use mathlib.Core.Logic.{⊎_elim}
use mathlib.Core.List.{List, [], ◌∷◌, ◌++◌}
use Prim.Native.Nat.{ℕ, zero, suc, ◌+◌, ◌≤◌, ◌<◌}
use native.Mathlib.Nat.{not-suc-le-zero, le_of_suc-le-suc}
use native.Mathlib.Omega.{arith}
use lib.ListN.{length, get_or}
use Rattle.tree.specs.Numbers.{count}
use Rattle.tree.specs.Table.{nodes}
use Rattle.tree.specs.Forest.{Forest, nil, node, join, roots, size, entry, preorder, tree_of}
use Rattle.tree.specs.Levels.{levels, together}
use Rattle.tree.specs.WellFormed.{table_number}
use Rattle.tree.proofs.Counting.{is-cases}
use Rattle.tree.proofs.Places.{count_at}
use Rattle.tree.proofs.Walked.{one_down, levels-down}
use Rattle.tree.proofs.Stands.{Numbers, accepted-numbers, accepted-inside, accepted-size}
use Rattle.tree.proofs.Joined.{size-join, join-nil, join_assoc, length-levels}
use Rattle.tree.proofs.LevelOf.{count-levels}
use Rattle.level_order.specs.LevelOrder.{step, node_at}

-- the numbers of the first k nodes that are met
abbrev pub met : ℕ → Forest → List ℕ
met zero f = []
met (suc k) f = entry f ∷ met k (step f)

met_at : (k : ℕ) (f : Forest) (p : ℕ) → p < k → get_or (met k f) p 0 ≡ node_at f p
met_at zero f p h = absurd (not-suc-le-zero h)
met_at (suc k) f zero h = refl
met_at (suc k) f (suc p) h = met_at k (step f) p (le_of_suc-le-suc h)

-- what is left of a level is met, and then the levels below it, of which the children met so far stand in front
met-level : (k : ℕ) (g h : Forest) → size g + size h ≡ k → met k (join g h) ≡ roots g ++ together (levels (join h (one_down g)))
met-level zero nil nil e = refl
met-level zero nil (node w a b) e = absurd (omega arith)
met-level zero (node v a b) h e = absurd (omega arith)
met-level (suc k) nil nil e = absurd (omega arith)
met-level (suc k) nil (node w a b) e =
    ap (λ (l : List ℕ). w ∷ l) (met-level k b a (omega arith))
    ∙ sym (ap (λ (f : Forest). together (levels f)) (join-nil (node w a b)) ∙ ap together (levels-down w a b))
met-level (suc k) (node v a b) h e =
    ap (λ (l : List ℕ). v ∷ l)
    (ap (met k) (join_assoc b h a)
    ∙ met-level k b (join h a) (omega (arith, size-join h a))
    ∙ ap (λ (f : Forest). roots b ++ together (levels f)) (join_assoc h a (one_down b)))

pub met-levels : (f : Forest) → met (size f) f ≡ together (levels f)
met-levels f = met-level (size f) nil f (omega arith) ∙ ap (λ (g : Forest). together (levels g)) (join-nil f)

-- the node at position p is the p-th on the levels
pub node-order : (f : Forest) (p : ℕ) → p < size f → node_at f p ≡ get_or (together (levels f)) p 0
node-order f p h = sym (met_at (size f) f p h) ∙ ap (λ (l : List ℕ). get_or l p 0) (met-levels f)

-- ---- where a number stands

stands_at : (w : ℕ) (l : List ℕ) → 1 ≤ count w l → (i : ℕ) × (i < length l) × (get_or l i 0 ≡ w)
stands_at w [] h = absurd (not-suc-le-zero h)
stands_at w (x ∷ l) h =
    ⊎_elim (λ s. (0, omega arith, sym s.0))
    (λ s. let r = stands_at w l (omega (arith, s.1)) in (suc r.0, omega (arith, r.1), r.2))
    (is-cases w x)

-- a number that occurs in a forest has a position
pub position : (f : Forest) (v : ℕ) → 1 ≤ count v (preorder f) → (p : ℕ) × (p < size f) × (node_at f p ≡ v)
position f v h =
    let r = stands_at v (together (levels f)) (omega (arith, count-levels v f)) in
    let s : r.0 < size f = omega (arith, r.1, length-levels f) in
    (r.0, s, node-order f r.0 s ∙ r.2)

-- what stands at a position occurs
pub occurs : (f : Forest) (p : ℕ) → p < size f → 1 ≤ count (node_at f p) (preorder f)
occurs f p h =
    omega (arith, count-levels (node_at f p) f, count_at (node_at f p) 0 (together (levels f)) p (omega (arith, length-levels f)) (sym (node-order f p h)))

-- ---- an accepted table

module _ (t : List ℕ) (accepted : table_number t ≡ 0) where
  abbrev N : Numbers (nodes t) (tree_of t)
  N = accepted-numbers t accepted

  inside : (p : ℕ) → p < nodes t → p < size (tree_of t)
  inside p h = omega (arith, accepted-size t accepted)

  pub node-below : (p : ℕ) → p < nodes t → node_at (tree_of t) p < nodes t
  node-below p h = accepted-inside t accepted (node_at (tree_of t) p) (occurs (tree_of t) p (inside p h))

  -- every number below n has a position
  pub position_of : (v : ℕ) → v < nodes t → (p : ℕ) × (p < nodes t) × (node_at (tree_of t) p ≡ v)
  position_of v h =
      let r = position (tree_of t) v (omega (arith, N.each v h)) in
      (r.0, omega (arith, r.1, accepted-size t accepted), r.2)

  -- the root stands at position 0
  pub root-first : node_at (tree_of t) 0 ≡ 0
  root-first = N.root
