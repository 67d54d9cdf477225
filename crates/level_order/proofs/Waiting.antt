-- The forest of the nodes that wait: each step takes one node away, and what holds at every node of the forest still holds. Assumes nothing.
use mathlib.Core.Path.{◌≡◌, refl, sym, ap, ◌∙◌, subst}
use mathlib.Core.List.{List}
use Prim.Native.Nat.{ℕ, zero, suc, ◌+◌, ◌-◌, ◌≤◌, ◌<◌}
use native.Mathlib.Omega.{arith}
use lib.ListN.{length, length-append}
use Rattle.tree.specs.Forest.{Forest, nil, node, join, size, preorder, roots, entry, children, siblings}
use Rattle.tree.proofs.Counting.{All, all_append, all_left, all_right}
use Rattle.tree.proofs.Walked.{Leads, leads-join}
use Rattle.level_order.specs.LevelOrder.{step, waiting, node_at}
use Rattle.tree.proofs.Joined.{size-join, roots-join, preorder-join}

-- ---- roots

-- how many roots a forest has
abbrev pub root_count : Forest → ℕ
root_count f = length (roots f)

pub root_count-join : (f g : Forest) → root_count (join f g) ≡ root_count f + root_count g
root_count-join f g = ap length (roots-join f g) ∙ length-append (roots f) (roots g)

-- ---- how many wait

step-size : (f : Forest) → size (step f) ≡ size f - 1
step-size nil = refl
step-size (node v f g) = omega (arith, size-join g f)

pub waiting-size : (p : ℕ) (f : Forest) → size (waiting p f) ≡ size f - p
waiting-size zero f = omega arith
waiting-size (suc p) f = omega (arith, waiting-size p (step f), step-size f)

-- past the last node none waits
pub waiting_none : (p : ℕ) (f : Forest) → size f ≤ p → waiting p f ≡ nil
waiting_none p f h = go (waiting p f) (omega (arith, waiting-size p f))
  where
    go : (g : Forest) → size g ≡ 0 → g ≡ nil
    go nil e = refl
    go (node v a b) e = absurd (omega arith)

-- before it, the node at position p waits in front, and its children and the others behind it are at hand
pub waiting-node : (p : ℕ) (f : Forest) → p < size f → waiting p f ≡ node (node_at f p) (children (waiting p f)) (siblings (waiting p f))
waiting-node p f h = go (waiting p f) (omega (arith, waiting-size p f))
  where
    go : (g : Forest) → 0 < size g → g ≡ node (entry g) (children g) (siblings g)
    go nil k = absurd (omega arith)
    go (node v a b) k = refl

-- ---- step by step

pub waiting-suc : (p : ℕ) (f : Forest) → waiting (suc p) f ≡ step (waiting p f)
waiting-suc zero f = refl
waiting-suc (suc p) f = waiting-suc p (step f)

-- what waits next: the others, and then the children of the node at position p
pub waiting-next : (p : ℕ) (f : Forest) → p < size f → waiting (suc p) f ≡ join (siblings (waiting p f)) (children (waiting p f))
waiting-next p f h = waiting-suc p f ∙ ap step (waiting-node p f h)

pub waiting-add : (p q : ℕ) (f : Forest) → waiting (p + q) f ≡ waiting q (waiting p f)
waiting-add p zero f =
    let same : p + 0 ≡ p = omega arith in
    ap (λ (k : ℕ). waiting k f) same
waiting-add p (suc q) f =
    let same : p + suc q ≡ suc (p + q) = omega arith in
    ap (λ (k : ℕ). waiting k f) same ∙ waiting-add p q (step f) ∙ ap (waiting q) (waiting-suc p f)

-- ---- what holds of every node of a forest holds of those that wait

step-all : (P : ℕ → Type 0) (f : Forest) → All P (preorder f) → All P (preorder (step f))
step-all P nil a = a
step-all P (node v f g) a =
    subst (All P) (sym (preorder-join g f))
    (all_append P (preorder g) (preorder f) (all_right P (preorder f) (preorder g) a.1) (all_left P (preorder f) (preorder g) a.1))

pub waiting-all : (P : ℕ → Type 0) (p : ℕ) (f : Forest) → All P (preorder f) → All P (preorder (waiting p f))
waiting-all P zero f a = a
waiting-all P (suc p) f a = waiting-all P p (step f) (step-all P f a)

pub node_at-all : (P : ℕ → Type 0) (p : ℕ) (f : Forest) → p < size f → All P (preorder f) → P (node_at f p)
node_at-all P p f h a = (subst (λ (g : Forest). All P (preorder g)) (waiting-node p f h) (waiting-all P p f a)).0

step-leads : (t : List ℕ) (f : Forest) → Leads t f → Leads t (step f)
step-leads t nil a = tt
step-leads t (node v f g) a = leads-join t g f a.2 a.1

pub waiting-leads : (t : List ℕ) (p : ℕ) (f : Forest) → Leads t f → Leads t (waiting p f)
waiting-leads t zero f a = a
waiting-leads t (suc p) f a = waiting-leads t p (step f) (step-leads t f a)
