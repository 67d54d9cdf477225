-- Parts of a forest: each node heads one, and what holds of the whole holds of the part. Assumes nothing.
use mathlib.Core.Path.{◌≡◌, refl, sym, ap, ◌∙◌, subst}
use mathlib.Core.Logic.{◌⊎◌, inl, inr, ⊎_elim}
use mathlib.Core.Bool.{Bool, cond}
use mathlib.Core.List.{List}
use Prim.Native.Nat.{ℕ, zero, suc, ◌≤◌, ◌<◌}
use native.Mathlib.Nat.{not-suc-le-zero}
use native.Mathlib.Omega.{arith}
use borrow.Author.Tests.{eq-eqb, ne_eqb}
use Rattle.tree.specs.Numbers.{count}
use Rattle.tree.specs.Forest.{Forest, nil, node, size, preorder, starting_at, or_else}
use Rattle.tree.proofs.Counting.{is_same, is-cases, count-append, Below, all_left, all_right}
use Rattle.tree.proofs.Reading.{Agrees}

-- g stands in f: it is f, or stands in the children or the further siblings of f's first root
pub data Part (g : Forest) : Forest → Type 0 where
  whole : Part g g
  in_children : {v : ℕ} {f : Forest} {h : Forest} → Part g f → Part g (node v f h)
  in_siblings : {v : ℕ} {f : Forest} {h : Forest} → Part g h → Part g (node v f h)

-- every node heads a part
pub locate : (f : Forest) (v : ℕ) → 1 ≤ count v (preorder f) → (g : Forest) × (h : Forest) × Part (node v g h) f
locate nil v c = absurd (not-suc-le-zero c)
locate (node u a b) v c =
    ⊎_elim (λ s. (a, b, subst (λ (x : ℕ). Part (node x a b) (node u a b)) (sym s.0) whole))
    (λ s.
    ⊎_elim (λ n. let r = locate b v (omega (arith, count-append v (preorder a) (preorder b))) in (r.0, r.1, in_siblings r.2))
    (λ n. let r = locate a v n in (r.0, r.1, in_children r.2))
    (none_or_some (count v (preorder a))))
    (is-cases v u)
  where
    none_or_some : (n : ℕ) → (n ≡ 0) ⊎ (1 ≤ n)
    none_or_some zero = inl refl
    none_or_some (suc n) = inr (omega arith)

pub part-agrees : (t : List ℕ) {g f : Forest} → Part g f → Agrees t f → Agrees t g
part-agrees t whole a = a
part-agrees t (in_children p) a = part-agrees t p a.2
part-agrees t (in_siblings p) a = part-agrees t p a.3

pub part-size : {g f : Forest} → Part g f → size g ≤ size f
part-size whole = omega arith
part-size (in_children p) = omega (arith, part-size p)
part-size (in_siblings p) = omega (arith, part-size p)

pub part-below : (n : ℕ) {g f : Forest} → Part g f → Below n (preorder f) → Below n (preorder g)
part-below n whole b = b
part-below n (in_children {f = f} {h = h} p) b = part-below n p (all_left (λ x. x < n) (preorder f) (preorder h) b.1)
part-below n (in_siblings {f = f} {h = h} p) b = part-below n p (all_right (λ x. x < n) (preorder f) (preorder h) b.1)

pub part_count : (w : ℕ) {g f : Forest} → Part g f → count w (preorder g) ≤ count w (preorder f)
part_count w whole = omega arith
part_count w (in_children {v = v} {f = f} {h = h} p) = omega (arith, part_count w p, count-append w (preorder f) (preorder h))
part_count w (in_siblings {v = v} {f = f} {h = h} p) = omega (arith, part_count w p, count-append w (preorder f) (preorder h))

pub part_trans : {a b c : Forest} → Part a b → Part b c → Part a c
part_trans p whole = p
part_trans p (in_children q) = in_children (part_trans p q)
part_trans p (in_siblings q) = in_siblings (part_trans p q)

-- ---- the part that starts with a node

pub starting_none : (v : ℕ) (f : Forest) → count v (preorder f) ≡ 0 → starting_at v f ≡ nil
starting_none v nil c = refl
starting_none v (node u a b) c =
    ⊎_elim (λ s. absurd (omega arith))
    (λ s.
    ap (λ (x : Bool). cond x (node u a b) (or_else (starting_at v a) (starting_at v b))) (ne_eqb v u s.0)
    ∙ ap (λ (x : Forest). or_else x (starting_at v b)) (starting_none v a (omega (arith, count-append v (preorder a) (preorder b))))
    ∙ starting_none v b (omega (arith, count-append v (preorder a) (preorder b))))
    (is-cases v u)

-- where v occurs once, there is one part that it heads
pub starting_part : (v : ℕ) (g h : Forest) {f : Forest} → Part (node v g h) f → count v (preorder f) ≤ 1 → starting_at v f ≡ node v g h
starting_part v g h whole c = ap (λ (x : Bool). cond x (node v g h) (or_else (starting_at v g) (starting_at v h))) (eq-eqb v v refl)
starting_part v g h (in_children {v = u} {f = a} {h = b} p) c =
    ⊎_elim (λ s. absurd (omega (arith, count-append v (preorder a) (preorder b), part_count v p, is_same v v refl)))
    (λ s.
    ap (λ (x : Bool). cond x (node u a b) (or_else (starting_at v a) (starting_at v b))) (ne_eqb v u s.0)
    ∙ ap (λ (x : Forest). or_else x (starting_at v b)) (starting_part v g h p (omega (arith, count-append v (preorder a) (preorder b)))))
    (is-cases v u)
starting_part v g h (in_siblings {v = u} {f = a} {h = b} p) c =
    ⊎_elim (λ s. absurd (omega (arith, count-append v (preorder a) (preorder b), part_count v p, is_same v v refl)))
    (λ s.
    ap (λ (x : Bool). cond x (node u a b) (or_else (starting_at v a) (starting_at v b))) (ne_eqb v u s.0)
    ∙ ap (λ (x : Forest). or_else x (starting_at v b))
    (starting_none v a (omega (arith, count-append v (preorder a) (preorder b), part_count v p, is_same v v refl)))
    ∙ starting_part v g h p (omega (arith, count-append v (preorder a) (preorder b))))
    (is-cases v u)
