-- Forests one behind another, and their levels side by side. Assumes nothing.
use mathlib.Core.Path.{◌≡◌, refl, sym, ap, ap₂, ◌∙◌}
use mathlib.Core.List.{List, [], ◌∷◌, ◌++◌, map, append_assoc, map-append}
use Prim.Native.Nat.{ℕ, ◌+◌}
use native.Mathlib.Omega.{arith}
use lib.ListN.{length, length-append}
use Rattle.tree.specs.Numbers.{count}
use Rattle.tree.specs.Forest.{Forest, nil, node, join, size, preorder, roots}
use Rattle.tree.specs.Levels.{beside, levels, together}
use Rattle.tree.proofs.Counting.{All, count-append}

-- ---- forests

pub join-nil : (f : Forest) → join f nil ≡ f
join-nil nil = refl
join-nil (node v f g) = ap (node v f) (join-nil g)

pub join_assoc : (f g h : Forest) → join (join f g) h ≡ join f (join g h)
join_assoc nil g h = refl
join_assoc (node v f k) g h = ap (node v f) (join_assoc k g h)

pub size-join : (f g : Forest) → size (join f g) ≡ size f + size g
size-join nil g = omega arith
size-join (node v f h) g = omega (arith, size-join h g)

pub roots-join : (f g : Forest) → roots (join f g) ≡ roots f ++ roots g
roots-join nil g = refl
roots-join (node v f h) g = ap (λ (l : List ℕ). v ∷ l) (roots-join h g)

pub preorder-join : (f g : Forest) → preorder (join f g) ≡ preorder f ++ preorder g
preorder-join nil g = refl
preorder-join (node v f h) g =
    ap (λ (l : List ℕ). v ∷ (preorder f ++ l)) (preorder-join h g)
    ∙ ap (λ (l : List ℕ). v ∷ l) (sym (append_assoc (preorder f) (preorder h) (preorder g)))

pub count-join : (z : ℕ) (f g : Forest) → count z (preorder (join f g)) ≡ count z (preorder f) + count z (preorder g)
count-join z f g = ap (count z) (preorder-join f g) ∙ count-append z (preorder f) (preorder g)

-- ---- levels

pub beside-nil {ℓ} : {A : Type ℓ} (xs : List (List A)) → beside xs [] ≡ xs
beside-nil [] = refl
beside-nil (x ∷ xs) = refl

pub beside_assoc {ℓ} : {A : Type ℓ} (xs ys zs : List (List A)) → beside (beside xs ys) zs ≡ beside xs (beside ys zs)
beside_assoc [] ys zs = refl
beside_assoc (x ∷ xs) [] zs = refl
beside_assoc (x ∷ xs) (y ∷ ys) [] = refl
beside_assoc {A = A} (x ∷ xs) (y ∷ ys) (z ∷ zs) = ap₂ (λ (a : List A) (b : List (List A)). a ∷ b) (append_assoc x y z) (beside_assoc xs ys zs)

pub map-beside : {A B : Type 0} (f : A → B) (xs ys : List (List A)) → map (map f) (beside xs ys) ≡ beside (map (map f) xs) (map (map f) ys)
map-beside f [] ys = refl
map-beside f (x ∷ xs) [] = refl
map-beside {B = B} f (x ∷ xs) (y ∷ ys) = ap₂ (λ (l : List B) (ls : List (List B)). l ∷ ls) (map-append f x y) (map-beside f xs ys)

pub levels-join : (f g : Forest) → levels (join f g) ≡ beside (levels f) (levels g)
levels-join nil g = refl
levels-join (node v f h) g =
    ap (beside ((v ∷ []) ∷ levels f)) (levels-join h g) ∙ sym (beside_assoc ((v ∷ []) ∷ levels f) (levels h) (levels g))

-- ---- some node on each level

pub data Some {A : Type 0} : List A → Type 0 where
  some : {x : A} {l : List A} → Some (x ∷ l)

pub some-front : {A : Type 0} (l m : List A) → Some l → Some (l ++ m)
some-front {A = A} [] m s = elim s [ ]
some-front (x ∷ l) m s = some

pub beside-some : {A : Type 0} (xs ys : List (List A)) → All Some xs → All Some ys → All Some (beside xs ys)
beside-some [] ys a b = b
beside-some (x ∷ xs) [] a b = a
beside-some (x ∷ xs) (y ∷ ys) a b = (some-front x y a.0, beside-some xs ys a.1 b.1)

pub levels-some : (f : Forest) → All Some (levels f)
levels-some nil = tt
levels-some (node v f g) = beside-some ((v ∷ []) ∷ levels f) (levels g) (some, levels-some f) (levels-some g)

-- ---- as many places as nodes

pub length-levels : (f : Forest) → length (together (levels f)) ≡ size f
length-levels nil = refl
length-levels (node v f g) = omega (arith, beside-length ((v ∷ []) ∷ levels f) (levels g), length-levels f, length-levels g)
  where
    beside-length : (xs ys : List (List ℕ)) → length (together (beside xs ys)) ≡ length (together xs) + length (together ys)
    beside-length [] ys = omega arith
    beside-length (x ∷ xs) [] = omega arith
    beside-length (x ∷ xs) (y ∷ ys) =
        omega (arith, beside-length xs ys, length-append x y, length-append (x ++ y) (together (beside xs ys)), length-append x (together xs), length-append y (together ys))
