-- A dot on a level: on levels side by side, and on levels all of whose dots were moved. Assumes nothing.
use mathlib.Core.Path.{◌≡◌, sym, subst}
use mathlib.Core.Logic.{◌⊎◌, inl, inr, ⊎_elim}
use mathlib.Core.List.Memᴰ
use mathlib.Core.List.{List, [], ◌∷◌, map, Memᴰ}
use Prim.Native.Nat.{ℕ, suc, ◌≤◌}
use native.Mathlib.Omega.{arith}
use lib.ListN.{length}
use Rattle.tree.specs.Levels.{beside}
use Rattle.rule.specs.Drawing.{Dot}

pub data OnLevel (e : Dot) : ℕ → List (List Dot) → Type 0 where
  top : {x : List Dot} {xs : List (List Dot)} → Memᴰ e x → OnLevel e 0 (x ∷ xs)
  down : {l : ℕ} {x : List Dot} {xs : List (List Dot)} → OnLevel e l xs → OnLevel e (suc l) (x ∷ xs)

pub on-left : {e : Dot} {l : ℕ} {xs : List (List Dot)} (ys : List (List Dot)) → OnLevel e l xs → OnLevel e l (beside xs ys)
on-left [] (top m) = top m
on-left (y ∷ ys) (top m) = top (Memᴰ.append_left y m)
on-left [] (down o) = down o
on-left (y ∷ ys) (down o) = down (on-left ys o)

pub on-right : {e : Dot} {l : ℕ} (xs : List (List Dot)) {ys : List (List Dot)} → OnLevel e l ys → OnLevel e l (beside xs ys)
on-right [] o = o
on-right (x ∷ xs) (top m) = top (Memᴰ.append_right x m)
on-right (x ∷ xs) (down o) = down (on-right xs o)

pub on-cases : {e : Dot} {l : ℕ} (xs ys : List (List Dot)) → OnLevel e l (beside xs ys) → OnLevel e l xs ⊎ OnLevel e l ys
on-cases [] ys o = inr o
on-cases (x ∷ xs) [] o = inl o
on-cases (x ∷ xs) (y ∷ ys) (top m) = ⊎_elim (λ k. inl (top k)) (λ k. inr (top k)) (Memᴰ.append_cases x m)
on-cases (x ∷ xs) (y ∷ ys) (down o) = ⊎_elim (λ k. inl (down k)) (λ k. inr (down k)) (on-cases xs ys o)

-- levels all of whose dots were moved
pub on-map : {e : Dot} {l : ℕ} (f : Dot → Dot) (xs : List (List Dot)) → OnLevel e l (map (map f) xs) → (d : Dot) × OnLevel d l xs × (e ≡ f d)
on-map {e = e} {l = l} f [] x' = elim x' [ ]
on-map f (x ∷ xs) (top m) = let r = Memᴰ.of_map f x m in (r.0, top r.1, sym r.2)
on-map f (x ∷ xs) (down o) = let r = on-map f xs o in (r.0, down r.1, r.2)

-- so what holds of each dot as it is moved holds of the dots of the moved levels
pub on-moved : {l : ℕ} (f : Dot → Dot) (xs : List (List Dot)) (P : Dot → Type 0) → ((d : Dot) → OnLevel d l xs → P (f d))
    → (e : Dot) → OnLevel e l (map (map f) xs) → P e
on-moved f xs P h e o = let r = on-map f xs o in subst P (sym r.2) (h r.0 r.1)

pub on_move : {e : Dot} {l : ℕ} (f : Dot → Dot) (xs : List (List Dot)) → OnLevel e l xs → OnLevel (f e) l (map (map f) xs)
on_move {e = e} {l = l} f [] x' = elim x' [ ]
on_move f (x ∷ xs) (top m) = top (Memᴰ.map f m)
on_move f (x ∷ xs) (down o) = down (on_move f xs o)

pub on_some : {e : Dot} {l : ℕ} {xs : List (List Dot)} → OnLevel e l xs → 1 ≤ length xs
on_some (top m) = omega arith
on_some (down o) = omega arith
