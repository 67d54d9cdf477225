-- The first and the last dot of a level. Assumes nothing.
use mathlib.Core.Path.{◌≡◌, refl}
use mathlib.Core.List.{List, [], ◌∷◌, ◌++◌, map, Memᴰ}
use Rattle.tree.proofs.Counting.{All}
use Rattle.tree.proofs.Joined.{Some, some}
use Rattle.rule.specs.Drawing.{Dot, first_of, last_of}

pub first-mem : (l : List Dot) → Some l → Memᴰ (first_of l) l
first-mem [] s = elim s [ ]
first-mem (d ∷ l) s = Memᴰ.head refl

pub last_mem : (l : List Dot) → Some l → Memᴰ (last_of l) l
last_mem [] s = elim s [ ]
last_mem (d ∷ []) s = Memᴰ.head refl
last_mem (d ∷ e ∷ l) s = Memᴰ.tail (last_mem (e ∷ l) some)

pub last_in : (P : Dot → Type 0) (l : List Dot) → Some l → All P l → P (last_of l)
last_in P [] s a = elim s [ ]
last_in P (d ∷ []) s a = a.0
last_in P (d ∷ e ∷ l) s a = last_in P (e ∷ l) some a.1

pub first_in : (P : Dot → Type 0) (l : List Dot) → Some l → All P l → P (first_of l)
first_in P [] s a = elim s [ ]
first_in P (d ∷ l) s a = a.0

pub last-append : (l m : List Dot) → Some m → last_of (l ++ m) ≡ last_of m
last-append (d ∷ []) [] s = elim s [ ]
last-append [] m s = refl
last-append (d ∷ []) (e ∷ m) s = refl
last-append (d ∷ e ∷ l) m s = last-append (e ∷ l) m s

pub last-map : (f : Dot → Dot) (l : List Dot) → Some l → last_of (map f l) ≡ f (last_of l)
last-map f [] s = elim s [ ]
last-map f (d ∷ []) s = refl
last-map f (d ∷ e ∷ l) s = last-map f (e ∷ l) some

pub first-map : (f : Dot → Dot) (l : List Dot) → Some l → first_of (map f l) ≡ f (first_of l)
first-map f [] s = elim s [ ]
first-map f (d ∷ l) s = refl
