-- Where a child is joined to a row, a dot of the row stays, or is led by a dot of the new child on its level. Assumes nothing.
use mathlib.Core.Path.{◌≡◌, refl}
use mathlib.Core.Logic.{◌⊎◌, inl, inr, ⊎_elim}
use mathlib.Core.List.Memᴰ
use mathlib.Core.List.{List, [], ◌∷◌, Memᴰ}
use Prim.Native.Nat.{ℕ, zero, suc, ◌+◌, ◌≤◌}
use native.Mathlib.Nat.{le_trans, le_refl}
use native.Mathlib.Omega.{arith}
use lib.IntN.{pos, ◌+ℤ◌}
use Rattle.distance.specs.Needed.{Distance}
use Rattle.tree.proofs.Counting.{All}
use Rattle.tree.proofs.Joined.{Some}
use Rattle.rule.specs.Drawing.{Dot, first_of, last_of}
use Rattle.rule.proofs.Signed.{parts_add, AtMost}
use Rattle.rule.proofs.LevelEnds.{first-mem}
use Rattle.rule.proofs.OnLevel.{OnLevel, top, down}
use Rattle.rule.proofs.Walk.{Falling, Walking, walk-on, walk-seams}
use Rattle.rule.proofs.Spacing.{Spaced}

pub last-right : (D : Distance) (d : Dot) (x : List Dot) → Spaced D x → Memᴰ d x → (d.child ≤ (last_of x).child) × AtMost d.place (last_of x).place
last-right D d [] s x3 = elim x3 [ ]
last-right D d (e ∷ []) s (Memᴰ.head p) = rw p (le_refl _, le_refl _)
last-right D d (e ∷ []) s (Memᴰ.tail k) = absurd (Memᴰ.not-nil k)
last-right D d (e ∷ f ∷ l) s (Memᴰ.head p) =
    let r = last-right D f (f ∷ l) s.1 (Memᴰ.head refl) in
    rw p (le_trans s.0.order r.0, omega (arith, parts_add e.place (pos (D e.node f.node))))
last-right D d (e ∷ f ∷ l) s (Memᴰ.tail k) = last-right D d (f ∷ l) s.1 k

-- what leads a dot: a dot of the new child on the same level, not left of it after the moves
pub record Led (m : ℕ → ℕ) (t : ℕ) (d : Dot) (l : ℕ) (ys : List (List Dot)) : Type 0 where
  pub leader : Dot
  pub on : OnLevel leader l ys
  pub right : AtMost (d.place +ℤ pos (m d.child)) (leader.place +ℤ pos t)

-- where no child up to c moves, no dot does
stays : (D : Distance) (m : ℕ → ℕ) (c : ℕ) (xs : List (List Dot)) → Falling c xs → All (Spaced D) xs → ((p : ℕ) → p ≤ c → m p ≡ 0)
    → (d : Dot) (l : ℕ) → OnLevel d l xs → m d.child ≡ 0
stays D m c [] f s h d l x4 = elim x4 [ ]
stays D m c (x ∷ xs) f s h d zero (top k) = h d.child (le_trans (last-right D d x s.0 k).0 f.0)
stays D m c (x ∷ xs) f s h d (suc l) (down o) = stays D m (last_of x).child xs f.1 s.1 (λ p k. h p (le_trans k f.0)) d l o

pub stay_or_led : {D : Distance} {j c moved : ℕ} (xs ys : List (List Dot)) {m : ℕ → ℕ} {t extra : ℕ} → ((p r : ℕ) → p ≤ r → m p ≤ m r) → All (Spaced D) xs → All Some ys
    → Walking D j c moved xs ys m t extra → (d : Dot) (l : ℕ) → OnLevel d l xs → (m d.child ≡ 0) ⊎ Led m t d l ys
stay_or_led {D = D} {j = j} {c = c} {moved = moved} [] ys {m = m} {t = t} {extra = extra} mono s q W d l o = elim o [ ]
stay_or_led {D} {c = c} (x ∷ xs) [] {m} mono s q W d l o = inl (stays D m c (x ∷ xs) W.falling s W.moves d l o)
stay_or_led {D} (x ∷ xs) (y ∷ ys) {m} {t} {extra} mono s q W d zero (top k) =
    let r = last-right D d x s.0 k in
    inr (record {
      leader = first_of y;
      on = top (first-mem y q.0);
      right = omega (
        arith,
        mono d.child (last_of x).child r.0,
        (walk-seams (x ∷ xs) (y ∷ ys) W).0,
        parts_add d.place (pos (m d.child)),
        parts_add (last_of x).place (pos (m (last_of x).child)),
        parts_add ((last_of x).place +ℤ pos (m (last_of x).child)) (pos (D (last_of x).node (first_of y).node + extra)),
      );
    })
stay_or_led {c = c} (x ∷ xs) (y ∷ ys) mono s q W d (suc l) (down o) =
    ⊎_elim inl (λ z. inr (record { leader = z.leader; on = down z.on; right = z.right })) (stay_or_led {c = (last_of x).child} xs ys mono s.1 q.1 (walk-on W) d l o)
