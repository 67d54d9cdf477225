-- Laws of the first condition that holds. Assumes nothing.
use mathlib.Core.Path.{◌≡◌, refl, sym, ap, ◌∙◌}
use mathlib.Core.Bool.{Bool, true, false, cond}
use mathlib.Core.List.{List, [], ◌∷◌, ◌++◌, append-nil}
use Prim.Native.Nat.{ℕ}
use Rattle.refusal.specs.First.{Condition, first}

-- no condition has the number k
abbrev pub Lacks : ℕ → List Condition → Type 0
Lacks k [] = Unit {0}
Lacks k (c ∷ cs) = (c.number ≡ k → ⊥) × Lacks k cs

-- no condition holds
abbrev pub NoneHolds : List Condition → Type 0
NoneHolds [] = Unit {0}
NoneHolds (c ∷ cs) = (c.holds ≡ false) × NoneHolds cs

-- a condition decides where it holds, and else those after it
pub first-here : (c : Condition) (cs : List Condition) → c.holds ≡ true → first (c ∷ cs) ≡ c.number
first-here c cs e = ap (λ (b : Bool). cond b c.number (first cs)) e

pub first-after : (c : Condition) (cs : List Condition) → c.holds ≡ false → first (c ∷ cs) ≡ first cs
first-after c cs e = ap (λ (b : Bool). cond b c.number (first cs)) e

-- where a condition of the first list holds, the second list is not looked at
pub first-refused : (cs ds : List Condition) → (first cs ≡ 0 → ⊥) → first (cs ++ ds) ≡ first cs
first-refused [] ds h = absurd (h refl)
first-refused (c ∷ cs) ds h = go c.holds h (first-refused cs ds)
  where
    go : (b : Bool) → (cond b c.number (first cs) ≡ 0 → ⊥) → ((first cs ≡ 0 → ⊥) → first (cs ++ ds) ≡ first cs)
        → cond b c.number (first (cs ++ ds)) ≡ cond b c.number (first cs)
    go true k ih = refl
    go false k ih = ih k

-- where no condition of the first list holds, the second list decides
pub first-passed : (cs ds : List Condition) → NoneHolds cs → first (cs ++ ds) ≡ first ds
first-passed [] ds h = refl
first-passed (c ∷ cs) ds h = first-after c (cs ++ ds) h.0 ∙ first-passed cs ds h.1

-- where the number is none of the first list's, no condition of that list holds, and the second list decides
pub first_past : (cs ds : List Condition) (k : ℕ) → Lacks k cs → first (cs ++ ds) ≡ k → NoneHolds cs × (first ds ≡ k)
first_past [] ds k l e = (tt, e)
first_past (c ∷ cs) ds k l e = go c.holds refl e (first_past cs ds k l.1)
  where
    go : (b : Bool) → c.holds ≡ b → cond b c.number (first (cs ++ ds)) ≡ k → (first (cs ++ ds) ≡ k → NoneHolds cs × (first ds ≡ k))
        → ((c.holds ≡ false) × NoneHolds cs) × (first ds ≡ k)
    go true h e ih = absurd (l.0 e)
    go false h e ih = ((h, (ih e).0), (ih e).1)

-- a number that the list lacks is given only where it is 0, and then no condition holds
pub first-lacks : (cs : List Condition) (k : ℕ) → Lacks k cs → first cs ≡ k → NoneHolds cs × (0 ≡ k)
first-lacks cs k l e = first_past cs [] k l (ap first (append-nil cs) ∙ e)

-- a number that only the first condition has, and that is not 0, says that it holds
pub first_holds : (c : Condition) (cs : List Condition) → (c.number ≡ 0 → ⊥) → Lacks c.number cs → first (c ∷ cs) ≡ c.number → c.holds ≡ true
first_holds c cs some l e = go c.holds refl e
  where
    go : (b : Bool) → c.holds ≡ b → cond b c.number (first cs) ≡ c.number → c.holds ≡ true
    go true h e = h
    go false h e = absurd (some (sym (first-lacks cs c.number l e).1))

-- the number is 0 exactly where no condition holds
pub none_first : (cs : List Condition) → NoneHolds cs → first cs ≡ 0
none_first [] h = refl
none_first (c ∷ cs) h = first-after c cs h.0 ∙ none_first cs h.1

pub first-none : (cs : List Condition) → Lacks 0 cs → first cs ≡ 0 → NoneHolds cs
first-none cs l e = (first-lacks cs 0 l e).0
