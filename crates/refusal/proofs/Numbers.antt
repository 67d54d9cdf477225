-- No refusal has the number 0, and no two have one number.
use Rattle.std.proofs.Common.{ℕ, ◌-◌, ◌≡◌, refl, sym, ap, ◌∙◌, cond, List, [], ◌∷◌, eqb}
use Rattle.refusal.specs.declared.Refusal.{Refusal}
use Rattle.refusal.specs.declared.Refusal.TheVariants.{TableLength, EntryOutOfRange, RootHasSibling, NamedTwice, NotNamed, Separation, OutputRoom, WorkingRoom, FileLength, BlockCheck, BlockPlace, SheetLayout, TapeNumbers, NotReached, NotNewick, TooManyNodes, HalfWidths, Zoom, OutOfRange, SmallTreeNodes, SmallTreePlace, Dots, ThreeChildren, ExtraSpace}
use Rattle.refusal.specs.Number.{number}

-- the refusals in the order of their numbers
abbrev refusals : List Refusal
refusals = TableLength ∷ EntryOutOfRange ∷ RootHasSibling ∷ NamedTwice ∷ NotNamed ∷ Separation ∷ OutputRoom ∷ WorkingRoom ∷ FileLength ∷ BlockCheck ∷ BlockPlace ∷ SheetLayout ∷ TapeNumbers ∷ NotReached ∷ NotNewick ∷ TooManyNodes ∷ HalfWidths ∷ Zoom ∷ OutOfRange ∷ SmallTreeNodes ∷ SmallTreePlace ∷ Dots ∷ ThreeChildren ∷ ExtraSpace ∷ []

-- the refusal at place k
abbrev at : List Refusal → ℕ → Refusal
at [] k = TableLength
at (e ∷ es) k = cond (eqb k 1) e (at es (k - 1))

abbrev named : ℕ → Refusal
named = at refusals

named-number : (e : Refusal) → named (number e) ≡ e
named-number TableLength = refl
named-number EntryOutOfRange = refl
named-number RootHasSibling = refl
named-number NamedTwice = refl
named-number NotNamed = refl
named-number Separation = refl
named-number OutputRoom = refl
named-number WorkingRoom = refl
named-number FileLength = refl
named-number BlockCheck = refl
named-number BlockPlace = refl
named-number SheetLayout = refl
named-number TapeNumbers = refl
named-number NotReached = refl
named-number NotNewick = refl
named-number TooManyNodes = refl
named-number HalfWidths = refl
named-number Zoom = refl
named-number OutOfRange = refl
named-number SmallTreeNodes = refl
named-number SmallTreePlace = refl
named-number Dots = refl
named-number ThreeChildren = refl
named-number ExtraSpace = refl

pub number-apart : (d e : Refusal) → number d ≡ number e → d ≡ e
number-apart d e same = sym (named-number d) ∙ ap named same ∙ named-number e

pub number-nonzero : (e : Refusal) → number e ≡ 0 → ⊥
number-nonzero TableLength same = cc
number-nonzero EntryOutOfRange same = cc
number-nonzero RootHasSibling same = cc
number-nonzero NamedTwice same = cc
number-nonzero NotNamed same = cc
number-nonzero Separation same = cc
number-nonzero OutputRoom same = cc
number-nonzero WorkingRoom same = cc
number-nonzero FileLength same = cc
number-nonzero BlockCheck same = cc
number-nonzero BlockPlace same = cc
number-nonzero SheetLayout same = cc
number-nonzero TapeNumbers same = cc
number-nonzero NotReached same = cc
number-nonzero NotNewick same = cc
number-nonzero TooManyNodes same = cc
number-nonzero HalfWidths same = cc
number-nonzero Zoom same = cc
number-nonzero OutOfRange same = cc
number-nonzero SmallTreeNodes same = cc
number-nonzero SmallTreePlace same = cc
number-nonzero Dots same = cc
number-nonzero ThreeChildren same = cc
number-nonzero ExtraSpace same = cc
