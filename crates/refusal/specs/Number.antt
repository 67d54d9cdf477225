-- The numbers by which C and the listing name refusals, and the number of an answer.
use Rattle.std.specs.Prelude.{ℕ, Result, Ok, Err}
use Rattle.refusal.specs.declared.Refusal.{Refusal}
use Rattle.refusal.specs.declared.Refusal.TheVariants.{TableLength, EntryOutOfRange, RootHasSibling, NamedTwice, NotNamed, Separation, OutputRoom, WorkingRoom, FileLength, BlockCheck, BlockPlace, SheetLayout, TapeNumbers, NotReached, NotNewick, TooManyNodes, HalfWidths, Zoom, OutOfRange, SmallTreeNodes, SmallTreePlace, Dots, ThreeChildren, ExtraSpace}

abbrev pub number : Refusal → ℕ
number TableLength = 1
number EntryOutOfRange = 2
number RootHasSibling = 3
number NamedTwice = 4
number NotNamed = 5
number Separation = 6
number OutputRoom = 7
number WorkingRoom = 8
number FileLength = 9
number BlockCheck = 10
number BlockPlace = 11
number SheetLayout = 12
number TapeNumbers = 13
number NotReached = 14
number NotNewick = 15
number TooManyNodes = 16
number HalfWidths = 17
number Zoom = 18
number OutOfRange = 19
number SmallTreeNodes = 20
number SmallTreePlace = 21
number Dots = 22
number ThreeChildren = 23
number ExtraSpace = 24

-- the number of an answer: 0 where nothing was refused
abbrev pub number_of : {A : Type 0} → Result A Refusal → ℕ
number_of (Ok x) = 0
number_of (Err refusal) = number refusal

-- a result field: what an answer has of it, and else what a refusal gives
abbrev pub given : {A : Type 0} → A → Result A Refusal → A
given refused (Ok x) = x
given refused (Err refusal) = refused
