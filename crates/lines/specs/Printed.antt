-- What the two operations promise: which text they write, and what the buffer holds afterwards.
use Rattle.std.specs.Prelude.{ℕ, ◌+◌, ◌*◌, ◌≤◌, ◌≡◌, Bool, cond, Option, None, Some, ◌&&◌, List, [], leb, ℤ, length, take}
use Rattle.refusal.specs.After.{overwrite}
use Rattle.lines.specs.Listing.{listing, refused_line}

-- n is at most 1,024
abbrev pub most_nodes : ℕ
most_nodes = 1024

-- no first line, node's line and refusal is longer than these
abbrev pub sheet_line_room : ℕ
sheet_line_room = 64

abbrev pub node_line_room : ℕ
node_line_room = 40

abbrev pub refusal_room : ℕ
refusal_room = 16

-- the bytes that a listing of n nodes asks for
abbrev pub listing_room : ℕ → ℕ
listing_room n = sheet_line_room + node_line_room * n

-- the nodes are not too many, each has its entries, and the buffer has room; the last four numbers are the slices' lengths
abbrev pub printable : ℕ → ℕ → ℕ → ℕ → ℕ → Bool
printable n levels places tapes bytes =
    leb n most_nodes && (leb n levels && (leb n places && (leb (2 * n) tapes && leb (listing_room n) bytes)))

-- a text where a test holds, and else no bytes
abbrev pub when : Bool → List ℕ → List ℕ
when test text = cond test text []

-- the bytes that an operation wrote, 0 where it gave none
abbrev pub bytes_written : Option ℕ → ℕ
bytes_written None = 0
bytes_written (Some bytes) = bytes

-- n counts bytes at the start of a buffer. The second part follows from the first; a caller that hands those bytes on needs both.
abbrev pub Counts : ℕ → List ℕ → Type 0
Counts n buffer = (n ≤ length buffer) × (n ≡ length (take n buffer))

-- a text stands at the buffer's start, the bytes past it are untouched, and the answer is its length
pub record Printed (text old : List ℕ) (answer : ℕ) (new : List ℕ) : Type 0 where
  pub bytes : answer ≡ length text
  pub buffer : new ≡ overwrite text old
  pub counts : Counts answer new

-- what `write_listing` promises
abbrev pub ListingPrinted : ℕ → ℕ → ℕ → ℤ → ℤ → List ℕ → List ℤ → List ℕ → List ℕ → ℕ → List ℕ → Type 0
ListingPrinted n level_count separation least greatest levels places tapes old =
    Printed
    (when (printable n (length levels) (length places) (length tapes) (length old))
    (listing n level_count separation least greatest levels places tapes))
    old

-- what `write_refusal` promises
abbrev pub RefusalPrinted : ℕ → List ℕ → ℕ → List ℕ → Type 0
RefusalPrinted number old = Printed (when (leb refusal_room (length old)) (refused_line number)) old
