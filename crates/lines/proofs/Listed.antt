-- The lines of the nodes, one more at a time. Assumes nothing.
use mathlib.Core.Path.{◌≡◌, refl, ap}
use Prim.Native.Nat.{ℕ, ◌+◌, ◌*◌}
use native.Mathlib.Nat.{le_refl}
use native.Mathlib.Numerals.{add-one}
use native.Mathlib.Omega.{arith}
use mathlib.Core.List.{List}
use lib.IntN.{ℤ, pos}
use lib.ListN.{get_or}
use Rattle.lines.specs.Listing.{node_line, node_lines, tape_number}
use Rattle.lines.specs.Printed.{node_line_room}
use Rattle.lines.specs.Written.{Written}
use Rattle.lines.specs.declared.buffer.Text.{Text}
use Rattle.lines.proofs.Written.{written_as, written_then}

-- before the first node nothing is written
pub none_written : (text : Text) (levels : List ℕ) (places : List ℤ) (tapes : List ℕ) → Written 0 (node_lines 0 levels places tapes) text text
unfolding node_lines
none_written text levels places tapes = record {
  same_reference = refl;
  same_length = refl;
  put = record { put = record { place = omega arith; buffer = refl }; within = omega arith };
}

-- a node's line, behind those of the nodes before it
pub node_more : {level tape : ℕ} {place : ℤ} {before mid after : Text} (node : ℕ) (levels : List ℕ) (places : List ℤ) (tapes : List ℕ)
    → Written (node_line_room * node) (node_lines node levels places tapes) before mid
    → level ≡ get_or levels node 0 → place ≡ get_or places node (pos 0) → tape ≡ tape_number tapes node
    → Written node_line_room (node_line node level place tape) mid after
    → Written (node_line_room * (node + 1)) (node_lines (node + 1) levels places tapes) before after
unfolding node_lines
node_more node levels places tapes lines isLevel isPlace isTape here =
    written_as (omega arith) (ap (λ (k : ℕ). node_lines k levels places tapes) (add-one node))
    (written_then lines (written_as (le_refl _) (rw (isLevel, isPlace, isTape)) here))
