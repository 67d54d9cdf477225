-- Pieces written one behind the other are one piece written. Assumes nothing.
use Rattle.std.proofs.Common.{◌-◌, ap, ap₂, ◌≡◌, ℕ, ◌+◌, ◌≤◌, List, ◌++◌, length, ◌∙◌, arith}
use mathlib.Core.Path.{subst⁻¹}
use lib.Seq.{sets, length-sets}
use borrow.Rule.Slice.PartMut.{put_mid}
use Rattle.lines.specs.Steps.{Room}
use Rattle.lines.specs.Written.{Written}
use Rattle.lines.specs.declared.buffer.Text.{Text}
use Rattle.lines.proofs.Put.{sets_copied, put_then}

-- bytes that are copied into a part of their length
pub written_copy : (bytes copied : List ℕ) {before after : Text} → Room before.end bytes before.out.now → copied ≡ bytes
    → after.out.ghost_name ≡ before.out.ghost_name → after.end ≡ before.end + length bytes
    → after.out.now ≡ put_mid before.end (before.end + length bytes - before.end) before.out.now copied
    → Written (length bytes) bytes before after
written_copy bytes copied {before} {after} room same same_reference ends stored =
    let part : before.end + length bytes - before.end ≡ length bytes = omega arith in
    let buffer : after.out.now ≡ sets before.out.now before.end bytes =
    stored ∙ ap₂ (λ (k : ℕ) (new : List ℕ). put_mid before.end k before.out.now new) part same ∙ sets_copied bytes before.out.now before.end room.fits
    in
    record {
      same_reference = same_reference;
      same_length = ap length buffer ∙ length-sets before.out.now before.end bytes;
      put = record { put = record { place = ends; buffer = buffer }; within = omega arith };
    }

pub written_then : {room more : ℕ} {a b : List ℕ} {before mid after : Text} → Written room a before mid → Written more b mid after
    → Written (room + more) (a ++ b) before after
written_then first second = record {
  same_reference = second.same_reference ∙ first.same_reference;
  same_length = second.same_length ∙ first.same_length;
  put = record { put = put_then first.put.put second.put.put; within = omega arith };
}

-- the same for an equal piece, and for more room
pub written_as : {room more : ℕ} {a b : List ℕ} {before after : Text} → room ≤ more → a ≡ b → Written room b before after → Written more a before after
written_as {room} {more} {a} {b} {before} {after} wider same written =
    subst⁻¹ (λ (piece : List ℕ). Written more piece before after) same (record {
      same_reference = written.same_reference;
      same_length = written.same_length;
      put = record { put = written.put.put; within = omega arith };
    })
