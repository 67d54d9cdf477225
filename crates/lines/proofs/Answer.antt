-- From a text that is stored at the buffer's start to what an operation promises, and what a test that held says. Assumes nothing.
use mathlib.Core.Path.{◌≡◌, refl, sym, ap, ap₂, ◌∙◌, subst}
use Prim.Native.Nat.{ℕ, ◌*◌, ◌≤◌}
use native.Mathlib.Omega.{arith}
use mathlib.Core.Bool.{Bool, true, false}
use mathlib.Core.List.{List}
use lib.Dec.{leb}
use lib.ListN.{length}
use lib.Seq.{sets, length-take-le}
use borrow.Author.Tests.{leb-true}
use Rattle.refusal.specs.After.{overwrite}
use Rattle.refusal.proofs.After.{length-overwrite, sets_start}
use Rattle.refusal.proofs.Truth.{and_left, and_right}
use Rattle.lines.specs.Printed.{most_nodes, listing_room, printable, when, Printed}
use Rattle.lines.specs.Written.{Written}
use Rattle.lines.specs.declared.buffer.Text.{Text}

-- where the test fails there is no text
pub not-printed : {test : Bool} {old : List ℕ} (text : List ℕ) → test ≡ false → Printed (when test text) old 0 old
unfolding overwrite
not-printed {old = old} text fails = subst (λ (b : Bool). Printed (when b text) old 0 old) (sym fails) (record { bytes = refl; buffer = refl; counts = (omega arith, refl) })

-- where it holds, the text that is written to an empty one
pub printed : {test : Bool} {room answer : ℕ} {text old new : List ℕ} {start end : Text} → test ≡ true → room ≤ length old
    → start.out.now ≡ old → start.end ≡ 0 → Written room text start end → answer ≡ end.end → new ≡ end.out.now
    → Printed (when test text) old answer new
printed {answer = answer} {text = text} {old = old} {new = new} {start = start} holds enough is_old empty written is_end is_new =
    let size : length text ≤ length old = omega arith in
    let stored : new ≡ overwrite text old =
    is_new ∙ written.put.put.buffer ∙ ap₂ (λ (l : List ℕ) (at : ℕ). sets l at text) is_old empty ∙ sets_start text old size
    in
    let count : answer ≡ length text = omega arith in
    let inside : answer ≤ length new = omega (arith, ap length stored, length-overwrite text old size) in
    subst (λ (b : Bool). Printed (when b text) old answer new) (sym holds)
    (record { bytes = count; buffer = stored; counts = (inside, sym (length-take-le answer new inside)) })

-- what is known where a listing is written
pub record Able (n levels places tapes bytes : ℕ) : Type 0 where
  pub nodes : n ≤ most_nodes
  pub levels-enough : n ≤ levels
  pub places-enough : n ≤ places
  pub tapes-enough : 2 * n ≤ tapes
  pub room : listing_room n ≤ bytes

pub able : (n levels places tapes bytes : ℕ) → printable n levels places tapes bytes ≡ true → Able n levels places tapes bytes
able n levels places tapes bytes h =
    let a = and_right (leb n most_nodes) _ h in
    let b = and_right (leb n levels) _ a in
    let c = and_right (leb n places) _ b in
    record {
      nodes = leb-true _ _ (and_left (leb n most_nodes) _ h);
      levels-enough = leb-true _ _ (and_left (leb n levels) _ a);
      places-enough = leb-true _ _ (and_left (leb n places) _ b);
      tapes-enough = leb-true _ _ (and_left (leb (2 * n) tapes) _ c);
      room = leb-true _ _ (and_right (leb (2 * n) tapes) _ c);
    }
