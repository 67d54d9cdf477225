-- What a call returns: all that layout/proofs/Returned.antt says of an accepted call (`Call`) holds of it, with the extra space; and with no extra
-- space it gives what the layout gives. Assumes nothing.
use mathlib.Core.Path.{◌≡◌, sym, ◌∙◌}
use mathlib.Core.Logic.{◌↔◌}
use mathlib.Core.Bool.{false}
use mathlib.Core.List.{List}
use Prim.Native.Nat.{ℕ, ◌≤◌, ◌<◌}
use lib.ListN.{length}
use Rattle.tree.specs.Table.{nodes}
use Rattle.tree.specs.Levels.{children_of}
use Rattle.tree.specs.WellFormed.{table_number}
use Rattle.rule.specs.Result.{Slices, Answer, Layout}
use Rattle.layout.proofs.Answers.{laid_by}
use Rattle.layout.proofs.Returned.{Call}
use Rattle.treetex.specs.TreeTeX.{three_children, TreeTeX}
use Rattle.treetex.proofs.Children.{at_most_two}
use Rattle.treetex.proofs.Answers.{accepted-call, plain-number}

pub treetex_call : {t : List ℕ} {D : ℕ} {hs : List ℕ} {extra : ℕ} {s : Slices} {a : Answer} {u : Slices} → TreeTeX t D hs extra s a u → a.number ≡ 0 → Call t D hs extra s a u
treetex_call {t} {D} {hs} {extra} {s} L e =
    let zero_number = sym L.number ∙ e in
    record { given = (accepted-call t D hs extra s zero_number).taken; laid = laid_by zero_number L }

-- no node has more than two children
pub two-returned : (t : List ℕ) (D : ℕ) (hs : List ℕ) (extra : ℕ) (s : Slices) (a : Answer) (u : Slices) → TreeTeX t D hs extra s a u → a.number ≡ 0
    → (v : ℕ) → v < nodes t → length (children_of t v) ≤ 2
two-returned t D hs extra s a u L e = (at_most_two t).0 (accepted-call t D hs extra s (sym L.number ∙ e)).two

-- With E = 0, on every table but an accepted one with a node of three children, a call gives just what a call of the layout gives: the number,
-- every field and every slice.
module _ (t : List ℕ) (D : ℕ) (hs : List ℕ) (s : Slices) (a : Answer) (u : Slices) (two : table_number t ≡ 0 → three_children t ≡ false) where
  pub plain-agrees : TreeTeX t D hs 0 s a u ↔ Layout t D hs s a u
  plain-agrees = (laid_by (plain-number t D hs s two), laid_by (sym (plain-number t D hs s two)))
