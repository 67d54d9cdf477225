-- What is drawn of a table looks only at what its own nodes need; so half-widths that are all 0 change nothing. Assumes nothing.
use mathlib.Core.Path.{◌≡◌, sym, ap, ◌∙◌}
use mathlib.Core.Logic.{⊎_elim}
use mathlib.Core.Bool.{cond}
use mathlib.Core.List.{List, map}
use Prim.Native.Nat.{ℕ, ◌<◌}
use native.Mathlib.Omega.{arith}
use lib.IntN.{pos}
use lib.Dec.{ltb}
use Rattle.distance.specs.Needed.{Distance, half_width, needed}
use Rattle.tree.specs.Numbers.{up_to}
use Rattle.tree.specs.Table.{nodes}
use Rattle.tree.specs.Forest.{tree_of, preorder}
use Rattle.tree.specs.Levels.{together}
use Rattle.tree.specs.WellFormed.{table_number}
use Rattle.tree.proofs.Counting.{All, all-weaken, below_or_not}
use Rattle.tree.proofs.Stands.{accepted-numbers}
use Rattle.rule.specs.Drawing.{Dot, dots}
use Rattle.rule.specs.Join.{Spacing, spaced}
use Rattle.rule.specs.Rule.{draw, drawn}
use Rattle.rule.specs.Result.{place_in, place, places_of}
use Rattle.rule.proofs.Shapes.{spaced_by, draw-kept}

-- node v where it is one of n, else node 0
abbrev pub own : ℕ → ℕ → ℕ
own n v = cond (ltb v n) v 0

module _ (t : List ℕ) (accepted : table_number t ≡ 0) where
  pub own-inside : (v : ℕ) → own (nodes t) v < nodes t
  own-inside v =
      ⊎_elim (λ h. rw h.1 h.0) (λ h. rw h.1 (accepted-numbers t accepted).some) (below_or_not v (nodes t))

  own-kept : All (λ v. own (nodes t) v ≡ v) (preorder (tree_of t))
  own-kept =
      all-weaken (λ v. v < nodes t) (λ v. own (nodes t) v ≡ v)
      (λ v h. ⊎_elim (λ k. rw k.1) (λ k. absurd (omega (arith, h, k.0))) (below_or_not v (nodes t)))
      (preorder (tree_of t)) (accepted-numbers t accepted).below

  pub draw-own : (D : Spacing) → draw D (tree_of t) ≡ draw (spaced_by (own (nodes t)) D) (tree_of t)
  draw-own D = draw-kept D (own (nodes t)) (tree_of t) own-kept

  -- two distances that agree on the table's nodes draw it equally
  pub drawn_agree : (D E : Distance) (extra : ℕ) → ((a b : ℕ) → a < nodes t → b < nodes t → D a b ≡ E a b) → drawn (spaced D extra) t ≡ drawn (spaced E extra) t
  unfolding drawn
  drawn_agree D E extra same =
      ap (dots 0 (pos 0))
      (draw-own (spaced D extra)
      ∙ ap (λ (N : Distance). draw (spaced N extra) (tree_of t)) (λ i a b. same (own (nodes t) a) (own (nodes t) b) (own-inside a) (own-inside b) i)
      ∙ sym (draw-own (spaced E extra)))

  pub places_agree : (D E : Distance) (extra : ℕ) → ((a b : ℕ) → a < nodes t → b < nodes t → D a b ≡ E a b) → places_of (spaced D extra) t ≡ places_of (spaced E extra) t
  unfolding places_of place
  places_agree D E extra same = ap (λ (ls : List (List Dot)). map (place_in (together ls)) (up_to (nodes t))) (drawn_agree D E extra same)

  -- with half-widths of 0 the drawing is the one by the separation alone
  pub no-widths : (D : ℕ) (hs : List ℕ) (extra : ℕ) → ((v : ℕ) → v < nodes t → half_width hs v ≡ 0) → drawn (spaced (needed D hs) extra) t ≡ drawn (spaced (λ a b. D) extra) t
  no-widths D hs extra none = drawn_agree (needed D hs) (λ a b. D) extra (λ a b h k. omega (arith, none a h, none b k))
