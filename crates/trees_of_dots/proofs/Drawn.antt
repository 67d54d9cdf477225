-- The layout of a table by the operation, with half-widths 0, is that of the written rule with the separation alone. Assumes nothing.
use mathlib.Core.Path.{◌≡◌, sym, ap, ap₂, ◌∙◌}
use mathlib.Core.Bool.{false}
use mathlib.Core.List.{List, map}
use Prim.Native.Nat.{ℕ, ◌<◌}
use native.Mathlib.Omega.{arith}
use lib.IntN.{ℤ, pos}
use lib.ListN.{replicate, get_or-replicate, length-map}
use Rattle.distance.specs.Needed.{half_width}
use Rattle.distance.proofs.Separation.{good-separation}
use Rattle.distance.proofs.HalfWidths.{narrow_good}
use Rattle.tree.specs.Numbers.{up_to}
use Rattle.tree.specs.Table.{nodes}
use Rattle.tree.specs.Levels.{together}
use Rattle.rule.specs.Drawing.{Dot}
use Rattle.rule.specs.Result.{Slices, Answer, Layout, layout_number, place_in, place}
use Rattle.rule.proofs.Own.{no-widths}
use Rattle.second_walk.proofs.EntryForEach.{length-up_to, map-up_to, told-by-entries}
use Rattle.layout.specs.Operation.{slices}
use Rattle.layout.proofs.Answers.{room-enough, by-widths, number-room}
use Rattle.layout.proofs.Returned.{layout-call, accepted, place_of, level_of, place-returned, level-returned}
use Rattle.plots.specs.Points.{point, points_of, all_among, node_point, laid_out, table_fits}
use Rattle.plots.specs.declared.Point.{Point}
use Rattle.plots.specs.Dots.{points_at}
use Rattle.plots.proofs.Laid.{among-fits}
use Rattle.plots.proofs.Sound.{sound, points-length}
use Rattle.trees_of_dots.specs.Steps.{Drawable}

-- what an accepted call leaves, where no node has a half-width above 0
pub drawn-points : (t : List ℕ) (D : ℕ) (hs : List ℕ) (s : Slices) (a : Answer) (u : Slices) → Layout t D hs s a u → a.number ≡ 0
    → ((v : ℕ) → v < nodes t → half_width hs v ≡ 0) → points_at (nodes t) u.levels u.places ≡ laid_out D t
unfolding laid_out place
drawn-points t D hs s a u L ok none =
    let C = layout-call L ok in
    let read : ℕ → Point = λ v. point (pos (level_of u v)) (place_of u v) in
    let root = point (pos 0) (pos 0) in
    told-by-entries (node_point D t) root (nodes t) (map read (up_to (nodes t))) (length-map (up_to (nodes t)) read ∙ length-up_to (nodes t))
    (λ v h.
    map-up_to read root (nodes t) v h
    ∙ ap₂ point (ap pos (level-returned C v h))
    (place-returned C v h ∙ ap (λ (ls : List (List Dot)). place_in (together ls) v) (no-widths t (accepted C) D hs 0 none)))

-- the slices of eight nodes
abbrev pub lent : Slices
lent = slices (replicate 8 (pos 0)) (replicate 8 0) (replicate 16 0) (replicate 128 (pos 0))

-- are enough for a table of at most eight
pub lent-taken : (t : List ℕ) (dots : List ℤ) (D : ℕ) → Drawable t dots D → layout_number t D (replicate 8 0) lent ≡ 0
lent-taken t dots D R =
    let few = R.plot.few in
    sym (number-room t D (replicate 8 0) lent R.accepted
    (by-widths t D (replicate 8 0) R.plot.apart false (narrow_good (replicate 8 0) (nodes t) few (λ v h. omega (arith, get_or-replicate {A = ℕ} 8 v 0 0 (omega arith))))))
    ∙ room-enough t lent few few (omega arith) (omega arith)

-- and then it is enough that every node's point is among the dots
pub drawn-fits : (t : List ℕ) (dots : List ℤ) (D : ℕ) → Drawable t dots D → (a : Answer) (u : Slices) → Layout t D (replicate 8 0) lent a u
    → all_among (points_of dots) (points_at (nodes t) u.levels u.places) ≡ table_fits D (points_of dots) t
drawn-fits t dots D R a u L =
    let S = sound (nodes t) dots R.plot.right in
    ap (all_among (points_of dots))
    (drawn-points t D (replicate 8 0) lent a u L (L.number ∙ lent-taken t dots D R) (λ v h. get_or-replicate {A = ℕ} 8 v 0 0 (omega (arith, R.plot.few))))
    ∙ among-fits D (good-separation D R.plot.apart).0 t R.accepted (points_of dots) S.rise (points-length (nodes t) dots S.entries)
