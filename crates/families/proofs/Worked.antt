-- A level of the walk once it is worked on, and the top level, on which there is nothing to do. Assumes nothing.
use mathlib.Core.Path.{◌≡◌, refl, sym, ap, ap₂, ◌∙◌}
use mathlib.Core.Logic.{⊎_elim}
use mathlib.Core.List.{List}
use Prim.Native.Nat.{ℕ, ◌+◌, ◌-◌}
use native.Mathlib.Omega.{arith}
use lib.IntN.{ℤ, pos, ◌+ℤ◌, ◌-ℤ◌}
use lib.Seq.{set-get_or}
use Rattle.rule.specs.Join.{above0}
use Rattle.rule.proofs.Signed.{one-part, parts_add, parts_sub}
use Rattle.level_order.specs.Fields.{cell, put, ANCESTOR}
use Rattle.descent.specs.declared.Stand.{Stand}
use Rattle.descent.specs.Descent.{top_level, noted}
use Rattle.families.proofs.Joining.{Joining}
use Rattle.families.proofs.Contour.{Contour, pushed, contour-first}
use Rattle.families.proofs.Meeting.{close, moved, next}

-- the walk on a level whose meeting is gathered, and whose stand has been moved by it
pub record Worked (K : Joining) (work : List ℤ) (s : Stand) : Type 0 where
  pub now : List ℤ
  pub stand : Stand
  pub contour : Contour K now stand
  pub worked-on : work ≡ next contour
  pub moved_to : s.moved ≡ pos (moved contour)
  pub pushed_to : s ≡ pushed stand s.moved

-- On the top level the child stands at the distance that it needs, so nothing is gathered, and it is its own ancestor already.
module _ (K : Joining) where
  open K use {f, c, default, before}

  abbrev top : Contour K before (top_level before f c)
  top = contour-first K

  top-close : close top ≡ 0
  top-close = free (top_level before f c).left
    where
      free : (x : ℤ) → above0 (x -ℤ (x +ℤ pos 0)) ≡ 0
      free x = let added = parts_add x (pos 0) in let left = parts_sub x (x +ℤ pos 0) in ⊎_elim (λ z. omega arith) (λ z. omega arith) (one-part (x -ℤ (x +ℤ pos 0)))

  top-worked : before ≡ next top
  top-worked =
      let last : c + 1 - 1 ≡ c = omega arith in
      sym (set-get_or before (cell c ANCESTOR) (pos 0)) ∙ ap (put before ANCESTOR c) K.joins.waiting.own
      ∙ ap₂ (λ (w : List ℤ) (p : ℕ). put w ANCESTOR p (pos c)) (ap (noted before (top_level before f c) f c default) (sym top-close)) (sym last)

  pub worked-first : Worked K before (top_level before f c)
  worked-first =
      record { now = before; stand = top_level before f c; contour = top; worked-on = top-worked; moved_to = top.moved ∙ ap pos (omega (arith, top-close)); pushed_to = refl }
