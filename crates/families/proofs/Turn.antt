-- A turn of the walk's loop and what follows the loop, of the code's own stand. Assumes nothing.
use mathlib.Core.Path.{◌≡◌, sym, ap, ◌∙◌, refl, subst₂}
use mathlib.Core.Bool.{Bool, true, false, cond}
use mathlib.Core.List.{List}
use Prim.Native.Nat.{ℕ, ◌+◌, ◌-◌, ◌≤◌, ◌<◌}
use native.Mathlib.Omega.{arith}
use lib.Dec.{ltb}
use lib.IntN.{ℤ, pos, nat_abs, ◌+ℤ◌}
use Rattle.tree.specs.Table.{nodes}
use Rattle.rule.specs.Join.{above0}
use Rattle.level_order.specs.Fields.{get, put, NEED, PLACE}
use Rattle.level_order.proofs.Signed32.{stored, Held, plus, natural}
use Rattle.descent.specs.declared.Stand.{Stand}
use Rattle.descent.specs.Descent.{Modest, Level, Threads, Steps, lower, too_close, worked, widened, is_end, threaded, new_default}
use Rattle.families.specs.Joining.{Joined}
use Rattle.families.proofs.Joining.{Joining, start_at, last-at, need-here, row_last_bound}
use Rattle.families.proofs.Contour.{Kept, Contour, pushed, level, moved-most}
use Rattle.families.proofs.Meeting.{close, moved, next, need-now, kept_next, moved_bound}
use Rattle.families.proofs.Worked.{Worked}
use Rattle.families.proofs.Deeper as deeper
use Rattle.families.proofs.Deeper.{threads, steps-below, fewer-left}
use Rattle.families.proofs.Threaded.{Ends}
use Rattle.families.proofs.JoinEnd.{ends, added-at-end, joined}

-- ---- the start

module _ (K : Joining) where
  open K use {f, c, before}

  pub last-modest : Modest (get before PLACE (c - 1))
  last-modest = omega (arith, ap nat_abs (last-at K), row_last_bound K)

  pub need-modest : Modest (get before NEED c)
  need-modest = omega (arith, ap nat_abs (need-here K), K.joins.given.high (c - 1) c)

-- ---- a level that is worked on

module _ {K : Joining} {work : List ℤ} {s : Stand} (W : Worked K work s) where
  abbrev D : Contour K W.now W.stand
  D = W.contour

  -- what holds where the walk stands holds of the code's slice and stand, and the other way round
  of_code : (P : List ℤ → Stand → Type 0) → P (next D) (pushed W.stand s.moved) → P work s
  of_code P = subst₂ P (sym W.worked-on) (sym W.pushed_to)

  of_walk : (P : List ℤ → Stand → Type 0) → P work s → P (next D) (pushed W.stand s.moved)
  of_walk P = subst₂ P W.worked-on W.pushed_to

  pub level-now : Level work s K.f K.c K.default
  level-now =
      of_code (λ w r. Level w r K.f K.c K.default)
      (level D (next D) (moved D) (kept_next D) (moved_bound D) (moved D) (omega arith) s.moved W.moved_to)

  -- ---- where the walk goes on

  module _ (go_on : is_end work s ≡ false) where
    ended-not : is_end (next D) (pushed W.stand s.moved) ≡ false
    ended-not = of_walk (λ w r. is_end w r ≡ false) go_on

    pub steps-now : Steps work s
    steps-now = of_code Steps (steps-below D s.moved W.moved_to ended-not)

    -- the stand below
    module _ {low : Stand} (e : low ≡ lower work s) where
      pub contour-lower : Contour K work low
      contour-lower = rw e (of_code (λ w r. Contour K w (lower w r)) (deeper.contour-lower D s.moved W.moved_to ended-not))

      pub fewer-lower : nodes K.t - low.child < nodes K.t - s.child
      fewer-lower = rw e (of_code (λ w r. nodes K.t - (lower w r).child < nodes K.t - r.child) (fewer-left D s.moved W.moved_to ended-not))

  -- ---- where it ends

  sum-read : stored s.moved ≡ pos (moved D)
  sum-read = natural s.moved (moved D) W.moved_to (omega (arith, moved_bound D))

  pub sum-modest : Modest (stored s.moved)
  sum-modest = omega (arith, ap nat_abs sum-read, moved_bound D)

  -- what is added, and how far the child has moved in all
  abbrev more : ℕ
  more = cond (ltb 0 (moved D)) K.D.extra 0

  abbrev whole : ℕ
  whole = moved D + more

  more-few : more ≤ 1024
  more-few = either (ltb 0 (moved D)) K.joins.given.little
    where
      either : (b : Bool) {n : ℕ} → n ≤ 1024 → cond b n 0 ≤ 1024
      either true h = h
      either false h = omega arith

  -- z is what the widening gives
  module _ {z : ℤ} (e : z ≡ pos (widened (above0 (stored s.moved)) K.D.extra)) where
    abbrev far : ℤ
    far = stored z

    far-is : far ≡ pos whole
    far-is = natural z whole (e ∙ ap (λ (y : ℤ). pos (widened (above0 y) K.D.extra)) sum-read) (omega (arith, moved_bound D, more-few))

    pub level-wide : Level work (pushed s far) K.f K.c K.default
    level-wide =
        of_code (λ w r. Level w (pushed r far) K.f K.c K.default)
        (level D (next D) (moved D) (kept_next D) (moved_bound D) whole (omega (arith, more-few)) far far-is)

    pub threads-wide : Threads work (pushed s far)
    threads-wide = of_code (λ w r. Threads w (pushed r far)) (threads D far)

    -- x is where the child started
    module _ {x : ℤ} (ex : x ≡ pos (start_at K)) where
      pub place-held : Held (stored x +ℤ stored far) (pos (start_at K + whole))
      place-held =
          plus (natural x (start_at K) ex (omega (arith, moved_bound D))) (natural far whole far-is (omega (arith, moved_bound D, more-few)))
          (omega (arith, moved_bound D, more-few))

      pub joined-now : is_end work s ≡ true → {d : ℕ} {u w : List ℤ} → d ≡ new_default work (pushed s far) K.c K.default → u ≡ threaded work (pushed s far)
          → w ≡ put u PLACE K.c (stored (stored x +ℤ stored far)) → Joined K.t K.D K.f K.c K.end d K.before w
      joined-now stop new set_there written =
          let E = of_code (λ w r. Ends K w (threaded w (pushed r far)) whole more (new_default w (pushed r far) K.c K.default))
          (ends D more far far-is (of_walk (λ w r. is_end w r ≡ true) stop)) in
          subst₂ (λ (d : ℕ) (w : List ℤ). Joined K.t K.D K.f K.c K.end d K.before w) (sym new)
          (sym (written ∙ ap (λ (u : List ℤ). put u PLACE K.c (stored (stored x +ℤ stored far))) set_there))
          (joined K work (threaded work (pushed s far)) (moved D) more _ (of_code (λ w r. Kept K w (moved D)) (kept_next D)) E
          (added-at-end K (moved D) (omega (arith, E.ended.total))) (stored (stored x +ℤ stored far)) place-held.read)

-- ---- one level down

module _ {K : Joining} {now : List ℤ} {s : Stand} (C : Contour K now s) where
  pub level-met : Level now s K.f K.c K.default
  level-met = level C now C.k C.kept (moved-most C) C.k (omega arith) s.moved C.moved

  pub need-met : Modest (get now NEED s.child)
  need-met = omega (arith, ap nat_abs (need-now C), K.joins.given.high (s.child - 1) s.child)

  pub close-modest : too_close now s ≤ 4194304
  close-modest = omega (arith, moved_bound C)

  -- z is by how much the child moves
  module _ {z : ℤ} (e : z ≡ pos (close C)) where
    pub moved-held : Held (stored s.moved +ℤ stored z) (pos (moved C))
    moved-held =
        plus (natural s.moved C.k C.moved (omega (arith, moved_bound C))) (natural z (close C) e (omega (arith, moved_bound C)))
        (omega (arith, moved_bound C))

    pub worked-now : {work : List ℤ} → work ≡ worked now s K.f K.c K.default → Worked K work (pushed s (stored (stored s.moved +ℤ stored z)))
    worked-now e = record { now = now; stand = s; contour = C; worked-on = e; moved_to = moved-held.read; pushed_to = refl }
