-- The second walk, position by position: what holds before position p, after one turn, and at the end. Assumes nothing.
use mathlib.Core.Path.{◌≡◌, refl, sym, ap, ◌∙◌}
use mathlib.Core.List.{List}
use Prim.Native.Nat.{ℕ, ◌+◌, ◌-◌, ◌≤◌, ◌<◌}
use native.Mathlib.Numerals.{add-one}
use native.Mathlib.Omega.{arith}
use lib.IntN.{ℤ, pos}
use lib.ListN.{length, set}
use Rattle.std.specs.Int.{int_min, int_max}
use Rattle.rule.specs.Join.{Spacing}
use Rattle.tree.specs.Table.{nodes}
use Rattle.tree.specs.Levels
use Rattle.tree.specs.WellFormed.{table_number}
use Rattle.tree.proofs.LevelOf.{root-level}
use Rattle.tree.proofs.Stands.{accepted-numbers}
use Rattle.rule.specs.Result
use Rattle.rule.specs.Result.{places_of, levels_of}
use Rattle.rule.proofs.Signed.{AtMost}
use Rattle.rule.proofs.Extremes.{root-place}
use Rattle.level_order.specs.Fields.{get, put, PARENT, PLACE, LEVEL}
use Rattle.level_order.proofs.Order.{node-below}
use Rattle.level_order.proofs.Beside.{last-count}
use Rattle.second_walk.specs.SecondWalk.{Ready, descended, Seen, Writes, Written, Pairs, Paired, Lengths, Settled}
use Rattle.second_walk.proofs.Positions.{number_at, place_at, level_at, ByNumber, by-number-start, by-number-next, by-number-end}
use Rattle.second_walk.proofs.Extreme.{AtLeast, Extreme, extreme_start, least-next, greatest-next, least-end, greatest-end}
use Rattle.second_walk.proofs.Recorded.{Recorded, recorded-start, recorded-few, recorded-room, recorded-next, recorded-count, recorded-end}
use Rattle.second_walk.proofs.Descending.{Descending, descending-start, rest-start, seen, descending-next}

-- the slices before and now, the extremes so far, and how many pairs and positions have been met
pub record Settling (t : List ℕ) (D : Spacing) (rs₀ : List ℕ) (ws₀ ps : List ℤ) (ls rs : List ℕ) (ws : List ℤ) (low high : ℤ) (pairs p : ℕ) : Type 0 where
  pub some : 1 ≤ p
  pub work : Descending D t ws₀ ws p
  pub places : ByNumber t (Result.place D t) (pos 0) p ps
  pub levels : ByNumber t (Levels.level t) 0 p ls
  pub least : Extreme AtMost D t p low
  pub greatest : Extreme AtLeast D t p high
  pub measured : Recorded t rs₀ p pairs rs

pub settle-start : {t : List ℕ} {D : Spacing} {ps : List ℤ} {ls rs : List ℕ} {ws ws' : List ℤ} → table_number t ≡ 0 → ((a b : ℕ) → D.need a b ≤ 1536) → D.extra ≤ 1024 → Lengths t ps ls rs → Ready D t ws
    → ws' ≡ put ws LEVEL 0 (pos 0) → Settling t D rs ws' (set ps 0 (pos 0)) (set ls 0 0) rs ws' (pos 0) (pos 0) 0 1
settle-start {t} {D} {ps} {ls} {rs} accepted small little M R e =
    record {
      some = omega arith;
      work = descending-start accepted small little R e;
      places = by-number-start accepted ps M.places (sym (root-place D t accepted));
      levels = by-number-start accepted ls M.levels (sym (root-level t accepted));
      least = extreme_start accepted (omega arith);
      greatest = extreme_start accepted (omega arith);
      measured = recorded-start t rs M.measured;
    }

module _ {t : List ℕ} {D : Spacing} {rs₀ : List ℕ} {ws₀ ps : List ℤ} {ls rs : List ℕ} {ws : List ℤ} {low high : ℤ} {pairs p : ℕ}
    (S : Settling t D rs₀ ws₀ ps ls rs ws low high pairs p) where
  abbrev accepted : table_number t ≡ 0
  accepted = S.work.accepted

  -- ---- a turn, which descends to position p

  module _ (h : p < nodes t) {ws' : List ℤ} (gives : (q : ℕ) → get ws PARENT p ≡ pos q → ws' ≡ descended ws p q) where
    next : Descending D t ws₀ ws' (p + 1)
    next = descending-next S.work h gives

    pub seen_here : Seen ws' p (number_at t p) (level_at t p)
    seen_here = seen next p (omega arith)

    seen-before : Seen ws' (p - 1) (number_at t (p - 1)) (level_at t (p - 1))
    seen-before = seen next (p - 1) (omega arith)

    pub writes : Writes ws' p ps ls
    writes =
        record {
          number = number_at t p;
          depth = level_at t p;
          seen = seen_here;
          place_inside = omega (arith, node-below t accepted p h, S.places.size);
          level-inside = omega (arith, node-below t accepted p h, S.levels.size);
        }

    pub pairs_with : Pairs ws' (p - 1) p rs pairs
    pairs_with =
        record {
          left_number = number_at t (p - 1);
          left_depth = level_at t (p - 1);
          left_seen = seen-before;
          right_number = number_at t p;
          right_depth = level_at t p;
          right_seen = seen_here;
          few = omega (arith, recorded-few accepted S.measured S.some S.work.within, (accepted-numbers t accepted).few);
          inside = recorded-room accepted S.measured S.some h;
        }

    pub settle-next : {ps' : List ℤ} {ls' rs' : List ℕ} {z low' high' : ℤ} {pairs' : ℕ} → Written ws' p ps ls ps' ls'
        → z ≡ get ws' PLACE p → low' ≡ int_min low z → high' ≡ int_max high z
        → Paired ws' (p - 1) p rs pairs pairs' rs' → length rs' ≡ length rs → Settling t D rs₀ ws₀ ps' ls' rs' ws' low' high' pairs' (p + 1)
    settle-next W read least greatest P size =
        record {
          some = omega arith;
          work = next;
          places = by-number-next accepted S.places h (W.places _ _ seen_here) here;
          levels = by-number-next accepted S.levels h (W.levels _ _ seen_here) refl;
          least = least-next accepted S.least h (least ∙ ap (int_min low) (read ∙ here));
          greatest = greatest-next accepted S.greatest h (greatest ∙ ap (int_max high) (read ∙ here));
          measured = recorded-next accepted S.measured S.some h (P.count _ _ _ _ seen-before seen_here) (P.written _ _ _ _ seen-before seen_here) size;
        }
      where
        here : get ws' PLACE p ≡ place_at D t p
        here = (next.stands p (omega arith)).place

  -- ---- the end

  pub last-seen : nodes t ≤ p → Seen ws (nodes t - 1) (number_at t (nodes t - 1)) (level_at t (nodes t - 1))
  last-seen done = seen S.work (nodes t - 1) (omega (arith, (accepted-numbers t accepted).some))

  pub settle-few : pairs < 1024
  settle-few = omega (arith, recorded-few accepted S.measured S.some S.work.within, S.work.within, (accepted-numbers t accepted).few)

  pub settle-end : nodes t ≤ p → {ws₁ : List ℤ} {k : ℕ} → Ready D t ws₁ → ws₀ ≡ put ws₁ LEVEL 0 (pos 0) → k ≡ level_at t (nodes t - 1) + 1
      → Settled t D ps ls rs₀ rs ws₁ ws k low high pairs
  unfolding places_of levels_of
  settle-end done R e f =
      record {
        places = by-number-end accepted S.places done;
        levels = by-number-end accepted S.levels done;
        measured = recorded-end accepted S.measured S.some done;
        rest = S.work.rest ∙ rest-start accepted S.work.small S.work.little R e;
        level_count = f ∙ add-one (level_at t (nodes t - 1)) ∙ last-count t accepted (nodes t - 1) (omega (arith, (accepted-numbers t accepted).some));
        least = least-end accepted S.least done;
        greatest = greatest-end accepted S.greatest done;
        pairs = recorded-count accepted S.measured S.some done;
      }
