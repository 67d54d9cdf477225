-- The answers of the layout: its number, what a refusal gives, and what an acceptance gives. Assumes nothing.
use mathlib.Core.Path.{◌≡◌, refl, sym, ap, ap₂, ◌∙◌, subst}
use mathlib.Core.Bool.{Bool, false, cond}
use mathlib.Core.List.{List, ◌++◌}
use Prim.Native.Nat.{ℕ, ◌+◌, ◌*◌, ◌^◌, ◌≤◌, ◌<◌}
use native.Mathlib.Omega.{arith}
use lib.IntN.{ℤ, pos}
use lib.Signed.{mag}
use lib.ListN.{length, take, drop, replicate, length-replicate, length-map}
use lib.Seq.{length-take-le}
use Rattle.std.specs.Prelude.{Result, Err}
use Rattle.std.specs.Result.{IsErrAnd}
use Rattle.std.proofs.lemmas.Bool.Decides.{nat_tests}
use Rattle.std.proofs.lemmas.Result.{err_from_is_err_and}
use Rattle.refusal.specs.declared.Refusal.{Refusal}
use Rattle.refusal.specs.First.{first}
use Rattle.refusal.specs.Number.{number}
use Rattle.refusal.proofs.After.{granted-accepted, granted-refused, after-accepted, after-refused, overwrite-split, overwrite-front}
use Rattle.refusal.proofs.Numbers.{number-nonzero}
use Rattle.refusal.proofs.Laws.{first-refused, first-passed, first_past, none_first, first-none}
use Rattle.distance.specs.Needed.{needed, bad_separation, bad_half_widths}
use Rattle.distance.proofs.HalfWidths.{needed-at_most, first-widths, first-narrow}
use Rattle.tree.specs.Numbers.{up_to}
use Rattle.tree.specs.Table.{nodes}
use Rattle.tree.specs.Levels.{level, neighbours}
use Rattle.tree.specs.WellFormed.{table_number}
use Rattle.tree.proofs.Number.{table-refused, table-passed, table_said}
use Rattle.rule.specs.Join.{Spacing, spaced}
use Rattle.rule.specs.Record.{flat}
use Rattle.rule.specs.Result.{Slices, Answer, short_results, short_work, layout_number, place, places_of, levels_of, least_of, greatest_of, LaidOut}
use Rattle.rule.proofs.Flat.{length-flat}
use Rattle.rule.proofs.Promises.{neighbours-count}
use Rattle.rule.proofs.Own.{places_agree}
use Rattle.level_order.specs.Numbered.{Accepted}
use Rattle.layout.specs.declared.Drawn.{Drawn}
use Rattle.layout.specs.Operation.{slices, answer, answer_of, distance_conditions, room_conditions, Taken}
use Rattle.second_walk.specs.SecondWalk.{Settled}
use Rattle.second_walk.proofs.EntryForEach.{length-up_to}
use Rattle.second_walk.proofs.Extreme.{least-small, greatest-small}

-- ---- the tests

module _ (t : List ℕ) (s : Slices) where
  pub room-enough : nodes t ≤ length s.places → nodes t ≤ length s.levels → 2 * nodes t ≤ length s.the_record → 16 * nodes t ≤ length s.work
      → first (room_conditions t s) ≡ 0
  unfolding short_results short_work
  room-enough h i j k = grind (arith, nat_tests)

-- with a good separation the half-widths decide
pub by-widths : (t : List ℕ) (D : ℕ) (hs : List ℕ) → bad_separation D ≡ false → (b : Bool) → bad_half_widths (nodes t) hs ≡ b → first (distance_conditions t D hs) ≡ cond b 17 0
by-widths t D hs good b e = ap₂ (λ (a w : Bool). cond a 6 (cond w 17 0)) good e

-- ---- the number

-- where nothing is wrong with the table, the distances and the slices
module _ (t : List ℕ) (D : ℕ) (hs : List ℕ) (extra : ℕ) (s : Slices) where
  pub nothing-wrong : table_number t ≡ 0 → first (distance_conditions t D hs) ≡ 0 → extra ≤ 1024 → first (room_conditions t s) ≡ 0 → Taken t D hs extra s
  unfolding bad_separation bad_half_widths short_results short_work
  nothing-wrong accepted distances little room =
      record {
        table = accepted;
        some = grind (arith, nat_tests);
        small = grind (arith, nat_tests);
        wide = grind (arith, nat_tests);
        narrow = grind (arith, nat_tests);
        little = little;
        places = grind (arith, nat_tests);
        levels = grind (arith, nat_tests);
        measured = grind (arith, nat_tests);
        work = grind (arith, nat_tests);
      }

module _ (t : List ℕ) (D : ℕ) (hs : List ℕ) (s : Slices) where
  -- the table's conditions decide, or the distances', or the room's
  pub number-table : (k : ℕ) → k ≡ table_number t → (k ≡ 0 → ⊥) → k ≡ layout_number t D hs s
  unfolding layout_number
  number-table k e d = sym (table-refused t (distance_conditions t D hs ++ room_conditions t s) k e d)

  module _ (accepted : table_number t ≡ 0) where
    number-later : layout_number t D hs s ≡ first (distance_conditions t D hs ++ room_conditions t s)
    unfolding layout_number
    number-later = table-passed t (distance_conditions t D hs ++ room_conditions t s) accepted

    pub number-distance : (k : ℕ) → k ≡ first (distance_conditions t D hs) → (k ≡ 0 → ⊥) → k ≡ layout_number t D hs s
    number-distance k e d = e ∙ sym (number-later ∙ first-refused (distance_conditions t D hs) (room_conditions t s) (λ z. d (e ∙ z)))

    pub number-room : first (distance_conditions t D hs) ≡ 0 → first (room_conditions t s) ≡ layout_number t D hs s
    number-room e = sym (number-later ∙ first-passed (distance_conditions t D hs) (room_conditions t s) (first-none (distance_conditions t D hs) (omega arith) e))

  -- where the number is 0
  pub taken : layout_number t D hs s ≡ 0 → Taken t D hs 0 s
  unfolding layout_number
  taken e =
      let accepted = table_said t (distance_conditions t D hs ++ room_conditions t s) 0 (omega arith) e in
      let h = first_past (distance_conditions t D hs) (room_conditions t s) 0 (omega arith) (sym (number-later accepted) ∙ e) in
      nothing-wrong t D hs 0 s accepted (none_first (distance_conditions t D hs) h.0) (omega arith) h.1

-- ---- the answer

-- there is a place and a level for each node
pub length-places : (N : Spacing) (t : List ℕ) → length (places_of N t) ≡ nodes t
unfolding places_of
length-places N t = length-map (up_to (nodes t)) (place N t) ∙ length-up_to (nodes t)

pub length-levels : (t : List ℕ) → length (levels_of t) ≡ nodes t
unfolding levels_of
length-levels t = length-map (up_to (nodes t)) (level t) ∙ length-up_to (nodes t)

-- the same by another name of the number
pub laid_by : {k j : ℕ} {N : Spacing} {t : List ℕ} {s : Slices} {a : Answer} {u : Slices} → k ≡ j → LaidOut k N t s a u → LaidOut j N t s a u
laid_by {N = N} {t} {s} {a} {u} e = subst (λ (k : ℕ). LaidOut k N t s a u) e

-- a refusal leaves everything as it was
pub laid-refused : (k : ℕ) (N : Spacing) (t : List ℕ) (s : Slices) → (k ≡ 0 → ⊥) → LaidOut k N t s (answer k 0 0 (pos 0) (pos 0) 0) s
laid-refused k N t s d =
    record {
      number = refl;
      nodes = rw granted-refused;
      level_count = rw granted-refused;
      least = rw granted-refused;
      greatest = rw granted-refused;
      pairs = rw granted-refused;
      places = rw after-refused;
      levels = rw after-refused;
      the_record = rw after-refused;
      work = rw after-refused;
    }

-- so does a refusal that is returned, and the exit of a `?`
module _ {k : ℕ} {N : Spacing} {t : List ℕ} {s : Slices} (e : Refusal) (same : number e ≡ k) where
  pub laid-err : LaidOut k N t s (answer_of (Err e)) s
  laid-err = laid_by same (laid-refused (number e) N t s (number-nonzero e))

  pub laid-exit : (r : Result Drawn Refusal) → IsErrAnd r (λ d. d ≡ e) → LaidOut k N t s (answer_of r) s
  laid-exit r h = let exit = err_from_is_err_and r h in rw (exit.1, exit.2) laid-err

module _ {t : List ℕ} {D : ℕ} {hs : List ℕ} {extra : ℕ} {s : Slices} (T : Taken t D hs extra s) where
  -- what is drawn by the half-widths of the nodes alone
  pub first_ones : Accepted t D (take (nodes t) hs)
  first_ones =
      record {
        accepted = T.table;
        high = T.small;
        each = length-take-le (nodes t) hs T.wide;
        narrow = first-narrow hs (nodes t) T.wide T.narrow;
      }

  -- what keeps the nodes apart
  abbrev N : Spacing
  N = spaced (needed D hs) extra

  same-places : places_of (spaced (needed D (take (nodes t) hs)) extra) t ≡ places_of N t
  same-places =
      places_agree t T.table (needed D (take (nodes t) hs)) (needed D hs) extra
      (λ a b h k. ap₂ (λ (x y : ℕ). D + x + y) (first-widths hs (nodes t) a h) (first-widths hs (nodes t) b k))

  -- the extremes are far from the ends of 32 bits
  pub few-needed : (a b : ℕ) → a < nodes t → b < nodes t → needed D hs a b ≤ 1536
  few-needed a b h k = omega (arith, needed-at_most hs D (nodes t) a b h k, T.small, T.narrow)

  pub least_fits : mag (least_of (places_of N t)) < 2 ^ 31
  least_fits = least-small N t T.table few-needed T.little

  pub greatest-fits : mag (greatest_of (places_of N t)) < 2 ^ 31
  greatest-fits = greatest-small N t T.table few-needed T.little

  room : length (flat (neighbours t)) ≤ 2 * nodes t
  room = omega (arith, length-flat (neighbours t), neighbours-count t T.table)

  -- the second walk over the fronts of the slices, and then the front of the working slice cleared
  pub laid-accepted : (ps : List ℤ) (ls rs : List ℕ) (ws ws' cleared : List ℤ) (k : ℕ) (low high : ℤ) (many : ℕ)
      → Settled t (spaced (needed D (take (nodes t) hs)) extra) ps ls (take (2 * nodes t) s.the_record) rs ws ws' k low high many
      → drop (16 * nodes t) ws ≡ drop (16 * nodes t) s.work
      → cleared ≡ replicate (16 * nodes t) (pos 0)
      → LaidOut 0 N t s (answer 0 (nodes t) k low high many)
      (slices (ps ++ drop (nodes t) s.places) (ls ++ drop (nodes t) s.levels) (rs ++ drop (2 * nodes t) s.the_record) (cleared ++ drop (16 * nodes t) ws'))
  laid-accepted ps ls rs ws ws' cleared k low high many S e f =
      record {
        number = refl;
        nodes = rw granted-accepted;
        level_count = rw granted-accepted S.level_count;
        least = rw granted-accepted (S.least ∙ ap least_of same-places);
        greatest = rw granted-accepted (S.greatest ∙ ap greatest_of same-places);
        pairs = rw granted-accepted S.pairs;
        places = rw (S.places, same-places, after-accepted, overwrite-split (nodes t) (places_of N t) s.places (length-places N t));
        levels = rw (S.levels, after-accepted, overwrite-split (nodes t) (levels_of t) s.levels (length-levels t));
        the_record = rw (S.measured, after-accepted) (overwrite-front (2 * nodes t) (flat (neighbours t)) s.the_record room T.measured);
        work = rw (f, S.rest, e, after-accepted, overwrite-split (16 * nodes t) (replicate (16 * nodes t) (pos 0)) s.work (length-replicate (16 * nodes t) (pos 0)));
      }
