-- The contract of a layout leaves nothing open: for every input the answer and the slices are equal to what a definition gives. Assumes
-- nothing.
use mathlib.Core.Path.{◌≡◌}
use mathlib.Core.List.{List}
use Prim.Native.Nat.{ℕ, ◌*◌}
use lib.IntN.{pos}
use lib.ListN.{length, replicate}
use Rattle.refusal.specs.After.{granted, after}
use Rattle.tree.specs.Table
use Rattle.tree.specs.Levels.{level_count, neighbours}
use Rattle.rule.specs.Join.{Spacing}
use Rattle.rule.specs.Record.{flat}
use Rattle.rule.specs.Result.{Slices, Answer, LaidOut, places_of, levels_of, least_of, greatest_of}

abbrev pub answered : ℕ → Spacing → List ℕ → Answer
answered k spacing t =
    record {
      number = k;
      nodes = granted k (Table.nodes t) 0;
      levels = granted k (level_count t) 0;
      least = granted k (least_of (places_of spacing t)) (pos 0);
      greatest = granted k (greatest_of (places_of spacing t)) (pos 0);
      pairs = granted k (length (neighbours t)) 0;
    }

abbrev pub returned : ℕ → Spacing → List ℕ → Slices → Slices
returned k spacing t s =
    record {
      places = after k (places_of spacing t) s.places;
      levels = after k (levels_of t) s.levels;
      the_record = after k (flat (neighbours t)) s.the_record;
      work = after k (replicate (16 * Table.nodes t) (pos 0)) s.work;
    }

pub fixed : {k : ℕ} {spacing : Spacing} {t : List ℕ} {s : Slices} {a : Answer} {u : Slices} → LaidOut k spacing t s a u
    → (a ≡ answered k spacing t) × (u ≡ returned k spacing t s)
fixed L = (
  (λ i. record {
    number = L.number i;
    nodes = L.nodes i;
    levels = L.level_count i;
    least = L.least i;
    greatest = L.greatest i;
    pairs = L.pairs i;
  }),
  (λ i. record { places = L.places i; levels = L.levels i; the_record = L.the_record i; work = L.work i }),
)
