-- The numbering of an accepted table: where it starts, one turn of it, and what it leaves. Assumes nothing.
use mathlib.Core.Path.{◌≡◌, refl, sym, ap, ap₂, ◌∙◌, subst, subst₂}
use mathlib.Core.List.{List}
use Prim.Native.Nat.{ℕ, zero, suc, ◌+◌, ◌-◌, ◌*◌, ◌≤◌, ◌<◌}
use native.Mathlib.Numerals.{add-one}
use native.Mathlib.Omega.{arith}
use lib.Dec.{T}
use lib.IntN.{ℤ, pos, nat_abs}
use lib.ListN.{length}
use lib.Signed.{non_neg}
use mir.Syntax.{w64}
use mir.Val.{Fits}
use Rattle.distance.specs.Needed.{half_width}
use Rattle.tree.specs.Table.{nodes}
use Rattle.tree.specs.Forest.{Forest, size, roots, children, tree_of}
use Rattle.tree.specs.Levels.{children_of}
use Rattle.tree.specs.WellFormed.{table_number}
use Rattle.tree.proofs.Stands.{one-root, accepted-numbers, accepted-size}
use Rattle.tree.proofs.Followed.{accepted-linked}
use Rattle.tree.proofs.Walked.{Leads, accepted-leads}
use Rattle.level_order.specs.LevelOrder.{waiting, node_at, first_at}
use Rattle.level_order.specs.Fields.{get, NODE}
use Rattle.level_order.specs.Appending.{queued, appended, settled, Appended}
use Rattle.level_order.specs.Numbered.{Accepted, NumberedFrom}
use Rattle.level_order.proofs.Signed32.{stored, unsigned, unsigned-fits}
use Rattle.level_order.proofs.Queued.{queued-length}
use Rattle.level_order.proofs.Waiting.{root_count, waiting-node, waiting-leads, node_at-all}
use Rattle.level_order.proofs.FirstAt.{first_at-suc, first_at-past, first_at-end}
use Rattle.level_order.proofs.Positions.{within}
use Rattle.level_order.proofs.InOrder.{forest-ordered}
use Rattle.level_order.proofs.Numbering.{Numbering, start-size, start-rest, number-start, number_turn}

module _ (t : List ℕ) (separation : ℕ) (hs : List ℕ) where
  abbrev pub half : ℕ → ℕ
  half q = half_width hs (node_at (tree_of t) q)

  -- how far the position before q reaches, and what q needs from it
  abbrev pub reach_of : ℕ → ℕ
  reach_of zero = separation
  reach_of (suc q) = separation + half q

  abbrev pub need : ℕ → ℕ
  need q = reach_of q + half q

module _ (t : List ℕ) (separation : ℕ) (hs : List ℕ) (accepted : table_number t ≡ 0) where
  abbrev pub tree : Forest
  tree = tree_of t

  abbrev needs : ℕ → ℕ
  needs = need t separation hs

  all-nodes : size tree ≡ nodes t
  all-nodes = accepted-size t accepted

  module _ (before start : List ℤ) (queue : start ≡ queued before 0 0 0) (room : 16 * nodes t ≤ length before) where
    pub table-start : Numbering tree needs (nodes t) start start 0 1
    table-start =
        let A = accepted-numbers t accepted in
        number-start tree needs (nodes t) before start queue room A.some A.root (ap root_count (one-root (nodes t) tree A).1)

    -- past the last position
    pub table-end : {work : List ℤ} {p tail : ℕ} → Numbering tree needs (nodes t) start work p tail → nodes t ≤ p → NumberedFrom t separation hs before work
    table-end {work} {p} {tail} N over =
        let A = accepted-numbers t accepted in
        record {
          numbered = record {
            size = omega (arith, long);
            node = λ q h. N.node q (omega (arith, h, all));
            first = λ q h. N.first q (omega (arith, h, over));
            count = λ q h. N.count q (omega (arith, h, over));
            need = λ q h. N.needs (suc q) (omega (arith, h, over));
          };
          parents = record { parent = λ q h k. N.parent q h (omega (arith, k, all)) };
          fresh = record {
            ancestor = λ q h. N.ancestor q (omega (arith, h, over));
            gathered = λ g q l r h. N.gathered g q l r (omega (arith, h, over));
          };
          rest = N.rest ∙ start-rest tree needs (nodes t) before start queue room A.some;
          size = long;
        }
      where
        long : length work ≡ length before
        long = N.size ∙ start-size tree needs (nodes t) before start queue room (accepted-numbers t accepted).some

        all : nodes t ≤ tail
        all = omega (arith, N.place, first_at-end tree p (omega (arith, all-nodes)))

  module _ {start work : List ℤ} {p tail : ℕ} (N : Numbering tree needs (nodes t) start work p tail) (room : 16 * nodes t ≤ length start) (more : p < nodes t) where
    inside : p < size tree
    inside = omega (arith, all-nodes)

    pub table-past : p < tail
    table-past = omega (arith, N.place, first_at-past tree p inside)

    -- the node that is taken
    pub table-node : get work NODE p ≡ pos (node_at tree p)
    table-node = N.node p table-past

    pub node-inside : node_at tree p < nodes t
    node-inside = node_at-all (λ v. v < nodes t) p tree inside (accepted-numbers t accepted).below

    -- its children are those that the table names
    pub node-children : children_of t (node_at tree p) ≡ roots (children (waiting p tree))
    unfolding children_of
    node-children =
        ap roots (subst (Leads t) (waiting-node p tree inside) (waiting-leads t p tree (accepted-leads t accepted))).0

    pub table-room : tail + length (children_of t (node_at tree p)) ≤ nodes t
    table-room = omega (arith, N.place, ap length node-children, first_at-suc tree p inside, within (first_at tree) (size tree) (forest-ordered tree) (suc p) inside, all-nodes)

    pub table_turn : {v end m : ℕ} {work₁ work₂ : List ℤ} → v ≡ node_at tree p → Appended t p v tail work end work₁ → m ≡ needs p
        → work₂ ≡ settled work₁ p tail (end - tail) m → Numbering tree needs (nodes t) start work₂ (p + 1) end
    table_turn {v} {end} {m} {work₁} {work₂} e A r s =
        let row = roots (children (waiting p tree)) in
        let cs : children_of t v ≡ row = ap (children_of t) e ∙ node-children in
        let ends : end ≡ tail + length row = A.end ∙ ap (λ (l : List ℕ). tail + length l) cs in
        let counts : end - tail ≡ length row = omega (arith, ends) in
        let suc-p : suc p ≡ p + 1 = omega arith in
        let first : work₁ ≡ appended work p tail row = A.work ∙ ap (appended work p tail) cs in
        let second : work₂ ≡ settled (appended work p tail row) p tail (length row) (needs p) =
        s ∙ ap₂ (λ (w : List ℤ) (k : ℕ). settled w p tail k m) first counts ∙ ap (settled (appended work p tail row) p tail (length row)) r in
        let N' : Numbering tree needs (size tree) start work p tail = subst (λ (n : ℕ). Numbering tree needs n start work p tail) (sym all-nodes) N in
        let turned = number_turn tree needs start work p tail N' (omega (arith, room, all-nodes)) inside in
        let T₁ : Numbering tree needs (nodes t) start (settled (appended work p tail row) p tail (length row) (needs p)) (suc p) (tail + length row) =
        subst (λ (n : ℕ). Numbering tree needs n start (settled (appended work p tail row) p tail (length row) (needs p)) (suc p) (tail + length row)) all-nodes turned in
        let T₂ : Numbering tree needs (nodes t) start work₂ (suc p) (tail + length row) =
        subst (λ (w : List ℤ). Numbering tree needs (nodes t) start w (suc p) (tail + length row)) (sym second) T₁ in
        subst₂ (λ (q k : ℕ). Numbering tree needs (nodes t) start work₂ q k) suc-p (sym ends) T₂

-- ---- what holds before a turn of the loop, which takes position p

pub record Loop (t : List ℕ) (separation : ℕ) (hs : List ℕ) (before work : List ℤ) (p tail reach : ℕ) : Type 0 where
  pub given : Accepted t separation hs
  pub room : 16 * nodes t ≤ length before
  pub numbering : Numbering (tree_of t) (need t separation hs) (nodes t) before work p tail
  pub reached : reach ≡ reach_of t separation hs p

module _ {t : List ℕ} {separation : ℕ} {hs : List ℕ} (G : Accepted t separation hs) (before : List ℤ) {rooted : List ℤ} (queue : rooted ≡ queued before 0 0 0) where
  pub loop_start : 16 * nodes t ≤ length before → Loop t separation hs rooted rooted 0 1 separation
  loop_start room =
      record {
        given = G;
        room = omega (arith, room, ap length queue, queued-length before 0 0 0);
        numbering = table-start t separation hs G.accepted before rooted queue room;
        reached = refl;
      }

  pub loop_end : {work : List ℤ} {p tail reach : ℕ} → 16 * nodes t ≤ length before → Loop t separation hs rooted work p tail reach → nodes t ≤ p
      → NumberedFrom t separation hs before work
  loop_end room L over = table-end t separation hs G.accepted before rooted queue room L.numbering over

module _ {t : List ℕ} {separation : ℕ} {hs : List ℕ} {before work : List ℤ} {p tail reach : ℕ} (L : Loop t separation hs before work p tail reach) (more : p < nodes t) where
  -- the position's node is read as z: the node's children fit, and so do the numbers
  pub record Taken (z : ℤ) : Type 0 where
    pub few : nodes t ≤ 1024
    pub fits : T (non_neg (stored z)) × Fits w64 (nat_abs (stored z))
    pub named : nat_abs (stored z) ≡ node_at (tree_of t) p
    pub inside : nat_abs (stored z) < nodes t
    pub children : tail + length (children_of t (nat_abs (stored z))) ≤ nodes t
    pub narrow : half_width hs (nat_abs (stored z)) ≤ 256
    pub high : separation ≤ 1024
    pub short : reach ≤ 1280

  pub taken : {z : ℤ} → z ≡ get work NODE p → Taken z
  taken {z} read =
      record {
        few = few;
        fits = unsigned-fits z (node_at (tree_of t) p) node small;
        named = named;
        inside = omega (arith, named, inside);
        children = omega (arith, ap (λ (v : ℕ). length (children_of t v)) named, table-room t separation hs L.given.accepted L.numbering L.room more);
        narrow = L.given.narrow (nat_abs (stored z));
        high = L.given.high;
        short = omega (arith, L.reached, reaches p);
      }
    where
      few : nodes t ≤ 1024
      few = (accepted-linked t L.given.accepted).few

      inside : node_at (tree_of t) p < nodes t
      inside = node-inside t separation hs L.given.accepted L.numbering L.room more

      node : z ≡ pos (node_at (tree_of t) p)
      node = read ∙ table-node t separation hs L.given.accepted L.numbering L.room more

      small : node_at (tree_of t) p < 2147483648
      small = omega (arith, inside, few)

      named : nat_abs (stored z) ≡ node_at (tree_of t) p
      named = unsigned z (node_at (tree_of t) p) node small

      reaches : (q : ℕ) → reach_of t separation hs q ≤ 1280
      reaches zero = omega (arith, L.given.high)
      reaches (suc q) = omega (arith, L.given.high, L.given.narrow (node_at (tree_of t) q))

  -- its children are queued, and it is settled
  pub loop_next : {z : ℤ} {end : ℕ} {work₁ work₂ : List ℤ} → z ≡ get work NODE p → Appended t p (nat_abs (stored z)) tail work end work₁
      → work₂ ≡ settled work₁ p tail (end - tail) (reach + half_width hs (nat_abs (stored z)))
      → Loop t separation hs before work₂ (p + 1) end (separation + half_width hs (nat_abs (stored z)))
  loop_next read A s =
      let K = taken read in
      let here = ap (half_width hs) K.named in
      record {
        given = L.given;
        room = L.room;
        numbering = table_turn t separation hs L.given.accepted L.numbering L.room more K.named A (omega (arith, L.reached, here)) s;
        reached = rw add-one (omega (arith, here));
      }
