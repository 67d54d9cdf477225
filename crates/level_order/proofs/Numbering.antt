-- One turn of the numbering: position p is taken, its children are queued, and p is settled. Assumes nothing.
use mathlib.Core.Path.{◌≡◌, refl, sym, ap, ◌∙◌, subst}
use mathlib.Core.Logic.{⊎_elim}
use mathlib.Core.List.{List}
use Prim.Native.Nat.{ℕ, suc, ◌+◌, ◌-◌, ◌*◌, ◌≤◌, ◌<◌}
use native.Mathlib.Omega.{arith}
use borrow.Author.Count.{below_more}
use lib.IntN.{ℤ, pos}
use lib.ListN.{length, drop}
use Rattle.tree.specs.Forest.{Forest, size, roots, entry, children}
use Rattle.tree.proofs.Counting.{below_or_not}
use Rattle.level_order.specs.LevelOrder.{waiting, node_at, first_at}
use Rattle.level_order.specs.Fields.{get, NODE, FIRST, COUNT, PARENT, NEED, ANCESTOR, SHIFT, CHANGE}
use Rattle.level_order.specs.Appending.{queued, appended, settled}
use Rattle.level_order.proofs.Waiting.{root_count}
use Rattle.level_order.proofs.FirstAt.{first_at-suc, first_at-past}
use Rattle.level_order.proofs.Positions.{within}
use Rattle.level_order.proofs.InOrder.{forest-ordered}
use Rattle.level_order.proofs.InQueue.{child-at}
use Rattle.level_order.proofs.Queued.{queued-length, queued-rest, queued-node, appended-length, appended-rest, appended-before, appended-at}
use Rattle.level_order.proofs.Settled.{settled-length, settled-rest, settled-position, settled-node, settled-parent, settled-first, settled-count, settled-need, settled-ancestor, settled-gathered}

-- q's parent is at an earlier position, whose children stand around q
abbrev pub ParentAt : Forest → List ℤ → ℕ → Type 0
ParentAt f work q = (r : ℕ) × (r < q) × (first_at f r ≤ q) × (q < first_at f (suc r)) × (get work PARENT q ≡ pos r)

-- the positions below p are done, each with what `need` says, and the nodes up to position `tail` are queued
pub record Numbering (f : Forest) (need : ℕ → ℕ) (n : ℕ) (before work : List ℤ) (p tail : ℕ) : Type 0 where
  pub size : length work ≡ length before
  pub rest : drop (16 * n) work ≡ drop (16 * n) before
  pub within : p ≤ n
  pub place : tail ≡ first_at f p
  pub node : (q : ℕ) → q < tail → get work NODE q ≡ pos (node_at f q)
  pub parent : (q : ℕ) → 0 < q → q < tail → ParentAt f work q
  pub first : (q : ℕ) → q < p → get work FIRST q ≡ pos (first_at f q)
  pub count : (q : ℕ) → q < p → get work COUNT q ≡ pos (first_at f (suc q) - first_at f q)
  pub needs : (q : ℕ) → q < p → get work NEED q ≡ pos (need q)
  pub ancestor : (q : ℕ) → q < p → get work ANCESTOR q ≡ pos q
  pub gathered : (g q : ℕ) → SHIFT ≤ g → g ≤ CHANGE → q < p → get work g q ≡ pos 0

-- a number below the next is below, or equal
split : (P : ℕ → Type 0) (p : ℕ) → ((q : ℕ) → q < p → P q) → P p → (q : ℕ) → q < suc p → P q
split P p h e q k = below_more P p h e q (omega arith)

-- a number below a sum is below the first part, or the first part and a number below the second
split-sum : (P : ℕ → Type 0) (a b : ℕ) → ((q : ℕ) → q < a → P q) → ((i : ℕ) → i < b → P (a + i)) → (q : ℕ) → q < a + b → P q
split-sum P a b h e q k =
    ⊎_elim (λ c. h q c.0)
    (λ c.
    let same : a + (q - a) ≡ q = omega (arith, c.0) in
    subst P same (e (q - a) (omega (arith, c.0, k))))
    (below_or_not q a)

-- ---- the root

module _ (f : Forest) (need : ℕ → ℕ) (n : ℕ) (before start : List ℤ) (queue : start ≡ queued before 0 0 0) (room : 16 * n ≤ length before) (some : 0 < n) where
  pub start-size : length start ≡ length before
  start-size = ap length queue ∙ queued-length before 0 0 0

  pub start-rest : drop (16 * n) start ≡ drop (16 * n) before
  start-rest = ap (drop (16 * n)) queue ∙ queued-rest before 0 0 0 n some

  pub number-start : entry f ≡ 0 → root_count f ≡ 1 → Numbering f need n start start 0 1
  number-start root one =
      record {
        size = refl;
        rest = refl;
        within = omega arith;
        place = omega arith;
        node = split (λ q. get start NODE q ≡ pos (node_at f q)) 0 (λ q h. absurd (omega arith))
            (ap (λ (w : List ℤ). get w NODE 0) queue ∙ queued-node before 0 0 0 (omega arith) ∙ ap pos (sym root));
        parent = λ q h k. absurd (omega arith);
        first = λ q h. absurd (omega arith);
        count = λ q h. absurd (omega arith);
        needs = λ q h. absurd (omega arith);
        ancestor = λ q h. absurd (omega arith);
        gathered = λ g q l r h. absurd (omega arith);
      }

-- ---- a turn

module _ (f : Forest) (need : ℕ → ℕ) (before work : List ℤ) (p tail : ℕ) (N : Numbering f need (size f) before work p tail)
    (room : 16 * size f ≤ length before) (more : p < size f) where
  abbrev pub row : List ℕ
  row = roots (children (waiting p f))

  abbrev pub work₁ : List ℤ
  work₁ = appended work p tail row

  abbrev pub work₂ : List ℤ
  work₂ = settled work₁ p tail (length row) (need p)

  next : first_at f (suc p) ≡ tail + length row
  next = first_at-suc f p more ∙ ap (λ (k : ℕ). k + length row) (sym N.place)

  pub past : p < tail
  past = omega (arith, N.place, first_at-past f p more)

  -- the children fit
  pub turn_room : tail + length row ≤ size f
  turn_room = omega (arith, next, within (first_at f) (size f) (forest-ordered f) (suc p) more)

  room₁ : 16 * (tail + length row) ≤ length work
  room₁ = omega (arith, turn_room, N.size, room)

  room₂ : 16 * (p + 1) ≤ length work₁
  room₂ = omega (arith, appended-length work p tail row, N.size, room, more)

  -- a position before p keeps its fields
  kept : (other q : ℕ) → other < 16 → q < p → get work₂ other q ≡ get work other q
  kept other q h k =
      settled-position work₁ p tail (length row) (need p) other q h (λ e. omega arith)
      ∙ appended-before work p tail row other q h (omega (arith, past))

  -- the queue keeps its nodes
  node_kept : (q : ℕ) → q < tail → get work₂ NODE q ≡ get work NODE q
  node_kept q h = settled-node work₁ p tail (length row) (need p) q ∙ appended-before work p tail row NODE q (omega arith) h

  parent-kept : (q : ℕ) → q < tail → get work₂ PARENT q ≡ get work PARENT q
  parent-kept q h = settled-parent work₁ p tail (length row) (need p) q ∙ appended-before work p tail row PARENT q (omega arith) h

  -- and has the children at its end
  node-new : (i : ℕ) → i < length row → get work₂ NODE (tail + i) ≡ pos (node_at f (tail + i))
  node-new i h =
      settled-node work₁ p tail (length row) (need p) (tail + i)
      ∙ (appended-at work p tail row room₁ i h).0
      ∙ ap pos (sym (ap (λ (k : ℕ). node_at f (k + i)) N.place ∙ child-at f p i 0 more h))

  parent-new : (i : ℕ) → i < length row → ParentAt f work₂ (tail + i)
  parent-new i h = (
    p,
    omega (arith, past),
    omega (arith, N.place),
    omega (arith, next, h),
    settled-parent work₁ p tail (length row) (need p) (tail + i) ∙ (appended-at work p tail row room₁ i h).1,
  )

  parent-old : (q : ℕ) → 0 < q → q < tail → ParentAt f work₂ q
  parent-old q h k =
      let P = N.parent q h k in
      (P.0, P.1, P.2, P.3, parent-kept q k ∙ P.4)

  pub number_turn : Numbering f need (size f) before work₂ (suc p) (tail + length row)
  number_turn =
      record {
        size = settled-length work₁ p tail (length row) (need p) ∙ appended-length work p tail row ∙ N.size;
        rest = settled-rest work₁ p tail (length row) (need p) (size f) more ∙ appended-rest work p tail row (size f) turn_room ∙ N.rest;
        within = more;
        place = sym next;
        node = split-sum (λ q. get work₂ NODE q ≡ pos (node_at f q)) tail (length row) (λ q h. node_kept q h ∙ N.node q h) node-new;
        parent = λ q h k. split-sum (λ q. 0 < q → ParentAt f work₂ q) tail (length row) (λ q k h. parent-old q h k) (λ i k h. parent-new i k) q k h;
        first = split (λ q. get work₂ FIRST q ≡ pos (first_at f q)) p (λ q h. kept FIRST q (omega arith) h ∙ N.first q h)
            (settled-first work₁ p tail (length row) (need p) room₂ ∙ ap pos N.place);
        count = split (λ q. get work₂ COUNT q ≡ pos (first_at f (suc q) - first_at f q)) p (λ q h. kept COUNT q (omega arith) h ∙ N.count q h)
            (settled-count work₁ p tail (length row) (need p) room₂ ∙ ap pos counted);
        needs = split (λ q. get work₂ NEED q ≡ pos (need q)) p (λ q h. kept NEED q (omega arith) h ∙ N.needs q h)
            (settled-need work₁ p tail (length row) (need p) room₂);
        ancestor = split (λ q. get work₂ ANCESTOR q ≡ pos q) p (λ q h. kept ANCESTOR q (omega arith) h ∙ N.ancestor q h)
            (settled-ancestor work₁ p tail (length row) (need p) room₂);
        gathered = λ g q l r. split (λ q. get work₂ g q ≡ pos 0) p (λ q h. kept g q (omega arith) h ∙ N.gathered g q l r h)
            (settled-gathered work₁ p tail (length row) (need p) room₂ g l r) q;
      }
    where
      counted : length row ≡ first_at f (suc p) - first_at f p
      counted = omega (arith, next, N.place)
