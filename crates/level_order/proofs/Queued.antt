-- Nodes put at the end of the queue: they and their parent are read back, and all else is as it was. Assumes nothing.
use mathlib.Core.Path.{◌≡◌, refl, ap, ◌∙◌}
use mathlib.Core.List.{List, [], ◌∷◌}
use Prim.Native.Nat.{ℕ, zero, suc, ◌+◌, ◌*◌, ◌≤◌, ◌<◌}
use native.Mathlib.Nat.{not-suc-le-zero}
use native.Mathlib.Omega.{arith}
use lib.IntN.{ℤ, pos}
use lib.ListN.{length, get_or, drop}
use Rattle.level_order.specs.Fields.{get, put, NODE, PARENT}
use Rattle.level_order.specs.Appending.{queued, appended}
use Rattle.level_order.proofs.Cells.{put-length, put_same, put-field, put-position, put_rest}

-- ---- one node queued

module _ (work : List ℤ) (p tail c : ℕ) where
  pub queued-length : length (queued work p tail c) ≡ length work
  queued-length = put-length (put work NODE tail (pos c)) PARENT tail (pos p) ∙ put-length work NODE tail (pos c)

  pub queued-rest : (n : ℕ) → tail < n → drop (16 * n) (queued work p tail c) ≡ drop (16 * n) work
  queued-rest n h =
      put_rest (put work NODE tail (pos c)) PARENT tail (pos p) (omega arith) n h ∙ put_rest work NODE tail (pos c) (omega arith) n h

  pub queued-position : (other q : ℕ) → other < 16 → (q ≡ tail → ⊥) → get (queued work p tail c) other q ≡ get work other q
  queued-position other q h d =
      put-position (put work NODE tail (pos c)) PARENT tail (pos p) (omega arith) other q h d
      ∙ put-position work NODE tail (pos c) (omega arith) other q h d

  module _ (room : 16 * (tail + 1) ≤ length work) where
    pub queued-node : get (queued work p tail c) NODE tail ≡ pos c
    queued-node =
        put-field (put work NODE tail (pos c)) PARENT tail (pos p) (omega arith) NODE tail (omega arith) (λ e. omega arith)
        ∙ put_same work NODE tail (pos c) (omega arith)

    pub queued-parent : get (queued work p tail c) PARENT tail ≡ pos p
    queued-parent = put_same (put work NODE tail (pos c)) PARENT tail (pos p) (omega (arith, put-length work NODE tail (pos c)))

-- ---- a row of nodes queued

pub appended-length : (work : List ℤ) (p tail : ℕ) (cs : List ℕ) → length (appended work p tail cs) ≡ length work
appended-length work p tail [] = refl
appended-length work p tail (c ∷ cs) = appended-length (queued work p tail c) p (tail + 1) cs ∙ queued-length work p tail c

pub appended-rest : (work : List ℤ) (p tail : ℕ) (cs : List ℕ) (n : ℕ) → tail + length cs ≤ n
    → drop (16 * n) (appended work p tail cs) ≡ drop (16 * n) work
appended-rest work p tail [] n h = refl
appended-rest work p tail (c ∷ cs) n h =
    appended-rest (queued work p tail c) p (tail + 1) cs n (omega arith) ∙ queued-rest work p tail c n (omega arith)

-- the positions before the row
pub appended-before : (work : List ℤ) (p tail : ℕ) (cs : List ℕ) (other q : ℕ) → other < 16 → q < tail
    → get (appended work p tail cs) other q ≡ get work other q
appended-before work p tail [] other q h k = refl
appended-before work p tail (c ∷ cs) other q h k =
    appended-before (queued work p tail c) p (tail + 1) cs other q h (omega arith) ∙ queued-position work p tail c other q h (λ e. omega arith)

-- each node of the row, and its parent
pub appended-at : (work : List ℤ) (p tail : ℕ) (cs : List ℕ) → 16 * (tail + length cs) ≤ length work → (i : ℕ) → i < length cs
    → (get (appended work p tail cs) NODE (tail + i) ≡ pos (get_or cs i 0)) × (get (appended work p tail cs) PARENT (tail + i) ≡ pos p)
appended-at work p tail [] room i h = absurd (not-suc-le-zero h)
appended-at work p tail (c ∷ cs) room zero h = (first NODE (omega arith) ∙ queued-node work p tail c (omega arith), first PARENT (omega arith) ∙ queued-parent work p tail c (omega arith))
  where
    first : (g : ℕ) → g < 16 → get (appended work p tail (c ∷ cs)) g (tail + 0) ≡ get (queued work p tail c) g tail
    first g l =
        let here : tail + 0 ≡ tail = omega arith in
        ap (get (appended work p tail (c ∷ cs)) g) here ∙ appended-before (queued work p tail c) p (tail + 1) cs g tail l (omega arith)
appended-at work p tail (c ∷ cs) room (suc i) h =
    let next : tail + suc i ≡ (tail + 1) + i = omega arith in
    let r = appended-at (queued work p tail c) p (tail + 1) cs (omega (arith, queued-length work p tail c)) i (omega arith) in
    (ap (get (appended work p tail (c ∷ cs)) NODE) next ∙ r.0, ap (get (appended work p tail (c ∷ cs)) PARENT) next ∙ r.1)
