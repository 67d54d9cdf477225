-- Positions in level order: the number, place and level of each, what holds at the first p, and lists written by number. Assumes nothing.
use mathlib.Core.Path.{◌≡◌, sym, ap, ◌∙◌, subst}
use mathlib.Core.Logic.{⊎_elim}
use mathlib.Core.List.{List, map}
use Prim.Native.Nat.{ℕ, ◌+◌, ◌≤◌, ◌<◌}
use native.Mathlib.Omega.{arith}
use borrow.Author.Count.{below_more}
use lib.IntN.{ℤ}
use lib.ListN.{length, get_or, set, length-set}
use lib.Seq.{get_or-set_same, get_or-set_other}
use Rattle.rule.specs.Join.{Spacing}
use Rattle.tree.specs.Numbers.{up_to}
use Rattle.tree.specs.Table.{nodes}
use Rattle.tree.specs.Forest.{tree_of}
use Rattle.tree.specs.Levels.{level}
use Rattle.tree.specs.WellFormed.{table_number}
use Rattle.tree.proofs.Counting.{is-cases}
use Rattle.tree.proofs.Stands.{accepted-numbers}
use Rattle.rule.specs.Result.{place}
use Rattle.level_order.specs.LevelOrder.{node_at}
use Rattle.level_order.proofs.Order.{node-below, position_of, root-first}
use Rattle.second_walk.proofs.EntryForEach.{told-by-entries}

abbrev pub number_at : List ℕ → ℕ → ℕ
number_at t q = node_at (tree_of t) q

abbrev pub place_at : Spacing → List ℕ → ℕ → ℤ
place_at D t q = place D t (number_at t q)

abbrev pub level_at : List ℕ → ℕ → ℕ
level_at t q = level t (number_at t q)

-- what holds at each position holds of each number
pub each_number : (t : List ℕ) → table_number t ≡ 0 → (P : ℕ → Type 0) → ((q : ℕ) → q < nodes t → P (number_at t q)) → (v : ℕ) → v < nodes t → P v
each_number t accepted P h v k =
    let r = position_of t accepted v k in
    subst P r.2 (h r.0 r.1)

-- ---- a list that holds f v at the number v of each of the first p positions

pub record ByNumber {A : Type 0} (t : List ℕ) (f : ℕ → A) (d : A) (p : ℕ) (l : List A) : Type 0 where
  pub size : length l ≡ nodes t
  pub entry : (q : ℕ) → q < p → get_or l (number_at t q) d ≡ f (number_at t q)

module _ {A : Type 0} {t : List ℕ} {f : ℕ → A} {d : A} (accepted : table_number t ≡ 0) where
  pub by-number-next : {p : ℕ} {l l' : List A} {z : A} → ByNumber t f d p l → p < nodes t → l' ≡ set l (number_at t p) z → z ≡ f (number_at t p)
      → ByNumber t f d (p + 1) l'
  by-number-next {p} {l} {l'} {z} B h e g =
      record {
        size = ap length e ∙ length-set l v z ∙ B.size;
        entry = below_more (λ q. get_or l' (number_at t q) d ≡ f (number_at t q)) p (λ q k. rw e (elsewhere (number_at t q) (B.entry q k))) (rw e here);
      }
    where
      v : ℕ
      v = number_at t p

      here : get_or (set l v z) v d ≡ f v
      here = get_or-set_same l v z d (omega (arith, node-below t accepted p h, B.size)) ∙ g

      elsewhere : (u : ℕ) → get_or l u d ≡ f u → get_or (set l v z) u d ≡ f u
      elsewhere u k =
          ⊎_elim (λ s. subst (λ (w : ℕ). get_or (set l v z) w d ≡ f w) (sym s.0) here)
          (λ s. get_or-set_other l v u z d s.0 ∙ k)
          (is-cases u v)

  pub by-number-start : (l : List A) {z : A} → length l ≡ nodes t → z ≡ f 0 → ByNumber t f d 1 (set l 0 z)
  by-number-start l {z} e g =
      by-number-next {p = 0} {l = l} (record { size = e; entry = λ q h. absurd (omega arith) }) (accepted-numbers t accepted).some
      (ap (λ (v : ℕ). set l v z) (sym (root-first t accepted))) (g ∙ ap f (sym (root-first t accepted)))

  pub by-number-end : {p : ℕ} {l : List A} → ByNumber t f d p l → nodes t ≤ p → l ≡ map f (up_to (nodes t))
  by-number-end {p} {l} B h =
      told-by-entries f d (nodes t) l B.size (each_number t accepted (λ v. get_or l v d ≡ f v) (λ q k. B.entry q (omega arith)))
