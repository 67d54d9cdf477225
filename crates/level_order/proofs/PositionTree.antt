-- The tree of positions, with each position's node for the position, is the tree itself. Assumes nothing.
use mathlib.Core.Path.{◌≡◌, refl, sym, ap, ◌∙◌}
use Prim.Native.Nat.{ℕ, zero, suc, ◌+◌, ◌<◌}
use native.Mathlib.Omega.{arith}
use lib.ListN.{length}
use Rattle.tree.specs.Forest.{Forest, nil, node, join, roots, size, children, siblings}
use Rattle.level_order.specs.LevelOrder.{waiting, node_at, first_at, position_tree}
use Rattle.level_order.proofs.Waiting.{root_count, waiting_none, waiting-node, waiting-next}
use Rattle.level_order.proofs.FirstAt.{first_at-others, first_at-end}
use Rattle.level_order.proofs.Positions.{Ordered, within, run, family, run-node, run-nil, run-next, run-roots}
use Rattle.level_order.proofs.InOrder.{forest-ordered}
use Rattle.tree.proofs.Rename.{rename, rename-join, rename-roots}

-- two rows that are joined can be told apart
joined-apart : (f g h k : Forest) → length (roots f) ≡ length (roots h) → join f g ≡ join h k → (f ≡ h) × (g ≡ k)
joined-apart nil g nil k l e = (refl, e)
joined-apart nil g (node w a b) k l e = absurd (omega arith)
joined-apart (node v a b) g nil k l e = absurd (omega arith)
joined-apart (node v a b) g (node w c d) k l e =
    let number : v ≡ w = cc in
    let under : a ≡ c = cc in
    let rest : join b g ≡ join d k = cc in
    let r = joined-apart b g d k (omega arith) rest in
    let here : b ≡ d = r.0 in
    (cc, r.1)

module _ (f : Forest) where
  abbrev n : ℕ
  n = size f

  abbrev first : ℕ → ℕ
  first = first_at f

  abbrev g : ℕ → ℕ
  g = node_at f

  O : Ordered first n
  O = forest-ordered f

  -- position p with its children and the others of the queue, where what waits next is known
  met : (p : ℕ) → p < n → rename g (run first n (suc p) (first (suc p))) ≡ waiting (suc p) f
      → rename g (node p (family first n p) (run first n (suc p) (first p))) ≡ waiting p f
  met p h then = both ∙ sym (waiting-node p f h)
    where
      others : Forest
      others = run first n (suc p) (first p)

      below : Forest
      below = family first n p

      joined : join (rename g others) (rename g below) ≡ join (siblings (waiting p f)) (children (waiting p f))
      joined = sym (rename-join g others below) ∙ ap (rename g) (sym (run-next first n O p h)) ∙ then ∙ waiting-next p f h

      as_many : root_count (rename g others) ≡ root_count (siblings (waiting p f))
      as_many =
          let later : first p ≡ suc p + root_count (siblings (waiting p f)) = omega (arith, first_at-others f p h) in
          rename-roots g others
          ∙ run-roots first n O (root_count (siblings (waiting p f))) (suc p) (first p) later (within first n O p (omega arith))

      both : node (g p) (rename g below) (rename g others) ≡ node (g p) (children (waiting p f)) (siblings (waiting p f))
      both =
          let r = joined-apart (rename g others) (rename g below) (siblings (waiting p f)) (children (waiting p f)) as_many joined in
          let r₀ : rename g others ≡ siblings (waiting p f) = r.0 in
          let r₁ : rename g below ≡ children (waiting p f) = r.1 in
          cc

  -- the positions from p on that wait, each with its node, are the nodes that wait
  waiting-positions : (m p : ℕ) → m + p ≡ n → rename g (run first n p (first p)) ≡ waiting p f
  waiting-positions zero p e =
      ap (rename g) (run-nil first n O p (first p) (omega (arith, first_at-end f p (omega arith)))) ∙ sym (waiting_none p f (omega arith))
  waiting-positions (suc m) p e =
      let inside : p < n = omega arith in
      ap (rename g) (run-node first n O p (first p) (O.later p inside) (within first n O p (omega arith)))
      ∙ met p inside (waiting-positions m (suc p) (omega arith))

  -- for a tree: its tree of positions, renamed
  pub position_tree_lem : length (roots f) ≡ 1 → rename (node_at f) (position_tree f (size f)) ≡ f
  position_tree_lem one =
      let e : 1 ≡ first_at f 0 = sym one ∙ omega arith in
      ap (λ (b : ℕ). rename (node_at f) (run first n 0 b)) e ∙ waiting-positions n 0 (omega arith)
