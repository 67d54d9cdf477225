-- `tree::judge::judge` meets its contract: each test decides one condition, in the order of the numbers. Assumes nothing.
use mathlib.Core.Path.{◌≡◌, refl, sym, ap, ◌∙◌}
use mathlib.Core.Logic.{inl, inr, ⊎_elim}
use mathlib.Core.Bool.{Bool, false, true}
use mathlib.Core.List.{List, ◌++◌}
use Prim.Native.Nat.{ℕ, suc}
use native.Mathlib.Omega.{arith}
use lib.ListN.{length, take, get_or}
use lib.Seq.{length-take-le, take_at, take_all}
use Rattle.tree.specs.Table.{none, nodes, next_sibling}
use Rattle.tree.specs.Forest.{tree_of, preorder}
use Rattle.tree.specs.WellFormed.{bad_length, root_has_sibling, Passed, table_number}
use Rattle.tree.specs.Steps.{Room, Scanned, Visited, Judged}
use Rattle.refusal.proofs.Truth.{true-or-false}
use Rattle.tree.proofs.Scan.{get_d_any}
use Rattle.tree.proofs.Linked.{tree-size}
use Rattle.tree.proofs.Accepted.{good_length, length-good, alone-root, root-alone, linked}
use Rattle.tree.proofs.Number.{length-bad, number_1, number_2, number_3, number_4, number_5, number_14, number_0}
use Rattle.tree.proofs.judge.judge.Goals as goal

-- past the tests of the length
second-read : (t : List ℕ) → bad_length t ≡ false → get_or t 1 0 ≡ next_sibling t 0
second-read t good = get_d_any t 1 0 none (omega (arith, good_length t good))

-- a refusal promises nothing of the order
refused : (t : List ℕ) (k : ℕ) (order : List ℕ) → table_number t ≡ suc k → Judged t (suc k) order
refused t k order e = record { number = sym e; order = λ z. absurd (omega arith) }

-- past the test of the names that are repeated
passed : (t : List ℕ) (repeated missing : Bool) → bad_length t ≡ false → Scanned t false repeated missing → get_or t 1 0 ≡ none → repeated ≡ false
    → Passed t
passed t repeated missing good scanned root apart =
    record {
      size = good;
      entries = sym scanned.bad;
      root = alone-root t (sym (second-read t good) ∙ root);
      named = sym (scanned.repeated refl) ∙ apart;
    }

-- the part of the order that is lent has as many entries as there are nodes
room : (t order : List ℕ) → Room t order → bad_length t ≡ false → length (take (nodes t) order) ≡ nodes t
room t order r good = length-take-le (nodes t) order (r.enough good)

-- what was visited stands at the front of the whole list
in-front : (t seen rest : List ℕ) (n r : ℕ) → Visited t r seen → r ≡ n → length seen ≡ n → take n (seen ++ rest) ≡ preorder (tree_of t)
in-front t seen rest n r v e l = take_at seen rest n l ∙ sym (take_all n seen (omega arith)) ∙ ap (λ (k : ℕ). take k seen) (sym e) ∙ v.order

pub returns-then-entries-eq1 : goal.returns-then-entries-eq1
returns-then-entries-eq1 c =
    refused c.args.table.now 0 _
    (number_1 c.args.table.now (length-bad c.args.table.now (⊎_elim inl (⊎_elim (λ w. inr (inl w.1)) (λ w. inr (inr w.2))) c.then-entries-eq1.either)))

pub scan_marked-requires : goal.scan_marked-requires
scan_marked-requires c = length-good c.args.table.now (omega arith, omega arith, omega arith)

pub returns-in_default : goal.returns-in_default
returns-in_default c =
    let t = c.args.table.now in
    refused t 1 _ (number_2 t (length-good t (omega arith, omega arith, omega arith)) (sym c.in_default.ensures.bad))

pub returns-then-table : goal.returns-then-table
returns-then-table c =
    let t = c.args.table.now in
    let good : bad_length t ≡ false = length-good t (omega arith, omega arith, omega arith) in
    let root : root_has_sibling t ≡ true =
    ⊎_elim (λ e. e) (λ e. absurd (c.if-table.true (second-read t good ∙ root-alone t e))) (true-or-false (root_has_sibling t)) in
    refused t 2 _ (number_3 t good (sym c.in-Some.ensures.bad) root)

pub returns-then-names : goal.returns-then-names
returns-then-names c =
    let t = c.args.table.now in
    let good : bad_length t ≡ false = length-good t (omega arith, omega arith, omega arith) in
    refused t 3 _ (number_4 t good (sym c.in-Some.ensures.bad) (alone-root t (sym (second-read t good) ∙ c.if-table.false))
    (sym (c.in-Some.ensures.repeated refl) ∙ c.if-names.true))

pub returns-then-names-2 : goal.returns-then-names-2
returns-then-names-2 c =
    let t = c.args.table.now in
    let good : bad_length t ≡ false = length-good t (omega arith, omega arith, omega arith) in
    refused t 4 _ (number_5 t (passed t _ _ good c.in-Some.ensures c.if-table.false c.if-names.false)
    (sym (c.in-Some.ensures.missing refl c.if-names.false) ∙ c.if-names-2.true))

pub slice_bounds-preorder-end : goal.slice_bounds-preorder-end
slice_bounds-preorder-end c = c.requires.enough (length-good c.args.table.now (omega arith, omega arith, omega arith))

pub slice_bounds-preorder-end-2 : goal.slice_bounds-preorder-end-2
slice_bounds-preorder-end-2 c = sym (room _ _ c.requires (length-good c.args.table.now (omega arith, omega arith, omega arith)))

pub preorder-reached-requires : goal.preorder-reached-requires
preorder-reached-requires c =
    let t = c.args.table.now in
    let good : bad_length t ≡ false = length-good t (omega arith, omega arith, omega arith) in
    record {
      passed = passed t _ _ good c.in-Some.ensures c.if-table.false c.if-names.false;
      order_len = room _ _ c.requires good;
    }

pub returns-then-reached-n : goal.returns-then-reached-n
returns-then-reached-n c =
    let t = c.args.table.now in
    let good : bad_length t ≡ false = length-good t (omega arith, omega arith, omega arith) in
    let fits : Passed t = passed t _ _ good c.in-Some.ensures c.if-table.false c.if-names.false in
    refused t 13 _ (number_14 t fits (sym (c.in-Some.ensures.missing refl c.if-names.false) ∙ c.if-names-2.false)
    (omega (arith, c.preorder-reached.ensures.reached)))

pub returns : goal.returns
returns c =
    let t = c.args.table.now in
    let good : bad_length t ≡ false = length-good t (omega arith, omega arith, omega arith) in
    let fits : Passed t = passed t _ _ good c.in-Some.ensures c.if-table.false c.if-names.false in
    let v = c.preorder-reached.ensures in
    let all : c.preorder-reached.result ≡ nodes t = omega (arith, tree-size t (linked t fits), v.reached, c.if-reached-n.false) in
    record {
      number = sym (number_0 t fits (sym (c.in-Some.ensures.missing refl c.if-names.false) ∙ c.if-names-2.false) (sym v.reached ∙ all));
      order = λ e. in-front t c.preorder-reached.new.order _ (nodes t) c.preorder-reached.result v all
          (c.preorder-reached.auto.order ∙ room _ _ c.requires good);
    }
