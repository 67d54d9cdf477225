-- The list of n for every n: it has just the level sequences of n nodes, in order, and no other list does. Assumes nothing.
use mathlib.Core.Path.{◌≡◌, refl, sym, ap, ap₂, ◌∙◌, subst}
use mathlib.Core.Logic.{◌⊎◌, inl, inr, ⊎_elim}
use mathlib.Core.Bool.{Bool, true, false, cond, false≢true}
use mathlib.Core.List.Memᴰ
use mathlib.Core.List.{List, [], ◌∷◌, ◌++◌, map, Memᴰ}
use Prim.Native.Nat.{ℕ, zero, suc, ◌+◌, ◌≤◌, ◌<◌}
use native.Mathlib.Nat.{not-suc-le-zero, le_of_suc-le-suc, eq-or-lt_of_le, suc_inj}
use native.Mathlib.Omega.{arith}
use lib.Dec.{ltb}
use lib.ListN.{length, get_or}
use borrow.Author.Tests.{eq-eqb, ne_eqb, lt-ltb, le-ltb}
use Rattle.tree.specs.Numbers.{run, flat_map}
use Rattle.small_trees.specs.Sequence.{goes_on, is_sequence, comes_before}
use Rattle.small_trees.specs.SmallTrees.{further, sequences, ListOf}
use Rattle.small_trees.proofs.Trees.{goes_on_lem, going_on, sequence-first}

pub three : (l m : ℕ) → (l ≡ m) ⊎ ((l < m) ⊎ (m < l))
three zero zero = inl refl
three zero (suc m) = inr (inl (omega arith))
three (suc l) zero = inr (inr (omega arith))
three (suc l) (suc m) =
    ⊎_elim (λ e. inl (ap suc e)) (λ d. ⊎_elim (λ h. inr (inl (omega arith))) (λ h. inr (inr (omega arith))) d) (three l m)

-- ---- the order of sequences

abbrev Before : List ℕ → List ℕ → Type 0
Before s t = comes_before s t ≡ true

module _ (l m : ℕ) (ls ms : List ℕ) where
  pub before_smaller : l < m → Before (l ∷ ls) (m ∷ ms)
  before_smaller h =
      ap₂ (λ (same less : Bool). cond same (comes_before ls ms) less) (ne_eqb l m (λ e. omega arith)) (lt-ltb l m h)

  pub before_equal : l ≡ m → comes_before (l ∷ ls) (m ∷ ms) ≡ comes_before ls ms
  before_equal e = ap (λ (same : Bool). cond same (comes_before ls ms) (ltb l m)) (eq-eqb l m e)

  pub not-greater : m < l → comes_before (l ∷ ls) (m ∷ ms) ≡ false
  not-greater h =
      ap₂ (λ (same less : Bool). cond same (comes_before ls ms) less) (ne_eqb l m (λ e. omega arith)) (le-ltb l m (omega arith))

-- no sequence comes before itself, and of two only one before the other
pub not_itself : (s : List ℕ) → comes_before s s ≡ false
not_itself [] = refl
not_itself (l ∷ ls) = before_equal l l ls ls refl ∙ not_itself ls

not-both : (s t : List ℕ) → Before s t → Before t s → ⊥
not-both [] t a b = false≢true a
not-both (l ∷ ls) [] a b = false≢true a
not-both (l ∷ ls) (m ∷ ms) a b =
    ⊎_elim (λ e. not-both ls ms (sym (before_equal l m ls ms e) ∙ a) (sym (before_equal m l ms ls (sym e)) ∙ b))
    (λ d. ⊎_elim (λ h. false≢true (sym (not-greater m l ms ls h) ∙ b)) (λ h. false≢true (sym (not-greater l m ls ms h) ∙ a)) d)
    (three l m)

-- ---- rising lists

-- each element comes before those behind it
Rising : List (List ℕ) → Type 0
Rising [] = Unit {0}
Rising (s ∷ ss) = ((t : List ℕ) → Memᴰ t ss → Before s t) × Rising ss

rising-map : (l : ℕ) (ss : List (List ℕ)) → Rising ss → Rising (map (λ s. l ∷ s) ss)
unfolding Rising
rising-map l [] r = tt
rising-map l (s ∷ ss) r = (each, rising-map l ss r.1)
  where
    each : (t : List ℕ) → Memᴰ t (map (λ s. l ∷ s) ss) → Before (l ∷ s) t
    each t m =
        let o = Memᴰ.of_map (λ s. l ∷ s) ss m in
        subst (Before (l ∷ s)) o.2 (before_equal l l s o.0 refl ∙ r.0 o.0 o.1)

rising-append : (ss ts : List (List ℕ)) → Rising ss → Rising ts
    → ((s t : List ℕ) → Memᴰ s ss → Memᴰ t ts → Before s t) → Rising (ss ++ ts)
unfolding Rising
rising-append [] ts a b across = b
rising-append (s ∷ ss) ts a b across =
    (each, rising-append ss ts a.1 b (λ u t m n. across u t (Memᴰ.tail m) n))
  where
    each : (t : List ℕ) → Memᴰ t (ss ++ ts) → Before s t
    each t m = ⊎_elim (a.0 t) (λ n. across s t (Memᴰ.head refl) n) (Memᴰ.append_cases ss m)

-- ---- an element and its place

mem-at : (ss : List (List ℕ)) (p : ℕ) → p < length ss → Memᴰ (get_or ss p []) ss
mem-at [] p h = absurd (not-suc-le-zero h)
mem-at (s ∷ ss) zero h = Memᴰ.head refl
mem-at (s ∷ ss) (suc p) h = Memᴰ.tail (mem-at ss p (le_of_suc-le-suc h))

at_mem : (s : List ℕ) (ss : List (List ℕ)) → Memᴰ s ss → (p : ℕ) × (p < length ss) × (get_or ss p [] ≡ s)
at_mem s [] m = absurd (Memᴰ.not-nil m)
at_mem s (t ∷ ss) m = ⊎_elim (λ e. (0, omega arith, sym e)) (λ n. let r = at_mem s ss n in (suc r.0, omega (arith, r.1), r.2)) (Memᴰ.cases_cons m)

rising-at : (ss : List (List ℕ)) → Rising ss → (p q : ℕ) → p < q → q < length ss → Before (get_or ss p []) (get_or ss q [])
unfolding Rising
rising-at [] r p q h k = absurd (not-suc-le-zero k)
rising-at (s ∷ ss) r p zero h k = absurd (not-suc-le-zero h)
rising-at (s ∷ ss) r zero (suc q) h k = r.0 (get_or ss q []) (mem-at ss q (le_of_suc-le-suc k))
rising-at (s ∷ ss) r (suc p) (suc q) h k = rising-at ss r.1 p q (le_of_suc-le-suc h) (le_of_suc-le-suc k)

at-rising : (ss : List (List ℕ)) → ((p q : ℕ) → p < q → q < length ss → Before (get_or ss p []) (get_or ss q [])) → Rising ss
unfolding Rising
at-rising [] h = tt
at-rising (s ∷ ss) h = (each, at-rising ss (λ p q k l. h (suc p) (suc q) (omega arith) (omega arith)))
  where
    each : (t : List ℕ) → Memᴰ t ss → Before s t
    each t m =
        let r = at_mem t ss m in
        subst (Before s) r.2 (h 0 (suc r.0) (omega arith) (omega (arith, r.1)))

-- two rising lists with the same elements are one
same-list : (ss ts : List (List ℕ)) → Rising ss → Rising ts
    → ((s : List ℕ) → Memᴰ s ss → Memᴰ s ts) → ((s : List ℕ) → Memᴰ s ts → Memᴰ s ss) → ss ≡ ts
unfolding Rising
same-list [] [] a b into back = refl
same-list [] (t ∷ ts) a b into back = absurd (Memᴰ.not-nil (back t (Memᴰ.head refl)))
same-list (s ∷ ss) [] a b into back = absurd (Memᴰ.not-nil (into s (Memᴰ.head refl)))
same-list (s ∷ ss) (t ∷ ts) a b into back =
    ap₂ ◌∷◌ first (same-list ss ts a.1 b.1 (λ u m. rest u s t ss ts first a.0 m (into u (Memᴰ.tail m)))
    (λ u m. rest u t s ts ss (sym first) b.0 m (back u (Memᴰ.tail m))))
  where
    first : s ≡ t
    first =
        ⊎_elim (λ e. e)
        (λ m. ⊎_elim sym (λ n. absurd (not-both t s (b.0 s m) (a.0 t n))) (Memᴰ.cases_cons (back t (Memᴰ.head refl))))
        (Memᴰ.cases_cons (into s (Memᴰ.head refl)))

    rest : (u x y : List ℕ) (xs ys : List (List ℕ)) → x ≡ y → ((t : List ℕ) → Memᴰ t xs → Before x t)
        → Memᴰ u xs → Memᴰ u (y ∷ ys) → Memᴰ u ys
    rest u x y xs ys e later m n =
        ⊎_elim (λ f. absurd (false≢true (sym (not_itself u) ∙ subst (λ (v : List ℕ). Before v u) (e ∙ sym f) (later u m)))) (λ k. k) (Memᴰ.cases_cons n)

-- ---- the ways to go on

-- of c next levels from a on
abbrev pub branches : ℕ → ℕ → ℕ → List (List ℕ)
branches m a c = flat_map (λ next. map (λ rest. next ∷ rest) (further m next)) (run a c)

-- a way that begins with one of these levels
record Way (m a c : ℕ) (s : List ℕ) : Type 0 where
  pub next : ℕ
  pub rest : List ℕ
  pub least : a ≤ next
  pub most : next < a + c
  pub goes : Memᴰ rest (further m next)
  pub is : s ≡ next ∷ rest

mem-branches : (m a c : ℕ) (s : List ℕ) → Memᴰ s (branches m a c) → Way m a c s
mem-branches m a zero s h = absurd (Memᴰ.not-nil h)
mem-branches m a (suc c) s h =
    ⊎_elim (λ i. let o = Memᴰ.of_map (λ rest. a ∷ rest) (further m a) i in
    record { next = a; rest = o.0; least = omega arith; most = omega arith; goes = o.1; is = sym o.2 })
    (λ i. let b = mem-branches m (a + 1) c s i in
    record { next = b.next; rest = b.rest; least = omega (arith, b.least); most = omega (arith, b.most); goes = b.goes; is = b.is })
    (Memᴰ.append_cases (map (λ rest. a ∷ rest) (further m a)) h)

branches-mem : (m a c next : ℕ) (rest : List ℕ) → a ≤ next → next < a + c → Memᴰ rest (further m next) → Memᴰ (next ∷ rest) (branches m a c)
branches-mem m a zero next rest h k i = absurd (omega arith)
branches-mem m a (suc c) next rest h k i =
    ⊎_elim (λ e.
    Memᴰ.append_left (branches m (a + 1) c)
    (subst (λ (b : ℕ). Memᴰ (next ∷ rest) (map (λ r. b ∷ r) (further m b))) (sym e) (Memᴰ.map (λ r. next ∷ r) i)))
    (λ l. Memᴰ.append_right (map (λ r. a ∷ r) (further m a)) (branches-mem m (a + 1) c next rest (omega arith) (omega arith) i))
    (eq-or-lt_of_le h)

branches-rising : (m a c : ℕ) → ((l : ℕ) → Rising (further m l)) → Rising (branches m a c)
unfolding Rising
branches-rising m a zero each = tt
branches-rising m a (suc c) each =
    rising-append (map (λ rest. a ∷ rest) (further m a)) (branches m (a + 1) c) (rising-map a (further m a) (each a)) (branches-rising m (a + 1) c each)
    across
  where
    across : (s t : List ℕ) → Memᴰ s (map (λ rest. a ∷ rest) (further m a)) → Memᴰ t (branches m (a + 1) c) → Before s t
    across s t i j =
        let o = Memᴰ.of_map (λ rest. a ∷ rest) (further m a) i in
        let b = mem-branches m (a + 1) c t j in
        subst (λ (u : List ℕ). Before u t) o.2
        (subst (Before (a ∷ o.0)) (sym b.is) (before_smaller a b.next o.0 b.rest (omega (arith, b.least))))

further-rising : (m l : ℕ) → Rising (further m l)
unfolding further Rising
further-rising zero l = ((λ t m. absurd (Memᴰ.not-nil m)), tt)
further-rising (suc m) l = branches-rising m 1 (suc l) (further-rising m)

-- they are just the lists of m levels that go on
further-goes : (m l : ℕ) (s : List ℕ) → Memᴰ s (further m l) → (length s ≡ m) × (goes_on l s ≡ true)
unfolding further
further-goes zero l s i = ⊎_elim (λ e. (ap length e, ap (goes_on l) e)) (λ j. absurd (Memᴰ.not-nil j)) (Memᴰ.cases_cons i)
further-goes (suc m) l s i =
    let b = mem-branches m 1 (suc l) s i in
    let r = further-goes m b.next b.rest b.goes in (
      ap length b.is ∙ ap suc r.0,
      ap (goes_on l) b.is ∙ going_on l b.next b.rest b.least (omega (arith, b.most)) r.1,
    )

goes_further : (m l : ℕ) (s : List ℕ) → length s ≡ m → goes_on l s ≡ true → Memᴰ s (further m l)
unfolding further
goes_further zero l [] e g = Memᴰ.head refl
goes_further zero l (x ∷ s) e g = absurd (omega arith)
goes_further (suc m) l [] e g = absurd (omega arith)
goes_further (suc m) l (x ∷ s) e g =
    let on = goes_on_lem l x s g in
    branches-mem m 1 (suc l) x s on.0 (omega (arith, on.1)) (goes_further m x s (suc_inj e) on.2)

-- ---- the list

sequences-rising : (n : ℕ) → Rising (sequences n)
unfolding sequences Rising
sequences-rising zero = tt
sequences-rising (suc m) = rising-map 0 (further m 0) (further-rising m 0)

sequences_are : (n : ℕ) (s : List ℕ) → Memᴰ s (sequences n) → (is_sequence s ≡ true) × (length s ≡ n)
unfolding sequences is_sequence
sequences_are zero s i = absurd (Memᴰ.not-nil i)
sequences_are (suc m) s i =
    let o = Memᴰ.of_map (λ rest. 0 ∷ rest) (further m 0) i in
    let r = further-goes m 0 o.0 o.1 in
    (ap is_sequence (sym o.2) ∙ r.1, ap length (sym o.2) ∙ ap suc r.0)

are_sequences : (n : ℕ) (s : List ℕ) → is_sequence s ≡ true → length s ≡ n → Memᴰ s (sequences n)
unfolding sequences is_sequence
are_sequences n [] g e = absurd (false≢true g)
are_sequences zero (l ∷ s) g e = absurd (omega arith)
are_sequences (suc m) (l ∷ s) g e =
    let on = sequence-first l s g in
    subst (λ (x : ℕ). Memᴰ (x ∷ s) (sequences (suc m))) (sym on.0)
    (Memᴰ.map (λ rest. 0 ∷ rest) (goes_further m 0 s (suc_inj e) (ap (λ (x : ℕ). goes_on x s) (sym on.0) ∙ on.1)))

pub listed : (n : ℕ) → ListOf n (sequences n)
listed n = record {
  holds = λ p h. sequences_are n (get_or (sequences n) p []) (mem-at (sequences n) p h);
  all = λ s g e. at_mem s (sequences n) (are_sequences n s g e);
  sorted = rising-at (sequences n) (sequences-rising n);
}

-- no other list is the list of n
pub only-list : (n : ℕ) (list : List (List ℕ)) → ListOf n list → list ≡ sequences n
only-list n list L = same-list list (sequences n) (at-rising list L.sorted) (sequences-rising n) into back
  where
    into : (s : List ℕ) → Memᴰ s list → Memᴰ s (sequences n)
    into s m =
        let r = at_mem s list m in
        let a = L.holds r.0 r.1 in
        are_sequences n s (ap is_sequence (sym r.2) ∙ a.0) (ap length (sym r.2) ∙ a.1)

    back : (s : List ℕ) → Memᴰ s (sequences n) → Memᴰ s list
    back s m =
        let a = sequences_are n s m in
        let r = L.all s a.0 a.1 in
        subst (λ (t : List ℕ). Memᴰ t list) r.2 (mem-at list r.0 r.1)
