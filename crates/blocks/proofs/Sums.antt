-- Both sums of a row of words, from the last word down, and over eight lanes put together. Assumes nothing.
use Rattle.std.proofs.Common.{◌≡◌, ℕ, zero, suc, ◌+◌, ◌*◌, ◌%◌, ◌<◌, ◌≤◌, ◌-◌, List, length, replicate, sym, refl, ap, ◌∙◌, le_refl, zero-add, arith, lt-ltb}
use Rattle.std.proofs.Math.Nat.{sub-zero}
use Rattle.blocks.specs.Below.{total}
use Rattle.blocks.specs.Block.{word_limit, weighted_place, word_at}
use Rattle.blocks.specs.Sums.{Summed, More, EachMore, summed_word, eighths, lane_count, lane, SideBySide, Grouped}
use Rattle.blocks.specs.declared.check.Sums.{Sums}
use Rattle.blocks.proofs.Below.{further, total_first, total-both, total_cong, total_groups}

-- the sums of no words
pub summed-none : (f : ℕ → ℕ) → Summed 0 f (record { plain = 0; weighted = 0 })
unfolding total
summed-none f = record { plain = refl; weighted = refl }

-- each word that is there counts once more where one comes in front
weighted-first : (n : ℕ) (f : ℕ → ℕ) → total (suc n) (λ k. f k * (k + 1)) ≡ total n (λ k. f (suc k) * (k + 1)) + total (suc n) f
weighted-first n f =
    total_first n (λ k. f k * (k + 1))
    ∙ ap (λ (later : ℕ). f 0 * (0 + 1) + later)
    (total_cong n _ _ (λ k l. omega arith) ∙ total-both n (λ k. f (suc k) * (k + 1)) (λ k. f (suc k)))
    ∙ omega (arith, total_first n f)

pub summed-more : (n : ℕ) (f g : ℕ → ℕ) (s r : Sums) (w : ℕ) → Summed n f s → More s w r → w ≡ g 0 → ((k : ℕ) → f k ≡ g (suc k))
    → Summed (suc n) g r
summed-more n f g s r w sums one first later =
    let plain-later : total n f ≡ total n (λ k. g (suc k)) = total_cong n _ _ (λ k l. later k) in
    let weighted-later : total n (λ k. f k * (k + 1)) ≡ total n (λ k. g (suc k) * (k + 1)) =
    total_cong n _ _ (λ k l. ap (λ (x : ℕ). x * (k + 1)) (later k))
    in
    let plain : r.plain ≡ total (suc n) g % word_limit = omega (arith, sums.plain, one.plain, total_first n g) in
    record { plain = plain; weighted = omega (arith, sums.weighted, one.weighted, weighted-first n g) }

-- the words from a place on up to the last of `count`, with the one before them
pub from-more : (count : ℕ) (f : ℕ → ℕ) (place : ℕ) (s r : Sums) (w : ℕ) → 0 < place → place ≤ count → Summed (count - place) (λ i. f (place + i)) s
    → More s w r
    → w ≡ f (place - 1)
    → Summed (count - (place - 1)) (λ i. f (place - 1 + i)) r
from-more count f place s r w some room sums one first =
    let more : count - (place - 1) ≡ suc (count - place) = omega arith in
    let at : place - 1 ≡ place - 1 + 0 = omega arith in
    rw more
    (summed-more (count - place) _ _ s r w sums one (first ∙ ap f at) (λ i. let next : place + i ≡ place - 1 + suc i = omega arith in ap f next))

-- and all of them
pub from_all : (count : ℕ) (f : ℕ → ℕ) (place : ℕ) (s : Sums) → place ≡ 0 → Summed (count - place) (λ i. f (place + i)) s → Summed count f s
from_all count f place s e sums =
    let start = rw e at sums in
    simp (sub-zero, zero-add) at start

-- ---- lanes

-- lanes of no words
abbrev none : Sums
none = record { plain = 0; weighted = 0 }

none-lane : (n j : ℕ) → lane (replicate n none) j ≡ none
none-lane zero j = refl
none-lane (suc n) zero = refl
none-lane (suc n) (suc j) = none-lane n j

-- the words before the check words are summed, and these are not
summed_word_lem : (block : List ℕ) (k : ℕ) → k < weighted_place → summed_word block k ≡ word_at block k
summed_word_lem block k l = rw (lt-ltb k weighted_place l)

-- one word more in a lane, eight places before its first one
pub lane-more : (block : List ℕ) (count from next : ℕ) (s r : Sums) → from < weighted_place → next ≡ from + 8 → Summed count (eighths block next) s
    → More s (word_at block from) r
    → Summed (suc count) (eighths block from) r
lane-more block count from next s r l e sums one =
    let here : from ≡ from + 8 * 0 = omega arith in
    summed-more count (eighths block next) (eighths block from) s r (word_at block from) sums one
    (sym (summed_word_lem block from l) ∙ ap (summed_word block) here)
    (λ k. let later : next + 8 * k ≡ from + 8 * suc k = omega arith in ap (summed_word block) later)

-- so in each of eight lanes
pub grouped : (block : List ℕ) (k : ℕ) (l r : List Sums) → k + 8 ≤ weighted_place → length l ≡ 8 → EachMore block k l r → Grouped block k l r
grouped block k l r room size one count side =
    record { each = λ j m. lane-more block count (k + j) (k + 8 + j) _ _ (omega arith) (omega arith) (side.each j m) (one j (omega arith)) }

-- eight lanes: those below a place have a word more, and the others are as they were
pub record MoreBelow (block : List ℕ) (from : ℕ) (old new : List Sums) (place : ℕ) : Type 0 where
  pub long : length new ≡ lane_count
  pub more : (j : ℕ) → j < place → More (lane old j) (word_at block (from + j)) (lane new j)
  pub same : (j : ℕ) → place ≤ j → lane new j ≡ lane old j

-- eight lanes of no words
pub no-groups : (block : List ℕ) (k : ℕ) → SideBySide block k 0 (replicate lane_count none)
no-groups block k = record { each = λ j m. rw (none-lane lane_count j) (summed-none (eighths block (k + j))) }

-- the words of all groups, up to the check words
pub summed-groups : (block : List ℕ) (r : Sums) → Summed 248 (λ i. summed_word block (6 + i)) r → Summed 248 (λ i. word_at block (6 + i)) r
summed-groups block r S =
    let word : (k : ℕ) → k < 248 → summed_word block (6 + k) ≡ word_at block (6 + k) = λ k l. summed_word_lem block (6 + k) (omega arith) in
    record {
      plain = S.plain ∙ ap (λ (sum : ℕ). sum % word_limit) (total_cong 248 _ _ word);
      weighted = S.weighted ∙ ap (λ (sum : ℕ). sum % word_limit) (total_cong 248 _ _ (λ k l. ap (λ (w : ℕ). w * (k + 1)) (word k l)));
    }

-- sums of summands that are reduced
times-reduced : (x k : ℕ) → x % word_limit * k % word_limit ≡ x * k % word_limit
times-reduced x zero = omega arith
times-reduced x (suc k) = omega (arith, times-reduced x k)

plain-reduced : (n : ℕ) (f g : ℕ → ℕ) → ((k : ℕ) → k < n → f k ≡ g k % word_limit) → total n f % word_limit ≡ total n g % word_limit
unfolding total
plain-reduced zero f g h = refl
plain-reduced (suc n) f g h = omega (arith, plain-reduced n f g (λ k l. h k (further l)), h n (le_refl (suc n)))

weighted-reduced : (n : ℕ) (f g : ℕ → ℕ) → ((k : ℕ) → k < n → f k ≡ g k % word_limit)
    → total n (λ k. f k * (k + 1)) % word_limit ≡ total n (λ k. g k * (k + 1)) % word_limit
unfolding total
weighted-reduced zero f g h = refl
weighted-reduced (suc n) f g h =
    let here : f n * (n + 1) % word_limit ≡ g n * (n + 1) % word_limit = rw (h n (le_refl (suc n))) (times-reduced (g n) (n + 1)) in
    omega (arith, weighted-reduced n f g (λ k l. h k (further l)))

-- the words of lane j of c, weighted as they stand in the row: c times by their group's index, and by the lane's place
lane-weighted : (c j n : ℕ) (f : ℕ → ℕ)
    → total n (λ i. f i * (c * i + j + 1)) + c * total n f ≡ c * total n (λ i. f i * (i + 1)) + total n f * (j + 1)
unfolding total
lane-weighted c j zero f = omega arith
lane-weighted c j (suc n) f = omega (arith, lane-weighted c j n f)

-- so for all lanes
lanes-weighted : (c m n : ℕ) (f : ℕ → ℕ)
    → total m (λ j. total n (λ i. f (c * i + j) * (c * i + j + 1))) + c * total m (λ j. total n (λ i. f (c * i + j)))
    ≡ c * total m (λ j. total n (λ i. f (c * i + j) * (i + 1))) + total m (λ j. total n (λ i. f (c * i + j)) * (j + 1))
unfolding total
lanes-weighted c zero n f = omega arith
lanes-weighted c (suc m) n f = omega (arith, lanes-weighted c m n f, lane-weighted c m n (λ i. f (c * i + m)))

module _ (block : List ℕ) (k count : ℕ) (l : List Sums) (side : SideBySide block k count l) where
  -- the row of words, and the sums of lane j before they are reduced
  abbrev row : ℕ → ℕ
  row i = summed_word block (k + i)

  abbrev plain_of : ℕ → ℕ
  plain_of j = total count (λ i. row (8 * i + j))

  abbrev weighted_of : ℕ → ℕ
  weighted_of j = total count (λ i. row (8 * i + j) * (i + 1))

  lanes : (j : ℕ) → j < lane_count → ((lane l j).plain ≡ plain_of j % word_limit) × ((lane l j).weighted ≡ weighted_of j % word_limit)
  lanes j m =
      let S = side.each j m in
      let word : (i : ℕ) → eighths block (k + j) i ≡ row (8 * i + j) = λ i. let place : k + j + 8 * i ≡ k + (8 * i + j) = omega arith in ap (summed_word block) place in (
        S.plain ∙ ap (λ (sum : ℕ). sum % word_limit) (total_cong count _ _ (λ i m. word i)),
        S.weighted ∙ ap (λ (sum : ℕ). sum % word_limit) (total_cong count _ _ (λ i m. ap (λ (w : ℕ). w * (i + 1)) (word i))),
      )

  -- the lanes put together, from the sums across them
  pub lanes-together : (sums counted r : Sums) (groups : ℕ) → Summed lane_count (λ j. (lane l j).plain) sums
      → Summed lane_count (λ j. (lane l j).weighted) counted
      → (groups + sums.plain) % word_limit ≡ counted.plain
      → r.plain ≡ sums.plain
      → r.weighted ≡ (sums.weighted + groups * 8 % word_limit) % word_limit
      → Summed (8 * count) row r
  lanes-together sums counted r groups P W isGroups is_plain isSum =
      let plain : sums.plain ≡ total 8 plain_of % word_limit = P.plain ∙ plain-reduced 8 _ plain_of (λ j m. (lanes j m).0) in
      let weighted : sums.weighted ≡ total 8 (λ j. plain_of j * (j + 1)) % word_limit =
      P.weighted ∙ weighted-reduced 8 _ plain_of (λ j m. (lanes j m).0)
      in
      let times : counted.plain ≡ total 8 weighted_of % word_limit = W.plain ∙ plain-reduced 8 _ weighted_of (λ j m. (lanes j m).1) in
      record {
        plain = is_plain ∙ plain ∙ ap (λ (sum : ℕ). sum % word_limit) (sym (total_groups 8 count row));
        weighted = omega (arith, total_groups 8 count (λ i. row i * (i + 1)), lanes-weighted 8 8 count row);
      }
