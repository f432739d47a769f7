-- Rows in arrays: a row that is written reads as it was written, every other row as before; facts written one after another are the rows from
-- the first on.
use Rattle.std.specs.Prelude.{ℕ, zero, suc, ◌+◌, ◌*◌, ◌≤◌, ◌<◌, ◌≡◌, refl, List, [], ◌∷◌, ◌++◌, map, length, get_or, take, set}
use Rattle.std.proofs.Common.{add-zero, add-one, arith, sym, ap, ap₂, ◌∙◌, length-set, get_or-set_same, get_or-set_other}
use Rattle.std.proofs.lemmas.List.{set-get_or}
use Rattle.meaning.specs.Basics.{All}
use Rattle.meaning.specs.Facts.{Kind, Fact, arity_of, most_numbers}
use Rattle.meaning.specs.WellFormed.{GoodKind}
use Rattle.rows.specs.Held.{row_count, Sized, four_from, row_at, fact_in, fact_of, rows_from, facts_from, kinds_with, with_four, numbers_with}

-- ---- sizes

pub kinds-length : (kind : List ℕ) (row : ℕ) (facts : List Fact) → length (kinds_with kind row facts) ≡ length kind
unfolding kinds_with
kinds-length kind row [] = refl
kinds-length kind row (f ∷ more) = kinds-length (set kind row f.kind) (suc row) more ∙ length-set kind row f.kind

pub four-length : (numbers : List ℕ) (at : ℕ) (four : List ℕ) → length (with_four numbers at four) ≡ length numbers
four-length numbers at four = simp length-set

pub numbers-length : (numbers : List ℕ) (row : ℕ) (facts : List Fact) → length (numbers_with numbers row facts) ≡ length numbers
unfolding numbers_with
numbers-length numbers row [] = refl
numbers-length numbers row (f ∷ more) =
    numbers-length (with_four numbers (4 * row) f.numbers) (suc row) more ∙ four-length numbers (4 * row) f.numbers

pub sized_with : (kind numbers : List ℕ) (row : ℕ) (facts : List Fact) → Sized kind numbers → Sized (kinds_with kind row facts) (numbers_with numbers row facts)
sized_with kind numbers row facts s = record {
  rows = kinds-length kind row facts ∙ s.rows;
  places = numbers-length numbers row facts ∙ s.places;
}

sized_row : (kind numbers : List ℕ) (row k : ℕ) (four : List ℕ) → Sized kind numbers → Sized (set kind row k) (with_four numbers (4 * row) four)
sized_row kind numbers row k four s = record { rows = length-set kind row k ∙ s.rows; places = four-length numbers (4 * row) four ∙ s.places }

-- ---- four numbers

other : (l : List ℕ) (at : ℕ) (four : List ℕ) (i : ℕ) → (i ≡ at → ⊥) → (i ≡ at + 1 → ⊥) → (i ≡ at + 2 → ⊥) → (i ≡ at + 3 → ⊥)
    → get_or (with_four l at four) i 0 ≡ get_or l i 0
other l at four i n₀ n₁ n₂ n₃ =
    get_or-set_other (set (set (set l at (get_or four 0 0)) (at + 1) (get_or four 1 0)) (at + 2) (get_or four 2 0)) (at + 3) i (get_or four 3 0) 0 n₃
    ∙ get_or-set_other (set (set l at (get_or four 0 0)) (at + 1) (get_or four 1 0)) (at + 2) i (get_or four 2 0) 0 n₂
    ∙ get_or-set_other (set l at (get_or four 0 0)) (at + 1) i (get_or four 1 0) 0 n₁
    ∙ get_or-set_other l at i (get_or four 0 0) 0 n₀

four_equal : (l l' : List ℕ) (at at' : ℕ) → get_or l at 0 ≡ get_or l' at' 0 → get_or l (at + 1) 0 ≡ get_or l' (at' + 1) 0
    → get_or l (at + 2) 0 ≡ get_or l' (at' + 2) 0 → get_or l (at + 3) 0 ≡ get_or l' (at' + 3) 0 → four_from l at ≡ four_from l' at'
four_equal l l' at at' e₀ e₁ e₂ e₃ = rw (e₀, e₁, e₂, e₃)

four-written : (l : List ℕ) (at : ℕ) (four : List ℕ) → at + 4 ≤ length l → four_from (with_four l at four) at ≡ four_from four 0
four-written l at four h =
    let l₁ = set l at (get_or four 0 0) in
    let l₂ = set l₁ (at + 1) (get_or four 1 0) in
    let l₃ = set l₂ (at + 2) (get_or four 2 0) in
    let n₁ : length l₁ ≡ length l = length-set l at (get_or four 0 0) in
    let n₂ : length l₂ ≡ length l = length-set l₁ (at + 1) (get_or four 1 0) ∙ n₁ in
    let n₃ : length l₃ ≡ length l = length-set l₂ (at + 2) (get_or four 2 0) ∙ n₂ in
    four_equal (with_four l at four) four at 0
    (get_or-set_other l₃ (at + 3) at (get_or four 3 0) 0 (λ q. omega arith) ∙ get_or-set_other l₂ (at + 2) at (get_or four 2 0) 0 (λ q. omega arith) ∙ get_or-set_other l₁ (at + 1) at (get_or four 1 0) 0 (λ q. omega arith) ∙ get_or-set_same l at (get_or four 0 0) 0 (omega arith))
    (get_or-set_other l₃ (at + 3) (at + 1) (get_or four 3 0) 0 (λ q. omega arith) ∙ get_or-set_other l₂ (at + 2) (at + 1) (get_or four 2 0) 0 (λ q. omega arith) ∙ get_or-set_same l₁ (at + 1) (get_or four 1 0) 0 (omega arith))
    (get_or-set_other l₃ (at + 3) (at + 2) (get_or four 3 0) 0 (λ q. omega arith) ∙ get_or-set_same l₂ (at + 2) (get_or four 2 0) 0 (omega arith))
    (get_or-set_same l₃ (at + 3) (get_or four 3 0) 0 (omega arith))

four_apart : (l : List ℕ) (row : ℕ) (four : List ℕ) (r : ℕ) → (r ≡ row → ⊥) → four_from (with_four l (4 * row) four) (4 * r) ≡ four_from l (4 * r)
four_apart l row four r h =
    four_equal (with_four l (4 * row) four) l (4 * r) (4 * r)
    (other l (4 * row) four (4 * r) (λ q. h (omega arith)) (λ q. omega arith) (λ q. omega arith) (λ q. omega arith))
    (other l (4 * row) four (4 * r + 1) (λ q. omega arith) (λ q. h (omega arith)) (λ q. omega arith) (λ q. omega arith))
    (other l (4 * row) four (4 * r + 2) (λ q. omega arith) (λ q. omega arith) (λ q. h (omega arith)) (λ q. omega arith))
    (other l (4 * row) four (4 * r + 3) (λ q. omega arith) (λ q. omega arith) (λ q. omega arith) (λ q. h (omega arith)))

-- ---- one row

-- a fact as it stands in a row: four numbers, 0 past its own
abbrev pub row_of : Fact → Fact
row_of f = record { kind = f.kind; numbers = four_from f.numbers 0 }

row_equal : (k k' : ℕ) (n n' : List ℕ) → k ≡ k' → n ≡ n' → ◌≡◌ {A = Fact} (record { kind = k; numbers = n }) (record { kind = k'; numbers = n' })
row_equal k k' n n' p q = λ i. record { kind = p i; numbers = q i }

-- in arrays of any size that have the row
pub row_placed : (kind numbers : List ℕ) (row : ℕ) (f : Fact) → row < length kind → 4 * row + 4 ≤ length numbers
    → row_at (set kind row f.kind) (with_four numbers (4 * row) f.numbers) row ≡ row_of f
row_placed kind numbers row f h l = row_equal _ _ _ _ (get_or-set_same kind row f.kind 0 h) (four-written numbers (4 * row) f.numbers l)

pub row_written : (kind numbers : List ℕ) (row : ℕ) (f : Fact) → Sized kind numbers → row < row_count
    → row_at (set kind row f.kind) (with_four numbers (4 * row) f.numbers) row ≡ row_of f
row_written kind numbers row f s h = row_placed kind numbers row f (omega (arith, s.rows)) (omega (arith, s.places))

pub row_apart : (kind numbers : List ℕ) (row k : ℕ) (four : List ℕ) (r : ℕ) → (r ≡ row → ⊥)
    → row_at (set kind row k) (with_four numbers (4 * row) four) r ≡ row_at kind numbers r
row_apart kind numbers row k four r h = row_equal _ _ _ _ (get_or-set_other kind row r k 0 h) (four_apart numbers row four r h)

-- a row that is written as it stands
pub row_self : (kind : List ℕ) (row : ℕ) → set kind row (get_or kind row 0) ≡ kind
row_self kind row = set-get_or kind row 0

pub four_self : (numbers : List ℕ) (at : ℕ) → with_four numbers at (four_from numbers at) ≡ numbers
four_self numbers at =
    rw (set-get_or numbers at 0, set-get_or numbers (at + 1) 0, set-get_or numbers (at + 2) 0, set-get_or numbers (at + 3) 0)

-- ---- rows from a row on

pub rows-length : (kind numbers : List ℕ) (row n : ℕ) → length (rows_from kind numbers row n) ≡ n
unfolding rows_from
rows-length kind numbers row zero = refl
rows-length kind numbers row (suc n) = ap suc (rows-length kind numbers (suc row) n)

-- after a row was written that lies before them, or behind them
pub rows-after : (kind numbers : List ℕ) (row k : ℕ) (four : List ℕ) (r n : ℕ) → row < r
    → rows_from (set kind row k) (with_four numbers (4 * row) four) r n ≡ rows_from kind numbers r n
unfolding rows_from
rows-after kind numbers row k four r zero h = refl
rows-after kind numbers row k four r (suc n) h =
    ap₂ ◌∷◌ (row_apart kind numbers row k four r (λ q. omega arith)) (rows-after kind numbers row k four (suc r) n (omega arith))

pub rows_before : (kind numbers : List ℕ) (row k : ℕ) (four : List ℕ) (r n : ℕ) → r + n ≤ row
    → rows_from (set kind row k) (with_four numbers (4 * row) four) r n ≡ rows_from kind numbers r n
unfolding rows_from
rows_before kind numbers row k four r zero h = refl
rows_before kind numbers row k four r (suc n) h =
    ap₂ ◌∷◌ (row_apart kind numbers row k four r (λ q. omega arith)) (rows_before kind numbers row k four (suc r) n (omega arith))

-- ---- facts written one after another

-- the first of them, then the others
pub kinds-step : (kind : List ℕ) (row : ℕ) (f : Fact) (more : List Fact) → kinds_with (set kind row f.kind) (row + 1) more ≡ kinds_with kind row (f ∷ more)
unfolding kinds_with
kinds-step kind row f more = rw (add-one row)

pub numbers-step : (numbers : List ℕ) (row : ℕ) (f : Fact) (more : List Fact)
    → numbers_with (with_four numbers (4 * row) f.numbers) (row + 1) more ≡ numbers_with numbers row (f ∷ more)
unfolding numbers_with
numbers-step numbers row f more = rw (add-one row)

-- those of two lists
pub kinds_append : (kind : List ℕ) (row : ℕ) (facts more : List Fact)
    → kinds_with (kinds_with kind row facts) (row + length facts) more ≡ kinds_with kind row (facts ++ more)
unfolding kinds_with
kinds_append kind row [] more = rw (add-zero row)
kinds_append kind row (f ∷ facts) more =
    let e : row + suc (length facts) ≡ suc row + length facts = omega arith in
    rw e (kinds_append (set kind row f.kind) (suc row) facts more)

pub numbers_append : (numbers : List ℕ) (row : ℕ) (facts more : List Fact)
    → numbers_with (numbers_with numbers row facts) (row + length facts) more ≡ numbers_with numbers row (facts ++ more)
unfolding numbers_with
numbers_append numbers row [] more = rw (add-zero row)
numbers_append numbers row (f ∷ facts) more =
    let e : row + suc (length facts) ≡ suc row + length facts = omega arith in
    rw e (numbers_append (with_four numbers (4 * row) f.numbers) (suc row) facts more)

-- rows before the first keep what they had
pub below_written : (kind numbers : List ℕ) (row : ℕ) (facts : List Fact) (r n : ℕ) → r + n ≤ row
    → rows_from (kinds_with kind row facts) (numbers_with numbers row facts) r n ≡ rows_from kind numbers r n
unfolding kinds_with numbers_with
below_written kind numbers row [] r n h = refl
below_written kind numbers row (f ∷ more) r n h =
    below_written (set kind row f.kind) (with_four numbers (4 * row) f.numbers) (suc row) more r n (omega arith)
    ∙ rows_before kind numbers row f.kind f.numbers r n h

-- and so do those past the last
pub past-written : (kind numbers : List ℕ) (row : ℕ) (facts : List Fact) (r n : ℕ) → row + length facts ≤ r
    → rows_from (kinds_with kind row facts) (numbers_with numbers row facts) r n ≡ rows_from kind numbers r n
unfolding kinds_with numbers_with
past-written kind numbers row [] r n h = refl
past-written kind numbers row (f ∷ more) r n h =
    past-written (set kind row f.kind) (with_four numbers (4 * row) f.numbers) (suc row) more r n (omega arith)
    ∙ rows-after kind numbers row f.kind f.numbers r n (omega arith)

-- the rows from the first on are the facts
pub rows_written : (kind numbers : List ℕ) (row : ℕ) (facts : List Fact) → Sized kind numbers → row + length facts ≤ row_count
    → rows_from (kinds_with kind row facts) (numbers_with numbers row facts) row (length facts) ≡ map row_of facts
unfolding kinds_with numbers_with rows_from
rows_written kind numbers row [] s h = refl
rows_written kind numbers row (f ∷ more) s h =
    let kind₁ = set kind row f.kind in
    let numbers₁ = with_four numbers (4 * row) f.numbers in
    let one : rows_from (kinds_with kind₁ (suc row) more) (numbers_with numbers₁ (suc row) more) row 1 ≡ rows_from kind₁ numbers₁ row 1 =
    below_written kind₁ numbers₁ (suc row) more row 1 (omega arith) in
    ap₂ ◌∷◌
    (ap (λ (l : List Fact). first l) one ∙ row_written kind numbers row f s (omega arith))
    (rows_written kind₁ numbers₁ (suc row) more (sized_row kind numbers row f.kind f.numbers s) (omega arith))
  where
    first : List Fact → Fact
    first [] = f
    first (x ∷ xs) = x

-- ---- the facts of rows

pub facts_of_rows : (kinds : List Kind) (kind numbers : List ℕ) (row n : ℕ) → facts_from kinds kind numbers row n ≡ map (fact_in kinds) (rows_from kind numbers row n)
unfolding facts_from rows_from
facts_of_rows kinds kind numbers row zero = refl
facts_of_rows kinds kind numbers row (suc n) = ap (λ (l : List Fact). fact_of kinds kind numbers row ∷ l) (facts_of_rows kinds kind numbers (suc row) n)

pub facts-length : (kinds : List Kind) (kind numbers : List ℕ) (row n : ℕ) → length (facts_from kinds kind numbers row n) ≡ n
unfolding facts_from
facts-length kinds kind numbers row zero = refl
facts-length kinds kind numbers row (suc n) = ap suc (facts-length kinds kind numbers (suc row) n)

-- after a row was written that lies behind them
module _ (kinds : List Kind) (kind numbers : List ℕ) (row k : ℕ) (four : List ℕ) (r n : ℕ) where
  same_facts : rows_from (set kind row k) (with_four numbers (4 * row) four) r n ≡ rows_from kind numbers r n
      → facts_from kinds (set kind row k) (with_four numbers (4 * row) four) r n ≡ facts_from kinds kind numbers r n
  same_facts e =
      facts_of_rows kinds (set kind row k) (with_four numbers (4 * row) four) r n ∙ ap (map (fact_in kinds)) e ∙ sym (facts_of_rows kinds kind numbers r n)

  pub facts-before : r + n ≤ row → facts_from kinds (set kind row k) (with_four numbers (4 * row) four) r n ≡ facts_from kinds kind numbers r n
  facts-before h = same_facts (rows_before kind numbers row k four r n h)

-- one more fact behind them
pub facts_more : (kinds : List Kind) (kind numbers : List ℕ) (row n : ℕ)
    → facts_from kinds kind numbers row (suc n) ≡ facts_from kinds kind numbers row n ++ (fact_of kinds kind numbers (row + n) ∷ [])
unfolding facts_from
facts_more kinds kind numbers row zero = rw (add-zero row)
facts_more kinds kind numbers row (suc n) =
    let e : suc row + n ≡ row + suc n = omega arith in
    ap (λ (l : List Fact). fact_of kinds kind numbers row ∷ l)
    (facts_more kinds kind numbers (suc row) n ∙ ap (λ (r : ℕ). facts_from kinds kind numbers (suc row) n ++ (fact_of kinds kind numbers r ∷ [])) e)

-- a fact with as many numbers as its kind has, at most four, comes back from its row
pub record Fitting (kinds : List Kind) (f : Fact) : Type 0 where
  pub arity : length f.numbers ≡ arity_of kinds f.kind
  pub few : length f.numbers ≤ most_numbers

first-four : (numbers : List ℕ) → length numbers ≤ 4 → take (length numbers) (four_from numbers 0) ≡ numbers
first-four [] h = refl
first-four (a ∷ []) h = refl
first-four (a ∷ b ∷ []) h = refl
first-four (a ∷ b ∷ c ∷ []) h = refl
first-four (a ∷ b ∷ c ∷ d ∷ []) h = refl
first-four (a ∷ b ∷ c ∷ d ∷ e ∷ more) h = let bad : ⊥ = omega arith in absurd bad

pub fact_back : (kinds : List Kind) (f : Fact) → Fitting kinds f → fact_in kinds (row_of f) ≡ f
fact_back kinds f fits = row_equal _ _ _ _ refl (ap (λ (n : ℕ). take n (four_from f.numbers 0)) (sym fits.arity) ∙ first-four f.numbers fits.few)

pub facts_back : (kinds : List Kind) (facts : List Fact) → All (Fitting kinds) facts → map (fact_in kinds) (map row_of facts) ≡ facts
facts_back kinds [] all = refl
facts_back kinds (f ∷ more) all = ap₂ ◌∷◌ (fact_back kinds f all.0) (facts_back kinds more all.1)

-- the kinds of an accepted file have at most four numbers
pub arity_few : (kinds : List Kind) (k : ℕ) → All GoodKind kinds → arity_of kinds k ≤ most_numbers
arity_few [] k all = omega arith
arity_few (x ∷ more) zero all = all.0
arity_few (x ∷ more) (suc k) all = arity_few more k all.1
