-- The board that two arrays hold: a kind byte a row, and four numbers a row, row r at 4r to 4r + 3. Cards are rows 0 to 255, notices rows 256
-- to 383. Every read is total: 0 past an array's end.
use Rattle.std.specs.Prelude.{ℕ, zero, suc, ◌+◌, ◌*◌, ◌≤◌, ◌<◌, ◌≡◌, List, [], ◌∷◌, length, get_or, take, set}
use Rattle.meaning.specs.Facts.{Kind, Fact, Board, arity_of}

-- ---- sizes of the arrays

abbrev pub row_count : ℕ
row_count = 384

abbrev pub number_count : ℕ
number_count = 1536

-- the row of the first notice
abbrev pub notices_from : ℕ
notices_from = 256

-- what every pair of arrays in the code is
pub record Sized (kind numbers : List ℕ) : Type 0 where
  pub rows : length kind ≡ row_count
  pub places : length numbers ≡ number_count

-- ---- reading

-- the four numbers from a place on
abbrev pub four_from : List ℕ → ℕ → List ℕ
four_from numbers at = get_or numbers at 0 ∷ get_or numbers (at + 1) 0 ∷ get_or numbers (at + 2) 0 ∷ get_or numbers (at + 3) 0 ∷ []

-- a row whole: its kind, and all of its four numbers
abbrev pub row_at : List ℕ → List ℕ → ℕ → Fact
row_at kind numbers row = record { kind = get_or kind row 0; numbers = four_from numbers (4 * row) }

-- the fact of a row: as many of its numbers as its kind has
abbrev pub fact_in : List Kind → Fact → Fact
fact_in kinds row = record { kind = row.kind; numbers = take (arity_of kinds row.kind) row.numbers }

abbrev pub fact_of : List Kind → List ℕ → List ℕ → ℕ → Fact
fact_of kinds kind numbers row = fact_in kinds (row_at kind numbers row)

-- so many rows, and their facts, from a row on
unfoldable pub rows_from : List ℕ → List ℕ → ℕ → ℕ → List Fact
rows_from kind numbers row zero = []
rows_from kind numbers row (suc n) = row_at kind numbers row ∷ rows_from kind numbers (suc row) n

unfoldable pub facts_from : List Kind → List ℕ → List ℕ → ℕ → ℕ → List Fact
facts_from kinds kind numbers row zero = []
facts_from kinds kind numbers row (suc n) = fact_of kinds kind numbers row ∷ facts_from kinds kind numbers (suc row) n

-- so many cards and so many notices
abbrev pub board_of : List Kind → List ℕ → List ℕ → ℕ → ℕ → Board
board_of kinds kind numbers cards notices = record {
  cards = facts_from kinds kind numbers 0 cards;
  notices = facts_from kinds kind numbers notices_from notices;
}

-- no row from one row to another is of the kind
abbrev pub NoneOfKind : List ℕ → ℕ → ℕ → ℕ → Type 0
NoneOfKind kind k from to = (row : ℕ) → from ≤ row → row < to → get_or kind row 0 ≡ k → ⊥

-- ---- writing: facts one after another, the first at a row; a fact fills all four numbers of its row, with 0 past its own

unfoldable pub kinds_with : List ℕ → ℕ → List Fact → List ℕ
kinds_with kind row [] = kind
kinds_with kind row (f ∷ more) = kinds_with (set kind row f.kind) (suc row) more

abbrev pub with_four : List ℕ → ℕ → List ℕ → List ℕ
with_four numbers at four =
    set (set (set (set numbers at (get_or four 0 0)) (at + 1) (get_or four 1 0)) (at + 2) (get_or four 2 0)) (at + 3) (get_or four 3 0)

unfoldable pub numbers_with : List ℕ → ℕ → List Fact → List ℕ
numbers_with numbers row [] = numbers
numbers_with numbers row (f ∷ more) = numbers_with (with_four numbers (4 * row) f.numbers) (suc row) more
