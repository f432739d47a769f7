-- The arrays after a board is loaded. Rows that are not loaded keep what they had.
use Rattle.std.specs.Prelude.{ℕ, ◌+◌, ◌*◌, ◌≤◌, ◌≡◌, List, length, set}
use Rattle.meaning.specs.Facts.{Kind, Fact, Board}
use Rattle.files.specs.InPlace.{Read, records_at, fact_at}
use Rattle.rows.specs.declared.Count.{Count}
use Rattle.rows.specs.declared.Loaded.{Loaded}
use Rattle.rows.specs.Held.{notices_from, with_four, kinds_with, numbers_with}

-- how many cards and notices a board has
abbrev pub count_of : Board → Count
count_of board = record { cards = length board.cards; notices = length board.notices }

abbrev pub loaded_kinds : List ℕ → Board → List ℕ
loaded_kinds kind board = kinds_with (kinds_with kind 0 board.cards) notices_from board.notices

abbrev pub loaded_numbers : List ℕ → Board → List ℕ
loaded_numbers numbers board = numbers_with (numbers_with numbers 0 board.cards) notices_from board.notices

-- what loading a board leaves: its count, and every element of the two arrays
pub record BoardLoaded (board : Board) (kind₀ numbers₀ kind₁ numbers₁ : List ℕ) (r : Count) : Type 0 where
  pub count : r ≡ count_of board
  pub kinds : kind₁ ≡ loaded_kinds kind₀ board
  pub numbers : numbers₁ ≡ loaded_numbers numbers₀ board

-- ---- its parts

-- the facts of one class: at most so many records that have the mark, from a place on
abbrev pub class_at : List ℕ → List Kind → List ℕ → ℕ → ℕ → Read (List Fact)
class_at file kinds mark most at = records_at file mark (fact_at file kinds) most at

-- what loading a class leaves: how many facts there are and the place after them, and the facts in the rows from the first on; a row takes 513
-- bytes at most
pub record ClassLoaded (facts : Read (List Fact)) (most from first : ℕ) (kind₀ numbers₀ kind₁ numbers₁ : List ℕ) (r : Loaded) : Type 0 where
  pub rows : r.rows ≡ length facts.value
  pub next : r.next ≡ facts.next
  pub near : r.next ≤ from + 513 * most
  pub kinds : kind₁ ≡ kinds_with kind₀ first facts.value
  pub numbers : numbers₁ ≡ numbers_with numbers₀ first facts.value

-- the same of one fact
pub record RowLoaded (fact : Read Fact) (at row : ℕ) (kind₀ numbers₀ kind₁ numbers₁ : List ℕ) (r : ℕ) : Type 0 where
  pub next : r ≡ fact.next
  pub near : r ≤ at + 511
  pub kinds : kind₁ ≡ set kind₀ row fact.value.kind
  pub numbers : numbers₁ ≡ with_four numbers₀ (4 * row) fact.value.numbers
