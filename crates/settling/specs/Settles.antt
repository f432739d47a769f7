-- The arrays after a firing (document 01, 'Which firing', from "New cards" on). The firing's used card rows are marked by a byte that is not 0; its
-- made cards stand in arrays of their own, and its made notices already behind the notices.
use Rattle.std.specs.Prelude.{ℕ, zero, suc, ◌+◌, ◌≡◌, Option, Some, None, Bool, not, ◌&&◌, List, ◌++◌, length, get_or, eqb, leb, if◌then◌else◌}
use Rattle.meaning.specs.Facts.{Fact, most_cards, most_notices}
use Rattle.meaning.specs.Fit.{Marks}
use Rattle.meaning.specs.Firing.{unused_rows}
use Rattle.rows.specs.declared.Count.{Count}
use Rattle.rows.specs.Held.{rows_from, kinds_with, numbers_with}

abbrev pub used_in : List ℕ → Marks
used_in used = λ row. not (eqb (get_or used row 0) 0)

-- the rows that stay, of so many cards
abbrev pub kept_cards : List ℕ → List ℕ → List ℕ → ℕ → List Fact
kept_cards kind numbers used cards = unused_rows 0 (used_in used) (rows_from kind numbers 0 cards)

-- how many they are; of so many from a row on
unfoldable pub kept_count : List ℕ → ℕ → ℕ → ℕ
kept_count used row zero = 0
kept_count used row (suc n) = let more = kept_count used (suc row) n in if used_in used row then more else suc more

module _ (kind numbers : List ℕ) (count : Count) (used made_kind made_numbers : List ℕ) (made : Count) where
  -- "New cards: unused rows in old order, then made cards."
  abbrev pub new_cards : List Fact
  new_cards = kept_cards kind numbers used count.cards ++ rows_from made_kind made_numbers 0 made.cards

  -- a count that no arrays can have leaves no room either
  abbrev pub room_for : Bool
  room_for = leb count.cards most_cards && (leb (length new_cards) most_cards && leb (count.notices + made.notices) most_notices)

  -- so many rows afterwards, or none: FULL
  abbrev pub settled_as : Option Count
  settled_as = if room_for then Some (record { cards = length new_cards; notices = count.notices + made.notices }) else None

  -- "the firing hasn't happened": nothing changes; else the new cards stand from row 0 on, and rows past them keep what they had
  abbrev pub kinds_after : List ℕ
  kinds_after = if room_for then kinds_with kind 0 new_cards else kind

  abbrev pub numbers_after : List ℕ
  numbers_after = if room_for then numbers_with numbers 0 new_cards else numbers

  -- the answer, and every element of the two arrays
  pub record BoardSettled (kind₁ numbers₁ : List ℕ) (r : Option Count) : Type 0 where
    pub answer : r ≡ settled_as
    pub kinds : kind₁ ≡ kinds_after
    pub places : numbers₁ ≡ numbers_after
