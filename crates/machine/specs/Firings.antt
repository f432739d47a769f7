-- One firing over the arrays: the made facts laid out by their class, the board after them, what a firing may be asked of and what it answers.
use Rattle.std.specs.Prelude.{◌≡◌, ℕ, ◌+◌, ◌*◌, ◌≤◌, ◌<◌, Bool, true, false, List, length, get_or, Option, Some, None}
use Rattle.meaning.specs.Basics.{All}
use Rattle.meaning.specs.Facts.{Kind, Fact, Board, most_kinds, most_cards, most_notices}
use Rattle.meaning.specs.Firing.{of_class, settle, quiet, full, fired, Attempt, done, spent, stuck}
use Rattle.meaning.specs.Words.{strip_kinds, attempt}
use Rattle.meaning.specs.WellFormed.{GoodStrip}
use Rattle.files.specs.Strip.{words_at}
use Rattle.kinds.specs.declared.Kinds.{Kinds}
use Rattle.kinds.specs.Listed.{kinds_of}
use Rattle.rows.specs.declared.Count.{Count}
use Rattle.rows.specs.Held.{Sized, rows_from, facts_from}
use Rattle.settling.specs.SettlesLaws.{firing_of}
use Rattle.runs.specs.Runs.{board_in}
use Rattle.machine.specs.declared.firing.Look.{Look}
use Rattle.machine.specs.declared.firing.Look.TheVariants.{Quiet, Full, Spent, Stuck, Fired}
use Rattle.machine.specs.Represents.{used_of}

-- ---- the made facts

-- so many, in the order in which they were made
abbrev pub made_facts : List Kind → List ℕ → List ℕ → ℕ → List Fact
made_facts kinds made_kind made_numbers n = facts_from kinds made_kind made_numbers 0 n

-- those of a class stand from a row on; the arrays keep their sizes, and the rows before it what they had
pub record ClassLaid (kinds : List Kind) (card : Bool) (made_kind made_numbers : List ℕ) (n first : ℕ) (kind numbers kind' numbers' : List ℕ) : Type 0 where
  pub is : facts_from kinds kind' numbers' first (length (of_class kinds card (made_facts kinds made_kind made_numbers n))) ≡ of_class kinds card (made_facts kinds made_kind made_numbers n)
  pub rows : length kind' ≡ length kind
  pub places : length numbers' ≡ length numbers
  pub kept : (r m : ℕ) → r + m ≤ first → rows_from kind' numbers' r m ≡ rows_from kind numbers r m

-- ---- the board after

-- arrays of their sizes, and made facts of declared kinds, so many of each class
pub record MadeReady (kinds : List Kind) (kind numbers : List ℕ) (count : Count) (made_kind made_numbers : List ℕ) (cards notices : ℕ) : Type 0 where
  pub sized : Sized kind numbers
  pub few_cards : count.cards ≤ most_cards
  pub few_notices : count.notices ≤ most_notices
  pub cards_are : cards ≡ length (of_class kinds true (made_facts kinds made_kind made_numbers (cards + notices)))
  pub notices_are : notices ≡ length (of_class kinds false (made_facts kinds made_kind made_numbers (cards + notices)))
  pub cards_size : cards ≤ most_cards
  pub notices_size : notices ≤ most_notices
  pub declared : (j : ℕ) → j < cards + notices → get_or made_kind j 0 < length kinds

-- nothing fired: the board is as it was; else so many rows fit the arrays
abbrev pub AfterMade : List Kind → List ℕ → List ℕ → Count → List ℕ → List ℕ → Option Count → Type 0
AfterMade kinds kind numbers count kind' numbers' None = board_in kinds kind' numbers' count ≡ board_in kinds kind numbers count
AfterMade kinds kind numbers count kind' numbers' (Some after) = (after.cards ≤ most_cards) × (after.notices ≤ most_notices)

-- the firing is that of the used cards and the made facts, whatever rule it is of
pub record MadeSettled (kinds : List Kind) (kind numbers : List ℕ) (count : Count) (marks made_kind made_numbers : List ℕ) (cards notices : ℕ) (kind' numbers' : List ℕ) (r : Option Count) : Type 0 where
  pub is : (rule : ℕ) → firing_of kinds kind' numbers' rule r ≡ settle kinds (board_in kinds kind numbers count) rule (record { used = used_of marks; made = made_facts kinds made_kind made_numbers (cards + notices) })
  pub board : AfterMade kinds kind numbers count kind' numbers' r
  pub sized : Sized kind' numbers'

-- ---- one firing

-- the kinds of facts are declared
abbrev pub Declared : List Kind → List Fact → Type 0
Declared kinds facts = All (λ f. f.kind < length kinds) facts

abbrev pub AllDeclared : List Kind → Board → Type 0
AllDeclared kinds board = Declared kinds board.cards × Declared kinds board.notices

-- an accepted strip in whole words, and its kinds
pub record Known (strip : List ℕ) (kinds : Kinds) : Type 0 where
  pub good : GoodStrip (words_at strip)
  pub whole : length strip ≡ 8 * length (words_at strip)
  pub kinds_size : kinds.count ≤ most_kinds
  pub listed : kinds_of kinds ≡ strip_kinds (words_at strip)

-- beside it, arrays of their sizes with rows of these kinds: what a run keeps from firing to firing
pub record Playable (strip : List ℕ) (kinds : Kinds) (kind numbers : List ℕ) (count : Count) : Type 0 where
  pub known : Known strip kinds
  pub sized : Sized kind numbers
  pub cards : count.cards ≤ most_cards
  pub notices : count.notices ≤ most_notices
  pub declared : AllDeclared (kinds_of kinds) (board_in (kinds_of kinds) kind numbers count)

-- the attempt that the answer stands for, with the board that the arrays hold afterwards
abbrev pub attempt_of : List Kind → List ℕ → List ℕ → Look → Attempt
attempt_of kinds kind numbers Quiet = done quiet
attempt_of kinds kind numbers Full = done full
attempt_of kinds kind numbers Spent = spent
attempt_of kinds kind numbers Stuck = stuck
attempt_of kinds kind numbers (Fired rule count) = done (fired rule (board_in kinds kind numbers count))

-- the rows in use afterwards: without a firing those before
abbrev pub count_after : Count → Look → Count
count_after count Quiet = count
count_after count Full = count
count_after count Spent = count
count_after count Stuck = count
count_after count (Fired rule after) = after

-- without a firing the board stays
abbrev pub Stays : Board → Board → Look → Type 0
Stays before after Quiet = after ≡ before
Stays before after Full = after ≡ before
Stays before after Spent = after ≡ before
Stays before after Stuck = after ≡ before
Stays before after (Fired rule count) = Unit {0}

pub record Looked (strip : List ℕ) (allowance : ℕ) (kinds : List Kind) (kind numbers : List ℕ) (count : Count) (look : Look) (kind' numbers' : List ℕ) : Type 0 where
  pub is : attempt (words_at strip) allowance (board_in kinds kind numbers count) ≡ attempt_of kinds kind' numbers' look
  pub stays : Stays (board_in kinds kind numbers count) (board_in kinds kind' numbers' count) look
  pub cards : (count_after count look).cards ≤ most_cards
  pub notices : (count_after count look).notices ≤ most_notices
  pub sized : Sized kind' numbers'
  pub declared : AllDeclared kinds (board_in kinds kind' numbers' (count_after count look))
