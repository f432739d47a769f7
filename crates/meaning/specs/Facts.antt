-- What the board knows, and the sizes (document 01, 'What the board knows' and 'Sizes').
use Rattle.std.specs.Prelude.{ℕ, Bool, true, false, List, get_or}

-- ---- Sizes: each is named here, once

-- "Kinds 0 to 32, rules 0 to 32."
abbrev pub most_kinds : ℕ
most_kinds = 32

abbrev pub most_rules : ℕ
most_rules = 32

-- "A rule: 1 to 6 body atoms, 0 to 6 tests, 0 to 6 head atoms, 0 to 2 sweeps."
abbrev pub most_in_rule : ℕ
most_in_rule = 6

abbrev pub most_sweeps : ℕ
most_sweeps = 2

-- "A sweep: 1 to 4 body atoms, 0 to 4 tests, 0 to 4 head atoms."
abbrev pub most_in_sweep : ℕ
most_in_sweep = 4

-- "Variables 0 to 11."
abbrev pub variables : ℕ
variables = 12

-- "Each fact has a kind and 0 to 4 numbers of 16 bits."
abbrev pub most_numbers : ℕ
most_numbers = 4

abbrev pub number_limit : ℕ
number_limit = 65536

-- "Board: 256 cards, 128 notices."
abbrev pub most_cards : ℕ
most_cards = 256

abbrev pub most_notices : ℕ
most_notices = 128

-- "Longest book 17,794 bytes, board 4,226, strip 44,808."
abbrev pub longest_book : ℕ
longest_book = 17794

abbrev pub longest_board : ℕ
longest_board = 4226

abbrev pub longest_strip : ℕ
longest_strip = 44808

-- ---- "A card is a linear fact, used once. A notice is a persistent fact, read and never used."

-- a kind is one of cards, or else of notices
pub record Kind : Type 0 where
  pub card : Bool
  pub arity : ℕ

pub record Fact : Type 0 where
  pub kind : ℕ
  pub numbers : List ℕ

-- "Rows are numbered from 0, cards and notices apart": a row's number is its place in its list
pub record Board : Type 0 where
  pub cards : List Fact
  pub notices : List Fact

-- ---- kinds are named by their number in the book

abbrev pub no_kind : Kind
no_kind = record { card = false; arity = 0 }

abbrev pub is_card : List Kind → ℕ → Bool
is_card kinds k = (get_or kinds k no_kind).card

abbrev pub arity_of : List Kind → ℕ → ℕ
arity_of kinds k = (get_or kinds k no_kind).arity

-- the rows of a class: of cards, or else of notices
abbrev pub rows_of : Board → Bool → List Fact
rows_of board true = board.cards
rows_of board false = board.notices
