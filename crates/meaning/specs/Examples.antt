-- Worked examples: each definition computes what its sentence says. (The known boards K1 to K10 stand in crates/promises.)
use Rattle.std.specs.Prelude.{◌≡◌, refl, ℕ, true, false, List, [], ◌∷◌, map, replicate}
use Rattle.meaning.specs.Basics.{first, fold}
use Rattle.meaning.specs.Facts.{Kind, Fact, Board}
use Rattle.meaning.specs.Rules.{Term, constant, variable, Atom, equal, unequal, less, less_or_equal, compare, Book}
use Rattle.meaning.specs.Fit.{Row, agree_all, hold_all, fit, numbered, spread, choices, first_fit}
use Rattle.meaning.specs.Firing.{run_sweep, run_sweeps, unused_rows, of_class, has_room, quiet, fired, fire_from, fire, done, spent, stuck, Quiet, Limit, ended, repeat, run}
use Rattle.meaning.specs.Words.{KIND, OPEN, SEEK, BIND, SAME, KEEP, PUT, ARG, JUMP, FIRE, QUIET, held_by, next_row, on_last, step, start, attempt_from, attempt}
use Rattle.meaning.specs.Translation.{bound_by_terms, bound_by, argument_words, test_words, body_words, body_length, arg_words, head_words, head_length, sweep_length, sweeps_length, resume, sweep_words, sweeps_words, rule_length, rule_words, rules_words, translate}

abbrev cards : ℕ → Kind
cards arity = record { card = true; arity = arity }

abbrev notices : ℕ → Kind
notices arity = record { card = false; arity = arity }

abbrev atom : ℕ → List Term → Atom
atom kind terms = record { kind = kind; terms = terms }

abbrev fact : ℕ → List ℕ → Fact
fact kind numbers = record { kind = kind; numbers = numbers }

abbrev board : List Fact → List Fact → Board
board cards notices = record { cards = cards; notices = notices }

abbrev X : Term
X = variable 0

abbrev Y : Term
Y = variable 1

-- Kinds: 0 yarn(X), a card; 1 machine(Y), a card; 2 shift(), a card; 3 suits(X, Y), a notice; 4 booked(X, Y), a card.
abbrev kinds : List Kind
kinds = cards 1 ∷ cards 1 ∷ cards 0 ∷ notices 2 ∷ cards 2 ∷ []

-- ---- choices and fits

-- by the first atom's row, then the second's
choices_in_order :
    map (map (λ (r : Row). r.at)) (choices kinds (board (fact 0 (7 ∷ []) ∷ fact 1 (1 ∷ []) ∷ []) []) (atom 0 (X ∷ []) ∷ atom 1 (Y ∷ []) ∷ []))
    ≡ (0 ∷ 0 ∷ []) ∷ (0 ∷ 1 ∷ []) ∷ (1 ∷ 0 ∷ []) ∷ (1 ∷ 1 ∷ []) ∷ []
unfolding choices numbered spread
choices_in_order = refl

-- the four tests at equal numbers
tests_at_equal_numbers :
    (compare equal 3 3 ≡ true) × (compare unequal 3 3 ≡ false) × (compare less 3 3 ≡ false) × (compare less_or_equal 3 3 ≡ true)
tests_at_equal_numbers = (refl, refl, refl, refl)

-- Rule: yarn(X), yarn(Y), if X < Y, makes booked(X, Y).
abbrev pair_book : Book
pair_book = record {
  kinds = kinds;
  rules = record {
    body = atom 0 (X ∷ []) ∷ atom 0 (Y ∷ []) ∷ [];
    tests = record { comparison = less; left = X; right = Y } ∷ [];
    heads = atom 4 (X ∷ Y ∷ []) ∷ [];
    sweeps = [];
  } ∷ [];
}

-- two equal cards are two cards, and one card is not two
equal_cards_apart : fire pair_book (board (fact 0 (9 ∷ []) ∷ fact 0 (5 ∷ []) ∷ fact 0 (5 ∷ []) ∷ []) [])
    ≡ fired 0 (board (fact 0 (5 ∷ []) ∷ fact 4 (5 ∷ 9 ∷ []) ∷ []) [])
unfolding first fold agree_all hold_all fit numbered spread choices first_fit run_sweep run_sweeps unused_rows of_class fire_from fire
equal_cards_apart = refl

-- the run of that book: three yarns make one pair; a limit of 0 ends at once
pair_run : (run pair_book 9 (board (fact 0 (9 ∷ []) ∷ fact 0 (5 ∷ []) ∷ fact 0 (5 ∷ []) ∷ []) [])
    ≡ ended Quiet (board (fact 0 (5 ∷ []) ∷ fact 4 (5 ∷ 9 ∷ []) ∷ []) []) 1 0)
    × (run pair_book 0 (board [] []) ≡ ended Limit (board [] []) 0 255)
unfolding first fold agree_all hold_all fit numbered spread choices first_fit run_sweep run_sweeps unused_rows of_class fire_from fire repeat run
pair_run = (refl, refl)

-- "If that exceeds 256 cards or 128 notices": 256 and 128 have room, one more of either has not
room : (has_room (board (replicate 256 (fact 2 [])) (replicate 128 (fact 3 []))) ≡ true)
    × (has_room (board (replicate 257 (fact 2 [])) []) ≡ false)
    × (has_room (board [] (replicate 129 (fact 3 []))) ≡ false)
room = (refl, refl, refl)

-- ---- sweeps

-- Rule: shift() makes yarn(2), with the sweep yarn(X), machine(Y), suits(X, Y) to booked(X, Y).
abbrev shift_book : Book
shift_book = record {
  kinds = kinds;
  rules = record {
    body = atom 2 [] ∷ [];
    tests = [];
    heads = atom 0 (constant 2 ∷ []) ∷ [];
    sweeps = record {
      body = atom 0 (X ∷ []) ∷ atom 1 (Y ∷ []) ∷ atom 3 (X ∷ Y ∷ []) ∷ [];
      tests = [];
      heads = atom 4 (X ∷ Y ∷ []) ∷ [];
    } ∷ [];
  } ∷ [];
}

-- Yarn 1 suits machines 2 and 3, and yarn 2 suits machine 3. Yarn 1 takes machine 2, and no second machine. Yarn 2, made in this firing, is
-- seen by no sweep, so machine 3 stays free.
abbrev shift_board : Board
shift_board =
    board (fact 2 [] ∷ fact 0 (1 ∷ []) ∷ fact 1 (2 ∷ []) ∷ fact 1 (3 ∷ []) ∷ []) (fact 3 (1 ∷ 2 ∷ []) ∷ fact 3 (1 ∷ 3 ∷ []) ∷ fact 3 (2 ∷ 3 ∷ []) ∷ [])

abbrev shift_after : Board
shift_after = board (fact 1 (3 ∷ []) ∷ fact 0 (2 ∷ []) ∷ fact 4 (1 ∷ 2 ∷ []) ∷ []) shift_board.notices

shift_sweep : fire shift_book shift_board ≡ fired 0 shift_after
unfolding first fold agree_all hold_all fit numbered spread choices first_fit run_sweep run_sweeps unused_rows of_class fire_from fire
shift_sweep = refl

-- ---- the strip

-- the words of the shift's rule: after a taken choice it goes on at the SEEK of its first card atom, word 11
shift_words : translate shift_book
    ≡ KIND true 1 ∷ KIND true 1 ∷ KIND true 0 ∷ KIND false 2 ∷ KIND true 2
    ∷ OPEN 0 ∷ SEEK 0 2 26 ∷ KEEP ∷ PUT 0 ∷ ARG 0 (constant 2)
    ∷ OPEN 6 ∷ SEEK 6 0 25 ∷ BIND 6 0 0
    ∷ OPEN 7 ∷ SEEK 7 1 11 ∷ BIND 7 0 1
    ∷ OPEN 8 ∷ SEEK 8 3 14 ∷ SAME 8 0 0 17 ∷ SAME 8 1 1 17
    ∷ KEEP ∷ PUT 4 ∷ ARG 0 X ∷ ARG 1 Y ∷ JUMP 11
    ∷ FIRE 0 ∷ QUIET ∷ []
unfolding bound_by_terms bound_by argument_words test_words body_words body_length arg_words head_words head_length sweep_length sweeps_length resume sweep_words sweeps_words rule_length rule_words rules_words translate
shift_words = refl

-- it fires as the book does, in exactly 22 steps
shift_strip : (attempt (translate shift_book) 21 shift_board ≡ spent) × (attempt (translate shift_book) 22 shift_board ≡ done (fired 0 shift_after))
unfolding bound_by_terms bound_by argument_words test_words body_words body_length arg_words head_words head_length sweep_length sweeps_length resume sweep_words sweeps_words rule_length rule_words rules_words translate held_by next_row on_last step start attempt_from attempt unused_rows of_class
shift_strip = (refl, refl)

-- SEEK passes over a row that another cursor holds: one card does not stand for two atoms
held_rows : attempt (KIND true 0 ∷ OPEN 0 ∷ SEEK 0 0 5 ∷ SEEK 1 0 5 ∷ FIRE 0 ∷ QUIET ∷ []) 9 (board (fact 0 [] ∷ []) []) ≡ done quiet
unfolding held_by next_row on_last step start attempt_from attempt unused_rows of_class
held_rows = refl

-- FIRE without KEEP uses nothing; past the end a cursor stays so; an argument that is not there sticks
small_strips :
    (attempt (KIND true 0 ∷ SEEK 0 0 0 ∷ FIRE 3 ∷ []) 9 (board (fact 0 [] ∷ []) []) ≡ done (fired 3 (board (fact 0 [] ∷ []) [])))
    × (attempt (KIND true 0 ∷ SEEK 0 0 2 ∷ SEEK 0 0 4 ∷ FIRE 3 ∷ QUIET ∷ []) 9 (board (fact 0 [] ∷ []) []) ≡ done quiet)
    × (attempt (KIND true 0 ∷ SEEK 0 0 3 ∷ BIND 0 0 0 ∷ QUIET ∷ []) 9 (board (fact 0 [] ∷ []) []) ≡ stuck)
    × (attempt (KIND true 1 ∷ ARG 0 (constant 7) ∷ QUIET ∷ []) 9 (board [] []) ≡ stuck)
    × (attempt (KIND true 1 ∷ PUT 0 ∷ ARG 0 (constant 7) ∷ FIRE 0 ∷ []) 9 (board [] []) ≡ done (fired 0 (board (fact 0 (7 ∷ []) ∷ []) [])))
    × (attempt (JUMP 0 ∷ []) 9 (board [] []) ≡ spent)
unfolding held_by next_row on_last step start attempt_from attempt unused_rows of_class
small_strips = (refl, refl, refl, refl, refl, refl)
