-- Worked examples of the files: a book with everything in it, each refusal with its place, the order of judging, and what the entries answer.
-- (The known boards K1 to K10 stand in crates/promises.)
use Rattle.std.specs.Prelude.{◌≡◌, refl, ℕ, true, false, List, [], ◌∷◌, ◌++◌, replicate}
use Rattle.meaning.specs.Basics.{first, fold}
use Rattle.meaning.specs.Facts.{Board}
use Rattle.meaning.specs.Rules.{constant, variable, equal, less, less_or_equal, Book}
use Rattle.meaning.specs.Fit.{agree_all, hold_all, fit, numbered, spread, choices, first_fit}
use Rattle.meaning.specs.Firing.{run_sweep, run_sweeps, unused_rows, of_class, fire_from, fire, repeat, run}
use Rattle.meaning.specs.Words.{KIND, OPEN, SEEK, TEST, JUMP, QUIET}
use Rattle.meaning.specs.Translation.{bound_by_terms, bound_by, argument_words, test_words, body_words, body_length, arg_words, head_words, head_length, sweep_length, sweeps_length, resume, sweep_words, sweeps_words, rule_length, rule_words, rules_words, translate}
use Rattle.files.specs.Numbers.{CUT, MARK, PLACE, NOCARD, BARE, MANY, FIELD, LOOSE, TRAIL, STRIP}
use Rattle.files.specs.Marks.{KD, RU, BA, TE, HE, SW, CA, NO, EN}
use Rattle.files.specs.InPlace.{records_at, many_at, groups_at, rule_at, board_at, kinds_at, book_at}
use Rattle.files.specs.Judge.{accepted, refused, judge}
use Rattle.files.specs.Board.{board_record, judge_board}
use Rattle.files.specs.Book.{book_record, judge_book}
use Rattle.files.specs.Strip.{words_at, judge_words, judge_strip}
use Rattle.files.specs.Encode.{concat_map, encode_board, encode_groups, encode_book, encode_strip}
use Rattle.files.specs.Entries.{bytes_after, run_book_file, translate_file}

-- ---- a book with everything in it

-- Kinds: 0 tally(D, N), a card; 1 day(D), a card; 2 open(D), a notice. Rule 0: day(D), if D ≤ 300, makes day(0), with the sweep tally(D, N),
-- open(D), if N < 7, to open(N).
abbrev day_book : Book
day_book = record {
  kinds = record { card = true; arity = 2 } ∷ record { card = true; arity = 1 } ∷ record { card = false; arity = 1 } ∷ [];
  rules = record {
    body = record { kind = 1; terms = variable 3 ∷ [] } ∷ [];
    tests = record { comparison = less_or_equal; left = variable 3; right = constant 300 } ∷ [];
    heads = record { kind = 1; terms = constant 0 ∷ [] } ∷ [];
    sweeps = record {
      body = record { kind = 0; terms = variable 3 ∷ variable 4 ∷ [] } ∷ record { kind = 2; terms = variable 3 ∷ [] } ∷ [];
      tests = record { comparison = less; left = variable 4; right = constant 7 } ∷ [];
      heads = record { kind = 2; terms = variable 4 ∷ [] } ∷ [];
    } ∷ [];
  } ∷ [];
}

abbrev day_bytes : List ℕ
day_bytes =
    107 ∷ 100 ∷ 0 ∷ 2 ∷ 107 ∷ 100 ∷ 0 ∷ 1 ∷ 107 ∷ 100 ∷ 1 ∷ 1
    ∷ 114 ∷ 117
    ∷ 98 ∷ 97 ∷ 1 ∷ 1 ∷ 3 ∷ 0
    ∷ 116 ∷ 101 ∷ 3 ∷ 1 ∷ 3 ∷ 0 ∷ 0 ∷ 44 ∷ 1
    ∷ 104 ∷ 101 ∷ 1 ∷ 0 ∷ 0 ∷ 0
    ∷ 115 ∷ 119
    ∷ 98 ∷ 97 ∷ 0 ∷ 1 ∷ 3 ∷ 0 ∷ 1 ∷ 4 ∷ 0
    ∷ 98 ∷ 97 ∷ 2 ∷ 1 ∷ 3 ∷ 0
    ∷ 116 ∷ 101 ∷ 2 ∷ 1 ∷ 4 ∷ 0 ∷ 0 ∷ 7 ∷ 0
    ∷ 104 ∷ 101 ∷ 2 ∷ 1 ∷ 4 ∷ 0
    ∷ 101 ∷ 110 ∷ []

-- its bytes, judged and read in place
day_book_lem : (encode_book day_book ≡ day_bytes) × (judge_book day_bytes ≡ accepted day_book) × (book_at day_bytes ≡ day_book)
unfolding concat_map encode_groups encode_book judge book_record judge_book records_at many_at groups_at rule_at kinds_at book_at
day_book_lem = (refl, refl, refl)

abbrev day_board : Board
day_board = record { cards = record { kind = 1; numbers = 260 ∷ [] } ∷ record { kind = 0; numbers = 260 ∷ 2 ∷ [] } ∷ []; notices = record { kind = 2; numbers = 260 ∷ [] } ∷ [] }

abbrev day_board_bytes : List ℕ
day_board_bytes = 99 ∷ 97 ∷ 1 ∷ 4 ∷ 1 ∷ 99 ∷ 97 ∷ 0 ∷ 4 ∷ 1 ∷ 2 ∷ 0 ∷ 110 ∷ 111 ∷ 2 ∷ 4 ∷ 1 ∷ 101 ∷ 110 ∷ []

day_board_lem : (encode_board day_board ≡ day_board_bytes) × (judge_board day_book.kinds day_board_bytes ≡ accepted day_board) × (board_at day_board_bytes day_book.kinds ≡ day_board)
unfolding concat_map encode_board judge board_record judge_board records_at many_at board_at
day_board_lem = (refl, refl, refl)

-- its strip, judged and read in place
day_strip : (judge_strip (encode_strip (translate day_book)) ≡ accepted (translate day_book)) × (words_at (encode_strip (translate day_book)) ≡ translate day_book)
unfolding concat_map encode_strip bound_by_terms bound_by argument_words test_words body_words body_length arg_words head_words head_length sweep_length sweeps_length resume sweep_words sweeps_words rule_length rule_words rules_words translate many_at words_at judge_words judge_strip
day_strip = (refl, refl)

-- ---- refusals of a book, with their places

-- one card kind with one number, and an open rule
abbrev opened : List ℕ
opened = KD ++ (0 ∷ 1 ∷ []) ++ RU

-- its body: x(variable 0)
abbrev body : List ℕ
body = BA ++ (0 ∷ 1 ∷ 0 ∷ 0 ∷ [])

book_refusals :
    (judge_book (107 ∷ []) ≡ refused CUT 1)
    × (judge_book (opened ++ BA ++ (0 ∷ 1 ∷ 0 ∷ [])) ≡ refused CUT 11)
    × (judge_book (KD ++ (0 ∷ 1 ∷ []) ++ CA) ≡ refused MARK 4)
    × (judge_book (BA ++ []) ≡ refused PLACE 0)
    × (judge_book (opened ++ body ++ HE ++ (0 ∷ 0 ∷ 0 ∷ 0 ∷ []) ++ BA) ≡ refused PLACE 18)
    × (judge_book (opened ++ EN) ≡ refused NOCARD 6)
    × (judge_book (opened ++ body ++ SW ++ TE) ≡ refused BARE 14)
    × (judge_book (opened ++ body ++ SW ++ body ++ SW ++ body ++ SW) ≡ refused MANY 28)
    × (judge_book (KD ++ (2 ∷ [])) ≡ refused FIELD 0)
    × (judge_book (opened ++ BA ++ (1 ∷ [])) ≡ refused FIELD 6)
    × (judge_book (opened ++ body ++ TE ++ (0 ∷ 1 ∷ 5 ∷ 0 ∷ [])) ≡ refused LOOSE 12)
    × (judge_book (EN ++ (0 ∷ 0 ∷ [])) ≡ refused TRAIL 2)
unfolding judge book_record judge_book
book_refusals = (refl, refl, refl, refl, refl, refl, refl, refl, refl, refl, refl, refl)

-- where two could be given: a misplaced `ba` in a rule without a card is PLACE; `te` after an empty body is NOCARD before its fields are cut;
-- a third sweep after an empty one is BARE, not MANY; a loose left term comes before a cut right one; a bad tag before its cut value;
-- a variable over 11 is FIELD, not LOOSE
judging_order :
    (judge_book (opened ++ BA ++ (0 ∷ 0 ∷ 0 ∷ 0 ∷ []) ++ HE ++ (0 ∷ 0 ∷ 0 ∷ 0 ∷ []) ++ BA) ≡ refused PLACE 18)
    × (judge_book (opened ++ TE) ≡ refused NOCARD 6)
    × (judge_book (opened ++ body ++ SW ++ body ++ SW ++ SW) ≡ refused BARE 22)
    × (judge_book (opened ++ body ++ TE ++ (0 ∷ 1 ∷ 5 ∷ 0 ∷ 1 ∷ [])) ≡ refused LOOSE 12)
    × (judge_book (opened ++ body ++ TE ++ (0 ∷ 2 ∷ [])) ≡ refused FIELD 12)
    × (judge_book (opened ++ body ++ TE ++ (0 ∷ 1 ∷ 12 ∷ 0 ∷ [])) ≡ refused FIELD 12)
unfolding judge book_record judge_book
judging_order = (refl, refl, refl, refl, refl, refl)

-- ---- refusals of a board and of a strip

board_refusals :
    (judge_board day_book.kinds (99 ∷ 97 ∷ 1 ∷ 4 ∷ []) ≡ refused CUT 4)
    × (judge_board day_book.kinds (RU ++ []) ≡ refused MARK 0)
    × (judge_board day_book.kinds (NO ++ (2 ∷ 4 ∷ 1 ∷ []) ++ CA) ≡ refused PLACE 5)
    × (judge_board day_book.kinds (CA ++ (2 ∷ [])) ≡ refused FIELD 0)
    × (judge_board day_book.kinds (NO ++ (3 ∷ [])) ≡ refused FIELD 0)
    × (judge_board [] (EN ++ EN) ≡ refused TRAIL 2)
unfolding judge board_record judge_board
board_refusals = (refl, refl, refl, refl, refl, refl)

strip_refusals :
    (judge_strip [] ≡ refused STRIP 0)
    × (judge_strip (replicate 9 0) ≡ refused STRIP 0)
    × (judge_strip (encode_strip (JUMP 1 ∷ [])) ≡ refused STRIP 0)
    × (judge_strip (encode_strip (QUIET ∷ KIND true 1 ∷ QUIET ∷ [])) ≡ refused STRIP 1)
    × (judge_strip (encode_strip (SEEK 0 0 0 ∷ KIND true 1 ∷ QUIET ∷ [])) ≡ refused STRIP 0)
    × (judge_strip (encode_strip (KIND true 1 ∷ OPEN 13 ∷ [])) ≡ refused STRIP 1)
    × (judge_strip (encode_strip (KIND true 1 ∷ OPEN 14 ∷ QUIET ∷ [])) ≡ refused STRIP 1)
    × (judge_strip (encode_strip (TEST (record { comparison = equal; left = constant 12; right = variable 12 }) 1 ∷ QUIET ∷ [])) ≡ refused STRIP 0)
    × (judge_strip (12 ∷ 0 ∷ 0 ∷ 0 ∷ 0 ∷ 0 ∷ 1 ∷ 0 ∷ []) ≡ refused STRIP 0)
    × (judge_strip (13 ∷ 0 ∷ 0 ∷ 0 ∷ 0 ∷ 0 ∷ 0 ∷ 0 ∷ []) ≡ refused STRIP 0)
unfolding concat_map encode_strip judge_words judge_strip
strip_refusals = (refl, refl, refl, refl, refl, refl, refl, refl, refl, refl)

-- ---- entries

-- "Book or strip is judged first, then board, then SHORT": with all three bad, with board and output bad, with the output a byte short, and with
-- all good, where the byte past the board is kept
entries_in_order :
    ((run_book_file [] [] 5 0).answer ≡ record { number = 1; file = 1; place = 0; length = 0; firings = 0; rule = 255 })
    × ((run_book_file day_bytes (CA ++ []) 5 0).answer ≡ record { number = 1; file = 3; place = 2; length = 0; firings = 0; rule = 255 })
    × ((run_book_file day_bytes day_board_bytes 1 4225).answer ≡ record { number = 10; file = 4; place = 0; length = 0; firings = 0; rule = 255 })
    × ((run_book_file day_bytes day_board_bytes 1 4226).answer ≡ record { number = 21; file = 0; place = 0; length = 17; firings = 1; rule = 0 })
    × ((translate_file day_bytes 44807).answer ≡ record { number = 10; file = 4; place = 0; length = 0; firings = 0; rule = 255 })
    × ((translate_file day_bytes 44808).answer ≡ record { number = 0; file = 0; place = 0; length = 192; firings = 0; rule = 255 })
    × (bytes_after (run_book_file day_bytes day_board_bytes 1 4226) (replicate 18 9) ≡ 99 ∷ 97 ∷ 1 ∷ 0 ∷ 0 ∷ 110 ∷ 111 ∷ 2 ∷ 4 ∷ 1 ∷ 110 ∷ 111 ∷ 2 ∷ 2 ∷ 0 ∷ 101 ∷ 110 ∷ 9 ∷ [])
    × (bytes_after (run_book_file day_bytes day_board_bytes 1 17) (replicate 3 9) ≡ replicate 3 9)
unfolding first fold agree_all hold_all fit numbered spread choices first_fit run_sweep run_sweeps unused_rows of_class fire_from fire repeat run bound_by_terms bound_by argument_words test_words body_words body_length arg_words head_words head_length sweep_length sweeps_length resume sweep_words sweeps_words rule_length rule_words rules_words translate concat_map encode_board encode_strip judge book_record judge_book board_record judge_board bytes_after run_book_file translate_file
entries_in_order = (refl, refl, refl, refl, refl, refl, refl, refl)
