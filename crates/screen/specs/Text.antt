-- What a screen shows of an answer (document 01, the display program): the run's end and each row, or the one line of a refusal.
use Rattle.std.specs.Prelude.{ℕ, List, [], ◌∷◌, ◌++◌, eqb, ltb, if◌then◌else◌}
use Rattle.meaning.specs.Facts.{Board}
use Rattle.files.specs.Numbers.{Answer}
use Rattle.files.specs.Encode.{concat_map}
use Rattle.files.specs.Display.{fired_text, end_text, rule_text, card_text, notice_text, refused_text, book_text, board_text, space, newline, decimal, row_line}

-- "strip "
abbrev pub strip_text : List ℕ
strip_text = 115 ∷ 116 ∷ 114 ∷ 105 ∷ 112 ∷ 32 ∷ []

-- "output "
abbrev pub output_text : List ℕ
output_text = 111 ∷ 117 ∷ 116 ∷ 112 ∷ 117 ∷ 116 ∷ 32 ∷ []

-- "accepted"
abbrev pub accepted_text : List ℕ
accepted_text = 97 ∷ 99 ∷ 99 ∷ 101 ∷ 112 ∷ 116 ∷ 101 ∷ 100 ∷ []

-- the file that an answer is about, by its number
abbrev pub file_text : ℕ → List ℕ
file_text file =
    if eqb file 1 then book_text else if eqb file 2 then strip_text else if eqb file 3 then board_text else output_text

abbrev pub accepted_line : List ℕ
accepted_line = accepted_text ++ newline

-- "a refusal is the one line `refused`, file name, number, place"
abbrev pub refusal_line : Answer → List ℕ
refusal_line a =
    refused_text ++ (file_text a.file ++ (decimal a.number ++ (space ++ (decimal a.place ++ newline))))

-- "end and rule by number"
abbrev pub end_line : Answer → List ℕ
end_line a =
    fired_text ++ (decimal a.firings ++ (end_text ++ (decimal a.number ++ (rule_text ++ (decimal a.rule ++ newline)))))

-- "then each row's kind and numbers"
abbrev pub board_lines : Board → List ℕ
board_lines board = concat_map (row_line card_text) board.cards ++ concat_map (row_line notice_text) board.notices

-- a row's numbers, each behind a space
abbrev pub numbers_text : List ℕ → List ℕ
numbers_text numbers = concat_map (λ n. space ++ decimal n) numbers

-- ends have the numbers from 20 on
unfoldable pub answer_text : Answer → Board → List ℕ
answer_text a board =
    if eqb a.number 0 then accepted_line
    else if ltb a.number 20 then refusal_line a
    else end_line a ++ board_lines board
