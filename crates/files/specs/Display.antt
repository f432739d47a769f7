-- What the display program prints (document 01, 'Known boards', last paragraph), byte for byte, for the files `book` and `board`.
use Rattle.std.specs.Prelude.{ℕ, zero, suc, ◌+◌, ◌/◌, ◌%◌, List, [], ◌∷◌, ◌++◌, ltb, if◌then◌else◌}
use Rattle.meaning.specs.Facts.{Fact}
use Rattle.meaning.specs.Firing.{Ran, run}
use Rattle.files.specs.Numbers.{Refusal, refusal_number, end_number}
use Rattle.files.specs.Judge.{Verdict, accepted, refused}
use Rattle.files.specs.Board.{judge_board}
use Rattle.files.specs.Book.{judge_book}
use Rattle.files.specs.Encode.{concat_map}

-- ---- the words it prints, in ASCII

-- "fired "
abbrev pub fired_text : List ℕ
fired_text = 102 ∷ 105 ∷ 114 ∷ 101 ∷ 100 ∷ 32 ∷ []

-- " end "
abbrev pub end_text : List ℕ
end_text = 32 ∷ 101 ∷ 110 ∷ 100 ∷ 32 ∷ []

-- " rule "
abbrev pub rule_text : List ℕ
rule_text = 32 ∷ 114 ∷ 117 ∷ 108 ∷ 101 ∷ 32 ∷ []

-- "card "
abbrev pub card_text : List ℕ
card_text = 99 ∷ 97 ∷ 114 ∷ 100 ∷ 32 ∷ []

-- "notice "
abbrev pub notice_text : List ℕ
notice_text = 110 ∷ 111 ∷ 116 ∷ 105 ∷ 99 ∷ 101 ∷ 32 ∷ []

-- "refused "
abbrev pub refused_text : List ℕ
refused_text = 114 ∷ 101 ∷ 102 ∷ 117 ∷ 115 ∷ 101 ∷ 100 ∷ 32 ∷ []

-- "book "
abbrev pub book_text : List ℕ
book_text = 98 ∷ 111 ∷ 111 ∷ 107 ∷ 32 ∷ []

-- "board "
abbrev pub board_text : List ℕ
board_text = 98 ∷ 111 ∷ 97 ∷ 114 ∷ 100 ∷ 32 ∷ []

abbrev pub space : List ℕ
space = 32 ∷ []

abbrev pub newline : List ℕ
newline = 10 ∷ []

-- ---- numbers in decimal

-- the digits of n before those that follow; a number of 64 bits has 20 at most
unfoldable pub digits_before : ℕ → ℕ → List ℕ → List ℕ
digits_before zero n digits = digits
digits_before (suc left) n digits =
    let more = digits_before left (n / 10) ((48 + n % 10) ∷ digits) in if ltb n 10 then (48 + n) ∷ digits else more

abbrev pub decimal : ℕ → List ℕ
decimal n = digits_before 20 n []

-- ---- lines

-- "then each row's kind and numbers": single spaces, no blank after the last
abbrev pub row_line : List ℕ → Fact → List ℕ
row_line text f = text ++ (decimal f.kind ++ (concat_map (λ n. space ++ decimal n) f.numbers ++ newline))

abbrev pub ran_lines : Ran → List ℕ
ran_lines ran =
    fired_text ++ (decimal ran.firings ++ (end_text ++ (decimal (end_number ran.end) ++ (rule_text ++ (decimal ran.rule ++ newline)))))
    ++ (concat_map (row_line card_text) ran.board.cards ++ concat_map (row_line notice_text) ran.board.notices)

-- "a refusal is the one line `refused`, file name, number, place"
abbrev pub refused_line : List ℕ → Refusal → ℕ → List ℕ
refused_line file why place = refused_text ++ (file ++ (decimal (refusal_number why) ++ (space ++ (decimal place ++ newline))))

abbrev pub or_refused_line : {S : Type 0} → List ℕ → Verdict S → (S → List ℕ) → List ℕ
or_refused_line file (accepted s) next = next s
or_refused_line file (refused why place) next = refused_line file why place

-- "runs the plain runner with limit 100"
abbrev pub display_limit : ℕ
display_limit = 100

unfoldable pub display : List ℕ → List ℕ → List ℕ
display book_file board_file =
    or_refused_line book_text (judge_book book_file) λ b.
    or_refused_line board_text (judge_board b.kinds board_file) λ rows.
    ran_lines (run b display_limit rows)
