-- The six entries, on bytes: for every input the answer, and every byte of the output afterwards (document 01, 'Numbers a terminal may show':
-- "Book or strip is judged first, then board, then SHORT.").
use Rattle.std.specs.Prelude.{ℕ, ◌≡◌, Bool, true, false, List, [], ◌++◌, length, drop, ltb, if◌then◌else◌}
use Rattle.std.proofs.Math.Option.{Option, none, some}
use Rattle.meaning.specs.Facts.{longest_board, longest_strip}
use Rattle.meaning.specs.Firing.{Ran, run}
use Rattle.meaning.specs.Words.{strip_kinds, run_strip}
use Rattle.meaning.specs.Translation.{translate}
use Rattle.files.specs.Numbers.{Refusal, SHORT, File, book, strip, board, output, Answer, refusal, acceptance, end_answer}
use Rattle.files.specs.Judge.{Verdict, accepted, refused}
use Rattle.files.specs.Board.{judge_board}
use Rattle.files.specs.Book.{judge_book}
use Rattle.files.specs.Strip.{judge_strip}
use Rattle.files.specs.Encode.{encode_board, encode_strip}

-- an answer, and the bytes written from the start of the output
pub record Outcome : Type 0 where
  pub answer : Answer
  pub written : List ℕ

-- "Refusals 1 to 11 write nothing"; a check writes nothing either
abbrev pub nothing_written : Answer → Outcome
nothing_written answer = record { answer = answer; written = [] }

-- the output afterwards: what is written, "bytes past it kept"
unfoldable pub bytes_after : Outcome → List ℕ → List ℕ
bytes_after outcome out = outcome.written ++ drop (length outcome.written) out

-- what a call gives, by its outcome: the answer, and every byte of the output afterwards
pub record Gives (outcome : Outcome) (out : List ℕ) (given : Answer) (out_after : List ℕ) : Type 0 where
  pub answer : given ≡ outcome.answer
  pub bytes : out_after ≡ bytes_after outcome out

-- go on with what an accepted file holds
abbrev pub if_accepted : {S : Type 0} → File → Verdict S → (S → Outcome) → Outcome
if_accepted file (accepted s) next = next s
if_accepted file (refused why place) next = nothing_written (refusal file why place)

-- a check that tells nothing accepts
abbrev pub tells_nothing : Option (Refusal × ℕ) → Bool
tells_nothing none = true
tells_nothing (some refusal) = false

-- the answer of a check, by what it tells
abbrev pub told_answer : File → Option (Refusal × ℕ) → Answer
told_answer file none = acceptance 0
told_answer file (some (why, place)) = refusal file why place

-- SHORT: "output under 4,226 bytes (translation: 44,808)", place 0
abbrev pub if_room : ℕ → ℕ → Outcome → Outcome
if_room least room next = if ltb room least then nothing_written (refusal output SHORT 0) else next

-- "these write the board as of the last completed firing, and give its length, firings done and the last fired rule"
abbrev pub run_outcome : Ran → Outcome
run_outcome ran =
    let bytes = encode_board ran.board in
    record { answer = end_answer ran.end (length bytes) ran.firings ran.rule; written = bytes }

-- ---- the entries; `room` is the output's length

unfoldable pub check_book : List ℕ → Outcome
check_book book_file = if_accepted book (judge_book book_file) λ b. nothing_written (acceptance 0)

unfoldable pub check_board : List ℕ → List ℕ → Outcome
check_board book_file board_file =
    if_accepted book (judge_book book_file) λ b. if_accepted board (judge_board b.kinds board_file) λ rows. nothing_written (acceptance 0)

unfoldable pub check_strip : List ℕ → Outcome
check_strip strip_file = if_accepted strip (judge_strip strip_file) λ words. nothing_written (acceptance 0)

unfoldable pub run_book_file : List ℕ → List ℕ → ℕ → ℕ → Outcome
run_book_file book_file board_file limit room =
    if_accepted book (judge_book book_file) λ b.
    if_accepted board (judge_board b.kinds board_file) λ rows.
    if_room longest_board room (run_outcome (run b limit rows))

unfoldable pub translate_file : List ℕ → ℕ → Outcome
translate_file book_file room =
    if_accepted book (judge_book book_file) λ b.
    let bytes = encode_strip (translate b) in
    if_room longest_strip room (record { answer = acceptance (length bytes); written = bytes })

unfoldable pub run_strip_file : List ℕ → List ℕ → ℕ → ℕ → ℕ → Outcome
run_strip_file strip_file board_file limit allowance room =
    if_accepted strip (judge_strip strip_file) λ words.
    if_accepted board (judge_board (strip_kinds words) board_file) λ rows.
    if_room longest_board room (run_outcome (run_strip words limit allowance rows))
