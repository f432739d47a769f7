-- What the answers on a row's fields and on one record say, in the terms of the judgement of a board file (crate files, `Judge` and `Board`).
use Rattle.std.specs.Prelude.{ℕ, ◌-◌, ◌≤◌, ◌≡◌, Bool, List, [], ◌∷◌, ◌++◌, length, drop, Result, Ok, Err}
use Rattle.meaning.specs.Facts.{Kind, Fact, Board}
use Rattle.files.specs.InPlace.{fact_at}
use Rattle.files.specs.Judge.{Judged, go, ended, stop}
use Rattle.files.specs.Board.{row, board_record}
use Rattle.answers.specs.Refused.{reason_of}
use Rattle.answers.specs.declared.Reason.{Reason}
use Rattle.answers.specs.declared.Reason.TheVariants as W
use Rattle.board.specs.declared.Record.{Record}
use Rattle.board.specs.declared.Record.TheVariants as R

-- where a refusal is told, of a file of n bytes and a record at a place: a file that ends too early at its end, all else at the record
abbrev pub told_at : ℕ → ℕ → Reason → ℕ
told_at n at W.Cut = n
told_at n at W.Mark = at
told_at n at W.Place = at
told_at n at W.Nocard = at
told_at n at W.Bare = at
told_at n at W.Many = at
told_at n at W.Field = at
told_at n at W.Loose = at
told_at n at W.Trail = at
told_at n at W.Short = at
told_at n at W.Strip = at

abbrev pub stopped : ℕ → ℕ → Reason → Judged Board
stopped n at why = stop (reason_of why) (told_at n at why)

-- ---- the fields of a row, at the start of what is left

-- the judgement that the answer stands for; `at` is the record's place
abbrev pub row_says : List Kind → ℕ → ℕ → List ℕ → (Fact → List ℕ → Judged Board) → Result ℕ Reason → Judged Board
row_says kinds n at rest next (Ok m) = next (fact_at rest kinds 0).value (drop m rest)
row_says kinds n at rest next (Err why) = stopped n at why

abbrev pub row_fits : List ℕ → Result ℕ Reason → Type 0
row_fits rest (Ok m) = m ≤ length rest
row_fits rest (Err why) = Unit {0}

pub record RowSays (kinds : List Kind) (card : Bool) (rest : List ℕ) (r : Result ℕ Reason) : Type 0 where
  pub fits : row_fits rest r
  pub says : (n at : ℕ) (next : Fact → List ℕ → Judged Board) → row kinds n card at rest next ≡ row_says kinds n at rest next r

-- ---- a record, at the start of what is left

abbrev pub with_card : Board → Fact → Board
with_card board f = record { cards = board.cards ++ (f ∷ []); notices = board.notices }

abbrev pub with_notice : Board → Fact → Board
with_notice board f = record { cards = board.cards; notices = board.notices ++ (f ∷ []) }

abbrev pub record_says : List Kind → ℕ → ℕ → Board → List ℕ → Result Record Reason → Judged Board
record_says kinds n at board rest (Ok (R.Card m)) = go (with_card board (fact_at (drop 2 rest) kinds 0).value) (drop m rest)
record_says kinds n at board rest (Ok (R.Notice m)) = go (with_notice board (fact_at (drop 2 rest) kinds 0).value) (drop m rest)
record_says kinds n at board rest (Ok R.End) = ended board (drop 2 rest)
record_says kinds n at board rest (Err why) = stopped n at why

abbrev pub record_fits : List ℕ → Result Record Reason → Type 0
record_fits rest (Ok (R.Card m)) = (2 ≤ m) × (m ≤ length rest)
record_fits rest (Ok (R.Notice m)) = (2 ≤ m) × (m ≤ length rest)
record_fits rest (Ok R.End) = 2 ≤ length rest
record_fits rest (Err why) = Unit {0}

pub record RecordSays (kinds : List Kind) (rest : List ℕ) (cards notices : ℕ) (r : Result Record Reason) : Type 0 where
  pub fits : record_fits rest r
  pub says : (n : ℕ) (board : Board) → length board.cards ≡ cards → length board.notices ≡ notices
      → board_record kinds n board rest ≡ record_says kinds n (n - length rest) board rest r
