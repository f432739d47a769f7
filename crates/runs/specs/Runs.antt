-- What a run over the arrays comes to, and document 01's answer of it.
use Rattle.std.specs.Prelude.{◌≡◌, ℕ, ◌≤◌, List}
use Rattle.meaning.specs.Facts.{Kind, Board, most_cards, most_notices}
use Rattle.meaning.specs.Firing as F
use Rattle.files.specs.Numbers.{Answer, end_answer}
use Rattle.rows.specs.declared.Count.{Count}
use Rattle.rows.specs.Held.{Sized, board_of}
use Rattle.runs.specs.declared.End.{End}
use Rattle.runs.specs.declared.End.TheVariants as E
use Rattle.runs.specs.declared.Ran.{Ran}
use Rattle.runs.specs.declared.Ended.{Ended}

abbrev pub end_of : End → F.End
end_of E.Quiet = F.Quiet
end_of E.Limit = F.Limit
end_of E.Full = F.Full
end_of E.Spent = F.Spent
end_of E.Stuck = F.Stuck

-- the board that the arrays hold
abbrev pub board_in : List Kind → List ℕ → List ℕ → Count → Board
board_in kinds kind numbers count = board_of kinds kind numbers count.cards count.notices

-- a run's answer by its parts
abbrev pub ran_with : End → Count → ℕ → ℕ → Ran
ran_with end count firings rule = record { end = end; count = count; firings = firings; rule = rule }

-- the run that the answer and the arrays stand for
abbrev pub ran_in : List Kind → List ℕ → List ℕ → Ran → F.Ran
ran_in kinds kind numbers r = F.ended (end_of r.end) (board_in kinds kind numbers r.count) r.firings r.rule

-- it is this one, and the arrays can hold its board
pub record RunEnds (ran : F.Ran) (kinds : List Kind) (kind numbers : List ℕ) (r : Ran) : Type 0 where
  pub is : ran_in kinds kind numbers r ≡ ran
  pub cards : r.count.cards ≤ most_cards
  pub notices : r.count.notices ≤ most_notices
  pub sized : Sized kind numbers

-- the answer of a run whose board is written
abbrev pub ended_answer : Ended → Answer
ended_answer r = end_answer (end_of r.end) r.length r.firings r.rule
