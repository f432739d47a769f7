-- Numbers a terminal may show (document 01, the table of that name and the paragraph below it), and what an answer consists of.
use Rattle.std.specs.Prelude.{ℕ}
use Rattle.meaning.specs.Firing.{End, Quiet, Limit, Full, Spent, Stuck, no_rule}

-- the refusals, in the table's order
pub data Refusal : Type 0 where
  CUT MARK PLACE NOCARD BARE MANY FIELD LOOSE TRAIL SHORT STRIP : Refusal

abbrev pub refusal_number : Refusal → ℕ
refusal_number CUT = 1
refusal_number MARK = 2
refusal_number PLACE = 3
refusal_number NOCARD = 4
refusal_number BARE = 5
refusal_number MANY = 6
refusal_number FIELD = 7
refusal_number LOOSE = 8
refusal_number TRAIL = 9
refusal_number SHORT = 10
refusal_number STRIP = 11

-- "Run ends: 20 QUIET, 21 LIMIT, 22 FULL, 23 SPENT, 24 STUCK"
abbrev pub end_number : End → ℕ
end_number Quiet = 20
end_number Limit = 21
end_number Full = 22
end_number Spent = 23
end_number Stuck = 24

-- "The answer names which of them": the file that is refused, the output for SHORT, nothing where nothing is refused
pub data File : Type 0 where
  nothing book strip board output : File

abbrev pub file_number : File → ℕ
file_number nothing = 0
file_number book = 1
file_number strip = 2
file_number board = 3
file_number output = 4

-- the number shown, the file it is about and the place there; the bytes written, the firings done, the last fired rule
pub record Answer : Type 0 where
  pub number : ℕ
  pub file : ℕ
  pub place : ℕ
  pub length : ℕ
  pub firings : ℕ
  pub rule : ℕ

-- "Refusals 1 to 11 write nothing and give length 0, 0 firings and rule 255."
abbrev pub refusal : File → Refusal → ℕ → Answer
refusal file why place = record { number = refusal_number why; file = file_number file; place = place; length = 0; firings = 0; rule = no_rule }

-- "A check that accepts gives 0; a translation gives 0 and the strip's length"
abbrev pub acceptance : ℕ → Answer
acceptance length = record { number = 0; file = file_number nothing; place = 0; length = length; firings = 0; rule = no_rule }

-- a run's end, with the board's length, the firings done and the last fired rule
abbrev pub end_answer : End → ℕ → ℕ → ℕ → Answer
end_answer end length firings rule =
    record { number = end_number end; file = file_number nothing; place = 0; length = length; firings = firings; rule = rule }
