-- What the struct that C receives says, in the terms of crates/files Numbers. Its place and length have 32 bits: a number past those is shown as the largest.
use Rattle.std.specs.Prelude.{ℕ, ◌≡◌, ltb, if◌then◌else◌}
use Rattle.std.proofs.Common.{ap}
use Rattle.files.specs.Numbers as N
use Rattle.answers.specs.declared.Answer.{Answer}

abbrev pub answer_of : Answer → N.Answer
answer_of a = record { number = a.number; file = a.file; place = a.place; length = a.length; firings = a.firings; rule = a.rule }

abbrev pub most_place : ℕ
most_place = 4294967295

abbrev pub at_most_place : ℕ → ℕ
at_most_place place = if ltb place most_place then place else most_place

-- an answer as C sees it
abbrev pub shown : N.Answer → N.Answer
shown a =
    record { number = a.number; file = a.file; place = at_most_place a.place; length = at_most_place a.length; firings = a.firings; rule = a.rule }

-- a refusal, by the numbers of the file and of the reason
abbrev pub refused_by : ℕ → ℕ → ℕ → N.Answer
refused_by file number place = record { number = number; file = file; place = at_most_place place; length = 0; firings = 0; rule = 255 }

-- the struct is settled by what it says
pub answer_settles : (a b : Answer) → answer_of a ≡ answer_of b → a ≡ b
answer_settles a b e =
    ap (λ (x : N.Answer). record { number = x.number; file = x.file; rule = x.rule; firings = x.firings; place = x.place; length = x.length }) e
