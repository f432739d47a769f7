-- What a word's code says as a number, and what the structs of a word and of what stands before it say, in the terms of the judgement of a strip
-- file (crate files, `Strip`).
use Rattle.std.specs.Prelude.{ℕ, ◌<◌, ◌≡◌, Result, MatchResult}
use Rattle.files.specs.Strip as S
use Rattle.answers.specs.declared.Reason.{Reason}
use Rattle.strip.specs.declared.Code.{Code}
use Rattle.strip.specs.declared.Code.TheVariants as C
use Rattle.strip.specs.declared.Word.{Word}
use Rattle.strip.specs.declared.Earlier.{Earlier}

abbrev pub number_of : Code → ℕ
number_of C.Kind = 0
number_of C.Open = 1
number_of C.Seek = 2
number_of C.Bind = 3
number_of C.Same = 4
number_of C.Lit = 5
number_of C.Test = 6
number_of C.Keep = 7
number_of C.Put = 8
number_of C.Arg = 9
number_of C.Jump = 10
number_of C.Fire = 11
number_of C.Quiet = 12

-- the code of the number, or a refusal of a number that no code has
abbrev pub Decodes : ℕ → Result Code Reason → Type 0
Decodes number r = MatchResult r (λ code. number_of code ≡ number) (λ why. 12 < number)

abbrev pub fields_of : Word → S.Fields
fields_of word =
    record { code = number_of word.code; a = word.a; b = word.b; c = word.c; value = word.value; target = word.target }

abbrev pub earlier_of : Earlier → S.Earlier
earlier_of before = record { kinds = before.kinds; others = before.others }
