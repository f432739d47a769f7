-- Document 01's answer of what a translation answers: the strip's length, or the refusal's.
use Rattle.std.specs.Prelude.{ℕ, Result}
use Rattle.files.specs.Numbers.{Answer, acceptance}
use Rattle.answers.specs.Refused.{answered}
use Rattle.answers.specs.declared.Refusal.{Refusal}

abbrev pub translated_answer : Result ℕ Refusal → Answer
translated_answer = answered acceptance
