-- The entry's contract settles its answer and every byte of the output: any two results that meet it are equal.
use Rattle.std.specs.Prelude.{◌≡◌, refl, ℕ, suc, ◌+◌, ◌<◌, Bool, true, false, List, [], ◌∷◌, ◌++◌, map, length, ltb, Result, if◌then◌else◌}
use Rattle.std.proofs.Common.{sym, ◌∙◌, arith, length-append}
use Rattle.meaning.specs.Facts.{Kind, longest_strip}
use Rattle.meaning.specs.Rules.{Rule, Book}
use Rattle.meaning.specs.Words.{Word}
use Rattle.meaning.specs.Translation.{rule_length, rule_words, rules_words, kind_word, translate}
use Rattle.files.specs.Numbers.{SHORT, book, Answer, acceptance, refusal, output}
use Rattle.files.specs.Judge.{Verdict, accepted, refused}
use Rattle.files.specs.Book.{judge_book}
use Rattle.files.specs.Encode.{encode_strip}
use Rattle.files.specs.Entries.{Outcome, nothing_written, bytes_after, if_accepted, if_room, translate_file}
use Rattle.encoding.specs.Telling.{refusal_counts}
use Rattle.encoding.specs.Strips.{strip_length}
use Rattle.answers.specs.RefusedLaws.{answered_settles}
use Rattle.answers.specs.declared.Refusal.{Refusal}
use Rattle.translate.specs.Answers.{translated_answer}

-- ---- the entry's answer tells

-- a refusal has a number, and a strip a length
abbrev pub Tells : Answer → Type 0
Tells a = 0 < a.number + a.length

-- the last word is always there
some_words : (kinds : List Kind) (number p : ℕ) (rules : List Rule) → 0 < length (rules_words kinds number p rules)
unfolding rules_words
some_words kinds number p [] = omega arith
some_words kinds number p (rule ∷ rules) =
    let more : List Word = rules_words kinds (suc number) (p + rule_length rule) rules in
    omega (arith, length-append (rule_words kinds number p rule) more, some_words kinds (suc number) (p + rule_length rule) rules)

pub strip_tells : (b : Book) → 0 < length (encode_strip (translate b))
unfolding translate
strip_tells b =
    let code : List Word = rules_words b.kinds 0 (length b.kinds) b.rules in
    omega (arith, strip_length (map kind_word b.kinds ++ code), length-append (map kind_word b.kinds) code, some_words b.kinds 0 (length b.kinds) b.rules)

pub answer_tells : (file : List ℕ) (room : ℕ) → Tells (translate_file file room).answer
unfolding translate_file
answer_tells file room = by (judge_book file)
  where
    given : Book → Outcome
    given b = record { answer = acceptance (length (encode_strip (translate b))); written = encode_strip (translate b) }

    fits : (b : Book) (t : Bool) (o : Outcome) → o ≡ (if t then nothing_written (refusal output SHORT 0) else given b) → Tells o.answer
    fits b true o e = rw e (omega arith)
    fits b false o e = rw e (omega (arith, strip_tells b))

    by : (v : Verdict Book)
        → Tells (if_accepted book v (λ b. if_room longest_strip room (record { answer = acceptance (length (encode_strip (translate b))); written = encode_strip (translate b) }))).answer
    by (accepted b) = fits b (ltb room longest_strip) _ refl
    by (refused why place) = omega (arith, refusal_counts why)

-- ---- two results of one call are equal, and so is what they leave in the output

pub translate_settles : (file out₀ : List ℕ) (r s : Result ℕ Refusal) (out₁ out₂ : List ℕ)
    → (translated_answer r ≡ (translate_file file (length out₀)).answer) × (out₁ ≡ bytes_after (translate_file file (length out₀)) out₀)
    → (translated_answer s ≡ (translate_file file (length out₀)).answer) × (out₂ ≡ bytes_after (translate_file file (length out₀)) out₀) → (r ≡ s) × (out₁ ≡ out₂)
translate_settles file out₀ r s out₁ out₂ one other = (
  answered_settles acceptance (λ answer. answer.length) (λ length. refl) (λ length. refl) r s (one.0 ∙ sym other.0),
  one.1 ∙ sym other.1,
)
