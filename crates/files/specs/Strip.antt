-- A strip file (document 01, 'The strip', first lines and last paragraph): words of 8 bytes, judged word by word; "STRIP refuses, at the lowest
-- such word".
use Rattle.std.specs.Prelude.{ℕ, zero, suc, ◌+◌, ◌*◌, ◌/◌, ◌%◌, Bool, true, false, not, ◌&&◌, ◌||◌, List, [], ◌∷◌, length, eqb, leb, ltb, if◌then◌else◌}
use Rattle.meaning.specs.Facts.{most_kinds, most_rules, variables, most_numbers, longest_strip}
use Rattle.meaning.specs.Words.{Word, KIND, OPEN, SEEK, BIND, SAME, LIT, TEST, KEEP, PUT, ARG, JUMP, FIRE, QUIET, cursor_count}
use Rattle.files.specs.Numbers.{STRIP}
use Rattle.files.specs.Judge.{Verdict, accepted, refused}
use Rattle.files.specs.InPlace.{byte_at, two_at, term_of, comparison_of, many_at}

-- "code, a, b, c, a two-byte value, a two-byte target word, both low byte first"
pub record Fields : Type 0 where
  pub code : ℕ
  pub a : ℕ
  pub b : ℕ
  pub c : ℕ
  pub value : ℕ
  pub target : ℕ

abbrev pub word_bytes : ℕ
word_bytes = 8

-- the fields of the word at place p
abbrev pub fields_at : List ℕ → ℕ → Fields
fields_at file p = record {
  code = byte_at file p;
  a = byte_at file (p + 1);
  b = byte_at file (p + 2);
  c = byte_at file (p + 3);
  value = two_at file (p + 4);
  target = two_at file (p + 6);
}

-- TEST's left operand stands "in b c, low byte first"; "a is 4 × test + 2 × left tag + right tag"
abbrev pub left_of : Fields → ℕ
left_of f = f.b + 256 * f.c

abbrev pub left_tag : Fields → ℕ
left_tag f = f.a / 2 % 2

abbrev pub right_tag : Fields → ℕ
right_tag f = f.a % 2

-- the word that the fields say, in the table's order
abbrev pub word_of : Fields → Word
word_of f =
    let is : ℕ → Bool = λ code. eqb f.code code in
    if is 0 then KIND (eqb f.a 0) f.b
    else if is 1 then OPEN f.a
    else if is 2 then SEEK f.a f.b f.target
    else if is 3 then BIND f.a f.b f.c
    else if is 4 then SAME f.a f.b f.c f.target
    else if is 5 then LIT f.a f.b f.value f.target
    else if is 6 then TEST (record { comparison = comparison_of (f.a / 4); left = term_of (left_tag f) (left_of f); right = term_of (right_tag f) f.value }) f.target
    else if is 7 then KEEP
    else if is 8 then PUT f.a
    else if is 9 then ARG f.a (term_of f.b f.value)
    else if is 10 then JUMP f.target
    else if is 11 then FIRE f.a
    else QUIET

-- the words of an accepted strip, read where they stand
unfoldable pub words_at : List ℕ → List Word
words_at file = many_at (λ p. word_of (fields_at file p)) word_bytes (length file / word_bytes) 0

-- ---- what STRIP refuses

-- what stands before a word: how many KINDs, and whether any other code
pub record Earlier : Type 0 where
  pub kinds : ℕ
  pub others : Bool

abbrev pub is_zero : ℕ → Bool
is_zero n = eqb n 0

-- "tag to 1", "register and variable to 11"; a constant is any number
abbrev pub is_term : ℕ → ℕ → Bool
is_term tag v = leb tag 1 && (eqb tag 0 || ltb v variables)

-- a known code, every field in its range, every unused byte zero; in the table's order. `size` is the number of words.
abbrev pub word_is_good : ℕ → Earlier → Fields → Bool
word_is_good size before f =
    let is : ℕ → Bool = λ code. eqb f.code code in
    let cursor = ltb f.a cursor_count in
    let argument = ltb f.b most_numbers in
    let target = ltb f.target size in
    let no-b = is_zero f.b in
    let no-c = is_zero f.c in
    let no_value = is_zero f.value in
    let no_target = is_zero f.target in
    if is 0 then leb f.a 1 && leb f.b most_numbers && no-c && no_value && no_target && ltb before.kinds most_kinds && not before.others
    else if is 1 then cursor && no-b && no-c && no_value && no_target
    else if is 2 then cursor && ltb f.b before.kinds && no-c && no_value && target
    else if is 3 then cursor && argument && ltb f.c variables && no_value && no_target
    else if is 4 then cursor && argument && ltb f.c variables && no_value && target
    else if is 5 then cursor && argument && no-c && target
    else if is 6 then leb f.a 15 && is_term (left_tag f) (left_of f) && is_term (right_tag f) f.value && target
    else if is 7 then is_zero f.a && no-b && no-c && no_value && no_target
    else if is 8 then ltb f.a before.kinds && no-b && no-c && no_value && no_target
    else if is 9 then ltb f.a most_numbers && is_term f.b f.value && no-c && no_target
    else if is 10 then is_zero f.a && no-b && no-c && no_value && target
    else if is 11 then ltb f.a most_rules && no-b && no-c && no_value && no_target
    else if is 12 then is_zero f.a && no-b && no-c && no_value && no_target
    else false

-- "a last word not 10, 11 or 12": so many words are left, this one among them
abbrev pub may_be_last : ℕ → Fields → Bool
may_be_last left f = ltb 1 left || leb 10 f.code

abbrev pub earlier_than_next : Earlier → Fields → Earlier
earlier_than_next before f =
    if eqb f.code 0 then record { kinds = suc before.kinds; others = before.others } else record { kinds = before.kinds; others = true }

abbrev pub word_then : Bool → ℕ → Word → Verdict (List Word) → Verdict (List Word)
word_then false i word more = refused STRIP i
word_then true i word (accepted words) = accepted (word ∷ words)
word_then true i word (refused why place) = refused why place

-- the words from number i on, so many being left
unfoldable pub judge_words : List ℕ → ℕ → ℕ → ℕ → Earlier → Verdict (List Word)
judge_words file size zero i before = accepted []
judge_words file size (suc left) i before =
    let f = fields_at file (word_bytes * i) in
    word_then (word_is_good size before f && may_be_last (suc left) f) i (word_of f) (judge_words file size left (suc i) (earlier_than_next before f))

-- "length 0, over 44,808 or not in eights (word 0)"
unfoldable pub judge_strip : List ℕ → Verdict (List Word)
judge_strip file =
    let n = length file in
    if is_zero n || ltb longest_strip n || not (is_zero (n % word_bytes)) then refused STRIP 0
    else judge_words file (n / word_bytes) (n / word_bytes) 0 (record { kinds = 0; others = false })
