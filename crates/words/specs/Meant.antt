-- What each value of the program stands for, in the terms of crates/meaning.
use Rattle.std.specs.Prelude.{◌≡◌, ℕ, Bool, true, false, List, eqb, if◌then◌else◌}
use Rattle.meaning.specs.Rules as R
use Rattle.meaning.specs.Words as M
use Rattle.files.specs.Strip.{word_of, fields_at}
use Rattle.words.specs.declared.Class.{Class}
use Rattle.words.specs.declared.Class.TheVariants as L
use Rattle.words.specs.declared.Term.{Term}
use Rattle.words.specs.declared.Term.TheVariants as T
use Rattle.words.specs.declared.Comparison.{Comparison}
use Rattle.words.specs.declared.Comparison.TheVariants as C
use Rattle.words.specs.declared.Test.{Test}
use Rattle.words.specs.declared.Word.{Word}
use Rattle.words.specs.declared.Word.TheVariants as W

-- is it a card's?
abbrev pub as_class : Class → Bool
as_class L.Card = true
as_class L.Notice = false

abbrev pub as_term : Term → R.Term
as_term (T.Constant v) = R.constant v
as_term (T.Variable x) = R.variable x

abbrev pub as_comparison : Comparison → R.Comparison
as_comparison C.Equal = R.equal
as_comparison C.Unequal = R.unequal
as_comparison C.Less = R.less
as_comparison C.LessOrEqual = R.less_or_equal

abbrev pub as_test : Test → R.Test
as_test t = record { comparison = as_comparison t.comparison; left = as_term t.left; right = as_term t.right }

abbrev pub as_word : Word → M.Word
as_word (W.Kind class arity) = M.KIND (as_class class) arity
as_word (W.Open cursor) = M.OPEN cursor
as_word (W.Seek cursor kind target) = M.SEEK cursor kind target
as_word (W.Bind argument register) = M.BIND argument.cursor argument.position register
as_word (W.Same argument register target) = M.SAME argument.cursor argument.position register target
as_word (W.Lit argument value target) = M.LIT argument.cursor argument.position value target
as_word (W.Test test target) = M.TEST (as_test test) target
as_word W.Keep = M.KEEP
as_word (W.Put kind) = M.PUT kind
as_word (W.Arg position term) = M.ARG position (as_term term)
as_word (W.Jump target) = M.JUMP target
as_word (W.Fire rule) = M.FIRE rule
as_word W.Quiet = M.QUIET

-- the word says what the bytes of a strip's word are by the table
abbrev pub SaysWord : List ℕ → Word → Type 0
SaysWord bytes word = as_word word ≡ word_of (fields_at bytes 0)

-- a term by its tag
abbrev pub term_tagged : ℕ → ℕ → Term
term_tagged tag value = if eqb tag 0 then T.Constant value else T.Variable value

-- a comparison by its number
abbrev pub comparison_numbered : ℕ → Comparison
comparison_numbered number = if eqb number 0 then C.Equal else if eqb number 1 then C.Unequal else if eqb number 2 then C.Less else C.LessOrEqual
