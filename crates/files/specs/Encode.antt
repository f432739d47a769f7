-- The bytes of a book, a board and a strip: the one file that holds each ("So a board has one encoding").
use Rattle.std.specs.Prelude.{ℕ, ◌+◌, ◌*◌, ◌/◌, ◌%◌, Bool, List, [], ◌∷◌, ◌++◌, if◌then◌else◌}
use Rattle.meaning.specs.Facts.{Kind, Fact, Board}
use Rattle.meaning.specs.Rules.{Term, constant, variable, Atom, Comparison, equal, unequal, less, less_or_equal, Test, Sweep, Rule, Book}
use Rattle.meaning.specs.Words.{Word, KIND, OPEN, SEEK, BIND, SAME, LIT, TEST, KEEP, PUT, ARG, JUMP, FIRE, QUIET}
use Rattle.files.specs.Marks.{KD, RU, BA, TE, HE, SW, CA, NO, EN}

-- "two bytes, low byte first"
abbrev pub two_bytes : ℕ → List ℕ
two_bytes v = v % 256 ∷ v / 256 ∷ []

-- one after another
unfoldable pub concat_map : {A : Type 0} → (A → List ℕ) → List A → List ℕ
concat_map f [] = []
concat_map f (a ∷ more) = f a ++ concat_map f more

-- ---- boards

abbrev pub encode_row : List ℕ → Fact → List ℕ
encode_row mark f = mark ++ (f.kind ∷ concat_map two_bytes f.numbers)

unfoldable pub encode_board : Board → List ℕ
encode_board board = concat_map (encode_row CA) board.cards ++ (concat_map (encode_row NO) board.notices ++ EN)

-- ---- books

-- "class (0 card, 1 notice)"
abbrev pub class_byte : Bool → ℕ
class_byte card = if card then 0 else 1

abbrev pub encode_kind : Kind → List ℕ
encode_kind kind = KD ++ (class_byte kind.card ∷ kind.arity ∷ [])

-- "A term is a tag (0 constant, 1 variable) and a two-byte value."
abbrev pub tag_of : Term → ℕ
tag_of (constant v) = 0
tag_of (variable x) = 1

abbrev pub term_value : Term → ℕ
term_value (constant v) = v
term_value (variable x) = x

abbrev pub encode_term : Term → List ℕ
encode_term t = tag_of t ∷ two_bytes (term_value t)

abbrev pub encode_atom : List ℕ → Atom → List ℕ
encode_atom mark a = mark ++ (a.kind ∷ concat_map encode_term a.terms)

abbrev pub comparison_number : Comparison → ℕ
comparison_number equal = 0
comparison_number unequal = 1
comparison_number less = 2
comparison_number less_or_equal = 3

abbrev pub encode_test : Test → List ℕ
encode_test t = TE ++ (comparison_number t.comparison ∷ (encode_term t.left ++ encode_term t.right))

-- a rule's groups, or a sweep's
unfoldable pub encode_groups : List Atom → List Test → List Atom → List ℕ
encode_groups body tests heads = concat_map (encode_atom BA) body ++ (concat_map encode_test tests ++ concat_map (encode_atom HE) heads)

abbrev pub encode_sweep : Sweep → List ℕ
encode_sweep sweep = SW ++ encode_groups sweep.body sweep.tests sweep.heads

abbrev pub encode_rule : Rule → List ℕ
encode_rule rule = RU ++ (encode_groups rule.body rule.tests rule.heads ++ concat_map encode_sweep rule.sweeps)

unfoldable pub encode_book : Book → List ℕ
encode_book book = concat_map encode_kind book.kinds ++ (concat_map encode_rule book.rules ++ EN)

-- ---- strips

abbrev pub word_of_bytes : ℕ → ℕ → ℕ → ℕ → ℕ → ℕ → List ℕ
word_of_bytes code a b c value target = code ∷ a ∷ b ∷ c ∷ (two_bytes value ++ two_bytes target)

-- "a is 4 × test + 2 × left tag + right tag"
abbrev pub test_code : Test → ℕ
test_code t = 4 * comparison_number t.comparison + 2 * tag_of t.left + tag_of t.right

abbrev pub encode_word : Word → List ℕ
encode_word (KIND card arity) = word_of_bytes 0 (class_byte card) arity 0 0 0
encode_word (OPEN c) = word_of_bytes 1 c 0 0 0 0
encode_word (SEEK c k target) = word_of_bytes 2 c k 0 0 target
encode_word (BIND c i x) = word_of_bytes 3 c i x 0 0
encode_word (SAME c i x target) = word_of_bytes 4 c i x 0 target
encode_word (LIT c i v target) = word_of_bytes 5 c i 0 v target
encode_word (TEST t target) = word_of_bytes 6 (test_code t) (term_value t.left % 256) (term_value t.left / 256) (term_value t.right) target
encode_word KEEP = word_of_bytes 7 0 0 0 0 0
encode_word (PUT k) = word_of_bytes 8 k 0 0 0 0
encode_word (ARG i t) = word_of_bytes 9 i (tag_of t) 0 (term_value t) 0
encode_word (JUMP target) = word_of_bytes 10 0 0 0 0 target
encode_word (FIRE r) = word_of_bytes 11 r 0 0 0 0
encode_word QUIET = word_of_bytes 12 0 0 0 0 0

unfoldable pub encode_strip : List Word → List ℕ
encode_strip words = concat_map encode_word words
