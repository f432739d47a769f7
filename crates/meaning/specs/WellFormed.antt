-- What document 01 asks of a book, a board and a strip ('Sizes', 'The files', 'The strip'), as propositions. A file is accepted exactly if it
-- is the encoding of such a value.
use Rattle.std.specs.Prelude.{◌≡◌, ◌⊎◌, ℕ, ◌*◌, ◌≤◌, ◌<◌, Bool, true, false, ◌||◌, List, [], ◌∷◌, ◌++◌, map, length}
use Rattle.meaning.specs.Basics.{All}
use Rattle.meaning.specs.Facts.{Kind, Fact, Board, most_kinds, most_rules, most_in_rule, most_sweeps, most_in_sweep, variables, most_numbers, number_limit, most_cards, most_notices, longest_strip, is_card, arity_of}
use Rattle.meaning.specs.Rules.{Term, constant, variable, Atom, Test, Sweep, Rule, Book, occurs_in}
use Rattle.meaning.specs.Words.{Word, KIND, OPEN, SEEK, BIND, SAME, LIT, TEST, KEEP, PUT, ARG, JUMP, FIRE, QUIET, cursor_count}
use Rattle.meaning.specs.Translation.{kind_word}

-- ---- books

abbrev pub GoodKind : Kind → Type 0
GoodKind kind = kind.arity ≤ most_numbers

-- a constant has 16 bits; a variable has its number and is one of those that may stand here
abbrev pub GoodTerm : (ℕ → Bool) → Term → Type 0
GoodTerm bound (constant v) = v < number_limit
GoodTerm bound (variable x) = (x < variables) × (bound x ≡ true)

-- every variable may stand in a body
abbrev pub any_variable : ℕ → Bool
any_variable x = true

-- the kind is declared, and has a term for each argument
pub record GoodAtom (kinds : List Kind) (bound : ℕ → Bool) (a : Atom) : Type 0 where
  pub declared : a.kind < length kinds
  pub arity : length a.terms ≡ arity_of kinds a.kind
  pub terms : All (GoodTerm bound) a.terms

abbrev pub GoodTest : (ℕ → Bool) → Test → Type 0
GoodTest bound t = GoodTerm bound t.left × GoodTerm bound t.right

-- a body, tests and heads, so many at most of each; tests and heads have bound variables only
pub record GoodGroup (kinds : List Kind) (most : ℕ) (bound : ℕ → Bool) (body : List Atom) (tests : List Test) (heads : List Atom) : Type 0 where
  pub body_size : length body ≤ most
  pub tests_size : length tests ≤ most
  pub heads_size : length heads ≤ most
  pub body_atoms : All (GoodAtom kinds any_variable) body
  pub good_tests : All (GoodTest bound) tests
  pub head_atoms : All (GoodAtom kinds bound) heads

-- "A rule's body needs a card atom"
abbrev pub HasCard : List Kind → List Atom → Type 0
HasCard kinds [] = ⊥
HasCard kinds (a ∷ more) = (is_card kinds a.kind ≡ true) ⊎ HasCard kinds more

-- "a sweep's body may be all notices"
pub record GoodSweep (kinds : List Kind) (rule_body : List Atom) (sweep : Sweep) : Type 0 where
  pub group : GoodGroup kinds most_in_sweep (λ x. occurs_in x rule_body || occurs_in x sweep.body) sweep.body sweep.tests sweep.heads
  pub bodied : 1 ≤ length sweep.body

pub record GoodRule (kinds : List Kind) (rule : Rule) : Type 0 where
  pub group : GoodGroup kinds most_in_rule (λ x. occurs_in x rule.body) rule.body rule.tests rule.heads
  pub card : HasCard kinds rule.body
  pub sweeps_size : length rule.sweeps ≤ most_sweeps
  pub sweeps : All (GoodSweep kinds rule.body) rule.sweeps

pub record GoodBook (book : Book) : Type 0 where
  pub kinds_size : length book.kinds ≤ most_kinds
  pub kinds : All GoodKind book.kinds
  pub rules_size : length book.rules ≤ most_rules
  pub rules : All (GoodRule book.kinds) book.rules

-- ---- boards

-- a fact of a declared kind of the class, with as many numbers as the kind has, each of 16 bits
pub record GoodFact (kinds : List Kind) (card : Bool) (f : Fact) : Type 0 where
  pub declared : f.kind < length kinds
  pub class : is_card kinds f.kind ≡ card
  pub arity : length f.numbers ≡ arity_of kinds f.kind
  pub numbers : All (λ n. n < number_limit) f.numbers

pub record GoodBoard (kinds : List Kind) (board : Board) : Type 0 where
  pub cards_size : length board.cards ≤ most_cards
  pub notices_size : length board.notices ≤ most_notices
  pub cards : All (GoodFact kinds true) board.cards
  pub notices : All (GoodFact kinds false) board.notices

-- ---- strips

-- A word after the KINDs of a strip with so many kinds and so many words; a strip's terms take any register.
abbrev pub GoodWord : ℕ → ℕ → Word → Type 0
GoodWord kinds size (KIND card arity) = ⊥
GoodWord kinds size (OPEN c) = c < cursor_count
GoodWord kinds size (SEEK c k target) = (c < cursor_count) × (k < kinds) × (target < size)
GoodWord kinds size (BIND c i x) = (c < cursor_count) × (i < most_numbers) × (x < variables)
GoodWord kinds size (SAME c i x target) = (c < cursor_count) × (i < most_numbers) × (x < variables) × (target < size)
GoodWord kinds size (LIT c i v target) = (c < cursor_count) × (i < most_numbers) × (v < number_limit) × (target < size)
GoodWord kinds size (TEST test target) = GoodTest any_variable test × (target < size)
GoodWord kinds size KEEP = Unit {0}
GoodWord kinds size (PUT k) = k < kinds
GoodWord kinds size (ARG i term) = (i < most_numbers) × GoodTerm any_variable term
GoodWord kinds size (JUMP target) = target < size
GoodWord kinds size (FIRE r) = r < most_rules
GoodWord kinds size QUIET = Unit {0}

-- "a last word not 10, 11 or 12" is refused
abbrev pub EndsWell : List Word → Type 0
EndsWell [] = ⊥
EndsWell (KIND card arity ∷ []) = ⊥
EndsWell (OPEN c ∷ []) = ⊥
EndsWell (SEEK c k target ∷ []) = ⊥
EndsWell (BIND c i x ∷ []) = ⊥
EndsWell (SAME c i x target ∷ []) = ⊥
EndsWell (LIT c i v target ∷ []) = ⊥
EndsWell (TEST test target ∷ []) = ⊥
EndsWell (KEEP ∷ []) = ⊥
EndsWell (PUT k ∷ []) = ⊥
EndsWell (ARG i term ∷ []) = ⊥
EndsWell (JUMP target ∷ []) = Unit {0}
EndsWell (FIRE r ∷ []) = Unit {0}
EndsWell (QUIET ∷ []) = Unit {0}
EndsWell (w ∷ w' ∷ more) = EndsWell (w' ∷ more)

-- the KINDs first, at most 32; then words whose fields are in range; the last ends or jumps
pub record GoodStrip (words : List Word) : Type 0 where
  pub kinds : List Kind
  pub others : List Word
  pub split : words ≡ map kind_word kinds ++ others
  pub kinds_size : length kinds ≤ most_kinds
  pub good_kinds : All GoodKind kinds
  pub good_others : All (GoodWord (length kinds) (length words)) others
  pub last : EndsWell words
  pub size : 8 * length words ≤ longest_strip
