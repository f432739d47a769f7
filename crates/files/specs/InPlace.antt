-- An accepted file is read where it stands. These readers are total: past the end they read 0, and they judge nothing.
use Rattle.std.specs.Prelude.{ℕ, zero, suc, ◌+◌, ◌*◌, List, [], ◌∷◌, get_or, eqb, if◌then◌else◌}
use Rattle.meaning.specs.Facts.{Kind, Fact, Board, most_kinds, most_rules, most_in_rule, most_sweeps, most_in_sweep, most_cards, most_notices, arity_of}
use Rattle.meaning.specs.Rules.{Term, constant, variable, Atom, Comparison, equal, unequal, less, less_or_equal, Test, Sweep, Rule, Book}
use Rattle.files.specs.Marks.{KD, RU, BA, TE, HE, SW, CA, NO, is_mark}

-- ---- bytes and terms

abbrev pub byte_at : List ℕ → ℕ → ℕ
byte_at file p = get_or file p 0

-- "two bytes, low byte first"
abbrev pub two_at : List ℕ → ℕ → ℕ
two_at file p = byte_at file p + 256 * byte_at file (p + 1)

-- "a tag (0 constant, 1 variable)"
abbrev pub term_of : ℕ → ℕ → Term
term_of tag v = if eqb tag 0 then constant v else variable v

-- "0 equal, 1 unequal, 2 less, 3 less or equal"
abbrev pub comparison_of : ℕ → Comparison
comparison_of number = if eqb number 0 then equal else if eqb number 1 then unequal else if eqb number 2 then less else less_or_equal

-- ---- records

-- something that is read, and the place after it
pub record Read (A : Type 0) : Type 0 where
  pub value : A
  pub next : ℕ

abbrev pub prepend : {A : Type 0} → A → Read (List A) → Read (List A)
prepend a more = record { value = a ∷ more.value; next = more.next }

-- the records that have the mark, from place p on, at most so many; `item` reads what follows a mark
unfoldable pub records_at : {A : Type 0} → List ℕ → List ℕ → (ℕ → Read A) → ℕ → ℕ → Read (List A)
records_at file mark item zero p = record { value = []; next = p }
records_at file mark item (suc left) p =
    let a = item (p + 2) in
    let more = prepend a.value (records_at file mark item left a.next) in
    if is_mark mark (byte_at file p) (byte_at file (p + 1)) then more else record { value = []; next = p }

-- so many of a kind, each of a fixed size
unfoldable pub many_at : {A : Type 0} → (ℕ → A) → ℕ → ℕ → ℕ → List A
many_at item size zero p = []
many_at item size (suc left) p = item p ∷ many_at item size left (p + size)

module _ (file : List ℕ) where
  abbrev pub term_at : ℕ → Term
  term_at p = term_of (byte_at file p) (two_at file (p + 1))

  -- class and arity
  abbrev pub kind_at : ℕ → Read Kind
  kind_at p = record { value = record { card = eqb (byte_at file p) 0; arity = byte_at file (p + 1) }; next = p + 2 }

  -- test number and two terms
  abbrev pub test_at : ℕ → Read Test
  test_at p =
      record { value = record { comparison = comparison_of (byte_at file p); left = term_at (p + 1); right = term_at (p + 4) }; next = p + 7 }

  module _ (kinds : List Kind) where
    -- kind, and a term for each argument
    abbrev pub atom_at : ℕ → Read Atom
    atom_at p =
        let kind = byte_at file p in
        let arity = arity_of kinds kind in
        record { value = record { kind = kind; terms = many_at term_at 3 arity (p + 1) }; next = p + 1 + 3 * arity }

    -- kind, and numbers
    abbrev pub fact_at : ℕ → Read Fact
    fact_at p =
        let kind = byte_at file p in
        let arity = arity_of kinds kind in
        record { value = record { kind = kind; numbers = many_at (two_at file) 2 arity (p + 1) }; next = p + 1 + 2 * arity }

    -- body, tests and heads, at most so many of each
    unfoldable pub groups_at : ℕ → ℕ → Read Sweep
    groups_at most p =
        let body = records_at file BA atom_at most p in
        let tests = records_at file TE test_at most body.next in
        let heads = records_at file HE atom_at most tests.next in
        record { value = record { body = body.value; tests = tests.value; heads = heads.value }; next = heads.next }

    unfoldable pub rule_at : ℕ → Read Rule
    rule_at p =
        let own = groups_at most_in_rule p in
        let sweeps = records_at file SW (groups_at most_in_sweep) most_sweeps own.next in
        record {
          value = record { body = own.value.body; tests = own.value.tests; heads = own.value.heads; sweeps = sweeps.value };
          next = sweeps.next;
        }

    unfoldable pub board_at : Board
    board_at =
        let cards = records_at file CA fact_at most_cards 0 in
        record { cards = cards.value; notices = (records_at file NO fact_at most_notices cards.next).value }

  -- kind k stands at byte 4k
  unfoldable pub kinds_at : Read (List Kind)
  kinds_at = records_at file KD kind_at most_kinds 0

  unfoldable pub book_at : Book
  book_at = record { kinds = kinds_at.value; rules = (records_at file RU (rule_at kinds_at.value) most_rules kinds_at.next).value }
