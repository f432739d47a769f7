-- What the readers by position answer, for any bytes: past the longest book nothing stands. On a file no longer than that they read what
-- crates/files InPlace does (StandsLaws).
use Rattle.std.specs.Prelude.{ℕ, zero, suc, ◌+◌, ◌*◌, ◌<◌, ◌≡◌, Bool, ◌&&◌, List, ltb, if◌then◌else◌}
use Rattle.meaning.specs.Facts.{Kind, longest_book, most_in_rule, most_in_sweep, most_sweeps, arity_of}
use Rattle.files.specs.Marks.{is_mark, RU, BA, TE, HE, SW}
use Rattle.files.specs.InPlace.{byte_at, two_at}
use Rattle.words.specs.declared.Term.{Term as SaidTerm}
use Rattle.words.specs.declared.Term.TheVariants as T
use Rattle.words.specs.declared.Comparison.TheVariants as C
use Rattle.words.specs.declared.Test.{Test as SaidTest}
use Rattle.words.specs.Meant.{term_tagged, comparison_numbered}
use Rattle.places.specs.declared.Term.{Term}
use Rattle.places.specs.declared.Test.{Test}
use Rattle.places.specs.declared.Span.{Span}
use Rattle.places.specs.declared.Conditions.{Conditions}

abbrev pub mark_stands : List ℕ → List ℕ → ℕ → Bool
mark_stands file mark p = ltb p longest_book && is_mark mark (byte_at file p) (byte_at file (p + 1))

-- a term's two fields; the term that they are is `term_at` of crates/files
abbrev pub term_stands : List ℕ → ℕ → Term
term_stands file p = record { tag = byte_at file p; value = two_at file (p + 1) }

abbrev pub zero_term : Term
zero_term = record { tag = 0; value = 0 }

-- a test's fields
abbrev pub test_stands : List ℕ → ℕ → Test
test_stands file p =
    if ltb p longest_book then record { number = byte_at file p; left = term_stands file (p + 1); right = term_stands file (p + 4) }
    else record { number = 0; left = zero_term; right = zero_term }

-- what a term says, by its tag: `term_at` of crates/files
abbrev pub term_said : List ℕ → ℕ → SaidTerm
term_said file p = term_tagged (byte_at file p) (two_at file (p + 1))

abbrev pub zero_said : SaidTerm
zero_said = T.Constant 0

-- what a test says: `test_at` of crates/files
abbrev pub test_said : List ℕ → ℕ → SaidTest
test_said file p =
    if ltb p longest_book then record { comparison = comparison_numbered (byte_at file p); left = term_said file (p + 1); right = term_said file (p + 4) }
    else record { comparison = C.Equal; left = zero_said; right = zero_said }

-- a kind, and three bytes for each argument
abbrev pub atom_size : List ℕ → List Kind → ℕ → ℕ
atom_size file kinds p = 1 + 3 * arity_of kinds (byte_at file p)

-- the place after the atom
unfoldable pub atom_end : List ℕ → List Kind → ℕ → ℕ
atom_end file kinds p = p + atom_size file kinds p

-- so many records with the mark, from a place on, by the place after what follows each mark; so many are counted already
unfoldable pub records_from : List ℕ → List ℕ → (ℕ → ℕ) → ℕ → ℕ → ℕ → Span
records_from file mark after zero n p = record { count = n; next = p }
records_from file mark after (suc left) n p =
    let more = records_from file mark after left (suc n) (after (p + 2)) in
    if mark_stands file mark p then more else record { count = n; next = p }

-- the answers at the places where the fields of a record may stand are the function's
abbrev pub Computes : (ℕ → ℕ → Type 0) → (ℕ → ℕ) → Type 0
Computes answers g = (p q : ℕ) → p < longest_book + 2 → answers p q → q ≡ g p

-- a body and its tests from a place on
abbrev pub conditions_of : ℕ → Span → Span → Conditions
conditions_of p body tested = record { body_at = p; body = body.count; tests_at = body.next; tests = tested.count; heads_at = tested.next }

module _ (file : List ℕ) where
  abbrev pub tests_from : ℕ → ℕ → Span
  tests_from most p = records_from file TE (λ q. q + 7) most 0 p

  module _ (kinds : List Kind) where
    abbrev pub atoms_from : List ℕ → ℕ → ℕ → Span
    atoms_from mark most p = records_from file mark (atom_end file kinds) most 0 p

    -- a body and its tests, at most so many of each
    unfoldable pub conditions_from : ℕ → ℕ → Conditions
    conditions_from most p =
        let body = atoms_from BA most p in
        conditions_of p body (tests_from most body.next)

    -- the place after the heads that follow them
    unfoldable pub groups_end : ℕ → ℕ → ℕ
    groups_end most p = (atoms_from HE most (conditions_from most p).heads_at).next

    abbrev pub sweeps_from : ℕ → Span
    sweeps_from p = records_from file SW (groups_end most_in_sweep) most_sweeps 0 p

    -- the place after a rule, whose body stands at the place given
    unfoldable pub rule_end : ℕ → ℕ
    rule_end p = (sweeps_from (groups_end most_in_rule p)).next

    abbrev pub rules_from : ℕ → ℕ → Span
    rules_from most p = records_from file RU rule_end most 0 p
