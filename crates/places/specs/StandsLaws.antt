-- On a file no longer than the longest book, the readers by position find what crates/files InPlace reads: a mark has no zero letter, so where one
-- stands the place lies within the file.
use Rattle.std.specs.Prelude.{ℕ, zero, suc, ◌+◌, ◌≤◌, ◌<◌, ◌≡◌, refl, Bool, true, false, ◌&&◌, List, [], length, get_or, eqb, ltb, if◌then◌else◌}
use Rattle.std.proofs.Common.{add-zero, zero-add, arith, sym, ◌∙◌, ltb-true, ltb-false, lt-ltb, ne_eqb}
use Rattle.std.proofs.Math.Path.{ap}
use Rattle.std.proofs.Math.ListN.{get_or-eq_default}
use Rattle.meaning.specs.Facts.{Kind, longest_book, most_in_rule, most_in_sweep, most_sweeps}
use Rattle.meaning.specs.Rules.{constant, variable, Atom, equal, unequal, less, less_or_equal, Test}
use Rattle.files.specs.Marks.{is_mark, RU, BA, TE, HE, SW}
use Rattle.files.specs.InPlace.{byte_at, two_at, term_of, term_at, test_at, atom_at, groups_at, rule_at, comparison_of, Read, prepend, records_at}
use Rattle.places.specs.Stands.{mark_stands, term_stands, test_stands, term_said, test_said, atom_end, records_from, atoms_from, tests_from, conditions_of, conditions_from, groups_end, sweeps_from, rule_end, rules_from}
use Rattle.words.specs.declared.Term.TheVariants as T
use Rattle.words.specs.declared.Comparison.TheVariants as C
use Rattle.words.specs.Meant.{as_term, as_comparison, as_test, comparison_numbered}
use Rattle.places.specs.declared.Span.{Span}
use Rattle.places.specs.declared.Conditions.{Conditions}

-- where a mark stands, the place is within the longest book
pub stands_near : (file mark : List ℕ) (p : ℕ) → mark_stands file mark p ≡ true → p < longest_book
stands_near file mark p h = by (ltb p longest_book) refl h
  where
    by : (t : Bool) → ltb p longest_book ≡ t → (t && is_mark mark (byte_at file p) (byte_at file (p + 1))) ≡ true → p < longest_book
    by true e k = ltb-true p longest_book e
    by false e k = let z : ◌≡◌ {A = ℕ} 0 1 = cc in let bad : ⊥ = omega arith in absurd bad

-- within a file that is no longer than that, asking for the mark is asking whether it stands
pub stands_is : (file mark : List ℕ) (p : ℕ) → length file ≤ longest_book → (get_or mark 0 0 ≡ 0 → ⊥)
    → mark_stands file mark p ≡ is_mark mark (byte_at file p) (byte_at file (p + 1))
stands_is file mark p short letter = by (ltb p longest_book) refl
  where
    by : (t : Bool) → ltb p longest_book ≡ t → (t && is_mark mark (byte_at file p) (byte_at file (p + 1))) ≡ is_mark mark (byte_at file p) (byte_at file (p + 1))
    by true e = refl
    by false e =
        let zero-here : byte_at file p ≡ 0 = get_or-eq_default file 0 (omega (arith, ltb-false p longest_book e)) in
        sym (ap (λ (t : Bool). t && eqb (byte_at file (p + 1)) (get_or mark 1 0)) (ne_eqb (byte_at file p) (get_or mark 0 0) (λ q. letter (sym q ∙ zero-here))))

-- so many records that are counted already, and those that were read
abbrev pub counted : {A : Type 0} → ℕ → Read (List A) → Span
counted n read = record { count = n + length read.value; next = read.next }

-- so many records as were read
abbrev pub span_of : {A : Type 0} → Read (List A) → Span
span_of read = record { count = length read.value; next = read.next }

none_before_lem : {A : Type 0} (read : Read (List A)) → counted 0 read ≡ span_of read
none_before_lem read = ap (λ (n : ℕ). record { count = n; next = read.next }) (zero-add (length read.value))

-- "so many records, and the place after them" are those that InPlace reads, by the place after an item
pub from_is : {A : Type 0} (file mark : List ℕ) (after : ℕ → ℕ) (item : ℕ → Read A) → length file ≤ longest_book → (get_or mark 0 0 ≡ 0 → ⊥)
    → ((p : ℕ) → (item p).next ≡ after p) → (left n p : ℕ) → records_from file mark after left n p ≡ counted n (records_at file mark item left p)
unfolding records_from records_at
from_is file mark after item short letter ends zero n p = ap (λ (k : ℕ). record { count = k; next = p }) (sym (add-zero n))
from_is {A} file mark after item short letter ends (suc left) n p =
    ap (λ (t : Bool). if t then records_from file mark after left (suc n) (after (p + 2)) else record { count = n; next = p }) (stands_is file mark p short letter)
    ∙ by (is_mark mark (byte_at file p) (byte_at file (p + 1))) (prepend (item (p + 2)).value (records_at file mark item left (item (p + 2)).next))
    (ap (records_from file mark after left (suc n)) (sym (ends (p + 2))) ∙ from_is file mark after item short letter ends left (suc n) (item (p + 2)).next
    ∙ ap (λ (k : ℕ). record { count = k; next = (records_at file mark item left (item (p + 2)).next).next }) (omega arith))
  where
    by : (t : Bool) (read : Read (List A)) → records_from file mark after left (suc n) (after (p + 2)) ≡ counted n read
        → (if t then records_from file mark after left (suc n) (after (p + 2)) else record { count = n; next = p })
        ≡ counted n (if t then read else record { value = []; next = p })
    by true read h = h
    by false read h = ap (λ (k : ℕ). record { count = k; next = p }) (sym (add-zero n))

-- the fields are those of the term and of the test that InPlace reads
pub term_is : (file : List ℕ) (p : ℕ) → term_of (term_stands file p).tag (term_stands file p).value ≡ term_at file p
term_is file p = refl

pub test-is : (file : List ℕ) (p : ℕ) → p < longest_book → let t = test_stands file p in
    record { comparison = comparison_of t.number; left = term_of t.left.tag t.left.value; right = term_of t.right.tag t.right.value } ≡ (test_at file p).value
test-is file p near = rw (lt-ltb p longest_book near)

-- the term and the test say what InPlace reads
pub term_said_is : (file : List ℕ) (p : ℕ) → as_term (term_said file p) ≡ term_at file p
term_said_is file p = by (eqb (byte_at file p) 0)
  where
    by : (t : Bool) → as_term (if t then T.Constant (two_at file (p + 1)) else T.Variable (two_at file (p + 1))) ≡ (if t then constant (two_at file (p + 1)) else variable (two_at file (p + 1)))
    by true = refl
    by false = refl

comparison_is : (number : ℕ) → as_comparison (comparison_numbered number) ≡ comparison_of number
comparison_is number = by (eqb number 0) (eqb number 1) (eqb number 2)
  where
    by : (t u v : Bool) → as_comparison (if t then C.Equal else if u then C.Unequal else if v then C.Less else C.LessOrEqual) ≡ (if t then equal else if u then unequal else if v then less else less_or_equal)
    by true u v = refl
    by false true v = refl
    by false false true = refl
    by false false false = refl

pub test_said_is : (file : List ℕ) (p : ℕ) → p < longest_book → as_test (test_said file p) ≡ (test_at file p).value
test_said_is file p near = rw (lt-ltb p longest_book near, comparison_is (byte_at file p), term_said_is file (p + 1), term_said_is file (p + 4))

-- past the end of the file a test of zeros stands
term_past : (file : List ℕ) (p : ℕ) → length file ≤ p → term_at file p ≡ constant 0
term_past file p past =
    let zeros : (q : ℕ) → p ≤ q → byte_at file q ≡ 0 = λ q far. get_or-eq_default file 0 (omega (arith, past, far)) in
    rw (zeros p (omega arith), zeros (p + 1) (omega arith), zeros (p + 1 + 1) (omega arith))

pub test_said_reads : (file : List ℕ) (p : ℕ) → length file ≤ longest_book → as_test (test_said file p) ≡ (test_at file p).value
test_said_reads file p short = by (ltb p longest_book) refl
  where
    by : (t : Bool) → ltb p longest_book ≡ t → as_test (test_said file p) ≡ (test_at file p).value
    by true e = test_said_is file p (ltb-true p longest_book e)
    by false e =
        let past : length file ≤ p = omega (arith, short, ltb-false p longest_book e) in
        let number : byte_at file p ≡ 0 = get_or-eq_default file 0 past in
        rw (e, number, term_past file (p + 1) (omega (arith, past)), term_past file (p + 4) (omega (arith, past)))

-- ---- groups, sweeps and rules

module _ (file : List ℕ) (kinds : List Kind) (short : length file ≤ longest_book) where
  pub atoms_are : (mark : List ℕ) → (get_or mark 0 0 ≡ 0 → ⊥) → (most p : ℕ) → atoms_from file kinds mark most p ≡ counted 0 (records_at file mark (atom_at file kinds) most p)
  unfolding atom_end
  atoms_are mark letter most p = from_is file mark (atom_end file kinds) (atom_at file kinds) short letter (λ q. omega arith) most 0 p

  pub tests_are : (most p : ℕ) → tests_from file most p ≡ counted 0 (records_at file TE (test_at file) most p)
  tests_are most p = from_is file TE (λ q. q + 7) (test_at file) short (λ h. omega (arith, h)) (λ q. refl) most 0 p

  pub atoms_spanned : (mark : List ℕ) → (get_or mark 0 0 ≡ 0 → ⊥) → (most p : ℕ) → atoms_from file kinds mark most p ≡ span_of (records_at file mark (atom_at file kinds) most p)
  atoms_spanned mark letter most p = atoms_are mark letter most p ∙ none_before_lem (records_at file mark (atom_at file kinds) most p)

  -- the tests stand where the body ends
  pub conditions_are : (most p : ℕ) →
      let body = records_at file BA (atom_at file kinds) most p in
      let tests = records_at file TE (test_at file) most body.next in
      conditions_from file kinds most p ≡ conditions_of p (span_of body) (span_of tests)
  unfolding conditions_from
  conditions_are most p =
      let body : Read (List Atom) = records_at file BA (atom_at file kinds) most p in
      let tests : Read (List Test) = records_at file TE (test_at file) most body.next in
      ap (λ (s : Span). conditions_of p s (tests_from file most s.next)) (atoms_spanned BA (λ h. omega (arith, h)) most p)
      ∙ ap (conditions_of p (span_of body)) (tests_are most body.next ∙ none_before_lem tests)

  pub groups_end_at : (most p : ℕ) → groups_end file kinds most p ≡ (groups_at file kinds most p).next
  unfolding groups_end groups_at
  groups_end_at most p =
      let tests : Read (List Test) = records_at file TE (test_at file) most (records_at file BA (atom_at file kinds) most p).next in
      ap (λ (own : Conditions). (atoms_from file kinds HE most own.heads_at).next) (conditions_are most p)
      ∙ ap (λ (s : Span). s.next) (atoms_spanned HE (λ h. omega (arith, h)) most tests.next)

  pub sweeps_are : (p : ℕ) → sweeps_from file kinds p ≡ counted 0 (records_at file SW (groups_at file kinds most_in_sweep) most_sweeps p)
  sweeps_are p = from_is file SW (groups_end file kinds most_in_sweep) (groups_at file kinds most_in_sweep) short (λ h. omega (arith, h)) (λ q. sym (groups_end_at most_in_sweep q)) most_sweeps 0 p

  pub rule_end_at : (p : ℕ) → rule_end file kinds p ≡ (rule_at file kinds p).next
  unfolding rule_end rule_at
  rule_end_at p =
      ap (λ (own : ℕ). (sweeps_from file kinds own).next) (groups_end_at most_in_rule p)
      ∙ ap (λ (s : Span). s.next) (sweeps_are (groups_at file kinds most_in_rule p).next)

  pub rules_are : (most p : ℕ) → rules_from file kinds most p ≡ counted 0 (records_at file RU (rule_at file kinds) most p)
  rules_are most p = from_is file RU (rule_end file kinds) (rule_at file kinds) short (λ h. omega (arith, h)) (λ q. sym (rule_end_at q)) most 0 p
