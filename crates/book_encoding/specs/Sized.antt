-- The encoding of a good book consists of bytes, and is no longer than the longest book of document 01, 'Sizes'.
use Rattle.std.specs.Prelude.{ℕ, zero, suc, ◌*◌, ◌<◌, ◌≤◌, Bool, true, false, List, [], ◌∷◌, ◌++◌, length}
use native.Mathlib.Omega.{arith}
use Rattle.std.proofs.Math.ListN.{length-append}
use Rattle.meaning.specs.Basics.{All}
use Rattle.meaning.specs.Facts.{Kind, most_kinds, most_numbers, most_in_rule, most_in_sweep, longest_book, arity_of}
use Rattle.meaning.specs.Rules.{Term, constant, variable, Atom, Comparison, equal, unequal, less, less_or_equal, Test, Sweep, Rule, Book}
use Rattle.meaning.specs.WellFormed.{GoodKind, GoodTerm, any_variable, GoodAtom, GoodTest, GoodGroup, GoodSweep, GoodRule, GoodBook}
use Rattle.files.specs.Marks.{BA, HE, EN}
use Rattle.files.specs.Encode.{concat_map, class_byte, encode_kind, encode_term, encode_atom, comparison_number, encode_test, encode_groups, encode_sweep, encode_rule, encode_book}
use Rattle.book_encoding.specs.Lists.{Bytes}

-- ---- lists of records

concat_size : {A : Type 0} (f : A → List ℕ) (Good : A → Type 0) (each : ℕ) → ((a : A) → Good a → length (f a) ≤ each) → (l : List A) → All Good l
    → length (concat_map f l) ≤ each * length l
unfolding concat_map
concat_size f Good each h [] goods = omega arith
concat_size f Good each h (a ∷ l) goods =
    omega (arith, length-append (f a) (concat_map f l), h a goods.0, concat_size f Good each h l goods.1)

-- ---- sizes

arity_size : (kinds : List Kind) (k : ℕ) → All GoodKind kinds → arity_of kinds k ≤ most_numbers
arity_size [] zero goods = omega arith
arity_size [] (suc k) goods = omega arith
arity_size (kind ∷ kinds) zero goods = goods.0
arity_size (kind ∷ kinds) (suc k) goods = arity_size kinds k goods.1

module _ (kinds : List Kind) (goods : All GoodKind kinds) where
  fields_size : (bound : ℕ → Bool) (a : Atom) → GoodAtom kinds bound a → length (concat_map encode_term a.terms) ≤ 12
  fields_size bound a good =
      omega (arith, concat_size encode_term (GoodTerm bound) 3 (λ t g. omega arith) a.terms good.terms, good.arity, arity_size kinds a.kind goods)

  groups_size : (most : ℕ) (bound : ℕ → Bool) (body : List Atom) (tests : List Test) (heads : List Atom) → GoodGroup kinds most bound body tests heads
      → length (encode_groups body tests heads) ≤ 39 * most
  unfolding encode_groups
  groups_size most bound body tests heads good =
      let bodies = concat_map (encode_atom BA) body in
      let middle = concat_map encode_test tests in
      let ends = concat_map (encode_atom HE) heads in
      omega (
        arith,
        length-append bodies (middle ++ ends),
        length-append middle ends,
        concat_size (encode_atom BA) (GoodAtom kinds any_variable) 15 (λ a g. omega (arith, fields_size any_variable a g)) body good.body_atoms,
        concat_size encode_test (GoodTest bound) 9 (λ t g. omega arith) tests good.good_tests,
        concat_size (encode_atom HE) (GoodAtom kinds bound) 15 (λ a g. omega (arith, fields_size bound a g)) heads good.head_atoms,
        good.body_size,
        good.tests_size,
        good.heads_size,
      )

  sweep_size : (rule_body : List Atom) (s : Sweep) → GoodSweep kinds rule_body s → length (encode_sweep s) ≤ 158
  sweep_size rule_body s good = omega (arith, groups_size most_in_sweep _ s.body s.tests s.heads good.group)

  rule_size : (r : Rule) → GoodRule kinds r → length (encode_rule r) ≤ 552
  rule_size r good =
      let own = encode_groups r.body r.tests r.heads in
      omega (
        arith,
        length-append own (concat_map encode_sweep r.sweeps),
        groups_size most_in_rule _ r.body r.tests r.heads good.group,
        concat_size encode_sweep (GoodSweep kinds r.body) 158 (sweep_size r.body) r.sweeps good.sweeps,
        good.sweeps_size,
      )

-- The encoding of a good book is no longer than the longest book: 32 kinds of 4 bytes, 32 rules of 552, and `en`.
pub book_size : (book : Book) → GoodBook book → length (encode_book book) ≤ longest_book
unfolding encode_book
book_size book good =
    let kinds = concat_map encode_kind book.kinds in
    let rules = concat_map encode_rule book.rules in
    omega (
      arith,
      length-append kinds (rules ++ EN),
      length-append rules EN,
      concat_size encode_kind GoodKind 4 (λ k g. omega arith) book.kinds good.kinds,
      concat_size encode_rule (GoodRule book.kinds) 552 (rule_size book.kinds good.kinds) book.rules good.rules,
      good.kinds_size,
      good.rules_size,
    )

-- ---- bytes

bytes_append : (l m : List ℕ) → Bytes l → Bytes m → Bytes (l ++ m)
bytes_append [] m p q = q
bytes_append (b ∷ l) m p q = (p.0, bytes_append l m p.1 q)

bytes_concat : {A : Type 0} (f : A → List ℕ) (Good : A → Type 0) → ((a : A) → Good a → Bytes (f a)) → (l : List A) → All Good l → Bytes (concat_map f l)
unfolding concat_map
bytes_concat f Good h [] goods = tt
bytes_concat f Good h (a ∷ l) goods = bytes_append (f a) (concat_map f l) (h a goods.0) (bytes_concat f Good h l goods.1)

term_bytes : (bound : ℕ → Bool) (t : Term) → GoodTerm bound t → Bytes (encode_term t)
term_bytes bound (constant v) good = omega arith
term_bytes bound (variable x) good = omega arith

kind_bytes : (kind : Kind) → GoodKind kind → Bytes (encode_kind kind)
kind_bytes kind good = (omega arith, (omega arith, (class kind.card, (omega arith, tt))))
  where
    class : (card : Bool) → class_byte card < 256
    class true = omega arith
    class false = omega arith

test_bytes : (bound : ℕ → Bool) (t : Test) → GoodTest bound t → Bytes (encode_test t)
test_bytes bound t good =
    let terms = bytes_append (encode_term t.left) (encode_term t.right) (term_bytes bound t.left good.0) (term_bytes bound t.right good.1) in
    (omega arith, (omega arith, (number t.comparison, terms)))
  where
    number : (c : Comparison) → comparison_number c < 256
    number equal = omega arith
    number unequal = omega arith
    number less = omega arith
    number less_or_equal = omega arith

module _ (kinds : List Kind) (size : length kinds ≤ most_kinds) where
  atom_bytes : (first second : ℕ) → first < 256 → second < 256 → (bound : ℕ → Bool) (a : Atom) → GoodAtom kinds bound a → Bytes (encode_atom (first ∷ second ∷ []) a)
  atom_bytes first second p q bound a good =
      (p, (q, (omega (arith, good.declared), bytes_concat encode_term (GoodTerm bound) (term_bytes bound) a.terms good.terms)))

  groups_bytes : (most : ℕ) (bound : ℕ → Bool) (body : List Atom) (tests : List Test) (heads : List Atom) → GoodGroup kinds most bound body tests heads
      → Bytes (encode_groups body tests heads)
  unfolding encode_groups
  groups_bytes most bound body tests heads good =
      bytes_append (concat_map (encode_atom BA) body) _
      (bytes_concat (encode_atom BA) (GoodAtom kinds any_variable) (atom_bytes 0x62 0x61 (omega arith) (omega arith) any_variable) body good.body_atoms)
      (bytes_append (concat_map encode_test tests) _
      (bytes_concat encode_test (GoodTest bound) (test_bytes bound) tests good.good_tests)
      (bytes_concat (encode_atom HE) (GoodAtom kinds bound) (atom_bytes 0x68 0x65 (omega arith) (omega arith) bound) heads good.head_atoms))

  sweep_bytes : (rule_body : List Atom) (s : Sweep) → GoodSweep kinds rule_body s → Bytes (encode_sweep s)
  sweep_bytes rule_body s good = (omega arith, (omega arith, groups_bytes most_in_sweep _ s.body s.tests s.heads good.group))

  rule_bytes : (r : Rule) → GoodRule kinds r → Bytes (encode_rule r)
  rule_bytes r good = (
    omega arith,
    (
      omega arith,
      bytes_append (encode_groups r.body r.tests r.heads) _ (groups_bytes most_in_rule _ r.body r.tests r.heads good.group)
          (bytes_concat encode_sweep (GoodSweep kinds r.body) (sweep_bytes r.body) r.sweeps good.sweeps),
    ),
  )

-- The encoding of a good book is a file of bytes.
pub book_bytes_lem : (book : Book) → GoodBook book → Bytes (encode_book book)
unfolding encode_book
book_bytes_lem book good =
    bytes_append (concat_map encode_kind book.kinds) _ (bytes_concat encode_kind GoodKind kind_bytes book.kinds good.kinds)
    (bytes_append (concat_map encode_rule book.rules) _ (bytes_concat encode_rule (GoodRule book.kinds) (rule_bytes book.kinds good.kinds_size) book.rules good.rules)
    (omega arith))
