-- An accepted book file, read in place, gives the book that the judgement read. The readers go from place to place; at each place it is known
-- what the file holds from there on.
use Prim.Native.Nat.{ℕ, zero, suc, ◌+◌, ◌*◌, ◌/◌, ◌%◌, ◌≤◌}
use Rattle.std.proofs.Common.{add-zero, sym, ◌∙◌, subst, get_or-drop, drop-drop}
use native.Mathlib.Omega.{arith}
use Rattle.std.specs.Prelude.{◌≡◌, Bool, get_or, eqb, if◌then◌else◌}
use Rattle.std.proofs.Math.Path.{refl, ap, ap₂}
use Rattle.std.proofs.Math.Bool.{true, false}
use mathlib.Core.List.{List, [], ◌∷◌, ◌++◌, append_assoc}
use Rattle.std.proofs.Math.ListN.{length, drop}
use borrow.Author.Tests.{eq-eqb}
use Rattle.meaning.specs.Basics.{All}
use Rattle.meaning.specs.Facts.{Kind, most_kinds, most_rules, most_in_rule, most_sweeps, most_in_sweep, arity_of}
use Rattle.meaning.specs.Rules.{Term, constant, variable, Atom, Comparison, equal, unequal, less, less_or_equal, Test, Sweep, Rule, Book, occurs_in}
use Rattle.meaning.specs.WellFormed.{GoodKind, any_variable, GoodAtom, GoodTest, GoodGroup, GoodSweep, GoodRule, GoodBook}
use Rattle.files.specs.Marks.{KD, RU, BA, TE, HE, SW, EN, is_mark}
use Rattle.files.specs.Judge.{accepted}
use Rattle.files.specs.InPlace.{byte_at, term_of, comparison_of, Read, records_at, many_at, term_at, kind_at, test_at, atom_at, groups_at, rule_at, kinds_at, book_at}
use Rattle.files.specs.Encode.{concat_map, class_byte, tag_of, term_value, encode_term, encode_atom, comparison_number, encode_test, encode_groups, encode_sweep, encode_rule, encode_book}
use Rattle.files.specs.Book.{judge_book}
use Rattle.book_encoding.specs.Lists.{Bytes, two_bytes_lem}
use Rattle.book_encoding.specs.Accepted.{book_accepted}

-- ---- what stands at a place

module _ (file : List ℕ) where
  byte-on : (p k : ℕ) (l : List ℕ) → drop p file ≡ l → byte_at file (p + k) ≡ get_or l k 0
  byte-on p k l e = sym (get_or-drop p file k 0) ∙ ap (λ (q : List ℕ). get_or q k 0) e

  byte_here : (p : ℕ) (l : List ℕ) → drop p file ≡ l → byte_at file p ≡ get_or l 0 0
  byte_here p l e = ap (λ (q : ℕ). get_or file q 0) (sym (add-zero p)) ∙ byte-on p 0 l e

  on : (p k : ℕ) (l : List ℕ) → drop p file ≡ l → drop (p + k) file ≡ drop k l
  on p k l e = sym (drop-drop k p file) ∙ ap (drop k) e

  -- a reader at a place gives this value, and what follows it is this
  record Gives {A : Type 0} (r : Read A) (a : A) (post : List ℕ) : Type 0 where
    value : r.value ≡ a
    next : drop r.next file ≡ post

  -- ---- fields

  term_here : (p : ℕ) (t : Term) (post : List ℕ) → drop p file ≡ encode_term t ++ post → term_at file p ≡ t
  term_here p t post e =
      let e₁ = on p 1 (encode_term t ++ post) e in
      ap₂ term_of (byte_here p _ e) (ap₂ (λ (low high : ℕ). low + 256 * high) (byte_here (p + 1) _ e₁) (byte-on (p + 1) 1 _ e₁)) ∙ known t
    where
      known : (t : Term) → term_of (tag_of t) (term_value t % 256 + 256 * (term_value t / 256)) ≡ t
      known (constant v) = ap constant (two_bytes_lem v)
      known (variable x) = ap variable (two_bytes_lem x)

  terms_here : (p : ℕ) (ts : List Term) (post : List ℕ) → drop p file ≡ concat_map encode_term ts ++ post
      → (many_at (term_at file) 3 (length ts) p ≡ ts) × (drop (p + 3 * length ts) file ≡ post)
  unfolding concat_map many_at
  terms_here p [] post e = (refl, ap (λ (q : ℕ). drop q file) (add-zero p) ∙ e)
  terms_here p (t ∷ ts) post e =
      let more = terms_here (p + 3) ts post (on p 3 (encode_term t ++ (concat_map encode_term ts ++ post)) e) in
      let far : p + 3 * suc (length ts) ≡ p + 3 + 3 * length ts = omega arith in
      (ap₂ ◌∷◌ (term_here p t (concat_map encode_term ts ++ post) e) more.0, ap (λ (q : ℕ). drop q file) far ∙ more.1)

  kind_here_lem : (kind : Kind) (p : ℕ) (post : List ℕ) → drop p file ≡ (class_byte kind.card ∷ kind.arity ∷ []) ++ post → Gives (kind_at file p) kind post
  kind_here_lem kind p post e = record {
    value = ap₂ (λ (class arity : ℕ). record { card = eqb class 0; arity = arity }) (byte_here p _ e) (byte-on p 1 _ e)
        ∙ ap (λ (card : Bool). record { card = card; arity = kind.arity }) (known kind.card);
    next = on p 2 _ e;
  }
    where
      known : (card : Bool) → eqb (class_byte card) 0 ≡ card
      known true = refl
      known false = refl

  test_here : (t : Test) (p : ℕ) (post : List ℕ)
      → drop p file ≡ (comparison_number t.comparison ∷ (encode_term t.left ++ encode_term t.right)) ++ post → Gives (test_at file p) t post
  test_here t p post e = record {
    value = rw (
      byte_here p _ e,
      known t.comparison,
      term_here (p + 1) t.left (encode_term t.right ++ post) (on p 1 _ e),
      term_here (p + 4) t.right post (on p 4 _ e),
    );
    next = on p 7 _ e;
  }
    where
      known : (c : Comparison) → comparison_of (comparison_number c) ≡ c
      known equal = refl
      known unequal = refl
      known less = refl
      known less_or_equal = refl

  atom_here : (kinds : List Kind) (bound : ℕ → Bool) (a : Atom) (p : ℕ) (post : List ℕ) → GoodAtom kinds bound a
      → drop p file ≡ (a.kind ∷ concat_map encode_term a.terms) ++ post → Gives (atom_at file kinds p) a post
  atom_here kinds bound a p post good e =
      let kind : byte_at file p ≡ a.kind = byte_here p _ e in
      let arity : arity_of kinds (byte_at file p) ≡ length a.terms = ap (arity_of kinds) kind ∙ sym good.arity in
      let terms = terms_here (p + 1) a.terms post (on p 1 _ e) in
      record {
        value = ap₂ (λ (k : ℕ) (ts : List Term). record { kind = k; terms = ts }) kind (ap (λ (k : ℕ). many_at (term_at file) 3 k (p + 1)) arity ∙ terms.0);
        next = ap (λ (k : ℕ). drop (p + 1 + 3 * k) file) arity ∙ terms.1;
      }

-- ---- records

-- the list does not start with the mark
abbrev Not : List ℕ → List ℕ → Type 0
Not mark l = is_mark mark (get_or l 0 0) (get_or l 1 0) ≡ false

not-records : {A : Type 0} (mark : List ℕ) (f : A → List ℕ) (items : List A) (post : List ℕ) → ((a : A) (l : List ℕ) → Not mark (f a ++ l)) → Not mark post
    → Not mark (concat_map f items ++ post)
unfolding concat_map
not-records mark f [] post each last = last
not-records mark f (a ∷ items) post each last = rw (append_assoc (f a) (concat_map f items) post) (each a (concat_map f items ++ post))

-- Records of one mark, as many as there are, none having more than the reader takes. What follows has another mark, and is such that each
-- record is read to its end (Follows), as it is where another such record follows.
module _ (file : List ℕ) {A : Type 0} (first second : ℕ) (encode : A → List ℕ) (item : ℕ → Read A) (Good : A → Type 0) (Follows : List ℕ → Type 0)
    (again : (l : List ℕ) → Follows (first ∷ second ∷ l))
    (one : (a : A) (p : ℕ) (post : List ℕ) → Good a → Follows post → drop p file ≡ encode a ++ post → Gives file (item p) a post) where
  abbrev record_of : A → List ℕ
  record_of a = (first ∷ second ∷ []) ++ encode a

  follows : (items : List A) (post : List ℕ) → Follows post → Follows (concat_map record_of items ++ post)
  unfolding concat_map
  follows [] post last = last
  follows (a ∷ items) post last = again _

  mark_here : (p : ℕ) (l : List ℕ) → drop p file ≡ l
      → is_mark (first ∷ second ∷ []) (byte_at file p) (byte_at file (p + 1)) ≡ is_mark (first ∷ second ∷ []) (get_or l 0 0) (get_or l 1 0)
  mark_here p l e = ap₂ (is_mark (first ∷ second ∷ [])) (byte_here file p l e) (byte-on file p 1 l e)

  picked : (test answer : Bool) (x y : Read (List A)) (items : List A) (post : List ℕ) → test ≡ answer → Gives file (if answer then x else y) items post
      → Gives file (if test then x else y) items post
  picked test answer x y items post e h = subst (λ (t : Bool). Gives file (if t then x else y) items post) (sym e) h

  records_here : (left p : ℕ) (items : List A) (post : List ℕ) → length items ≤ left → All Good items → Not (first ∷ second ∷ []) post → Follows post
      → drop p file ≡ concat_map record_of items ++ post → Gives file (records_at file (first ∷ second ∷ []) item left p) items post
  unfolding concat_map records_at
  records_here zero p [] post size goods other last e = record { value = refl; next = e }
  records_here zero p (a ∷ items) post size goods other last e = let bad : ⊥ = omega arith in absurd bad
  records_here (suc left) p [] post size goods other last e =
      picked _ false _ _ [] post (mark_here p post e ∙ other) (record { value = refl; next = e })
  records_here (suc left) p (a ∷ items) post size goods other last e =
      let more = concat_map record_of items ++ post in
      let marked : drop p file ≡ first ∷ second ∷ (encode a ++ more) = e ∙ ap (λ (q : List ℕ). first ∷ second ∷ q) (append_assoc (encode a) (concat_map record_of items) post) in
      let found = one a (p + 2) more goods.0 (follows items post last) (on file p 2 _ marked) in
      let others = records_here left (item (p + 2)).next items post (omega arith) goods.1 other last found.next in
      picked _ true _ _ (a ∷ items) post (mark_here p _ marked ∙ rw (eq-eqb first first refl, eq-eqb second second refl))
      (record { value = ap₂ ◌∷◌ found.value others.value; next = others.next })

-- ---- a book

-- another mark than those of a body, of tests and of heads
abbrev AfterGroups : List ℕ → Type 0
AfterGroups l = Not BA l × Not TE l × Not HE l

abbrev AfterRule : List ℕ → Type 0
AfterRule l = AfterGroups l × Not SW l

abbrev Anything : List ℕ → Type 0
Anything l = Unit {0}

module _ (file : List ℕ) (kinds : List Kind) where
  groups_here : (most : ℕ) (bound : ℕ → Bool) (body : List Atom) (tests : List Test) (heads : List Atom) (p : ℕ) (post : List ℕ)
      → GoodGroup kinds most bound body tests heads → AfterGroups post → drop p file ≡ encode_groups body tests heads ++ post
      → Gives file (groups_at file kinds most p) (record { body = body; tests = tests; heads = heads }) post
  unfolding encode_groups groups_at
  groups_here most bound body tests heads p post good after e =
      let body_end = (records_at file BA (atom_at file kinds) most p).next in
      let tests-end = (records_at file TE (test_at file) most body_end).next in
      let heads-post = concat_map (encode_atom HE) heads ++ post in
      let tests-post = concat_map encode_test tests ++ heads-post in
      let not-tests : Not TE heads-post = not-records TE (encode_atom HE) heads post (λ a l. refl) after.1 in
      let not_body : Not BA tests-post =
      not-records BA encode_test tests heads-post (λ a l. refl) (not-records BA (encode_atom HE) heads post (λ a l. refl) after.0) in
      let body_read = records_here file 0x62 0x61 (λ (a : Atom). a.kind ∷ concat_map encode_term a.terms) (atom_at file kinds) (GoodAtom kinds any_variable) Anything
      (λ l. tt) (λ a p post good follows e. atom_here file kinds any_variable a p post good e)
      most p body tests-post good.body_size good.body_atoms not_body tt (e ∙ simp append_assoc) in
      let tests_read = records_here file 0x74 0x65 (λ (t : Test). comparison_number t.comparison ∷ (encode_term t.left ++ encode_term t.right)) (test_at file) (GoodTest bound) Anything
      (λ l. tt) (λ t p post good follows e. test_here file t p post e)
      most body_end tests heads-post good.tests_size good.good_tests not-tests tt body_read.next in
      let heads_read = records_here file 0x68 0x65 (λ (a : Atom). a.kind ∷ concat_map encode_term a.terms) (atom_at file kinds) (GoodAtom kinds bound) Anything
      (λ l. tt) (λ a p post good follows e. atom_here file kinds bound a p post good e)
      most tests-end heads post good.heads_size good.head_atoms after.2 tt tests_read.next in
      record { value = rw (body_read.value, tests_read.value, heads_read.value); next = heads_read.next }

  rule_here : (rule : Rule) (p : ℕ) (post : List ℕ) → GoodRule kinds rule → AfterRule post
      → drop p file ≡ (encode_groups rule.body rule.tests rule.heads ++ concat_map encode_sweep rule.sweeps) ++ post
      → Gives file (rule_at file kinds p) rule post
  unfolding rule_at
  rule_here rule p post good after e =
      let own-end = (groups_at file kinds most_in_rule p).next in
      let sweeps-post = concat_map encode_sweep rule.sweeps ++ post in
      let own-after : AfterGroups sweeps-post = (
        not-records BA encode_sweep rule.sweeps post (λ s l. refl) after.0.0,
        not-records TE encode_sweep rule.sweeps post (λ s l. refl) after.0.1,
        not-records HE encode_sweep rule.sweeps post (λ s l. refl) after.0.2,
      ) in
      let own_read = groups_here most_in_rule (λ x. occurs_in x rule.body) rule.body rule.tests rule.heads p sweeps-post good.group own-after
      (e ∙ simp append_assoc) in
      let sweeps-read = records_here file 0x73 0x77 (λ (s : Sweep). encode_groups s.body s.tests s.heads) (groups_at file kinds most_in_sweep) (GoodSweep kinds rule.body) AfterGroups
      (λ l. (refl, refl, refl)) (λ s p post good after e. groups_here most_in_sweep _ s.body s.tests s.heads p post good.group after e)
      most_sweeps own-end rule.sweeps post good.sweeps_size good.sweeps after.1 after.0 own_read.next in
      record { value = rw (own_read.value, sweeps-read.value); next = sweeps-read.next }

-- the kinds, and then the rules
kinds_here : (book : Book) → GoodBook book → Gives (encode_book book) (kinds_at (encode_book book)) book.kinds (concat_map encode_rule book.rules ++ EN)
unfolding kinds_at encode_book
kinds_here book good =
    records_here (encode_book book) 0x6b 0x64 (λ (kind : Kind). class_byte kind.card ∷ kind.arity ∷ []) (kind_at (encode_book book)) GoodKind Anything
    (λ l. tt) (λ kind p post good follows e. kind_here_lem (encode_book book) kind p post e)
    most_kinds 0 book.kinds (concat_map encode_rule book.rules ++ EN) good.kinds_size good.kinds
    (not-records KD encode_rule book.rules EN (λ r l. refl) refl) tt refl

rules_here : (book : Book) → GoodBook book
    → (records_at (encode_book book) RU (rule_at (encode_book book) book.kinds) most_rules (kinds_at (encode_book book)).next).value ≡ book.rules
rules_here book good =
    (records_here (encode_book book) 0x72 0x75 (λ (r : Rule). encode_groups r.body r.tests r.heads ++ concat_map encode_sweep r.sweeps)
    (rule_at (encode_book book) book.kinds) (GoodRule book.kinds) AfterRule
    (λ l. ((refl, refl, refl), refl)) (rule_here (encode_book book) book.kinds)
    most_rules (kinds_at (encode_book book)).next book.rules EN good.rules_size good.rules refl ((refl, refl, refl), refl) (kinds_here book good).next).value

-- The encoding of a good book, read in place, gives that book.
pub encoded_in_place : (book : Book) → GoodBook book → book_at (encode_book book) ≡ book
unfolding book_at
encoded_in_place book good = rw ((kinds_here book good).value, rules_here book good)

-- An accepted book file, read in place, gives the book that the judgement read, and its kinds.
pub book_in_place : (file : List ℕ) (book : Book) → Bytes file → judge_book file ≡ accepted book
    → (book_at file ≡ book) × ((kinds_at file).value ≡ book.kinds)
book_in_place file book bytes e =
    let found = book_accepted file book bytes e in (
      ap book_at found.1 ∙ encoded_in_place book found.0,
      ap (λ (l : List ℕ). (kinds_at l).value) found.1 ∙ (kinds_here book found.0).value,
    )
