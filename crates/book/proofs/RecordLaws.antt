-- The records by their marks: the fields of one are read, and the state with what is read.
use Prim.Native.Nat.{ℕ, suc, ◌+◌, ◌≤◌, ◌<◌}
use mathlib.Core.Path.{◌≡◌, refl, sym, ap, ap₂, ◌∙◌, subst}
use mathlib.Core.Bool.{Bool, true, false, ◌&&◌, ◌||◌, or-false, or_assoc}
use mathlib.Core.List.{List, [], ◌∷◌, ◌++◌}
use native.Mathlib.Omega.{arith}
use lib.ListN.{length, get_or, drop, set, length-set, get_or-eq_default}
use lib.Seq.{drop-cons}
use lib.Dec.{eqb, ltb}
use borrow.Author.Tests.{lt-ltb, le-leb, ltb-false}
use Rattle.std.proofs.lemmas.Grind.{common_steps}
use Rattle.std.specs.Prelude.{Result, Ok, Err}
use Rattle.meaning.specs.Facts.{Kind, no_kind, most_kinds, most_rules, is_card, arity_of}
use Rattle.meaning.specs.Rules.{Term, constant, Atom, Test, Sweep, occurs_in_terms, occurs_in}
use Rattle.meaning.specs.WellFormed.{any_variable}
use Rattle.files.specs.Numbers.{Refusal as Why, MANY, FIELD}
use Rattle.files.specs.Judge.{Judged, go, demand, byte}
use Rattle.files.specs.Board.{is_of_class}
use Rattle.files.specs.InPlace.{comparison_of}
use Rattle.files.specs.Book.{Mark, Open, no_rule, in_rule, in_sweep, Reading, empty_rule, groups, with_groups, rules_closed, sweeps_so_far, is_in_rule, may_stand_here, has_card, is_bound, most_in_group, fields, terms, atom}
use Rattle.files.specs.Book as B
use Rattle.answers.specs.declared.Refusal.{Refusal}
use Rattle.kinds.specs.declared.Kinds.{Kinds}
use Rattle.kinds.specs.Listed.{kinds_of, with_kind}
use Rattle.kinds.specs.KindLaws.{kinds-length, with-room, with-listed}
use Rattle.book.specs.Sets.{all_variables}
use Rattle.book.specs.Left.{place}
use Rattle.book.specs.Reads.{Ends, Fields, Reads, Marked, Known, TermsRead, AtomReads, kind_fields, KindReads, test_fields, TestReads}
use Rattle.book.specs.Holds.{with_rules, own_body, Holds, Most, Takes, FieldsRead}
use Rattle.book.specs.declared.Book.{Book}
use Rattle.book.specs.declared.Next.{Next}
use Rattle.book.specs.declared.Scan.{Scan}
use Rattle.book.specs.declared.Variables.{Variables}
use Rattle.book.specs.declared.left.Rest.{Rest}
use Rattle.book.proofs.SetLaws.{in_none, in_all}

demand-true : {S : Type 0} (b : Bool) (why : Why) (at : ℕ) (next : Judged S) → b ≡ true → demand b why at next ≡ next
demand-true b why at next e = rw e

-- the byte at a place, read as a field
byte_at : (end : ℕ) (bytes : List ℕ) (next : ℕ → List ℕ → Judged Reading) (k : ℕ) → k < length bytes
    → byte end (drop k bytes) next ≡ next (get_or bytes k 0) (drop (suc k) bytes)
byte_at end bytes next k h = rw (drop-cons bytes k 0 h)

-- two answers are not one
apart : {A : Type 0} → false ≡ true → A
apart e = absurd (cc)

-- what is made of an answer
abbrev mapped : {A B : Type 0} → (A → B) → Result A Refusal → Result B Refusal
mapped f (Ok a) = Ok (f a)
mapped f (Err e) = Err e

-- ---- a value made of what other fields hold

made_of : {A B C : Type 0} (bytes : List ℕ) (end : ℕ) (from : Fields A) (to : Fields B) (size : C → ℕ) (P : C → A → Type 0) (Q : C → B → Type 0) (make : A → B)
    → ((next : B → List ℕ → Judged Reading) → to next ≡ from (λ a l. next (make a) l)) → ((c : C) (a : A) → P c a → Q c (make a))
    → (t : Result C Refusal) → Reads bytes end from size P t → Reads bytes end to size Q t
made_of bytes end from to size P Q make e q (Ok c) f = record {
  value = make f.value;
  some = f.some;
  within = f.within;
  is = q c f.value f.is;
  goes = λ next. e next ∙ f.goes (λ a l. next (make a) l);
}
made_of bytes end from to size P Q make e q (Err r) f = λ next. subst (λ (j : Judged Reading). Ends end j (Err r)) (sym (e next)) (f (λ a l. next (make a) l))

-- ---- a kind and its terms, a test

pub count_is : (kinds : Kinds) → kinds.count ≤ most_kinds → length (kinds_of kinds) ≡ kinds.count
count_is kinds h = kinds-length kinds ∙ rw (le-leb kinds.count most_kinds h)

module _ (rest : Rest) (kinds : Kinds) (free known : ℕ) (h : 3 ≤ length rest.bytes.now) where
  abbrev its_kind : ℕ
  its_kind = get_or rest.bytes.now 2 0

  pub atom_made : its_kind < kinds.count → (arity : ℕ) → arity ≡ arity_of (kinds_of kinds) its_kind
      → (r : Result Scan Refusal) → TermsRead rest arity free known r → AtomReads rest kinds free known r
  atom_made u arity a r y = record {
    reads = λ few bound b.
        made_of rest.bytes.now rest.end (terms rest.end bound (place rest) arity (drop 3 rest.bytes.now)) (atom rest.end (kinds_of kinds) bound (place rest) (drop 2 rest.bytes.now)) _ _ _
        (λ ts. record { kind = its_kind; terms = ts })
        (λ next.
        byte_at rest.end rest.bytes.now _ 2 h
        ∙ demand-true (ltb its_kind (length (kinds_of kinds))) FIELD _ _ (lt-ltb its_kind (length (kinds_of kinds)) (omega (arith, count_is kinds few)))
        ∙ ap (λ (n : ℕ). terms rest.end bound (place rest) n (drop 3 rest.bytes.now) (λ ts l. next (record { kind = its_kind; terms = ts }) l)) (sym a))
        (λ s ts q. (refl, q)) r (y.reads bound b);
  }

pub test_made : (rest : Rest) → 3 ≤ length rest.bytes.now → get_or rest.bytes.now 2 0 ≤ 3 → (free : ℕ)
    → (r : Result Scan Refusal) → TermsRead rest 2 free free r → TestReads rest free r
test_made rest h u free r y = record {
  reads = λ bound b.
      made_of rest.bytes.now rest.end (terms rest.end bound (place rest) 2 (drop 3 rest.bytes.now)) (test_fields (drop 2 rest.bytes.now) rest.end (place rest) bound) _ _ _
      (λ ts. (get_or rest.bytes.now 2 0, ts))
      (λ next. byte_at rest.end rest.bytes.now _ 2 h ∙ demand-true _ FIELD _ _ (le-leb _ _ u))
      (λ s ts k. tt) r (y.reads bound b);
}

-- what fields hold is read
led_by : {A C : Type 0} (rest : Rest) (from : Fields A) (size : C → ℕ) (P : C → A → Type 0) (judged : Judged Reading) (make : A → Reading) (book : C → Book)
    → judged ≡ from (λ a l. go (make a) l) → ((c : C) (a : A) → P c a → Holds (book c) (make a))
    → (t : Result C Refusal) → Reads rest.bytes.now rest.end from size P t → Takes rest judged (mapped (λ c. record { bytes = size c; book = book c }) t)
led_by rest from size P judged make book e q (Ok c) f = record {
  reading = make f.value;
  some = f.some;
  within = f.within;
  goes = e ∙ f.goes (λ a l. go (make a) l);
  holds = q c f.value f.is;
}
led_by rest from size P judged make book e q (Err r) f = subst (λ (j : Judged Reading). Ends rest.end j (Err r)) (sym e) (f (λ a l. go (make a) l))

-- ---- kd

module _ (book : Book) (rest : Rest) where
  -- the state with other kinds
  abbrev with_kinds : Kinds → Book
  with_kinds kinds = record {
    kinds = kinds;
    rules = book.rules;
    body = book.body;
    tests = book.tests;
    heads = book.heads;
    sweeps = book.sweeps;
    carded = book.carded;
    own = book.own;
    bound = book.bound;
  }

  no_body : (before after : List Kind) (o : Open) → may_stand_here B.kd o ≡ true → has_card before (own_body o) ≡ has_card after (own_body o)
  no_body before after no_rule p = refl
  no_body before after (in_rule rule) p = apart p
  no_body before after (in_sweep rule sweep) p = apart p

  pub kd_takes : book.kinds.count < most_kinds → (class arity : ℕ) → class ≡ get_or rest.bytes.now 2 0 → arity ≡ get_or rest.bytes.now 3 0
      → (kinds : Kinds) → kinds ≡ with_kind book.kinds class arity → (t : Result ℕ Refusal) → KindReads rest t
      → FieldsRead B.kd book rest (mapped (λ m. record { bytes = m; book = with_kinds kinds }) t)
  kd_takes h class arity c a kinds k t y = record {
    reads = λ l r i p.
        led_by rest (kind_fields (drop 2 rest.bytes.now) rest.end (place rest)) _ _ (fields rest.end B.kd (place rest) r (drop 2 rest.bytes.now)) (make r) (λ m. with_kinds kinds)
        (demand-true (ltb (length r.kinds) most_kinds) MANY (place rest) _
        (lt-ltb (length r.kinds) most_kinds (omega (arith, ap length i.kinds, count_is book.kinds i.few))))
        (λ m x e. holds r i p x e) t y.reads;
  }
    where
      make : Reading → ℕ × ℕ → Reading
      make r x = record { kinds = r.kinds ++ (record { card = eqb x.0 0; arity = x.1 } ∷ []); rules = r.rules; now = r.now }

      more : kinds ≡ record { count = book.kinds.count + 1; class = set book.kinds.class book.kinds.count class; arity = set book.kinds.arity book.kinds.count arity }
      more = k ∙ sym (with-room book.kinds class arity h)

      holds : (r : Reading) → Holds book r → may_stand_here B.kd r.now ≡ true → (x : ℕ × ℕ) → x ≡ (get_or rest.bytes.now 2 0, get_or rest.bytes.now 3 0)
          → Holds (with_kinds kinds) (make r x)
      holds r i p x e = record {
        few = omega (arith, ap (λ (q : Kinds). q.count) more);
        classes = ap (λ (q : Kinds). length q.class) more ∙ length-set book.kinds.class book.kinds.count class ∙ i.classes;
        arities = ap (λ (q : Kinds). length q.arity) more ∙ length-set book.kinds.arity book.kinds.count arity ∙ i.arities;
        kinds =
            ap₂ (λ (ks : List Kind) (q : ℕ × ℕ). ks ++ (record { card = eqb q.0 0; arity = q.1 } ∷ [])) i.kinds (e ∙ ap₂ (λ (u v : ℕ). (u, v)) (sym c) (sym a))
            ∙ sym (with-listed book.kinds class arity h i.classes i.arities) ∙ ap kinds_of (sym k);
        rules = i.rules;
        stands = i.stands;
        body = i.body;
        tests = i.tests;
        heads = i.heads;
        sweeps = i.sweeps;
        carded = i.carded ∙ no_body r.kinds (make r x).kinds r.now p;
        own = i.own;
        bound = i.bound;
      }

-- ---- ru

pub ru_takes : (book : Book) (rest : Rest) → book.rules < most_rules
    → FieldsRead B.ru book rest (Ok (record { bytes = 2; book = with_rules book.kinds (book.rules + 1) }))
ru_takes book rest h = record {
  reads = λ l r i p. record {
    reading = record { kinds = r.kinds; rules = rules_closed r.rules r.now; now = in_rule empty_rule };
    some = omega arith;
    within = l;
    goes =
        demand-true (ltb (length (rules_closed r.rules r.now)) most_rules) MANY _ _
        (lt-ltb (length (rules_closed r.rules r.now)) most_rules (omega (arith, i.rules)));
    holds = grind (arith, common_steps, in_none);
  };
}

-- ---- ba, te, he: a group of what is open has one more

-- the state with other groups
abbrev regrouped : Book → ℕ → ℕ → ℕ → Bool → Variables → Variables → Book
regrouped book body tests heads carded own bound = record {
  kinds = book.kinds;
  rules = book.rules;
  body = body;
  tests = tests;
  heads = heads;
  sweeps = book.sweeps;
  carded = carded;
  own = own;
  bound = bound;
}

-- the groups with other tests and heads, and with one body atom more
abbrev later : List Test → List Atom → Open → Sweep
later tests heads o = record { body = (groups o).body; tests = tests; heads = heads }

abbrev grown : Atom → Open → Sweep
grown a o = record { body = (groups o).body ++ (a ∷ []); tests = (groups o).tests; heads = (groups o).heads }

-- an atom of the kinds that are read
atom_reads : (book : Book) (rest : Rest) (free known : ℕ) (t : Result Scan Refusal) → AtomReads rest book.kinds free known t
    → (r : Reading) → Holds book r → (bound : ℕ → Bool) → Marked free bound
    → Reads rest.bytes.now rest.end (atom rest.end r.kinds bound (place rest) (drop 2 rest.bytes.now)) (λ s. s.bytes)
    (λ s a. (a.kind ≡ get_or rest.bytes.now 2 0) × Known known a.terms s.known.bits) t
atom_reads book rest free known t y r i bound b =
    subst
    (λ (ks : List Kind).
    Reads rest.bytes.now rest.end (atom rest.end ks bound (place rest) (drop 2 rest.bytes.now)) (λ s. s.bytes)
    (λ s a. (a.kind ≡ get_or rest.bytes.now 2 0) × Known known a.terms s.known.bits) t)
    (sym i.kinds) (y.reads i.few bound b)

-- a body with one atom more
card_snoc : (kinds : List Kind) (xs : List Atom) (a : Atom) → has_card kinds (xs ++ (a ∷ [])) ≡ (has_card kinds xs || is_card kinds a.kind)
card_snoc kinds [] a = or-false (is_card kinds a.kind)
card_snoc kinds (x ∷ xs) a = ap (λ (b : Bool). is_card kinds x.kind || b) (card_snoc kinds xs a) ∙ sym (or_assoc (is_card kinds x.kind) _ _)

occurs_snoc : (v : ℕ) (xs : List Atom) (a : Atom) → occurs_in v (xs ++ (a ∷ [])) ≡ (occurs_in v xs || occurs_in_terms v a.terms)
occurs_snoc v [] a = or-false (occurs_in_terms v a.terms)
occurs_snoc v (x ∷ xs) a = ap (λ (b : Bool). occurs_in_terms v x.terms || b) (occurs_snoc v xs a) ∙ sym (or_assoc (occurs_in_terms v x.terms) _ _)

is-card : (kinds : List Kind) (k : ℕ) → is_of_class kinds true k ≡ is_card kinds k
is-card kinds k = by (ltb k (length kinds)) refl
  where
    by : (t : Bool) → ltb k (length kinds) ≡ t → (t && is_card kinds k) ≡ is_card kinds k
    by true e = refl
    by false e = sym (ap (λ (x : Kind). x.card) (get_or-eq_default kinds no_kind (ltb-false k (length kinds) e)))

-- a mark that needs a rule stands in one
needs_rule : (mark : Mark) → may_stand_here mark no_rule ≡ false → (o : Open) → may_stand_here mark o ≡ true → is_in_rule o ≡ true
needs_rule mark e no_rule h = apart (sym e ∙ h)
needs_rule mark e (in_rule rule) h = refl
needs_rule mark e (in_sweep rule sweep) h = refl

module _ (book : Book) (rest : Rest) (most : ℕ) (q : Most book most) where
  -- a group against the most that it may have
  roomy : (r : Reading) → Holds book r → is_in_rule r.now ≡ true → (n count : ℕ) → n ≡ count → count < most → ltb n (most_in_group r.now) ≡ true
  roomy r i w n count e h = let m = q.says r i w in lt-ltb n (most_in_group r.now) (omega arith)

  pub te_takes : book.tests < most → (t : Result Scan Refusal) → TestReads rest book.bound.bits t
      → FieldsRead B.te book rest
      (mapped (λ s. record { bytes = s.bytes; book = regrouped book book.body (book.tests + 1) book.heads book.carded book.own book.bound }) t)
  te_takes h t y = record {
    reads = λ l r i p.
        let w = needs_rule B.te refl r.now p in
        led_by rest (test_fields (drop 2 rest.bytes.now) rest.end (place rest) (is_bound r.now)) _ _ (fields rest.end B.te (place rest) r (drop 2 rest.bytes.now))
        (λ x.
        record { kinds = r.kinds; rules = r.rules; now = with_groups r.now (later ((groups r.now).tests ++ (test x ∷ [])) (groups r.now).heads r.now) })
        _ (demand-true _ MANY _ _ (roomy r i w _ book.tests i.tests h))
        (λ s x k. grind (arith, common_steps))
        t (y.reads (is_bound r.now) i.bound);
  }
    where
      test : ℕ × List Term → Test
      test x = record { comparison = comparison_of x.0; left = get_or x.1 0 (constant 0); right = get_or x.1 1 (constant 0) }

  pub he_takes : book.heads < most → (t : Result Scan Refusal) → AtomReads rest book.kinds book.bound.bits book.bound.bits t
      → FieldsRead B.he book rest
      (mapped (λ s. record { bytes = s.bytes; book = regrouped book book.body book.tests (book.heads + 1) book.carded book.own book.bound }) t)
  he_takes h t y = record {
    reads = λ l r i p.
        let w = needs_rule B.he refl r.now p in
        led_by rest (atom rest.end r.kinds (is_bound r.now) (place rest) (drop 2 rest.bytes.now)) _ _ (fields rest.end B.he (place rest) r (drop 2 rest.bytes.now))
        (λ a.
        record { kinds = r.kinds; rules = r.rules; now = with_groups r.now (later (groups r.now).tests ((groups r.now).heads ++ (a ∷ [])) r.now) })
        _ (demand-true _ MANY _ _ (roomy r i w _ book.heads i.heads h))
        (λ s a k. grind (arith, common_steps))
        t (atom_reads book rest book.bound.bits book.bound.bits t y r i (is_bound r.now) i.bound);
  }

  pub ba_ends : book.body < most → (e : Refusal) → AtomReads rest book.kinds all_variables book.bound.bits (Err e) → FieldsRead B.ba book rest (Err e)
  ba_ends h e y = record {
    reads = λ l r i p.
        subst (λ (j : Judged Reading). Ends rest.end j (Err e))
        (sym (demand-true _ MANY _ _ (roomy r i (needs_rule B.ba refl r.now p) _ book.body i.body h)))
        (atom_reads book rest all_variables book.bound.bits (Err e) y r i any_variable (λ v u. in_all v u)
        (λ a l. go (record { kinds = r.kinds; rules = r.rules; now = with_groups r.now (grown a r.now) }) l));
  }

  module _ (h : book.body < most) (t : Result Scan Refusal) (y : AtomReads rest book.kinds all_variables book.bound.bits t) where
    -- the book with the atom
    abbrev with_atom : Bool → (Scan → Variables) → Scan → Next
    with_atom carded own s =
        record { bytes = s.bytes; book = regrouped book (book.body + 1) book.tests book.heads carded (own s) s.known }

    pub ba_in_rule : book.sweeps ≡ 0 → (kind : ℕ) → kind ≡ get_or rest.bytes.now 2 0 → (card : Bool) → card ≡ is_of_class (kinds_of book.kinds) true kind
        → (carded : Bool) → carded ≡ (book.carded || card) → FieldsRead B.ba book rest (mapped (with_atom carded (λ s. s.known)) t)
    ba_in_rule z kind k card c carded x = record {
      reads = λ l r i p.
          let w = needs_rule B.ba refl r.now p in
          led_by rest (atom rest.end r.kinds any_variable (place rest) (drop 2 rest.bytes.now)) _ _ (fields rest.end B.ba (place rest) r (drop 2 rest.bytes.now))
          (λ a. record { kinds = r.kinds; rules = r.rules; now = with_groups r.now (grown a r.now) })
          _ (demand-true _ MANY _ _ (roomy r i w _ book.body i.body h))
          (λ s a m. grind (arith, common_steps, card_snoc, occurs_snoc, is-card, i.own, i.bound, m.1))
          t (atom_reads book rest all_variables book.bound.bits t y r i any_variable (λ v u. in_all v u));
    }

    pub ba_in_sweep : (book.sweeps ≡ 0 → ⊥) → FieldsRead B.ba book rest (mapped (with_atom book.carded (λ s. book.own)) t)
    ba_in_sweep z = record {
      reads = λ l r i p.
          let w = needs_rule B.ba refl r.now p in
          led_by rest (atom rest.end r.kinds any_variable (place rest) (drop 2 rest.bytes.now)) _ _ (fields rest.end B.ba (place rest) r (drop 2 rest.bytes.now))
          (λ a. record { kinds = r.kinds; rules = r.rules; now = with_groups r.now (grown a r.now) })
          _ (demand-true _ MANY _ _ (roomy r i w _ book.body i.body h))
          (λ s a m. grind (arith, common_steps, card_snoc, occurs_snoc, or_assoc, i.own, i.bound, m.1))
          t (atom_reads book rest all_variables book.bound.bits t y r i any_variable (λ v u. in_all v u));
    }
