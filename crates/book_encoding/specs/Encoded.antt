-- The encoding of a good book is accepted, and the judgement reads that book: so two good books have different encodings. Each record is read
-- forwards from the reading that it follows; what is left is judged from the reading with that record.
use Prim.Native.Nat.{ℕ, zero, suc, ◌+◌, ◌-◌, ◌<◌, ◌≤◌}
use native.Mathlib.Omega.{arith}
use Rattle.std.specs.Prelude.{◌≡◌, ◌↔◌, Bool, true, false, ◌&&◌, ◌||◌, eqb, leb, ltb, if◌then◌else◌}
use Rattle.std.proofs.Math.Path.{refl, ap, subst}
use Rattle.std.proofs.Common.{sym, ◌∙◌, lt-ltb, le-leb}
use mathlib.Core.List.{List, [], ◌∷◌, ◌++◌, append_assoc, append-nil}
use Rattle.std.proofs.Math.ListN.{length, length-append}
use Rattle.std.proofs.Math.Seq.{append_snoc}
use Rattle.meaning.specs.Basics.{All}
use Rattle.meaning.specs.Facts.{Kind, most_kinds, most_rules, most_in_rule, most_sweeps, most_in_sweep, variables, most_numbers}
use Rattle.meaning.specs.Rules.{Term, constant, variable, Atom, Comparison, equal, unequal, less, less_or_equal, Test, Sweep, Rule, Book, occurs_in}
use Rattle.meaning.specs.WellFormed.{GoodKind, GoodTerm, any_variable, GoodAtom, GoodTest, GoodGroup, HasCard, GoodSweep, GoodRule, GoodBook}
use Rattle.files.specs.Numbers.{Refusal, PLACE, NOCARD, BARE, MANY, FIELD}
use Rattle.files.specs.Marks.{RU, BA, HE, SW, EN}
use Rattle.files.specs.Judge.{accepted, Judged, go, ended, stop, demand, judge}
use Rattle.files.specs.Board.{is_empty}
use Rattle.files.specs.InPlace.{comparison_of}
use Rattle.files.specs.Encode.{concat_map, class_byte, encode_kind, encode_term, encode_atom, comparison_number, encode_test, encode_groups, encode_sweep, encode_rule, encode_book}
use Rattle.files.specs.Book.{Open, no_rule, in_rule, in_sweep, Reading, groups, with_groups, with_sweep, sweep_opened, sweeps_so_far, rules_closed, is_in_rule, has_card, bodied, most_in_group, is_bound, term, terms, atom, book_record, empty_sweep, empty_rule, book_of, judge_book}
use Rattle.book_encoding.specs.Lists.{Bytes, absurd_bool, two_bytes_lem, length_more}
use Rattle.book_encoding.specs.Accepted.{book_accepted}
use Rattle.book_encoding.specs.Readings.{reading, closed_book, Bodied, card_had, more_body, more_tests, more_heads}

-- ---- fields

demand-true : {S : Type 0} (test : Bool) (why : Refusal) (place : ℕ) (next : Judged S) → test ≡ true → demand test why place next ≡ next
demand-true test why place next e = ap (λ (t : Bool). demand t why place next) e

module _ {S : Type 0} (n : ℕ) (bound : ℕ → Bool) (at : ℕ) where
  term_read : (t : Term) (more : List ℕ) (next : Term → List ℕ → Judged S) → GoodTerm bound t → term n bound at (encode_term t ++ more) next ≡ next t more
  term_read (constant v) more next good = ap (λ (x : ℕ). next (constant x) more) (two_bytes_lem v)
  term_read (variable x) more next good = rw (two_bytes_lem x, lt-ltb x variables good.0, good.1)

  terms_read : (ts : List Term) (more : List ℕ) (next : List Term → List ℕ → Judged S) → All (GoodTerm bound) ts
      → terms n bound at (length ts) (concat_map encode_term ts ++ more) next ≡ next ts more
  unfolding concat_map
  terms_read [] more next goods = refl
  terms_read (t ∷ ts) more next goods =
      term_read t (concat_map encode_term ts ++ more) (λ t rest. terms n bound at (length ts) rest λ ts rest. next (t ∷ ts) rest) goods.0
      ∙ terms_read ts more (λ ts rest. next (t ∷ ts) rest) goods.1

  atom_read : (kinds : List Kind) (a : Atom) (more : List ℕ) (next : Atom → List ℕ → Judged S) → GoodAtom kinds bound a
      → atom n kinds bound at ((a.kind ∷ concat_map encode_term a.terms) ++ more) next ≡ next a more
  atom_read kinds a more next good =
      demand-true (ltb a.kind (length kinds)) FIELD at _ (lt-ltb a.kind (length kinds) good.declared)
      ∙ ap (λ (k : ℕ). terms n bound at k (concat_map encode_term a.terms ++ more) (λ ts rest. next (record { kind = a.kind; terms = ts }) rest)) (sym good.arity)
      ∙ terms_read a.terms more (λ ts rest. next (record { kind = a.kind; terms = ts }) rest) good.terms

class_known : (card : Bool) → (leb (class_byte card) 1 ≡ true) × (eqb (class_byte card) 0 ≡ card)
class_known true = (refl, refl)
class_known false = (refl, refl)

test_known : (c : Comparison) → (leb (comparison_number c) 3 ≡ true) × (comparison_of (comparison_number c) ≡ c)
test_known equal = (refl, refl)
test_known unequal = (refl, refl)
test_known less = (refl, refl)
test_known less_or_equal = (refl, refl)

bodied-passes : {S : Type 0} (kinds : List Kind) (now : Open) (at : ℕ) (next : Judged S) → Bodied kinds now → bodied kinds now at next ≡ next
bodied-passes kinds no_rule at next b = refl
bodied-passes kinds (in_rule rule) at next b = demand-true (has_card kinds rule.body) NOCARD at next (card_had kinds rule.body b)
bodied-passes kinds (in_sweep rule sweep) at next b = cases sweep.body b
  where
    cases : (body : List Atom) → 1 ≤ length body → (if is_empty body then stop BARE at else next) ≡ next
    cases [] b = let bad : ⊥ = omega arith in absurd bad
    cases (a ∷ body) b = refl

-- ---- one record

module _ (n : ℕ) (kinds : List Kind) (rules : List Rule) (now : Open) (more : List ℕ) where
  body-step : (a : Atom) → is_in_rule now ≡ true → is_empty (groups now).tests ≡ true → is_empty (groups now).heads ≡ true
      → length (groups now).body < most_in_group now → GoodAtom kinds any_variable a
      → book_record n (reading kinds rules now) (encode_atom BA a ++ more) ≡ go (reading kinds rules (with_groups now (more_body now a))) more
  unfolding book_record
  body-step a i t h room good =
      demand-true (is_in_rule now && is_empty (groups now).tests && is_empty (groups now).heads) PLACE _ _ (rw (i, t, h))
      ∙ demand-true (ltb (length (groups now).body) (most_in_group now)) MANY _ _ (lt-ltb (length (groups now).body) (most_in_group now) room)
      ∙ atom_read n any_variable _ kinds a more (λ a rest. go (reading kinds rules (with_groups now (more_body now a))) rest) good

  test-step : (t : Test) → is_in_rule now ≡ true → is_empty (groups now).heads ≡ true → Bodied kinds now
      → length (groups now).tests < most_in_group now → GoodTest (is_bound now) t
      → book_record n (reading kinds rules now) (encode_test t ++ more) ≡ go (reading kinds rules (with_groups now (more_tests now t))) more
  unfolding book_record
  test-step t i h b room good =
      let test : ℕ → Term → Term → Test = λ number left right. record { comparison = comparison_of number; left = left; right = right } in
      let number = comparison_number t.comparison in
      let at = n - length (encode_test t ++ more) in
      let next : Test → List ℕ → Judged Reading = λ t rest. go (reading kinds rules (with_groups now (more_tests now t))) rest in
      demand-true (is_in_rule now && is_empty (groups now).heads) PLACE _ _ (rw (i, h))
      ∙ bodied-passes kinds now _ _ b
      ∙ demand-true (ltb (length (groups now).tests) (most_in_group now)) MANY _ _ (lt-ltb (length (groups now).tests) (most_in_group now) room)
      ∙ demand-true (leb number 3) FIELD _ _ (test_known t.comparison).0
      ∙ term_read n (is_bound now) at t.left (encode_term t.right ++ more)
      (λ left rest. term n (is_bound now) at rest λ right rest. next (test number left right) rest) good.0
      ∙ term_read n (is_bound now) at t.right more (λ right rest. next (test number t.left right) rest) good.1
      ∙ ap (λ (c : Comparison). next (record { comparison = c; left = t.left; right = t.right }) more) (test_known t.comparison).1

  head_step : (a : Atom) → is_in_rule now ≡ true → Bodied kinds now → length (groups now).heads < most_in_group now → GoodAtom kinds (is_bound now) a
      → book_record n (reading kinds rules now) (encode_atom HE a ++ more) ≡ go (reading kinds rules (with_groups now (more_heads now a))) more
  unfolding book_record
  head_step a i b room good =
      demand-true (is_in_rule now) PLACE _ _ i
      ∙ bodied-passes kinds now _ _ b
      ∙ demand-true (ltb (length (groups now).heads) (most_in_group now)) MANY _ _ (lt-ltb (length (groups now).heads) (most_in_group now) room)
      ∙ atom_read n (is_bound now) _ kinds a more (λ a rest. go (reading kinds rules (with_groups now (more_heads now a))) rest) good

  sweep-step : is_in_rule now ≡ true → Bodied kinds now → sweeps_so_far now < most_sweeps
      → book_record n (reading kinds rules now) (SW ++ more) ≡ go (reading kinds rules (sweep_opened now)) more
  unfolding book_record
  sweep-step i b room =
      demand-true (is_in_rule now) PLACE _ _ i
      ∙ bodied-passes kinds now _ _ b
      ∙ demand-true (ltb (sweeps_so_far now) most_sweeps) MANY _ _ (lt-ltb (sweeps_so_far now) most_sweeps room)

  rule-step : Bodied kinds now → length (rules_closed rules now) < most_rules
      → book_record n (reading kinds rules now) (RU ++ more) ≡ go (reading kinds (rules_closed rules now) (in_rule empty_rule)) more
  unfolding book_record
  rule-step b room =
      bodied-passes kinds now _ _ b
      ∙ demand-true (ltb (length (rules_closed rules now)) most_rules) MANY _ _ (lt-ltb (length (rules_closed rules now)) most_rules room)

  end_step : Bodied kinds now → book_record n (reading kinds rules now) (EN ++ more) ≡ ended (reading kinds rules now) more
  unfolding book_record
  end_step b = bodied-passes kinds now _ _ b

kind-step : (n : ℕ) (kinds : List Kind) (kind : Kind) (more : List ℕ) → length kinds < most_kinds → GoodKind kind
    → book_record n (reading kinds [] no_rule) (encode_kind kind ++ more) ≡ go (reading (kinds ++ (kind ∷ [])) [] no_rule) more
unfolding book_record
kind-step n kinds kind more room good =
    demand-true (ltb (length kinds) most_kinds) MANY _ _ (lt-ltb (length kinds) most_kinds room)
    ∙ demand-true (leb (class_byte kind.card) 1) FIELD _ _ (class_known kind.card).0
    ∙ demand-true (leb kind.arity most_numbers) FIELD _ _ (le-leb kind.arity most_numbers good)
    ∙ ap (λ (card : Bool). go (reading (kinds ++ (record { card = card; arity = kind.arity } ∷ [])) [] no_rule) more) (class_known kind.card).1

-- ---- what is left is accepted, read after what is read so far

-- each record takes a byte at least, so turns that outnumber the bytes suffice
abbrev Accepts : ℕ → Book → Reading → List ℕ → Type 0
Accepts n book r rest = (turns : ℕ) → length rest < turns → book_of (judge n (book_record n) turns r rest) ≡ accepted book

module _ (n : ℕ) (book : Book) where
  one_step : (r s : Reading) (rest more : List ℕ) → book_record n r rest ≡ go s more → length more < length rest → Accepts n book s more → Accepts n book r rest
  unfolding judge
  one_step r s rest more e shorter h zero t = let bad : ⊥ = omega arith in absurd bad
  one_step r s rest more e shorter h (suc turns) t = rw e (h turns (omega arith))

  last_step : (r : Reading) (rest : List ℕ) → book_record n r rest ≡ ended r [] → closed_book r ≡ book → Accepts n book r rest
  unfolding judge
  last_step r rest e p zero t = let bad : ⊥ = omega arith in absurd bad
  last_step r rest e p (suc turns) t = rw e (ap accepted p)

  -- a list of records, one after another
  module _ {A : Type 0} (f : A → List ℕ) (Good : A → Type 0) (most : ℕ) (state : List A → Reading)
      (long : (a : A) → 1 ≤ length (f a))
      (step : (done : List A) (a : A) (more : List ℕ) → length done < most → Good a → book_record n (state done) (f a ++ more) ≡ go (state (done ++ (a ∷ []))) more) where
    all_steps : (done left : List A) (more : List ℕ) → length done + length left ≤ most → All Good left
        → Accepts n book (state (done ++ left)) more → Accepts n book (state done) (concat_map f left ++ more)
    unfolding concat_map
    all_steps done [] more size goods h = subst (λ (l : List A). Accepts n book (state l) more) (append-nil done) h
    all_steps done (a ∷ left) more size goods h =
        rw (append_assoc (f a) (concat_map f left) more)
        (one_step (state done) (state (done ++ (a ∷ []))) (f a ++ (concat_map f left ++ more)) (concat_map f left ++ more)
        (step done a (concat_map f left ++ more) (omega arith) goods.0)
        (omega (arith, length-append (f a) (concat_map f left ++ more), long a))
        (all_steps (done ++ (a ∷ [])) left more (omega (arith, length_more done a)) goods.1
        (subst (λ (l : List A). Accepts n book (state l) more) (sym (append_snoc done a left)) h)))

-- ---- the groups of a rule that is open, or of a sweep in a rule that has its earlier sweeps

data Opened : Type 0 where
  a_rule : Opened
  a_sweep : Rule → Opened

abbrev open_at : Opened → Sweep → Open
open_at a_rule g = in_rule (record { body = g.body; tests = g.tests; heads = g.heads; sweeps = [] })
open_at (a_sweep rule) g = in_sweep rule g

abbrev most_at : Opened → ℕ
most_at a_rule = most_in_rule
most_at (a_sweep rule) = most_in_sweep

abbrev bound_at : Opened → List Atom → ℕ → Bool
bound_at a_rule body x = occurs_in x body
bound_at (a_sweep rule) body x = occurs_in x rule.body || occurs_in x body

abbrev BodiedAt : List Kind → Opened → List Atom → Type 0
BodiedAt kinds a_rule body = HasCard kinds body
BodiedAt kinds (a_sweep rule) body = 1 ≤ length body

abbrev groups_of : List Atom → List Test → List Atom → Sweep
groups_of body tests heads = record { body = body; tests = tests; heads = heads }

module _ (n : ℕ) (kinds : List Kind) (rules : List Rule) where
  abbrev state_at : Opened → List Atom → List Test → List Atom → Reading
  state_at o body tests heads = reading kinds rules (open_at o (groups_of body tests heads))

  at_body : (o : Opened) (body : List Atom) (a : Atom) (more : List ℕ) → length body < most_at o → GoodAtom kinds any_variable a
      → book_record n (state_at o body [] []) (encode_atom BA a ++ more) ≡ go (state_at o (body ++ (a ∷ [])) [] []) more
  at_body a_rule body a more room good = body-step n kinds rules (open_at a_rule (groups_of body [] [])) more a refl refl refl room good
  at_body (a_sweep rule) body a more room good = body-step n kinds rules (open_at (a_sweep rule) (groups_of body [] [])) more a refl refl refl room good

  at-tests : (o : Opened) (body : List Atom) → BodiedAt kinds o body → (tests : List Test) (t : Test) (more : List ℕ) → length tests < most_at o → GoodTest (bound_at o body) t
      → book_record n (state_at o body tests []) (encode_test t ++ more) ≡ go (state_at o body (tests ++ (t ∷ [])) []) more
  at-tests a_rule body b tests t more room good = test-step n kinds rules (open_at a_rule (groups_of body tests [])) more t refl refl b room good
  at-tests (a_sweep rule) body b tests t more room good = test-step n kinds rules (open_at (a_sweep rule) (groups_of body tests [])) more t refl refl b room good

  at-heads : (o : Opened) (body : List Atom) (tests : List Test) → BodiedAt kinds o body → (heads : List Atom) (a : Atom) (more : List ℕ)
      → length heads < most_at o → GoodAtom kinds (bound_at o body) a
      → book_record n (state_at o body tests heads) (encode_atom HE a ++ more) ≡ go (state_at o body tests (heads ++ (a ∷ []))) more
  at-heads a_rule body tests b heads a more room good = head_step n kinds rules (open_at a_rule (groups_of body tests heads)) more a refl b room good
  at-heads (a_sweep rule) body tests b heads a more room good = head_step n kinds rules (open_at (a_sweep rule) (groups_of body tests heads)) more a refl b room good

  groups-accepted : (book : Book) (o : Opened) (body : List Atom) (tests : List Test) (heads : List Atom) (more : List ℕ)
      → GoodGroup kinds (most_at o) (bound_at o body) body tests heads → BodiedAt kinds o body
      → Accepts n book (state_at o body tests heads) more → Accepts n book (state_at o [] [] []) (encode_groups body tests heads ++ more)
  unfolding encode_groups
  groups-accepted book o body tests heads more good b h =
      let heads-more = concat_map (encode_atom HE) heads ++ more in
      let heads_read : Accepts n book (state_at o body tests []) heads-more =
      all_steps n book (encode_atom HE) (GoodAtom kinds (bound_at o body)) (most_at o) (state_at o body tests) (λ a. omega arith) (at-heads o body tests b)
      [] heads more (omega (arith, good.heads_size)) good.head_atoms h in
      let tests-more = concat_map encode_test tests ++ heads-more in
      let tests_read : Accepts n book (state_at o body [] []) tests-more =
      all_steps n book encode_test (GoodTest (bound_at o body)) (most_at o) (λ l. state_at o body l []) (λ t. omega arith) (at-tests o body b)
      [] tests heads-more (omega (arith, good.tests_size)) good.good_tests heads_read in
      simp append_assoc
      (all_steps n book (encode_atom BA) (GoodAtom kinds any_variable) (most_at o) (λ l. state_at o l [] []) (λ a. omega arith) (at_body o)
      [] body tests-more (omega (arith, good.body_size)) good.body_atoms tests_read)

-- ---- sweeps and rules

-- the open rule, with the open sweep put to the others
abbrev rule_of : Open → Rule
rule_of no_rule = empty_rule
rule_of (in_rule rule) = rule
rule_of (in_sweep rule sweep) = with_sweep rule sweep

-- a rule's own groups, with these sweeps
abbrev sweeps_set : Rule → List Sweep → Rule
sweeps_set rule sweeps = record { body = rule.body; tests = rule.tests; heads = rule.heads; sweeps = sweeps }

abbrev with_sweeps : Rule → List Sweep → Rule
with_sweeps rule sweeps = sweeps_set rule (rule.sweeps ++ sweeps)

rules-with : (rules : List Rule) (now : Open) → is_in_rule now ≡ true → rules_closed rules now ≡ rules ++ (rule_of now ∷ [])
rules-with rules no_rule i = absurd_bool i
rules-with rules (in_rule rule) i = refl
rules-with rules (in_sweep rule sweep) i = refl

module _ (n : ℕ) (kinds : List Kind) (rules : List Rule) where
  sweep-opened : (now : Open) (more : List ℕ) → is_in_rule now ≡ true → Bodied kinds now → length (rule_of now).sweeps < most_sweeps
      → book_record n (reading kinds rules now) (SW ++ more) ≡ go (reading kinds rules (in_sweep (rule_of now) empty_sweep)) more
  sweep-opened no_rule more i b room = absurd_bool i
  sweep-opened (in_rule rule) more i b room = sweep-step n kinds rules (in_rule rule) more i b room
  sweep-opened (in_sweep rule sweep) more i b room =
      sweep-step n kinds rules (in_sweep rule sweep) more i b (omega (arith, length_more rule.sweeps sweep))

  -- all the sweeps of a rule, and then what follows the rule
  sweeps-accepted : (book : Book) (now : Open) (sweeps : List Sweep) (more : List ℕ) → is_in_rule now ≡ true → Bodied kinds now
      → length (rule_of now).sweeps + length sweeps ≤ most_sweeps → All (GoodSweep kinds (rule_of now).body) sweeps
      → ((now' : Open) → is_in_rule now' ≡ true → Bodied kinds now' → rule_of now' ≡ with_sweeps (rule_of now) sweeps → Accepts n book (reading kinds rules now') more)
      → Accepts n book (reading kinds rules now) (concat_map encode_sweep sweeps ++ more)
  unfolding concat_map
  sweeps-accepted book now [] more i b size goods h =
      h now i b (ap (sweeps_set (rule_of now)) (sym (append-nil (rule_of now).sweeps)))
  sweeps-accepted book now (s ∷ sweeps) more i b size goods h =
      let rule = rule_of now in
      let others = concat_map encode_sweep sweeps ++ more in
      let own = encode_groups s.body s.tests s.heads in
      let others-read : Accepts n book (reading kinds rules (in_sweep rule s)) others =
      sweeps-accepted book (in_sweep rule s) sweeps more refl goods.0.bodied (omega (arith, length_more rule.sweeps s)) goods.1
      (λ now' i' b' e. h now' i' b' (e ∙ ap (sweeps_set rule) (append_snoc rule.sweeps s sweeps))) in
      let own_read : Accepts n book (reading kinds rules (in_sweep rule empty_sweep)) (own ++ others) =
      groups-accepted n kinds rules book (a_sweep rule) s.body s.tests s.heads others goods.0.group goods.0.bodied others-read in
      rw (append_assoc own (concat_map encode_sweep sweeps) more)
      (one_step n book (reading kinds rules now) (reading kinds rules (in_sweep rule empty_sweep)) (SW ++ (own ++ others)) (own ++ others)
      (sweep-opened now (own ++ others) i b (omega arith)) (omega arith) own_read)

-- all the rules, and `en`
rules-accepted : (n : ℕ) (kinds : List Kind) (book : Book) (before : List Rule) (now : Open) (rules : List Rule) → Bodied kinds now
    → length (rules_closed before now) + length rules ≤ most_rules → All (GoodRule kinds) rules
    → record { kinds = kinds; rules = rules_closed before now ++ rules } ≡ book
    → Accepts n book (reading kinds before now) (concat_map encode_rule rules ++ EN)
unfolding concat_map
rules-accepted n kinds book before now [] b size goods e =
    last_step n book (reading kinds before now) EN (end_step n kinds before now [] b)
    (ap (λ (l : List Rule). record { kinds = kinds; rules = l }) (sym (append-nil (rules_closed before now))) ∙ e)
rules-accepted n kinds book before now (rule ∷ rules) b size goods e =
    let done = rules_closed before now in
    let own = encode_groups rule.body rule.tests rule.heads in
    let sweeps = concat_map encode_sweep rule.sweeps in
    let others = concat_map encode_rule rules ++ EN in
    let own-rule = sweeps_set rule [] in
    let others-read : (now' : Open) → is_in_rule now' ≡ true → Bodied kinds now' → rule_of now' ≡ with_sweeps own-rule rule.sweeps → Accepts n book (reading kinds done now') others =
    λ now' i' b' p.
    let closes : rules_closed done now' ≡ done ++ (rule ∷ []) = rules-with done now' i' ∙ ap (λ (r : Rule). done ++ (r ∷ [])) p in
    rules-accepted n kinds book done now' rules b'
    (omega (arith, ap length closes, length_more done rule)) goods.1
    (ap (λ (l : List Rule). record { kinds = kinds; rules = l }) (ap (λ (l : List Rule). l ++ rules) closes ∙ append_snoc done rule rules) ∙ e) in
    let sweeps-read : Accepts n book (reading kinds done (in_rule own-rule)) (sweeps ++ others) =
    sweeps-accepted n kinds done book (in_rule own-rule) rule.sweeps others refl goods.0.card (omega (arith, goods.0.sweeps_size)) goods.0.sweeps others-read in
    let own_read : Accepts n book (reading kinds done (in_rule empty_rule)) (own ++ (sweeps ++ others)) =
    groups-accepted n kinds done book a_rule rule.body rule.tests rule.heads (sweeps ++ others) goods.0.group goods.0.card sweeps-read in
    simp append_assoc
    (one_step n book (reading kinds before now) (reading kinds done (in_rule empty_rule)) (RU ++ (own ++ (sweeps ++ others))) (own ++ (sweeps ++ others))
    (rule-step n kinds before now (own ++ (sweeps ++ others)) b (omega arith)) (omega arith) own_read)

-- The encoding of a good book is accepted, and the judgement reads that book.
pub book_encoded : (book : Book) → GoodBook book → judge_book (encode_book book) ≡ accepted book
unfolding judge_book encode_book
book_encoded book good =
    let file = encode_book book in
    let rules-read = rules-accepted (length file) book.kinds book [] no_rule book.rules tt (omega (arith, good.rules_size)) good.rules refl in
    all_steps (length file) book encode_kind GoodKind most_kinds (λ l. reading l [] no_rule) (λ kind. omega arith) (kind-step (length file))
    [] book.kinds (concat_map encode_rule book.rules ++ EN) (omega (arith, good.kinds_size)) good.kinds rules-read (suc (length file)) (omega arith)

-- A file of bytes is accepted exactly if it is the encoding of a good book: of the one that the judgement reads.
pub book_file_lem : (file : List ℕ) (book : Book) → Bytes file → (judge_book file ≡ accepted book) ↔ (GoodBook book × (file ≡ encode_book book))
book_file_lem file book bytes = (book_accepted file book bytes, λ h. ap judge_book h.1 ∙ book_encoded book h.0)

-- No two good books have one encoding.
pub book_unique : (book book' : Book) → GoodBook book → GoodBook book' → encode_book book ≡ encode_book book' → book ≡ book'
book_unique book book' good good' e = cc (book_encoded book good, book_encoded book' good')
