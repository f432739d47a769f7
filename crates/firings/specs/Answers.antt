-- What `fit` answers, from a term to an atom to a choice: an answer says exactly which values are left. One notion, `Answers`, and one law for an answer
-- that follows on another carry the whole proof.
use Rattle.std.specs.Prelude.{◌≡◌, ◌↔◌, ℕ, Bool, true, false, ◌||◌, eqb, if◌then◌else◌}
use Rattle.std.proofs.Math.Path.{refl, ap₂}
use Rattle.std.proofs.Common.{sym, ap, ◌∙◌, true≢false, eqb-true, eq-eqb}
use mathlib.Core.Logic.Iff
use Rattle.std.proofs.lemmas.Bool.{false≢true, eqb-false}
use Rattle.std.proofs.Math.Bool.{or_assoc, or-false, or-true, ◌&&◌}
use Rattle.std.proofs.Math.Option.{Option, none, some, some-injective, none-ne-some}
use mathlib.Core.List.{List, [], ◌∷◌, map, nil≢cons, cons≢nil, cons-eq-cons}
use Rattle.meaning.specs.Basics.{◌>>=◌, All}
use Rattle.meaning.specs.Facts.{Kind, Fact, is_card}
use Rattle.meaning.specs.Rules.{Term, constant, variable, Atom, Test, compare, Values, value_of, holds, occurs_in_terms, occurs_in}
use Rattle.meaning.specs.Fit.{Row, Choice, Marks, Bindings, Known, lookup, or_zero, values_of, TestsHold, Under}
use Rattle.meaning.specs.Fit.{agree_variable, agree, agree_all, free, take_row, may_stand, fit_row, hold_all, fit}
use Rattle.meaning.specs.Firing.{head_fact}
use Rattle.meaning.specs.WellFormed.{GoodTerm, GoodTest}
pub use Rattle.promises.specs.Promises.{is_some, is_bound}
use Rattle.firings.specs.Basics.{cases, both, all_map, equal_facts}
use Rattle.firings.specs.CardRows.{gone_after, gone_nil, gone_cons}

-- ---- bindings

pub unbound_zero : (bindings : Bindings) (x : ℕ) → is_bound bindings x ≡ false → values_of bindings x ≡ 0
unbound_zero bindings x h = go (lookup x bindings) h
  where
    go : (o : Option ℕ) → is_some o ≡ false → or_zero o ≡ 0
    go none k = refl
    go (some v) k = absurd (true≢false k)

pub under_own : (bindings : Bindings) → Under bindings (values_of bindings)
under_own bindings x v h = rw h

-- values under the bindings give a bound variable its value
pub under_bound : (bindings : Bindings) (values : Values) → Under bindings values → (x : ℕ) → is_bound bindings x ≡ true → values x ≡ values_of bindings x
under_bound bindings values u x h = go (lookup x bindings) h (u x)
  where
    go : (o : Option ℕ) → is_some o ≡ true → ((v : ℕ) → o ≡ some v → values x ≡ v) → values x ≡ or_zero o
    go none k e = absurd (false≢true k)
    go (some v) k e = e v refl

-- ---- what an answer says

-- the values under the new bindings are those under the old ones that have P; bound is what was bound, and what occurs
pub record Found (P : Values → Type 0) (occurs : ℕ → Bool) (bindings found : Bindings) : Type 0 where
  pub exactly : (values : Values) → Under found values ↔ (Under bindings values × P values)
  pub binds : (x : ℕ) → is_bound found x ≡ (is_bound bindings x || occurs x)

-- no values have P, and there is no answer; or the bindings of the answer are found so, and Q holds of it
pub data Answers {A : Type 0} (view : A → Bindings) (Q : A → Type 0) (P : Values → Type 0) (occurs : ℕ → Bool) (bindings : Bindings) : Option A → Type 0 where
  nothing : ((values : Values) → Under bindings values → P values → ⊥) → Answers view Q P occurs bindings none
  just : {a : A} → Q a → Found P occurs bindings (view a) → Answers view Q P occurs bindings (some a)

found_same : (bindings : Bindings) → Found (λ values. Unit {0}) (λ x. false) bindings bindings
found_same bindings = record { exactly = λ values. ((λ u. (u, tt)), λ u. u.0); binds = λ x. sym (or-false (is_bound bindings x)) }

found_then : {P P' : Values → Type 0} {occurs occurs' : ℕ → Bool} {bindings found found' : Bindings}
    → Found P occurs bindings found → Found P' occurs' found found' → Found (λ values. P values × P' values) (λ x. occurs x || occurs' x) bindings found'
found_then {occurs = occurs} {occurs' = occurs'} {bindings = bindings} w z = record {
  exactly = λ values. (
    (λ u. let y = (z.exactly values).0 u in let x = (w.exactly values).0 y.0 in (x.0, (x.1, y.1))),
    λ u. (z.exactly values).1 ((w.exactly values).1 (u.0, u.1.0), u.1.1),
  );
  binds = λ x. z.binds x ∙ (rw (w.binds x) (or_assoc (is_bound bindings x) (occurs x) (occurs' x)));
}

module _ {A : Type 0} {view : A → Bindings} {Q : A → Type 0} {P : Values → Type 0} {occurs : ℕ → Bool} {bindings : Bindings} where
  -- where some values have P there is an answer
  pub answered : {o : Option A} → Answers view Q P occurs bindings o → (values : Values) → Under bindings values → P values → (a : A) × (o ≡ some a)
  answered (nothing n) values u p = absurd (n values u p)
  answered (just {a = a} q w) values u p = (a, refl)

  pub answer_is : {a : A} → Answers view Q P occurs bindings (some a) → Q a × Found P occurs bindings (view a)
  answer_is (just q w) = (q, w)

  -- the same answer in other words
  answers_map : {Q' : A → Type 0} {P' : Values → Type 0} {occurs' : ℕ → Bool} {o : Option A}
      → ((a : A) → Q a → Q' a) → ((values : Values) → P values ↔ P' values) → ((x : ℕ) → occurs x ≡ occurs' x)
      → Answers view Q P occurs bindings o → Answers view Q' P' occurs' bindings o
  answers_map f p e (nothing n) = nothing (λ values u q. n values u ((p values).1 q))
  answers_map f p e (just {a = a} q w) = just (f a q) (record {
    exactly = λ values. Iff.trans (w.exactly values) (Iff.and Iff.rfl (p values));
    binds = λ x. w.binds x ∙ ap (λ (t : Bool). is_bound bindings x || t) (e x);
  })

  module _ {B : Type 0} {view' : B → Bindings} {Q' : B → Type 0} {P' : Values → Type 0} {occurs' : ℕ → Bool} where
    -- one answer and then another
    answers_then : {o : Option A} (f : A → Option B) → Answers view Q P occurs bindings o
        → ((a : A) → Q a → Found P occurs bindings (view a) → Answers view' Q' P' occurs' (view a) (f a))
        → Answers view' Q' (λ values. P values × P' values) (λ x. occurs x || occurs' x) bindings (o >>= f)
    answers_then f (nothing n) k = nothing (λ values u p. n values u p.0)
    answers_then f (just {a = a} q w) k = go (k a q w)
      where
        go : {o : Option B} → Answers view' Q' P' occurs' (view a) o
            → Answers view' Q' (λ values. P values × P' values) (λ x. occurs x || occurs' x) bindings o
        go (nothing n) = nothing (λ values u p. n values ((w.exactly values).1 (u, p.0)) p.1)
        go (just q' z) = just q' (found_then w z)

-- ---- a term, an atom's terms

abbrev Agrees : (Values → Type 0) → (ℕ → Bool) → Bindings → Option Bindings → Type 0
Agrees P occurs bindings o = Answers (λ (b : Bindings). b) (λ b. Unit {0}) P occurs bindings o

-- the same bindings, of which P holds anyhow
agrees_same : {P : Values → Type 0} (bindings : Bindings) → ((values : Values) → P values) → Agrees P (λ x. false) bindings (some bindings)
agrees_same bindings h = answers_map (λ b q. q) (λ values. ((λ q. h values), λ q. tt)) (λ x. refl) (just tt (found_same bindings))

abbrev Valued : ℕ → ℕ → Bindings → Bindings → Type 0
Valued x n bindings found = Found (λ values. values x ≡ n) (λ y. occurs_in_terms y (variable x ∷ [])) bindings found

found_new : (x n : ℕ) (bindings : Bindings) → lookup x bindings ≡ none → Valued x n bindings (record { name = x; value = n } ∷ bindings)
found_new x n bindings e = record {
  exactly = λ values. (
    (λ u. (
      (λ y v k. cases (eqb y x) (λ q. absurd (none-ne-some v (sym e ∙ (rw (← (eqb-true y x q)) k)))) (λ q. u y v (rw q k))),
      u x n (rw (eq-eqb x x refl)),
    )),
    λ u y v k. cases (eqb y x) (λ q. ap values (eqb-true y x q) ∙ u.1 ∙ some-injective n v (rw q at k)) (λ q. u.0 y v (rw q at k)),
  );
  binds = λ y. cases (eqb y x) (λ q. rw q (sym (or-true (is_bound bindings y)))) (λ q. rw q (sym (or-false (is_bound bindings y))));
}

found_old : (x n : ℕ) (bindings : Bindings) → lookup x bindings ≡ some n → Valued x n bindings bindings
found_old x n bindings e = record {
  exactly = λ values. ((λ u. (u, u x n e)), λ u. u.0);
  binds = λ y. cases (eqb y x) (λ p. rw (eqb-true y x p, e)) (λ p. rw p (sym (or-false (is_bound bindings y))));
}

agree_variable_lem : (x n : ℕ) (bindings : Bindings) (o : Option ℕ) → lookup x bindings ≡ o
    → Agrees (λ values. values x ≡ n) (λ y. occurs_in_terms y (variable x ∷ [])) bindings (agree_variable x n bindings o)
agree_variable_lem x n bindings none e = just tt (found_new x n bindings e)
agree_variable_lem x n bindings (some v) e =
    cases (eqb n v)
    (λ q. rw q (just tt (found_old x n bindings (e ∙ ap some (sym (eqb-true n v q))))))
    (λ q. rw q (nothing λ values u p. eqb-false n v q (sym p ∙ u x v e)))

agree_answers : (t : Term) (n : ℕ) (bindings : Bindings)
    → Agrees (λ values. value_of values t ≡ n) (λ x. occurs_in_terms x (t ∷ [])) bindings (agree t n bindings)
agree_answers (constant v) n bindings =
    cases (eqb n v)
    (λ q. rw q (agrees_same bindings (λ values. sym (eqb-true n v q))))
    (λ q. rw q (nothing λ values u p. eqb-false n v q (sym p)))
agree_answers (variable x) n bindings = agree_variable_lem x n bindings (lookup x bindings) refl

pub occurs_cons : (x : ℕ) (t : Term) (terms : List Term) → (occurs_in_terms x (t ∷ []) || occurs_in_terms x terms) ≡ occurs_in_terms x (t ∷ terms)
occurs_cons x (constant v) terms = refl
occurs_cons x (variable y) terms = or_assoc (eqb x y) false (occurs_in_terms x terms)

agree_all_answers : (terms : List Term) (numbers : List ℕ) (bindings : Bindings)
    → Agrees (λ values. map (value_of values) terms ≡ numbers) (λ x. occurs_in_terms x terms) bindings (agree_all terms numbers bindings)
unfolding agree_all
agree_all_answers [] [] bindings = agrees_same bindings (λ values. refl)
agree_all_answers [] (n ∷ numbers) bindings = nothing λ values u p. nil≢cons p
agree_all_answers (t ∷ terms) [] bindings = nothing λ values u p. cons≢nil p
agree_all_answers (t ∷ terms) (n ∷ numbers) bindings =
    answers_map (λ b q. q) (λ values. Iff.symm cons-eq-cons) (λ x. occurs_cons x t terms)
    (answers_then (λ b. agree_all terms numbers b) (agree_answers t n bindings) (λ b q w. agree_all_answers terms numbers b))

-- ---- an atom on a row

-- the row is still free, and equals the atom
abbrev pub RowFits : List Kind → Atom → Row → Marks → Values → Type 0
RowFits kinds a r gone values = (free (is_card kinds a.kind) gone r.at ≡ true) × (head_fact values a ≡ r.fact)

fit_row_answers : (kinds : List Kind) (a : Atom) (r : Row) (known : Known)
    → Answers (λ k. k.bindings) (λ k. k.gone ≡ take_row (is_card kinds a.kind) r.at known.gone)
    (RowFits kinds a r known.gone) (λ x. occurs_in_terms x a.terms) known.bindings (fit_row kinds a r known)
fit_row_answers kinds a r known =
    cases (may_stand kinds a.kind known.gone r.at r.fact)
    (λ y. let w = both (eqb r.fact.kind a.kind) (free (is_card kinds a.kind) known.gone r.at) y in
    rw y (answers_map (λ k q. q) (λ values. (
      (λ h. (w.1, equal_facts (head_fact values a) r.fact (sym (eqb-true r.fact.kind a.kind w.0)) h.0)),
      λ h. (ap (λ (f : Fact). f.numbers) h.1, tt),
    )) (λ x. or-false (occurs_in_terms x a.terms))
    (answers_then _ (agree_all_answers a.terms r.fact.numbers known.bindings) (λ b q v. just refl (found_same b)))))
    (λ q. rw q (nothing λ values u p. true≢false (sym (rw (eq-eqb r.fact.kind a.kind (sym (ap (λ (f : Fact). f.kind) p.1)), p.0)) ∙ q)))

-- ---- the tests

good-term : (f g : ℕ → Bool) → ((x : ℕ) → f x ≡ true → g x ≡ true) → (t : Term) → GoodTerm f t → GoodTerm g t
good-term f g e (constant v) h = h
good-term f g e (variable x) h = (h.0, e x h.1)

-- tests that are good where some variables are bound are good where more are
pub good-tests : (f g : ℕ → Bool) → ((x : ℕ) → f x ≡ true → g x ≡ true) → (tests : List Test) → All (GoodTest f) tests → All (GoodTest g) tests
good-tests f g e tests h = all_map (λ t k. (good-term f g e t.left k.0, good-term f g e t.right k.1)) tests h

hold_all-holds : (values : Values) (tests : List Test) → (hold_all values tests ≡ true) ↔ TestsHold values tests
unfolding hold_all
hold_all-holds values [] = ((λ h. tt), λ h. refl)
hold_all-holds values (t ∷ tests) =
    let w = hold_all-holds values tests in
    ((λ h. let k = both (holds values t) (hold_all values tests) h in (k.0, w.0 k.1)), λ h. rw h.0 (w.1 h.1))

-- tests with bound variables come out alike under all values that are under the bindings
module _ (bindings : Bindings) (values : Values) (u : Under bindings values) where
  same_value : (t : Term) → GoodTerm (is_bound bindings) t → value_of values t ≡ value_of (values_of bindings) t
  same_value (constant v) h = refl
  same_value (variable x) h = under_bound bindings values u x h.1

  same_tests : (tests : List Test) → All (GoodTest (is_bound bindings)) tests → hold_all values tests ≡ hold_all (values_of bindings) tests
  unfolding hold_all
  same_tests [] h = refl
  same_tests (t ∷ tests) h =
      ap₂ ◌&&◌ (ap₂ (compare t.comparison) (same_value t.left h.0.0) (same_value t.right h.0.1)) (same_tests tests h.1)

tests_answers : (tests : List Test) (known : Known) → All (GoodTest (is_bound known.bindings)) tests
    → Answers (λ k. k.bindings) (λ k. k.gone ≡ known.gone) (λ values. TestsHold values tests) (λ x. false) known.bindings
    (if hold_all (values_of known.bindings) tests then some known else none)
tests_answers tests known good =
    cases (hold_all (values_of known.bindings) tests)
    (λ y. rw y (just refl (record {
      exactly = λ values. ((λ u. (u, (hold_all-holds values tests).0 (same_tests known.bindings values u tests good ∙ y))), λ u. u.0);
      binds = λ x. sym (or-false (is_bound known.bindings x));
    })))
    (λ q. rw q (nothing λ values u h. true≢false (sym ((hold_all-holds values tests).1 h) ∙ same_tests known.bindings values u tests good ∙ q)))

-- ---- a choice

-- every variable of the tests is bound already, or occurs in the atoms
abbrev pub BoundTests : Bindings → List Atom → List Test → Type 0
BoundTests bindings atoms tests = All (GoodTest (λ x. is_bound bindings x || occurs_in x atoms)) tests

-- atom by atom a row that fits, and at last the tests
abbrev pub FitsBy : List Kind → List Test → List Atom → Choice → Marks → Values → Type 0
FitsBy kinds tests [] [] gone values = TestsHold values tests
FitsBy kinds tests [] (r ∷ rows) gone values = ⊥
FitsBy kinds tests (a ∷ atoms) [] gone values = ⊥
FitsBy kinds tests (a ∷ atoms) (r ∷ rows) gone values =
    RowFits kinds a r gone values × FitsBy kinds tests atoms rows (take_row (is_card kinds a.kind) r.at gone) values

pub fit_answers : (kinds : List Kind) (tests : List Test) (atoms : List Atom) (rows : Choice) (known : Known) → BoundTests known.bindings atoms tests
    → Answers (λ k. k.bindings) (λ k. k.gone ≡ gone_after kinds atoms rows known.gone)
    (FitsBy kinds tests atoms rows known.gone) (λ x. occurs_in x atoms) known.bindings (fit kinds atoms tests rows known)
unfolding fit
fit_answers kinds tests [] [] known good =
    answers_map (λ k q. q ∙ sym (gone_nil kinds known.gone)) (λ values. Iff.rfl) (λ x. refl)
    (tests_answers tests known (good-tests _ _ (λ x h. sym (or-false (is_bound known.bindings x)) ∙ h) tests good))
fit_answers kinds tests [] (r ∷ rows) known good = nothing λ values u h. h
fit_answers kinds tests (a ∷ atoms) [] known good = nothing λ values u h. h
fit_answers kinds tests (a ∷ atoms) (r ∷ rows) known good =
    answers_map (λ k q. q ∙ gone_cons kinds a atoms r rows known.gone) (λ values. Iff.rfl) (λ x. refl)
    (answers_then (λ k. fit kinds atoms tests rows k) (fit_row_answers kinds a r known) λ k q w.
    answers_map (λ k' p. p ∙ ap (gone_after kinds atoms rows) q) (λ values. rw q Iff.rfl) (λ x. refl)
    (fit_answers kinds tests atoms rows k (good-tests _ _ (λ x h.
    rw (w.binds x, or_assoc (is_bound known.bindings x) (occurs_in_terms x a.terms) (occurs_in x atoms)) h) tests good)))
