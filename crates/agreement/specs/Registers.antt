-- Registers against the values found so far: they agree on every variable that has a value, and the strip's list of bound variables names
-- exactly those. A register whose variable has no value may hold anything.
use Rattle.std.specs.Prelude.{◌≡◌, refl, ℕ, Bool, true, false, List, [], ◌∷◌, map, eqb}
use Rattle.std.proofs.Common.{sym, ap, ◌∙◌, eqb-true}
use Rattle.std.proofs.lemmas.Bool.{false≢true}
use Rattle.std.proofs.Math.Option.{Option, none, some}
use Rattle.meaning.specs.Basics.{change, mem}
use Rattle.meaning.specs.Rules.{Term, constant, variable, Test, Values, value_of, holds}
use Rattle.meaning.specs.Fit.{Bindings, lookup, values_of, Under}
use Rattle.meaning.specs.WellFormed.{GoodTerm, GoodTest}
use Rattle.agreement.specs.Tools.{cases, options, impossible}

abbrev pub names : Bindings → List ℕ
names bindings = map (λ b. b.name) bindings

-- the registers are loaded with the values of the bound variables
pub record Loaded (bindings : Bindings) (bound : List ℕ) (values : Values) : Type 0 where
  pub named : names bindings ≡ bound
  pub agreed : Under bindings values

-- registers loaded with later values are loaded with the earlier ones
abbrev pub Extends : Bindings → List ℕ → Bindings → List ℕ → Type 0
Extends bindings bound bindings' bound' = (values : Values) → Loaded bindings' bound' values → Loaded bindings bound values

abbrev is_some : Option ℕ → Bool
is_some none = false
is_some (some v) = true

-- bound by the strip's reckoning: has a value
pub mem-names : (x : ℕ) (bindings : Bindings) → mem x (names bindings) ≡ is_some (lookup x bindings)
mem-names x [] = refl
mem-names x (b ∷ more) = cases (eqb x b.name) (λ y. rw y) (λ y. rw y (mem-names x more))

-- a store to the register of a variable that has no value
pub under_store : (bindings : Bindings) (values : Values) (x n : ℕ) → Under bindings values
    → Under (record { name = x; value = n } ∷ bindings) (change values x n)
under_store bindings values x n u y v h = cases (eqb y x) (λ q. rw q (let r : some n ≡ some v = rw q at h in cc)) (λ q. rw q (u y v (rw q at h)))

-- a new value leaves those before it
under_new : (bindings : Bindings) (values : Values) (x n : ℕ) → lookup x bindings ≡ none → Under (record { name = x; value = n } ∷ bindings) values
    → Under bindings values
under_new bindings values x n new u y v h =
    cases (eqb y x)
    (λ q. impossible (cc (ap (λ (i : ℕ). lookup i bindings) (eqb-true y x q))))
    (λ q. u y v (rw q h))

pub extends_new : {bindings : Bindings} {bound : List ℕ} (x n : ℕ) → lookup x bindings ≡ none → names bindings ≡ bound
    → (bound' : List ℕ) → Extends bindings bound (record { name = x; value = n } ∷ bindings) bound'
extends_new {bindings} x n new named bound' values l = record { named = named; agreed = under_new bindings values x n new l.agreed }

-- a bound term has the same value in the registers
pub value_agrees : {bindings : Bindings} {bound : List ℕ} {values : Values} → Loaded bindings bound values → (t : Term) → GoodTerm (λ x. mem x bound) t
    → value_of values t ≡ value_of (values_of bindings) t
value_agrees l (constant v) good = refl
value_agrees {bindings} l (variable x) good =
    options (lookup x bindings)
    (λ q. absurd (false≢true (sym (rw q at (mem-names x bindings)) ∙ rw l.named good.1)))
    (λ v q. rw q (l.agreed x v q))

pub test_agrees : {bindings : Bindings} {bound : List ℕ} {values : Values} → Loaded bindings bound values → (t : Test) → GoodTest (λ x. mem x bound) t
    → holds values t ≡ holds (values_of bindings) t
test_agrees l t good = rw (value_agrees l t.left good.0, value_agrees l t.right good.1)
