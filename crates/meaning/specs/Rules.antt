-- What a rule book says: terms, atoms, tests, sweeps, rules (document 01, 'What the board knows' and 'The files').
use Rattle.std.specs.Prelude.{ℕ, Bool, false, not, ◌||◌, List, [], ◌∷◌, eqb, leb, ltb}
use Rattle.meaning.specs.Facts.{Kind}

-- "A term is a tag (0 constant, 1 variable) and a two-byte value."
pub data Term : Type 0 where
  constant variable : ℕ → Term

-- a body or head atom: a kind, and one term for each argument
pub record Atom : Type 0 where
  pub kind : ℕ
  pub terms : List Term

-- "0 equal, 1 unequal, 2 less, 3 less or equal"
pub data Comparison : Type 0 where
  equal unequal less less_or_equal : Comparison

abbrev pub compare : Comparison → ℕ → ℕ → Bool
compare equal a b = eqb a b
compare unequal a b = not (eqb a b)
compare less a b = ltb a b
compare less_or_equal a b = leb a b

pub record Test : Type 0 where
  pub comparison : Comparison
  pub left : Term
  pub right : Term

-- "A sweep is a comprehension."
pub record Sweep : Type 0 where
  pub body : List Atom
  pub tests : List Test
  pub heads : List Atom

pub record Rule : Type 0 where
  pub body : List Atom
  pub tests : List Test
  pub heads : List Atom
  pub sweeps : List Sweep

-- "Kinds and rules are numbered from 0 in file order."
pub record Book : Type 0 where
  pub kinds : List Kind
  pub rules : List Rule

-- ---- values of the variables

abbrev pub Values : Type 0
Values = ℕ → ℕ

abbrev pub value_of : Values → Term → ℕ
value_of values (constant v) = v
value_of values (variable x) = values x

abbrev pub holds : Values → Test → Bool
holds values t = compare t.comparison (value_of values t.left) (value_of values t.right)

-- ---- where a variable occurs

abbrev pub occurs_in_terms : ℕ → List Term → Bool
occurs_in_terms x [] = false
occurs_in_terms x (constant v ∷ more) = occurs_in_terms x more
occurs_in_terms x (variable y ∷ more) = eqb x y || occurs_in_terms x more

abbrev pub occurs_in : ℕ → List Atom → Bool
occurs_in x [] = false
occurs_in x (a ∷ more) = occurs_in_terms x a.terms || occurs_in x more
