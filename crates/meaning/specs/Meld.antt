-- Meld 2.0 Semantics (source document 001), sections 2.4, 2.4.1 and 2.5, rule by rule: each constructor is the paper's rule of that name. Then
-- how a rule of a book is such a formula. Left out, as document 01 says: addresses, head existentials, aggregates; and Ψ, which would hold
-- constants and functions only.
use Rattle.std.specs.Prelude.{◌≡◌, ℕ, ◌+◌, Bool, true, false, ◌&&◌, List, [], ◌∷◌, ◌++◌, map, eqb, if◌then◌else◌}
use Rattle.meaning.specs.Basics.{change, mem, In}
use Rattle.meaning.specs.Facts.{Kind, Fact, is_card}
use Rattle.meaning.specs.Rules.{Term, constant, variable, Atom, Comparison, compare, Test, Sweep, Rule, Values}
use Rattle.meaning.specs.Translation.{bound_by}

-- ---- multi-sets: a list stands for one, and how often a fact stands in it is all that counts

abbrev pub same_numbers : List ℕ → List ℕ → Bool
same_numbers [] [] = true
same_numbers [] (m ∷ ms) = false
same_numbers (n ∷ ns) [] = false
same_numbers (n ∷ ns) (m ∷ ms) = eqb n m && same_numbers ns ms

abbrev pub same_fact : Fact → Fact → Bool
same_fact f g = eqb f.kind g.kind && same_numbers f.numbers g.numbers

-- equal cards are counted apart
abbrev pub count : Fact → List Fact → ℕ
count f [] = 0
count f (g ∷ more) = (if same_fact f g then 1 else 0) + count f more

-- Δ is the multi-set `Δ₁, Δ₂`
pub record Sum (Δ Δ₁ Δ₂ : List Fact) : Type 0 where
  pub counts : (f : Fact) → count f Δ ≡ count f Δ₁ + count f Δ₂

-- ---- 2.2, what is used here: expressions and their values

pub data Exp : Type 0 where
  int : ℕ → Exp
  cmp : Comparison → Exp → Exp → Exp

pub data Val : Type 0 where
  vint : ℕ → Val
  vbool : Bool → Val

-- Ψ; e → v
pub data ◌⇓◌ : Exp → Val → Type 0 where
  eval_int : {n : ℕ} → int n ⇓ vint n  -- int
  eval_cmp_int : {o : Comparison} {e₁ e₂ : Exp} {a b : ℕ} → e₁ ⇓ vint a → e₂ ⇓ vint b → cmp o e₁ e₂ ⇓ vbool (compare o a b)  -- cmp int

infix 40 ◌⇓◌
-- Ψ; e₁ → v₁ … Ψ; eₙ → vₙ
pub data ◌⇓⇓◌ : List Exp → List ℕ → Type 0 where
  all_nil : [] ⇓⇓ []
  all_cons : {e : Exp} {n : ℕ} {es : List Exp} {ns : List ℕ} → e ⇓ vint n → es ⇓⇓ ns → (e ∷ es) ⇓⇓ (n ∷ ns)

infix 40 ◌⇓⇓◌
-- v₁ = v'₁ … vₙ = v'ₙ
pub data Equal : List ℕ → List Exp → Type 0 where
  equal_none : Equal [] []
  equal_int : {n : ℕ} {ns : List ℕ} {es : List Exp} → Equal ns es → Equal (n ∷ ns) (int n ∷ es)  -- equal int

-- ---- formulas; a quantifier's scope is a function, so [M/X]A is A M

pub data Form : Type 0 where
  𝟏 : Form
  ◌⊗◌ ◌&◌ ◌⊸◌ : Form → Form → Form
  fact !fact : ℕ → List Exp → Form
  !constraint : Exp → Form
  exists forall : (ℕ → Form) → Form
  comp : Form → Form

infixr 80 ◌⊗◌
infixr 75 ◌&◌
infixr 70 ◌⊸◌
-- ---- 2.4.1   match Γ; Δ → [A]; Ξ

pub data Match (Γ : List Fact) : List Fact → Form → List Fact → Type 0 where
  match_exists : {Δ Ξ : List Fact} {A : ℕ → Form} (M : ℕ)
      → Match Γ Δ (A M) Ξ
      → Match Γ Δ (exists A) Ξ
  match_one :
      Match Γ [] 𝟏 []
  match_split : {Δ Δ₁ Δ₂ Ξ Ξ₁ Ξ₂ : List Fact} {A B : Form}
      → Match Γ Δ₁ A Ξ₁ → Match Γ Δ₂ B Ξ₂ → Sum Δ Δ₁ Δ₂ → Sum Ξ Ξ₁ Ξ₂
      → Match Γ Δ (A ⊗ B) Ξ
  match_end_constraint : {e : Exp}
      → e ⇓ vbool true
      → Match Γ [] (!constraint e) []
  match_end_linear : {f : Fact} {es : List Exp}
      → Equal f.numbers es
      → Match Γ (f ∷ []) (fact f.kind es) (f ∷ [])
  match_end_persistent : {f : Fact} {es : List Exp}
      → Equal f.numbers es → In f Γ
      → Match Γ [] (!fact f.kind es) []

-- ---- 2.5   derive Γ; Δ; Ω; Δ₁; Γ₁ → Γ'; Δ'; Ξ

pub data Derive (Γ : List Fact) : List Fact → List Form → List Fact → List Fact → List Fact → List Fact → List Fact → Type 0 where
  derive-⊗ : {Δ Δ₁ Γ₁ Γ' Δ' Ξ : List Fact} {A B : Form} {Ω : List Form}
      → Derive Γ Δ (A ∷ B ∷ Ω) Δ₁ Γ₁ Γ' Δ' Ξ
      → Derive Γ Δ (A ⊗ B ∷ Ω) Δ₁ Γ₁ Γ' Δ' Ξ
  derive_fact : {Δ Δ₁ Γ₁ Γ' Δ' Ξ : List Fact} {k : ℕ} {es : List Exp} {vs : List ℕ} {Ω : List Form}
      → es ⇓⇓ vs → Derive Γ Δ Ω (Δ₁ ++ (record { kind = k; numbers = vs } ∷ [])) Γ₁ Γ' Δ' Ξ
      → Derive Γ Δ (fact k es ∷ Ω) Δ₁ Γ₁ Γ' Δ' Ξ
  derive-!fact : {Δ Δ₁ Γ₁ Γ' Δ' Ξ : List Fact} {k : ℕ} {es : List Exp} {vs : List ℕ} {Ω : List Form}
      → es ⇓⇓ vs → Derive Γ Δ Ω Δ₁ (Γ₁ ++ (record { kind = k; numbers = vs } ∷ [])) Γ' Δ' Ξ
      → Derive Γ Δ (!fact k es ∷ Ω) Δ₁ Γ₁ Γ' Δ' Ξ
  derive-1 : {Δ Δ₁ Γ₁ Γ' Δ' Ξ : List Fact} {Ω : List Form}
      → Derive Γ Δ Ω Δ₁ Γ₁ Γ' Δ' Ξ
      → Derive Γ Δ (𝟏 ∷ Ω) Δ₁ Γ₁ Γ' Δ' Ξ
  derive_comprehension : {Δ Δ₁ Γ₁ Γ' Δ' Ξ : List Fact} {A : Form} {Ω : List Form}
      → Derive Γ Δ (𝟏 & (A ⊗ comp A) ∷ Ω) Δ₁ Γ₁ Γ' Δ' Ξ
      → Derive Γ Δ (comp A ∷ Ω) Δ₁ Γ₁ Γ' Δ' Ξ
  derive-&-left : {Δ Δ₁ Γ₁ Γ' Δ' Ξ : List Fact} {A B : Form} {Ω : List Form}
      → Derive Γ Δ (A ∷ Ω) Δ₁ Γ₁ Γ' Δ' Ξ
      → Derive Γ Δ (A & B ∷ Ω) Δ₁ Γ₁ Γ' Δ' Ξ
  derive-&-right : {Δ Δ₁ Γ₁ Γ' Δ' Ξ : List Fact} {A B : Form} {Ω : List Form}
      → Derive Γ Δ (B ∷ Ω) Δ₁ Γ₁ Γ' Δ' Ξ
      → Derive Γ Δ (A & B ∷ Ω) Δ₁ Γ₁ Γ' Δ' Ξ
  derive_forall : {Δ Δ₁ Γ₁ Γ' Δ' Ξ : List Fact} {A : ℕ → Form} {Ω : List Form} (M : ℕ)
      → Derive Γ Δ (A M ∷ Ω) Δ₁ Γ₁ Γ' Δ' Ξ
      → Derive Γ Δ (forall A ∷ Ω) Δ₁ Γ₁ Γ' Δ' Ξ
  -- 2.5 prints one Δ in both premises; match uses up all of its Δ, so that cannot be meant. 7.1 prints Δa, Δb: docs/DECISIONS.md, point 13
  derive_lolli : {Δ Δa Δb Δ₁ Γ₁ Γ' Δ' Ξ Ξ' Ξ'' : List Fact} {A B : Form} {Ω : List Form}
      → Match Γ Δa A Ξ' → Sum Δ Δa Δb → Derive Γ Δb (B ∷ Ω) Δ₁ Γ₁ Γ' Δ' Ξ → Sum Ξ'' Ξ Ξ'
      → Derive Γ Δ (A ⊸ B ∷ Ω) Δ₁ Γ₁ Γ' Δ' Ξ''
  derive_end : {Δ Δ₁ Γ₁ : List Fact}
      → Derive Γ Δ [] Δ₁ Γ₁ Γ₁ Δ₁ []

-- derive with [A] in focus
pub data DeriveFocus (Γ Δ : List Fact) (A : Form) (Δ₁ Γ₁ Γ' Δ' Ξ : List Fact) : Type 0 where
  derive_blur : Derive Γ Δ (A ∷ []) Δ₁ Γ₁ Γ' Δ' Ξ → DeriveFocus Γ Δ A Δ₁ Γ₁ Γ' Δ' Ξ

-- ---- 2.4   apply Γ; Δ, [R] → Γ'; Δ'; Ξ   and   Φ, R; Γ; Δ ⇒ Γ'; Δ'; Ξ

-- '⊸L' prints one accumulator where derive takes two; taken as in 2.6, both empty
pub data Apply (Γ Δ : List Fact) : Form → List Fact → List Fact → List Fact → Type 0 where
  ⊸L : {Δ₁ Δ₂ Γ' Δ' Ξ Ξ' : List Fact} {A B : Form}
      → Match Γ Δ₁ A Δ₁ → DeriveFocus Γ Δ₂ B [] [] Γ' Δ' Ξ → Sum Δ Δ₁ Δ₂ → Sum Ξ' Δ₁ Ξ
      → Apply Γ Δ (A ⊸ B) Γ' Δ' Ξ'
  ∀L : {Γ' Δ' Ξ : List Fact} {A : ℕ → Form} (M : ℕ)
      → Apply Γ Δ (A M) Γ' Δ' Ξ
      → Apply Γ Δ (forall A) Γ' Δ' Ξ

-- one rule of the program is applied
pub data Step (Γ Δ : List Fact) (Φ : List Form) (Γ' Δ' Ξ : List Fact) : Type 0 where
  rule_app : {R : Form} → In R Φ → Apply Γ Δ R Γ' Δ' Ξ → Step Γ Δ Φ Γ' Δ' Ξ

-- ---- a rule of a book: ∀X…. (atoms ⊗ tests ⊗ 1) ⊸ (heads ⊗ comp (∀Y…. (atoms ⊗ tests ⊗ 1) ⊸ (heads ⊗ 1)) ⊗ … ⊗ 1)

abbrev pub exp_of : Values → Term → Exp
exp_of σ (constant v) = int v
exp_of σ (variable x) = int (σ x)

abbrev pub atom_form : List Kind → Values → Atom → Form
atom_form kinds σ a =
    if is_card kinds a.kind then fact a.kind (map (exp_of σ) a.terms) else !fact a.kind (map (exp_of σ) a.terms)

abbrev pub test_form : Values → Test → Form
test_form σ t = !constraint (cmp t.comparison (exp_of σ t.left) (exp_of σ t.right))

-- A₁ ⊗ … ⊗ Aₙ ⊗ B
abbrev pub tensor : {X : Type 0} → (X → Form) → List X → Form → Form
tensor f [] B = B
tensor f (x ∷ xs) B = f x ⊗ tensor f xs B

abbrev pub body_form : List Kind → List Atom → List Test → Values → Form
body_form kinds atoms tests σ = tensor (atom_form kinds σ) atoms (tensor (test_form σ) tests 𝟏)

-- ∀ over each variable of a list
abbrev pub for_all : List ℕ → (Values → Form) → Values → Form
for_all [] A σ = A σ
for_all (x ∷ xs) A σ = forall (λ M. for_all xs A (change σ x M))

-- those of the second list that are not in the first
abbrev pub without : List ℕ → List ℕ → List ℕ
without xs [] = []
without xs (y ∷ ys) = if mem y xs then without xs ys else y ∷ without xs ys

-- "One not in the rule's body is the sweep's own": the sweep's own variables, given those of the rule's body
abbrev pub own_variables : List ℕ → Sweep → List ℕ
own_variables xs sweep = without xs (bound_by sweep.body xs)

abbrev pub sweep_matrix : List Kind → Sweep → Values → Form
sweep_matrix kinds sweep σ = body_form kinds sweep.body sweep.tests σ ⊸ tensor (atom_form kinds σ) sweep.heads 𝟏

abbrev pub sweep_form : List Kind → List ℕ → Values → Sweep → Form
sweep_form kinds xs σ sweep = comp (for_all (own_variables xs sweep) (sweep_matrix kinds sweep) σ)

abbrev pub rule_matrix : List Kind → Rule → Values → Form
rule_matrix kinds rule σ =
    body_form kinds rule.body rule.tests σ
    ⊸ tensor (atom_form kinds σ) rule.heads (tensor (sweep_form kinds (bound_by rule.body []) σ) rule.sweeps 𝟏)

unfoldable pub rule_form : List Kind → Rule → Form
rule_form kinds rule = for_all (bound_by rule.body []) (rule_matrix kinds rule) (λ x. 0)
