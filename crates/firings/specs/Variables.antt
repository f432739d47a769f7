-- Variables: those that a body binds are those that occur in it, and off its own variables a sweep's values are the rule's. So a ∀ over such a list can
-- be taken at the values found.
use Rattle.std.specs.Prelude.{◌≡◌, refl, ℕ, false, ◌||◌, List, [], ◌∷◌, eqb}
use Rattle.std.proofs.Common.{sym, ap, ◌∙◌, subst, true≢false, eqb-true, ne_eqb}
use Rattle.std.proofs.Math.Path.{fun_ext}
use Rattle.std.proofs.Math.Bool.{or-false, or_assoc, or_comm}
use Rattle.meaning.specs.Basics.{change, mem}
use Rattle.meaning.specs.Rules.{Term, constant, variable, Atom, Sweep, Values, occurs_in_terms, occurs_in}
use Rattle.meaning.specs.Fit.{Bindings, values_of, Under}
use Rattle.meaning.specs.Translation.{bound_by_term, bound_by_terms, bound_by}
use Rattle.meaning.specs.Meld.{Form, forall, for_all, without, own_variables}
use Rattle.firings.specs.Basics.{cases}
use Rattle.firings.specs.Answers.{is_bound, unbound_zero, under_bound, occurs_cons}

occurs_term : (x : ℕ) (t : Term) (xs : List ℕ) → mem x (bound_by_term t xs) ≡ (mem x xs || occurs_in_terms x (t ∷ []))
occurs_term x (constant v) xs = sym (or-false (mem x xs))
occurs_term x (variable y) xs =
    cases (mem y xs)
    (λ q. cases (eqb x y) (λ z. rw (q, eqb-true x y z, q)) (λ z. rw (q, z) (sym (or-false (mem x xs)))))
    (λ q. rw (q, or-false (eqb x y)) (or_comm (eqb x y) (mem x xs)))

occurs_terms : (x : ℕ) (terms : List Term) (xs : List ℕ) → mem x (bound_by_terms terms xs) ≡ (mem x xs || occurs_in_terms x terms)
unfolding bound_by_terms
occurs_terms x [] xs = sym (or-false (mem x xs))
occurs_terms x (t ∷ terms) xs =
    rw (occurs_terms x terms (bound_by_term t xs), occurs_term x t xs, ← (occurs_cons x t terms))
    (or_assoc (mem x xs) (occurs_in_terms x (t ∷ [])) (occurs_in_terms x terms))

-- the variables bound by a body are those bound before and those that occur in it
pub occurs_bound : (x : ℕ) (atoms : List Atom) (xs : List ℕ) → mem x (bound_by atoms xs) ≡ (mem x xs || occurs_in x atoms)
unfolding bound_by
occurs_bound x [] xs = sym (or-false (mem x xs))
occurs_bound x (a ∷ atoms) xs =
    rw (occurs_bound x atoms (bound_by_terms a.terms xs), occurs_terms x a.terms xs)
    (or_assoc (mem x xs) (occurs_in_terms x a.terms) (occurs_in x atoms))

without-others : (xs ys : List ℕ) (x : ℕ) → mem x xs ≡ false → mem x (without xs ys) ≡ mem x ys
without-others xs [] x p = refl
without-others xs (y ∷ ys) x p =
    cases (mem y xs)
    (λ q. rw (q, ne_eqb x y (λ e. true≢false (sym q ∙ ap (λ (i : ℕ). mem i xs) (sym e) ∙ p)), without-others xs ys x p))
    (λ q. rw (q, without-others xs ys x p))

-- "One not in the rule's body is the sweep's own": off its own variables a sweep's values are the rule's
pub own_only : (xs : List ℕ) (bindings found : Bindings) (sweep : Sweep) → ((x : ℕ) → is_bound bindings x ≡ mem x xs) → Under bindings (values_of found)
    → ((x : ℕ) → is_bound found x ≡ (is_bound bindings x || occurs_in x sweep.body))
    → (x : ℕ) → mem x (own_variables xs sweep) ≡ false → values_of bindings x ≡ values_of found x
own_only xs bindings found sweep named under binds x h =
    cases (is_bound bindings x)
    (λ y. sym (under_bound bindings (values_of found) under x y))
    (λ y. let q : mem x xs ≡ false = sym (named x) ∙ y in
    let z : mem x (bound_by sweep.body xs) ≡ occurs_in x sweep.body = rw q at (occurs_bound x sweep.body xs) in
    let o : occurs_in x sweep.body ≡ false = sym z ∙ sym (without-others xs (bound_by sweep.body xs) x q) ∙ h in
    unbound_zero bindings x y ∙ sym (unbound_zero found x (rw (binds x, y) o)))

-- ∀ over each variable of a list holds in a judgment J where ∀ takes any value, if the matrix holds for values that are the same off the list
pub for_all-at : (J : Form → Type 0) → ((B : ℕ → Form) (M : ℕ) → J (B M) → J (forall B)) → (A : Values → Form) (τ : Values) (xs : List ℕ) (σ : Values)
    → ((x : ℕ) → mem x xs ≡ false → σ x ≡ τ x) → J (A τ) → J (for_all xs A σ)
for_all-at J step A τ [] σ h d = subst (λ (values : Values). J (A values)) (sym (fun_ext λ x. h x refl)) d
for_all-at J step A τ (y ∷ xs) σ h d = step _ (τ y) (for_all-at J step A τ xs (change σ y (τ y)) changed d)
  where
    changed : (x : ℕ) → mem x xs ≡ false → change σ y (τ y) x ≡ τ x
    changed x k = cases (eqb x y) (λ q. rw q (ap τ (sym (eqb-true x y q)))) (λ q. rw q (h x (rw (q, k))))
