-- The judgments do not allow too much. A step that Meld allows is one of a rule with a fitting choice of rows, so where a firing is quiet Meld allows
-- no step at all; and what a step uses up was there. By inversion of the derivations.
use Rattle.std.specs.Prelude.{◌≡◌, refl, ◌↔◌, ℕ, suc, ◌+◌, ◌≤◌, true, false, List, [], ◌∷◌, map, if◌then◌else◌}
use Rattle.std.proofs.Common.{sym, ap, ap₂, ◌∙◌, subst, ⊎_elim, add-zero, add-suc, suc-add, zero-add, arith}
use Rattle.std.proofs.Math.Option.{some, none-ne-some}
use mathlib.Core.List.Memᴰ
use Rattle.std.proofs.Math.ListN.{get_elem?}
use Rattle.meaning.specs.Basics.{change, In, All}
use Rattle.meaning.specs.Facts.{Kind, Fact, Board, is_card}
use Rattle.meaning.specs.Rules.{Term, Atom, Comparison, compare, Test, Rule, Book, Values, value_of, holds}
use Rattle.meaning.specs.Fit.{Choice, Marks, no_marks, mark, IsChoice, TestsHold, nothing_known}
use Rattle.meaning.specs.Firing.{head_fact, unused_rows, quiet, fire}
use Rattle.meaning.specs.Translation.{bound_by}
use Rattle.meaning.specs.Meld.{same_fact, count, Sum, Exp, int, cmp, Val, vint, vbool, ◌⇓◌, eval_int, eval_cmp_int, Equal, equal_none, equal_int}
use Rattle.meaning.specs.Meld.{Form, 𝟏, ◌⊗◌, ◌⊸◌, fact, !fact, !constraint, forall}
use Rattle.meaning.specs.Meld.{Match, match_exists, match_one, match_split, match_end_constraint, match_end_linear, match_end_persistent}
use Rattle.meaning.specs.Meld.{Derive, derive-⊗, derive_fact, derive-!fact, derive-1, derive_comprehension, derive-&-left, derive-&-right}
use Rattle.meaning.specs.Meld.{derive_forall, derive_lolli, derive_end, derive_blur, Apply, ⊸L, ∀L, Step, rule_app}
use Rattle.meaning.specs.Meld.{exp_of, atom_form, test_form, tensor, body_form, for_all, rule_matrix, rule_form}
use Rattle.meaning.specs.WellFormed.{GoodBook}
use Rattle.firings.specs.Basics.{cases, all-at, in_at, equal_facts}
use Rattle.firings.specs.Counting.{same_equal, count_self, mark-takes, unused_all}
use Rattle.firings.specs.Answers.{FitsBy}
use Rattle.firings.specs.Fitting.{fits_by}
use Rattle.firings.specs.Allowed.{exp_int}
use Rattle.firings.specs.Firings.{NoneFits, look, Allows, meld_by, quiet_exactly_if_none_fits}

-- ---- what is used up was there

match_uses : {Γ Δ Ξ : List Fact} {A : Form} → Match Γ Δ A Ξ → (f : Fact) → count f Δ ≡ count f Ξ
match_uses (match_exists M d) f = match_uses d f
match_uses match_one f = refl
match_uses (match_split d d' p q) f = omega (arith, match_uses d f, match_uses d' f, p.counts f, q.counts f)
match_uses (match_end_constraint h) f = refl
match_uses (match_end_linear h) f = refl
match_uses (match_end_persistent h m) f = refl

derive_uses : {Γ Δ Δ₁ Γ₁ Γ' Δ' Ξ : List Fact} {Ω : List Form} → Derive Γ Δ Ω Δ₁ Γ₁ Γ' Δ' Ξ → (N : List Fact) × Sum Δ N Ξ
derive_uses (derive-⊗ d) = derive_uses d
derive_uses (derive_fact v d) = derive_uses d
derive_uses (derive-!fact v d) = derive_uses d
derive_uses (derive-1 d) = derive_uses d
derive_uses (derive_comprehension d) = derive_uses d
derive_uses (derive-&-left d) = derive_uses d
derive_uses (derive-&-right d) = derive_uses d
derive_uses (derive_forall M d) = derive_uses d
derive_uses (derive_lolli m p d q) =
    let w = derive_uses d in
    (w.0, record { counts = λ f. omega (arith, match_uses m f, p.counts f, q.counts f, w.1.counts f) })
derive_uses (derive_end {Δ = Δ}) = (Δ, record { counts = λ f. omega arith })

apply_uses : {Γ Δ Γ' Δ' Ξ : List Fact} {R : Form} → Apply Γ Δ R Γ' Δ' Ξ → (N : List Fact) × Sum Δ N Ξ
apply_uses (⊸L m (derive_blur d) p q) =
    let w = derive_uses d in
    (w.0, record { counts = λ f. omega (arith, p.counts f, q.counts f, w.1.counts f) })
apply_uses (∀L M a) = apply_uses a

-- "it uses up cards": in any step that Meld allows, the cards before are those left over and those used.
pub step_uses_what_was_there : {Γ Δ Γ' Δ' Ξ : List Fact} {Φ : List Form} → Step Γ Δ Φ Γ' Δ' Ξ → (N : List Fact) × Sum Δ N Ξ
step_uses_what_was_there (rule_app m a) = apply_uses a

-- ---- inversions: what a derivation of each form says

int_inverse : {n : ℕ} {v : Val} → int n ⇓ v → v ≡ vint n
int_inverse eval_int = refl

exp_inverse : (values : Values) (t : Term) (a : ℕ) → exp_of values t ⇓ vint a → value_of values t ≡ a
exp_inverse values t a h = let e = int_inverse (rw (exp_int values t) at h) in cc

cmp_inverse : {o : Comparison} {e₁ e₂ : Exp} {v : Val} → cmp o e₁ e₂ ⇓ v
    → (a : ℕ) × (b : ℕ) × (e₁ ⇓ vint a) × (e₂ ⇓ vint b) × (v ≡ vbool (compare o a b))
cmp_inverse (eval_cmp_int {a = a} {b = b} p q) = (a, b, p, q, refl)

constraint_inverse : {Γ Δ Ξ : List Fact} {e : Exp} → Match Γ Δ (!constraint e) Ξ → e ⇓ vbool true
constraint_inverse (match_end_constraint h) = h

test_inverse : {Γ Δ Ξ : List Fact} (values : Values) (t : Test) → Match Γ Δ (test_form values t) Ξ → holds values t ≡ true
test_inverse values t d =
    let w = cmp_inverse (constraint_inverse d) in
    let e = w.4 in
    ap₂ (compare t.comparison) (exp_inverse values t.left w.0 w.2) (exp_inverse values t.right w.1 w.3) ∙ (cc)

split_inverse : {Γ Δ Ξ : List Fact} {A B : Form} → Match Γ Δ (A ⊗ B) Ξ
    → (Δ₁ : List Fact) × (Δ₂ : List Fact) × (Ξ₁ : List Fact) × (Ξ₂ : List Fact) × Match Γ Δ₁ A Ξ₁ × Match Γ Δ₂ B Ξ₂ × Sum Δ Δ₁ Δ₂
split_inverse (match_split {Δ₁ = Δ₁} {Δ₂ = Δ₂} {Ξ₁ = Ξ₁} {Ξ₂ = Ξ₂} d d' p q) = (Δ₁, Δ₂, Ξ₁, Ξ₂, d, d', p)

tests_inverse : {Γ Δ Ξ : List Fact} (values : Values) (tests : List Test) → Match Γ Δ (tensor (test_form values) tests 𝟏) Ξ → TestsHold values tests
tests_inverse values [] d = tt
tests_inverse {Γ = Γ} {Δ = Δ} {Ξ = Ξ} values (t ∷ tests) d =
    let w = split_inverse d in (test_inverse values t w.4, tests_inverse {Γ = Γ} {Δ = w.1} {Ξ = w.3} values tests w.5)

nil_inverse : {ns : List ℕ} → Equal ns [] → ns ≡ []
nil_inverse equal_none = refl

cons_inverse : {ns : List ℕ} {v : ℕ} {es : List Exp} → Equal ns (int v ∷ es) → (ms : List ℕ) × (ns ≡ v ∷ ms) × Equal ms es
cons_inverse (equal_int {ns = ms} h) = (ms, refl, h)

equal_inverse : (values : Values) (terms : List Term) (ns : List ℕ) → Equal ns (map (exp_of values) terms) → map (value_of values) terms ≡ ns
equal_inverse values [] ns h = sym (nil_inverse h)
equal_inverse values (t ∷ terms) ns h =
    let w = cons_inverse (rw (exp_int values t) at h) in
    ap (λ (l : List ℕ). value_of values t ∷ l) (equal_inverse values terms w.0 w.2) ∙ sym w.1

fact_inverse : {Γ Δ Ξ : List Fact} {k : ℕ} {es : List Exp} → Match Γ Δ (fact k es) Ξ
    → (f : Fact) × (f.kind ≡ k) × Equal f.numbers es × (Δ ≡ f ∷ [])
fact_inverse (match_end_linear {f = f} h) = (f, refl, h, refl)

!fact_inverse : {Γ Δ Ξ : List Fact} {k : ℕ} {es : List Exp} → Match Γ Δ (!fact k es) Ξ
    → (f : Fact) × (f.kind ≡ k) × Equal f.numbers es × (Δ ≡ []) × In f Γ
!fact_inverse (match_end_persistent {f = f} h m) = (f, refl, h, refl, m)

atom-fact : (values : Values) (a : Atom) (f : Fact) → f.kind ≡ a.kind → Equal f.numbers (map (exp_of values) a.terms) → head_fact values a ≡ f
atom-fact values a f k h = equal_facts (head_fact values a) f (sym k) (equal_inverse values a.terms f.numbers h)

card_inverse : {Γ Δ Ξ : List Fact} (values : Values) (a : Atom)
    → Match Γ Δ (fact a.kind (map (exp_of values) a.terms)) Ξ → Δ ≡ head_fact values a ∷ []
card_inverse values a d = let w = fact_inverse d in w.3 ∙ ap (λ (f : Fact). f ∷ []) (sym (atom-fact values a w.0 w.1 w.2))

notice_inverse : {Γ Δ Ξ : List Fact} (values : Values) (a : Atom)
    → Match Γ Δ (!fact a.kind (map (exp_of values) a.terms)) Ξ → (Δ ≡ []) × In (head_fact values a) Γ
notice_inverse values a d = let w = !fact_inverse d in (w.3, Memᴰ.cast (atom-fact values a w.0 w.1 w.2) w.4)

-- ---- a matched body is a choice that fits

-- a fact that is left stands in some row that is not gone
left-row : (f : Fact) (n : ℕ) (gone : Marks) (facts : List Fact) → 1 ≤ count f (unused_rows n gone facts)
    → (i : ℕ) × (get_elem? facts i ≡ some f) × (gone (n + i) ≡ false)
unfolding unused_rows
left-row f n gone [] h = absurd (omega arith)
left-row f n gone (x ∷ facts) h =
    cases (gone n)
    (λ y. later (left-row f (suc n) gone facts (rw y at h)))
    (λ y. let k : 1 ≤ (if same_fact f x then 1 else 0) + count f (unused_rows (suc n) gone facts) = rw y at h in
    cases (same_fact f x)
    (λ z. (0, ap some (sym (same_equal f x z)), rw add-zero y))
    (λ z. let l : 1 ≤ 0 + count f (unused_rows (suc n) gone facts) = rw z at k in later (left-row f (suc n) gone facts (omega arith))))
  where
    later : (i : ℕ) × (get_elem? facts i ≡ some f) × (gone (suc n + i) ≡ false) → (i : ℕ) × (get_elem? (x ∷ facts) i ≡ some f) × (gone (n + i) ≡ false)
    later w = (suc w.0, w.1, rw (add-suc, ← suc-add) w.2)

module _ (kinds : List Kind) (board : Board) (values : Values) (tests : List Test) where
  -- what is matched is at most what is left
  abbrev Within : List Fact → Marks → Type 0
  Within Δ gone = (f : Fact) → count f Δ ≤ count f (unused_rows 0 gone board.cards)

  abbrev Chosen : List Atom → Marks → Type 0
  Chosen atoms gone = (c : Choice) × IsChoice kinds board atoms c × FitsBy kinds tests atoms c gone values

  -- one atom, and then the others
  module _ (a : Atom) (atoms : List Atom) (gone : Marks) where
    chosen_card : {Δ Δ₁ Δ₂ Ξ₁ : List Fact} → is_card kinds a.kind ≡ true → Match board.notices Δ₁ (atom_form kinds values a) Ξ₁
        → Sum Δ Δ₁ Δ₂ → Within Δ gone → ((gone' : Marks) → Within Δ₂ gone' → Chosen atoms gone') → Chosen (a ∷ atoms) gone
    chosen_card y d s le more =
        let f = head_fact values a in
        let e = card_inverse values a (rw y at d) in
        let i = left-row f 0 gone board.cards (omega (arith, le f, s.counts f, ap (count f) e, count_self f)) in
        let free : gone i.0 ≡ false = rw zero-add at i.2 in
        let one : Sum (unused_rows 0 gone board.cards) (f ∷ []) (unused_rows 0 (mark i.0 gone) board.cards) =
        rw zero-add at (mark-takes 0 i.0 gone board.cards f i.1 i.2) in
        let w = more (mark i.0 gone) (λ g. omega (arith, le g, s.counts g, ap (count g) e, one.counts g)) in
        (record { at = i.0; fact = f } ∷ w.0, (rw y i.1, w.1), ((rw (y, free), refl), rw y w.2))

    chosen_notice : {Δ Δ₁ Δ₂ Ξ₁ : List Fact} → is_card kinds a.kind ≡ false → Match board.notices Δ₁ (atom_form kinds values a) Ξ₁
        → Sum Δ Δ₁ Δ₂ → Within Δ gone → ((gone' : Marks) → Within Δ₂ gone' → Chosen atoms gone') → Chosen (a ∷ atoms) gone
    chosen_notice y d s le more =
        let v = notice_inverse values a (rw y at d) in
        let i = in_at v.1 in
        let w = more gone (λ g. omega (arith, le g, s.counts g, ap (count g) v.0)) in
        (record { at = i.0; fact = head_fact values a } ∷ w.0, (rw y i.1, w.1), ((rw y, refl), rw y w.2))

  chosen : (atoms : List Atom) (gone : Marks) {Δ Ξ : List Fact}
      → Match board.notices Δ (body_form kinds atoms tests values) Ξ → Within Δ gone → Chosen atoms gone
  chosen [] gone d le = ([], tt, tests_inverse values tests d)
  chosen (a ∷ atoms) gone d le =
      let w = split_inverse d in
      cases (is_card kinds a.kind)
      (λ y. chosen_card a atoms gone y w.4 w.6 le (λ gone' k. chosen atoms gone' w.5 k))
      (λ y. chosen_notice a atoms gone y w.4 w.6 le (λ gone' k. chosen atoms gone' w.5 k))

-- ---- a step is allowed exactly where a choice fits

forall_inverse : {Γ Δ Γ' Δ' Ξ : List Fact} {A : ℕ → Form} → Apply Γ Δ (forall A) Γ' Δ' Ξ → (M : ℕ) × Apply Γ Δ (A M) Γ' Δ' Ξ
forall_inverse (∀L M a) = (M, a)

for_all_inverse : {Γ Δ Γ' Δ' Ξ : List Fact} (A : Values → Form) (xs : List ℕ) (σ : Values)
    → Apply Γ Δ (for_all xs A σ) Γ' Δ' Ξ → (τ : Values) × Apply Γ Δ (A τ) Γ' Δ' Ξ
for_all_inverse A [] σ a = (σ, a)
for_all_inverse A (x ∷ xs) σ a = let w = forall_inverse a in for_all_inverse A xs (change σ x w.0) w.1

lolli_inverse : {Γ Δ Γ' Δ' Ξ : List Fact} {A B : Form} → Apply Γ Δ (A ⊸ B) Γ' Δ' Ξ
    → (Δ₁ : List Fact) × (Δ₂ : List Fact) × Match Γ Δ₁ A Δ₁ × Sum Δ Δ₁ Δ₂
lolli_inverse (⊸L {Δ₁ = Δ₁} {Δ₂ = Δ₂} m d p q) = (Δ₁, Δ₂, m, p)

applied_fits : (kinds : List Kind) (board : Board) (rule : Rule) {Γ' Δ' Ξ : List Fact}
    → Apply board.notices board.cards (rule_form kinds rule) Γ' Δ' Ξ → NoneFits kinds board rule → ⊥
unfolding rule_form
applied_fits kinds board rule a none =
    let w = for_all_inverse (rule_matrix kinds rule) (bound_by rule.body []) (λ x. 0) a in
    let v = lolli_inverse w.1 in
    let within : (f : Fact) → count f v.0 ≤ count f (unused_rows 0 no_marks board.cards) =
    λ f. omega (arith, v.3.counts f, ap (count f) (unused_all 0 board.cards)) in
    let c = chosen kinds board w.0 rule.tests rule.body no_marks v.2 within in
    none c.0 c.1 (fits_by kinds rule.body rule.tests c.0 nothing_known w.0 (λ x n h. absurd (none-ne-some n h)) c.2)

module _ (book : Book) (board : Board) where
  step_fits : {Γ' Δ' Ξ : List Fact} → Allows book board Γ' Δ' Ξ → All (NoneFits book.kinds board) book.rules → ⊥
  step_fits {Γ'} {Δ'} {Ξ} (rule_app m a) none =
      let w = Memᴰ.of_map (rule_form book.kinds) book.rules m in
      let i = in_at w.1 in
      applied_fits book.kinds board w.0 (subst (λ (R : Form). Apply board.notices board.cards R Γ' Δ' Ξ) (sym w.2) a)
      (all-at (NoneFits book.kinds board) book.rules i.0 none i.1)

  module _ (good : GoodBook book) where
    -- "Sections 2.4, 2.5 and 7.1 of source document 001 decide what may fire": a firing is quiet exactly if Meld 2.0 allows no step.
    pub quiet_exactly_if_no_step : (fire book board ≡ quiet) ↔ ((Γ' Δ' Ξ : List Fact) → Allows book board Γ' Δ' Ξ → ⊥)
    quiet_exactly_if_no_step =
        let q = quiet_exactly_if_none_fits book good board in
        let l = look book.kinds board 0 book.rules good.rules in (
          (λ h Γ' Δ' Ξ s. step_fits s (q.0 h)),
          λ h. q.1 (⊎_elim (λ w. w.0) (λ w. absurd (h _ _ _ (meld_by book good board w.0).stepped)) l),
        )

    -- A runner "that answers QUIET for everything" is shut out: where Meld allows a step, the firing is not quiet.
    pub step_not_quiet : {Γ' Δ' Ξ : List Fact} → Allows book board Γ' Δ' Ξ → fire book board ≡ quiet → ⊥
    step_not_quiet {Γ'} {Δ'} {Ξ} s h = quiet_exactly_if_no_step.0 h Γ' Δ' Ξ s
