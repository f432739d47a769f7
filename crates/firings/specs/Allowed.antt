-- A firing of a rule is derivable in the judgments of Meld 2.0 (source document 001): match for the body, derive for heads and sweeps, apply for the
-- rule. What is still to be derived is carried along (`Leads`), so that a sweep's proof goes choice by choice.
use Rattle.std.specs.Prelude.{◌≡◌, refl, ℕ, Bool, true, false, not, List, [], ◌∷◌, ◌++◌, map, if◌then◌else◌}
use Rattle.std.proofs.Common.{sym, ◌∙◌, subst, zero-add, arith, append-nil, append_assoc}
use Rattle.std.proofs.Math.Option.{some}
use mathlib.Core.List.Memᴰ
use Rattle.std.proofs.lemmas.Bool.{not-true}
use Rattle.meaning.specs.Basics.{mem, In}
use Rattle.meaning.specs.Facts.{Kind, Fact, Board, is_card}
use Rattle.meaning.specs.Rules.{Term, constant, variable, Atom, Test, Sweep, Rule, Values, value_of}
use Rattle.meaning.specs.Fit.{Choice, Marks, Bindings, values_of, IsChoice, AtomsEqual, TestsHold, Known, nothing_known, take_row}
use Rattle.meaning.specs.Firing.{Work, head_fact, head_facts, taken, unused_rows, of_class}
use Rattle.meaning.specs.Translation.{bound_by}
use Rattle.meaning.specs.Meld.{Sum, int, vint, ◌⇓◌, eval_int, eval_cmp_int, ◌⇓⇓◌, all_nil, all_cons, Equal, equal_none, equal_int, Form, 𝟏, fact}
use Rattle.meaning.specs.Meld.{Match, match_one, match_split, match_end_constraint, match_end_linear, match_end_persistent}
use Rattle.meaning.specs.Meld.{Derive, derive-⊗, derive_fact, derive-!fact, derive-1, derive_comprehension, derive-&-left, derive-&-right}
use Rattle.meaning.specs.Meld.{derive_forall, derive_lolli, derive_end, derive_blur, Apply, ⊸L, ∀L}
use Rattle.meaning.specs.Meld.{exp_of, atom_form, test_form, tensor, body_form, for_all, own_variables, sweep_matrix, sweep_form, rule_matrix, rule_form}
use Rattle.firings.specs.Basics.{cases, at_in}
use Rattle.firings.specs.Counting.{sum_append, sum_cons, sum_nothing, sum_then, used_rows, unused_and_used, unused_all, mark-takes}
use Rattle.firings.specs.CardRows.{gone_after, gone_nil, gone_cons}
use Rattle.firings.specs.Answers.{is_bound, unbound_zero, FitsBy}
use Rattle.firings.specs.Fitting.{FitGives, by_fits}
use Rattle.firings.specs.Choosing.{choices_exactly}
use Rattle.firings.specs.Sweeping.{Taken, GivesNow, Sweeping, over, passes, takes}
use Rattle.firings.specs.Sweeps.{SweepsDone, no_sweep, sweep_then, RuleDone}
use Rattle.firings.specs.Variables.{occurs_bound, own_only, for_all-at}

-- ---- terms

pub exp_int : (values : Values) (t : Term) → exp_of values t ≡ int (value_of values t)
exp_int values (constant v) = refl
exp_int values (variable x) = refl

exp_value : (values : Values) (t : Term) → exp_of values t ⇓ vint (value_of values t)
exp_value values t = rw (exp_int values t) eval_int

exps_value : (values : Values) (terms : List Term) → map (exp_of values) terms ⇓⇓ map (value_of values) terms
exps_value values [] = all_nil
exps_value values (t ∷ terms) = all_cons (exp_value values t) (exps_value values terms)

exps_equal : (values : Values) (terms : List Term) → Equal (map (value_of values) terms) (map (exp_of values) terms)
exps_equal values [] = equal_none
exps_equal values (t ∷ terms) = rw (exp_int values t) (equal_int (exps_equal values terms))

-- ---- match

-- the cards of a choice
abbrev card_facts : List Kind → List Atom → Choice → List Fact
card_facts kinds [] rows = []
card_facts kinds (a ∷ atoms) [] = []
card_facts kinds (a ∷ atoms) (r ∷ rows) = if is_card kinds a.kind then r.fact ∷ card_facts kinds atoms rows else card_facts kinds atoms rows

match_tests : (Γ : List Fact) (values : Values) (tests : List Test) → TestsHold values tests → Match Γ [] (tensor (test_form values) tests 𝟏) []
match_tests Γ values [] h = match_one
match_tests Γ values (t ∷ tests) h =
    match_split (match_end_constraint (rw h.0 at (eval_cmp_int {o = t.comparison} (exp_value values t.left) (exp_value values t.right))))
    (match_tests Γ values tests h.1) (sum_nothing []) (sum_nothing [])

module _ (kinds : List Kind) (board : Board) (tests : List Test) where
  match_body : (values : Values) → TestsHold values tests
      → (atoms : List Atom) (rows : Choice) → IsChoice kinds board atoms rows → AtomsEqual values atoms rows
      → Match board.notices (card_facts kinds atoms rows) (body_form kinds atoms tests values) (card_facts kinds atoms rows)
  match_body values t [] [] c h = match_tests board.notices values tests t
  match_body values t [] (r ∷ rows) c h = absurd h
  match_body values t (a ∷ atoms) [] c h = absurd h
  match_body values t (a ∷ atoms) (r ∷ rows) c h =
      let rest = match_body values t atoms rows c.1 h.1 in
      let cards = card_facts kinds atoms rows in
      let equal = exps_equal values a.terms in
      cases (is_card kinds a.kind)
      (λ y. rw y (match_split (subst (λ (f : Fact). Match board.notices (f ∷ []) (fact a.kind (map (exp_of values) a.terms)) (f ∷ [])) h.0
      (match_end_linear {f = head_fact values a} equal)) rest (sum_cons r.fact cards) (sum_cons r.fact cards)))
      (λ y. rw y (match_split
      (match_end_persistent {f = head_fact values a} equal (Memᴰ.cast h.0 (at_in board.notices r.at (rw y at c.0))))
      rest (sum_nothing cards) (sum_nothing cards)))

  -- row by row the cards are taken from those left
  take-cards : (values : Values) (atoms : List Atom) (rows : Choice) (gone : Marks)
      → IsChoice kinds board atoms rows → FitsBy kinds tests atoms rows gone values
      → Sum (unused_rows 0 gone board.cards) (card_facts kinds atoms rows) (unused_rows 0 (gone_after kinds atoms rows gone) board.cards)
  take-cards values [] [] gone c h = rw (gone_nil kinds gone) (sum_nothing (unused_rows 0 gone board.cards))
  take-cards values [] (r ∷ rows) gone c h = absurd h
  take-cards values (a ∷ atoms) [] gone c h = absurd h
  take-cards values (a ∷ atoms) (r ∷ rows) gone c h =
      let more = take-cards values atoms rows (take_row (is_card kinds a.kind) r.at gone) c.1 h.1 in
      let rest = rw (gone_cons kinds a atoms r rows gone) at more in
      cases (is_card kinds a.kind)
      (λ y. let free : gone r.at ≡ false = not-true (gone r.at) (rw y at h.0.0) in
      let one = mark-takes 0 r.at gone board.cards r.fact (rw y at c.0) (rw zero-add free) in
      rw y (sum_then (rw zero-add at one) (rw y at rest) (sum_cons r.fact (card_facts kinds atoms rows))))
      (λ y. rw y (rw y at rest))

  -- a choice that fits is matched by its cards, and takes them from those left
  fit_matched : (atoms : List Atom) (rows : Choice) (known k : Known) → IsChoice kinds board atoms rows → FitGives kinds atoms tests rows known k
      → Match board.notices (card_facts kinds atoms rows) (body_form kinds atoms tests (values_of k.bindings)) (card_facts kinds atoms rows)
      × Sum (unused_rows 0 known.gone board.cards) (card_facts kinds atoms rows) (unused_rows 0 k.gone board.cards)
  fit_matched atoms rows known k c g = (
    match_body (values_of k.bindings) g.tested atoms rows c g.equal,
    rw g.gone (take-cards g.fits.values atoms rows known.gone c (by_fits kinds atoms tests rows known g.fits)),
  )

-- ---- derive

derive_for_all : {Γ Δ Δ₁ Γ₁ Γ' Δ' Ξ : List Fact} {Ω : List Form} (A : Values → Form) (τ : Values) (xs : List ℕ) (σ : Values)
    → ((x : ℕ) → mem x xs ≡ false → σ x ≡ τ x) → Derive Γ Δ (A τ ∷ Ω) Δ₁ Γ₁ Γ' Δ' Ξ → Derive Γ Δ (for_all xs A σ ∷ Ω) Δ₁ Γ₁ Γ' Δ' Ξ
derive_for_all {Γ} {Δ} {Δ₁} {Γ₁} {Γ'} {Δ'} {Ξ} {Ω} = for_all-at (λ B. Derive Γ Δ (B ∷ Ω) Δ₁ Γ₁ Γ' Δ' Ξ) (λ B M d. derive_forall M d)

apply_for_all : {Γ Δ Γ' Δ' Ξ : List Fact} (A : Values → Form) (τ : Values) (xs : List ℕ) (σ : Values)
    → ((x : ℕ) → mem x xs ≡ false → σ x ≡ τ x) → Apply Γ Δ (A τ) Γ' Δ' Ξ → Apply Γ Δ (for_all xs A σ) Γ' Δ' Ξ
apply_for_all {Γ} {Δ} {Γ'} {Δ'} {Ξ} = for_all-at (λ B. Apply Γ Δ B Γ' Δ' Ξ) (λ B M d. ∀L M d)

-- one more fact of a class
class_snoc : (kinds : List Kind) (f : Fact) (card : Bool) → is_card kinds f.kind ≡ card → (made : List Fact)
    → (of_class kinds card (made ++ (f ∷ [])) ≡ of_class kinds card made ++ (f ∷ []))
    × (of_class kinds (not card) (made ++ (f ∷ [])) ≡ of_class kinds (not card) made)
unfolding of_class
class_snoc kinds f true h [] = (rw h, rw h)
class_snoc kinds f false h [] = (rw h, rw h)
class_snoc kinds f true h (x ∷ made) =
    let r = class_snoc kinds f true h made in
    cases (is_card kinds x.kind) (λ y. rw (y, r.0, r.1) (refl, refl)) (λ y. rw (y, r.0, r.1) (refl, refl))
class_snoc kinds f false h (x ∷ made) =
    let r = class_snoc kinds f false h made in
    cases (is_card kinds x.kind) (λ y. rw (y, r.0, r.1) (refl, refl)) (λ y. rw (y, r.0, r.1) (refl, refl))

abbrev work_of : Marks → List Fact → Work
work_of used made = record { used = used; made = made }

module _ (kinds : List Kind) (board : Board) (last : Work) where
  abbrev left : Work → List Fact
  left work = unused_rows 0 work.used board.cards

  abbrev cards_made : Work → List Fact
  cards_made work = of_class kinds true work.made

  abbrev notices_made : Work → List Fact
  notices_made work = of_class kinds false work.made

  -- from the work, what is still to be derived leads to the last work
  abbrev Leads : Work → List Form → Type 0
  Leads work Ω =
      (Ξ : List Fact)
      × Derive board.notices (left work) Ω (cards_made work) (notices_made work) (notices_made last) (cards_made last) Ξ
      × Sum (left work) Ξ (left last)

  leads_heads : (bindings : Bindings) (B : Form) (Ω : List Form) (used : Marks) (heads : List Atom) (made : List Fact)
      → Leads (work_of used (made ++ head_facts bindings heads)) (B ∷ Ω)
      → Leads (work_of used made) (tensor (atom_form kinds (values_of bindings)) heads B ∷ Ω)
  leads_heads bindings B Ω used [] made d = rw append-nil at d
  leads_heads bindings B Ω used (h ∷ heads) made d =
      let f : Fact = head_fact (values_of bindings) h in
      let values = exps_value (values_of bindings) h.terms in
      let w = leads_heads bindings B Ω used heads (made ++ (f ∷ [])) (rw append_assoc d) in (
        w.0,
        cases (is_card kinds h.kind)
            (λ y. let s = class_snoc kinds f true y made in rw y (derive-⊗ (derive_fact values (rw (s.0, s.1) at w.1))))
            (λ y. let s = class_snoc kinds f false y made in rw y (derive-⊗ (derive-!fact values (rw (s.0, s.1) at w.1)))),
        w.2,
      )

  module _ (bindings : Bindings) (xs : List ℕ) (named : (x : ℕ) → is_bound bindings x ≡ mem x xs) where
    abbrev form : Sweep → Form
    form sweep = sweep_form kinds xs (values_of bindings) sweep

    -- a taken choice is one more turn of the comprehension
    leads_taken : (sweep : Sweep) (Ω : List Form) (work : Work) (c : Choice) (k : Known) → IsChoice kinds board sweep.body c
        → GivesNow kinds sweep bindings work c k → Leads (taken sweep.heads work (some k)) (form sweep ∷ Ω) → Leads work (form sweep ∷ Ω)
    leads_taken sweep Ω work c k i g d =
        let cards = card_facts kinds sweep.body c in
        let heads = leads_heads k.bindings 𝟏 (form sweep ∷ Ω) k.gone sweep.heads work.made (d.0, derive-1 d.1, d.2) in
        let matched = fit_matched kinds board sweep.tests sweep.body c _ k i g in
        let spent = sum_append heads.0 cards in
        let same = own_only xs bindings k.bindings sweep named g.under g.binds in (
          heads.0 ++ cards,
          derive_comprehension (derive-&-right (derive-⊗
              (derive_for_all (sweep_matrix kinds sweep) (values_of k.bindings) (own_variables xs sweep) (values_of bindings) same
              (derive_lolli matched.0 matched.1 heads.1 spent)))),
          record { counts = λ f. omega (arith, matched.1.counts f, heads.2.counts f, spent.counts f) },
        )

    leads_sweep : (sweep : Sweep) (Ω : List Form) {work next : Work} {cs : List Choice} {ts : List Taken}
        → Sweeping kinds sweep bindings work cs ts next → ((c : Choice) → In c cs → IsChoice kinds board sweep.body c)
        → Leads next Ω → Leads work (form sweep ∷ Ω)
    leads_sweep sweep Ω over i d = (d.0, derive_comprehension (derive-&-left (derive-1 d.1)), d.2)
    leads_sweep sweep Ω (passes x l) i d = leads_sweep sweep Ω l (λ c m. i c (Memᴰ.tail m)) d
    leads_sweep sweep Ω {work} (takes {c = c} {k = k} g l) i d =
        leads_taken sweep Ω work c k (i c (Memᴰ.head refl)) g (leads_sweep sweep Ω l (λ e m. i e (Memᴰ.tail m)) d)

    leads_sweeps : {sweeps : List Sweep} {work : Work} → SweepsDone kinds board bindings work sweeps last → Leads work (tensor form sweeps 𝟏 ∷ [])
    leads_sweeps no_sweep = ([], derive-1 derive_end, sum_nothing (left last))
    leads_sweeps (sweep_then {sweep = sweep} done more) =
        let d = leads_sweep sweep _ done.each (λ c. (choices_exactly kinds board sweep.body c).0) (leads_sweeps more) in
        (d.0, derive-⊗ d.1, d.2)

-- ---- apply

-- "Each firing of a book's run is one that Meld 2.0 Semantics allows": a rule whose body's choice fits, with its sweeps done, is applied, and the
-- notices made, the cards made and the cards used are exactly those of the work.
pub rule_applied : (kinds : List Kind) (board : Board) (rule : Rule) (c : Choice) (k : Known) (last : Work) → IsChoice kinds board rule.body c
    → FitGives kinds rule.body rule.tests c nothing_known k → RuleDone kinds board rule k last
    → Apply board.notices board.cards (rule_form kinds rule)
    (of_class kinds false last.made) (of_class kinds true last.made) (used_rows 0 last.used board.cards)
unfolding rule_form of_class
rule_applied kinds board rule c k last i g done =
    let values = values_of k.bindings in
    let xs = bound_by rule.body [] in
    let named : (x : ℕ) → is_bound k.bindings x ≡ mem x xs = λ x. g.binds x ∙ sym (occurs_bound x rule.body []) in
    let matched = fit_matched kinds board rule.tests rule.body c nothing_known k i g in
    let split = rw (unused_all 0 board.cards) at matched.1 in
    let sweeps = leads_sweeps kinds board last k.bindings xs named done in
    let heads = leads_heads kinds board last k.bindings _ [] k.gone rule.heads [] sweeps in
    let rows = unused_and_used 0 last.used board.cards in
    let spent : Sum (used_rows 0 last.used board.cards) (card_facts kinds rule.body c) heads.0 =
    record { counts = λ f. omega (arith, split.counts f, heads.2.counts f, rows.counts f) } in
    apply_for_all (rule_matrix kinds rule) values xs (λ x. 0) (λ x h. sym (unbound_zero k.bindings x (named x ∙ h)))
    (⊸L matched.0 (derive_blur heads.1) split spent)
