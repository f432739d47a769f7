-- Document 01's words allow one firing only. Two first choices are one, a sweep can be worked through in one way, and so `fire` answers fired or full
-- exactly where the words of `FiringIs` or `FullIs` hold.
use Rattle.std.specs.Prelude.{◌≡◌, refl, ◌⊎◌, ◌↔◌, ℕ, ◌<◌, true, List, [], ◌∷◌, ◌++◌, map}
use Rattle.std.proofs.Common.{sym, ap, ◌∙◌, subst, inl, inr, zero-add}
use Rattle.std.proofs.Math.Path.{ap₂, fun_ext}
use Rattle.std.proofs.Math.Logic.{⊎_elim}
use Rattle.std.proofs.Math.Option.{some, some-injective}
use Rattle.std.proofs.Math.ListN.{get_elem?}
use Rattle.meaning.specs.Facts.{Kind, Board, is_card, rows_of}
use Rattle.meaning.specs.Rules.{Atom, Test, Sweep, Rule, Book}
use Rattle.meaning.specs.Fit.{Row, Choice, Bindings, values_of, Known, nothing_known, IsChoice, Before, Under, fit}
use Rattle.meaning.specs.Firing.{Work, head_fact, taken, board_after, has_room, full, fired, settle, fire}
use Rattle.meaning.specs.WellFormed.{GoodBook}
use Rattle.firings.specs.Basics.{cases, order}
use Rattle.firings.specs.Answers.{is_bound, unbound_zero, under_bound}
use Rattle.firings.specs.Fitting.{FitGives}
use Rattle.firings.specs.Choosing.{FirstChoice}
use Rattle.firings.specs.Sweeping.{Taken, GivesNow, Sweeping, over, passes, takes}
use Rattle.firings.specs.Sweeps.{SweepsDone, no_sweep, sweep_then, RuleDone}
use Rattle.firings.specs.Firings.{FirstRule, first_rule_fits, look, swept_by, FiringIs, firing_is, FullIs, full_is}

-- ---- one first choice

-- of two choices one comes first, or they are the same
one_before : (kinds : List Kind) (board : Board) (atoms : List Atom) (c d : Choice) → IsChoice kinds board atoms c → IsChoice kinds board atoms d
    → Before c d ⊎ ((c ≡ d) ⊎ Before d c)
one_before kinds board [] [] [] i j = inr (inl refl)
one_before kinds board [] [] (s ∷ d) i j = absurd j
one_before kinds board [] (r ∷ c) d i j = absurd i
one_before kinds board (a ∷ atoms) [] d i j = absurd i
one_before kinds board (a ∷ atoms) (r ∷ c) [] i j = absurd j
one_before kinds board (a ∷ atoms) (r ∷ c) (s ∷ d) i j =
    let rest = one_before kinds board atoms c d i.1 j.1 in
    order r.at s.at (λ p. inl (inl p)) (λ e. same e rest) (λ p. inr (inr (inl p)))
  where
    same : r.at ≡ s.at → Before c d ⊎ ((c ≡ d) ⊎ Before d c) → Before (r ∷ c) (s ∷ d) ⊎ ((r ∷ c ≡ s ∷ d) ⊎ Before (s ∷ d) (r ∷ c))
    same e (inl b) = inl (inr (e, b))
    same e (inr (inl q)) =
        let row = sym i.0 ∙ ap (get_elem? (rows_of board (is_card kinds a.kind))) e ∙ j.0 in
        let f : r.fact ≡ s.fact = some-injective r.fact s.fact row in
        inr (inl (ap₂ (λ (x : Row) (l : Choice). x ∷ l) (λ n. record { at = e n; fact = f n }) q))
    same e (inr (inr b)) = inr (inr (inr (sym e, b)))

first_choice_one : (kinds : List Kind) (board : Board) (atoms : List Atom) (tests : List Test) (known : Known) {k k' : Known}
    → FirstChoice kinds board atoms tests known k → FirstChoice kinds board atoms tests known k' → k ≡ k'
first_choice_one kinds board atoms tests known {k} {k'} v w =
    ⊎_elim (λ b. absurd (w.none_before v.choice v.is_choice b v.gives.fits))
    (λ z. ⊎_elim (λ e. some-injective k k' (sym v.answer ∙ ap (λ (c : Choice). fit kinds atoms tests c known) e ∙ w.answer))
    (λ b. absurd (v.none_before w.choice w.is_choice b w.gives.fits)) z)
    (one_before kinds board atoms v.choice w.choice v.is_choice w.is_choice)

-- ---- one way through the sweeps

-- two answers to one choice have the same values and leave the same rows
gives_one : (kinds : List Kind) (atoms : List Atom) (tests : List Test) (rows : Choice) (known k k' : Known)
    → FitGives kinds atoms tests rows known k → FitGives kinds atoms tests rows known k'
    → (values_of k.bindings ≡ values_of k'.bindings) × (k.gone ≡ k'.gone)
gives_one kinds atoms tests rows known k k' g g' = (fun_ext same, g.gone ∙ sym g'.gone)
  where
    under : Under k.bindings (values_of k'.bindings)
    under = g.only (record {
      of_kind = g'.fits.of_kind;
      apart = g'.fits.apart;
      unused = g'.fits.unused;
      values = values_of k'.bindings;
      under = g'.under;
      equal = g'.equal;
      tested = g'.tested;
    })

    same : (x : ℕ) → values_of k.bindings x ≡ values_of k'.bindings x
    same x =
        cases (is_bound k.bindings x) (λ y. sym (under_bound k.bindings (values_of k'.bindings) under x y))
        (λ y. unbound_zero k.bindings x y ∙ sym (unbound_zero k'.bindings x (g'.binds x ∙ sym (g.binds x) ∙ y)))

module _ (kinds : List Kind) (sweep : Sweep) (bindings : Bindings) where
  taken_one : (work : Work) (c : Choice) (k k' : Known) → GivesNow kinds sweep bindings work c k → GivesNow kinds sweep bindings work c k'
      → taken sweep.heads work (some k') ≡ taken sweep.heads work (some k)
  taken_one work c k k' g g' =
      let w = gives_one kinds sweep.body sweep.tests c _ k' k g' g in
      λ i. record { used = w.1 i; made = work.made ++ map (head_fact (w.0 i)) sweep.heads }

  sweeping_one : {work last last' : Work} {cs : List Choice} {ts ts' : List Taken}
      → Sweeping kinds sweep bindings work cs ts last → Sweeping kinds sweep bindings work cs ts' last' → last ≡ last'
  sweeping_one over over = refl
  sweeping_one (passes x l) (passes x' l') = sweeping_one l l'
  sweeping_one (passes x l) (takes g' l') = absurd (x g'.fits)
  sweeping_one (takes g l) (passes x' l') = absurd (x' g.fits)
  sweeping_one {work} {last} {last'} (takes {c = c} {k = k} g l) (takes {k = k'} {cs = cs} {ts = ts'} g' l') =
      sweeping_one l (subst (λ (w : Work). Sweeping kinds sweep bindings w cs ts' last') (taken_one work c k k' g g') l')

sweeps_one : {kinds : List Kind} {board : Board} {bindings : Bindings} {work last last' : Work} {sweeps : List Sweep}
    → SweepsDone kinds board bindings work sweeps last → SweepsDone kinds board bindings work sweeps last' → last ≡ last'
sweeps_one no_sweep no_sweep = refl
sweeps_one {kinds} {board} {bindings} {work} {last} {last'} (sweep_then {sweep = sweep} {sweeps = sweeps} d more) (sweep_then d' more') =
    let e = sweeping_one kinds sweep bindings d'.each d.each in
    sweeps_one more (subst (λ (w : Work). SweepsDone kinds board bindings w sweeps last') e more')

-- ---- one first rule

module _ (kinds : List Kind) (board : Board) (rules : List Rule) where
  not_earlier : (v w : FirstRule kinds board rules) → v.place < w.place → ⊥
  not_earlier v w h = w.none_earlier v.place v.rule h v.listed v.first.choice v.first.is_choice v.first.gives.fits

  place_one : (v w : FirstRule kinds board rules) → v.place ≡ w.place
  place_one v w = order v.place w.place (λ p. absurd (not_earlier v w p)) (λ e. e) (λ p. absurd (not_earlier w v p))

  -- the same rule, and the same values and rows
  found_one : (v w : FirstRule kinds board rules) → ◌≡◌ {A = Rule × Known} (v.rule, v.known) (w.rule, w.known)
  found_one v w =
      let e = some-injective v.rule w.rule (sym v.listed ∙ ap (get_elem? rules) (place_one v w) ∙ w.listed) in
      subst (λ (r : Rule). (k : Known) → FirstChoice kinds board r.body r.tests nothing_known k → ◌≡◌ {A = Rule × Known} (v.rule, v.known) (r, k)) e
      (λ k f. ap (λ (x : Known). (v.rule, x)) (first_choice_one kinds board v.rule.body v.rule.tests nothing_known v.first f))
      w.known w.first

  work_one : (v w : FirstRule kinds board rules) (work work' : Work)
      → RuleDone kinds board v.rule v.known work → RuleDone kinds board w.rule w.known work' → work ≡ work'
  work_one v w work work' s s' = sweeps_one s (subst (λ (x : Rule × Known). RuleDone kinds board x.0 x.1 work') (found_one w v) s')

-- ---- the firing

module _ (book : Book) (good : GoodBook book) (board : Board) where
  abbrev first_of : {number : ℕ} {board' : Board} → FiringIs book board number board' → FirstRule book.kinds board book.rules
  first_of {number} v = record { place = number; rule = v.rule; listed = v.listed; none_earlier = v.none_earlier; known = v.known; first = v.first }

  -- what is settled of a first rule and its work
  fire_settles : (v : FirstRule book.kinds board book.rules) (work : Work) → RuleDone book.kinds board v.rule v.known work
      → fire book board ≡ settle book.kinds board v.place work
  unfolding fire
  fire_settles v work s =
      ⊎_elim (λ w. absurd (first_rule_fits book.kinds board book.rules v w.0))
      (λ w. w.1 ∙ ap₂ (settle book.kinds board) (zero-add w.0.place ∙ place_one book.kinds board book.rules w.0 v)
      (work_one book.kinds board book.rules w.0 v _ work (swept_by book good board w.0) s))
      (look book.kinds board 0 book.rules good.rules)

  -- "The firing is that of the lowest-numbered rule with a fitting choice, and its first one": document 01's words hold of what was fired, and of
  -- nothing else.
  pub fired_exactly_if_firing_is : (number : ℕ) (board' : Board) → (fire book board ≡ fired number board') ↔ FiringIs book board number board'
  fired_exactly_if_firing_is number board' = (
    (λ h. firing_is book good board h),
    λ v. let room : has_room (board_after book.kinds board v.work) ≡ true = rw v.after at v.room in
        fire_settles (first_of v) v.work v.swept ∙ rw (room, v.after),
  )

  -- "If that exceeds 256 cards or 128 notices": a firing is full exactly where the first rule with a fitting choice would overfill the board.
  pub full_exactly_if_full_is : (fire book board ≡ full) ↔ FullIs book board
  full_exactly_if_full_is = (full_is book good board, λ v. fire_settles v.would v.work v.swept ∙ rw v.no_room)
