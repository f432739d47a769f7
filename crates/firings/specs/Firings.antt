-- One firing: the lowest-numbered rule with a fitting choice, its first choice, its sweeps, the board after, and that Meld 2.0 allows it; the end FULL;
-- and quiet exactly if no choice of rows fits any rule. All three come from one law, `look`, on what `fire_from` finds.
use Rattle.std.proofs.Math.Path.{◌≡◌, refl, sym, ap}
use Rattle.std.proofs.Common.{◌∙◌, subst, add-zero, zero-add, arith}
use Rattle.std.specs.Prelude.{◌⊎◌, ◌↔◌, ℕ, zero, suc, ◌+◌, ◌<◌, true, false}
use Rattle.std.proofs.Math.Logic.{inl, inr, ⊎_elim}
use Rattle.std.proofs.Math.Option.{Option, none, some, some-injective}
use mathlib.Core.List.Memᴰ
use mathlib.Core.List.{List, [], ◌∷◌, ◌++◌, map}
use Rattle.std.proofs.Math.ListN.{get_elem?}
use Rattle.meaning.specs.Basics.{All}
use Rattle.meaning.specs.Facts.{Kind, Fact, Board}
use Rattle.meaning.specs.Rules.{Rule, Book}
use Rattle.meaning.specs.Fit.{Marks, no_marks, card_rows, Apart, Known, nothing_known, first_fit}
use Rattle.meaning.specs.Firing.{Work, head_facts, body_work, rule_work, unused_rows, of_class, board_after, has_room}
use Rattle.meaning.specs.Firing.{Firing, quiet, full, fired, settle, fire_rule, fire_from, fire}
use Rattle.meaning.specs.Meld.{count, Apply, Step, rule_app, rule_form}
use Rattle.meaning.specs.WellFormed.{GoodRule, GoodBook}
pub use Rattle.promises.specs.Promises.{NoneFits}
use Rattle.firings.specs.Basics.{cases, all-at, at_in}
use Rattle.firings.specs.Choosing.{FirstChoice, first_fit_is_first, none_first_exactly_if_none_fits}
use Rattle.firings.specs.CardRows.{Marked, marked_append, fresh_append}
use Rattle.firings.specs.Sweeps.{RuleDone, rows_of_sweeps, facts_of_sweeps, sweeps_fresh, sweeps_make, sweeps-done}
use Rattle.firings.specs.Counting.{count_append, used_rows, unused_and_used}
use Rattle.firings.specs.Allowed.{rule_applied}

-- ---- what is found

-- "the lowest-numbered rule with a fitting choice, and its first one"
pub record FirstRule (kinds : List Kind) (board : Board) (rules : List Rule) : Type 0 where
  pub place : ℕ
  pub rule : Rule
  pub listed : get_elem? rules place ≡ some rule
  pub none_earlier : (j : ℕ) (earlier : Rule) → j < place → get_elem? rules j ≡ some earlier → NoneFits kinds board earlier
  pub known : Known
  pub first : FirstChoice kinds board rule.body rule.tests nothing_known known

module _ (kinds : List Kind) (board : Board) where
  -- what its firing does
  abbrev pub work_by : {rules : List Rule} → FirstRule kinds board rules → Work
  work_by w = rule_work kinds board w.rule w.known

  pub first_rule_fits : (rules : List Rule) → FirstRule kinds board rules → All (NoneFits kinds board) rules → ⊥
  first_rule_fits rules w h =
      all-at (NoneFits kinds board) rules w.place h w.listed w.first.choice w.first.is_choice w.first.gives.fits

  -- either no rule fits, and it is quiet; or the first rule that fits is settled
  abbrev pub Look : ℕ → List Rule → Firing → Type 0
  Look n rules found =
      (All (NoneFits kinds board) rules × (found ≡ quiet))
      ⊎ ((w : FirstRule kinds board rules) × (found ≡ settle kinds board (n + w.place) (work_by w)))

  later : (n : ℕ) (rule : Rule) (rules : List Rule) (found : Firing) → NoneFits kinds board rule → Look (suc n) rules found → Look n (rule ∷ rules) found
  later n rule rules found h (inl w) = inl ((h, w.0), w.1)
  later n rule rules found h (inr w) = inr (
    record {
      place = suc w.0.place;
      rule = w.0.rule;
      listed = w.0.listed;
      none_earlier = before;
      known = w.0.known;
      first = w.0.first;
    },
    w.1 ∙ ap (λ (m : ℕ). settle kinds board m (work_by w.0)) (omega arith),
  )
    where
      before : (j : ℕ) (earlier : Rule) → j < suc w.0.place → get_elem? (rule ∷ rules) j ≡ some earlier → NoneFits kinds board earlier
      before zero earlier l e = subst (NoneFits kinds board) (some-injective rule earlier e) h
      before (suc i) earlier l e = w.0.none_earlier i earlier (omega arith) e

  pub look : (n : ℕ) (rules : List Rule) → All (GoodRule kinds) rules → Look n rules (fire_from kinds board n rules)
  unfolding fire_from
  look n [] good = inl (tt, refl)
  look n (rule ∷ rules) good = go (first_fit kinds board rule.body rule.tests nothing_known) refl (look (suc n) rules good.1)
    where
      go : (o : Option Known) → first_fit kinds board rule.body rule.tests nothing_known ≡ o
          → Look (suc n) rules (fire_from kinds board (suc n) rules)
          → Look n (rule ∷ rules) (fire_rule kinds board n rule o (fire_from kinds board (suc n) rules))
      go none e w =
          later n rule rules _ ((none_first_exactly_if_none_fits kinds board rule.body rule.tests nothing_known good.0.group.good_tests).0 e) w
      go (some k) e w = inr (
        record {
          place = 0;
          rule = rule;
          listed = refl;
          none_earlier = λ j earlier l. absurd (omega arith);
          known = k;
          first = first_fit_is_first kinds board rule.body rule.tests nothing_known good.0.group.good_tests e;
        },
        ap (λ (m : ℕ). settle kinds board m (rule_work kinds board rule k)) (sym (add-zero n)),
      )

  -- what is settled has fired where there is room, is full where there is none, and is never quiet
  module _ (n : ℕ) (work : Work) where
    abbrev after : Board
    after = board_after kinds board work

    settle-fired : {r : ℕ} {board' : Board} → settle kinds board n work ≡ fired r board' → (r ≡ n) × (board' ≡ after) × (has_room board' ≡ true)
    settle-fired {r} {board'} h =
        cases (has_room after)
        (λ y. let k : fired n after ≡ fired r board' = rw y at h in let e : board' ≡ after = cc in ((cc), e, rw e y))
        (λ y. let k : full ≡ fired r board' = rw y at h in let z : ◌≡◌ {A = ℕ} 0 1 = cc in absurd (omega arith))

    settle_full : settle kinds board n work ≡ full → has_room after ≡ false
    settle_full h =
        cases (has_room after) (λ y. let k : fired n after ≡ full = rw y at h in let z : ◌≡◌ {A = ℕ} 0 1 = cc in absurd (omega arith)) (λ y. y)

    settle_not_quiet : settle kinds board n work ≡ quiet → ⊥
    settle_not_quiet h =
        cases (has_room after)
        (λ y. let k : fired n after ≡ quiet = rw y at h in let z : ◌≡◌ {A = ℕ} 0 1 = cc in omega arith)
        (λ y. let k : full ≡ quiet = rw y at h in let z : ◌≡◌ {A = ℕ} 0 1 = cc in omega arith)

-- ---- allowed by Meld 2.0

-- Φ; Γ; Δ ⇒ Γ'; Δ'; Ξ, for the book's rules, and the notices and cards of the board
abbrev pub Allows : Book → Board → List Fact → List Fact → List Fact → Type 0
Allows book board Γ' Δ' Ξ = Step board.notices board.cards (map (rule_form book.kinds) book.rules) Γ' Δ' Ξ

-- such a step, where Γ' is exactly the notices made, Δ' the cards made and Ξ the cards used
pub record MeldStep (book : Book) (board : Board) (rule : Rule) (work : Work) (board' : Board) : Type 0 where
  pub Γ' : List Fact
  pub Δ' : List Fact
  pub Ξ : List Fact
  pub notices_made : Γ' ≡ of_class book.kinds false work.made
  pub cards_made : Δ' ≡ of_class book.kinds true work.made
  pub cards_used : Ξ ≡ used_rows 0 work.used board.cards
  -- "Each firing of a book's run is one that Meld 2.0 Semantics allows"
  pub applied : Apply board.notices board.cards (rule_form book.kinds rule) Γ' Δ' Ξ
  pub stepped : Allows book board Γ' Δ' Ξ
  -- "New cards: unused rows in old order, then made cards. Notices: the old ones, then made ones"
  pub cards : board'.cards ≡ unused_rows 0 work.used board.cards ++ Δ'
  pub notices : board'.notices ≡ board.notices ++ Γ'
  -- "Cards before, less cards used, plus cards made, are the cards after, with equal cards counted apart."
  pub card_counts : (f : Fact) → count f board.cards + count f Δ' ≡ count f board'.cards + count f Ξ
  pub notice_counts : (f : Fact) → count f board.notices + count f Γ' ≡ count f board'.notices

-- ---- a firing

pub record FiringIs (book : Book) (board : Board) (number : ℕ) (board' : Board) : Type 0 where
  -- "The firing is that of the lowest-numbered rule with a fitting choice"
  pub rule : Rule
  pub listed : get_elem? book.rules number ≡ some rule
  pub none_earlier : (j : ℕ) (earlier : Rule) → j < number → get_elem? book.rules j ≡ some earlier → NoneFits book.kinds board earlier
  -- "and its first one": the choice, its values and the card rows that it uses
  pub known : Known
  pub first : FirstChoice book.kinds board rule.body rule.tests nothing_known known
  -- "Its sweeps then run in file order, under the body's values." "Made facts are listed: the rule's head atoms in order", then theirs
  pub work : Work
  pub swept : RuleDone book.kinds board rule known work
  -- the board after, and it has room
  pub after : board' ≡ board_after book.kinds board work
  pub room : has_room board' ≡ true
  -- and Meld allows the step
  pub meld : MeldStep book board rule work board'

module _ {book : Book} {board board' : Board} {number : ℕ} (w : FiringIs book board number board') where
  -- the card rows that a firing uses: those of the body's choice, and those of the sweeps
  abbrev pub rows_of_firing : List ℕ
  rows_of_firing = card_rows book.kinds w.rule.body w.first.choice ++ rows_of_sweeps w.swept

  -- "it uses up cards that fit the rule's body", and those of its sweeps: no card row twice, and exactly these.
  pub firing_uses_each_row_once : Apart rows_of_firing × Marked no_marks rows_of_firing w.work.used
  firing_uses_each_row_once =
      let g = w.first.gives in
      let s = sweeps_fresh w.swept in
      let rows = card_rows book.kinds w.rule.body w.first.choice in
      let more = rows_of_sweeps w.swept in
      let body : Marked no_marks rows w.known.gone = λ n. ap (λ (m : Marks). m n) g.gone in (
        (fresh_append no_marks w.known.gone rows more (g.fits.apart, g.fits.unused) body s.0).0,
        marked_append no_marks w.known.gone w.work.used rows more body s.1,
      )

  -- "Made facts are listed: the rule's head atoms in order, then each taken choice's head atoms, sweep by sweep."
  pub firing_makes_in_order : w.work.made ≡ head_facts w.known.bindings w.rule.heads ++ facts_of_sweeps w.swept
  firing_makes_in_order = sweeps_make w.swept

-- the first rule with a fitting choice would overfill the board
pub record FullIs (book : Book) (board : Board) : Type 0 where
  pub would : FirstRule book.kinds board book.rules
  pub work : Work
  pub swept : RuleDone book.kinds board would.rule would.known work
  pub no_room : has_room (board_after book.kinds board work) ≡ false

module _ (book : Book) (good : GoodBook book) (board : Board) where
  pub swept_by : (w : FirstRule book.kinds board book.rules) → RuleDone book.kinds board w.rule w.known (work_by book.kinds board w)
  swept_by w =
      let rule = w.rule in
      let r = all-at (GoodRule book.kinds) book.rules w.place good.rules w.listed in
      sweeps-done book.kinds board w.known.bindings rule.body w.first.gives.binds rule.sweeps r.sweeps (body_work rule w.known)

  -- the first rule that fits makes a step that Meld allows, whether or not the board has room
  pub meld_by : (w : FirstRule book.kinds board book.rules)
      → MeldStep book board w.rule (work_by book.kinds board w) (board_after book.kinds board (work_by book.kinds board w))
  meld_by w =
      let work = work_by book.kinds board w in
      let Γ' = of_class book.kinds false work.made in
      let Δ' = of_class book.kinds true work.made in
      let left = unused_rows 0 work.used board.cards in
      let applied = rule_applied book.kinds board w.rule w.first.choice w.known work w.first.is_choice w.first.gives (swept_by w) in
      record {
        Γ' = Γ';
        Δ' = Δ';
        Ξ = used_rows 0 work.used board.cards;
        notices_made = refl;
        cards_made = refl;
        cards_used = refl;
        applied = applied;
        stepped = rule_app (Memᴰ.map (rule_form book.kinds) (at_in book.rules w.place w.listed)) applied;
        cards = refl;
        notices = refl;
        card_counts = λ f. omega (arith, count_append f left Δ', (unused_and_used 0 work.used board.cards).counts f);
        notice_counts = λ f. sym (count_append f board.notices Γ');
      }

  firing_by : {number : ℕ} {board' : Board} (w : FirstRule book.kinds board book.rules)
      → settle book.kinds board (0 + w.place) (work_by book.kinds board w) ≡ fired number board' → FiringIs book board number board'
  firing_by {number} w h =
      let s = settle-fired book.kinds board (0 + w.place) (work_by book.kinds board w) h in
      let p : number ≡ w.place = s.0 ∙ zero-add w.place in
      record {
        rule = w.rule;
        listed = rw p w.listed;
        none_earlier = λ j earlier l. w.none_earlier j earlier (omega arith);
        known = w.known;
        first = w.first;
        work = work_by book.kinds board w;
        swept = swept_by w;
        after = s.1;
        room = s.2;
        meld = rw s.1 (meld_by w);
      }

  -- "Among possible firings it takes the first rule's first fit in document 01's order", and each "is one that Meld 2.0 Semantics allows".
  pub firing_is : {number : ℕ} {board' : Board} → fire book board ≡ fired number board' → FiringIs book board number board'
  unfolding fire
  firing_is {number} {board'} h =
      ⊎_elim (λ w. let k : quiet ≡ fired number board' = sym w.1 ∙ h in let z : ◌≡◌ {A = ℕ} 0 1 = cc in absurd (omega arith))
      (λ w. firing_by w.0 (sym w.1 ∙ h)) (look book.kinds board 0 book.rules good.rules)

  -- "If that exceeds 256 cards or 128 notices, the run ends with FULL and the firing hasn't happened; later rules aren't tried."
  pub full_is : fire book board ≡ full → FullIs book board
  unfolding fire
  full_is h =
      ⊎_elim (λ w. let k : quiet ≡ full = sym w.1 ∙ h in let z : ◌≡◌ {A = ℕ} 0 1 = cc in absurd (omega arith))
      (λ w. record {
        would = w.0;
        work = work_by book.kinds board w.0;
        swept = swept_by w.0;
        no_room = settle_full book.kinds board (0 + w.0.place) (work_by book.kinds board w.0) (sym w.1 ∙ h);
      })
      (look book.kinds board 0 book.rules good.rules)

  -- "QUIET if no rule fits": a firing is quiet exactly if "no choice of rows fits any rule".
  pub quiet_exactly_if_none_fits : (fire book board ≡ quiet) ↔ All (NoneFits book.kinds board) book.rules
  unfolding fire
  quiet_exactly_if_none_fits =
      let l = look book.kinds board 0 book.rules good.rules in (
        (λ h. ⊎_elim (λ w. w.0) (λ w. absurd (settle_not_quiet book.kinds board (0 + w.0.place) _ (sym w.1 ∙ h))) l),
        λ h. ⊎_elim (λ w. w.1) (λ w. absurd (first_rule_fits book.kinds board book.rules w.0 h)) l,
      )
