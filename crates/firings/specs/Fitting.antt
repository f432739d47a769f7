-- `fit`, the program, answers exactly where the choice fits in document 01's words (`Fits`), and the values that it finds are the only ones. The words
-- speak of all rows at once and the program goes atom by atom: `fits_split` says that both mean the same.
use Rattle.std.specs.Prelude.{◌≡◌, refl, ◌↔◌, ℕ, true, ◌||◌, List, [], ◌∷◌}
use Rattle.std.proofs.Common.{sym, ap, ◌∙◌}
use Rattle.std.proofs.Math.Bool.{or-true}
use Rattle.std.proofs.Math.Option.{Option, none, some, none-ne-some}
use mathlib.Core.List.Memᴰ
use Rattle.meaning.specs.Facts.{Kind, Fact, is_card}
use Rattle.meaning.specs.Rules.{Atom, Test, Values, occurs_in}
use Rattle.meaning.specs.Fit.{Choice, Marks, values_of, Known, take_row, fit}
use Rattle.meaning.specs.Fit.{HasKinds, card_rows, AtomsEqual, TestsHold, Under, Fits}
use Rattle.firings.specs.CardRows.{Fresh, fresh_row, gone_after}
use Rattle.firings.specs.Answers.{is_bound, under_own, under_bound, answered, answer_is, BoundTests, FitsBy, fit_answers}

-- ---- all at once, and row by row

fits_split : (kinds : List Kind) (tests : List Test) (values : Values) (atoms : List Atom) (rows : Choice) (gone : Marks)
    → FitsBy kinds tests atoms rows gone values ↔ (Fresh gone (card_rows kinds atoms rows) × AtomsEqual values atoms rows × TestsHold values tests)
fits_split kinds tests values [] [] gone = ((λ h. ((tt, λ n m. absurd (Memᴰ.not-nil m)), tt, h)), λ h. h.2)
fits_split kinds tests values [] (r ∷ rows) gone = ((λ h. absurd h), λ h. h.1)
fits_split kinds tests values (a ∷ atoms) [] gone = ((λ h. absurd h), λ h. h.1)
fits_split kinds tests values (a ∷ atoms) (r ∷ rows) gone =
    let w = fits_split kinds tests values atoms rows (take_row (is_card kinds a.kind) r.at gone) in
    let z = fresh_row (is_card kinds a.kind) gone r.at (card_rows kinds atoms rows) in (
      (λ h. let k = w.0 h.1 in (z.0 (h.0.0, k.0), (h.0.1, k.1), k.2)),
      λ h. let k = z.1 h.0 in ((k.0, h.1.0), w.1 (k.1, h.1.1, h.2)),
    )

-- an atom that equals its row has its kind
equal_kinds : (values : Values) (atoms : List Atom) (rows : Choice) → AtomsEqual values atoms rows → HasKinds atoms rows
equal_kinds values [] rows h = tt
equal_kinds values (a ∷ atoms) [] h = h
equal_kinds values (a ∷ atoms) (r ∷ rows) h = (sym (ap (λ (f : Fact). f.kind) h.0), equal_kinds values atoms rows h.1)

-- ---- the program and the words

-- What an answer of `fit` gives: the choice fits, and the values found are such values; bound is what was bound or occurs in the atoms; gone is what
-- was gone or is a row of a card atom; and whatever values make the choice fit, they are those found.
pub record FitGives (kinds : List Kind) (atoms : List Atom) (tests : List Test) (rows : Choice) (known k : Known) : Type 0 where
  pub fits : Fits kinds atoms tests rows known.bindings known.gone
  pub under : Under known.bindings (values_of k.bindings)
  pub equal : AtomsEqual (values_of k.bindings) atoms rows
  pub tested : TestsHold (values_of k.bindings) tests
  pub binds : (x : ℕ) → is_bound k.bindings x ≡ (is_bound known.bindings x || occurs_in x atoms)
  pub gone : k.gone ≡ gone_after kinds atoms rows known.gone
  pub only : (w : Fits kinds atoms tests rows known.bindings known.gone) → Under k.bindings w.values

module _ (kinds : List Kind) (atoms : List Atom) (tests : List Test) (rows : Choice) (known : Known) where
  pub by_fits : (w : Fits kinds atoms tests rows known.bindings known.gone) → FitsBy kinds tests atoms rows known.gone w.values
  by_fits w = (fits_split kinds tests w.values atoms rows known.gone).1 ((w.apart, w.unused), w.equal, w.tested)

  pub fits_by : (values : Values) → Under known.bindings values → FitsBy kinds tests atoms rows known.gone values
      → Fits kinds atoms tests rows known.bindings known.gone
  fits_by values u h =
      let w = (fits_split kinds tests values atoms rows known.gone).0 h in
      let kinds' = equal_kinds values atoms rows w.1 in
      record { of_kind = kinds'; apart = w.0.0; unused = w.0.1; values = values; under = u; equal = w.1; tested = w.2 }

  module _ (bound : BoundTests known.bindings atoms tests) where
    pub fit_gives : {k : Known} → fit kinds atoms tests rows known ≡ some k → FitGives kinds atoms tests rows known k
    fit_gives {k} e =
        let values = values_of k.bindings in
        let w = answer_is (rw e at (fit_answers kinds tests atoms rows known bound)) in
        let own = (w.1.exactly values).0 (under_own k.bindings) in
        let f = (fits_split kinds tests values atoms rows known.gone).0 own.1 in
        record {
          fits = fits_by values own.0 own.1;
          under = own.0;
          equal = f.1;
          tested = f.2;
          binds = w.1.binds;
          gone = w.0;
          only = λ v. (w.1.exactly v.values).1 (v.under, by_fits v);
        }

    -- "It fits if each row has its atom's kind, no two card atoms have one row, some values of the variables make every atom equal its row, and the
    -- tests hold": exactly then `fit` has an answer.
    pub fit_exactly_if_fits : ((k : Known) × (fit kinds atoms tests rows known ≡ some k)) ↔ Fits kinds atoms tests rows known.bindings known.gone
    fit_exactly_if_fits = (
      (λ p. (fit_gives p.1).fits),
      λ w. answered (fit_answers kinds tests atoms rows known bound) w.values w.under (by_fits w),
    )

    -- `fit` answers none exactly if the choice does not fit.
    pub none_exactly_if_not_fits : (fit kinds atoms tests rows known ≡ none) ↔ (Fits kinds atoms tests rows known.bindings known.gone → ⊥)
    none_exactly_if_not_fits = (
      (λ e w. let k = fit_exactly_if_fits.1 w in none-ne-some k.0 (sym e ∙ k.1)),
      λ h. go h (fit kinds atoms tests rows known) refl,
    )
      where
        go : (Fits kinds atoms tests rows known.bindings known.gone → ⊥) → (o : Option Known) → fit kinds atoms tests rows known ≡ o → o ≡ none
        go h none e = refl
        go h (some k) e = absurd (h (fit_exactly_if_fits.0 (k, e)))

    -- "some values of the variables": those found are the only ones, for each variable of the atoms.
    pub found_values_only : {k : Known} → fit kinds atoms tests rows known ≡ some k → (w : Fits kinds atoms tests rows known.bindings known.gone)
        → (x : ℕ) → occurs_in x atoms ≡ true → w.values x ≡ values_of k.bindings x
    found_values_only {k} e w x o =
        let g = fit_gives e in
        under_bound k.bindings w.values (g.only w) x (g.binds x ∙ rw o (or-true (is_bound known.bindings x)))
