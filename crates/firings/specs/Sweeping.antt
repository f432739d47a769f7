-- A sweep, choice by choice: `Sweeping` says in document 01's words that it goes once through all its choices, in order, and takes each that fits with
-- card rows unused so far; the program does so. Each law is an induction on `Sweeping`.
use Rattle.std.specs.Prelude.{◌≡◌, ◌↔◌, ℕ, false}
use Rattle.std.proofs.Math.Path.{refl}
use Rattle.std.proofs.Common.{sym, ap, ◌∙◌, subst, ⊎_elim, true≢false}
use Rattle.std.proofs.Math.Bool.{or-false}
use Rattle.std.proofs.Math.Option.{Option, none, some}
use mathlib.Core.List.{List, [], ◌∷◌, ◌++◌, append_assoc, append-nil}
use mathlib.Core.List.Memᴰ
use Rattle.meaning.specs.Basics.{fold, mem, In}
use Rattle.meaning.specs.Facts.{Kind}
use Rattle.meaning.specs.Rules.{Sweep}
use Rattle.meaning.specs.Fit.{Choice, Marks, Bindings, Known, card_rows, Unused, Fits, fit}
use Rattle.meaning.specs.Firing.{Work, head_facts, taken, take_if_fits}
use Rattle.meaning.specs.WellFormed.{HasCard}
pub use Rattle.promises.specs.Promises.{Taken, choices_of, rows_used, facts_made}
use Rattle.firings.specs.Basics.{neither, in_mem}
use Rattle.firings.specs.CardRows.{Fresh, Marked, marked_append, fresh_append, AllNotices, card-row, no_card_row}
use Rattle.firings.specs.Answers.{BoundTests}
use Rattle.firings.specs.Fitting.{FitGives, fit_gives, none_exactly_if_not_fits}
use Rattle.firings.specs.Choosing.{Ascending}

-- ---- choice by choice

module _ (kinds : List Kind) (sweep : Sweep) (bindings : Bindings) where
  abbrev now : Work → Known
  now work = record { bindings = bindings; gone = work.used }

  -- the choice fits "under the body's values", "with card rows unused so far"
  abbrev pub FitsNow : Marks → Choice → Type 0
  FitsNow used c = Fits kinds sweep.body sweep.tests c bindings used

  -- what is found for a choice that fits so
  abbrev pub GivesNow : Work → Choice → Known → Type 0
  GivesNow work c k = FitGives kinds sweep.body sweep.tests c (now work) k

  -- From the work through the choices, with those taken in order, to the work at last: a choice that does not fit is passed over, and one that fits
  -- is taken, with the values that make it fit.
  pub data Sweeping : Work → List Choice → List Taken → Work → Type 0 where
    over : {work : Work} → Sweeping work [] [] work
    passes : {work last : Work} {c : Choice} {cs : List Choice} {ts : List Taken}
        → (FitsNow work.used c → ⊥) → Sweeping work cs ts last
        → Sweeping work (c ∷ cs) ts last
    takes : {work last : Work} {c : Choice} {k : Known} {cs : List Choice} {ts : List Taken}
        → GivesNow work c k → Sweeping (taken sweep.heads work (some k)) cs ts last
        → Sweeping work (c ∷ cs) (record { choice = c; bindings = k.bindings } ∷ ts) last

  abbrev rows : Choice → List ℕ
  rows c = card_rows kinds sweep.body c

  abbrev all_rows : List Taken → List ℕ
  all_rows ts = rows_used kinds sweep.body ts

  -- used afterwards: what was used before, and the rows of the taken choices
  pub used-after : {work last : Work} {cs : List Choice} {ts : List Taken} → Sweeping work cs ts last → Marked work.used (all_rows ts) last.used
  used-after {work} over = λ n. sym (or-false (work.used n))
  used-after (passes x l) = used-after l
  used-after {work} {last} (takes {c = c} {k = k} {ts = ts} g l) =
      marked_append work.used k.gone last.used (rows c) (all_rows ts) (λ n. ap (λ (m : Marks). m n) g.gone) (used-after l)

  -- no card row is used twice, nor one that was used before
  pub rows_fresh : {work last : Work} {cs : List Choice} {ts : List Taken} → Sweeping work cs ts last → Fresh work.used (all_rows ts)
  rows_fresh over = (tt, λ n m. absurd (Memᴰ.not-nil m))
  rows_fresh (passes x l) = rows_fresh l
  rows_fresh {work} (takes {c = c} {k = k} {ts = ts} g l) =
      fresh_append work.used k.gone (rows c) (all_rows ts) (g.fits.apart, g.fits.unused) (λ n. ap (λ (m : Marks). m n) g.gone) (rows_fresh l)

  -- the made facts: each taken choice's head atoms, in order
  pub made_in_order : {work last : Work} {cs : List Choice} {ts : List Taken} → Sweeping work cs ts last
      → last.made ≡ work.made ++ facts_made sweep.heads ts
  made_in_order {work} over = sym (append-nil work.made)
  made_in_order (passes x l) = made_in_order l
  made_in_order {work} (takes {k = k} {ts = ts} g l) =
      made_in_order l ∙ append_assoc work.made (head_facts k.bindings sweep.heads) (facts_made sweep.heads ts)

  -- the taken ones are among the choices, in their order
  taken-listed : {work last : Work} {cs : List Choice} {ts : List Taken} → Sweeping work cs ts last → {c : Choice} → In c (choices_of ts) → In c cs
  taken-listed over m = m
  taken-listed (passes x l) m = Memᴰ.tail (taken-listed l m)
  taken-listed (takes g l) m = ⊎_elim (λ q. Memᴰ.head q) (λ i. Memᴰ.tail (taken-listed l i)) (Memᴰ.cases_cons m)

  pub taken_ascending : {work last : Work} {cs : List Choice} {ts : List Taken} → Sweeping work cs ts last → Ascending cs → Ascending (choices_of ts)
  taken_ascending over p = tt
  taken_ascending (passes x l) p = taken_ascending l p.1
  taken_ascending (takes g l) p = ((λ d m. p.0 d (taken-listed l m)), taken_ascending l p.1)

  fits_if_unused : {used used' : Marks} {c : Choice} → Unused used (rows c) → FitsNow used' c → FitsNow used c
  fits_if_unused u f =
      record { of_kind = f.of_kind; apart = f.apart; unused = u; values = f.values; under = f.under; equal = f.equal; tested = f.tested }

  -- with a card atom in the body, none still fits at last: one passed over did not fit even earlier, and of one taken a card row is used
  pub none_left : HasCard kinds sweep.body → {work last : Work} {cs : List Choice} {ts : List Taken} → Sweeping work cs ts last
      → {c : Choice} → In c cs → FitsNow last.used c → ⊥
  none_left card over m f = Memᴰ.not-nil m
  none_left card {work} (passes {ts = ts} x l) {c} m f =
      ⊎_elim (λ q. x (subst (FitsNow work.used) q early)) (λ i. none_left card l i f) (Memᴰ.cases_cons m)
    where
      early : FitsNow work.used c
      early = fits_if_unused (λ n i. (neither (work.used n) (mem n (all_rows ts)) (sym (used-after l n) ∙ f.unused n i)).0) f
  none_left card {work} {last} (takes {c = d} {k = k} g l) {c} m f =
      ⊎_elim (λ q. again (subst (FitsNow last.used) q f)) (λ i. none_left card l i f) (Memᴰ.cases_cons m)
    where
      again : FitsNow last.used d → ⊥
      again h =
          let r = card-row kinds h.values sweep.body d card h.equal in
          let z : k.gone r.0 ≡ false = (neither _ _ (sym (used-after l r.0) ∙ h.unused r.0 r.1)).0 in
          true≢false (sym (in_mem r.1) ∙ (neither (work.used r.0) _ (rw g.gone at z)).1)

  -- without one, exactly those that fit are taken
  pub notices-taken : AllNotices kinds sweep.body → {work last : Work} {cs : List Choice} {ts : List Taken} → Sweeping work cs ts last
      → (c : Choice) → (In c cs × FitsNow work.used c) ↔ In c (choices_of ts)
  notices-taken all over c = ((λ h. h.0), λ m. absurd (Memᴰ.not-nil m))
  notices-taken all {work} (passes x l) c =
      let w = notices-taken all l c in (
        (λ h. ⊎_elim (λ q. absurd (x (subst (FitsNow work.used) q h.1))) (λ m. w.0 (m, h.1)) (Memᴰ.cases_cons h.0)),
        λ m. let z = w.1 m in (Memᴰ.tail z.0, z.1),
      )
  notices-taken all {work} (takes g l) c =
      let w = notices-taken all l c in
      let any : (used : Marks) → Unused used (rows c) = rw (no_card_row kinds sweep.body c all) (λ used n m. absurd (Memᴰ.not-nil m)) in (
        (λ h. ⊎_elim (λ q. Memᴰ.head q) (λ m. Memᴰ.tail (w.0 (m, fits_if_unused (any _) h.1))) (Memᴰ.cases_cons h.0)),
        λ m. ⊎_elim (λ q. (Memᴰ.head q, subst (FitsNow work.used) (sym q) g.fits))
            (λ i. let z = w.1 i in (Memᴰ.tail z.0, fits_if_unused (any _) z.1)) (Memᴰ.cases_cons m),
      )

  module _ (bound : BoundTests bindings sweep.body sweep.tests) where
    -- the program does it
    pub sweeping : (cs : List Choice) (work : Work) → (ts : List Taken) × Sweeping work cs ts (fold (take_if_fits kinds sweep bindings) work cs)
    unfolding fold
    sweeping [] work = ([], over)
    sweeping (c ∷ cs) work = go _ (fit kinds sweep.body sweep.tests c (now work)) refl (sweeping cs (take_if_fits kinds sweep bindings work c))
      where
        go : (last : Work) (o : Option Known) → fit kinds sweep.body sweep.tests c (now work) ≡ o
            → (ts : List Taken) × Sweeping (taken sweep.heads work o) cs ts last → (ts : List Taken) × Sweeping work (c ∷ cs) ts last
        go last none e w = (w.0, passes ((none_exactly_if_not_fits kinds sweep.body sweep.tests c (now work) bound).0 e) w.1)
        go last (some k) e w =
            (record { choice = c; bindings = k.bindings } ∷ w.0, takes (fit_gives kinds sweep.body sweep.tests c (now work) bound e) w.1)
