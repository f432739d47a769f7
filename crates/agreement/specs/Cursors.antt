-- Which cursors hold what. At a body's words the card rows that are gone are those used, or held by the cursors of the atoms before; the
-- cursors behind hold only used rows.
use Rattle.std.specs.Prelude.{◌≡◌, refl, ℕ, zero, suc, ◌≤◌, ◌<◌, Bool, true, false, ◌||◌, List, ◌≢◌, eqb, leb, ltb}
use Rattle.std.proofs.Common.{sym, ◌∙◌, arith, eqb-true, ne_eqb, eq-eqb, leb-true, leb-false, ltb-true, ltb-false}
use Rattle.std.proofs.Math.Bool.{or-true, or-false, or_comm}
use Rattle.std.proofs.lemmas.Bool.{false≢true, eqb-false}
use Rattle.meaning.specs.Basics.{change}
use Rattle.meaning.specs.Rules.{Values}
use Rattle.meaning.specs.Fit.{Marks, Bindings, Known, take_row}
use Rattle.meaning.specs.Words.{Cursor, on, Cursors, cursor_count, holds_row, held_by}
use Rattle.agreement.specs.Tools.{cases}
use Rattle.agreement.specs.Registers.{Loaded}

-- ---- one changed place

pub change_same {ℓ} : {X : Type ℓ} (f : ℕ → X) (place : ℕ) (x : X) → change f place x place ≡ x
change_same f place x = rw (eq-eqb place place refl)

pub change-other {ℓ} : {X : Type ℓ} (f : ℕ → X) (place : ℕ) (x : X) (i : ℕ) → i ≢ place → change f place x i ≡ f i
change-other f place x i h = rw (ne_eqb i place h)

-- ---- cursors

-- the cursors below c are as before
abbrev pub Same : ℕ → Cursors → Cursors → Type 0
Same c cursors cursors' = (i : ℕ) → i < c → cursors' i ≡ cursors i

-- the cursors from c on hold only used rows
abbrev pub Idle : ℕ → Marks → Cursors → Type 0
Idle c used cursors = (i row : ℕ) → c ≤ i → i < cursor_count → holds_row (cursors i) row ≡ true → used row ≡ true

pub same_change : (c : ℕ) (cursors : Cursors) (v : Cursor) → Same c cursors (change cursors c v)
same_change c cursors v i h = change-other cursors c v i (omega arith)

idle_change : (c d : ℕ) (used : Marks) (cursors : Cursors) (v : Cursor) → d ≤ suc c → Idle d used cursors → Idle (suc c) used (change cursors c v)
idle_change c d used cursors v h idle i row l k y = idle i row (omega arith) k (rw (change-other cursors c v i (omega arith)) at y)

held_same : (n : ℕ) (cursors cursors' : Cursors) → Same n cursors cursors' → (row : ℕ) → held_by n cursors' row ≡ held_by n cursors row
unfolding held_by
held_same zero cursors cursors' same row = refl
held_same (suc n) cursors cursors' same row = rw (same n (omega arith), held_same n cursors cursors' (λ i h. same i (omega arith)) row)

holds-held : (n : ℕ) (cursors : Cursors) (i row : ℕ) → i < n → holds_row (cursors i) row ≡ true → held_by n cursors row ≡ true
unfolding held_by
holds-held zero cursors i row l h = absurd (omega arith)
holds-held (suc n) cursors i row l h =
    cases (eqb i n)
    (λ y. rw (← (eqb-true i n y), h))
    (λ y. let ne : i ≢ n = eqb-false i n y in rw (holds-held n cursors i row (omega arith) h) (or-true (holds_row (cursors n) row)))

-- what all cursors hold is what those below c hold, but for used rows
held_idle : (c n : ℕ) (used : Marks) (cursors : Cursors) → Idle c used cursors → c ≤ n → n ≤ cursor_count → (row : ℕ)
    → (used row || held_by n cursors row) ≡ (used row || held_by c cursors row)
unfolding held_by
held_idle c zero used cursors idle l k row = let e : c ≡ 0 = omega arith in rw e
held_idle c (suc n) used cursors idle l k row =
    cases (leb c n)
    (λ y. let z : c ≤ n = leb-true c n y in
    cases (holds_row (cursors n) row)
    (λ h. rw (idle n row z (omega arith) h))
    (λ h. rw h (held_idle c n used cursors idle z (omega arith) row)))
    (λ y. let z : n < c = leb-false c n y in let e : c ≡ suc n = omega arith in rw e)

-- a cursor put on a row holds it, if a card
held_more : (class : Bool) (n : ℕ) (gone : Marks) (row : ℕ) (used below : Bool) → (used || below) ≡ gone row
    → (used || (holds_row (on class n) row || below)) ≡ take_row class n gone row
held_more false n gone row used below e = e
held_more true n gone row true below e = rw (← e)
held_more true n gone row false below e = rw (← e) (or_comm (eqb row n) below)

-- ---- the state at a body's words

-- The registers are loaded; what is gone is what is used or held by the cursors below c, which stand as they did; the cursors from d on hold
-- only used rows.
pub record Ready (c d : ℕ) (before : Cursors) (bound : List ℕ) (known : Known) (values : Values) (cursors : Cursors) (used : Marks) : Type 0 where
  pub loaded : Loaded known.bindings bound values
  pub holding : (row : ℕ) → (used row || held_by c cursors row) ≡ known.gone row
  pub same : Same c before cursors
  pub idle : Idle d used cursors

module _ {c : ℕ} {before : Cursors} {bound : List ℕ} {known : Known} {values : Values} {cursors : Cursors} {used : Marks} where
  -- other registers and cursors, and the cursors below c where they were
  pub ready_back : {d d' : ℕ} → Ready c d before bound known values cursors used → {values' : Values} {cursors' : Cursors}
      → Loaded known.bindings bound values' → Same c cursors cursors' → Idle d' used cursors' → Ready c d' before bound known values' cursors' used
  ready_back r l same idle = record {
    loaded = l;
    holding = λ row. rw (held_same c cursors _ same row) (r.holding row);
    same = λ i h. same i h ∙ r.same i h;
    idle = idle;
  }

  -- cursor c moves
  pub ready_move : {d : ℕ} → d ≤ suc c → Ready c d before bound known values cursors used → (v : Cursor) {values' : Values}
      → Loaded known.bindings bound values' → Ready c (suc c) before bound known values' (change cursors c v) used
  ready_move h r v l = ready_back r l (same_change c cursors v) (idle_change c _ used cursors v h r.idle)

  -- cursor c lets go
  pub ready_off : Ready c (suc c) before bound known values cursors used → (v : Cursor) → ((row : ℕ) → holds_row v row ≡ false)
      → Ready c c before bound known values (change cursors c v) used
  ready_off r v off = ready_back r r.loaded (same_change c cursors v) (λ i row l k. cases (eqb i c)
      (λ y. rw (y, off row) (λ h. absurd (false≢true h)))
      (λ y. let ne : i ≢ c = eqb-false i c y in rw y (r.idle i row (omega arith) k)))

  -- cursor c stands on row n, which the atom takes
  pub ready_row : Ready c (suc c) before bound known values cursors used → (class : Bool) (n : ℕ) {bindings : Bindings} {bound' : List ℕ} {values' : Values}
      → Loaded bindings bound' values' → let cursors' : Cursors = change cursors c (on class n) in
      Ready (suc c) (suc c) cursors' bound' (record { bindings = bindings; gone = take_row class n known.gone }) values' cursors' used
  unfolding held_by
  ready_row r class n l = record {
    loaded = l;
    holding = λ row.
        rw (change_same cursors c (on class n), held_same c cursors (change cursors c (on class n)) (same_change c cursors (on class n)) row)
        (held_more class n known.gone row (used row) (held_by c cursors row) (r.holding row));
    same = λ i h. refl;
    idle = idle_change c (suc c) used cursors (on class n) (omega arith) r.idle;
  }

  -- behind the last atom
  pub ready_all : Ready c c before bound known values cursors used → c ≤ cursor_count → Ready cursor_count cursor_count cursors bound known values cursors used
  ready_all r h = record {
    loaded = r.loaded;
    holding = λ row. held_idle c cursor_count used cursors r.idle h (omega arith) row ∙ r.holding row;
    same = λ i h. refl;
    idle = λ i row l k. absurd (omega arith);
  }

  -- no cursor holds a row that is not gone
  pub ready_idle : Ready c c before bound known values cursors used → Idle 0 known.gone cursors
  ready_idle r i row l k h =
      cases (ltb i c)
      (λ y. sym (r.holding row) ∙ rw (holds-held c cursors i row (ltb-true i c y) h) (or-true (used row)))
      (λ y. sym (r.holding row) ∙ rw (r.idle i row (ltb-false i c y) k h))

-- where cursors hold only used rows, what is gone is what is used
pub idle_ready : (c d : ℕ) {before : Cursors} {bindings : Bindings} {bound : List ℕ} {values : Values} {cursors : Cursors} {used : Marks}
    → c ≤ cursor_count → Loaded bindings bound values → Same c before cursors → Idle 0 used cursors
    → Ready c d before bound (record { bindings = bindings; gone = used }) values cursors used
unfolding held_by
idle_ready c d {cursors} {used} h l same idle = record {
  loaded = l;
  holding = λ row. held_idle 0 c used cursors idle (omega arith) h row ∙ or-false (used row);
  same = same;
  idle = λ i row _. idle i row (omega arith);
}
