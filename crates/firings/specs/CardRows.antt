-- Laws of the card rows of a choice: which rows are fresh, which are marked, which are gone after a choice, and whether it has any. By induction on
-- the rows, each taken or not by its atom's class.
use Rattle.std.specs.Prelude.{◌≡◌, refl, ◌↔◌, ℕ, Bool, true, false, ◌||◌, List, [], ◌∷◌, ◌++◌, eqb, if◌then◌else◌}
use Rattle.std.proofs.Common.{sym, ap, ◌∙◌, inl, inr, ⊎_elim, true≢false, eq-eqb, ne_eqb}
use Rattle.std.proofs.Math.Path.{fun_ext}
use Rattle.std.proofs.Math.Bool.{or_assoc, or-false}
use mathlib.Core.List.Memᴰ
use Rattle.std.proofs.lemmas.Bool.{not-true}
use Rattle.meaning.specs.Basics.{mem, In}
use Rattle.meaning.specs.Facts.{Kind, is_card}
use Rattle.meaning.specs.Rules.{Atom, Values}
use Rattle.meaning.specs.Fit.{Row, Choice, Marks, mark, free, take_row, card_rows, Apart, Unused, AtomsEqual}
use Rattle.meaning.specs.WellFormed.{HasCard}
pub use Rattle.promises.specs.Promises.{AllNotices}
use Rattle.firings.specs.Basics.{cases, neither, in_mem, mem_append}

-- ---- fresh rows

-- "no two card atoms have one row", and none of the rows is gone
abbrev pub Fresh : Marks → List ℕ → Type 0
Fresh gone rows = Apart rows × Unused gone rows

fresh_cons : (gone : Marks) (n : ℕ) (rows : List ℕ) → ((gone n ≡ false) × Fresh (mark n gone) rows) ↔ Fresh gone (n ∷ rows)
fresh_cons gone n rows = (
  (λ h. (
    ((λ m. true≢false (sym (eq-eqb n n refl) ∙ (neither (gone n) (eqb n n) (h.1.1 n m)).1)), h.1.0),
    λ i m. ⊎_elim (λ e. ap gone e ∙ h.0) (λ k. (neither (gone i) (eqb i n) (h.1.1 i k)).0) (Memᴰ.cases_cons m),
  )),
  λ h. (
    h.1 n (Memᴰ.head refl),
    (h.0.1, λ i m. rw (h.1 i (Memᴰ.tail m)) (ne_eqb i n (λ e. h.0.0 (Memᴰ.cast (sym e) m)))),
  ),
)

-- a card row must be free and is then taken; a notice row is neither
pub fresh_row : (card : Bool) (gone : Marks) (n : ℕ) (rows : List ℕ)
    → ((free card gone n ≡ true) × Fresh (take_row card n gone) rows) ↔ Fresh gone (if card then n ∷ rows else rows)
fresh_row true gone n rows =
    let w = fresh_cons gone n rows in
    ((λ h. w.0 (not-true (gone n) h.0, h.1)), λ h. let k = w.1 h in (rw k.0, k.1))
fresh_row false gone n rows = ((λ h. h.1), λ h. (refl, h))

-- ---- marked rows

apart_append : (l m : List ℕ) → Apart l → Apart m → ((n : ℕ) → In n l → In n m → ⊥) → Apart (l ++ m)
apart_append [] m p q h = q
apart_append (x ∷ l) m p q h = (
  (λ k. ⊎_elim p.0 (h x (Memᴰ.head refl)) (Memᴰ.append_cases l k)),
  apart_append l m p.1 q (λ n i. h n (Memᴰ.tail i)),
)

-- `next` are the marks, and those rows
abbrev pub Marked : Marks → List ℕ → Marks → Type 0
Marked used rows next = (n : ℕ) → next n ≡ (used n || mem n rows)

pub marked_append : (used next last : Marks) (l m : List ℕ) → Marked used l next → Marked next m last → Marked used (l ++ m) last
marked_append used next last l m p q n = rw (q n, p n, mem_append n l m) (or_assoc (used n) (mem n l) (mem n m))

-- fresh rows, and then rows that are fresh once those are marked
pub fresh_append : (used next : Marks) (l m : List ℕ) → Fresh used l → Marked used l next → Fresh next m → Fresh used (l ++ m)
fresh_append used next l m p e q =
    let z : (n : ℕ) → In n m → (used n ≡ false) × (mem n l ≡ false) = λ n i. neither (used n) (mem n l) (sym (e n) ∙ q.1 n i) in (
      apart_append l m p.0 q.0 (λ n i j. true≢false (sym (in_mem i) ∙ (z n j).1)),
      λ n i. ⊎_elim (p.1 n) (λ j. (z n j).0) (Memᴰ.append_cases l i),
    )

-- ---- the rows of a choice

-- gone after a choice: what was gone, and the rows of its card atoms
abbrev pub gone_after : List Kind → List Atom → Choice → Marks → Marks
gone_after kinds atoms rows gone = λ n. gone n || mem n (card_rows kinds atoms rows)

pub gone_nil : (kinds : List Kind) (gone : Marks) → gone_after kinds [] [] gone ≡ gone
gone_nil kinds gone = fun_ext λ n. or-false (gone n)

pub gone_cons : (kinds : List Kind) (a : Atom) (atoms : List Atom) (r : Row) (rows : Choice) (gone : Marks)
    → gone_after kinds atoms rows (take_row (is_card kinds a.kind) r.at gone) ≡ gone_after kinds (a ∷ atoms) (r ∷ rows) gone
gone_cons kinds a atoms r rows gone =
    fun_ext λ n. cases (is_card kinds a.kind) (λ y. rw y (or_assoc (gone n) (eqb n r.at) (mem n (card_rows kinds atoms rows)))) (λ y. rw y)

-- a body with a card atom has a card row, and one without has none
pub card-row : (kinds : List Kind) (values : Values) (atoms : List Atom) (rows : Choice) → HasCard kinds atoms → AtomsEqual values atoms rows
    → (n : ℕ) × In n (card_rows kinds atoms rows)
card-row kinds values [] rows h q = absurd h
card-row kinds values (a ∷ atoms) [] h q = absurd q
card-row kinds values (a ∷ atoms) (r ∷ rows) (inl h) q = (r.at, rw h (Memᴰ.head refl))
card-row kinds values (a ∷ atoms) (r ∷ rows) (inr h) q =
    let w = card-row kinds values atoms rows h q.1 in
    (w.0, cases (is_card kinds a.kind) (λ y. rw y (Memᴰ.tail w.1)) (λ y. rw y w.1))

pub no_card_row : (kinds : List Kind) (atoms : List Atom) (rows : Choice) → AllNotices kinds atoms → card_rows kinds atoms rows ≡ []
no_card_row kinds [] rows h = refl
no_card_row kinds (a ∷ atoms) [] h = refl
no_card_row kinds (a ∷ atoms) (r ∷ rows) h = rw h.0 (no_card_row kinds atoms rows h.1)
