-- `choices` lists exactly the choices of rows, each once, in document 01's order, and `first_fit` finds the first that fits. By induction on the atoms,
-- and inside on the rows of one atom.
use Rattle.std.specs.Prelude.{◌≡◌, ◌↔◌, ℕ, zero, suc, ◌+◌}
use Rattle.std.proofs.Math.Path.{refl, sym, ap}
use Rattle.std.proofs.Common.{◌∙◌, subst, subst₂, inl, inr, add-zero, zero-add, arith}
use Rattle.std.proofs.Math.Logic.{⊎_elim}
use Rattle.std.proofs.Math.Option.{Option, none, some, some-injective, none-ne-some}
use mathlib.Core.List.{List, [], ◌∷◌, ◌++◌, map, nil≢cons, cons≢nil, head-eq_of_cons-eq, tail-eq_of_cons-eq}
use mathlib.Core.List.Memᴰ
use Rattle.std.proofs.Math.ListN.{get_elem?}
use Rattle.meaning.specs.Basics.{or_else, first, In}
use Rattle.meaning.specs.Facts.{Kind, Fact, Board, is_card, rows_of}
use Rattle.meaning.specs.Rules.{Atom, Test}
use Rattle.meaning.specs.Fit.{Row, Choice, IsChoice, Fits, Before, Known, fit, numbered, spread, choices, first_fit}
pub use Rattle.promises.specs.Promises.{Ascending}
use Rattle.firings.specs.Basics.{at_in}
use Rattle.firings.specs.Answers.{BoundTests}
use Rattle.firings.specs.Fitting.{FitGives, fit_gives, none_exactly_if_not_fits}

-- ---- exactly the choices

numbered-at : (n : ℕ) (facts : List Fact) {r : Row} → In r (numbered n facts) → (i : ℕ) × (r.at ≡ n + i) × (get_elem? facts i ≡ some r.fact)
unfolding numbered
numbered-at n [] m = absurd (Memᴰ.not-nil m)
numbered-at n (f ∷ facts) m =
    ⊎_elim (λ e. (0, ap (λ (z : Row). z.at) e ∙ sym (add-zero n), ap (λ (z : Row). some z.fact) (sym e)))
    (λ k. let w = numbered-at (suc n) facts k in (suc w.0, omega (arith, w.1), w.2)) (Memᴰ.cases_cons m)

at-numbered : (n : ℕ) (facts : List Fact) (r : Row) (i : ℕ) → r.at ≡ n + i → get_elem? facts i ≡ some r.fact → In r (numbered n facts)
unfolding numbered
at-numbered n [] r i p e = absurd (none-ne-some r.fact e)
at-numbered n (f ∷ facts) r zero p e =
    let q : r.at ≡ n = p ∙ add-zero n in
    Memᴰ.head (λ j. record { at = q j; fact = some-injective r.fact f (sym e) j })
at-numbered n (f ∷ facts) r (suc i) p e = Memᴰ.tail (at-numbered (suc n) facts r i (omega (arith, p)) e)

spread-from : (rows : List Row) (cs : List Choice) {c : Choice} → In c (spread rows cs) → (r : Row) × (d : Choice) × In r rows × In d cs × (c ≡ r ∷ d)
unfolding spread
spread-from [] cs m = absurd (Memᴰ.not-nil m)
spread-from (r ∷ rows) cs m =
    ⊎_elim (λ k. let w = Memᴰ.of_map (λ d. r ∷ d) cs k in (r, w.0, Memᴰ.head refl, w.1, sym w.2))
    (λ k. let w = spread-from rows cs k in (w.0, w.1, Memᴰ.tail w.2, w.3, w.4)) (Memᴰ.append_cases (map (λ d. r ∷ d) cs) m)

in_spread : (cs : List Choice) {r : Row} {c : Choice} (rows : List Row) → In r rows → In c cs → In (r ∷ c) (spread rows cs)
unfolding spread
in_spread cs [] m k = absurd (Memᴰ.not-nil m)
in_spread cs {c = c} (x ∷ rows) m k =
    ⊎_elim (λ e. Memᴰ.cast (ap (λ (z : Row). z ∷ c) e) (Memᴰ.append_left (spread rows cs) (Memᴰ.map (λ d. x ∷ d) k)))
    (λ l. Memᴰ.append_right (map (λ d. x ∷ d) cs) (in_spread cs rows l k)) (Memᴰ.cases_cons m)

-- "A choice gives each body atom a row of its class": `choices` lists exactly these.
pub choices_exactly : (kinds : List Kind) (board : Board) (atoms : List Atom) (c : Choice)
    → In c (choices kinds board atoms) ↔ IsChoice kinds board atoms c
unfolding choices
choices_exactly kinds board [] [] = ((λ m. tt), λ h. Memᴰ.head refl)
choices_exactly kinds board [] (r ∷ c) = ((λ m. absurd (cons≢nil (Memᴰ.eq_of_singleton m))), λ h. absurd h)
choices_exactly kinds board (a ∷ atoms) [] = ((λ m. absurd (nil≢cons (spread-from _ _ m).4)), λ h. absurd h)
choices_exactly kinds board (a ∷ atoms) (r ∷ c) =
    let facts = rows_of board (is_card kinds a.kind) in
    let w = choices_exactly kinds board atoms c in (
      (λ m. let k = spread-from (numbered 0 facts) (choices kinds board atoms) m in
          let e = tail-eq_of_cons-eq k.4 in
          let z = numbered-at 0 facts (Memᴰ.cast (head-eq_of_cons-eq k.4) k.2) in
          (ap (get_elem? facts) (z.1 ∙ zero-add z.0) ∙ z.2, w.0 (Memᴰ.cast e k.3))),
      λ h. in_spread (choices kinds board atoms) (numbered 0 facts) (at-numbered 0 facts r r.at (sym (zero-add r.at)) h.0) (w.1 h.1),
    )

-- ---- in order, each once

before_asymmetric : (c d : Choice) → Before c d → Before d c → ⊥
before_asymmetric [] d h k = h
before_asymmetric (r ∷ c) [] h k = h
before_asymmetric (r ∷ c) (s ∷ d) (inl h) (inl k) = omega arith
before_asymmetric (r ∷ c) (s ∷ d) (inl h) (inr k) = omega (arith, k.0)
before_asymmetric (r ∷ c) (s ∷ d) (inr h) (inl k) = omega (arith, h.0)
before_asymmetric (r ∷ c) (s ∷ d) (inr h) (inr k) = before_asymmetric c d h.1 k.1

before_self : (c : Choice) → Before c c → ⊥
before_self c h = before_asymmetric c c h h

ascending_append : (cs ds : List Choice) → Ascending cs → Ascending ds → ((c d : Choice) → In c cs → In d ds → Before c d) → Ascending (cs ++ ds)
ascending_append [] ds p q h = q
ascending_append (c ∷ cs) ds p q h = (
  (λ d m. ⊎_elim (p.0 d) (h c d (Memᴰ.head refl)) (Memᴰ.append_cases cs m)),
  ascending_append cs ds p.1 q (λ b d m k. h b d (Memᴰ.tail m) k),
)

ascending_map : (r : Row) (cs : List Choice) → Ascending cs → Ascending (map (λ c. r ∷ c) cs)
ascending_map r [] p = tt
ascending_map r (c ∷ cs) p = (
  (λ d m. let w = Memᴰ.of_map (λ e. r ∷ e) cs m in subst (Before (r ∷ c)) w.2 (inr (refl, p.0 w.0 w.1))),
  ascending_map r cs p.1,
)

ascending_spread : (cs : List Choice) → Ascending cs → (n : ℕ) (facts : List Fact) → Ascending (spread (numbered n facts) cs)
unfolding spread numbered
ascending_spread cs p n [] = tt
ascending_spread cs p n (f ∷ facts) =
    let r : Row = record { at = n; fact = f } in
    let rest = spread (numbered (suc n) facts) cs in
    ascending_append (map (λ c. r ∷ c) cs) rest (ascending_map r cs p) (ascending_spread cs p (suc n) facts) λ c d m k.
    let v = Memᴰ.of_map (λ e. r ∷ e) cs m in
    let w = spread-from (numbered (suc n) facts) cs k in
    let z = numbered-at (suc n) facts w.2 in
    subst₂ Before v.2 (sym w.4) (inl (omega (arith, z.1)))

-- "Choices are ordered by the first atom's row, then the second's, and so on."
pub choices_ascending : (kinds : List Kind) (board : Board) (atoms : List Atom) → Ascending (choices kinds board atoms)
unfolding choices
choices_ascending kinds board [] = ((λ d m. absurd (Memᴰ.not-nil m)), tt)
choices_ascending kinds board (a ∷ atoms) =
    ascending_spread (choices kinds board atoms) (choices_ascending kinds board atoms) 0 (rows_of board (is_card kinds a.kind))

ascending_once : (cs : List Choice) → Ascending cs → (i j : ℕ) {c : Choice} → get_elem? cs i ≡ some c → get_elem? cs j ≡ some c → i ≡ j
ascending_once [] p i j {c} h k = absurd (none-ne-some c h)
ascending_once (x ∷ cs) p zero zero h k = refl
ascending_once (x ∷ cs) p zero (suc j) {c} h k = absurd (before_self x (p.0 x (Memᴰ.cast (some-injective x c h) (at_in cs j k))))
ascending_once (x ∷ cs) p (suc i) zero {c} h k = absurd (before_self x (p.0 x (Memᴰ.cast (some-injective x c k) (at_in cs i h))))
ascending_once (x ∷ cs) p (suc i) (suc j) h k = ap suc (ascending_once cs p.1 i j h k)

-- "goes through all choices": each choice stands in one place only, so each is met once.
pub choice_stands_once : (kinds : List Kind) (board : Board) (atoms : List Atom) (i j : ℕ) {c : Choice}
    → get_elem? (choices kinds board atoms) i ≡ some c → get_elem? (choices kinds board atoms) j ≡ some c → i ≡ j
choice_stands_once kinds board atoms = ascending_once (choices kinds board atoms) (choices_ascending kinds board atoms)

-- ---- the first that fits

module _ {B : Type 0} (f : Choice → Option B) where
  first-none : (cs : List Choice) → (first f cs ≡ none) ↔ ((c : Choice) → In c cs → f c ≡ none)
  unfolding first
  first-none [] = ((λ h c m. absurd (Memᴰ.not-nil m)), λ h. refl)
  first-none (d ∷ cs) = go (f d) refl (first-none cs)
    where
      go : (o : Option B) → f d ≡ o → (first f cs ≡ none) ↔ ((c : Choice) → In c cs → f c ≡ none)
          → (or_else o (first f cs) ≡ none) ↔ ((c : Choice) → In c (d ∷ cs) → f c ≡ none)
      go (some x) e w = ((λ h. absurd (none-ne-some x (sym h))), λ h. sym e ∙ h d (Memᴰ.head refl))
      go none e w = ((λ h c m. ⊎_elim (λ q. ap f q ∙ e) (w.0 h c) (Memᴰ.cases_cons m)), λ h. w.1 (λ c m. h c (Memᴰ.tail m)))

  -- an element that answers, and none before it does
  abbrev Least : List Choice → B → Type 0
  Least cs x = (c : Choice) × In c cs × (f c ≡ some x) × ((d : Choice) → In d cs → Before d c → f d ≡ none)

  first_least : (cs : List Choice) (x : B) → Ascending cs → first f cs ≡ some x → Least cs x
  unfolding first
  first_least [] x p h = absurd (none-ne-some x h)
  first_least (c ∷ cs) x p h = go (f c) refl h (λ k. first_least cs x p.1 k)
    where
      go : (o : Option B) → f c ≡ o → or_else o (first f cs) ≡ some x → (first f cs ≡ some x → Least cs x) → Least (c ∷ cs) x
      go (some y) e k later = (
        c,
        Memᴰ.head refl,
        e ∙ k,
        λ d m b. absurd
            (⊎_elim (λ q. before_self c (subst (λ (s : Choice). Before s c) q b)) (λ l. before_asymmetric c d (p.0 d l) b) (Memᴰ.cases_cons m)),
      )
      go none e k later =
          let w = later k in
          (w.0, Memᴰ.tail w.1, w.2, λ d m b. ⊎_elim (λ q. ap f q ∙ e) (λ l. w.3 d l b) (Memᴰ.cases_cons m))

-- a choice that fits, what `fit` found for it, and none before it fits
pub record FirstChoice (kinds : List Kind) (board : Board) (atoms : List Atom) (tests : List Test) (known k : Known) : Type 0 where
  pub choice : Choice
  pub is_choice : IsChoice kinds board atoms choice
  pub answer : fit kinds atoms tests choice known ≡ some k
  pub gives : FitGives kinds atoms tests choice known k
  pub none_before : (d : Choice) → IsChoice kinds board atoms d → Before d choice → Fits kinds atoms tests d known.bindings known.gone → ⊥

module _ (kinds : List Kind) (board : Board) (atoms : List Atom) (tests : List Test) (known : Known) where
  module _ (bound : BoundTests known.bindings atoms tests) where
    -- "and its first one": what `first_fit` finds is of a choice that fits, and none before it fits.
    pub first_fit_is_first : {k : Known} → first_fit kinds board atoms tests known ≡ some k → FirstChoice kinds board atoms tests known k
    unfolding first_fit
    first_fit_is_first {k} h =
        let w = first_least (λ c. fit kinds atoms tests c known) (choices kinds board atoms) k (choices_ascending kinds board atoms) h in
        record {
          choice = w.0;
          is_choice = (choices_exactly kinds board atoms w.0).0 w.1;
          answer = w.2;
          gives = fit_gives kinds atoms tests w.0 known bound w.2;
          none_before = λ d c b. (none_exactly_if_not_fits kinds atoms tests d known bound).0 (w.3 d ((choices_exactly kinds board atoms d).1 c) b);
        }

    -- `first_fit` finds none exactly if no choice fits.
    pub none_first_exactly_if_none_fits : (first_fit kinds board atoms tests known ≡ none)
        ↔ ((c : Choice) → IsChoice kinds board atoms c → Fits kinds atoms tests c known.bindings known.gone → ⊥)
    unfolding first_fit
    none_first_exactly_if_none_fits =
        let w = first-none (λ c. fit kinds atoms tests c known) (choices kinds board atoms) in (
          (λ h c i. (none_exactly_if_not_fits kinds atoms tests c known bound).0 (w.0 h c ((choices_exactly kinds board atoms c).1 i))),
          λ h. w.1 (λ c m. (none_exactly_if_not_fits kinds atoms tests c known bound).1 (h c ((choices_exactly kinds board atoms c).0 m))),
        )
