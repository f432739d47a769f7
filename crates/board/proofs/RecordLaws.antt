-- One record of a board file: its mark, then PLACE, MANY and the fields. One law for each answer of `board_record`.
use Prim.Native.Nat.{ℕ, ◌+◌, ◌-◌, ◌≤◌, ◌<◌}
use mathlib.Core.Path.{◌≡◌, refl, sym, ap, ◌∙◌, subst}
use mathlib.Core.Bool.{Bool, true, false, ◌&&◌}
use mathlib.Core.List.{List, [], ◌∷◌}
use native.Mathlib.Omega.{arith}
use lib.ListN.{length, get_or, take, drop, length-drop}
use lib.Seq.{drop-drop}
use lib.Dec.{eqb, ltb}
use borrow.Author.Tests.{lt-ltb, le-ltb, eqb-true}
use Rattle.std.specs.Prelude.{Result, Ok, Err}
use Rattle.meaning.specs.Facts.{Kind, Fact, Board, most_cards, most_notices}
use Rattle.files.specs.Numbers.{PLACE, MANY}
use Rattle.files.specs.Marks.{CA, NO, EN, is_mark}
use Rattle.files.specs.Judge.{go}
use Rattle.files.specs.Board.{Mark, ca, no, en, other, mark_of, is_empty, row, marked, board_record}
use Rattle.answers.specs.declared.Reason.{Reason}
use Rattle.answers.specs.declared.Reason.TheVariants as W
use Rattle.board.specs.Says.{RowSays, RecordSays, with_card, with_notice}
use Rattle.board.specs.declared.Record.{Record}
use Rattle.board.specs.declared.Record.TheVariants as R
use Rattle.board.proofs.RowLaws.{demand-true, demand-false}

-- ---- lists

is_empty_lem : {A : Type 0} (l : List A) → length l ≤ 0 → is_empty l ≡ true
is_empty_lem [] h = refl
is_empty_lem (x ∷ l) h = let z : ⊥ = omega arith in absurd z

is_not_empty : {A : Type 0} (l : List A) → 0 < length l → is_empty l ≡ false
is_not_empty [] h = let z : ⊥ = omega arith in absurd z
is_not_empty (x ∷ l) h = refl

-- ---- marks

-- the two letters are not the mark's
abbrev Not : List ℕ → ℕ → ℕ → Type 0
Not mark a b = a ≡ get_or mark 0 0 → b ≡ get_or mark 1 0 → ⊥

not-mark : (mark : List ℕ) (a b : ℕ) → Not mark a b → is_mark mark a b ≡ false
not-mark mark a b n = by (eqb a (get_or mark 0 0)) (eqb b (get_or mark 1 0)) refl refl
  where
    by : (t u : Bool) → eqb a (get_or mark 0 0) ≡ t → eqb b (get_or mark 1 0) ≡ u → (t && u) ≡ false
    by true true e h = let z : ⊥ = n (eqb-true a (get_or mark 0 0) e) (eqb-true b (get_or mark 1 0) h) in absurd z
    by true false e h = refl
    by false u e h = refl

-- a record opens with the two letters of `mark`, and `fields` stand after them
abbrev Splits : List ℕ → List ℕ → List ℕ → Type 0
Splits rest mark fields = (mark ≡ take 2 rest) × (fields ≡ drop 2 rest) × (length fields + 2 ≡ length rest)

abbrev letters : List ℕ → Mark
letters mark = mark_of (get_or mark 0 0) (get_or mark 1 0)

-- ---- the answers

module _ (kinds : List Kind) (cards notices : ℕ) where
  pub mark_cut : (rest : List ℕ) → length rest < 2 → RecordSays kinds rest cards notices (Err W.Cut)
  unfolding board_record
  mark_cut [] h = record { fits = tt; says = λ n board p q. refl }
  mark_cut (x ∷ []) h = record { fits = tt; says = λ n board p q. refl }
  mark_cut (x ∷ y ∷ rest) h = let z : ⊥ = omega arith in absurd z

  after-mark : (rest mark fields : List ℕ) (k : Mark) (n : ℕ) (board : Board) → Splits rest mark fields → letters mark ≡ k
      → board_record kinds n board rest ≡ marked kinds n k (n - length rest) board (drop 2 rest)
  unfolding board_record
  after-mark [] mark fields k n board s e = let z : ⊥ = omega arith in absurd z
  after-mark (x ∷ []) mark fields k n board s e = let z : ⊥ = omega arith in absurd z
  after-mark (x ∷ y ∷ rest) mark fields k n board s e =
      ap (λ (m : Mark). marked kinds n m (n - length (x ∷ y ∷ rest)) board rest) (ap letters (sym s.0) ∙ e)

  -- the answer on a record whose fields are those of a row of the class
  abbrev pub as_record : Bool → Result ℕ Reason → Result Record Reason
  as_record true (Ok m) = Ok (R.Card (2 + m))
  as_record false (Ok m) = Ok (R.Notice (2 + m))
  as_record true (Err why) = Err why
  as_record false (Err why) = Err why

  abbrev with : Bool → Board → Fact → Board
  with true board f = with_card board f
  with false board f = with_notice board f

  -- what is to be shown of a mark: that nothing but the fields of a row is judged after it
  abbrev OnlyFields : Bool → List ℕ → Type 0
  OnlyFields card rest =
      (n : ℕ) (board : Board) → length board.cards ≡ cards → length board.notices ≡ notices
      → board_record kinds n board rest ≡ row kinds n card (n - length rest) (drop 2 rest) (λ f more. go (with card board f) more)

  by_fields : (card : Bool) (rest : List ℕ) (f : Result ℕ Reason) → 2 ≤ length rest → OnlyFields card rest → RowSays kinds card (drop 2 rest) f
      → RecordSays kinds rest cards notices (as_record card f)
  by_fields true rest (Ok m) l start s = record {
    fits = (omega arith, omega (arith, s.fits, length-drop 2 rest));
    says = λ n board p q. start n board p q ∙ s.says n (n - length rest) (λ f more. go (with_card board f) more) ∙ rw (drop-drop m 2 rest);
  }
  by_fields false rest (Ok m) l start s = record {
    fits = (omega arith, omega (arith, s.fits, length-drop 2 rest));
    says = λ n board p q. start n board p q ∙ s.says n (n - length rest) (λ f more. go (with_notice board f) more) ∙ rw (drop-drop m 2 rest);
  }
  by_fields true rest (Err why) l start s = record {
    fits = tt;
    says = λ n board p q. start n board p q ∙ s.says n (n - length rest) (λ f more. go (with_card board f) more);
  }
  by_fields false rest (Err why) l start s = record {
    fits = tt;
    says = λ n board p q. start n board p q ∙ s.says n (n - length rest) (λ f more. go (with_notice board f) more);
  }

  module _ (rest mark fields : List ℕ) (s : Splits rest mark fields) where
    -- the same with the fields that the code hands on
    as_found : (card : Bool) (f : Result ℕ Reason) → OnlyFields card rest → RowSays kinds card fields f → RecordSays kinds rest cards notices (as_record card f)
    as_found card f start r = by_fields card rest f (omega arith) start (subst (λ (more : List ℕ). RowSays kinds card more f) s.1 r)

    module _ (a : get_or mark 0 0 ≡ get_or CA 0 0) (b : get_or mark 1 0 ≡ get_or CA 1 0) where
      is_ca : letters mark ≡ ca
      is_ca = rw (a, b)

      pub late_card : 0 < notices → RecordSays kinds rest cards notices (Err W.Place)
      late_card h = record {
        fits = tt;
        says = λ n board p q.
            after-mark rest mark fields ca n board s is_ca
            ∙ demand-false (is_empty board.notices) PLACE _ _ (is_not_empty board.notices (omega arith));
      }

      module _ (h : notices ≤ 0) where
        pub many-cards : most_cards ≤ cards → RecordSays kinds rest cards notices (Err W.Many)
        many-cards w = record {
          fits = tt;
          says = λ n board p q.
              after-mark rest mark fields ca n board s is_ca
              ∙ demand-true (is_empty board.notices) PLACE _ _ (is_empty_lem board.notices (omega arith))
              ∙ demand-false (ltb (length board.cards) most_cards) MANY _ _ (le-ltb (length board.cards) most_cards (omega arith));
        }

        pub a_card : cards < most_cards → (f : Result ℕ Reason) → RowSays kinds true fields f → RecordSays kinds rest cards notices (as_record true f)
        a_card w f r =
            as_found true f
            (λ n board p q.
            after-mark rest mark fields ca n board s is_ca
            ∙ demand-true (is_empty board.notices) PLACE _ _ (is_empty_lem board.notices (omega arith))
            ∙ demand-true (ltb (length board.cards) most_cards) MANY _ _ (lt-ltb (length board.cards) most_cards (omega arith)))
            r

    module _ (a : get_or mark 0 0 ≡ get_or NO 0 0) (b : get_or mark 1 0 ≡ get_or NO 1 0) where
      is_no : letters mark ≡ no
      is_no = rw (a, b)

      pub many-notices : most_notices ≤ notices → RecordSays kinds rest cards notices (Err W.Many)
      many-notices w = record {
        fits = tt;
        says = λ n board p q.
            after-mark rest mark fields no n board s is_no
            ∙ demand-false (ltb (length board.notices) most_notices) MANY _ _ (le-ltb (length board.notices) most_notices (omega arith));
      }

      pub a_notice : notices < most_notices → (f : Result ℕ Reason) → RowSays kinds false fields f → RecordSays kinds rest cards notices (as_record false f)
      a_notice w f r =
          as_found false f
          (λ n board p q.
          after-mark rest mark fields no n board s is_no
          ∙ demand-true (ltb (length board.notices) most_notices) MANY _ _ (lt-ltb (length board.notices) most_notices (omega arith)))
          r

    pub at-end : get_or mark 0 0 ≡ get_or EN 0 0 → get_or mark 1 0 ≡ get_or EN 1 0 → RecordSays kinds rest cards notices (Ok R.End)
    at-end a b = record { fits = omega arith; says = λ n board p q. after-mark rest mark fields en n board s (rw (a, b)) }

    pub unknown : Not CA (get_or mark 0 0) (get_or mark 1 0) → Not NO (get_or mark 0 0) (get_or mark 1 0) → Not EN (get_or mark 0 0) (get_or mark 1 0)
        → RecordSays kinds rest cards notices (Err W.Mark)
    unknown c o e = record {
      fits = tt;
      says = λ n board p q. after-mark rest mark fields other n board s (rw (not-mark CA _ _ c, not-mark NO _ _ o, not-mark EN _ _ e));
    }
