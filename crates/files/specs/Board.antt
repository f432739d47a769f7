-- A board file (document 01, 'The files'): "`ca` kind, numbers; all `ca` before `no` (kind, numbers); then `en`."
use Rattle.std.specs.Prelude.{ℕ, zero, suc, ◌-◌, Bool, true, false, not, ◌&&◌, List, [], ◌∷◌, ◌++◌, length, ltb, if◌then◌else◌}
use Rattle.meaning.specs.Facts.{Kind, Fact, Board, most_cards, most_notices, is_card, arity_of}
use Rattle.files.specs.Numbers.{MARK, PLACE, MANY, FIELD}
use Rattle.files.specs.Marks.{CA, NO, EN, is_mark}
use Rattle.files.specs.Judge.{Verdict, Judged, go, ended, stop, demand, byte, two, judge}

-- the marks that a board has
pub data Mark : Type 0 where
  ca no en other : Mark

abbrev pub mark_of : ℕ → ℕ → Mark
mark_of a b = if is_mark CA a b then ca else if is_mark NO a b then no else if is_mark EN a b then en else other

abbrev pub is_empty : {A : Type 0} → List A → Bool
is_empty [] = true
is_empty (a ∷ more) = false

-- the kind is declared, and of the class (true: cards)
abbrev pub is_of_class : List Kind → Bool → ℕ → Bool
is_of_class kinds true k = ltb k (length kinds) && is_card kinds k
is_of_class kinds false k = ltb k (length kinds) && not (is_card kinds k)

-- so many numbers
abbrev pub numbers : {S : Type 0} → ℕ → ℕ → List ℕ → (List ℕ → List ℕ → Judged S) → Judged S
numbers n zero rest next = next [] rest
numbers n (suc left) rest next = two n rest (λ v rest₁. numbers n left rest₁ (λ vs rest₂. next (v ∷ vs) rest₂))

module _ (kinds : List Kind) (n : ℕ) where
  -- the fields of a row of the class: its kind, then its numbers; `at` is the record's place
  abbrev pub row : {S : Type 0} → Bool → ℕ → List ℕ → (Fact → List ℕ → Judged S) → Judged S
  row card at rest next =
      byte n rest λ kind rest₁.
      demand (is_of_class kinds card kind) FIELD at
      (numbers n (arity_of kinds kind) rest₁ λ vs rest₂.
      next (record { kind = kind; numbers = vs }) rest₂)

  -- after the mark: MARK, PLACE, MANY, then the fields
  abbrev pub marked : Mark → ℕ → Board → List ℕ → Judged Board
  marked ca at board rest =
      demand (is_empty board.notices) PLACE at
      (demand (ltb (length board.cards) most_cards) MANY at
      (row true at rest λ f rest₁. go (record { cards = board.cards ++ (f ∷ []); notices = board.notices }) rest₁))
  marked no at board rest =
      demand (ltb (length board.notices) most_notices) MANY at
      (row false at rest λ f rest₁. go (record { cards = board.cards; notices = board.notices ++ (f ∷ []) }) rest₁)
  marked en at board rest = ended board rest
  marked other at board rest = stop MARK at

  unfoldable pub board_record : Board → List ℕ → Judged Board
  board_record board rest =
      byte n rest λ a rest₁. byte n rest₁ λ b rest₂. marked (mark_of a b) (n - length rest) board rest₂

abbrev pub empty_board : Board
empty_board = record { cards = []; notices = [] }

-- the kinds are a book's, or a strip's
unfoldable pub judge_board : List Kind → List ℕ → Verdict Board
judge_board kinds file = judge (length file) (board_record kinds (length file)) (suc (length file)) empty_board file
