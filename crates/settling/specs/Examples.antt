-- Small arrays, worked: a firing that uses the second of three cards and makes one, and one that finds no room.
use Rattle.std.specs.Prelude.{◌≡◌, refl, Some, None, true, List, [], ◌∷◌, ℕ}
use Rattle.meaning.specs.Firing.{unused_rows}
use Rattle.rows.specs.declared.Count.{Count}
use Rattle.rows.specs.Held.{facts_from, rows_from, kinds_with, numbers_with}
use Rattle.settling.specs.Settles.{settled_as, kinds_after, numbers_after}

-- kinds 5, 6 and 7 in rows 0 to 2; row 3 is past the cards
abbrev kind : List ℕ
kind = 5 ∷ 6 ∷ 7 ∷ 8 ∷ []

abbrev numbers : List ℕ
numbers = 50 ∷ 51 ∷ 52 ∷ 53 ∷ 60 ∷ 61 ∷ 62 ∷ 63 ∷ 70 ∷ 71 ∷ 72 ∷ 73 ∷ 80 ∷ 81 ∷ 82 ∷ 83 ∷ []

-- the second is used; one card is made, of kind 9
abbrev used : List ℕ
used = 0 ∷ 1 ∷ 0 ∷ []

abbrev made_kind : List ℕ
made_kind = 9 ∷ []

abbrev made_numbers : List ℕ
made_numbers = 90 ∷ 91 ∷ 92 ∷ 93 ∷ []

abbrev of : ℕ → ℕ → Count
of cards notices = record { cards = cards; notices = notices }

-- the answer, and the arrays: row 1 is gone, the made card stands behind, row 3 keeps what it had
answer : settled_as kind numbers (of 3 2) used made_kind made_numbers (of 1 1) ≡ Some (of 3 3)
unfolding unused_rows rows_from
answer = refl

kinds-after : kinds_after kind numbers (of 3 2) used made_kind made_numbers (of 1 1) ≡ 5 ∷ 7 ∷ 9 ∷ 8 ∷ []
unfolding unused_rows rows_from kinds_with
kinds-after = refl

numbers_after_lem : numbers_after kind numbers (of 3 2) used made_kind made_numbers (of 1 1)
    ≡ 50 ∷ 51 ∷ 52 ∷ 53 ∷ 70 ∷ 71 ∷ 72 ∷ 73 ∷ 90 ∷ 91 ∷ 92 ∷ 93 ∷ 80 ∷ 81 ∷ 82 ∷ 83 ∷ []
unfolding unused_rows rows_from numbers_with
numbers_after_lem = refl

-- a 129th notice: FULL, and nothing changes
full : settled_as kind numbers (of 3 127) used made_kind made_numbers (of 1 2) ≡ None
unfolding unused_rows rows_from
full = refl

full_keeps : kinds_after kind numbers (of 3 127) used made_kind made_numbers (of 1 2) ≡ kind
unfolding unused_rows rows_from
full_keeps = refl

-- a row's fact has as many numbers as its kind
two-numbers : facts_from (record { card = true; arity = 2 } ∷ []) (0 ∷ []) (7 ∷ 40 ∷ 0 ∷ 0 ∷ []) 0 1 ≡ record { kind = 0; numbers = 7 ∷ 40 ∷ [] } ∷ []
unfolding facts_from
two-numbers = refl
