-- What `settle` leaves is document 01's board after the firing: FULL exactly if that board has no room, else the arrays hold it.
use Rattle.std.specs.Prelude.{ℕ, zero, suc, ◌+◌, ◌≤◌, ◌<◌, ◌≡◌, refl, Option, Some, None, Bool, true, false, ◌&&◌, List, [], ◌∷◌, ◌++◌, map, length, leb, if◌then◌else◌}
use Rattle.std.proofs.Common.{add-zero, arith, sym, ap, ap₂, ◌∙◌, length-append, le-leb, leb-true}
use Rattle.std.proofs.lemmas.List.{map-append, length-map}
use Rattle.meaning.specs.Facts.{Kind, Fact, Board, most_cards, most_notices}
use Rattle.meaning.specs.Fit.{Marks}
use Rattle.meaning.specs.Firing.{Work, unused_rows, of_class, board_after, has_room, Firing, full, fired, settle}
use Rattle.rows.specs.declared.Count.{Count}
use Rattle.rows.specs.Held.{notices_from, Sized, fact_in, fact_of, row_at, rows_from, facts_from, board_of, kinds_with, numbers_with}
use Rattle.rows.specs.HeldLaws.{row_of, sized_with, rows-length, rows_written, past-written, facts_of_rows, facts-length}
use Rattle.settling.specs.Settles.{used_in, kept_cards, new_cards, room_for, BoardSettled}

-- ---- rows that stay

unused_map : (f : Fact → Fact) (n : ℕ) (marks : Marks) (rows : List Fact) → map f (unused_rows n marks rows) ≡ unused_rows n marks (map f rows)
unfolding unused_rows
unused_map f n marks [] = refl
unused_map f n marks (x ∷ rows) = by (marks n) (unused_map f (suc n) marks rows)
  where
    by : (t : Bool) → map f (unused_rows (suc n) marks rows) ≡ unused_rows (suc n) marks (map f rows)
        → map f (if t then unused_rows (suc n) marks rows else x ∷ unused_rows (suc n) marks rows) ≡ (if t then unused_rows (suc n) marks (map f rows) else f x ∷ unused_rows (suc n) marks (map f rows))
    by true e = e
    by false e = ap (λ (l : List Fact). f x ∷ l) e

unused_agree : (n : ℕ) (marks marks' : Marks) (rows : List Fact) → ((r : ℕ) → n ≤ r → r < n + length rows → marks r ≡ marks' r)
    → unused_rows n marks rows ≡ unused_rows n marks' rows
unfolding unused_rows
unused_agree n marks marks' [] h = refl
unused_agree n marks marks' (x ∷ rows) h =
    ap (λ (t : Bool). if t then unused_rows (suc n) marks rows else x ∷ unused_rows (suc n) marks rows) (h n (omega arith) (omega arith))
    ∙ ap (λ (l : List Fact). if marks' n then l else x ∷ l) (unused_agree (suc n) marks marks' rows (λ r a b. h r (omega arith) (omega arith)))

-- a row has its four numbers already
rows_whole : (kind numbers : List ℕ) (row n : ℕ) → map row_of (rows_from kind numbers row n) ≡ rows_from kind numbers row n
unfolding rows_from
rows_whole kind numbers row zero = refl
rows_whole kind numbers row (suc n) = ap (λ (l : List Fact). row_at kind numbers row ∷ l) (rows_whole kind numbers (suc row) n)

facts_append : (kinds : List Kind) (kind numbers : List ℕ) (row n m : ℕ)
    → facts_from kinds kind numbers row (n + m) ≡ facts_from kinds kind numbers row n ++ facts_from kinds kind numbers (row + n) m
unfolding facts_from
facts_append kinds kind numbers row zero m =
    let e : zero + m ≡ m = omega arith in
    rw (e, add-zero row)
facts_append kinds kind numbers row (suc n) m =
    let e : suc n + m ≡ suc (n + m) = omega arith in
    let p : row + suc n ≡ suc row + n = omega arith in
    rw (e, p) (ap (λ (l : List Fact). fact_of kinds kind numbers row ∷ l) (facts_append kinds kind numbers (suc row) n m))

-- ---- where there is room

both : (a b : Bool) → (a && b) ≡ true → (a ≡ true) × (b ≡ true)
both true b e = (refl, e)
both false b e = let z : ◌≡◌ {A = ℕ} 0 1 = cc in let bad : ⊥ = omega arith in absurd bad

module _ (kind numbers : List ℕ) (count : Count) (used made_kind made_numbers : List ℕ) (made : Count) where
  pub room-true : room_for kind numbers count used made_kind made_numbers made ≡ true
      → (count.cards ≤ most_cards) × (length (new_cards kind numbers count used made_kind made_numbers made) ≤ most_cards) × (count.notices + made.notices ≤ most_notices)
  room-true e =
      let new = new_cards kind numbers count used made_kind made_numbers made in
      let p = both (leb count.cards most_cards) (leb (length new) most_cards && leb (count.notices + made.notices) most_notices) e in
      let q = both (leb (length new) most_cards) (leb (count.notices + made.notices) most_notices) p.1 in
      (leb-true count.cards most_cards p.0, leb-true (length new) most_cards q.0, leb-true (count.notices + made.notices) most_notices q.1)

  -- the arrays keep their sizes, and the count stays within them
  pub settled_sized : (kind₁ numbers₁ : List ℕ) (r : Option Count) → Sized kind numbers → BoardSettled kind numbers count used made_kind made_numbers made kind₁ numbers₁ r
      → Sized kind₁ numbers₁
  settled_sized kind₁ numbers₁ r s b = rw (b.kinds, b.places) (by (room_for kind numbers count used made_kind made_numbers made))
    where
      by : (t : Bool) → Sized (if t then kinds_with kind 0 (new_cards kind numbers count used made_kind made_numbers made) else kind) (if t then numbers_with numbers 0 (new_cards kind numbers count used made_kind made_numbers made) else numbers)
      by true = sized_with kind numbers 0 (new_cards kind numbers count used made_kind made_numbers made) s
      by false = s

  pub settled_few : (kind₁ numbers₁ : List ℕ) (count₁ : Count) → BoardSettled kind numbers count used made_kind made_numbers made kind₁ numbers₁ (Some count₁)
      → (count₁.cards ≤ most_cards) × (count₁.notices ≤ most_notices)
  settled_few kind₁ numbers₁ count₁ b = by (room_for kind numbers count used made_kind made_numbers made) refl b.answer
    where
      by : (t : Bool) → room_for kind numbers count used made_kind made_numbers made ≡ t
          → Some count₁ ≡ (if t then Some (record { cards = length (new_cards kind numbers count used made_kind made_numbers made); notices = count.notices + made.notices }) else None)
          → (count₁.cards ≤ most_cards) × (count₁.notices ≤ most_notices)
      by true e a =
          let there = room-true e in
          let same : count₁ ≡ record { cards = length (new_cards kind numbers count used made_kind made_numbers made); notices = count.notices + made.notices } = cc in
          (omega (arith, ap (λ (c : Count). c.cards) same, there.1), omega (arith, ap (λ (c : Count). c.notices) same, there.2))
      by false e a = let z : ◌≡◌ {A = ℕ} 0 1 = cc in let bad : ⊥ = omega arith in absurd bad

  -- FULL leaves the arrays as they were
  pub settled_full : (kind₁ numbers₁ : List ℕ) → BoardSettled kind numbers count used made_kind made_numbers made kind₁ numbers₁ None → (kind₁ ≡ kind) × (numbers₁ ≡ numbers)
  settled_full kind₁ numbers₁ b = by (room_for kind numbers count used made_kind made_numbers made) b.answer b.kinds b.places
    where
      new : List Fact
      new = new_cards kind numbers count used made_kind made_numbers made

      by : (t : Bool) → ◌≡◌ {A = Option Count} None (if t then Some (record { cards = length new; notices = count.notices + made.notices }) else None)
          → kind₁ ≡ (if t then kinds_with kind 0 new else kind) → numbers₁ ≡ (if t then numbers_with numbers 0 new else numbers) → (kind₁ ≡ kind) × (numbers₁ ≡ numbers)
      by true e k n = let z : ◌≡◌ {A = ℕ} 0 1 = cc in let bad : ⊥ = omega arith in absurd bad
      by false e k n = (k, n)

-- ---- what the arrays say of a firing

-- the answer as a firing of a rule
abbrev pub firing_of : List Kind → List ℕ → List ℕ → ℕ → Option Count → Firing
firing_of kinds kind numbers rule None = full
firing_of kinds kind numbers rule (Some count) = fired rule (board_of kinds kind numbers count.cards count.notices)

-- The marks and the made facts are those of a firing's work. Of made facts that there is no room for only the number counts.
pub record Holds (kinds : List Kind) (kind numbers : List ℕ) (count : Count) (used made_kind made_numbers : List ℕ) (made : Count) (work : Work) : Type 0 where
  pub marks : (row : ℕ) → row < count.cards → work.used row ≡ used_in used row
  pub cards : length (of_class kinds true work.made) ≡ made.cards
  pub notices : length (of_class kinds false work.made) ≡ made.notices
  pub made_cards : made.cards ≤ most_cards → of_class kinds true work.made ≡ facts_from kinds made_kind made_numbers 0 made.cards
  pub made_notices : count.notices + made.notices ≤ most_notices → of_class kinds false work.made ≡ facts_from kinds kind numbers (notices_from + count.notices) made.notices

module _ (kinds : List Kind) (kind numbers : List ℕ) (count : Count) (used made_kind made_numbers : List ℕ) (made : Count) (work : Work)
    (h : Holds kinds kind numbers count used made_kind made_numbers made work) where
  abbrev board : Board
  board = board_of kinds kind numbers count.cards count.notices

  abbrev after : Board
  after = board_after kinds board work

  abbrev new : List Fact
  new = new_cards kind numbers count used made_kind made_numbers made

  kept_facts : map (fact_in kinds) (kept_cards kind numbers used count.cards) ≡ unused_rows 0 work.used board.cards
  kept_facts =
      unused_map (fact_in kinds) 0 (used_in used) (rows_from kind numbers 0 count.cards)
      ∙ ap (unused_rows 0 (used_in used)) (sym (facts_of_rows kinds kind numbers 0 count.cards))
      ∙ sym (unused_agree 0 work.used (used_in used) board.cards (λ r a b. h.marks r (omega (arith, facts-length kinds kind numbers 0 count.cards))))

  cards-count : length new ≡ length after.cards
  cards-count =
      length-append (kept_cards kind numbers used count.cards) (rows_from made_kind made_numbers 0 made.cards)
      ∙ ap₂ ◌+◌
      (sym (length-map (kept_cards kind numbers used count.cards) (fact_in kinds)) ∙ ap (λ (l : List Fact). length l) kept_facts)
      (rows-length made_kind made_numbers 0 made.cards ∙ sym h.cards)
      ∙ sym (length-append (unused_rows 0 work.used board.cards) (of_class kinds true work.made))

  notices-count : count.notices + made.notices ≡ length after.notices
  notices-count =
      ap₂ ◌+◌ (sym (facts-length kinds kind numbers notices_from count.notices)) (sym h.notices)
      ∙ sym (length-append board.notices (of_class kinds false work.made))

  -- FULL exactly if the board after has no room
  pub room-is : count.cards ≤ most_cards → room_for kind numbers count used made_kind made_numbers made ≡ has_room after
  room-is few =
      rw (le-leb count.cards most_cards few)
      (ap₂ (λ (c n : ℕ). leb c most_cards && leb n most_notices) cards-count notices-count)

  module _ (s : Sized kind numbers) (c : length new ≤ most_cards) (n : count.notices + made.notices ≤ most_notices) where
    few_made : made.cards ≤ most_cards
    few_made =
        omega (arith, length-append (kept_cards kind numbers used count.cards) (rows_from made_kind made_numbers 0 made.cards), rows-length made_kind made_numbers 0 made.cards)

    cards-held : facts_from kinds (kinds_with kind 0 new) (numbers_with numbers 0 new) 0 (length new) ≡ after.cards
    cards-held =
        let kept = kept_cards kind numbers used count.cards in
        let more = rows_from made_kind made_numbers 0 made.cards in
        let same : map row_of new ≡ new =
        map-append row_of kept more
        ∙ ap₂ ◌++◌ (unused_map row_of 0 (used_in used) (rows_from kind numbers 0 count.cards) ∙ ap (unused_rows 0 (used_in used)) (rows_whole kind numbers 0 count.cards))
        (rows_whole made_kind made_numbers 0 made.cards) in
        facts_of_rows kinds (kinds_with kind 0 new) (numbers_with numbers 0 new) 0 (length new)
        ∙ ap (map (fact_in kinds)) (rows_written kind numbers 0 new s (omega arith) ∙ same)
        ∙ map-append (fact_in kinds) kept more
        ∙ ap₂ ◌++◌ kept_facts (sym (facts_of_rows kinds made_kind made_numbers 0 made.cards) ∙ sym (h.made_cards few_made))

    notices-held : facts_from kinds (kinds_with kind 0 new) (numbers_with numbers 0 new) notices_from (count.notices + made.notices) ≡ after.notices
    notices-held =
        facts_of_rows kinds (kinds_with kind 0 new) (numbers_with numbers 0 new) notices_from (count.notices + made.notices)
        ∙ ap (map (fact_in kinds)) (past-written kind numbers 0 new notices_from (count.notices + made.notices) (omega arith))
        ∙ sym (facts_of_rows kinds kind numbers notices_from (count.notices + made.notices))
        ∙ facts_append kinds kind numbers notices_from count.notices made.notices
        ∙ ap (λ (l : List Fact). board.notices ++ l) (sym (h.made_notices n))

    -- the arrays hold the board after
    pub board-is : board_of kinds (kinds_with kind 0 new) (numbers_with numbers 0 new) (length new) (count.notices + made.notices) ≡ after
    board-is = λ i. record { cards = cards-held i; notices = notices-held i }

  -- both at once: the answer and the arrays are the meaning's `settle`
  pub settled_firing : (rule : ℕ) (kind₁ numbers₁ : List ℕ) (r : Option Count) → Sized kind numbers → count.cards ≤ most_cards
      → BoardSettled kind numbers count used made_kind made_numbers made kind₁ numbers₁ r
      → firing_of kinds kind₁ numbers₁ rule r ≡ settle kinds board rule work
  settled_firing rule kind₁ numbers₁ r s few b =
      rw (b.answer, b.kinds, b.places, ← room-is few) (by (room_for kind numbers count used made_kind made_numbers made) refl)
    where
      by : (t : Bool) → room_for kind numbers count used made_kind made_numbers made ≡ t
          → firing_of kinds (if t then kinds_with kind 0 new else kind) (if t then numbers_with numbers 0 new else numbers) rule (if t then Some (record { cards = length new; notices = count.notices + made.notices }) else None)
          ≡ (if t then fired rule after else full)
      by true e =
          let there = room-true kind numbers count used made_kind made_numbers made e in
          ap (fired rule) (board-is s there.1 there.2)
      by false e = refl
