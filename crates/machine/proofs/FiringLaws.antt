-- A firing: the made facts that are laid out settle as the definition says; an attempt that ends with a firing leaves rows of declared kinds.
use Rattle.std.specs.Prelude.{if◌then◌else◌, Option, Some, None}
use Prim.Native.Nat.{ℕ, zero, suc, ◌+◌, ◌-◌, ◌*◌, ◌≤◌, ◌<◌}
use native.Mathlib.Nat.{add-zero, zero-add}
use native.Mathlib.Omega.{arith}
use mathlib.Core.Path.{◌≡◌, refl, sym, ap, ap₂, ◌∙◌, subst}
use mathlib.Core.Bool.{Bool, true, false, and-false}
use mathlib.Core.List.{List, [], ◌∷◌, ◌++◌, map}
use lib.ListN.{length, get_or, length-append}
use lib.Dec.{leb}
use borrow.Author.Tests.{lt-leb}
use Rattle.meaning.specs.Facts.{Kind, Fact, Board, is_card, most_cards, most_notices}
use Rattle.meaning.specs.Fit.{Marks}
use Rattle.meaning.specs.Firing.{Work, unused_rows, of_class, board_after, has_room, full, fired, settle, done}
use Rattle.meaning.specs.Words.{attempt}
use Rattle.files.specs.Strip.{words_at}
use Rattle.kinds.specs.declared.Kinds.{Kinds}
use Rattle.kinds.specs.Listed.{kinds_of}
use Rattle.rows.specs.declared.Count.{Count}
use Rattle.rows.specs.Held.{notices_from, Sized, fact_in, facts_from}
use Rattle.rows.specs.HeldLaws.{facts_of_rows, facts-length}
use Rattle.settling.specs.Settles.{used_in, BoardSettled}
use Rattle.settling.specs.SettlesLaws.{settled_sized, settled_few, settled_full, firing_of, Holds, settled_firing}
use Rattle.runs.specs.Runs.{board_in}
use Rattle.machine.specs.declared.Turn.{Turn}
use Rattle.machine.specs.declared.Turn.TheVariants as T
use Rattle.machine.specs.declared.firing.Look.TheVariants.{Fired}
use Rattle.machine.specs.Represents.{Parts, used_of, Counted}
use Rattle.machine.specs.Bursts.{attempt_by, Ready, Attempted}
use Rattle.machine.specs.Firings.{made_facts, ClassLaid, MadeReady, AfterMade, MadeSettled, Declared, AllDeclared, Playable, Looked}

-- ---- the board after

module _ (kinds : List Kind) (kind numbers : List ℕ) (count : Count) (made_kind made_numbers : List ℕ) (cards notices : ℕ)
    (ready : MadeReady kinds kind numbers count made_kind made_numbers cards notices) where
  pub made_few : cards + notices ≤ 384
  made_few = omega (arith, ready.cards_size, ready.notices_size)

  pub notices-room : notices ≤ 128 - count.notices → length kind ≤ 384 × (length numbers ≡ 4 * length kind) × (256 + count.notices + length (of_class kinds false (made_facts kinds made_kind made_numbers (cards + notices))) ≤ length kind)
  notices-room h = (omega (arith, ready.sized.rows), omega (arith, ready.sized.rows, ready.sized.places), omega (arith, ready.sized.rows, ready.notices_are, ready.few_notices))

module _ (kinds : List Kind) (kind numbers : List ℕ) (count : Count) (marks made_kind made_numbers : List ℕ) (cards notices : ℕ)
    (ready : MadeReady kinds kind numbers count made_kind made_numbers cards notices) where
  abbrev work : Work
  work = record { used = used_of marks; made = made_facts kinds made_kind made_numbers (cards + notices) }

  -- "If that exceeds 256 cards or 128 notices": the notices alone are too many
  pub made-over : 128 - count.notices < notices → MadeSettled kinds kind numbers count marks made_kind made_numbers cards notices kind numbers None
  made-over h =
      let board = board_in kinds kind numbers count in
      let after = board_after kinds board work in
      let n = length-append board.notices (of_class kinds false work.made) in
      let many : most_notices < length after.notices = omega (arith, n, facts-length kinds kind numbers notices_from count.notices, ready.notices_are, ready.few_notices) in
      let none : has_room after ≡ false = rw (lt-leb (length after.notices) most_notices many) (and-false (leb (length after.cards) most_cards)) in
      record { is = λ rule. rw none; board = refl; sized = ready.sized }

  module _ (card_kind₀ card_numbers₀ card_kind card_numbers kind₁ numbers₁ : List ℕ)
      (c : ClassLaid kinds true made_kind made_numbers (cards + notices) 0 card_kind₀ card_numbers₀ card_kind card_numbers)
      (n : ClassLaid kinds false made_kind made_numbers (cards + notices) (256 + count.notices) kind numbers kind₁ numbers₁)
      (used : List ℕ) (marked : (row : ℕ) → row < 256 → used_in used row ≡ used_of marks row)
      (kind₂ numbers₂ : List ℕ) (r : Option Count)
      (settled : BoardSettled kind₁ numbers₁ count used card_kind card_numbers (record { cards = cards; notices = notices }) kind₂ numbers₂ r) where
    abbrev made : Count
    made = record { cards = cards; notices = notices }

    holds : Holds kinds kind₁ numbers₁ count used card_kind card_numbers made work
    holds = record {
      marks = λ row h. sym (marked row (omega (arith, ready.few_cards)));
      cards = sym ready.cards_are;
      notices = sym ready.notices_are;
      made_cards = λ h. sym (ap (facts_from kinds card_kind card_numbers 0) ready.cards_are ∙ c.is);
      made_notices = λ h. sym (ap (facts_from kinds kind₁ numbers₁ (256 + count.notices)) ready.notices_are ∙ n.is);
    }

    same_facts : (row m : ℕ) → row + m ≤ 256 + count.notices → facts_from kinds kind₁ numbers₁ row m ≡ facts_from kinds kind numbers row m
    same_facts row m h = facts_of_rows kinds kind₁ numbers₁ row m ∙ ap (map (fact_in kinds)) (n.kept row m h) ∙ sym (facts_of_rows kinds kind numbers row m)

    board_kept : board_in kinds kind₁ numbers₁ count ≡ board_in kinds kind numbers count
    board_kept =
        let a = same_facts 0 count.cards (omega (arith, ready.few_cards)) in
        let b = same_facts 256 count.notices (omega arith) in
        λ i. record { cards = a i; notices = b i }

    sized_then : Sized kind₁ numbers₁
    sized_then = record { rows = n.rows ∙ ready.sized.rows; places = n.places ∙ ready.sized.places }

    after-made : (s : Option Count) → BoardSettled kind₁ numbers₁ count used card_kind card_numbers made kind₂ numbers₂ s → AfterMade kinds kind numbers count kind₂ numbers₂ s
    after-made None b =
        let e = settled_full kind₁ numbers₁ count used card_kind card_numbers made kind₂ numbers₂ b in
        ap₂ (λ (k l : List ℕ). board_in kinds k l count) e.0 e.1 ∙ board_kept
    after-made (Some after) b = settled_few kind₁ numbers₁ count used card_kind card_numbers made kind₂ numbers₂ after b

    pub made_settled : MadeSettled kinds kind numbers count marks made_kind made_numbers cards notices kind₂ numbers₂ r
    made_settled = record {
      is = λ rule. settled_firing kinds kind₁ numbers₁ count used card_kind card_numbers made work holds rule kind₂ numbers₂ r sized_then ready.few_cards settled
          ∙ ap (λ (b : Board). settle kinds b rule work) board_kept;
      board = after-made r settled;
      sized = settled_sized kind₁ numbers₁ count used card_kind card_numbers made kind₂ numbers₂ r sized_then settled;
    }

-- ---- rows of declared kinds

module _ (kinds : List Kind) where
  facts_declared : (kind numbers : List ℕ) (row n : ℕ) → ((i : ℕ) → i < n → get_or kind (row + i) 0 < length kinds) → Declared kinds (facts_from kinds kind numbers row n)
  unfolding facts_from
  facts_declared kind numbers row zero h = tt
  facts_declared kind numbers row (suc n) h = (
    subst (λ (r : ℕ). get_or kind r 0 < length kinds) (add-zero row) (h 0 (omega arith)),
    facts_declared kind numbers (suc row) n
        (λ i l. subst (λ (r : ℕ). get_or kind r 0 < length kinds) (let e : row + suc i ≡ suc row + i = omega arith in e) (h (suc i) (omega arith))),
  )

  declared_at : (kind numbers : List ℕ) (row n : ℕ) → Declared kinds (facts_from kinds kind numbers row n) → (i : ℕ) → i < n → get_or kind (row + i) 0 < length kinds
  unfolding facts_from
  declared_at kind numbers row zero d i h = let bad : ⊥ = omega arith in absurd bad
  declared_at kind numbers row (suc n) d zero h = subst (λ (r : ℕ). get_or kind r 0 < length kinds) (sym (add-zero row)) d.0
  declared_at kind numbers row (suc n) d (suc i) h =
      subst (λ (r : ℕ). get_or kind r 0 < length kinds) (let e : suc row + i ≡ row + suc i = omega arith in e) (declared_at kind numbers (suc row) n d.1 i (omega arith))

  both_declared : (l m : List Fact) → Declared kinds l → Declared kinds m → Declared kinds (l ++ m)
  both_declared [] m a b = b
  both_declared (f ∷ l) m a b = (a.0, both_declared l m a.1 b)

  unused_declared : (n : ℕ) (used : Marks) (l : List Fact) → Declared kinds l → Declared kinds (unused_rows n used l)
  unfolding unused_rows
  unused_declared n used [] d = tt
  unused_declared n used (f ∷ l) d = by (used n) (unused_declared (suc n) used l d.1)
    where
      by : (t : Bool) → Declared kinds (unused_rows (suc n) used l) → Declared kinds (if t then unused_rows (suc n) used l else f ∷ unused_rows (suc n) used l)
      by true m = m
      by false m = (d.0, m)

  class_declared : (card : Bool) (l : List Fact) → Declared kinds l → Declared kinds (of_class kinds card l)
  unfolding of_class
  class_declared true [] d = tt
  class_declared false [] d = tt
  class_declared true (f ∷ l) d = by (is_card kinds f.kind) (class_declared true l d.1)
    where
      by : (t : Bool) → Declared kinds (of_class kinds true l) → Declared kinds (if t then f ∷ of_class kinds true l else of_class kinds true l)
      by true m = (d.0, m)
      by false m = m
  class_declared false (f ∷ l) d = by (is_card kinds f.kind) (class_declared false l d.1)
    where
      by : (t : Bool) → Declared kinds (of_class kinds false l) → Declared kinds (if t then of_class kinds false l else f ∷ of_class kinds false l)
      by true m = m
      by false m = (d.0, m)

  after_declared : (board : Board) (work : Work) → AllDeclared kinds board → Declared kinds work.made → AllDeclared kinds (board_after kinds board work)
  after_declared board work b m = (
    both_declared (unused_rows 0 work.used board.cards) (of_class kinds true work.made) (unused_declared 0 work.used board.cards b.0) (class_declared true work.made m),
    both_declared board.notices (of_class kinds false work.made) b.1 (class_declared false work.made m),
  )

  -- a board that a firing leaves
  fired_declared : (board next : Board) (rule : ℕ) (work : Work) → AllDeclared kinds board → Declared kinds work.made → fired rule next ≡ settle kinds board rule work → AllDeclared kinds next
  fired_declared board next rule work b m e = by (has_room (board_after kinds board work)) e
    where
      by : (t : Bool) → fired rule next ≡ (if t then fired rule (board_after kinds board work) else full) → AllDeclared kinds next
      by true q = let same : next ≡ board_after kinds board work = cc in subst (AllDeclared kinds) (sym same) (after_declared board work b m)
      by false q = let z : ◌≡◌ {A = ℕ} 0 1 = cc in let bad : ⊥ = omega arith in absurd bad

-- ---- one firing

module _ (strip : List ℕ) (kinds : Kinds) (kind numbers : List ℕ) (count : Count) (p : Playable strip kinds kind numbers count) where
  abbrev K : List Kind
  K = kinds_of kinds

  abbrev board : Board
  board = board_in (kinds_of kinds) kind numbers count

  pub ready_by : Ready strip kinds kind count.cards count.notices
  ready_by = record {
    good = p.known.good;
    whole = p.known.whole;
    kinds_size = p.known.kinds_size;
    listed = p.known.listed;
    cards_size = p.cards;
    notices_size = p.notices;
    card_kinds = λ q h. subst (λ (l : List Kind). get_or kind q 0 < length l) p.known.listed
        (subst (λ (r : ℕ). get_or kind r 0 < length K) (zero-add q) (declared_at K kind numbers 0 count.cards p.declared.0 q h));
    notice_kinds = λ q a h. subst (λ (l : List Kind). get_or kind q 0 < length l) p.known.listed
        (subst (λ (r : ℕ). get_or kind r 0 < length K) (let e : 256 + (q - 256) ≡ q = omega arith in e) (declared_at K kind numbers 256 count.notices p.declared.1 (q - 256) (omega arith)));
  }

  module _ (allowance : ℕ) (turn : Turn) (q : Parts) (a : Attempted strip kind numbers count.cards count.notices allowance turn q) where
    -- the attempt, by the kinds that are listed
    attempted : attempt (words_at strip) allowance board ≡ attempt_by K board turn q
    attempted = subst (λ (l : List Kind). attempt (words_at strip) allowance (board_in l kind numbers count) ≡ attempt_by l (board_in l kind numbers count) turn q) (sym p.known.listed) (sym a.is)

    counts : Counted K q
    counts = subst (λ (l : List Kind). Counted l q) (sym p.known.listed) a.counted

    module _ (cards notices : ℕ) (c : cards ≡ q.made_cards) (n : notices ≡ q.made_notices) where
      all_made : cards + notices ≡ q.made_cards + q.made_notices
      all_made = omega arith

      abbrev did : Work
      did = record { used = used_of q.marks; made = made_facts K q.made_kind q.made_numbers (cards + notices) }

      module _ (rule : ℕ) (e : turn ≡ T.Fire rule) (kind' numbers' : List ℕ) (r : Option Count)
          (s : MadeSettled K kind numbers count q.marks q.made_kind q.made_numbers cards notices kind' numbers' r) where
        settles : attempt (words_at strip) allowance board ≡ done (settle K board rule did)
        settles =
            attempted ∙ ap (λ (t : Turn). attempt_by K board t q) e
            ∙ ap (λ (m : ℕ). done (settle K board rule (record { used = used_of q.marks; made = made_facts K q.made_kind q.made_numbers m }))) (sym all_made)

        firing : (x : Option Count) → r ≡ x → attempt (words_at strip) allowance board ≡ done (firing_of K kind' numbers' rule x)
        firing x g = settles ∙ ap done (sym (s.is rule)) ∙ ap (λ (y : Option Count). done (firing_of K kind' numbers' rule y)) g

        pub look_fired : (after : Count) → r ≡ Some after → Looked strip allowance K kind numbers count (Fired rule after) kind' numbers'
        look_fired after g =
            let few : (after.cards ≤ most_cards) × (after.notices ≤ most_notices) = subst (AfterMade K kind numbers count kind' numbers') g s.board in
            let made : Declared K did.made = facts_declared K q.made_kind q.made_numbers 0 (cards + notices) (λ i h. subst (λ (x : ℕ). get_or q.made_kind x 0 < length K) (sym (zero-add i)) (counts.declared i (omega arith))) in
            let is : fired rule (board_in K kind' numbers' after) ≡ settle K board rule did = ap (firing_of K kind' numbers' rule) (sym g) ∙ s.is rule in
            record {
              is = firing (Some after) g;
              stays = tt;
              cards = few.0;
              notices = few.1;
              sized = s.sized;
              declared = fired_declared K board (board_in K kind' numbers' after) rule did p.declared made is;
            }
