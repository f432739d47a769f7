-- Boards as they stand in a file: rows of a kind and so many bytes, whatever the bytes are. A file is accepted exactly if it is made of rows
-- that fit the kinds, cards before notices, and it then holds what they say.
use Prim.Native.Nat.{ℕ, zero, suc, ◌+◌, ◌*◌, ◌-◌, ◌≤◌, ◌<◌}
use native.Mathlib.Omega.{arith}
use Rattle.std.specs.Prelude.{◌≡◌, refl, ◌⊎◌, Bool, not, ◌&&◌, get_or, drop, eqb, ltb, if◌then◌else◌}
use Rattle.std.proofs.Common.{sym, ap₂, ◌∙◌, inl, inr, length-append}
use Rattle.std.proofs.Math.Path.{ap}
use Rattle.std.proofs.Math.Bool.{true, false}
use Rattle.std.proofs.lemmas.Bool.{false≢true}
use mathlib.Core.List.{List, [], ◌∷◌, ◌++◌, map, append_assoc, append-nil}
use Rattle.std.proofs.Math.ListN.{length}
use borrow.Author.Tests.{ltb-true, lt-ltb, eqb-true, not-true}
use Rattle.meaning.specs.Basics.{All}
use Rattle.meaning.specs.Facts.{Kind, Fact, Board, most_cards, most_notices, is_card, arity_of}
use Rattle.files.specs.Numbers.{Refusal, PLACE, MANY, FIELD}
use Rattle.files.specs.Marks.{CA, NO, EN, is_mark}
use Rattle.files.specs.Judge.{Verdict, accepted, Judged, go, ended, stop, at_end, after_record, judge}
use Rattle.files.specs.Board.{Mark, mark_of, is_empty, is_of_class, numbers, row, marked, board_record, empty_board, judge_board}
use Rattle.files.specs.Board as B
use Rattle.files.specs.InPlace.{byte_at, fact_at, board_at}
use Rattle.files.specs.Encode.{concat_map}
use Rattle.encoding.specs.Bytes.{said}
use Rattle.encoding.specs.Records.{Reads, byte_here, further, numbers-at, records-at}
use Rattle.encoding.specs.Judging.{both, not-accepted, demanded, byte_read, numbers_read, numbers_there}

-- a row as it stands: its kind, and the bytes of its numbers
pub record Written : Type 0 where
  pub kind : ℕ
  pub bytes : List ℕ

-- the fact that it says
abbrev pub meant : Written → Fact
meant w = record { kind = w.kind; numbers = said w.bytes }

abbrev pub written : List ℕ → Written → List ℕ
written mark w = mark ++ (w.kind ∷ w.bytes)

-- cards, then notices, then `en`
abbrev pub file_of : List Written → List Written → List ℕ
file_of cards notices = concat_map (written CA) cards ++ (concat_map (written NO) notices ++ EN)

abbrev pub board_of : List Written → List Written → Board
board_of cards notices = record { cards = map meant cards; notices = map meant notices }

-- its kind is declared, and of the class, and it has two bytes for each number
pub record Fits (kinds : List Kind) (card : Bool) (w : Written) : Type 0 where
  pub declared : w.kind < length kinds
  pub class : is_card kinds w.kind ≡ card
  pub size : length w.bytes ≡ 2 * arity_of kinds w.kind

-- ---- tests

of-class : (kinds : List Kind) (card : Bool) (k : ℕ) → is_of_class kinds card k ≡ true → (k < length kinds) × (is_card kinds k ≡ card)
of-class kinds true k e = let h = both (ltb k (length kinds)) (is_card kinds k) e in (ltb-true k (length kinds) h.0, h.1)
of-class kinds false k e =
    let h = both (ltb k (length kinds)) (not (is_card kinds k)) e in (ltb-true k (length kinds) h.0, not-true (is_card kinds k) h.1)

is_of_class_lem : (kinds : List Kind) (card : Bool) (k : ℕ) → k < length kinds → is_card kinds k ≡ card → is_of_class kinds card k ≡ true
is_of_class_lem kinds true k h e = rw (lt-ltb k (length kinds) h) e
is_of_class_lem kinds false k h e = rw (lt-ltb k (length kinds) h) (ap not e)

empty_nil : {A : Type 0} (xs : List A) → is_empty xs ≡ true → xs ≡ []
empty_nil [] e = refl
empty_nil (x ∷ xs) e = absurd (false≢true e)

-- ---- one record

abbrev with_card : Board → Fact → Board
with_card s f = record { cards = s.cards ++ (f ∷ []); notices = s.notices }

abbrev with_notice : Board → Fact → Board
with_notice s f = record { cards = s.cards; notices = s.notices ++ (f ∷ []) }

record IsCard (kinds : List Kind) (s : Board) (rest : List ℕ) (s' : Board) (rest' : List ℕ) : Type 0 where
  row : Written
  fits : Fits kinds true row
  early : s.notices ≡ []
  room : length s.cards < most_cards
  was : rest ≡ written CA row ++ rest'
  adds : s' ≡ with_card s (meant row)

record IsNotice (kinds : List Kind) (s : Board) (rest : List ℕ) (s' : Board) (rest' : List ℕ) : Type 0 where
  row : Written
  fits : Fits kinds false row
  room : length s.notices < most_notices
  was : rest ≡ written NO row ++ rest'
  adds : s' ≡ with_notice s (meant row)

-- what a record that is not refused is
abbrev Next : List Kind → Board → List ℕ → Judged Board → Type 0
Next kinds s rest (go s' rest') = IsCard kinds s rest s' rest' ⊎ IsNotice kinds s rest s' rest'
Next kinds s rest (ended s' rest') = (s' ≡ s) × (rest ≡ EN ++ rest')
Next kinds s rest (stop why place) = Unit {0}

abbrev letters : Mark → ℕ → ℕ → Type 0
letters B.ca x y = (x ≡ 0x63) × (y ≡ 0x61)
letters B.no x y = (x ≡ 0x6e) × (y ≡ 0x6f)
letters B.en x y = (x ≡ 0x65) × (y ≡ 0x6e)
letters B.other x y = Unit {0}

mark-letters : (x y : ℕ) → letters (mark_of x y) x y
mark-letters x y = cases (is_mark CA x y) (is_mark NO x y) (is_mark EN x y) refl refl refl
  where
    are : (a b : ℕ) → (eqb x a && eqb y b) ≡ true → (x ≡ a) × (y ≡ b)
    are a b e = let h = both (eqb x a) (eqb y b) e in (eqb-true x a h.0, eqb-true y b h.1)

    cases : (p q r : Bool) → is_mark CA x y ≡ p → is_mark NO x y ≡ q → is_mark EN x y ≡ r
        → letters (if p then B.ca else if q then B.no else if r then B.en else B.other) x y
    cases true q r e f g = are 0x63 0x61 e
    cases false true r e f g = are 0x6e 0x6f f
    cases false false true e f g = are 0x65 0x6e g
    cases false false false e f g = tt

module _ (kinds : List Kind) (n : ℕ) where
  -- the fields of a row are a row that fits
  row_read : (P : Judged Board → Type 0) → ((why : Refusal) (place : ℕ) → P (stop why place)) → (card : Bool) (at : ℕ) (rest : List ℕ)
      (next : Fact → List ℕ → Judged Board)
      → ((w : Written) (tail : List ℕ) → Fits kinds card w → rest ≡ (w.kind ∷ w.bytes) ++ tail → P (next (meant w) tail))
      → P (row kinds n card at rest next)
  row_read P refusal card at rest next h =
      byte_read P refusal n rest _ λ k tail e.
      demanded P refusal (is_of_class kinds card k) FIELD at _ λ c.
      numbers_read P refusal n (arity_of kinds k) tail _ λ bytes tail₂ l e₂.
      let d = of-class kinds card k c in
      h (record { kind = k; bytes = bytes }) tail₂ (record { declared = d.0; class = d.1; size = l }) (e ∙ ap (λ (q : List ℕ). k ∷ q) e₂)

  marked_next : (m : Mark) (at x y : ℕ) (s : Board) (rest : List ℕ) → letters m x y → Next kinds s (x ∷ y ∷ rest) (marked kinds n m at s rest)
  marked_next B.ca at x y s rest l =
      let P = Next kinds s (x ∷ y ∷ rest) in
      demanded P (λ why place. tt) (is_empty s.notices) PLACE at _ λ e.
      demanded P (λ why place. tt) (ltb (length s.cards) most_cards) MANY at _ λ r.
      row_read P (λ why place. tt) true at rest (λ f tail. go (with_card s f) tail) λ w tail f q.
      inl (record {
        row = w;
        fits = f;
        early = empty_nil s.notices e;
        room = ltb-true (length s.cards) most_cards r;
        was = cc (l.0, l.1, q);
        adds = refl;
      })
  marked_next B.no at x y s rest l =
      let P = Next kinds s (x ∷ y ∷ rest) in
      demanded P (λ why place. tt) (ltb (length s.notices) most_notices) MANY at _ λ r.
      row_read P (λ why place. tt) false at rest (λ f tail. go (with_notice s f) tail) λ w tail f q.
      inr (record { row = w; fits = f; room = ltb-true (length s.notices) most_notices r; was = cc (l.0, l.1, q); adds = refl })
  marked_next B.en at x y s rest l = (refl, cc (l.0, l.1))
  marked_next B.other at x y s rest l = tt

  record_next : (s : Board) (rest : List ℕ) → Next kinds s rest (board_record kinds n s rest)
  unfolding board_record
  record_next s [] = tt
  record_next s (x ∷ []) = tt
  record_next s (x ∷ y ∷ rest) = marked_next (mark_of x y) (n - suc (suc (length rest))) x y s rest (mark-letters x y)

-- ---- an accepted file is made of rows that fit

-- what is left of the file, and the board that is accepted, where s is read so far
record Held (kinds : List Kind) (s : Board) (rest : List ℕ) (board : Board) : Type 0 where
  cards : List Written
  notices : List Written
  was : rest ≡ file_of cards notices
  early : (s.notices ≡ [] → ⊥) → cards ≡ []
  all : board ≡ record { cards = s.cards ++ map meant cards; notices = s.notices ++ map meant notices }
  cards_fit : All (Fits kinds true) cards
  notices_fit : All (Fits kinds false) notices
  cards_room : length s.cards ≤ most_cards → length board.cards ≤ most_cards
  notices_room : length s.notices ≤ most_notices → length board.notices ≤ most_notices

not_nil : {A : Type 0} (xs : List A) (x : A) → xs ++ (x ∷ []) ≡ [] → ⊥
not_nil [] x e = let z : ◌≡◌ {A = ℕ} 0 1 = cc in omega arith
not_nil (y ∷ xs) x e = let z : ◌≡◌ {A = ℕ} 0 1 = cc in omega arith

one_more_lem : {A : Type 0} (xs : List A) (x : A) → length (xs ++ (x ∷ [])) ≡ suc (length xs)
one_more_lem xs x = omega (arith, length-append xs (x ∷ []))

module _ (kinds : List Kind) (n : ℕ) where
  card-held : (s s' : Board) (rest rest' : List ℕ) (board : Board) → IsCard kinds s rest s' rest' → Held kinds s' rest' board → Held kinds s rest board
  unfolding concat_map
  card-held s s' rest rest' board c h = record {
    cards = c.row ∷ h.cards;
    notices = h.notices;
    was = c.was ∙ rw (h.was, append_assoc);
    early = λ late. absurd (late c.early);
    all = rw (c.adds, append_assoc) at h.all;
    cards_fit = (c.fits, h.cards_fit);
    notices_fit = h.notices_fit;
    cards_room = λ r. h.cards_room (omega (arith, ap (λ (b : Board). length b.cards) c.adds, one_more_lem s.cards (meant c.row), c.room));
    notices_room = λ r. h.notices_room (omega (arith, ap (λ (b : Board). length b.notices) c.adds));
  }

  notice_held : (s s' : Board) (rest rest' : List ℕ) (board : Board) → IsNotice kinds s rest s' rest' → Held kinds s' rest' board
      → Held kinds s rest board
  unfolding concat_map
  notice_held s s' rest rest' board c h =
      let late : h.cards ≡ [] = h.early (λ e. not_nil s.notices (meant c.row) (sym (ap (λ (b : Board). b.notices) c.adds) ∙ e)) in
      record {
        cards = [];
        notices = c.row ∷ h.notices;
        was = c.was ∙ rw (h.was, late, append_assoc);
        early = λ q. refl;
        all = rw (c.adds, late, append_assoc s.notices (meant c.row ∷ []) (map meant h.notices)) at h.all;
        cards_fit = tt;
        notices_fit = (c.fits, h.notices_fit);
        cards_room = λ r. h.cards_room (omega (arith, ap (λ (b : Board). length b.cards) c.adds));
        notices_room = λ r. h.notices_room (omega (arith, ap (λ (b : Board). length b.notices) c.adds, one_more_lem s.notices (meant c.row), c.room));
      }

  end-held : (s s' : Board) (rest rest' : List ℕ) (board : Board) → s' ≡ s → rest ≡ EN ++ rest' → at_end n s' rest' ≡ accepted board
      → Held kinds s rest board
  unfolding concat_map
  end-held s s' rest [] board e w q = record {
    cards = [];
    notices = [];
    was = w;
    early = λ q. refl;
    all = rw (append-nil s.cards, append-nil s.notices) (cc);
    cards_fit = tt;
    notices_fit = tt;
    cards_room = λ r. rw (← (let b : s ≡ board = cc in b)) r;
    notices_room = λ r. rw (← (let b : s ≡ board = cc in b)) r;
  }
  end-held s s' rest (b ∷ rest') board e w q = absurd (not-accepted q)

  judge-held : (turns : ℕ) (s : Board) (rest : List ℕ) (board : Board) → judge n (board_record kinds n) turns s rest ≡ accepted board
      → Held kinds s rest board
  unfolding judge
  judge-held zero s rest board e = absurd (not-accepted e)
  judge-held (suc turns) s rest board e = cases (judge-held turns) (board_record kinds n s rest) (record_next kinds n s rest) e
    where
      cases : ((s : Board) (rest : List ℕ) (board : Board) → judge n (board_record kinds n) turns s rest ≡ accepted board → Held kinds s rest board)
          → (st : Judged Board) → Next kinds s rest st
          → after_record n st (λ s' rest'. judge n (board_record kinds n) turns s' rest') ≡ accepted board → Held kinds s rest board
      cases ih (go s' rest') (inl c) q = card-held s s' rest rest' board c (ih s' rest' board q)
      cases ih (go s' rest') (inr c) q = notice_held s s' rest rest' board c (ih s' rest' board q)
      cases ih (ended s' rest') h q = end-held s s' rest rest' board h.0 h.1 q
      cases ih (stop why place) h q = absurd (not-accepted q)

-- the rows of a file that is accepted as the board
pub record Rows (kinds : List Kind) (file : List ℕ) (board : Board) : Type 0 where
  pub cards : List Written
  pub notices : List Written
  pub was : file ≡ file_of cards notices
  pub all : board ≡ board_of cards notices
  pub cards_fit : All (Fits kinds true) cards
  pub notices_fit : All (Fits kinds false) notices
  pub cards_size : length board.cards ≤ most_cards
  pub notices_size : length board.notices ≤ most_notices

pub accepted-rows : (kinds : List Kind) (file : List ℕ) (board : Board) → judge_board kinds file ≡ accepted board → Rows kinds file board
unfolding judge_board
accepted-rows kinds file board e =
    let h = judge-held kinds (length file) (suc (length file)) empty_board file board e in
    record {
      cards = h.cards;
      notices = h.notices;
      was = h.was;
      all = h.all;
      cards_fit = h.cards_fit;
      notices_fit = h.notices_fit;
      cards_size = h.cards_room (omega arith);
      notices_size = h.notices_room (omega arith);
    }

-- ---- a file that is made of rows that fit is accepted

module _ (kinds : List Kind) (n : ℕ) where
  card-go : (s : Board) (w : Written) (rest : List ℕ) → Fits kinds true w → s.notices ≡ [] → length s.cards < most_cards
      → board_record kinds n s (written CA w ++ rest) ≡ go (with_card s (meant w)) rest
  unfolding board_record
  card-go s w rest f e h =
      rw (e, lt-ltb (length s.cards) most_cards h, is_of_class_lem kinds true w.kind f.declared f.class)
      (numbers_there n (arity_of kinds w.kind) w.bytes rest _ f.size)

  notice_go : (s : Board) (w : Written) (rest : List ℕ) → Fits kinds false w → length s.notices < most_notices
      → board_record kinds n s (written NO w ++ rest) ≡ go (with_notice s (meant w)) rest
  unfolding board_record
  notice_go s w rest f h =
      rw (lt-ltb (length s.notices) most_notices h, is_of_class_lem kinds false w.kind f.declared f.class)
      (numbers_there n (arity_of kinds w.kind) w.bytes rest _ f.size)

  abbrev onward : ℕ → Judged Board → Verdict Board
  onward turns st = after_record n st (λ s' rest'. judge n (board_record kinds n) turns s' rest')

  notices-judged : (notices : List Written) (s : Board) (turns : ℕ) → length notices ≤ turns → All (Fits kinds false) notices
      → length s.notices + length notices ≤ most_notices
      → judge n (board_record kinds n) (suc turns) s (concat_map (written NO) notices ++ EN)
      ≡ accepted (record { cards = s.cards; notices = s.notices ++ map meant notices })
  unfolding judge concat_map board_record
  notices-judged [] s turns t f h = rw (append-nil s.notices)
  notices-judged (w ∷ notices) s zero t f h = let bad : ⊥ = omega arith in absurd bad
  notices-judged (w ∷ notices) s (suc turns) t f h =
      let tail = concat_map (written NO) notices ++ EN in
      ap (λ (l : List ℕ). onward (suc turns) (board_record kinds n s l)) (append_assoc (written NO w) (concat_map (written NO) notices) EN)
      ∙ ap (onward (suc turns)) (notice_go s w tail f.0 (omega arith))
      ∙ notices-judged notices (with_notice s (meant w)) turns (omega arith) f.1 (omega (arith, one_more_lem s.notices (meant w)))
      ∙ rw (append_assoc s.notices (meant w ∷ []) (map meant notices))

  rows-judged : (cards notices : List Written) (s : Board) (turns : ℕ) → length cards + length notices ≤ turns → s.notices ≡ []
      → All (Fits kinds true) cards → All (Fits kinds false) notices → length s.cards + length cards ≤ most_cards → length notices ≤ most_notices
      → judge n (board_record kinds n) (suc turns) s (file_of cards notices)
      ≡ accepted (record { cards = s.cards ++ map meant cards; notices = map meant notices })
  unfolding judge concat_map board_record
  rows-judged [] notices s turns t e f g h k =
      notices-judged notices s turns (omega arith) g (omega (arith, ap length e)) ∙ rw (e, append-nil s.cards)
  rows-judged (w ∷ cards) notices s zero t e f g h k = let bad : ⊥ = omega arith in absurd bad
  rows-judged (w ∷ cards) notices s (suc turns) t e f g h k =
      let tail = concat_map (written NO) notices ++ EN in
      ap (λ (l : List ℕ). onward (suc turns) (board_record kinds n s l)) (append_assoc (written CA w) (concat_map (written CA) cards) tail)
      ∙ ap (onward (suc turns)) (card-go s w (file_of cards notices) f.0 e (omega arith))
      ∙ rows-judged cards notices (with_card s (meant w)) turns (omega arith) e f.1 g (omega (arith, one_more_lem s.cards (meant w))) k
      ∙ rw (append_assoc s.cards (meant w ∷ []) (map meant cards))

-- there are at least as many bytes as rows
enough : (mark : List ℕ) (rows : List Written) → length rows ≤ length (concat_map (written mark) rows)
unfolding concat_map
enough mark [] = omega arith
enough mark (w ∷ rows) =
    omega (arith, enough mark rows, length-append (written mark w) (concat_map (written mark) rows), length-append mark (w.kind ∷ w.bytes))

pub rows-accepted : (kinds : List Kind) (cards notices : List Written) → All (Fits kinds true) cards → All (Fits kinds false) notices
    → length cards ≤ most_cards → length notices ≤ most_notices → judge_board kinds (file_of cards notices) ≡ accepted (board_of cards notices)
unfolding judge_board
rows-accepted kinds cards notices f g h k =
    let n = length (file_of cards notices) in
    rows-judged kinds n cards notices empty_board n
    (omega (arith, enough CA cards, enough NO notices, length-append (concat_map (written CA) cards) (concat_map (written NO) notices ++ EN), length-append (concat_map (written NO) notices) EN))
    refl f g (omega arith) k

-- ---- and what it says is read there

fact-at : (file : List ℕ) (kinds : List Kind) (card : Bool) (w : Written) (p : ℕ) (rest : List ℕ) → Fits kinds card w
    → drop p file ≡ (w.kind ∷ w.bytes) ++ rest → Reads file (fact_at file kinds p) (meant w) rest
fact-at file kinds card w p rest f e =
    let kind : byte_at file p ≡ w.kind = byte_here file p (w.kind ∷ (w.bytes ++ rest)) e in
    let here = further file p (w.kind ∷ (w.bytes ++ rest)) e 1 in
    let r = numbers-at file (arity_of kinds w.kind) (p + 1) w.bytes rest f.size here in
    rw kind (ap (λ (vs : List ℕ). record { kind = w.kind; numbers = vs }) r.0, r.1)

no_card_lem : (notices : List Written)
    → is_mark CA (get_or (concat_map (written NO) notices ++ EN) 0 0) (get_or (concat_map (written NO) notices ++ EN) 1 0) ≡ false
unfolding concat_map
no_card_lem [] = refl
no_card_lem (w ∷ notices) = refl

pub rows_in_place : (kinds : List Kind) (cards notices : List Written) → All (Fits kinds true) cards → All (Fits kinds false) notices
    → length cards ≤ most_cards → length notices ≤ most_notices → board_at (file_of cards notices) kinds ≡ board_of cards notices
unfolding board_at
rows_in_place kinds cards notices f g h k =
    let file = file_of cards notices in
    let first = records-at file 0x63 0x61 (fact_at file kinds) (λ w. w.kind ∷ w.bytes) meant (Fits kinds true) (fact-at file kinds true)
    most_cards cards 0 (concat_map (written NO) notices ++ EN) h f refl (no_card_lem notices) in
    let second = records-at file 0x6e 0x6f (fact_at file kinds) (λ w. w.kind ∷ w.bytes) meant (Fits kinds false) (fact-at file kinds false)
    most_notices notices _ EN k g first.1 refl in
    ap₂ (λ (c n : List Fact). record { cards = c; notices = n }) first.0 second.0
