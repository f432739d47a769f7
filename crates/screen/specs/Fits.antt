-- How long a display is at most, so that a screen of that many bytes shows all of it.
use Rattle.std.specs.Prelude.{ℕ, zero, suc, ◌+◌, ◌*◌, ◌/◌, ◌%◌, ◌≤◌, ◌<◌, ◌≡◌, Bool, true, false, List, [], ◌∷◌, ◌++◌, take, drop, ltb, if◌then◌else◌}
use Rattle.std.proofs.Common.{div-lt_iff_lt-mul, add-zero, zero-add, arith, sym, ap, ap₂, ◌∙◌, append_assoc, length-append, take_at, lt-ltb}
use Rattle.std.proofs.Math.Path.{refl}
use Rattle.std.proofs.Math.ListN.{length}
use Rattle.std.proofs.Math.Seq.{set-append_seam}
use Rattle.meaning.specs.Basics.{All}
use Rattle.meaning.specs.Facts.{Kind, Fact, Board, arity_of, most_kinds, most_numbers, number_limit}
use Rattle.meaning.specs.Rules.{Book}
use Rattle.meaning.specs.Firing.{End, Quiet, Limit, Full, Spent, Stuck, Ran, run}
use Rattle.meaning.specs.WellFormed.{GoodKind, GoodFact, GoodBoard}
use Rattle.files.specs.Numbers.{Refusal, refusal_number, end_number}
use Rattle.files.specs.Judge.{Bytes, Verdict, accepted, refused}
use Rattle.files.specs.Board.{judge_board}
use Rattle.files.specs.Book.{judge_book}
use Rattle.files.specs.Encode.{concat_map}
use Rattle.files.specs.Display.{digits_before, decimal, space, newline, row_line, card_text, notice_text, end_text, rule_text, book_text, board_text, ran_lines, refused_line, or_refused_line, display, display_limit}
use Rattle.book_encoding.specs.Accepted.{book_accepted}
use Rattle.encoding.specs.Boards.{board-accepted}
use Rattle.firings.specs.Keeping.{run_keeps_good}
use Rattle.answers.specs.Shown.{most_place}
use Rattle.screen.specs.Put.{Output, reached, put, put_byte}
use Rattle.screen.specs.Shows.{TextPut}
use Rattle.screen.specs.Displayed.{screen_text, screen_is_display}

-- a line for the end, 256 of 32 bytes for the cards, 128 of 34 for the notices
abbrev pub screen_bytes : ℕ
screen_bytes = 12608

-- ---- numbers

abbrev tens : ℕ → ℕ
tens zero = 1
tens (suc k) = 10 * tens k

digits_few : (left k n : ℕ) (digits : List ℕ) → n < tens (suc k) → length (digits_before left n digits) ≤ suc k + length digits
unfolding digits_before
digits_few zero k n digits h = omega arith
digits_few (suc left) zero n digits h = rw (lt-ltb n 10 h) (omega arith)
digits_few (suc left) (suc k) n digits h = by (ltb n 10)
    (digits_few left k (n / 10) ((48 + n % 10) ∷ digits) ((div-lt_iff_lt-mul (omega arith)).1 (omega arith)))
  where
    by : (t : Bool) → length (digits_before left (n / 10) ((48 + n % 10) ∷ digits)) ≤ suc k + suc (length digits)
        → length (if t then (48 + n) ∷ digits else digits_before left (n / 10) ((48 + n % 10) ∷ digits)) ≤ suc (suc k) + length digits
    by true less = omega arith
    by false less = omega arith

digits_most : (left n : ℕ) (digits : List ℕ) → length (digits_before left n digits) ≤ left + length digits
unfolding digits_before
digits_most zero n digits = omega arith
digits_most (suc left) n digits = by (ltb n 10) (digits_most left (n / 10) ((48 + n % 10) ∷ digits))
  where
    by : (t : Bool) → length (digits_before left (n / 10) ((48 + n % 10) ∷ digits)) ≤ left + suc (length digits)
        → length (if t then (48 + n) ∷ digits else digits_before left (n / 10) ((48 + n % 10) ∷ digits)) ≤ suc left + length digits
    by true less = omega arith
    by false less = omega arith

-- ---- rows

concat_size : {A : Type 0} (f : A → List ℕ) (Good : A → Type 0) (each : ℕ) → ((a : A) → Good a → length (f a) ≤ each) → (l : List A) → All Good l
    → length (concat_map f l) ≤ each * length l
unfolding concat_map
concat_size f Good each h [] goods = omega arith
concat_size f Good each h (a ∷ l) goods =
    omega (arith, length-append (f a) (concat_map f l), h a goods.0, concat_size f Good each h l goods.1)

arity_size : (kinds : List Kind) (k : ℕ) → All GoodKind kinds → arity_of kinds k ≤ most_numbers
arity_size [] k goods = omega arith
arity_size (kind ∷ kinds) zero goods = goods.0
arity_size (kind ∷ kinds) (suc k) goods = arity_size kinds k goods.1

abbrev spaced : ℕ → List ℕ
spaced n = space ++ decimal n

spaced_size : (n : ℕ) → n < number_limit → length (spaced n) ≤ 6
spaced_size n h = let small : n < 100000 = omega arith in omega (arith, digits_few 20 4 n [] small)

row_size : (kinds : List Kind) (card : Bool) (text : List ℕ) (f : Fact) → length kinds ≤ most_kinds → All GoodKind kinds → GoodFact kinds card f
    → length (row_line text f) ≤ length text + 27
row_size kinds card text f k g good =
    let small : f.kind < 100 = omega (arith, good.declared) in
    omega (
      arith,
      length-append text (decimal f.kind ++ (concat_map spaced f.numbers ++ newline)),
      length-append (decimal f.kind) (concat_map spaced f.numbers ++ newline),
      length-append (concat_map spaced f.numbers) newline,
      digits_few 20 1 f.kind [] small,
      concat_size spaced (λ n. n < number_limit) 6 spaced_size f.numbers good.numbers,
      good.arity,
      arity_size kinds f.kind g,
    )

-- ---- the display

refusal_size : (file : List ℕ) (why : Refusal) (place : ℕ) → length file ≤ 6 → length (refused_line file why place) ≤ screen_bytes
refusal_size file why place h =
    omega (
      arith,
      length-append file (decimal (refusal_number why) ++ (space ++ (decimal place ++ newline))),
      length-append (decimal (refusal_number why)) (space ++ (decimal place ++ newline)),
      length-append (decimal place) newline,
      digits_most 20 (refusal_number why) [],
      digits_most 20 place [],
    )

ran_size : (kinds : List Kind) (ran : Ran) → length kinds ≤ most_kinds → All GoodKind kinds → GoodBoard kinds ran.board → length (ran_lines ran) ≤ screen_bytes
ran_size kinds ran k g good =
    let cards = concat_map (row_line card_text) ran.board.cards in
    let notices = concat_map (row_line notice_text) ran.board.notices in
    let rule = decimal ran.rule ++ newline in
    let end = decimal (end_number ran.end) ++ (rule_text ++ rule) in
    let line = decimal ran.firings ++ (end_text ++ end) in
    omega (
      arith,
      length-append line (cards ++ notices),
      length-append cards notices,
      length-append (decimal ran.firings) (end_text ++ end),
      length-append (decimal (end_number ran.end)) (rule_text ++ rule),
      length-append (decimal ran.rule) newline,
      digits_most 20 ran.firings [],
      digits_few 20 1 (end_number ran.end) [] (ends_small ran.end),
      digits_most 20 ran.rule [],
      concat_size (row_line card_text) (GoodFact kinds true) 32 (λ f h. row_size kinds true card_text f k g h) ran.board.cards good.cards,
      concat_size (row_line notice_text) (GoodFact kinds false) 34 (λ f h. row_size kinds false notice_text f k g h) ran.board.notices good.notices,
      good.cards_size,
      good.notices_size,
    )
  where
    ends_small : (end : End) → end_number end < 100
    ends_small Quiet = omega arith
    ends_small Limit = omega arith
    ends_small Full = omega arith
    ends_small Spent = omega arith
    ends_small Stuck = omega arith

module _ (book_file board_file : List ℕ) (book_bytes : Bytes book_file) (board_bytes : Bytes board_file) where
  -- a screen of so many bytes shows all of a display
  pub display-fits : length (display book_file board_file) ≤ screen_bytes
  unfolding display
  display-fits = by (judge_book book_file) refl
    where
      on : (b : Book) → judge_book book_file ≡ accepted b → (v : Verdict Board) → judge_board b.kinds board_file ≡ v
          → length (or_refused_line board_text v λ rows. ran_lines (run b display_limit rows)) ≤ screen_bytes
      on b e (refused why place) f = refusal_size board_text why place (omega arith)
      on b e (accepted rows) f =
          let good = (book_accepted book_file b book_bytes e).0 in
          ran_size b.kinds (run b display_limit rows) good.kinds_size good.kinds
          (run_keeps_good b good display_limit rows (board-accepted b.kinds board_file rows board_bytes f).0)

      by : (v : Verdict Book) → judge_book book_file ≡ v
          → length (or_refused_line book_text v λ b. or_refused_line board_text (judge_board b.kinds board_file) λ rows. ran_lines (run b display_limit rows)) ≤ screen_bytes
      by (refused why place) e = refusal_size book_text why place (omega arith)
      by (accepted b) e = on b e (judge_board b.kinds board_file) refl

-- ---- a text that fits is put whole

put-from : (before text rest : List ℕ) → length text ≤ length rest
    → put (reached (before ++ rest) (length before)) text ≡ reached (before ++ (text ++ drop (length text) rest)) (length before + length text)
unfolding put
put-from before [] rest h = ap (reached (before ++ rest)) (sym (add-zero (length before)))
put-from before (byte ∷ text) [] h = let bad : ⊥ = omega arith in absurd bad
put-from before (byte ∷ text) (old ∷ rest) h =
    let longer : length (before ++ (byte ∷ [])) ≡ length before + 1 = length-append before (byte ∷ []) in
    let inside : length before < length (before ++ (old ∷ rest)) = omega (arith, length-append before (old ∷ rest)) in
    let step : put_byte (reached (before ++ (old ∷ rest)) (length before)) byte ≡ reached ((before ++ (byte ∷ [])) ++ rest) (length (before ++ (byte ∷ []))) =
    rw (lt-ltb (length before) (length (before ++ (old ∷ rest))) inside)
    (ap₂ reached (set-append_seam before old rest byte ∙ sym (append_assoc before (byte ∷ []) rest)) (sym longer)) in
    ap (λ (o : Output). put o text) step
    ∙ put-from (before ++ (byte ∷ [])) text rest (omega arith)
    ∙ ap₂ reached (append_assoc before (byte ∷ []) (text ++ drop (length text) rest)) (omega (arith, longer))

-- WHAT IS PRINTED: the text that a display leaves in a screen of enough bytes is document 01's, whole
pub printed : (book_file board_file before after : List ℕ) (r : ℕ) → Bytes book_file → Bytes board_file → length book_file < most_place → length board_file < most_place
    → screen_bytes ≤ length before → TextPut (screen_text book_file board_file) before after r → take r after ≡ display book_file board_file
printed book_file board_file before after r book_bytes board_bytes book_short board_short room put =
    let same = screen_is_display book_file board_file book_bytes board_bytes book_short board_short in
    let fits : length (screen_text book_file board_file) ≤ length before = rw same (omega (arith, display-fits book_file board_file book_bytes board_bytes)) in
    let whole : reached after r ≡ reached (screen_text book_file board_file ++ drop (length (screen_text book_file board_file)) before) (length (screen_text book_file board_file)) =
    put.whole ∙ put-from [] (screen_text book_file board_file) before fits ∙ ap (reached (screen_text book_file board_file ++ drop (length (screen_text book_file board_file)) before)) (zero-add (length (screen_text book_file board_file))) in
    ap (λ (o : Output). take o.place o.bytes) whole
    ∙ take_at (screen_text book_file board_file) (drop (length (screen_text book_file board_file)) before) (length (screen_text book_file board_file)) refl
    ∙ same
