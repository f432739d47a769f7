-- What the pieces of a text come to: one law for each way that a function ends, in its own terms.
use Rattle.std.specs.Prelude.{if◌then◌else◌}
use Prim.Native.Nat.{ℕ, zero, suc, ◌+◌, ◌-◌, ◌*◌, ◌/◌, ◌%◌, ◌≤◌, ◌<◌}
use native.Mathlib.Nat.{mod-eq_of_lt, add-zero, sub-zero}
use native.Mathlib.Numerals.{add-one}
use native.Mathlib.Omega.{arith}
use mathlib.Core.Path.{◌≡◌, refl, sym, ap, ap₂, subst, ◌∙◌}
use mathlib.Core.Bool.{Bool, true, false, not}
use mathlib.Core.List.{List, [], ◌∷◌, ◌++◌, append_assoc}
use lib.ListN.{length, get_or, take, set, length-set}
use lib.Seq.{length-take-le, take-suc}
use lib.Dec.{eqb, ltb}
use borrow.Author.Tests.{lt-ltb, le-ltb, ltb-true, eq-eqb, ne_eqb, not-true, not-false}
use Rattle.meaning.specs.Facts.{Kind, Fact, Board, arity_of, most_cards, most_notices}
use Rattle.files.specs.Numbers as N
use Rattle.files.specs.Marks.{CA, NO, is_mark}
use Rattle.files.specs.Encode.{concat_map}
use Rattle.files.specs.InPlace.{Read, prepend, byte_at, two_at, many_at, fact_at, records_at, board_at}
use Rattle.files.specs.Display.{digits_before, decimal, space, newline, card_text, notice_text, row_line}
use Rattle.screen.specs.declared.Writer.{Writer}
use Rattle.screen.specs.Shows.{output_of, Puts, RowPut, RowsPut, TextPut}
use Rattle.screen.specs.Put.{Output, reached, put_byte, put, put_append}
use Rattle.screen.specs.Text.{numbers_text, accepted_line, refusal_line, end_line, board_lines, answer_text}

-- ---- pieces of text, one behind another

pub puts_append : {a b c : Writer} {s t : List ℕ} → Puts a b s → Puts b c t → Puts a c (s ++ t)
puts_append {a = a} {s = s} {t = t} p q = record {
  lent = q.lent ∙ p.lent;
  output = q.output ∙ ap (λ (o : Output). put o t) p.output ∙ sym (put_append (output_of a) s t);
}

pub puts_as : {a b : Writer} {s t : List ℕ} → Puts a b s → s ≡ t → Puts a b t
puts_as {a = a} {b = b} p e = subst (Puts a b) e p

pub puts_none : (w : Writer) → Puts w w []
unfolding put
puts_none w = record { lent = refl; output = refl }

-- ---- a byte

pub byte_put : (out : List ℕ) (at byte : ℕ) → at < length out → reached (set out at byte) (at + 1) ≡ put (reached out at) (byte ∷ [])
unfolding put
byte_put out at byte h = rw (lt-ltb at (length out) h)

pub byte_left : (out : List ℕ) (at byte : ℕ) → length out ≤ at → reached out at ≡ put (reached out at) (byte ∷ [])
unfolding put
byte_left out at byte h = rw (le-ltb at (length out) h)

-- some bytes: those before an index are put
pub bytes_next : {a b c : Writer} (text : List ℕ) (i : ℕ) → Puts a b (take i text) → i < length text → Puts b c (get_or text i 0 ∷ []) → Puts a c (take (i + 1) text)
bytes_next text i p h q = let n : i + 1 ≡ suc i = add-one i in puts_as (puts_append p q) (sym (rw n (take-suc text i 0 h)))

-- ---- digits

digits_then : (most n : ℕ) (digits : List ℕ) → digits_before most n digits ≡ digits_before most n [] ++ digits
unfolding digits_before
digits_then zero n digits = refl
digits_then (suc most) n digits = by (ltb n 10)
    (digits_then most (n / 10) ((48 + n % 10) ∷ digits)
    ∙ sym (append_assoc (digits_before most (n / 10) []) ((48 + n % 10) ∷ []) digits)
    ∙ ap (λ (l : List ℕ). l ++ digits) (sym (digits_then most (n / 10) ((48 + n % 10) ∷ []))))
  where
    by : (t : Bool) → digits_before most (n / 10) ((48 + n % 10) ∷ digits) ≡ digits_before most (n / 10) ((48 + n % 10) ∷ []) ++ digits
        → (if t then (48 + n) ∷ digits else digits_before most (n / 10) ((48 + n % 10) ∷ digits))
        ≡ (if t then (48 + n) ∷ [] else digits_before most (n / 10) ((48 + n % 10) ∷ [])) ++ digits
    by true more = refl
    by false more = more

pub digits_none : {a : Writer} (most n : ℕ) → most ≡ 0 → Puts a a (digits_before most n [])
unfolding put digits_before
digits_none most n e = rw e (record { lent = refl; output = refl })

pub digits_few : {a b c : Writer} (most n digit : ℕ) → ((most ≡ 0) → ⊥) → n < 10 → digit ≡ 48 + n % 10 → b ≡ a → Puts b c (digit ∷ []) → Puts a c (digits_before most n [])
unfolding digits_before
digits_few zero n digit some h d e p = absurd (some refl)
digits_few {c = c} (suc most) n digit some h d e p =
    let q = subst (λ (w : Writer). Puts w c (digit ∷ [])) e p in puts_as q (rw (d, lt-ltb n 10 h, mod-eq_of_lt h))

pub digits_more : {a b b' c : Writer} (most n digit : ℕ) → ((most ≡ 0) → ⊥) → 10 ≤ n → digit ≡ 48 + n % 10
    → Puts a b (digits_before (most - 1) (n / 10) []) → b' ≡ b → Puts b' c (digit ∷ []) → Puts a c (digits_before most n [])
unfolding digits_before
digits_more zero n digit some h d p e q' = absurd (some refl)
digits_more {c = c} (suc most) n digit some h d p e q' =
    let q = subst (λ (w : Writer). Puts w c (digit ∷ [])) e q' in
    let shorter : suc most - 1 ≡ most = omega arith in
    puts_as (puts_append p q) (rw (d, shorter, le-ltb n 10 h) (sym (digits_then most (n / 10) ((48 + n % 10) ∷ []))))

-- ---- marks

module _ (mark file : List ℕ) (at a : ℕ) (first : a ≡ byte_at file at) where
  pub second_letter : (b : ℕ) → b ≡ byte_at file (at + 1) → a ≡ get_or mark 0 0
      → eqb b (get_or mark 1 0) ≡ is_mark mark (byte_at file at) (byte_at file (at + 1))
  second_letter b e h = rw (← first, ← e, eq-eqb a (get_or mark 0 0) h)

  pub first_letter : (a ≡ get_or mark 0 0 → ⊥) → eqb a (get_or mark 0 0) ≡ is_mark mark (byte_at file at) (byte_at file (at + 1))
  first_letter h = rw (← first, ne_eqb a (get_or mark 0 0) h)

-- ---- a row's numbers: those that are put, and those that are left

pub record Numbering (board : List ℕ) (from count : ℕ) (start now : Writer) (next : ℕ) : Type 0 where
  pub lent : now.out.ghost_name ≡ start.out.ghost_name
  pub same : put (output_of now) (numbers_text (many_at (two_at board) 2 (count - next) (from + 2 * next))) ≡ put (output_of start) (numbers_text (many_at (two_at board) 2 count from))

pub numbers-start : (board : List ℕ) (from count : ℕ) (start : Writer) → Numbering board from count start start 0
numbers-start board from count start = record { lent = refl; same = rw (sub-zero count, add-zero from) }

-- the first number, then the others
number_first : (item : ℕ → ℕ) (left p : ℕ) (o : Output)
    → put o (numbers_text (many_at item 2 (suc left) p)) ≡ put (put o (space ++ decimal (item p))) (numbers_text (many_at item 2 left (p + 2)))
unfolding many_at concat_map
number_first item left p o = put_append o (space ++ decimal (item p)) (numbers_text (many_at item 2 left (p + 2)))

pub numbers-next : (board : List ℕ) (from count end : ℕ) (start now spaced after : Writer) (next number wide : ℕ) → Numbering board from count start now next → next < end → end ≡ count
    → Puts now spaced space → number ≡ two_at board (from + 2 * next) → wide ≡ number → Puts spaced after (decimal wide)
    → Numbering board from count start after (next + 1)
numbers-next board from count end start now spaced after next number wide n h z s d e' f =
    let both : Puts now after (space ++ decimal wide) = puts_append s f in
    let e : wide ≡ two_at board (from + 2 * next) = e' ∙ d in
    let left : suc (count - (next + 1)) ≡ count - next = omega arith in
    let place : from + 2 * next + 2 ≡ from + 2 * (next + 1) = omega arith in
    record {
      lent = both.lent ∙ n.lent;
      same =
          ap (λ (o : Output). put o (numbers_text (many_at (two_at board) 2 (count - (next + 1)) (from + 2 * (next + 1))))) both.output
          ∙ ap₂ (λ (v p : ℕ). put (put (output_of now) (space ++ decimal v)) (numbers_text (many_at (two_at board) 2 (count - (next + 1)) p))) e (sym place)
          ∙ sym (number_first (two_at board) (count - (next + 1)) (from + 2 * next) (output_of now))
          ∙ ap (λ (k : ℕ). put (output_of now) (numbers_text (many_at (two_at board) 2 k (from + 2 * next)))) left
          ∙ n.same;
    }

pub numbers-end : (board : List ℕ) (from count end : ℕ) (start now : Writer) (next : ℕ) → Numbering board from count start now next → end ≤ next → end ≡ count
    → Puts start now (numbers_text (many_at (two_at board) 2 count from))
unfolding many_at concat_map put
numbers-end board from count end start now next n h z =
    let e : count - next ≡ 0 = omega arith in record {
      lent = n.lent;
      output = ap (λ (k : ℕ). put (output_of now) (numbers_text (many_at (two_at board) 2 k (from + 2 * next)))) (sym e) ∙ n.same;
    }

-- ---- a row

pub row_put : (file : List ℕ) (kinds : List Kind) (word : List ℕ) (from kind arity size wide : ℕ) (start worded named numbered ended : Writer)
    → kind ≡ byte_at file from → arity ≡ arity_of kinds kind → arity < 256 → size ≡ arity → Puts start worded word → wide ≡ kind → Puts worded named (decimal wide)
    → Puts named numbered (numbers_text (many_at (two_at file) 2 arity (from + 1))) → Puts numbered ended newline
    → RowPut (fact_at file kinds from) word start ended (from + 1 + 2 * size) from
row_put file kinds word from kind arity size wide start worded named numbered ended k a s z w v n m e =
    let sized : size ≡ arity_of kinds (byte_at file from) = z ∙ a ∙ ap (arity_of kinds) k in
    let whole : Puts start ended (((word ++ decimal wide) ++ numbers_text (many_at (two_at file) 2 arity (from + 1))) ++ newline) =
    puts_append (puts_append (puts_append w n) m) e in
    record {
      line = puts_as whole (simp append_assoc (cc));
      next = ap (λ (n : ℕ). from + 1 + 2 * n) sized;
      near = omega arith;
    }

-- ---- the rows of a class: those that are put, and those that are left

module _ (file mark word : List ℕ) (item : ℕ → Read Fact) (most from : ℕ) (start : Writer) where
  abbrev lines_of : ℕ → ℕ → List ℕ
  lines_of left place = concat_map (row_line word) (records_at file mark item left place).value

  pub record Rowing (now : Writer) (place row : ℕ) : Type 0 where
    pub near : place ≤ from + 513 * row
    pub lent : now.out.ghost_name ≡ start.out.ghost_name
    pub same : put (output_of now) (lines_of (most - row) place) ≡ put (output_of start) (lines_of most from)
    pub end : (records_at file mark item (most - row) place).next ≡ (records_at file mark item most from).next

  pub rows_start : Rowing start from 0
  rows_start = let all : most - 0 ≡ most = sub-zero most in record { near = omega arith; lent = refl; same = rw all; end = rw all }

  last : (now : Writer) (place row : ℕ) → Rowing now place row → row ≤ most → records_at file mark item (most - row) place ≡ record { value = []; next = place }
      → RowsPut (records_at file mark item most from) word start now place from most
  unfolding concat_map put
  last now place row r h e = record {
    lines = record {
      lent = r.lent;
      output = ap (λ (x : Read (List Fact)). put (output_of now) (concat_map (row_line word) x.value)) (sym e) ∙ r.same;
    };
    next = ap (λ (x : Read (List Fact)). x.next) (sym e) ∙ r.end;
    near = omega (arith, r.near);
  }

  -- no record with the mark stands here, or there may be no more
  unmarked : (left place : ℕ) → is_mark mark (byte_at file place) (byte_at file (place + 1)) ≡ false → records_at file mark item left place ≡ record { value = []; next = place }
  unfolding records_at
  unmarked zero place m = refl
  unmarked (suc left) place m = rw m

  pub rows-stop : (now : Writer) (place row : ℕ) (t : Bool) → Rowing now place row → row < most
      → t ≡ is_mark mark (byte_at file place) (byte_at file (place + 1)) → not t ≡ true → RowsPut (records_at file mark item most from) word start now place from most
  rows-stop now place row t r h m f = last now place row r (omega arith) (unmarked (most - row) place (sym m ∙ not-true t f))

  pub rows_end : (now : Writer) (place row : ℕ) → Rowing now place row → row ≤ most → most ≤ row
      → RowsPut (records_at file mark item most from) word start now place from most
  unfolding records_at
  rows_end now place row r h g = let none : most - row ≡ 0 = omega arith in last now place row r h (rw none)

  marked : (left place : ℕ) (t : Bool) → t ≡ is_mark mark (byte_at file place) (byte_at file (place + 1)) → not t ≡ false
      → records_at file mark item (suc left) place ≡ prepend (item (place + 2)).value (records_at file mark item left (item (place + 2)).next)
  unfolding records_at
  marked left place t m f = rw (sym m ∙ not-false t f)

  pub rows_next : (now after : Writer) (place next row : ℕ) (t : Bool) → Rowing now place row → row < most
      → t ≡ is_mark mark (byte_at file place) (byte_at file (place + 1)) → not t ≡ false → RowPut (item (place + 2)) word now after next (place + 2)
      → Rowing after next (row + 1)
  unfolding concat_map
  rows_next now after place next row t r h m f p =
      let left : ℕ = most - (row + 1) in
      let more : most - row ≡ suc left = omega arith in
      let all : records_at file mark item (most - row) place ≡ prepend (item (place + 2)).value (records_at file mark item left (item (place + 2)).next) = rw more (marked left place t m f) in
      record {
        near = omega (arith, r.near, p.near);
        lent = p.line.lent ∙ r.lent;
        same =
            ap₂ (λ (o : Output) (at : ℕ). put o (lines_of left at)) p.line.output p.next
            ∙ sym (put_append (output_of now) (row_line word (item (place + 2)).value) (lines_of left (item (place + 2)).next))
            ∙ ap (λ (x : Read (List Fact)). put (output_of now) (concat_map (row_line word) x.value)) (sym all)
            ∙ r.same;
        end = ap (λ (at : ℕ). (records_at file mark item left at).next) p.next ∙ ap (λ (x : Read (List Fact)). x.next) (sym all) ∙ r.end;
      }

pub board-put : (file : List ℕ) (kinds : List Kind) (start carded ended : Writer) (p q : ℕ)
    → RowsPut (records_at file CA (fact_at file kinds) most_cards 0) card_text start carded p 0 most_cards
    → RowsPut (records_at file NO (fact_at file kinds) most_notices p) notice_text carded ended q p most_notices
    → Puts start ended (board_lines (board_at file kinds))
unfolding board_at
board-put file kinds start carded ended p q c n =
    let facts : Read (List Fact) = records_at file CA (fact_at file kinds) most_cards 0 in
    puts_as (puts_append c.lines n.lines)
    (ap (λ (p : ℕ). concat_map (row_line card_text) facts.value ++ concat_map (row_line notice_text) (records_at file NO (fact_at file kinds) most_notices p).value) c.next)

-- ---- the whole text

byte_within : (o : Output) (byte : ℕ) → o.place ≤ length o.bytes → (put_byte o byte).place ≤ length (put_byte o byte).bytes
byte_within o byte h = by (ltb o.place (length o.bytes)) refl
  where
    by : (t : Bool) → ltb o.place (length o.bytes) ≡ t
        → (if t then reached (set o.bytes o.place byte) (o.place + 1) else o).place ≤ length (if t then reached (set o.bytes o.place byte) (o.place + 1) else o).bytes
    by true e = omega (arith, ltb-true o.place (length o.bytes) e, length-set o.bytes o.place byte)
    by false e = h

put_within : (o : Output) (text : List ℕ) → o.place ≤ length o.bytes → (put o text).place ≤ length (put o text).bytes
unfolding put
put_within o [] h = h
put_within o (byte ∷ more) h = put_within (put_byte o byte) more (byte_within o byte h)

pub text_put : (text before after : List ℕ) (start ended : Writer) → Puts start ended text → output_of start ≡ reached before 0 → after ≡ ended.out.now
    → TextPut text before after ended.at
text_put text before after start ended p s a =
    let r : ℕ = ended.at in
    let e : reached after r ≡ put (reached before 0) text = ap (λ (l : List ℕ). reached l r) a ∙ p.output ∙ ap (λ (o : Output). put o text) s in
    let fits : r ≤ length after = rw (← e) at (put_within (reached before 0) text (omega arith)) in
    record { whole = e; within = fits; part = sym (length-take-le r after fits) }

module _ (a : N.Answer) (board : Board) {start ended : Writer} where
  pub text_accepted : a.number ≡ 0 → Puts start ended accepted_line → Puts start ended (answer_text a board)
  unfolding answer_text
  text_accepted n p = puts_as p (rw n)

  pub text_refused : 1 ≤ a.number → a.number ≤ 19 → Puts start ended (refusal_line a) → Puts start ended (answer_text a board)
  unfolding answer_text
  text_refused low high p = puts_as p (rw (ne_eqb a.number 0 (λ z. omega arith), lt-ltb a.number 20 (omega arith)))

  pub text_ended : {between : Writer} → ((a.number ≡ 0) → ⊥) → 20 ≤ a.number → Puts start between (end_line a) → Puts between ended (board_lines board)
      → Puts start ended (answer_text a board)
  unfolding answer_text
  text_ended none high p q = puts_as (puts_append p q) (rw (ne_eqb a.number 0 none, le-ltb a.number 20 high))
