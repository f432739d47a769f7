-- A whole record, and record after record.
use Prim.Native.Nat.{ℕ, zero, suc, ◌-◌, ◌≤◌, ◌<◌}
use mathlib.Core.Path.{◌≡◌, refl, sym, ap, ◌∙◌, subst}
use mathlib.Core.Bool.{Bool, true, false}
use mathlib.Core.Option.{none}
use mathlib.Core.List.{List, [], ◌∷◌}
use native.Mathlib.Omega.{arith}
use lib.ListN.{length, drop, length-drop}
use Rattle.std.specs.Prelude.{Result, Ok, Err, Option, Some, None}
use Rattle.files.specs.Numbers.{PLACE}
use Rattle.files.specs.Numbers as N
use Rattle.files.specs.Judge.{Verdict, accepted, refused, Judged, stop, told, demand, byte, after_record, judge}
use Rattle.files.specs.InPlace.{byte_at}
use Rattle.files.specs.Book.{Mark, other, mark_of, Reading, empty_reading, may_stand_here, fields, after_place, book_record, book_of, judge_book}
use Rattle.answers.specs.Refused.{reason_of, about, told_by}
use Rattle.answers.specs.declared.Reason.{Reason}
use Rattle.answers.specs.declared.Reason.TheVariants as R
use Rattle.answers.specs.declared.Refusal.{Refusal}
use Rattle.kinds.specs.declared.Kinds.{Kinds}
use Rattle.kinds.specs.Listed.{kinds_of, kinds_from, no_kinds}
use Rattle.book.specs.Left.{place, of_book}
use Rattle.book.specs.Reads.{Ends}
use Rattle.book.specs.Holds.{with_rules, Holds, mark_is, MayStand, lack_told, Lacks, Went, Led, FieldsLed, RecordReads}
use Rattle.book.specs.declared.Book.{Book}
use Rattle.book.specs.declared.Mark as D
use Rattle.book.specs.declared.Next.{Next}
use Rattle.book.specs.declared.left.Rest.{Rest}
use Rattle.book.proofs.SetLaws.{in_none}

-- a refusal ends the reading
ends : (end : ℕ) {judged : Judged Reading} (why : Reason) (place : ℕ) (e : Refusal) → e ≡ of_book why place → judged ≡ stop (reason_of why) place → Ends end judged (Err e)
ends end why place e q j next =
    ap (λ (x : Refusal). told_by (Err x)) q ∙ sym (ap (λ (x : Judged Reading). about N.book (told (after_record end x next))) j)

-- ---- a record

module _ (book : Book) (rest : Rest) (e : Refusal) where
  pub record_cut : length rest.bytes.now < 2 → e ≡ of_book R.Cut rest.end → RecordReads book rest (Err e)
  unfolding book_record
  record_cut h q = record { reads = λ r i. ends rest.end R.Cut rest.end e q (short r rest.bytes.now h) }
    where
      short : (r : Reading) (l : List ℕ) → length l < 2 → book_record rest.end r l ≡ stop N.CUT rest.end
      short r [] h = refl
      short r (a ∷ []) h = refl
      short r (a ∷ b ∷ l) h = absurd (omega arith)

module _ (book : Book) (rest : Rest) (l : 2 ≤ length rest.bytes.now) where
  abbrev its_mark : Mark
  its_mark = mark_of (byte_at rest.bytes.now 0) (byte_at rest.bytes.now 1)

  to_place : (mark : Mark) → mark ≡ its_mark → (r : Reading)
      → book_record rest.end r rest.bytes.now
      ≡ demand (may_stand_here mark r.now) PLACE (place rest) (after_place rest.end mark (place rest) r (drop 2 rest.bytes.now))
  unfolding book_record
  to_place mark m r = rw m (two rest.bytes.now l)
    where
      two : (l : List ℕ) → 2 ≤ length l
          → (byte rest.end l λ a l₁. byte rest.end l₁ λ b l₂. demand (may_stand_here (mark_of a b) r.now) PLACE (rest.end - length l) (after_place rest.end (mark_of a b) (rest.end - length l) r l₂))
          ≡ demand (may_stand_here (mark_of (byte_at l 0) (byte_at l 1)) r.now) PLACE (rest.end - length l)
          (after_place rest.end (mark_of (byte_at l 0) (byte_at l 1)) (rest.end - length l) r (drop 2 l))
      two [] h = absurd (omega arith)
      two (a ∷ []) h = absurd (omega arith)
      two (a ∷ b ∷ l) h = refl

  pub record_mark : other ≡ its_mark → (e : Refusal) → e ≡ of_book R.Mark (place rest) → RecordReads book rest (Err e)
  record_mark m e q = record { reads = λ r i. ends rest.end R.Mark (place rest) e q (to_place other m r) }

  module _ (mark : D.Mark) (m : mark_is mark ≡ its_mark) where
    pub record_place : MayStand book mark false → (e : Refusal) → e ≡ of_book R.Place (place rest) → RecordReads book rest (Err e)
    record_place y e q = record {
      reads = λ r i.
          ends rest.end R.Place (place rest) e q
          (to_place (mark_is mark) m r ∙ ap (λ (b : Bool). demand b PLACE (place rest) (after_place rest.end (mark_is mark) (place rest) r (drop 2 rest.bytes.now))) (sym (y.says r i)));
    }

    module _ (y : MayStand book mark true) (lack : Option Reason) (z : Lacks book mark lack) where
      to_fields : (r : Reading) → Holds book r
          → book_record rest.end r rest.bytes.now ≡ lack_told lack (place rest) (fields rest.end (mark_is mark) (place rest) r (drop 2 rest.bytes.now))
      to_fields r i =
          to_place (mark_is mark) m r
          ∙ ap (λ (b : Bool). demand b PLACE (place rest) (after_place rest.end (mark_is mark) (place rest) r (drop 2 rest.bytes.now))) (sym (y.says r i))
          ∙ z.says r i rest.end (place rest) (drop 2 rest.bytes.now)

    pub record_lacks : MayStand book mark true → (why : Reason) → Lacks book mark (Some why) → (e : Refusal) → e ≡ of_book why (place rest) → RecordReads book rest (Err e)
    record_lacks y why z e q = record { reads = λ r i. ends rest.end why (place rest) e q (to_fields y (Some why) z r i) }

    pub record_fields : MayStand book mark true → Lacks book mark None → (result : Result (Option Next) Refusal)
        → FieldsLed (mark_is mark) book rest result → RecordReads book rest result
    record_fields y z result x = record {
      reads = λ r i. subst (λ (j : Judged Reading). Led rest j result) (sym (to_fields y None z r i)) (x.reads r i (sym (y.says r i)));
    }

pub ruleset records = (record_cut, record_mark, record_place, record_lacks, record_fields)

-- ---- record after record

-- the state holds what is read, and to go on from there is to judge the file
pub record Turn (file : List ℕ) (rest : Rest) (book : Book) : Type 0 where
  pub read : Reading
  pub turns : ℕ
  pub enough : length rest.bytes.now ≤ turns
  pub whole : rest.end ≡ length file
  pub holds : Holds book read
  pub same : book_of (judge rest.end (book_record rest.end) (suc turns) read rest.bytes.now) ≡ judge_book file

pub turn_starts : (file : List ℕ) (rest : Rest) → rest.bytes.now ≡ file → rest.end ≡ length file
    → (kinds : Kinds) → kinds ≡ no_kinds → (book : Book) → book ≡ with_rules kinds 0 → Turn file rest book
unfolding judge_book kinds_of kinds_from
turn_starts file rest b n kinds k book e = rw (e, k) (record {
  read = empty_reading;
  turns = length file;
  enough = omega (arith, ap length b);
  whole = n;
  holds = record {
    few = omega arith;
    classes = refl;
    arities = refl;
    kinds = refl;
    rules = refl;
    stands = refl;
    body = refl;
    tests = refl;
    heads = refl;
    sweeps = refl;
    carded = refl;
    own = λ v u. in_none v;
    bound = λ v u. in_none v;
  };
  same = rw (b, n);
})

-- what is told of the book is told of the reading
told_book : (v : Verdict Reading) → told v ≡ told (book_of v)
told_book (accepted r) = refl
told_book (refused why place) = refl

module _ (file : List ℕ) (rest : Rest) (book : Book) (t : Turn file rest book) where
  abbrev judged : Judged Reading
  judged = book_record rest.end t.read rest.bytes.now

  abbrev on : Reading → List ℕ → Verdict Reading
  on r l = judge rest.end (book_record rest.end) t.turns r l

  -- one record further
  after : book_of (after_record rest.end judged on) ≡ judge_book file
  unfolding judge
  after = t.same

  ended : (checked : Result (Unit {0}) Refusal) → Ends rest.end judged checked → told_by checked ≡ about N.book (told (judge_book file))
  ended checked y = y on ∙ ap (about N.book) (told_book (after_record rest.end judged on) ∙ ap told after)

  pub turn_refused : (e : Refusal) → RecordReads book rest (Err e) → told_by (Err e) ≡ about N.book (told (judge_book file))
  turn_refused e y = ended (Err e) (y.reads t.read t.holds)

  module _ (o : Option Next) (y : RecordReads book rest (Ok o)) where
    pub turn_ended : o ≡ None → none ≡ about N.book (told (judge_book file))
    turn_ended e = ended (Ok tt) (subst (λ (x : Option Next). Led rest judged (Ok x)) e (y.reads t.read t.holds))

    module _ (next : Next) (e : o ≡ Some next) where
      went : Went rest judged next
      went = subst (λ (x : Option Next). Led rest judged (Ok x)) e (y.reads t.read t.holds)

      pub turn_within : next.bytes ≤ length rest.bytes.now
      turn_within = went.within

      module _ (later : Rest) (b : later.bytes.now ≡ drop next.bytes rest.bytes.now) (n : later.end ≡ rest.end) where
        pub turn_less : length later.bytes.now < length rest.bytes.now
        turn_less = omega (arith, went.some, went.within, ap length b, length-drop next.bytes rest.bytes.now)

        further : (turns : ℕ) → t.turns ≡ turns → Turn file later next.book
        further zero z = absurd (omega (arith, went.some, went.within, t.enough))
        further (suc turns) z = record {
          read = went.reading;
          turns = turns;
          enough = omega (arith, turn_less, t.enough);
          whole = n ∙ t.whole;
          holds = went.holds;
          same =
              ap (λ (k : ℕ). book_of (judge k (book_record k) (suc turns) went.reading later.bytes.now)) n
              ∙ ap (λ (l : List ℕ). book_of (judge rest.end (book_record rest.end) (suc turns) went.reading l)) b
              ∙ ap (λ (k : ℕ). book_of (judge rest.end (book_record rest.end) k went.reading (drop next.bytes rest.bytes.now))) (sym z)
              ∙ ap (λ (j : Judged Reading). book_of (after_record rest.end j on)) (sym went.goes)
              ∙ after;
        }

        pub turn_goes : Turn file later next.book
        turn_goes = further t.turns refl

pub ruleset turns = (turn_starts, turn_within, turn_less, turn_goes)
