-- What the reader's state and its answers on a record say, in the terms of `files`.
use Rattle.std.specs.Prelude.{ℕ, ◌≤◌, ◌<◌, ◌≡◌, Bool, true, false, List, [], length, drop, Result, Ok, Err, Option, Some, None}
use Rattle.meaning.specs.Facts.{most_kinds}
use Rattle.meaning.specs.Rules.{Atom, occurs_in}
use Rattle.files.specs.Judge.{Judged, go, stop}
use Rattle.files.specs.Book.{Mark, Open, no_rule, in_rule, in_sweep, Reading, groups, rules_closed, sweeps_so_far, is_in_rule, may_stand_here, has_card, most_in_group, is_bound, fields, after_place, book_record}
use Rattle.files.specs.Book as B
use Rattle.answers.specs.Refused.{reason_of}
use Rattle.answers.specs.declared.Reason.{Reason}
use Rattle.answers.specs.declared.Refusal.{Refusal}
use Rattle.kinds.specs.declared.Kinds.{Kinds}
use Rattle.kinds.specs.Listed.{kinds_of}
use Rattle.book.specs.Left.{place}
use Rattle.book.specs.Reads.{Ends, Marked}
use Rattle.book.specs.declared.Book.{Book}
use Rattle.book.specs.declared.Mark as D
use Rattle.book.specs.declared.Mark.TheVariants as M
use Rattle.book.specs.declared.Next.{Next}
use Rattle.book.specs.declared.left.Rest.{Rest}

-- ---- the state

-- so many rules, of the last of which nothing is read
abbrev pub with_rules : Kinds → ℕ → Book
with_rules kinds rules = record {
  kinds = kinds;
  rules = rules;
  body = 0;
  tests = 0;
  heads = 0;
  sweeps = 0;
  carded = false;
  own = record { bits = 0 };
  bound = record { bits = 0 };
}

-- the open rule's own body
abbrev pub own_body : Open → List Atom
own_body no_rule = []
own_body (in_rule rule) = rule.body
own_body (in_sweep rule sweep) = rule.body

-- what is open, by the numbers of rules and sweeps
abbrev pub Stands : ℕ → ℕ → Open → Type 0
Stands rules sweeps no_rule = rules ≡ 0
Stands rules sweeps (in_rule rule) = (0 < rules) × (sweeps ≡ 0)
Stands rules sweeps (in_sweep rule sweep) = (0 < rules) × (0 < sweeps)

-- the state holds what is read so far
pub record Holds (book : Book) (r : Reading) : Type 0 where
  pub few : book.kinds.count ≤ most_kinds
  pub classes : length book.kinds.class ≡ most_kinds
  pub arities : length book.kinds.arity ≡ most_kinds
  pub kinds : r.kinds ≡ kinds_of book.kinds
  pub rules : length (rules_closed r.rules r.now) ≡ book.rules
  pub stands : Stands book.rules book.sweeps r.now
  pub body : length (groups r.now).body ≡ book.body
  pub tests : length (groups r.now).tests ≡ book.tests
  pub heads : length (groups r.now).heads ≡ book.heads
  pub sweeps : sweeps_so_far r.now ≡ book.sweeps
  pub carded : book.carded ≡ has_card r.kinds (own_body r.now)
  pub own : Marked book.own.bits (λ v. occurs_in v (own_body r.now))
  pub bound : Marked book.bound.bits (is_bound r.now)

-- ---- a record

-- the mark in the terms of `files`
abbrev pub mark_is : D.Mark → Mark
mark_is M.Kd = B.kd
mark_is M.Ru = B.ru
mark_is M.Ba = B.ba
mark_is M.Te = B.te
mark_is M.He = B.he
mark_is M.Sw = B.sw
mark_is M.En = B.en

abbrev pub marked : Option D.Mark → Mark
marked None = B.other
marked (Some mark) = mark_is mark

-- PLACE
pub record MayStand (book : Book) (mark : D.Mark) (answer : Bool) : Type 0 where
  pub says : (r : Reading) → Holds book r → answer ≡ may_stand_here (mark_is mark) r.now

-- the marks whose records are judged before the body is whole
abbrev pub in_body : Mark → Bool
in_body B.kd = true
in_body B.ru = false
in_body B.ba = true
in_body B.te = false
in_body B.he = false
in_body B.sw = false
in_body B.en = false
in_body B.other = true

-- what is told of a lack
abbrev pub lack_told : Option Reason → ℕ → Judged Reading → Judged Reading
lack_told None at next = next
lack_told (Some why) at next = stop (reason_of why) at

-- NOCARD and BARE
pub record Lacks (book : Book) (mark : D.Mark) (lack : Option Reason) : Type 0 where
  pub says : (r : Reading) → Holds book r → (end at : ℕ) (bytes : List ℕ)
      → after_place end (mark_is mark) at r bytes ≡ lack_told lack at (fields end (mark_is mark) at r bytes)

-- the most that a group of what is open may have
pub record Most (book : Book) (most : ℕ) : Type 0 where
  pub says : (r : Reading) → Holds book r → is_in_rule r.now ≡ true → most ≡ most_in_group r.now

-- the record is read, and the state after it holds what is read with it
pub record Went (rest : Rest) (judged : Judged Reading) (next : Next) : Type 0 where
  pub reading : Reading
  pub some : 2 ≤ next.bytes
  pub within : next.bytes ≤ length rest.bytes.now
  pub goes : judged ≡ go reading (drop next.bytes rest.bytes.now)
  pub holds : Holds next.book reading

-- what an answer on the fields of a record says: it is read, or the reading ends
abbrev pub Takes : Rest → Judged Reading → Result Next Refusal → Type 0
Takes rest judged (Ok next) = Went rest judged next
Takes rest judged (Err r) = Ends rest.end judged (Err r)

-- the same of any record: where none comes after it, the book ends
abbrev pub Led : Rest → Judged Reading → Result (Option Next) Refusal → Type 0
Led rest judged (Ok (Some next)) = Went rest judged next
Led rest judged (Ok None) = Ends rest.end judged (Ok tt)
Led rest judged (Err r) = Ends rest.end judged (Err r)

-- MANY and the fields, where the mark may stand
pub record FieldsRead (mark : Mark) (book : Book) (rest : Rest) (result : Result Next Refusal) : Type 0 where
  pub reads : 2 ≤ length rest.bytes.now → (r : Reading) → Holds book r → may_stand_here mark r.now ≡ true
      → Takes rest (fields rest.end mark (place rest) r (drop 2 rest.bytes.now)) result

pub record FieldsLed (mark : Mark) (book : Book) (rest : Rest) (result : Result (Option Next) Refusal) : Type 0 where
  pub reads : (r : Reading) → Holds book r → may_stand_here mark r.now ≡ true
      → Led rest (fields rest.end mark (place rest) r (drop 2 rest.bytes.now)) result

-- a whole record
pub record RecordReads (book : Book) (rest : Rest) (result : Result (Option Next) Refusal) : Type 0 where
  pub reads : (r : Reading) → Holds book r → Led rest (book_record rest.end r rest.bytes.now) result
