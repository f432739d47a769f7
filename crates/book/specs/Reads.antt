-- What the reader's answers on the fields of a record say, in the terms of `files`.
use Rattle.std.specs.Prelude.{ℕ, ◌≤◌, ◌<◌, ◌≡◌, Bool, ◌||◌, List, length, get_or, drop, leb, Result, Ok, Err}
use Rattle.meaning.specs.Facts.{variables, most_kinds, most_numbers}
use Rattle.meaning.specs.Rules.{Term, occurs_in_terms}
use Rattle.files.specs.Numbers.{FIELD}
use Rattle.files.specs.Numbers as N
use Rattle.files.specs.Judge.{Verdict, told, Judged, demand, byte, after_record}
use Rattle.files.specs.InPlace.{term_at}
use Rattle.files.specs.Book.{Reading, term, terms, atom}
use Rattle.answers.specs.Refused.{about, told_by}
use Rattle.answers.specs.declared.Refusal.{Refusal}
use Rattle.kinds.specs.declared.Kinds.{Kinds}
use Rattle.kinds.specs.Listed.{kinds_of}
use Rattle.book.specs.Sets.{is_in}
use Rattle.book.specs.Left.{place}
use Rattle.book.specs.declared.left.Rest.{Rest}
use Rattle.book.specs.declared.Scan.{Scan}

-- a judgement that ends the reading, and what the check then tells
abbrev pub Ends : ℕ → Judged Reading → Result (Unit {0}) Refusal → Type 0
Ends end judged checked = (next : Reading → List ℕ → Verdict Reading) → told_by checked ≡ about N.book (told (after_record end judged next))

-- fields, judged by what comes next
abbrev pub Fields : Type 0 → Type 0
Fields A = (A → List ℕ → Judged Reading) → Judged Reading

-- the fields hold a value, and `m` of the bytes are read with them
pub record Found {A : Type 0} (bytes : List ℕ) (fields : Fields A) (P : A → Type 0) (m : ℕ) : Type 0 where
  pub value : A
  pub some : 2 ≤ m
  pub within : m ≤ length bytes
  pub is : P value
  pub goes : (next : A → List ℕ → Judged Reading) → fields next ≡ next value (drop m bytes)

-- what an answer on fields says: they hold a value that is so, or they end the reading; `size` is how many bytes are read, by the answer
abbrev pub Reads : {A B : Type 0} → List ℕ → ℕ → Fields A → (B → ℕ) → (B → A → Type 0) → Result B Refusal → Type 0
Reads bytes end fields size P (Ok b) = Found bytes fields (P b) (size b)
Reads bytes end fields size P (Err r) = (next : _) → Ends end (fields next) (Err r)

-- the variables of the set are those of the test
abbrev pub Marked : ℕ → (ℕ → Bool) → Type 0
Marked set test = (v : ℕ) → v < variables → is_in set v ≡ test v

-- the variables known after some terms
abbrev pub Known : ℕ → List Term → ℕ → Type 0
Known known ts after = Marked after (λ v. is_in known v || occurs_in_terms v ts)

-- ---- the fields; `free` are the variables that may stand there, `known` those that stood before

-- one term, where `bytes` start
pub record TermReads (rest : Rest) (bytes : List ℕ) (free : ℕ) (r : Result ℕ Refusal) : Type 0 where
  pub reads : (bound : ℕ → Bool) → Marked free bound → Reads bytes rest.end (term rest.end bound (place rest) bytes) (λ m. m) (λ m t. t ≡ term_at bytes 0) r

-- so many terms, from the record's byte 3 on
pub record TermsRead (rest : Rest) (count free known : ℕ) (r : Result Scan Refusal) : Type 0 where
  pub reads : (bound : ℕ → Bool) → Marked free bound
      → Reads rest.bytes.now rest.end (terms rest.end bound (place rest) count (drop 3 rest.bytes.now)) (λ s. s.bytes) (λ s ts. Known known ts s.known.bits) r

-- a record's kind and its terms
pub record AtomReads (rest : Rest) (kinds : Kinds) (free known : ℕ) (r : Result Scan Refusal) : Type 0 where
  pub reads : kinds.count ≤ most_kinds → (bound : ℕ → Bool) → Marked free bound
      → Reads rest.bytes.now rest.end (atom rest.end (kinds_of kinds) bound (place rest) (drop 2 rest.bytes.now)) (λ s. s.bytes)
      (λ s a. (a.kind ≡ get_or rest.bytes.now 2 0) × Known known a.terms s.known.bits) r

-- class and arity, as `fields` judges them
abbrev pub kind_fields : List ℕ → ℕ → ℕ → Fields (ℕ × ℕ)
kind_fields bytes end at next =
    byte end bytes λ class bytes₁. demand (leb class 1) FIELD at
    (byte end bytes₁ λ arity bytes₂. demand (leb arity most_numbers) FIELD at (next (class, arity) bytes₂))

pub record KindReads (rest : Rest) (r : Result ℕ Refusal) : Type 0 where
  pub reads : Reads rest.bytes.now rest.end (kind_fields (drop 2 rest.bytes.now) rest.end (place rest)) (λ m. m) (λ m k. k ≡ (get_or rest.bytes.now 2 0, get_or rest.bytes.now 3 0)) r

-- test number and two terms, as `fields` judges them
abbrev pub test_fields : List ℕ → ℕ → ℕ → (ℕ → Bool) → Fields (ℕ × List Term)
test_fields bytes end at bound next =
    byte end bytes λ number bytes₁. demand (leb number 3) FIELD at (terms end bound at 2 bytes₁ λ ts bytes₂. next (number, ts) bytes₂)

pub record TestReads (rest : Rest) (free : ℕ) (r : Result Scan Refusal) : Type 0 where
  pub reads : (bound : ℕ → Bool) → Marked free bound → Reads rest.bytes.now rest.end (test_fields (drop 2 rest.bytes.now) rest.end (place rest) bound) (λ s. s.bytes) (λ s t. Unit {0}) r
