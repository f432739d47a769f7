-- How a book and a board are judged: what a record may answer, one field, and record after record (document 01, 'Numbers a terminal may show':
-- "Records are judged in order"). A file is the list of its bytes.
use Rattle.std.specs.Prelude.{ℕ, zero, suc, ◌+◌, ◌*◌, ◌-◌, ◌<◌, Bool, true, false, List, [], ◌∷◌, length}
use Rattle.std.proofs.Math.Option.{Option, none, some}
use Rattle.meaning.specs.Basics.{All}
use Rattle.files.specs.Numbers.{Refusal, CUT, TRAIL}

-- every element of a file is a byte
abbrev pub Bytes : List ℕ → Type 0
Bytes file = All (λ b. b < 256) file

-- the judgement of a file: the value that it holds, or a refusal and its place
pub data Verdict (S : Type 0) : Type 0 where
  accepted : S → Verdict S
  refused : Refusal → ℕ → Verdict S

-- what a check tells of it: nothing where the file is accepted, else the refusal and its place
abbrev pub told : {S : Type 0} → Verdict S → Option (Refusal × ℕ)
told (accepted s) = none
told (refused why place) = some (why, place)

-- the judgement of one record: what is read so far and the bytes after the record; or the file has ended; or a refusal
pub data Judged (S : Type 0) : Type 0 where
  go : S → List ℕ → Judged S
  ended : S → List ℕ → Judged S
  stop : Refusal → ℕ → Judged S

-- go on if the test holds, else refuse
abbrev pub demand : {S : Type 0} → Bool → Refusal → ℕ → Judged S → Judged S
demand true why place next = next
demand false why place next = stop why place

-- A field of one byte, and one of two bytes, low byte first. CUT's place is the file's length n.
abbrev pub byte : {S : Type 0} → ℕ → List ℕ → (ℕ → List ℕ → Judged S) → Judged S
byte n [] next = stop CUT n
byte n (b ∷ rest) next = next b rest

abbrev pub two : {S : Type 0} → ℕ → List ℕ → (ℕ → List ℕ → Judged S) → Judged S
two n [] next = stop CUT n
two n (low ∷ []) next = stop CUT n
two n (low ∷ high ∷ rest) next = next (low + 256 * high) rest

-- TRAIL: "bytes after `en`", at the first
abbrev pub at_end : {S : Type 0} → ℕ → S → List ℕ → Verdict S
at_end n s [] = accepted s
at_end n s (b ∷ rest) = refused TRAIL (n - suc (length rest))

abbrev pub after_record : {S : Type 0} → ℕ → Judged S → (S → List ℕ → Verdict S) → Verdict S
after_record n (go s rest) next = next s rest
after_record n (ended s rest) next = at_end n s rest
after_record n (stop why place) next = refused why place

-- record after record; each has two bytes at least, so as many turns as the file has bytes are more than enough
unfoldable pub judge : {S : Type 0} → ℕ → (S → List ℕ → Judged S) → ℕ → S → List ℕ → Verdict S
judge n record1 zero s file = refused CUT n
judge n record1 (suc turns) s file = after_record n (record1 s file) (λ s' rest. judge n record1 turns s' rest)
