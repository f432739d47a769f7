-- The entry: what is known once the files are judged, the board that is loaded, and what is written. One law for each answer.
use Rattle.std.specs.Prelude.{if◌then◌else◌, Ok, Err}
use Prim.Native.Nat.{ℕ, zero, suc, ◌+◌, ◌*◌, ◌/◌, ◌≤◌, ◌<◌}
use native.Mathlib.Omega.{arith}
use mathlib.Core.Path.{◌≡◌, refl, sym, ap, ◌∙◌, subst}
use mathlib.Core.Bool.{Bool, true, false}
use mathlib.Core.List.{List, [], ◌∷◌}
use lib.ListN.{length, get_or}
use lib.Dec.{eqb, leb}
use mir.Syntax.{w8}
use mir.Val.{Fits}
use borrow.Author.Tests.{leb-false, lt-ltb, le-ltb}
use Rattle.meaning.specs.Basics.{All}
use Rattle.meaning.specs.Facts.{Kind, Fact, Board, most_kinds, longest_board}
use Rattle.meaning.specs.Words.{Word, strip_kinds, run_strip}
use Rattle.meaning.specs.WellFormed.{GoodKind, GoodFact}
use Rattle.files.specs.Numbers.{SHORT, strip, board, output, refusal}
use Rattle.files.specs.Judge.{Bytes, accepted, told}
use Rattle.files.specs.Board.{judge_board}
use Rattle.files.specs.Strip.{word_bytes, words_at, judge_strip}
use Rattle.files.specs.InPlace.{byte_at, board_at}
use Rattle.files.specs.Entries.{bytes_after, Gives, run_outcome, run_strip_file}
use Rattle.encoding.specs.Bytes.{bytes_of}
use Rattle.answers.specs.Refused.{refusal_answer, about, told_by}
use Rattle.answers.specs.RefusedLaws.{checked_accepted, gives_refused}
use Rattle.answers.specs.declared.Refusal.{Refusal}
use Rattle.encoding.specs.Boards.{board-accepted, board_in_place}
use Rattle.encoding.specs.Strips.{strip_in_place, strip_size, strip_accepted}
use Rattle.encoding.specs.Steps.{strip_kinds_good}
use Rattle.kinds.specs.declared.Kinds.{Kinds}
use Rattle.kinds.specs.Listed.{kinds_of, with_kind}
use Rattle.rows.specs.declared.Count.{Count}
use Rattle.rows.specs.Loads.{BoardLoaded}
use Rattle.rows.specs.Writes.{written_board, BoardWritten}
use Rattle.strip.specs.Leading.{leading_from, leading_kinds}
use Rattle.strip.specs.LeadingLaws.{accepted-kinds}
use Rattle.runs.specs.declared.Ran as R
use Rattle.runs.specs.declared.Ended.{Ended}
use Rattle.runs.specs.Runs.{board_in, RunEnds, ended_answer}
use Rattle.runs.specs.Entry.{no_kinds, no_numbers, loaded, sized_loaded, cards_loaded, notices_loaded, good_loaded, run-written}
use Rattle.machine.specs.Firings.{Declared, Playable}
use Rattle.machine.specs.Entry.{BothAccepted}

-- ---- loading, running, writing

-- a good fact's kind is declared
good_declared : (kinds : List Kind) (card : Bool) (facts : List Fact) → All (GoodFact kinds card) facts → Declared kinds facts
good_declared kinds card [] g = tt
good_declared kinds card (f ∷ more) g = (g.0.declared, good_declared kinds card more g.1)

module _ (strip_file : List ℕ) (kinds : Kinds) (board_file : List ℕ) (room : ℕ) (ready : BothAccepted strip_file kinds board_file room) where
  abbrev K : List Kind
  K = kinds_of kinds

  good : All GoodKind K
  good = subst (λ (k : List Kind). All GoodKind k) (sym ready.known.listed) (strip_kinds_good (words_at strip_file) ready.known.good).1

  module _ (kind numbers : List ℕ) (count : Count) (l : BoardLoaded (board_at board_file (kinds_of kinds)) no_kinds no_numbers kind numbers count) where
    pub loaded_playable : Playable strip_file kinds kind numbers count
    loaded_playable =
        let b = good_loaded board_file K good kind numbers count l ready.board in
        record {
          known = ready.known;
          sized = sized_loaded board_file K good kind numbers count l;
          cards = cards_loaded board_file K good kind numbers count l;
          notices = notices_loaded board_file K good kind numbers count l;
          declared = (good_declared K true (board_in K kind numbers count).cards b.cards, good_declared K false (board_in K kind numbers count).notices b.notices);
        }

    -- the board that the run ends with is written
    pub played : (limit allowance : ℕ) (kind' numbers' : List ℕ) (ran : R.Ran) (out₀ out₁ : List ℕ) (size : ℕ) → room ≡ length out₀
        → RunEnds (run_strip (words_at strip_file) limit allowance (board_in (kinds_of kinds) kind numbers count)) (kinds_of kinds) kind' numbers' ran
        → BoardWritten (written_board (kinds_of kinds) kind' numbers' ran.count (length out₀)) out₀ out₁ size
        → Gives (run_outcome (run_strip (words_at strip_file) limit allowance (board_at board_file (kinds_of kinds)))) out₀
        (ended_answer (record { end = ran.end; length = size; firings = ran.firings; rule = ran.rule })) out₁
    played limit allowance kind' numbers' ran out₀ out₁ size e ends w =
        run-written K kind' numbers' ran (run_strip (words_at strip_file) limit allowance (board_at board_file K)) out₀ out₁ size (subst (λ (n : ℕ). longest_board ≤ n) e ready.space)
        (subst (λ (b : Board). RunEnds (run_strip (words_at strip_file) limit allowance b) K kind' numbers' ran) (loaded board_file K good kind numbers count l) ends) w

-- ---- judging

-- the elements of a slice of bytes
are_bytes : (file : List ℕ) → ((i : ℕ) → Fits w8 (get_or file i 0)) → Bytes file
are_bytes file h = bytes_of file (λ i. omega (arith, h i))

-- the leading words declare no more kinds than there is room for
with_few : (found : Kinds) (class arity : ℕ) → found.count ≤ most_kinds → (with_kind found class arity).count ≤ most_kinds
with_few found class arity h = by (leb most_kinds found.count) refl
  where
    by : (t : Bool) → leb most_kinds found.count ≡ t → (with_kind found class arity).count ≤ most_kinds
    by true e = rw e h
    by false e = rw e (omega (arith, leb-false most_kinds found.count e))

from_few : (file : List ℕ) (left i : ℕ) (found : Kinds) → found.count ≤ most_kinds → (leading_from file left i found).count ≤ most_kinds
unfolding leading_from
from_few file zero i found h = h
from_few file (suc left) i found h = by (eqb (byte_at file (8 * i)) 0) (from_few file left (suc i) (with_kind found (byte_at file (8 * i + 1)) (byte_at file (8 * i + 2))) (with_few found (byte_at file (8 * i + 1)) (byte_at file (8 * i + 2)) h))
  where
    by : (t : Bool) → (leading_from file left (suc i) (with_kind found (byte_at file (8 * i + 1)) (byte_at file (8 * i + 2)))).count ≤ most_kinds
        → (if t then leading_from file left (suc i) (with_kind found (byte_at file (8 * i + 1)) (byte_at file (8 * i + 2))) else found).count ≤ most_kinds
    by true m = m
    by false m = h

leading_few : (file : List ℕ) → (leading_kinds file).count ≤ most_kinds
unfolding leading_kinds
leading_few file = from_few file (length file / word_bytes) 0 _ (omega arith)

module _ (strip_file board_file : List ℕ) (limit allowance : ℕ) (out : List ℕ) where
  pub strip_refused : (r : Refusal) → told_by (Err r) ≡ about strip (told (judge_strip strip_file))
      → Gives (run_strip_file strip_file board_file limit allowance (length out)) out (refusal_answer r) out
  unfolding run_strip_file
  strip_refused r e = gives_refused strip (judge_strip strip_file) _ out r e

  module _ (t₁ : told_by (Ok tt) ≡ about strip (told (judge_strip strip_file))) (kinds : Kinds) (k : kinds ≡ leading_kinds strip_file) where
    judged : (w : List Word) × (judge_strip strip_file ≡ accepted w)
    judged = checked_accepted strip (judge_strip strip_file) t₁

    place : words_at strip_file ≡ judged.0
    place = strip_in_place strip_file judged.0 judged.1

    kinds_are : strip_kinds judged.0 ≡ kinds_of kinds
    kinds_are = sym (ap kinds_of k ∙ accepted-kinds strip_file judged.0 judged.1)

    pub board-refused : (r : Refusal) → told_by (Err r) ≡ about board (told (judge_board (kinds_of kinds) board_file))
        → Gives (run_strip_file strip_file board_file limit allowance (length out)) out (refusal_answer r) out
    unfolding run_strip_file
    board-refused r e = rw (judged.1, kinds_are) (gives_refused board (judge_board (kinds_of kinds) board_file) _ out r e)

    module _ (t₂ : told_by (Ok tt) ≡ about board (told (judge_board (kinds_of kinds) board_file))) where
      judged₂ : (b : Board) × (judge_board (kinds_of kinds) board_file ≡ accepted b)
      judged₂ = checked_accepted board (judge_board (kinds_of kinds) board_file) t₂

      pub too_short : length out < longest_board → Gives (run_strip_file strip_file board_file limit allowance (length out)) out (refusal output SHORT 0) out
      unfolding run_strip_file bytes_after
      too_short l = rw (judged.1, kinds_are, judged₂.1, lt-ltb (length out) longest_board l) (record { answer = refl; bytes = refl })

      module _ (l : longest_board ≤ length out) where
        board-is : board_at board_file (kinds_of kinds) ≡ judged₂.0
        board-is = board_in_place (kinds_of kinds) board_file judged₂.0 judged₂.1

        pub all_ready : ((i : ℕ) → Fits w8 (get_or strip_file i 0)) → ((i : ℕ) → Fits w8 (get_or board_file i 0)) → BothAccepted strip_file kinds board_file (length out)
        all_ready bytes bytes₂ =
            let s = strip_accepted strip_file judged.0 (are_bytes strip_file bytes) judged.1 in
            let r = board-accepted (kinds_of kinds) board_file judged₂.0 (are_bytes board_file bytes₂) judged₂.1 in
            record {
              known = record {
                good = rw place s.0;
                whole = rw place (strip_size strip_file judged.0 judged.1);
                kinds_size = rw k (leading_few strip_file);
                listed = sym kinds_are ∙ ap strip_kinds (sym place);
              };
              board = rw board-is r.0;
              space = l;
            }

        pub run-made : (r : Ended) (out₁ : List ℕ) → Gives (run_outcome (run_strip (words_at strip_file) limit allowance (board_at board_file (kinds_of kinds)))) out (ended_answer r) out₁
            → Gives (run_strip_file strip_file board_file limit allowance (length out)) out (ended_answer r) out₁
        unfolding run_strip_file
        run-made r out₁ g = rw (judged.1, kinds_are, judged₂.1, le-ltb (length out) longest_board l) (rw (place, board-is) at g)
