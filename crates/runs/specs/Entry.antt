-- A run between two files: the board that is loaded, and the one that is written.
use Rattle.std.specs.Prelude.{ℕ, ◌≤◌, ◌≡◌, List, length, replicate}
use Rattle.std.proofs.Common.{ap, subst}
use Rattle.std.proofs.lemmas.List.{length-replicate}
use Rattle.meaning.specs.Basics.{All}
use Rattle.meaning.specs.Facts.{Kind, most_cards, most_notices, longest_board}
use Rattle.meaning.specs.Firing.{Ran}
use Rattle.meaning.specs.WellFormed.{GoodKind, GoodBoard}
use Rattle.files.specs.Numbers.{end_answer}
use Rattle.files.specs.Encode.{encode_board}
use Rattle.files.specs.InPlace.{board_at}
use Rattle.files.specs.Entries.{bytes_after, Gives, run_outcome}
use Rattle.rows.specs.declared.Count.{Count}
use Rattle.rows.specs.Held.{Sized}
use Rattle.rows.specs.Loads.{BoardLoaded}
use Rattle.rows.specs.LoadsLaws.{loaded_board, loaded_sized, board_size}
use Rattle.rows.specs.Writes.{written_board, BoardWritten}
use Rattle.rows.specs.WritesLaws.{board-written}
use Rattle.runs.specs.declared.Ran as R
use Rattle.runs.specs.Runs.{end_of, board_in, RunEnds, ended_answer}

-- ---- the arrays before anything is loaded

abbrev pub no_kinds : List ℕ
no_kinds = replicate 384 0

abbrev pub no_numbers : List ℕ
no_numbers = replicate 1536 0

empty_sized : Sized no_kinds no_numbers
empty_sized = record { rows = length-replicate {A = ℕ} 384 0; places = length-replicate {A = ℕ} 1536 0 }

-- ---- loading

module _ (board_file : List ℕ) (kinds : List Kind) (good : All GoodKind kinds) (kind numbers : List ℕ) (count : Count)
    (l : BoardLoaded (board_at board_file kinds) no_kinds no_numbers kind numbers count) where
  -- the arrays hold the board of the file
  pub loaded : board_in kinds kind numbers count ≡ board_at board_file kinds
  loaded = rw (l.count, l.kinds, l.numbers) (loaded_board board_file kinds no_kinds no_numbers empty_sized good)

  pub sized_loaded : Sized kind numbers
  sized_loaded = rw (l.kinds, l.numbers) (loaded_sized no_kinds no_numbers (board_at board_file kinds) empty_sized)

  pub cards_loaded : count.cards ≤ most_cards
  cards_loaded = rw l.count (board_size board_file kinds).0

  pub notices_loaded : count.notices ≤ most_notices
  notices_loaded = rw l.count (board_size board_file kinds).1

  pub good_loaded : GoodBoard kinds (board_at board_file kinds) → GoodBoard kinds (board_in kinds kind numbers count)
  good_loaded b = rw loaded b

-- ---- writing

-- the board that the run ends with is written
pub run-written : (kinds : List Kind) (kind numbers : List ℕ) (r : R.Ran) (ran : Ran) (out₀ out₁ : List ℕ) (size : ℕ) → longest_board ≤ length out₀
    → RunEnds ran kinds kind numbers r → BoardWritten (written_board kinds kind numbers r.count (length out₀)) out₀ out₁ size
    → Gives (run_outcome ran) out₀ (ended_answer (record { end = r.end; length = size; firings = r.firings; rule = r.rule })) out₁
unfolding bytes_after
run-written kinds kind numbers r ran out₀ out₁ size space ends w =
    let written : BoardWritten (encode_board (board_in kinds kind numbers r.count)) out₀ out₁ size =
    board-written kinds kind numbers r.count ends.cards ends.notices out₀ out₁ size space w in
    subst
    (λ (s : Ran). Gives (run_outcome s) out₀ (ended_answer (record { end = r.end; length = size; firings = r.firings; rule = r.rule })) out₁)
    ends.is
    (record { answer = ap (λ (n : ℕ). end_answer (end_of r.end) n r.firings r.rule) written.size; bytes = written.out })
