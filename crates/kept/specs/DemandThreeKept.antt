-- Demand 3 is kept: each promise of crates/promises under 'DEMAND 3', from the laws of agreement (crates/agreement) and of files.
use Rattle.std.specs.Prelude.{ℕ, ◌≤◌, ◌<◌, ◌≡◌, refl, List, length}
use Rattle.std.proofs.Common.{arith, sym, ◌∙◌, subst, le-ltb}
use Rattle.std.proofs.Math.Path.{ap}
use Rattle.meaning.specs.Facts.{Kind, Board, longest_board, longest_strip}
use Rattle.meaning.specs.Rules.{Book}
use Rattle.meaning.specs.Firing.{spent, End, Quiet, Limit, Full, Spent, Stuck, Ran, ended, run}
use Rattle.meaning.specs.Words.{strip_kinds, attempt, run_strip}
use Rattle.meaning.specs.Translation.{translate}
use Rattle.meaning.specs.WellFormed.{GoodBook, GoodBoard}
use Rattle.files.specs.Numbers.{end_number, end_answer}
use Rattle.files.specs.Judge.{Bytes, accepted, refused}
use Rattle.files.specs.Board.{judge_board}
use Rattle.files.specs.Book.{judge_book}
use Rattle.files.specs.Encode.{encode_board, encode_strip}
use Rattle.files.specs.Entries.{Outcome, run_outcome, run_book_file, translate_file, run_strip_file}
use Rattle.promises.specs.Promises.{TranslationsAreStrips, AttemptsEnd, TakesTooMany, StripRunIs, StripsAgree, BoardsRefusedAlike, DemandThree}
use Rattle.encoding.specs.Boards.{board-accepted, board_encoded}
use Rattle.encoding.specs.Strips.{strip_encoded, strip_length}
use Rattle.book_encoding.specs.Accepted.{book_accepted}
use Rattle.agreement.specs.Strip.{translate-kinds, translate-good}
use Rattle.agreement.specs.Attempts.{attempt-takes, attempt_spent_iff}
use Rattle.agreement.specs.Runs.{strip_run_plain, strip_run_spent, strip_run_spent_iff, strip_run_not_stuck}
use Rattle.firings.specs.Keeping.{run_keeps_good}
use Rattle.kept.specs.DemandOneKept.{run_book_is, run_strip_is}

-- ---- the translation

-- with room, what is written is the translated strip
translated : (book_file : List ℕ) (room : ℕ) (b : Book) → judge_book book_file ≡ accepted b → longest_strip ≤ room
    → (translate_file book_file room).written ≡ encode_strip (translate b)
unfolding translate_file
translated book_file room b e l = rw (e, le-ltb room longest_strip l)

-- "the strip translated from it" is an accepted strip with the book's kinds
pub translations_are_strips_lem : TranslationsAreStrips
unfolding translate_file
translations_are_strips_lem book_file room b bytes e l =
    let good = translate-good (book_accepted book_file b bytes e).0 in
    rw (e, le-ltb room longest_strip l) (record {
      answer = refl;
      size = omega (arith, strip_length (translate b), good.size);
      is_strip = strip_encoded (translate b) good;
      same_kinds = translate-kinds b;
    })

-- "For each attempt some number of steps is enough"
pub attempts_end_lem : AttemptsEnd
attempts_end_lem b rows good rows_good = let t = attempt-takes good rows_good in (t.0, t.2)

-- ---- ends by their numbers

is_spent_lem : (end : End) → end_number end ≡ end_number Spent → end ≡ Spent
is_spent_lem Quiet h = absurd (omega (arith, h))
is_spent_lem Limit h = absurd (omega (arith, h))
is_spent_lem Full h = absurd (omega (arith, h))
is_spent_lem Spent h = refl
is_spent_lem Stuck h = absurd (omega (arith, h))

is_limit : (end : End) → end_number end ≡ end_number Limit → end ≡ Limit
is_limit Quiet h = absurd (omega (arith, h))
is_limit Limit h = refl
is_limit Full h = absurd (omega (arith, h))
is_limit Spent h = absurd (omega (arith, h))
is_limit Stuck h = absurd (omega (arith, h))

is_stuck : (end : End) → end_number end ≡ end_number Stuck → end ≡ Stuck
is_stuck Quiet h = absurd (omega (arith, h))
is_stuck Limit h = absurd (omega (arith, h))
is_stuck Full h = absurd (omega (arith, h))
is_stuck Spent h = absurd (omega (arith, h))
is_stuck Stuck h = refl

-- ---- the runs

module _ (book_file board_file : List ℕ) (limit allowance room strip_room : ℕ) (b : Book) (rows : Board) (bytes : Bytes book_file) (bytes' : Bytes board_file)
    (e : judge_book book_file ≡ accepted b) (h : judge_board b.kinds board_file ≡ accepted rows) (l : longest_board ≤ room) (m : longest_strip ≤ strip_room) where
  abbrev good : GoodBook b
  good = (book_accepted book_file b bytes e).0

  abbrev rows_good : GoodBoard b.kinds rows
  rows_good = (board-accepted b.kinds board_file rows bytes' h).0

  abbrev ran : Ran
  ran = run_strip (translate b) limit allowance rows

  abbrev outcome : Outcome
  outcome = run_strip_file (translate_file book_file strip_room).written board_file limit allowance room

  outcome-is : outcome ≡ run_outcome ran
  outcome-is =
      ap (λ (file : List ℕ). run_strip_file file board_file limit allowance room) (translated book_file strip_room b e m)
      ∙ run_strip_is (encode_strip (translate b)) board_file limit allowance room (translate b) rows (strip_encoded (translate b) (translate-good good))
      (ap (λ (ks : List Kind). judge_board ks board_file) (translate-kinds b) ∙ h) l

  number_is : outcome.answer.number ≡ end_number ran.end
  number_is = ap (λ (o : Outcome). o.answer.number) outcome-is

  book_run : (n : ℕ) → run_book_file book_file board_file n room ≡ run_outcome (run b n rows)
  book_run n = run_book_is book_file board_file n room b rows e h l

  too_many_lem : (n : ℕ) → n < limit → (reached : Board) (last : ℕ) → run b n rows ≡ ended Limit reached n last
      → attempt (translate b) allowance reached ≡ spent → TakesTooMany b book_file board_file limit allowance room
  too_many_lem n short reached last r s =
      let reached_good : GoodBoard b.kinds reached = subst (λ (x : Ran). GoodBoard b.kinds x.board) r (run_keeps_good b good n rows rows_good) in
      let t = attempt-takes good reached_good in
      record {
        completed = n;
        short = short;
        rows = reached;
        last = last;
        reached = book_run n ∙ ap run_outcome r;
        is_board = board_encoded b.kinds reached reached_good;
        steps = t.0;
        takes = t.2;
        too_many = (attempt_spent_iff b reached t.0 t.2 allowance).0 s;
      }

  when_spent : ran.end ≡ Spent → (t : TakesTooMany b book_file board_file limit allowance room)
      × (outcome ≡ record { answer = end_answer Spent (length (encode_board t.rows)) t.completed t.last; written = encode_board t.rows })
  unfolding too_many_lem run_strip
  when_spent q =
      let s = strip_run_spent good rows_good limit allowance q in (
        too_many_lem ran.firings s.0 ran.board ran.rule s.1 s.2,
        outcome-is ∙ ap (λ (end : End). run_outcome (ended end ran.board ran.firings ran.rule)) q,
      )

  -- the other way: the run with that limit does its firings, ends LIMIT, and has that board
  has_spent : TakesTooMany b book_file board_file limit allowance room → ran.end ≡ Spent
  has_spent t =
      let n = t.completed in
      let same : run_outcome (run b n rows) ≡ record { answer = end_answer Limit (length (encode_board t.rows)) n t.last; written = encode_board t.rows }
      = sym (book_run n) ∙ t.reached in
      let again = board_encoded b.kinds (run b n rows).board (run_keeps_good b good n rows rows_good) in
      let bytes_same : encode_board (run b n rows).board ≡ encode_board t.rows = ap (λ (o : Outcome). o.written) same in
      let there : accepted (run b n rows).board ≡ accepted t.rows = sym again ∙ ap (judge_board b.kinds) bytes_same ∙ t.is_board in
      let rows_same : (run b n rows).board ≡ t.rows = cc in
      (strip_run_spent_iff good rows_good limit allowance).1 (
        n,
        t.short,
        is_limit (run b n rows).end (ap (λ (o : Outcome). o.answer.number) same),
        ap (attempt (translate b) allowance) rows_same ∙ (attempt_spent_iff b t.rows t.steps t.takes allowance).1 t.too_many,
      )

  strip_run_is : StripRunIs b book_file board_file limit allowance room outcome
  strip_run_is = record {
    as_the_book = λ not. outcome-is ∙ ap run_outcome (strip_run_plain good rows_good limit allowance (λ q. not (number_is ∙ ap end_number q))) ∙ sym (book_run limit);
    spent_exactly = ((λ q. (when_spent (is_spent_lem ran.end (sym number_is ∙ q))).0), λ t. number_is ∙ ap end_number (has_spent t));
    spent_board = λ q. when_spent (is_spent_lem ran.end (sym number_is ∙ q));
    never_stuck = λ q. strip_run_not_stuck good rows_good limit allowance (is_stuck ran.end (sym number_is ∙ q));
  }

-- "ends with the answer and board of demand 2, unless it reports the allowance spent"
pub strips_agree_lem : StripsAgree
strips_agree_lem book_file board_file limit allowance room strip_room b rows bytes bytes' e h l m =
    strip_run_is book_file board_file limit allowance room strip_room b rows bytes bytes' e h l m

-- a board that the book refuses, the strip refuses alike
pub boards_refused_alike_lem : BoardsRefusedAlike
unfolding run_book_file run_strip_file
boards_refused_alike_lem book_file board_file limit allowance room strip_room b why place bytes e h m =
    let good = translate-good (book_accepted book_file b bytes e).0 in
    let k : judge_board (strip_kinds (translate b)) board_file ≡ refused why place = ap (λ (ks : List Kind). judge_board ks board_file) (translate-kinds b) ∙ h in
    rw (translated book_file strip_room b e m, strip_encoded (translate b) good, k, e, h)

-- DEMAND 3
pub demand_three : DemandThree
demand_three = record {
  translations_are_strips = translations_are_strips_lem;
  attempts_end = attempts_end_lem;
  strips_agree = strips_agree_lem;
  boards_refused_alike = boards_refused_alike_lem;
}
