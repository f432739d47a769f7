-- The loop over records: what is read so far and what is left give the judgement of the whole file. One law for each end of `check_board`.
use Prim.Native.Nat.{ℕ, zero, suc, ◌+◌, ◌-◌, ◌≤◌, ◌<◌}
use mathlib.Core.Path.{◌≡◌, refl, sym, ap, ◌∙◌}
use mathlib.Core.List.{List, [], ◌∷◌, ◌++◌}
use mathlib.Core.Option.{none, some}
use native.Mathlib.Omega.{arith}
use lib.ListN.{length, take, drop, length-drop, length-append}
use lib.Seq.{take_all}
use Rattle.std.specs.Prelude.{Result, Ok, Err}
use Rattle.meaning.specs.Facts.{Kind, Fact, Board}
use Rattle.files.specs.Numbers.{TRAIL}
use Rattle.files.specs.Numbers as N
use Rattle.files.specs.InPlace.{fact_at}
use Rattle.files.specs.Judge.{Verdict, Judged, told, after_record, at_end, judge}
use Rattle.files.specs.Board.{board_record, empty_board, judge_board}
use Rattle.answers.specs.Refused.{about, told_by}
use Rattle.answers.specs.declared.Reason.{Reason}
use Rattle.answers.specs.declared.Reason.TheVariants as W
use Rattle.answers.specs.declared.File.TheVariants as F
use Rattle.board.specs.Says.{told_at, RecordSays, record_says, with_card, with_notice}
use Rattle.board.specs.declared.Record.{Record}
use Rattle.board.specs.declared.Record.TheVariants as R

-- so many cards and notices are read, `rest` is left of the file, and to go on from there is to judge the file
pub record Turn (kinds : List Kind) (file rest : List ℕ) (cards notices : ℕ) : Type 0 where
  pub board : Board
  pub turns : ℕ
  pub left : length rest ≤ turns
  pub counts : cards + notices + length rest ≤ length file
  pub cards_are_lem : length board.cards ≡ cards
  pub notices_are_lem : length board.notices ≡ notices
  pub same : judge (length file) (board_record kinds (length file)) (suc turns) board rest ≡ judge_board kinds file

pub turn_start : (kinds : List Kind) (file : List ℕ) → Turn kinds file file 0 0
unfolding judge_board
turn_start kinds file = record {
  board = empty_board;
  turns = length file;
  left = omega arith;
  counts = omega arith;
  cards_are_lem = refl;
  notices_are_lem = refl;
  same = refl;
}

-- a slice from m on is what is left after m
slice_from : (m : ℕ) (rest : List ℕ) → take (length rest - m) (drop m rest) ≡ drop m rest
slice_from m rest = take_all (length rest - m) (drop m rest) (omega (arith, length-drop m rest))

one_more_lem : {A : Type 0} (l : List A) (a : A) (n : ℕ) → length l ≡ n → length (l ++ (a ∷ [])) ≡ n + 1
one_more_lem l a n e = omega (arith, length-append l (a ∷ []))

end-accepted : (n : ℕ) (board : Board) (rest : List ℕ) → length rest ≡ 0 → none ≡ told (at_end n board rest)
end-accepted n board [] h = refl
end-accepted n board (x ∷ rest) h = let z : ⊥ = omega arith in absurd z

end_trailed : (n : ℕ) (board : Board) (rest : List ℕ) → 0 < length rest → some (TRAIL, n - length rest) ≡ told (at_end n board rest)
end_trailed n board [] h = let z : ⊥ = omega arith in absurd z
end_trailed n board (x ∷ rest) h = refl

after_en : (n : ℕ) (rest : List ℕ) → 2 ≤ length rest → length rest ≤ n → n - length rest + 2 ≡ n - length (drop 2 rest)
after_en n rest two h = omega (arith, length-drop 2 rest)

module _ (kinds : List Kind) (file rest : List ℕ) (cards notices : ℕ) (t : Turn kinds file rest cards notices) where
  abbrev from : ℕ → Board → List ℕ → Verdict Board
  from turns board more = judge (length file) (board_record kinds (length file)) turns board more

  -- the next turn, after a row of m bytes
  after-row : (turns m cards' notices' : ℕ) (board : Board) → t.turns ≡ turns → (2 ≤ m) × (m ≤ length rest)
      → cards' + notices' ≡ cards + notices + 1 → length board.cards ≡ cards' → length board.notices ≡ notices'
      → from t.turns board (drop m rest) ≡ judge_board kinds file → Turn kinds file (take (length rest - m) (drop m rest)) cards' notices'
  after-row zero m cards' notices' board z h sum p q e = let bad : ⊥ = omega (arith, t.left) in absurd bad
  after-row (suc turns) m cards' notices' board z h sum p q e = rw slice_from (record {
    board = board;
    turns = turns;
    left = omega (arith, t.left, length-drop m rest);
    counts = omega (arith, t.counts, length-drop m rest);
    cards_are_lem = p;
    notices_are_lem = q;
    same = ap (λ (k : ℕ). from k board (drop m rest)) (sym z) ∙ e;
  })

  -- to go on from the answer on the record is to judge the file
  after : (r : Result Record Reason) → RecordSays kinds rest cards notices r
      → after_record (length file) (record_says kinds (length file) (length file - length rest) t.board rest r) (λ board more. from t.turns board more) ≡ judge_board kinds file
  unfolding judge
  after r s =
      ap (λ (j : Judged Board). after_record (length file) j (λ board more. from t.turns board more)) (sym (s.says (length file) t.board t.cards_are_lem t.notices_are_lem))
      ∙ t.same

  pub card_read : (m : ℕ) → RecordSays kinds rest cards notices (Ok (R.Card m)) → Turn kinds file (take (length rest - m) (drop m rest)) (cards + 1) notices
  card_read m s =
      let f : Fact = (fact_at (drop 2 rest) kinds 0).value in
      after-row t.turns m (cards + 1) notices (with_card t.board f) refl s.fits (omega arith)
      (one_more_lem t.board.cards f cards t.cards_are_lem) t.notices_are_lem (after (Ok (R.Card m)) s)

  pub notice_read : (m : ℕ) → RecordSays kinds rest cards notices (Ok (R.Notice m)) → Turn kinds file (take (length rest - m) (drop m rest)) cards (notices + 1)
  notice_read m s =
      let f : Fact = (fact_at (drop 2 rest) kinds 0).value in
      after-row t.turns m cards (notices + 1) (with_notice t.board f) refl s.fits (omega arith)
      t.cards_are_lem (one_more_lem t.board.notices f notices t.notices_are_lem) (after (Ok (R.Notice m)) s)

  -- ---- the ends

  pub on_refused : (why : Reason) → RecordSays kinds rest cards notices (Err why)
      → told_by (Err (record { file = F.Board; reason = why; place = told_at (length file) (length file - length rest) why })) ≡ about N.board (told (judge_board kinds file))
  on_refused why s = ap (λ (v : Verdict Board). about N.board (told v)) (after (Err why) s)

  pub on-end : RecordSays kinds rest cards notices (Ok R.End) → length rest ≡ 2 → told_by (Ok tt) ≡ about N.board (told (judge_board kinds file))
  on-end s l =
      ap (about N.board) (end-accepted (length file) t.board (drop 2 rest) (omega (arith, length-drop 2 rest)) ∙ ap told (after (Ok R.End) s))

  pub on_trail : RecordSays kinds rest cards notices (Ok R.End) → (length rest ≡ 2 → ⊥)
      → told_by (Err (record { file = F.Board; reason = W.Trail; place = length file - length rest + 2 })) ≡ about N.board (told (judge_board kinds file))
  on_trail s l =
      ap (about N.board)
      (ap (λ (k : ℕ). some (TRAIL, k)) (after_en (length file) rest s.fits (omega (arith, t.counts)))
      ∙ end_trailed (length file) t.board (drop 2 rest) (omega (arith, s.fits, length-drop 2 rest))
      ∙ ap told (after (Ok R.End) s))
