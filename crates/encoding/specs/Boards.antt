-- Board files: a file is accepted exactly if it is the encoding of a good board; that board is the only one; and it is what is read in place.
-- (Proved through rows as they stand in a file, `Written`.)
use Rattle.std.specs.Prelude.{ℕ, zero, suc, ◌*◌, ◌≤◌, ◌≡◌, refl, ◌↔◌, Bool, true, false, length}
use native.Mathlib.Omega.{arith}
use Rattle.std.proofs.Common.{sym, ap, ◌∙◌, subst}
use Rattle.std.proofs.Math.Path.{ap₂}
use mathlib.Core.List.{List, [], ◌∷◌, ◌++◌, map}
use Rattle.std.proofs.Math.ListN.{length-append}
use Rattle.std.proofs.lemmas.List.{length-map}
use Rattle.meaning.specs.Basics.{All}
use Rattle.meaning.specs.Facts.{Kind, Fact, Board, most_kinds, most_numbers, longest_board, arity_of}
use Rattle.meaning.specs.WellFormed.{GoodKind, GoodFact, GoodBoard}
use Rattle.files.specs.Marks.{CA, NO, EN}
use Rattle.files.specs.Judge.{accepted}
use Rattle.files.specs.Board.{judge_board}
use Rattle.files.specs.InPlace.{board_at}
use Rattle.files.specs.Encode.{two_bytes, concat_map, encode_row, encode_board}
use Rattle.encoding.specs.Bytes.{Bytes, bytes_apart, bytes_joined, said-length, said-spelled, said_limited, spelled-said, spelled-length, spelled_bytes}
use Rattle.encoding.specs.Written.{Written, meant, written, file_of, Fits, accepted-rows, rows-accepted, rows_in_place}

-- ---- accepted: the rows of a file of bytes are the encodings of good facts

module _ (kinds : List Kind) (card : Bool) (mark : List ℕ) where
  rows-good : (rows : List Written) → All (Fits kinds card) rows → Bytes (concat_map (written mark) rows)
      → All (GoodFact kinds card) (map meant rows) × (concat_map (written mark) rows ≡ concat_map (encode_row mark) (map meant rows))
  unfolding concat_map
  rows-good [] f b = (tt, refl)
  rows-good (w ∷ rows) f b =
      let (here, there) = bytes_apart (written mark w) (concat_map (written mark) rows) b in
      let own : Bytes (w.kind ∷ w.bytes) = (bytes_apart mark (w.kind ∷ w.bytes) here).1 in
      let (good, same) = rows-good rows f.1 there in
      let one : GoodFact kinds card (meant w) = record {
        declared = f.0.declared;
        class = f.0.class;
        arity = said-length (arity_of kinds w.kind) w.bytes f.0.size;
        numbers = said_limited w.bytes own.1;
      } in
      let bytes = said-spelled (arity_of kinds w.kind) w.bytes f.0.size own.1 in
      ((one, good), ap₂ ◌++◌ (ap (λ (l : List ℕ). mark ++ (w.kind ∷ l)) (sym bytes)) same)

-- An accepted file is the encoding of the board that it is accepted as, and that board is good.
pub board-accepted : (kinds : List Kind) (file : List ℕ) (board : Board) → Bytes file → judge_board kinds file ≡ accepted board
    → GoodBoard kinds board × (file ≡ encode_board board)
unfolding encode_board
board-accepted kinds file board b e =
    let r = accepted-rows kinds file board e in
    let cards = concat_map (written CA) r.cards in
    let notices = concat_map (written NO) r.notices in
    let (first, more) = bytes_apart cards (notices ++ EN) (subst Bytes r.was b) in
    let c = rows-good kinds true CA r.cards r.cards_fit first in
    let n = rows-good kinds false NO r.notices r.notices_fit (bytes_apart notices EN more).0 in (
      record {
        cards_size = r.cards_size;
        notices_size = r.notices_size;
        cards = rw r.all c.0;
        notices = rw r.all n.0;
      },
      cc (r.was, r.all, c.1, n.1),
    )

-- ---- encoded: good facts are rows that fit

-- the row that a fact is written as
abbrev spelled : Fact → Written
spelled f = record { kind = f.kind; bytes = concat_map two_bytes f.numbers }

facts-fit : (kinds : List Kind) (card : Bool) (facts : List Fact) → All (GoodFact kinds card) facts → All (Fits kinds card) (map spelled facts)
facts-fit kinds card [] g = tt
facts-fit kinds card (f ∷ facts) g = (
  record { declared = g.0.declared; class = g.0.class; size = spelled-length f.numbers ∙ ap (λ (k : ℕ). 2 * k) g.0.arity },
  facts-fit kinds card facts g.1,
)

facts-meant : (facts : List Fact) → map meant (map spelled facts) ≡ facts
facts-meant [] = refl
facts-meant (f ∷ facts) =
    ap₂ ◌∷◌ (ap (λ (vs : List ℕ). record { kind = f.kind; numbers = vs }) (spelled-said f.numbers)) (facts-meant facts)

facts-written : (mark : List ℕ) (facts : List Fact) → concat_map (written mark) (map spelled facts) ≡ concat_map (encode_row mark) facts
unfolding concat_map
facts-written mark [] = refl
facts-written mark (f ∷ facts) = ap (λ (l : List ℕ). encode_row mark f ++ l) (facts-written mark facts)

-- The encoding of a good board is accepted, as that board.
pub board_encoded : (kinds : List Kind) (board : Board) → GoodBoard kinds board → judge_board kinds (encode_board board) ≡ accepted board
unfolding encode_board
board_encoded kinds board g =
    let cards = map spelled board.cards in
    let notices = map spelled board.notices in
    let same : encode_board board ≡ file_of cards notices = cc (facts-written CA board.cards, facts-written NO board.notices) in
    ap (judge_board kinds) same
    ∙ rows-accepted kinds cards notices (facts-fit kinds true board.cards g.cards) (facts-fit kinds false board.notices g.notices)
    (omega (arith, length-map board.cards spelled, g.cards_size)) (omega (arith, length-map board.notices spelled, g.notices_size))
    ∙ rw (facts-meant board.cards, facts-meant board.notices)

-- So a file is accepted as a board exactly if that board is good and the file is its encoding.
pub board_exactly : (kinds : List Kind) (file : List ℕ) (board : Board) → Bytes file
    → (judge_board kinds file ≡ accepted board) ↔ (GoodBoard kinds board × (file ≡ encode_board board))
board_exactly kinds file board b =
    (λ e. board-accepted kinds file board b e, λ h. ap (judge_board kinds) h.1 ∙ board_encoded kinds board h.0)

-- "So a board has one encoding", and an encoding has one good board.
pub board_unique : (kinds : List Kind) (one other : Board) → GoodBoard kinds one → GoodBoard kinds other → encode_board one ≡ encode_board other
    → one ≡ other
board_unique kinds one other g h e =
    let p = board_encoded kinds one g in
    let q = board_encoded kinds other h in
    cc

-- ---- in place

-- What is read in place of an accepted file is the board that it is accepted as.
pub board_in_place : (kinds : List Kind) (file : List ℕ) (board : Board) → judge_board kinds file ≡ accepted board → board_at file kinds ≡ board
board_in_place kinds file board e =
    let r = accepted-rows kinds file board e in
    let c : length board.cards ≡ length r.cards = ap (λ (b : Board). length b.cards) r.all ∙ length-map r.cards meant in
    let n : length board.notices ≡ length r.notices = ap (λ (b : Board). length b.notices) r.all ∙ length-map r.notices meant in
    ap (λ (l : List ℕ). board_at l kinds) r.was
    ∙ rows_in_place kinds r.cards r.notices r.cards_fit r.notices_fit (omega (arith, r.cards_size)) (omega (arith, r.notices_size))
    ∙ sym r.all

-- ---- sizes

arity_most : (kinds : List Kind) (k : ℕ) → All GoodKind kinds → arity_of kinds k ≤ most_numbers
arity_most [] k g = omega arith
arity_most (kind ∷ kinds) zero g = g.0
arity_most (kind ∷ kinds) (suc k) g = arity_most kinds k g.1

module _ (kinds : List Kind) (card : Bool) (a b : ℕ) where
  abbrev mark : List ℕ
  mark = a ∷ b ∷ []

  -- a mark, a kind and at most four numbers: eleven bytes
  rows_size : (facts : List Fact) → All GoodKind kinds → All (GoodFact kinds card) facts → length (concat_map (encode_row mark) facts) ≤ 11 * length facts
  unfolding concat_map
  rows_size [] k g = omega arith
  rows_size (f ∷ facts) k g =
      omega (
        arith,
        rows_size facts k g.1,
        length-append (encode_row mark f) (concat_map (encode_row mark) facts),
        spelled-length f.numbers,
        g.0.arity,
        arity_most kinds f.kind k,
      )

  rows_bytes : (facts : List Fact) → length kinds ≤ most_kinds → Bytes mark → All (GoodFact kinds card) facts → Bytes (concat_map (encode_row mark) facts)
  unfolding concat_map
  rows_bytes [] k m g = tt
  rows_bytes (f ∷ facts) k m g =
      bytes_joined (encode_row mark f) (concat_map (encode_row mark) facts)
      (bytes_joined mark (f.kind ∷ concat_map two_bytes f.numbers) m (omega (arith, g.0.declared), spelled_bytes f.numbers g.0.numbers))
      (rows_bytes facts k m g.1)

-- "Longest book 17,794 bytes, board 4,226": no good board is longer.
pub board_size : (kinds : List Kind) (board : Board) → All GoodKind kinds → GoodBoard kinds board → length (encode_board board) ≤ longest_board
unfolding encode_board
board_size kinds board k g =
    omega (
      arith,
      rows_size kinds true 0x63 0x61 board.cards k g.cards,
      rows_size kinds false 0x6e 0x6f board.notices k g.notices,
      length-append (concat_map (encode_row CA) board.cards) (concat_map (encode_row NO) board.notices ++ EN),
      length-append (concat_map (encode_row NO) board.notices) EN,
      g.cards_size,
      g.notices_size,
    )

-- The encoding of a good board is bytes.
pub board_bytes_lem : (kinds : List Kind) (board : Board) → length kinds ≤ most_kinds → GoodBoard kinds board → Bytes (encode_board board)
unfolding encode_board
board_bytes_lem kinds board k g =
    bytes_joined (concat_map (encode_row CA) board.cards) (concat_map (encode_row NO) board.notices ++ EN)
    (rows_bytes kinds true 0x63 0x61 board.cards k (omega arith) g.cards)
    (bytes_joined (concat_map (encode_row NO) board.notices) EN (rows_bytes kinds false 0x6e 0x6f board.notices k (omega arith) g.notices) (omega arith))
