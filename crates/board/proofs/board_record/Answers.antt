-- `board_record` judges mark, place, size and fields of one record: a law for each answer. The last four goals are of a mark that is none of the three.
use Rattle.std.proofs.lemmas.Result.{err_from_is_err_and}
use native.Mathlib.Omega.{arith}
use Rattle.board.proofs.RecordLaws.{mark_cut, late_card, many-cards, a_card, many-notices, a_notice, at-end, unknown}
use Rattle.board.proofs.board_record.Goals as goal

pub returns-in_default : goal.returns-in_default
returns-in_default c = mark_cut _ _ _ _ c.in_default.ensures.cases

pub returns-then-notices-gt0 : goal.returns-then-notices-gt0
returns-then-notices-gt0 c = late_card _ _ _ _ _ _ c.in-Some.ensures.cases (omega arith) (omega arith) (omega arith)

pub returns-then-cards-ge-CARDS : goal.returns-then-cards-ge-CARDS
returns-then-cards-ge-CARDS c = many-cards _ _ _ _ _ _ c.in-Some.ensures.cases (omega arith) (omega arith) (omega arith) (omega arith)

pub returns-in_err-size-in-CA : goal.returns-in_err-size-in-CA
returns-in_err-size-in-CA c =
    let p = err_from_is_err_and c.from_residual.result c.from_residual.ensures.1 in
    rw (p.1, p.2)
    (a_card _ _ _ _ _ _ c.in-Some.ensures.cases (omega arith) (omega arith) (omega arith) (omega arith) _ c.in_err-size-in-CA.ensures)

pub returns-in_ok-size-in-CA : goal.returns-in_ok-size-in-CA
returns-in_ok-size-in-CA c =
    a_card _ _ _ _ _ _ c.in-Some.ensures.cases (omega arith) (omega arith) (omega arith) (omega arith) _ c.in_ok-size-in-CA.ensures

pub returns-then-notices-ge-NOTICES : goal.returns-then-notices-ge-NOTICES
returns-then-notices-ge-NOTICES c = many-notices _ _ _ _ _ _ c.in-Some.ensures.cases (omega arith) (omega arith) (omega arith)

pub returns-in_err-size-in-NO : goal.returns-in_err-size-in-NO
returns-in_err-size-in-NO c =
    let p = err_from_is_err_and c.from_residual-in_err-size-in-NO.result c.from_residual-in_err-size-in-NO.ensures.1 in
    rw (p.1, p.2) (a_notice _ _ _ _ _ _ c.in-Some.ensures.cases (omega arith) (omega arith) (omega arith) _ c.in_err-size-in-NO.ensures)

pub returns-in_ok-size-in-NO : goal.returns-in_ok-size-in-NO
returns-in_ok-size-in-NO c =
    a_notice _ _ _ _ _ _ c.in-Some.ensures.cases (omega arith) (omega arith) (omega arith) _ c.in_ok-size-in-NO.ensures

pub returns-in-EN : goal.returns-in-EN
returns-in-EN c = at-end _ _ _ _ _ _ c.in-Some.ensures.cases (omega arith) (omega arith)

pub returns-in_default-mark : goal.returns-in_default-mark
returns-in_default-mark c = unknown _ _ _ _ _ _ c.in-Some.ensures.cases (λ a b. omega arith) (λ a b. omega arith) (λ a b. omega arith)

pub returns-in_default-mark-2 : goal.returns-in_default-mark-2
returns-in_default-mark-2 c = unknown _ _ _ _ _ _ c.in-Some.ensures.cases (λ a b. omega arith) (λ a b. omega arith) (λ a b. omega arith)

pub returns-in_default-mark-3 : goal.returns-in_default-mark-3
returns-in_default-mark-3 c = unknown _ _ _ _ _ _ c.in-Some.ensures.cases (λ a b. omega arith) (λ a b. omega arith) (λ a b. omega arith)

pub returns-in_default-mark-4 : goal.returns-in_default-mark-4
returns-in_default-mark-4 c = unknown _ _ _ _ _ _ c.in-Some.ensures.cases (λ a b. omega arith) (λ a b. omega arith) (λ a b. omega arith)
