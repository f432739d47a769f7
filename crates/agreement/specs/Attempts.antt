-- One attempt of a translated strip: it takes some number of steps; with an allowance of so many it ends as the book's firing does, with less
-- it is SPENT, and it is never STUCK.
use Rattle.std.specs.Prelude.{◌≡◌, refl, ℕ, suc, ◌≤◌, ◌<◌, ◌↔◌, ◌⊎◌, List, [], ◌∷◌, ◌++◌, map, length, leb, if◌then◌else◌}
use Rattle.std.proofs.Common.{sym, ◌∙◌, arith, inl, inr, ⊎_elim, length-append, leb-true, leb-false}
use Rattle.std.proofs.lemmas.Bool.{false≢true, lt-leb}
use Rattle.std.proofs.Math.Option.{some}
use Rattle.std.proofs.Math.ListN.{get_elem?}
use Rattle.std.proofs.lemmas.List.{length-map}
use Rattle.std.proofs.Math.Seq.{append_snoc}
use Rattle.meaning.specs.Facts.{Kind, Board}
use Rattle.meaning.specs.Rules.{Book}
use Rattle.meaning.specs.Firing.{Firing, fire, done, spent, stuck}
use Rattle.meaning.specs.Words.{Word, start, attempt}
use Rattle.meaning.specs.Translation.{kind_word, rules_words, translate}
use Rattle.meaning.specs.WellFormed.{GoodBook, GoodBoard}
use Rattle.agreement.specs.Tools.{cases, impossible}
use Rattle.agreement.specs.Leads.{Machine, Leads, At}
use Rattle.agreement.specs.Rules.{rules_cost, rules-done}
use Rattle.agreement.specs.Strip.{translate-kinds}

-- ---- words behind others stand at their address

seam : (before : List Word) (w : Word) (more : List Word) → get_elem? (before ++ (w ∷ more)) (length before) ≡ some w
seam [] w more = refl
seam (x ∷ before) w more = seam before w more

words-at : (m : Machine) (p : ℕ) (before words : List Word) → length before ≡ p → m.words ≡ before ++ words → At m p words
words-at m p before [] l e = tt
words-at m p before (w ∷ words) l e = (
  rw (e, ← l) (seam before w words),
  words-at m (suc p) (before ++ (w ∷ [])) words (omega (arith, length-append before (w ∷ [])))
      (e ∙ sym (append_snoc before w words)),
)

-- ---- the attempt

-- the translated strip on the board
abbrev translated : Book → Board → Machine
translated book board = record { words = translate book; kinds = book.kinds; board = board }

start_leads : {book : Book} {board : Board} → GoodBook book → GoodBoard book.kinds board
    → Leads (translated book board) (rules_cost book.kinds board book.rules) (start (translate book)) (fire book board)
unfolding start fire
start_leads {book} {board} good board-good =
    let kinds : List Kind = book.kinds in
    rw (translate-kinds book)
    (rules-done (translated book board) board-good book.rules 0 (length kinds) good.rules
    (words-at (translated book board) (length kinds) (map kind_word kinds) (rules_words kinds 0 (length kinds) book.rules) (length-map kinds kind_word)
    (unfold translate in refl))
    (λ i row l k h. absurd (false≢true h)))

-- an attempt of the book's strip takes so many steps: with fewer allowed it is spent, else it ends as the book's firing
abbrev pub Takes : Book → Board → ℕ → Type 0
Takes book board steps = (allowance : ℕ) → attempt (translate book) allowance board ≡ (if leb steps allowance then done (fire book board) else spent)

-- "For each attempt some number of steps is enough."
pub attempt-takes : {book : Book} {board : Board} → GoodBook book → GoodBoard book.kinds board
    → (steps : ℕ) × (steps ≤ rules_cost book.kinds board book.rules) × Takes book board steps
unfolding attempt
attempt-takes {book} good board-good =
    let leads = start_leads good board-good in
    (leads.steps, leads.few, λ allowance. rw (translate-kinds book) (leads.result allowance))

-- "It reports that exactly when one attempt at a firing takes more steps than allowed."
pub attempt_spent_iff : (book : Book) (board : Board) (steps : ℕ) → Takes book board steps → (allowance : ℕ)
    → (attempt (translate book) allowance board ≡ spent) ↔ (allowance < steps)
attempt_spent_iff book board steps takes allowance = (
  λ h. cases (leb steps allowance)
      (λ y. impossible (cc (rw y at (takes allowance))))
      (λ y. leb-false steps allowance y),
  λ h. rw (lt-leb steps allowance h) at (takes allowance),
)

takes_le : (book : Book) (board : Board) (n n' : ℕ) → Takes book board n → Takes book board n' → n ≤ n'
takes_le book board n n' takes takes' =
    cases (leb n n') (leb-true n n')
    (λ y. absurd (omega (arith, (attempt_spent_iff book board n' takes' n').0 ((attempt_spent_iff book board n takes n').1 (leb-false n n' y)))))

-- "counted by the strip's own step rules": there is one such number of steps.
pub takes_unique : (book : Book) (board : Board) (n n' : ℕ) → Takes book board n → Takes book board n' → n ≡ n'
takes_unique book board n n' takes takes' = omega (arith, takes_le book board n n' takes takes', takes_le book board n' n takes' takes)

-- "ends with the answer and board of demand 2, unless it reports the allowance spent": one attempt is the book's firing, or spent.
pub attempt_done_or_spent : {book : Book} {board : Board} → GoodBook book → GoodBoard book.kinds board → (allowance : ℕ)
    → (attempt (translate book) allowance board ≡ done (fire book board)) ⊎ (attempt (translate book) allowance board ≡ spent)
attempt_done_or_spent good board-good allowance =
    let takes = attempt-takes good board-good in
    cases (leb takes.0 allowance) (λ y. inl (rw y at (takes.2 allowance))) (λ y. inr (rw y at (takes.2 allowance)))

-- "ends with the answer and board of demand 2": what an attempt is done with is the book's firing.
pub attempt-done : {book : Book} {board : Board} {firing : Firing} → GoodBook book → GoodBoard book.kinds board → (allowance : ℕ)
    → attempt (translate book) allowance board ≡ done firing → fire book board ≡ firing
attempt-done good board-good allowance h = ⊎_elim (λ e. cc) (λ e. impossible (cc)) (attempt_done_or_spent good board-good allowance)

-- "a translated strip is never stuck"
pub attempt_not_stuck : {book : Book} {board : Board} → GoodBook book → GoodBoard book.kinds board → (allowance : ℕ)
    → attempt (translate book) allowance board ≡ stuck → ⊥
attempt_not_stuck good board-good allowance h = ⊎_elim (λ e. impossible (cc)) (λ e. impossible (cc)) (attempt_done_or_spent good board-good allowance)
