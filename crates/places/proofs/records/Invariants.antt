-- `records` meets its contract. The loop's invariant: what is counted and what is left make the whole, by each function that the closure computes.
use Prim.Native.Nat.{ℕ}
use Rattle.places.specs.Stands.{Computes}
use Rattle.places.proofs.Laws.{Counts}
use Rattle.places.proofs.records.Given as goal

abbrev pub invariant-loop-count : goal.invariant-loop-count
invariant-loop-count g l =
    (h : ℕ → ℕ) → Computes (goal.F-post g l.after) h → Counts l.book l.mark h l.most l.at l.count l.next
