-- Heads: KEEP, PUT and ARG make the head atoms' facts under the values, or end the attempt with FULL where the made list has no room.
use Rattle.std.specs.Prelude.{◌≡◌, ◌||◌}
use Rattle.std.proofs.Math.Path.{refl, fun_ext}
use Prim.Native.Nat.{ℕ, suc, ◌+◌}
use Rattle.std.proofs.Math.Nat.{add-zero}
use Rattle.std.proofs.Common.{add-suc, suc-add, lt-ltb}
use native.Mathlib.Omega.{arith}
use Rattle.std.proofs.Math.Bool.{false}
use Rattle.std.proofs.Math.Option.{Option, some}
use mathlib.Core.List.{List, [], ◌∷◌, ◌++◌, map, append-nil}
use Rattle.std.proofs.Math.ListN.{length, replicate, length-append}
use Rattle.std.proofs.Math.Seq.{set-append_seam, append_snoc}
use Rattle.meaning.specs.Basics.{mem, All}
use Rattle.meaning.specs.Facts.{Kind, Fact, arity_of}
use Rattle.meaning.specs.Rules.{Term, Atom, Values, value_of}
use Rattle.meaning.specs.Fit.{Bindings, Known, Marks, values_of}
use Rattle.meaning.specs.Firing.{Work, head_fact, head_facts, taken, Firing, full}
use Rattle.meaning.specs.Words.{KEEP, Cursors, cursor_count, held, state, made_has_room, set_number, on_last}
use Rattle.meaning.specs.Translation.{arg_words, head_words, head_length}
use Rattle.meaning.specs.WellFormed.{GoodTerm, GoodAtom}
use Rattle.agreement.specs.Tools.{cases}
use Rattle.agreement.specs.Leads.{Machine, Leads, within, go, stop, At, halves}
use Rattle.agreement.specs.Lengths.{length-arg_words}
use Rattle.agreement.specs.Registers.{Loaded, value_agrees}
use Rattle.agreement.specs.Cursors.{Ready}
use Rattle.agreement.specs.Atoms.{stand}
use Rattle.agreement.specs.Made.{room-kind, room_less}

abbrev fact : ℕ → List ℕ → Fact
fact k numbers = record { kind = k; numbers = numbers }

-- ---- the last made fact

on_last_lem : (change : Fact → Option Fact) (x y : Fact) → change x ≡ some y → (made : List Fact) → on_last change (made ++ (x ∷ [])) ≡ some (made ++ (y ∷ []))
unfolding on_last
on_last_lem change x y e [] = rw e
on_last_lem change x y e (z ∷ []) = rw e
on_last_lem change x y e (z ∷ z' ∷ made) = rw (on_last_lem change x y e (z' ∷ made))

-- its next number
set_next : (made : List Fact) (k : ℕ) (done : List ℕ) (z v : ℕ) (rest : List ℕ)
    → on_last (set_number (length done) v) (made ++ (fact k (done ++ (z ∷ rest)) ∷ [])) ≡ some (made ++ (fact k ((done ++ (v ∷ [])) ++ rest) ∷ []))
set_next made k done z v rest =
    on_last_lem (set_number (length done) v) (fact k (done ++ (z ∷ rest))) (fact k ((done ++ (v ∷ [])) ++ rest))
    (rw (
      lt-ltb (length done) (length (done ++ (z ∷ rest))) (omega (
        arith,
        length-append done
            (z ∷ rest),
      )),
      set-append_seam done z rest v,
      append_snoc done v rest,
    )) made

module _ {m : Machine} {cursors : Cursors} {used : Marks} {values : Values} {bindings : Bindings} {bound : List ℕ} (l : Loaded bindings bound values) where
  -- the ARGs of a head atom
  numbers-set : {limit : ℕ} {f : Firing} (k : ℕ) (made : List Fact) (terms : List Term) (done : List ℕ) (p : ℕ)
      → All (GoodTerm (λ x. mem x bound)) terms → At m p (arg_words (length done) terms)
      → Leads m limit (state (p + length terms) values cursors used (made ++ (fact k (done ++ map (value_of (values_of bindings)) terms) ∷ []))) f
      → Leads m (length terms + limit) (state p values cursors used (made ++ (fact k (done ++ replicate (length terms) 0) ∷ []))) f
  unfolding arg_words
  numbers-set k made [] done p good w after = within (omega arith) (rw add-zero at after)
  numbers-set {limit} k made (t ∷ terms) done p good w after =
      let v : ℕ = value_of (values_of bindings) t in
      let longer : length (done ++ (v ∷ [])) ≡ suc (length done) = omega (arith, length-append done (v ∷ [])) in
      let rest : List ℕ = replicate (length terms) 0 in
      within (omega arith) (go {s' = state (suc p) values cursors used (made ++ (fact k ((done ++ (v ∷ [])) ++ rest) ∷ []))} w.0
      (rw (value_agrees l t good.0, set_next made k done 0 v rest))
      (numbers-set {limit = limit} k made terms (done ++ (v ∷ [])) (suc p) good.1 (rw longer w.1)
      (rw (append_snoc done v (map (value_of (values_of bindings)) terms)) (rw (add-suc, ← suc-add) at after))))

  -- the words of the head atoms
  heads-made : {limit : ℕ} {f : Firing} (heads : List Atom) (made : List Fact) (p : ℕ) → All (GoodAtom m.kinds (λ x. mem x bound)) heads
      → At m p (head_words heads)
      → (made_has_room m.kinds (made ++ head_facts bindings heads) ≡ false → f ≡ full)
      → Leads m limit (state (p + head_length heads) values cursors used (made ++ head_facts bindings heads)) f
      → Leads m (head_length heads + limit) (state p values cursors used made) f
  unfolding head_words head_length
  heads-made [] made p good w overfull after = within (omega arith) (rw (add-zero, append-nil) at after)
  heads-made {limit} (h ∷ heads) made p good w overfull after =
      let kinds : List Kind = m.kinds in
      let zeros : Fact = fact h.kind (replicate (arity_of kinds h.kind) 0) in
      let made' : List Fact = made ++ (head_fact (values_of bindings) h ∷ []) in
      let same : made_has_room kinds (made ++ (zeros ∷ [])) ≡ made_has_room kinds made' = room-kind kinds made zeros (head_fact (values_of bindings) h) refl in
      let all : made' ++ head_facts bindings heads ≡ made ++ head_facts bindings (h ∷ heads) = append_snoc made (head_fact (values_of bindings) h)
      (head_facts bindings heads) in
      let parts = halves m (suc p) (suc p + length h.terms) (arg_words 0 h.terms) (head_words heads) (omega (arith, length-arg_words 0 h.terms))
      w.1 in
      let exit : p + suc (length h.terms + head_length heads) ≡ suc p + length h.terms + head_length heads = omega arith in
      cases (made_has_room kinds made')
      (λ y. within (omega arith) (go {n = length h.terms + (head_length heads + limit)} {s' = state (suc p) values cursors used
      (made ++ (zeros ∷ []))} w.0 (rw (same, y))
      (rw (← good.0.arity) (numbers-set {limit = head_length heads + limit} h.kind made h.terms [] (suc p) good.0.terms parts.0
      (heads-made {limit = limit} heads made' (suc p + length h.terms) good.1 parts.1 (λ q. overfull (rw all at q))
      (rw all (rw exit at after)))))))
      (λ y. let none : made_has_room kinds (made' ++ head_facts bindings heads) ≡ false = room_less kinds made' (head_facts bindings heads) y in
      rw (overfull (rw all at none)) (within {n = 1} (omega arith) (stop w.0 (rw (same, y)))))

-- what comes of some work is FULL where it has made too much
abbrev pub Overflows : List Kind → (Work → Firing) → Type 0
Overflows kinds k = (work : Work) → made_has_room kinds work.made ≡ false → k work ≡ full

-- THE HEADS: KEEP and the head atoms' words take the choice
pub keep_heads : {m : Machine} {limit : ℕ} {before cursors : Cursors} {bound : List ℕ} {known : Known} {values : Values} {work : Work}
    (heads : List Atom) (p : ℕ)
    → All (GoodAtom m.kinds (λ x. mem x bound)) heads → At m p (KEEP ∷ head_words heads)
    → Ready cursor_count cursor_count before bound known values cursors work.used → (k : Work → Firing) → Overflows m.kinds k
    → Leads m limit (stand (p + suc (head_length heads)) values cursors (taken heads work (some known))) (k (taken heads work (some known)))
    → Leads m (suc (head_length heads) + limit) (stand p values cursors work) (k (taken heads work (some known)))
keep_heads {limit} {cursors} {known} {values} {work} heads p good w r k overflows after =
    let kept : (λ row. work.used row || held cursors row) ≡ known.gone = fun_ext r.holding in
    within {n = suc (head_length heads + limit)} (omega arith) (go {s' = state (suc p) values cursors known.gone work.made} w.0 (rw kept)
    (heads-made r.loaded heads work.made (suc p) good w.1 (λ q. overflows (taken heads work (some known)) q) (rw (add-suc, ← suc-add) at after)))
