-- A rule's words fire it as the book does, or go on to the next rule where no choice fits; the rules in order, then QUIET, do what a firing of
-- the book does.
use Rattle.std.proofs.Math.Path.{refl}
use Rattle.std.proofs.Common.{ap, add_assoc, arith}
use Prim.Native.Nat.{ℕ, suc, ◌+◌, ◌*◌, ◌≤◌}
use Rattle.std.proofs.Math.Nat.{add-zero}
use Rattle.std.proofs.Math.Option.{Option, some, none-ne-some}
use mathlib.Core.List.{List, [], ◌∷◌, ◌++◌}
use Rattle.std.specs.Prelude.{length}
use Rattle.meaning.specs.Basics.{fold, mem, All}
use Rattle.meaning.specs.Facts.{Kind, Board, most_in_rule, most_in_sweep}
use Rattle.meaning.specs.Rules.{Atom, Test, Sweep, Rule, Values}
use Rattle.meaning.specs.Fit.{Bindings, Known, no_marks, nothing_known, fit, choices, first_fit}
use Rattle.meaning.specs.Firing.{Work, taken, take_if_fits, run_sweep, run_sweeps, rule_work, settle, Firing, fire_rule, fire_from}
use Rattle.meaning.specs.Words.{KEEP, JUMP, FIRE, Cursors, cursor_count}
use Rattle.meaning.specs.Translation.{bound_by, body_words, body_length, head_words, head_length, resume, sweep_words, sweep_length, sweeps_words, sweeps_length, rule_words, rule_length, rules_words}
use Rattle.meaning.specs.WellFormed.{GoodAtom, GoodSweep, GoodRule, GoodBoard}
use Rattle.agreement.specs.Tools.{options}
use Rattle.agreement.specs.Leads.{Machine, Leads, within, go, stop, At, halves}
use Rattle.agreement.specs.Variables.{rule_group, sweep_group}
use Rattle.agreement.specs.Lengths.{length-body_words, length-head_words, length-sweep_words, length-sweeps_words, length-rule_words}
use Rattle.agreement.specs.Registers.{Loaded}
use Rattle.agreement.specs.Cursors.{Idle, Ready, ready_idle, idle_ready}
use Rattle.agreement.specs.Choices.{Taking, knows, sweep_all}
use Rattle.agreement.specs.Made.{room_less, overfull_settles}
use Rattle.agreement.specs.Atoms.{stand}
use Rattle.agreement.specs.Bodies.{cost, search_body}
use Rattle.agreement.specs.Heads.{Overflows, keep_heads}
use Rattle.agreement.specs.Sweeps.{Leaf, later-fold, sweep-body}

-- ---- sweeps

-- a taken choice makes its heads' facts
abbrev make_heads : List Atom → Taking
make_heads heads = record { take = taken heads; still = λ work. refl; uses = λ work known. refl }

overflows_later : (kinds : List Kind) (heads : List Atom) (k : Work → Firing) (o : Work → Option Known) → Overflows kinds k
    → Overflows kinds (λ work. k (taken heads work (o work)))
overflows_later kinds heads k o overflows work q =
    options (o work) (λ e. rw e (overflows work q)) (λ known e. rw e (overflows (taken heads work (some known)) (room_less kinds work.made _ q)))

overflows_sweeps : (kinds : List Kind) (board : Board) (bindings : Bindings) (k : Work → Firing) → Overflows kinds k → (sweeps : List Sweep)
    → Overflows kinds (λ work. k (run_sweeps kinds board bindings work sweeps))
unfolding run_sweeps run_sweep
overflows_sweeps kinds board bindings = later-fold (Overflows kinds) (run_sweep kinds board bindings)
    (λ k sweep overflows. later-fold (Overflows kinds) (take_if_fits kinds sweep bindings)
    (λ k' c. overflows_later kinds sweep.heads k' (λ w. fit kinds sweep.body sweep.tests c (knows bindings w))) k overflows
    (choices kinds board sweep.body))

-- steps that sweeps, a rule and a book's rules take at the most
unfoldable pub sweeps_cost : List Kind → Board → List Sweep → ℕ
sweeps_cost kinds board [] = 0
sweeps_cost kinds board (sweep ∷ more) = cost kinds board sweep.tests (suc (head_length sweep.heads + 1)) sweep.body + sweeps_cost kinds board more

unfoldable pub rule_cost : List Kind → Board → Rule → ℕ
rule_cost kinds board rule =
    cost kinds board rule.tests 0 rule.body + suc (head_length rule.heads + (sweeps_cost kinds board rule.sweeps + 1))

unfoldable pub rules_cost : List Kind → Board → List Rule → ℕ
rules_cost kinds board [] = 1
rules_cost kinds board (rule ∷ more) = rule_cost kinds board rule + rules_cost kinds board more

module _ (m : Machine) (good : GoodBoard m.kinds m.board) where
  abbrev kinds : List Kind
  kinds = m.kinds

  abbrev board : Board
  board = m.board

  -- KEEP, the heads, JUMP
  heads_leaf : (tests : List Test) (heads : List Atom) (p target : ℕ) (bound : List ℕ) → All (GoodAtom kinds (λ x. mem x bound)) heads
      → At m p (KEEP ∷ (head_words heads ++ (JUMP target ∷ [])))
      → Leaf m good tests (make_heads heads) (Overflows kinds) (overflows_later kinds heads) (suc (head_length heads + 1)) p target bound
  heads_leaf tests heads p target bound heads-good w limit known values before cursors work k overflows r after =
      let parts = halves m p (p + suc (head_length heads)) (KEEP ∷ head_words heads) (JUMP target ∷ []) (omega (arith, length-head_words heads)) w in
      within (omega arith) (keep_heads heads p heads-good parts.0 r k overflows (go parts.1.0 refl after))

  -- one sweep
  sweep-done : {limit : ℕ} (rule_body body : List Atom) (tests : List Test) (heads : List Atom)
      (c p : ℕ) {values : Values} {cursors : Cursors} {bindings : Bindings}
      (work : Work) (k : Work → Firing) → let sweep : Sweep = record { body = body; tests = tests; heads = heads } in
      GoodSweep kinds rule_body sweep → c + most_in_sweep ≤ cursor_count → At m p (sweep_words kinds c p (bound_by rule_body []) sweep) → Overflows kinds k
      → Loaded bindings (bound_by rule_body []) values → Idle 0 work.used cursors
      → ((work' : Work) (values' : Values) (cursors' : Cursors) → Loaded bindings (bound_by rule_body []) values' → Idle 0 work'.used cursors'
      → Leads m limit (stand (p + sweep_length sweep) values' cursors' work') (k work'))
      → Leads m (cost kinds board tests (suc (head_length heads + 1)) body + limit) (stand p values cursors work)
      (k (run_sweep kinds board bindings work sweep))
  unfolding sweep_words run_sweep sweep_all
  sweep-done rule_body [] tests heads c p work k sweep-good room w overflows loaded idle leave = absurd (omega (arith, sweep-good.bodied))
  sweep-done rule_body (a ∷ atoms) tests heads c p {cursors} work k sweep-good room w overflows loaded idle leave =
      let bound : List ℕ = bound_by rule_body [] in
      let exit : ℕ = p + sweep_length (record { body = a ∷ atoms; tests = tests; heads = heads }) in
      let group = sweep_group sweep-good in
      let parts = halves m p (p + body_length (a ∷ atoms) tests) (body_words c p exit bound (a ∷ atoms) tests) _
      (ap (λ n. p + n) (length-body_words c p exit bound (a ∷ atoms) tests)) w in
      sweep-body m good tests (make_heads heads) (Overflows kinds) (overflows_later kinds heads) (suc (head_length heads + 1)) a atoms
      group.body_atoms p work k overflows
      group.good_tests (omega (arith, group.body_size)) parts.0
      (heads_leaf tests heads (p + body_length (a ∷ atoms) tests) (resume kinds p (a ∷ atoms)) (bound_by (a ∷ atoms) bound) group.head_atoms parts.1)
      (idle_ready c c {before = cursors} (omega arith) loaded (λ i l. refl) idle)
      (λ work' v cu r. leave work' v cu r.loaded (ready_idle r))

  -- a rule's sweeps in order
  sweeps-done : {limit : ℕ} (rule_body : List Atom) (sweeps : List Sweep) (c p : ℕ) {values : Values} {cursors : Cursors} {bindings : Bindings}
      (work : Work) (k : Work → Firing)
      → All (GoodSweep kinds rule_body) sweeps → c + most_in_sweep * length sweeps ≤ cursor_count
      → At m p (sweeps_words kinds c p (bound_by rule_body []) sweeps) → Overflows kinds k
      → Loaded bindings (bound_by rule_body []) values → Idle 0 work.used cursors
      → ((work' : Work) (values' : Values) (cursors' : Cursors) → Leads m limit (stand (p + sweeps_length sweeps) values' cursors' work') (k work'))
      → Leads m (sweeps_cost kinds board sweeps + limit) (stand p values cursors work) (k (run_sweeps kinds board bindings work sweeps))
  unfolding sweeps_words sweeps_length sweeps_cost run_sweeps fold
  sweeps-done rule_body [] c p {values} {cursors} work k sweeps-good room w overflows loaded idle leave =
      within (omega arith) (rw add-zero at (leave work values cursors))
  sweeps-done {limit} rule_body (sweep ∷ more) c p {bindings} work k sweeps-good room w overflows loaded idle leave =
      let bound : List ℕ = bound_by rule_body [] in
      let parts = halves m p (p + sweep_length sweep) (sweep_words kinds c p bound sweep) _ (ap (λ n. p + n) (length-sweep_words kinds c p bound sweep)) w in
      within {n = cost kinds board sweep.tests (suc (head_length sweep.heads + 1)) sweep.body + (sweeps_cost kinds board more + limit)} (omega arith)
      (sweep-done rule_body sweep.body sweep.tests sweep.heads c p work (λ w'. k (run_sweeps kinds board bindings w' more)) sweeps-good.0
      (omega arith) parts.0
      (overflows_sweeps kinds board bindings k overflows more) loaded idle
      (λ work' v cu loaded' idle'. sweeps-done {limit = limit} rule_body more (most_in_sweep + c) (p + sweep_length sweep) work' k sweeps-good.1
      (omega arith) parts.1 overflows loaded' idle'
      (λ w'' v' cu'. rw (add_assoc p (sweep_length sweep) (sweeps_length more)) (leave w'' v' cu'))))

  -- ---- rules

  abbrev nothing_done : Work
  nothing_done = record { used = no_marks; made = [] }

  -- where a choice fits: KEEP, the heads, the sweeps, FIRE
  fires : (r p : ℕ) (rule : Rule) {values : Values} {before cursors : Cursors} (known : Known) → GoodRule kinds rule
      → At m (p + body_length rule.body rule.tests) (KEEP ∷ (head_words rule.heads
      ++ (sweeps_words kinds most_in_rule (p + body_length rule.body rule.tests + suc (head_length rule.heads)) (bound_by rule.body [])
      rule.sweeps ++ (FIRE r ∷ []))))
      → Ready cursor_count cursor_count before (bound_by rule.body []) known values cursors no_marks
      → Leads m (suc (head_length rule.heads + (sweeps_cost kinds board rule.sweeps + 1)))
      (stand (p + body_length rule.body rule.tests) values cursors nothing_done) (settle kinds board r (rule_work kinds board rule known))
  fires r p rule known rule-good w ready =
      let sweeps : List Sweep = rule.sweeps in
      let q : ℕ = p + body_length rule.body rule.tests in
      let q' : ℕ = q + suc (head_length rule.heads) in
      let words = sweeps_words kinds most_in_rule q' (bound_by rule.body []) sweeps in
      let k : Work → Firing = λ work. settle kinds board r (run_sweeps kinds board known.bindings work sweeps) in
      let overflows : Overflows kinds k = overflows_sweeps kinds board known.bindings (settle kinds board r) (overfull_settles kinds board r) sweeps in
      let parts = halves m q q' (KEEP ∷ head_words rule.heads) _ (omega (arith, length-head_words rule.heads)) w in
      let parts' = halves m q' (q' + sweeps_length sweeps) words (FIRE r ∷ [])
      (ap (λ n. q' + n) (length-sweeps_words kinds most_in_rule q' (bound_by rule.body []) sweeps)) parts.1 in
      within {n = suc (head_length rule.heads) + (sweeps_cost kinds board sweeps + 1)} (omega arith)
      (keep_heads rule.heads q (rule_group rule-good).head_atoms parts.0 ready k overflows
      (sweeps-done rule.body sweeps most_in_rule q' _ (settle kinds board r) rule-good.sweeps (omega (arith, rule-good.sweeps_size)) parts'.0
      (overfull_settles kinds board r)
      ready.loaded (ready_idle ready) (λ work v cu. stop parts'.1.0 refl)))

  -- a rule: it fires, or the words go on behind it
  rule-done : {limit : ℕ} (r p : ℕ) (rule : Rule) (later : Firing) {values : Values} {cursors : Cursors} → GoodRule kinds rule
      → At m p (rule_words kinds r p rule)
      → Idle 0 no_marks cursors
      → ((values' : Values) (cursors' : Cursors) → Idle 0 no_marks cursors' → Leads m limit (stand (p + rule_length rule) values' cursors' nothing_done) later)
      → Leads m (rule_cost kinds board rule + limit) (stand p values cursors nothing_done)
      (fire_rule kinds board r rule (first_fit kinds board rule.body rule.tests nothing_known) later)
  unfolding rule_words rule_cost
  rule-done {limit} r p rule later {cursors} rule-good w idle next =
      let exit : ℕ = p + rule_length rule in
      let group = rule_group rule-good in
      let parts = halves m p (p + body_length rule.body rule.tests) (body_words 0 p exit [] rule.body rule.tests) _
      (ap (λ n. p + n) (length-body_words 0 p exit [] rule.body rule.tests)) w in
      let more : ℕ = suc (head_length rule.heads + (sweeps_cost kinds board rule.sweeps + 1)) in
      within {n = cost kinds board rule.tests 0 rule.body + (more + limit)} (omega arith)
      (search_body good rule.tests rule.body group.body_atoms p (λ o. fire_rule kinds board r rule o later) group.good_tests
      (omega (arith, group.body_size)) parts.0
      (idle_ready 0 0 {before = cursors} (omega arith) (record { named = refl; agreed = λ x v h. absurd (none-ne-some v h) }) (λ i l. refl) idle)
      (λ v cu ready. within (omega arith) (next v cu (ready_idle ready)))
      (λ known v cu ext same ready. within (omega arith) (fires r p rule known rule-good parts.1 ready)))

  -- THE RULES: their words and QUIET do a firing of the book
  pub rules-done : (rules : List Rule) (r p : ℕ) {values : Values} {cursors : Cursors} → All (GoodRule kinds) rules
      → At m p (rules_words kinds r p rules) → Idle 0 no_marks cursors
      → Leads m (rules_cost kinds board rules) (stand p values cursors nothing_done) (fire_from kinds board r rules)
  unfolding rules_words fire_from rules_cost
  rules-done [] r p rules-good w idle = stop w.0 refl
  rules-done (rule ∷ more) r p rules-good w idle =
      let parts = halves m p (p + rule_length rule) (rule_words kinds r p rule) _ (ap (λ n. p + n) (length-rule_words kinds r p rule)) w in
      rule-done r p rule (fire_from kinds board (suc r) more) rules-good.0 parts.0 idle
      (λ v cu idle'. rules-done more (suc r) (p + rule_length rule) rules-good.1 parts.1 idle')
