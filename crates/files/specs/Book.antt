-- A book file (document 01, 'The files'): "`kd` class, arity; `ru` opens a rule; `ba` kind, one term for each argument; `te` test number, two
-- terms; `he` kind, terms; `sw` opens a sweep; `en` ends."
use Rattle.std.specs.Prelude.{ℕ, zero, suc, ◌-◌, Bool, true, false, ◌&&◌, ◌||◌, List, [], ◌∷◌, ◌++◌, length, eqb, leb, ltb, if◌then◌else◌}
use Rattle.meaning.specs.Facts.{Kind, most_kinds, most_rules, most_in_rule, most_sweeps, most_in_sweep, variables, most_numbers, is_card, arity_of}
use Rattle.meaning.specs.Rules.{Term, constant, variable, Atom, Sweep, Rule, Book, occurs_in}
use Rattle.meaning.specs.WellFormed.{any_variable}
use Rattle.files.specs.Numbers.{MARK, PLACE, NOCARD, BARE, MANY, FIELD, LOOSE}
use Rattle.files.specs.Marks.{KD, RU, BA, TE, HE, SW, EN, is_mark}
use Rattle.files.specs.Judge.{Verdict, accepted, refused, Judged, go, ended, stop, demand, byte, two, judge}
use Rattle.files.specs.Board.{is_empty}
use Rattle.files.specs.InPlace.{comparison_of}

-- the marks that a book has
pub data Mark : Type 0 where
  kd ru ba te he sw en other : Mark

abbrev pub mark_of : ℕ → ℕ → Mark
mark_of a b =
    if is_mark KD a b then kd
    else if is_mark RU a b then ru
    else if is_mark BA a b then ba
    else if is_mark TE a b then te
    else if is_mark HE a b then he
    else if is_mark SW a b then sw
    else if is_mark EN a b then en
    else other

-- ---- what is read so far

-- what is being read: no rule yet; a rule's own groups; or a sweep's, in a rule that has its earlier sweeps
pub data Open : Type 0 where
  no_rule : Open
  in_rule : Rule → Open
  in_sweep : Rule → Sweep → Open

-- the kinds, the rules before the one that is open, and what is open
pub record Reading : Type 0 where
  pub kinds : List Kind
  pub rules : List Rule
  pub now : Open

abbrev pub empty_sweep : Sweep
empty_sweep = record { body = []; tests = []; heads = [] }

abbrev pub empty_rule : Rule
empty_rule = record { body = []; tests = []; heads = []; sweeps = [] }

-- the groups that are being read, as a sweep's
abbrev pub groups : Open → Sweep
groups no_rule = empty_sweep
groups (in_rule rule) = record { body = rule.body; tests = rule.tests; heads = rule.heads }
groups (in_sweep rule sweep) = sweep

abbrev pub with_groups : Open → Sweep → Open
with_groups no_rule g = no_rule
with_groups (in_rule rule) g = in_rule (record { body = g.body; tests = g.tests; heads = g.heads; sweeps = rule.sweeps })
with_groups (in_sweep rule sweep) g = in_sweep rule g

-- the rule with the open sweep put to the others
abbrev pub with_sweep : Rule → Sweep → Rule
with_sweep rule sweep = record { body = rule.body; tests = rule.tests; heads = rule.heads; sweeps = rule.sweeps ++ (sweep ∷ []) }

-- `ru` and `en` close what is open
abbrev pub rules_closed : List Rule → Open → List Rule
rules_closed rules no_rule = rules
rules_closed rules (in_rule rule) = rules ++ (rule ∷ [])
rules_closed rules (in_sweep rule sweep) = rules ++ (with_sweep rule sweep ∷ [])

-- `sw` closes an open sweep and opens another
abbrev pub sweep_opened : Open → Open
sweep_opened no_rule = no_rule
sweep_opened (in_rule rule) = in_sweep rule empty_sweep
sweep_opened (in_sweep rule sweep) = in_sweep (with_sweep rule sweep) empty_sweep

-- how many sweeps the open rule has, the open one among them
abbrev pub sweeps_so_far : Open → ℕ
sweeps_so_far no_rule = 0
sweeps_so_far (in_rule rule) = length rule.sweeps
sweeps_so_far (in_sweep rule sweep) = suc (length rule.sweeps)

-- ---- PLACE: "All `kd` come before the first `ru`. After `ru` come `ba`, then `te`, then `he`, then sweeps; after `sw` come `ba`, `te`, `he`."

abbrev pub is_in_rule : Open → Bool
is_in_rule no_rule = false
is_in_rule (in_rule rule) = true
is_in_rule (in_sweep rule sweep) = true

abbrev pub may_stand_here : Mark → Open → Bool
may_stand_here kd no_rule = true
may_stand_here kd (in_rule rule) = false
may_stand_here kd (in_sweep rule sweep) = false
may_stand_here ru now = true
may_stand_here ba now = is_in_rule now && is_empty (groups now).tests && is_empty (groups now).heads
may_stand_here te now = is_in_rule now && is_empty (groups now).heads
may_stand_here he now = is_in_rule now
may_stand_here sw now = is_in_rule now
may_stand_here en now = true
may_stand_here other now = true

-- ---- NOCARD and BARE: judged at the first record after the body; where they pass once they pass at every later record of the rule or sweep

abbrev pub has_card : List Kind → List Atom → Bool
has_card kinds [] = false
has_card kinds (a ∷ more) = is_card kinds a.kind || has_card kinds more

abbrev pub bodied : {S : Type 0} → List Kind → Open → ℕ → Judged S → Judged S
bodied kinds no_rule at next = next
bodied kinds (in_rule rule) at next = demand (has_card kinds rule.body) NOCARD at next
bodied kinds (in_sweep rule sweep) at next = if is_empty sweep.body then stop BARE at else next

-- ---- MANY: "one over a size"

abbrev pub most_in_group : Open → ℕ
most_in_group no_rule = 0
most_in_group (in_rule rule) = most_in_rule
most_in_group (in_sweep rule sweep) = most_in_sweep

-- ---- LOOSE: "A variable in a rule's test or head must occur in that rule's body; in a sweep's test or head, in the rule's body or that sweep's."

abbrev pub is_bound : Open → ℕ → Bool
is_bound no_rule x = false
is_bound (in_rule rule) x = occurs_in x rule.body
is_bound (in_sweep rule sweep) x = occurs_in x rule.body || occurs_in x sweep.body

-- ---- one record

module _ (n : ℕ) where
  -- "a term's tag and value being two" fields; `bound` says which variables may stand here
  abbrev pub term : {S : Type 0} → (ℕ → Bool) → ℕ → List ℕ → (Term → List ℕ → Judged S) → Judged S
  term bound at rest next =
      byte n rest λ tag rest₁.
      demand (leb tag 1) FIELD at
      (two n rest₁ λ v rest₂.
      if eqb tag 0 then next (constant v) rest₂
      else demand (ltb v variables) FIELD at (demand (bound v) LOOSE at (next (variable v) rest₂)))

  abbrev pub terms : {S : Type 0} → (ℕ → Bool) → ℕ → ℕ → List ℕ → (List Term → List ℕ → Judged S) → Judged S
  terms bound at zero rest next = next [] rest
  terms bound at (suc left) rest next = term bound at rest λ t rest₁. terms bound at left rest₁ λ ts rest₂. next (t ∷ ts) rest₂

  abbrev pub atom : {S : Type 0} → List Kind → (ℕ → Bool) → ℕ → List ℕ → (Atom → List ℕ → Judged S) → Judged S
  atom kinds bound at rest next =
      byte n rest λ kind rest₁.
      demand (ltb kind (length kinds)) FIELD at
      (terms bound at (arity_of kinds kind) rest₁ λ ts rest₂. next (record { kind = kind; terms = ts }) rest₂)

  -- MANY, then the fields left to right
  abbrev pub fields : Mark → ℕ → Reading → List ℕ → Judged Reading
  fields kd at r rest =
      demand (ltb (length r.kinds) most_kinds) MANY at
      (byte n rest λ class rest₁. demand (leb class 1) FIELD at
      (byte n rest₁ λ arity rest₂. demand (leb arity most_numbers) FIELD at
      (go (record { kinds = r.kinds ++ (record { card = eqb class 0; arity = arity } ∷ []); rules = r.rules; now = r.now }) rest₂)))
  fields ru at r rest =
      let closed = rules_closed r.rules r.now in
      demand (ltb (length closed) most_rules) MANY at (go (record { kinds = r.kinds; rules = closed; now = in_rule empty_rule }) rest)
  fields ba at r rest =
      let g = groups r.now in
      demand (ltb (length g.body) (most_in_group r.now)) MANY at
      (atom r.kinds any_variable at rest λ a rest₁.
      go (record { kinds = r.kinds; rules = r.rules; now = with_groups r.now (record { body = g.body ++ (a ∷ []); tests = g.tests; heads = g.heads }) }) rest₁)
  fields te at r rest =
      let g = groups r.now in
      demand (ltb (length g.tests) (most_in_group r.now)) MANY at
      (byte n rest λ number rest₁. demand (leb number 3) FIELD at
      (term (is_bound r.now) at rest₁ λ left rest₂. term (is_bound r.now) at rest₂ λ right rest₃.
      go (record { kinds = r.kinds; rules = r.rules; now = with_groups r.now (record { body = g.body; tests = g.tests ++ (record { comparison = comparison_of number; left = left; right = right } ∷ []); heads = g.heads }) }) rest₃))
  fields he at r rest =
      let g = groups r.now in
      demand (ltb (length g.heads) (most_in_group r.now)) MANY at
      (atom r.kinds (is_bound r.now) at rest λ a rest₁.
      go (record { kinds = r.kinds; rules = r.rules; now = with_groups r.now (record { body = g.body; tests = g.tests; heads = g.heads ++ (a ∷ []) }) }) rest₁)
  fields sw at r rest =
      demand (ltb (sweeps_so_far r.now) most_sweeps) MANY at
      (go (record { kinds = r.kinds; rules = r.rules; now = sweep_opened r.now }) rest)
  fields en at r rest = ended r rest
  fields other at r rest = stop MARK at

  -- NOCARD or BARE come before MANY, and not at a record that goes on with the body
  abbrev pub after_place : Mark → ℕ → Reading → List ℕ → Judged Reading
  after_place kd at r rest = fields kd at r rest
  after_place ba at r rest = fields ba at r rest
  after_place ru at r rest = bodied r.kinds r.now at (fields ru at r rest)
  after_place te at r rest = bodied r.kinds r.now at (fields te at r rest)
  after_place he at r rest = bodied r.kinds r.now at (fields he at r rest)
  after_place sw at r rest = bodied r.kinds r.now at (fields sw at r rest)
  after_place en at r rest = bodied r.kinds r.now at (fields en at r rest)
  after_place other at r rest = stop MARK at

  -- "in one: mark cut, MARK, PLACE, NOCARD or BARE, MANY, then fields left to right"
  unfoldable pub book_record : Reading → List ℕ → Judged Reading
  book_record r rest =
      byte n rest λ a rest₁. byte n rest₁ λ b rest₂.
      let mark = mark_of a b in let at = n - length rest in
      demand (may_stand_here mark r.now) PLACE at (after_place mark at r rest₂)

abbrev pub empty_reading : Reading
empty_reading = record { kinds = []; rules = []; now = no_rule }

abbrev pub book_of : Verdict Reading → Verdict Book
book_of (accepted r) = accepted (record { kinds = r.kinds; rules = rules_closed r.rules r.now })
book_of (refused why place) = refused why place

unfoldable pub judge_book : List ℕ → Verdict Book
judge_book file = book_of (judge (length file) (book_record (length file)) (suc (length file)) empty_reading file)
