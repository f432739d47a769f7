-- What is read of a book file so far is good, and its bytes are those that were taken from the file: both are kept as it grows by a kind, an atom, a
-- test, a sweep or a rule.
use Rattle.std.specs.Prelude.{ℕ, ◌<◌, ◌≤◌, ◌≡◌, Bool, true, ◌||◌, List, [], ◌∷◌, ◌++◌, length}
use Rattle.std.proofs.Common.{arith, sym, ap, ◌∙◌, append_assoc, append-nil}
use Rattle.meaning.specs.Basics.{All}
use Rattle.meaning.specs.Facts.{Kind, most_kinds, most_rules, most_in_rule, most_sweeps, most_in_sweep}
use Rattle.meaning.specs.Rules.{Atom, Test, Sweep, Rule, occurs_in}
use Rattle.meaning.specs.WellFormed.{GoodKind, any_variable, GoodAtom, GoodTest, GoodGroup, HasCard, GoodSweep, GoodRule}
use Rattle.files.specs.Marks.{RU, BA, HE, SW}
use Rattle.files.specs.Board.{is_empty}
use Rattle.files.specs.Encode.{concat_map, encode_kind, encode_atom, encode_test, encode_groups, encode_rule}
use Rattle.files.specs.Book.{Open, no_rule, in_rule, in_sweep, Reading, groups, with_groups, with_sweep, rules_closed, sweep_opened, sweeps_so_far, is_in_rule, most_in_group, is_bound, empty_sweep, empty_rule}
use Rattle.book_encoding.specs.Lists.{absurd_bool, length_more, all_more, concat_more}
use Rattle.book_encoding.specs.Readings.{more_body, more_tests, more_heads, Bodied}

-- ---- what is good so far

-- the open rule's or sweep's groups are good as far as they are read, and what is before it is good
abbrev pub GoodOpen : List Kind → List Rule → Open → Type 0
GoodOpen kinds rules no_rule = rules ≡ []
GoodOpen kinds rules (in_rule rule) =
    All (GoodRule kinds) rules × (length rules < most_rules) × (rule.sweeps ≡ [])
    × GoodGroup kinds most_in_rule (λ x. occurs_in x rule.body) rule.body rule.tests rule.heads
GoodOpen kinds rules (in_sweep rule sweep) =
    All (GoodRule kinds) rules × (length rules < most_rules) × GoodRule kinds rule × (length rule.sweeps < most_sweeps)
    × GoodGroup kinds most_in_sweep (λ x. occurs_in x rule.body || occurs_in x sweep.body) sweep.body sweep.tests sweep.heads

pub record GoodReading (r : Reading) : Type 0 where
  pub kinds_size : length r.kinds ≤ most_kinds
  pub good_kinds : All GoodKind r.kinds
  pub good_now : GoodOpen r.kinds r.rules r.now

-- the bytes of what is read so far
abbrev pub written : List Kind → List Rule → Open → List ℕ
written kinds rules now = concat_map encode_kind kinds ++ concat_map encode_rule (rules_closed rules now)

abbrev pub written_of : Reading → List ℕ
written_of r = written r.kinds r.rules r.now

-- ---- groups with one member more

body_more : (kinds : List Kind) (most : ℕ) (bound bound' : ℕ → Bool) (body : List Atom) (tests : List Test) (heads : List Atom) (a : Atom)
    → GoodGroup kinds most bound body tests heads → is_empty tests ≡ true → is_empty heads ≡ true → length body < most → GoodAtom kinds any_variable a
    → GoodGroup kinds most bound' (body ++ (a ∷ [])) tests heads
body_more kinds most bound bound' body [] [] a g t h room good = record {
  body_size = omega (arith, length_more body a);
  tests_size = g.tests_size;
  heads_size = g.heads_size;
  body_atoms = all_more (GoodAtom kinds any_variable) body a g.body_atoms good;
  good_tests = tt;
  head_atoms = tt;
}
body_more kinds most bound bound' body [] (x ∷ heads) a g t h room good = absurd_bool h
body_more kinds most bound bound' body (x ∷ tests) heads a g t h room good = absurd_bool t

test_more : (kinds : List Kind) (most : ℕ) (bound : ℕ → Bool) (body : List Atom) (tests : List Test) (heads : List Atom) (t : Test)
    → GoodGroup kinds most bound body tests heads → length tests < most → GoodTest bound t → GoodGroup kinds most bound body (tests ++ (t ∷ [])) heads
test_more kinds most bound body tests heads t g room good = record {
  body_size = g.body_size;
  tests_size = omega (arith, length_more tests t);
  heads_size = g.heads_size;
  body_atoms = g.body_atoms;
  good_tests = all_more (GoodTest bound) tests t g.good_tests good;
  head_atoms = g.head_atoms;
}

head_more : (kinds : List Kind) (most : ℕ) (bound : ℕ → Bool) (body : List Atom) (tests : List Test) (heads : List Atom) (a : Atom)
    → GoodGroup kinds most bound body tests heads → length heads < most → GoodAtom kinds bound a
    → GoodGroup kinds most bound body tests (heads ++ (a ∷ []))
head_more kinds most bound body tests heads a g room good = record {
  body_size = g.body_size;
  tests_size = g.tests_size;
  heads_size = omega (arith, length_more heads a);
  body_atoms = g.body_atoms;
  good_tests = g.good_tests;
  head_atoms = all_more (GoodAtom kinds bound) heads a g.head_atoms good;
}

-- ---- the groups that are open, with one member more

pub open_body : (kinds : List Kind) (rules : List Rule) (now : Open) (a : Atom) → GoodOpen kinds rules now → is_in_rule now ≡ true
    → is_empty (groups now).tests ≡ true → is_empty (groups now).heads ≡ true → length (groups now).body < most_in_group now → GoodAtom kinds any_variable a
    → GoodOpen kinds rules (with_groups now (more_body now a))
open_body kinds rules no_rule a good i t h room g = absurd_bool i
open_body kinds rules (in_rule rule) a good i t h room g =
    (good.0, good.1, good.2, body_more kinds most_in_rule _ _ rule.body rule.tests rule.heads a good.3 t h room g)
open_body kinds rules (in_sweep rule sweep) a good i t h room g =
    (good.0, good.1, good.2, good.3, body_more kinds most_in_sweep _ _ sweep.body sweep.tests sweep.heads a good.4 t h room g)

pub open_test : (kinds : List Kind) (rules : List Rule) (now : Open) (t : Test) → GoodOpen kinds rules now → is_in_rule now ≡ true
    → length (groups now).tests < most_in_group now → GoodTest (is_bound now) t → GoodOpen kinds rules (with_groups now (more_tests now t))
open_test kinds rules no_rule t good i room g = absurd_bool i
open_test kinds rules (in_rule rule) t good i room g =
    (good.0, good.1, good.2, test_more kinds most_in_rule _ rule.body rule.tests rule.heads t good.3 room g)
open_test kinds rules (in_sweep rule sweep) t good i room g =
    (good.0, good.1, good.2, good.3, test_more kinds most_in_sweep _ sweep.body sweep.tests sweep.heads t good.4 room g)

pub open_head : (kinds : List Kind) (rules : List Rule) (now : Open) (a : Atom) → GoodOpen kinds rules now → is_in_rule now ≡ true
    → length (groups now).heads < most_in_group now → GoodAtom kinds (is_bound now) a → GoodOpen kinds rules (with_groups now (more_heads now a))
open_head kinds rules no_rule a good i room g = absurd_bool i
open_head kinds rules (in_rule rule) a good i room g =
    (good.0, good.1, good.2, head_more kinds most_in_rule _ rule.body rule.tests rule.heads a good.3 room g)
open_head kinds rules (in_sweep rule sweep) a good i room g =
    (good.0, good.1, good.2, good.3, head_more kinds most_in_sweep _ sweep.body sweep.tests sweep.heads a good.4 room g)

-- ---- what is closed is good

rule_closed : (kinds : List Kind) (rule : Rule) → rule.sweeps ≡ [] → HasCard kinds rule.body
    → GoodGroup kinds most_in_rule (λ x. occurs_in x rule.body) rule.body rule.tests rule.heads → GoodRule kinds rule
rule_closed kinds rule none card group = record {
  group = group;
  card = card;
  sweeps_size = rw none (omega arith);
  sweeps = rw none tt;
}

sweep_closed : (kinds : List Kind) (rule : Rule) (sweep : Sweep) → GoodRule kinds rule → length rule.sweeps < most_sweeps → 1 ≤ length sweep.body
    → GoodGroup kinds most_in_sweep (λ x. occurs_in x rule.body || occurs_in x sweep.body) sweep.body sweep.tests sweep.heads
    → GoodRule kinds (with_sweep rule sweep)
sweep_closed kinds rule sweep good room some group = record {
  group = good.group;
  card = good.card;
  sweeps_size = omega (arith, length_more rule.sweeps sweep);
  sweeps = all_more (GoodSweep kinds rule.body) rule.sweeps sweep good.sweeps (record { group = group; bodied = some });
}

pub closed : (kinds : List Kind) (rules : List Rule) (now : Open) → GoodOpen kinds rules now → Bodied kinds now
    → All (GoodRule kinds) (rules_closed rules now) × (length (rules_closed rules now) ≤ most_rules)
closed kinds rules no_rule good b = (rw good tt, rw good (omega arith))
closed kinds rules (in_rule rule) good b = (
  all_more (GoodRule kinds) rules rule good.0 (rule_closed kinds rule good.2 b good.3),
  omega (arith, length_more rules rule, good.1),
)
closed kinds rules (in_sweep rule sweep) good b = (
  all_more (GoodRule kinds) rules (with_sweep rule sweep) good.0 (sweep_closed kinds rule sweep good.2 good.3 b good.4),
  omega (arith, length_more rules (with_sweep rule sweep), good.1),
)

-- ---- what is opened is good

pub none_yet : (kinds : List Kind) (most : ℕ) (bound : ℕ → Bool) → GoodGroup kinds most bound [] [] []
none_yet kinds most bound = record { body_size = omega arith; tests_size = omega arith; heads_size = omega arith; body_atoms = tt; good_tests = tt; head_atoms = tt }

pub opened : (kinds : List Kind) (rules : List Rule) (now : Open) → GoodOpen kinds rules now → Bodied kinds now → is_in_rule now ≡ true
    → sweeps_so_far now < most_sweeps → GoodOpen kinds rules (sweep_opened now)
opened kinds rules no_rule good b i room = absurd_bool i
opened kinds rules (in_rule rule) good b i room = (good.0, good.1, rule_closed kinds rule good.2 b good.3, room, none_yet kinds most_in_sweep _)
opened kinds rules (in_sweep rule sweep) good b i room = (
  good.0,
  good.1,
  sweep_closed kinds rule sweep good.2 good.3 b good.4,
  omega (arith, length_more rule.sweeps sweep),
  none_yet kinds most_in_sweep _,
)

-- ---- bytes with one member more

last_more : {A : Type 0} (f : A → List ℕ) (l : List A) (a a' : A) (bytes : List ℕ) → f a' ≡ f a ++ bytes
    → concat_map f (l ++ (a' ∷ [])) ≡ concat_map f (l ++ (a ∷ [])) ++ bytes
last_more f l a a' bytes e = simp (concat_more, e, append_assoc)

pub groups-body : (body : List Atom) (tests : List Test) (heads : List Atom) (a : Atom) → is_empty tests ≡ true → is_empty heads ≡ true
    → encode_groups (body ++ (a ∷ [])) tests heads ≡ encode_groups body tests heads ++ encode_atom BA a
unfolding encode_groups concat_map
groups-body body [] [] a t h = simp (append-nil, concat_more)
groups-body body [] (x ∷ heads) a t h = absurd_bool h
groups-body body (x ∷ tests) heads a t h = absurd_bool t

pub groups-test : (body : List Atom) (tests : List Test) (heads : List Atom) (t : Test) → is_empty heads ≡ true
    → encode_groups body (tests ++ (t ∷ [])) heads ≡ encode_groups body tests heads ++ encode_test t
unfolding encode_groups concat_map
groups-test body tests [] t h = simp (append-nil, concat_more, append_assoc)
groups-test body tests (x ∷ heads) t h = absurd_bool h

pub groups_head : (body : List Atom) (tests : List Test) (heads : List Atom) (a : Atom)
    → encode_groups body tests (heads ++ (a ∷ [])) ≡ encode_groups body tests heads ++ encode_atom HE a
unfolding encode_groups
groups_head body tests heads a = simp (concat_more, append_assoc)

-- more in the groups of a rule that has no sweep yet
rule_more : (rule : Rule) (g : Sweep) (bytes : List ℕ) → rule.sweeps ≡ []
    → encode_groups g.body g.tests g.heads ≡ encode_groups rule.body rule.tests rule.heads ++ bytes
    → encode_rule (record { body = g.body; tests = g.tests; heads = g.heads; sweeps = rule.sweeps }) ≡ encode_rule rule ++ bytes
unfolding concat_map
rule_more rule g bytes none e = simp (none, append-nil, e)

-- more in the groups of a rule's last sweep
in_sweep_more : (rule : Rule) (sweep g : Sweep) (bytes : List ℕ)
    → encode_groups g.body g.tests g.heads ≡ encode_groups sweep.body sweep.tests sweep.heads ++ bytes
    → encode_rule (with_sweep rule g) ≡ encode_rule (with_sweep rule sweep) ++ bytes
in_sweep_more rule sweep g bytes e = simp (concat_more, e, append_assoc)

pub groups_more : (kinds : List Kind) (rules : List Rule) (now : Open) (g : Sweep) (bytes : List ℕ) → is_in_rule now ≡ true → GoodOpen kinds rules now
    → encode_groups g.body g.tests g.heads ≡ encode_groups (groups now).body (groups now).tests (groups now).heads ++ bytes
    → written kinds rules (with_groups now g) ≡ written kinds rules now ++ bytes
groups_more kinds rules no_rule g bytes i good e = absurd_bool i
groups_more kinds rules (in_rule rule) g bytes i good e =
    ap (λ (q : List ℕ). concat_map encode_kind kinds ++ q) (last_more encode_rule rules rule _ bytes (rule_more rule g bytes good.2 e))
    ∙ sym (append_assoc (concat_map encode_kind kinds) (concat_map encode_rule (rules ++ (rule ∷ []))) bytes)
groups_more kinds rules (in_sweep rule sweep) g bytes i good e =
    ap (λ (q : List ℕ). concat_map encode_kind kinds ++ q)
    (last_more encode_rule rules (with_sweep rule sweep) (with_sweep rule g) bytes (in_sweep_more rule sweep g bytes e))
    ∙ sym (append_assoc (concat_map encode_kind kinds) (concat_map encode_rule (rules ++ (with_sweep rule sweep ∷ []))) bytes)

pub kinds_more : (kinds : List Kind) (kind : Kind) (rules : List Rule) → rules ≡ []
    → written (kinds ++ (kind ∷ [])) rules no_rule ≡ written kinds rules no_rule ++ encode_kind kind
unfolding concat_map
kinds_more kinds kind rules none = rw none (simp (append-nil, concat_more))

pub rule-opened : (kinds : List Kind) (rules : List Rule) → written kinds rules (in_rule empty_rule) ≡ written kinds rules no_rule ++ RU
unfolding concat_map encode_groups
rule-opened kinds rules = simp (concat_more, append_assoc)

pub sweep-opened : (kinds : List Kind) (rules : List Rule) (rule : Rule) → written kinds rules (in_sweep rule empty_sweep) ≡ written kinds rules (in_rule rule) ++ SW
unfolding concat_map encode_groups
sweep-opened kinds rules rule = simp (concat_more, append_assoc)
