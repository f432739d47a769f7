-- An accepted book file is the encoding of a good book. The invariant of the judgement: what is read so far is good, and its bytes and those that
-- are left make up the file. Each record keeps it, and `en` closes the book.
use Rattle.std.specs.Prelude.{ℕ, zero, suc, ◌≤◌, ◌≡◌, refl, Bool, true, false, ◌&&◌, List, [], ◌∷◌, ◌++◌, length, eqb, leb, ltb, if◌then◌else◌}
use Rattle.std.proofs.Common.{arith, sym, ap, ap₂, ◌∙◌, subst, append_assoc, eqb-true, leb-true, ltb-true}
use Rattle.std.proofs.lemmas.Bool.{eqb-false}
use Rattle.meaning.specs.Basics.{All}
use Rattle.meaning.specs.Facts.{Kind, most_kinds, most_rules, most_in_rule, most_sweeps, most_numbers}
use Rattle.meaning.specs.Rules.{Term, equal, unequal, less, less_or_equal, Test, Rule, Book}
use Rattle.meaning.specs.WellFormed.{GoodKind, any_variable, GoodBook}
use Rattle.files.specs.Numbers.{Refusal, PLACE, MANY, FIELD}
use Rattle.files.specs.Marks.{KD, RU, BA, TE, HE, SW, EN, is_mark}
use Rattle.files.specs.Judge.{Verdict, accepted, refused, Judged, go, ended, stop, at_end, after_record, judge}
use Rattle.files.specs.Board.{is_empty}
use Rattle.files.specs.InPlace.{comparison_of}
use Rattle.files.specs.Encode.{concat_map, class_byte, encode_kind, encode_term, encode_atom, comparison_number, encode_test, encode_rule, encode_book}
use Rattle.files.specs.Book.{Mark, kd, ru, ba, te, he, sw, en, other, mark_of, Open, no_rule, in_rule, in_sweep, Reading, groups, with_groups, with_sweep, rules_closed, sweep_opened, sweeps_so_far, is_in_rule, may_stand_here, bodied, most_in_group, is_bound, term, fields, after_place, book_record, empty_rule, empty_reading, book_of, judge_book}
use Rattle.book_encoding.specs.Readings.{reading, closed_book, more_body, more_tests, more_heads, Bodied}
use Rattle.book_encoding.specs.Fields.{demand_law, bodied_law, byte_law, term_law, atom_law}
use Rattle.book_encoding.specs.Growing.{GoodOpen, GoodReading, written, written_of, open_body, open_test, open_head, closed, none_yet, opened, groups-body, groups-test, groups_head, groups_more, kinds_more, rule-opened, sweep-opened}
use Rattle.book_encoding.specs.Lists.{Bytes, length_more, all_more, absurd_bool, both, bytes_are}

-- where a record leads: what is read is good, and its bytes are what it took from the file
abbrev Leads : Reading → List ℕ → Judged Reading → Type 0
Leads r rest (go s tail) = (written_of r ++ rest ≡ written_of s ++ tail) × GoodReading s × Bytes tail
Leads r rest (ended s tail) = (written_of r ++ rest ≡ written_of s ++ (EN ++ tail)) × GoodBook (closed_book s)
Leads r rest (stop why place) = Unit {0}

-- ---- one record

class-byte : (class : ℕ) → class ≤ 1 → class ≡ class_byte (eqb class 0)
class-byte class h = cases (eqb class 0) refl
  where
    cases : (zero? : Bool) → eqb class 0 ≡ zero? → class ≡ class_byte zero?
    cases true e = eqb-true class 0 e
    cases false e = omega (arith, eqb-false class 0 e)

test_number : (number : ℕ) → number ≤ 3 → number ≡ comparison_number (comparison_of number)
test_number number h = cases (eqb number 0) (eqb number 1) (eqb number 2) refl refl refl
  where
    cases : (a b c : Bool) → eqb number 0 ≡ a → eqb number 1 ≡ b → eqb number 2 ≡ c
        → number ≡ comparison_number (if a then equal else if b then unequal else if c then less else less_or_equal)
    cases true b c p q r = eqb-true number 0 p
    cases false true c p q r = eqb-true number 1 q
    cases false false true p q r = eqb-true number 2 r
    cases false false false p q r = omega (arith, eqb-false number 0 p, eqb-false number 1 q, eqb-false number 2 r)

-- the bytes from a mark on
abbrev Letters : Mark → List ℕ → List ℕ → Type 0
Letters kd whole rest = whole ≡ KD ++ rest
Letters ru whole rest = whole ≡ RU ++ rest
Letters ba whole rest = whole ≡ BA ++ rest
Letters te whole rest = whole ≡ TE ++ rest
Letters he whole rest = whole ≡ HE ++ rest
Letters sw whole rest = whole ≡ SW ++ rest
Letters en whole rest = whole ≡ EN ++ rest
Letters other whole rest = Unit {0}

two-letters : (x y a b : ℕ) (rest : List ℕ) → is_mark (a ∷ b ∷ []) x y ≡ true → x ∷ y ∷ rest ≡ a ∷ b ∷ rest
two-letters x y a b rest e = let t = bytes_are x y a b e in ap₂ (λ (p q : ℕ). p ∷ q ∷ rest) t.0 t.1

letters : (x y : ℕ) (rest : List ℕ) → Letters (mark_of x y) (x ∷ y ∷ rest) rest
letters x y rest =
    cases (is_mark KD x y) (is_mark RU x y) (is_mark BA x y) (is_mark TE x y) (is_mark HE x y) (is_mark SW x y) (is_mark EN x y) refl refl refl refl refl refl refl
  where
    cases : (a b c d e f g : Bool) → is_mark KD x y ≡ a → is_mark RU x y ≡ b → is_mark BA x y ≡ c → is_mark TE x y ≡ d → is_mark HE x y ≡ e → is_mark SW x y ≡ f
        → is_mark EN x y ≡ g
        → Letters (if a then kd else if b then ru else if c then ba else if d then te else if e then he else if f then sw else if g then en else other) (x ∷ y ∷ rest) rest
    cases true b c d e f g p q r s t u v = two-letters x y 0x6b 0x64 rest p
    cases false true c d e f g p q r s t u v = two-letters x y 0x72 0x75 rest q
    cases false false true d e f g p q r s t u v = two-letters x y 0x62 0x61 rest r
    cases false false false true e f g p q r s t u v = two-letters x y 0x74 0x65 rest s
    cases false false false false true f g p q r s t u v = two-letters x y 0x68 0x65 rest t
    cases false false false false false true g p q r s t u v = two-letters x y 0x73 0x77 rest u
    cases false false false false false false true p q r s t u v = two-letters x y 0x65 0x6e rest v
    cases false false false false false false false p q r s t u v = tt

no_stop : (r : Reading) (whole : List ℕ) (why : Refusal) (place : ℕ) → Leads r whole (stop why place)
no_stop r whole why place = tt

-- the bytes that a record takes are those that it adds
took : (r s : Reading) (whole bytes tail : List ℕ) → GoodReading s → Bytes tail → whole ≡ bytes ++ tail → written_of s ≡ written_of r ++ bytes
    → Leads r whole (go s tail)
took r s whole bytes tail good bs e p = (rw (e, p) (sym (append_assoc (written_of r) bytes tail)), good, bs)

module _ (n : ℕ) (kinds : List Kind) (rules : List Rule) (size : length kinds ≤ most_kinds) (goods : All GoodKind kinds) (whole : List ℕ) (at : ℕ) (rest : List ℕ)
    (bs : Bytes rest) where
  grows : (now now' : Open) (rules' : List Rule) (bytes tail : List ℕ) → GoodOpen kinds rules' now' → Bytes tail
      → whole ≡ bytes ++ tail → written kinds rules' now' ≡ written kinds rules now ++ bytes
      → Leads (reading kinds rules now) whole (go (reading kinds rules' now') tail)
  grows now now' rules' bytes tail good bs e p =
      took (reading kinds rules now) (reading kinds rules' now') whole bytes tail (record { kinds_size = size; good_kinds = goods; good_now = good }) bs e p

  kd_law : (now : Open) → GoodOpen kinds rules now → may_stand_here kd now ≡ true → whole ≡ KD ++ rest
      → Leads (reading kinds rules now) whole (fields n kd at (reading kinds rules now) rest)
  kd_law (in_rule rule) good here e = absurd_bool here
  kd_law (in_sweep rule sweep) good here e = absurd_bool here
  kd_law no_rule good here e =
      let P = Leads (reading kinds rules no_rule) whole in
      let stops = no_stop (reading kinds rules no_rule) whole in
      demand_law P stops (ltb (length kinds) most_kinds) MANY at _ λ room.
      byte_law P stops n rest _ bs λ class rest₁ bs₁ e₁.
      demand_law P stops (leb class 1) FIELD at _ λ c.
      byte_law P stops n rest₁ _ bs₁ λ arity rest₂ bs₂ e₂.
      demand_law P stops (leb arity most_numbers) FIELD at _ λ a.
      let kind : Kind = record { card = eqb class 0; arity = arity } in
      took (reading kinds rules no_rule) (reading (kinds ++ (kind ∷ [])) rules no_rule) whole (encode_kind kind) rest₂ (record {
        kinds_size = omega (arith, length_more kinds kind, ltb-true (length kinds) most_kinds room);
        good_kinds = all_more GoodKind kinds kind goods (leb-true arity most_numbers a);
        good_now = good;
      }) bs₂
      (e ∙ ap (λ (q : List ℕ). KD ++ q) (e₁ ∙ ap₂ (λ (x : ℕ) (q : List ℕ). x ∷ q) (class-byte class (leb-true class 1 c)) e₂))
      (kinds_more kinds kind rules good)

  ru_law : (now : Open) → GoodOpen kinds rules now → Bodied kinds now → whole ≡ RU ++ rest
      → Leads (reading kinds rules now) whole (fields n ru at (reading kinds rules now) rest)
  ru_law now good b e =
      let before = rules_closed rules now in
      demand_law (Leads (reading kinds rules now) whole) (no_stop (reading kinds rules now) whole) (ltb (length before) most_rules) MANY at _ λ room.
      grows now (in_rule empty_rule) before RU rest
      ((closed kinds rules now good b).0, ltb-true (length before) most_rules room, refl, none_yet kinds most_in_rule _) bs e (rule-opened kinds before)

  ba_law : (now : Open) → GoodOpen kinds rules now → may_stand_here ba now ≡ true → whole ≡ BA ++ rest
      → Leads (reading kinds rules now) whole (fields n ba at (reading kinds rules now) rest)
  ba_law now good here e =
      let P = Leads (reading kinds rules now) whole in
      let stops = no_stop (reading kinds rules now) whole in
      let g = groups now in
      let heads-none = both (is_in_rule now && is_empty g.tests) (is_empty g.heads) here in
      let tests-none = both (is_in_rule now) (is_empty g.tests) heads-none.0 in
      demand_law P stops (ltb (length g.body) (most_in_group now)) MANY at _ λ room.
      atom_law P stops n kinds any_variable at rest (λ a rest₁. go (reading kinds rules (with_groups now (more_body now a))) rest₁) bs λ a tail good_atom bs₁ e₁.
      grows now (with_groups now (more_body now a)) rules (encode_atom BA a) tail
      (open_body kinds rules now a good tests-none.0 tests-none.1 heads-none.1 (ltb-true (length g.body) (most_in_group now) room) good_atom) bs₁
      (e ∙ ap (λ (q : List ℕ). BA ++ q) e₁)
      (groups_more kinds rules now (more_body now a) (encode_atom BA a) tests-none.0 good (groups-body g.body g.tests g.heads a tests-none.1 heads-none.1))

  te_law : (now : Open) → GoodOpen kinds rules now → may_stand_here te now ≡ true → whole ≡ TE ++ rest
      → Leads (reading kinds rules now) whole (fields n te at (reading kinds rules now) rest)
  te_law now good here e =
      let P = Leads (reading kinds rules now) whole in
      let stops = no_stop (reading kinds rules now) whole in
      let g = groups now in
      let test : ℕ → Term → Term → Test = λ number left right. record { comparison = comparison_of number; left = left; right = right } in
      let heads-none = both (is_in_rule now) (is_empty g.heads) here in
      demand_law P stops (ltb (length g.tests) (most_in_group now)) MANY at _ λ room.
      byte_law P stops n rest _ bs λ number rest₁ bs₁ e₁.
      demand_law P stops (leb number 3) FIELD at _ λ c.
      term_law P stops n (is_bound now) at rest₁
      (λ left rest₂. term n (is_bound now) at rest₂ λ right rest₃. go (reading kinds rules (with_groups now (more_tests now (test number left right)))) rest₃) bs₁ λ left rest₂ good_left bs₂ e₂.
      term_law P stops n (is_bound now) at rest₂
      (λ right rest₃. go (reading kinds rules (with_groups now (more_tests now (test number left right)))) rest₃) bs₂ λ right rest₃ good_right bs₃ e₃.
      let t = test number left right in
      grows now (with_groups now (more_tests now t)) rules (encode_test t) rest₃
      (open_test kinds rules now t good heads-none.0 (ltb-true (length g.tests) (most_in_group now) room) (good_left, good_right)) bs₃
      (e ∙ ap (λ (q : List ℕ). TE ++ q)
      (e₁ ∙ ap₂ (λ (x : ℕ) (q : List ℕ). x ∷ q) (test_number number (leb-true number 3 c)) (e₂ ∙ ap (λ (q : List ℕ). encode_term left ++ q) e₃)))
      (groups_more kinds rules now (more_tests now t) (encode_test t) heads-none.0 good (groups-test g.body g.tests g.heads t heads-none.1))

  he_law : (now : Open) → GoodOpen kinds rules now → may_stand_here he now ≡ true → whole ≡ HE ++ rest
      → Leads (reading kinds rules now) whole (fields n he at (reading kinds rules now) rest)
  he_law now good here e =
      let P = Leads (reading kinds rules now) whole in
      let stops = no_stop (reading kinds rules now) whole in
      let g = groups now in
      demand_law P stops (ltb (length g.heads) (most_in_group now)) MANY at _ λ room.
      atom_law P stops n kinds (is_bound now) at rest (λ a rest₁. go (reading kinds rules (with_groups now (more_heads now a))) rest₁) bs λ a tail good_atom bs₁ e₁.
      grows now (with_groups now (more_heads now a)) rules (encode_atom HE a) tail
      (open_head kinds rules now a good here (ltb-true (length g.heads) (most_in_group now) room) good_atom) bs₁
      (e ∙ ap (λ (q : List ℕ). HE ++ q) e₁)
      (groups_more kinds rules now (more_heads now a) (encode_atom HE a) here good (groups_head g.body g.tests g.heads a))

  sw_law : (now : Open) → GoodOpen kinds rules now → is_in_rule now ≡ true → Bodied kinds now → whole ≡ SW ++ rest
      → Leads (reading kinds rules now) whole (fields n sw at (reading kinds rules now) rest)
  sw_law now good i b e =
      demand_law (Leads (reading kinds rules now) whole) (no_stop (reading kinds rules now) whole) (ltb (sweeps_so_far now) most_sweeps) MANY at _ λ room.
      grows now (sweep_opened now) rules SW rest (opened kinds rules now good b i (ltb-true (sweeps_so_far now) most_sweeps room)) bs e (bytes now i)
    where
      bytes : (now : Open) → is_in_rule now ≡ true → written kinds rules (sweep_opened now) ≡ written kinds rules now ++ SW
      bytes no_rule i = absurd_bool i
      bytes (in_rule rule) i = sweep-opened kinds rules rule
      bytes (in_sweep rule sweep) i = sweep-opened kinds rules (with_sweep rule sweep)

  en_law : (now : Open) → GoodOpen kinds rules now → Bodied kinds now → whole ≡ EN ++ rest
      → Leads (reading kinds rules now) whole (fields n en at (reading kinds rules now) rest)
  en_law now good b e =
      let before = closed kinds rules now good b in
      (ap (λ (q : List ℕ). written kinds rules now ++ q) e, record { kinds_size = size; kinds = goods; rules_size = before.1; rules = before.0 })

  marked : (now : Open) (mark : Mark) → GoodOpen kinds rules now → may_stand_here mark now ≡ true → Letters mark whole rest
      → Leads (reading kinds rules now) whole (after_place n mark at (reading kinds rules now) rest)
  marked now mark good here e = cases mark here e
    where
      after-body : (next : Judged Reading) → (Bodied kinds now → Leads (reading kinds rules now) whole next) → Leads (reading kinds rules now) whole (bodied kinds now at next)
      after-body next h = bodied_law (Leads (reading kinds rules now) whole) (no_stop (reading kinds rules now) whole) kinds now at next h

      cases : (mark : Mark) → may_stand_here mark now ≡ true → Letters mark whole rest → Leads (reading kinds rules now) whole (after_place n mark at (reading kinds rules now) rest)
      cases kd here e = kd_law now good here e
      cases ba here e = ba_law now good here e
      cases ru here e = after-body _ (λ b. ru_law now good b e)
      cases te here e = after-body _ (λ b. te_law now good here e)
      cases he here e = after-body _ (λ b. he_law now good here e)
      cases sw here e = after-body _ (λ b. sw_law now good here b e)
      cases en here e = after-body _ (λ b. en_law now good b e)
      cases other here e = tt

record_leads : (n : ℕ) (r : Reading) (rest : List ℕ) → GoodReading r → Bytes rest → Leads r rest (book_record n r rest)
unfolding book_record
record_leads n r [] good bs = tt
record_leads n r (x ∷ []) good bs = tt
record_leads n r (x ∷ y ∷ rest) good bs =
    demand_law (Leads r (x ∷ y ∷ rest)) (no_stop r (x ∷ y ∷ rest)) (may_stand_here (mark_of x y) r.now) PLACE _ _ λ here.
    marked n r.kinds r.rules good.kinds_size good.good_kinds (x ∷ y ∷ rest) _ rest bs.1.1 r.now (mark_of x y) good.good_now here (letters x y rest)

-- ---- record after record

never : {S X : Type 0} {why : Refusal} {place : ℕ} {s : S} → refused why place ≡ accepted s → X
never e = let z : ◌≡◌ {A = ℕ} 0 1 = cc in let bad : ⊥ = omega arith in absurd bad

at-end : (n : ℕ) (r s : Reading) (rest : List ℕ) → at_end n r rest ≡ accepted s → (r ≡ s) × (rest ≡ [])
at-end n r s [] e = ((cc), refl)
at-end n r s (b ∷ rest) e = never e

encoded : (book : Book) → (concat_map encode_kind book.kinds ++ concat_map encode_rule book.rules) ++ EN ≡ encode_book book
unfolding encode_book
encoded book = append_assoc (concat_map encode_kind book.kinds) (concat_map encode_rule book.rules) EN

judged : (n turns : ℕ) (r : Reading) (rest : List ℕ) (s : Reading) → GoodReading r → Bytes rest → judge n (book_record n) turns r rest ≡ accepted s
    → GoodBook (closed_book s) × (written_of r ++ rest ≡ encode_book (closed_book s))
unfolding judge
judged n zero r rest s good bs e = never e
judged n (suc turns) r rest s good bs e = cases (judged n turns) (book_record n r rest) (record_leads n r rest good bs) e
  where
    cases : ((r : Reading) (rest : List ℕ) (s : Reading) → GoodReading r → Bytes rest → judge n (book_record n) turns r rest ≡ accepted s
        → GoodBook (closed_book s) × (written_of r ++ rest ≡ encode_book (closed_book s)))
        → (next : Judged Reading) → Leads r rest next → after_record n next (λ r' rest'. judge n (book_record n) turns r' rest') ≡ accepted s
        → GoodBook (closed_book s) × (written_of r ++ rest ≡ encode_book (closed_book s))
    cases more (go r' rest') leads e = let found = more r' rest' s leads.1 leads.2 e in (found.0, leads.0 ∙ found.1)
    cases more (ended r' rest') leads e =
        let end = at-end n r' s rest' e in (
          subst (λ (x : Reading). GoodBook (closed_book x)) end.0 leads.1,
          leads.0
              ∙ ap (λ (l : List ℕ). written_of r' ++ (EN ++ l)) end.1
              ∙ encoded (closed_book r')
              ∙ ap (λ (x : Reading). encode_book (closed_book x)) end.0,
        )
    cases more (stop why place) leads e = never e

-- An accepted book file is the encoding of a good book: the one that the judgement read.
pub book_accepted : (file : List ℕ) (book : Book) → Bytes file → judge_book file ≡ accepted book → GoodBook book × (file ≡ encode_book book)
unfolding judge_book concat_map
book_accepted file book bs e = cases (judge (length file) (book_record (length file)) (suc (length file)) empty_reading file) refl e
  where
    start : GoodReading empty_reading
    start = record { kinds_size = omega arith; good_kinds = tt; good_now = refl }

    cases : (v : Verdict Reading) → judge (length file) (book_record (length file)) (suc (length file)) empty_reading file ≡ v → book_of v ≡ accepted book
        → GoodBook book × (file ≡ encode_book book)
    cases (accepted r) p e =
        let found = judged (length file) (suc (length file)) empty_reading file r start bs p in
        let same : closed_book r ≡ book = cc in
        subst (λ (b : Book). GoodBook b × (file ≡ encode_book b)) same found
    cases (refused why place) p e = never e
