-- One word: fields that are judged good are those of the word that they say, and the fields of a good word are judged good and say it.
use Rattle.std.specs.Prelude.{ℕ, zero, suc, ◌+◌, ◌*◌, ◌/◌, ◌%◌, ◌≤◌, ◌<◌, ◌≡◌, refl, ◌⊎◌, Bool, true, false, ◌||◌, List, [], ◌∷◌, ◌++◌, length, eqb, leb, ltb, if◌then◌else◌}
use Rattle.std.proofs.Common.{arith, sym, ap, ◌∙◌, inl, inr, ltb-true, ltb-false, leb-true, eqb-true, lt-ltb, le-leb, ne_eqb}
use Rattle.std.proofs.lemmas.Bool.{false≢true, not-true}
use Rattle.meaning.specs.Facts.{Kind, most_kinds, most_rules, most_numbers, variables, number_limit}
use Rattle.meaning.specs.Rules.{Term, constant, variable, Comparison, equal, unequal, less, less_or_equal, Test}
use Rattle.meaning.specs.Words.{Word, KIND, OPEN, SEEK, BIND, SAME, LIT, TEST, KEEP, PUT, ARG, JUMP, FIRE, QUIET, cursor_count}
use Rattle.meaning.specs.WellFormed.{GoodKind, GoodTerm, GoodTest, GoodWord, EndsWell, any_variable}
use Rattle.meaning.specs.Translation.{kind_word}
use Rattle.files.specs.InPlace.{term_of, comparison_of}
use Rattle.files.specs.Strip.{Fields, fields_at, left_tag, right_tag, left_of, word_of, Earlier, is_zero, is_term, word_is_good}
use Rattle.files.specs.Encode.{class_byte, tag_of, term_value, comparison_number, test_code, word_of_bytes, encode_word}
use Rattle.encoding.specs.Bytes.{Bytes, number_of, low_of, high_of}
use Rattle.encoding.specs.Judging.{both, all-four, all_five}

-- ---- one word's fields

-- what a word may be where it stands: a KIND among the first, or a good word after them
pub record KindHere (before : Earlier) (code : ℕ) (w : Word) : Type 0 where
  pub kind : Kind
  pub is : w ≡ kind_word kind
  pub code_is : eqb code 0 ≡ true
  pub good : GoodKind kind
  pub room : before.kinds < most_kinds
  pub first : before.others ≡ false

pub record WordHere (size : ℕ) (before : Earlier) (code : ℕ) (w : Word) : Type 0 where
  pub code_is : eqb code 0 ≡ false
  pub good : GoodWord before.kinds size w

abbrev pub spell : Fields → List ℕ
spell f = word_of_bytes f.code f.a f.b f.c f.value f.target

-- the fields are those of the word
pub record Says (size : ℕ) (before : Earlier) (f : Fields) (w : Word) : Type 0 where
  pub bytes : encode_word w ≡ spell f
  pub here : KindHere before f.code w ⊎ WordHere size before f.code w
  pub ends : leb 10 f.code ≡ true → EndsWell (w ∷ [])

-- ---- from fields to the word

class-byte : (a : ℕ) → a ≤ 1 → class_byte (eqb a 0) ≡ a
class-byte zero h = refl
class-byte (suc zero) h = refl
class-byte (suc (suc a)) h = let bad : ⊥ = omega arith in absurd bad

comparison_number_lem : (q : ℕ) → q < 4 → comparison_number (comparison_of q) ≡ q
comparison_number_lem zero h = refl
comparison_number_lem (suc zero) h = refl
comparison_number_lem (suc (suc zero)) h = refl
comparison_number_lem (suc (suc (suc zero))) h = refl
comparison_number_lem (suc (suc (suc (suc q)))) h = let bad : ⊥ = omega arith in absurd bad

term_tag : (tag v : ℕ) → tag ≤ 1 → tag_of (term_of tag v) ≡ tag
term_tag zero v h = refl
term_tag (suc zero) v h = refl
term_tag (suc (suc tag)) v h = let bad : ⊥ = omega arith in absurd bad

term_value_lem : (tag v : ℕ) → term_value (term_of tag v) ≡ v
term_value_lem tag v = cases (eqb tag 0)
  where
    cases : (t : Bool) → term_value (if t then constant v else variable v) ≡ v
    cases true = refl
    cases false = refl

-- a term that is in range: its tag, and what it says
term-good : (tag v : ℕ) → is_term tag v ≡ true → v < number_limit → (tag ≤ 1) × GoodTerm any_variable (term_of tag v)
term-good tag v e h = let p = both (leb tag 1) (eqb tag 0 || ltb v variables) e in (leb-true tag 1 p.0, cases (eqb tag 0) p.1)
  where
    cases : (t : Bool) → (t || ltb v variables) ≡ true → GoodTerm any_variable (if t then constant v else variable v)
    cases true q = h
    cases false q = (ltb-true v variables q, refl)

zero_is : (x : ℕ) → is_zero x ≡ true → 0 ≡ x
zero_is x e = sym (eqb-true x 0 e)

spell_by : (code : ℕ) {a a' b b' c c' v v' t t' : ℕ} → a ≡ a' → b ≡ b' → c ≡ c' → v ≡ v' → t ≡ t'
    → word_of_bytes code a b c v t ≡ word_of_bytes code a' b' c' v' t'
spell_by code {a} {a'} {b} {b'} {c} {c'} {v} {v'} {t} {t'} p q r s u = cc

abbrev fields : ℕ → ℕ → ℕ → ℕ → ℕ → ℕ → Fields
fields code a b c value target = record { code = code; a = a; b = b; c = c; value = value; target = target }

-- what holds of each of the thirteen codes
by_code : (P : ℕ → Type 0) → P 0 → P 1 → P 2 → P 3 → P 4 → P 5 → P 6 → P 7 → P 8 → P 9 → P 10 → P 11 → P 12 → (code : ℕ) → code < 13 → P code
by_code P p0 p1 p2 p3 p4 p5 p6 p7 p8 p9 p10 p11 p12 zero h = p0
by_code P p0 p1 p2 p3 p4 p5 p6 p7 p8 p9 p10 p11 p12 (suc zero) h = p1
by_code P p0 p1 p2 p3 p4 p5 p6 p7 p8 p9 p10 p11 p12 (suc (suc zero)) h = p2
by_code P p0 p1 p2 p3 p4 p5 p6 p7 p8 p9 p10 p11 p12 (suc (suc (suc zero))) h = p3
by_code P p0 p1 p2 p3 p4 p5 p6 p7 p8 p9 p10 p11 p12 (suc (suc (suc (suc zero)))) h = p4
by_code P p0 p1 p2 p3 p4 p5 p6 p7 p8 p9 p10 p11 p12 (suc (suc (suc (suc (suc zero))))) h = p5
by_code P p0 p1 p2 p3 p4 p5 p6 p7 p8 p9 p10 p11 p12 (suc (suc (suc (suc (suc (suc zero)))))) h = p6
by_code P p0 p1 p2 p3 p4 p5 p6 p7 p8 p9 p10 p11 p12 (suc (suc (suc (suc (suc (suc (suc zero))))))) h = p7
by_code P p0 p1 p2 p3 p4 p5 p6 p7 p8 p9 p10 p11 p12 (suc (suc (suc (suc (suc (suc (suc (suc zero)))))))) h = p8
by_code P p0 p1 p2 p3 p4 p5 p6 p7 p8 p9 p10 p11 p12 (suc (suc (suc (suc (suc (suc (suc (suc (suc zero))))))))) h = p9
by_code P p0 p1 p2 p3 p4 p5 p6 p7 p8 p9 p10 p11 p12 (suc (suc (suc (suc (suc (suc (suc (suc (suc (suc zero)))))))))) h = p10
by_code P p0 p1 p2 p3 p4 p5 p6 p7 p8 p9 p10 p11 p12 (suc (suc (suc (suc (suc (suc (suc (suc (suc (suc (suc zero))))))))))) h = p11
by_code P p0 p1 p2 p3 p4 p5 p6 p7 p8 p9 p10 p11 p12 (suc (suc (suc (suc (suc (suc (suc (suc (suc (suc (suc (suc zero)))))))))))) h = p12
by_code P p0 p1 p2 p3 p4 p5 p6 p7 p8 p9 p10 p11 p12 (suc (suc (suc (suc (suc (suc (suc (suc (suc (suc (suc (suc (suc code))))))))))))) h = let bad : ⊥ = omega arith in absurd bad

-- a word that goes on, or may be the last
goes_on : (size : ℕ) (before : Earlier) {f : Fields} {w : Word} → encode_word w ≡ spell f → eqb f.code 0 ≡ false → GoodWord before.kinds size w
    → leb 10 f.code ≡ false → Says size before f w
goes_on size before {f} {w} b z g n = record { bytes = b; here = inr (record { code_is = z; good = g }); ends = λ q. absurd (false≢true (sym n ∙ q)) }

may_end_lem : (size : ℕ) (before : Earlier) {f : Fields} {w : Word} → encode_word w ≡ spell f → eqb f.code 0 ≡ false → GoodWord before.kinds size w
    → EndsWell (w ∷ []) → Says size before f w
may_end_lem size before b z g n = record { bytes = b; here = inr (record { code_is = z; good = g }); ends = λ q. n }

-- each code in the table's order, with any fields
module _ (size : ℕ) (before : Earlier) (a b c value target : ℕ) (low : b < 256) (left : b + 256 * c < number_limit) (right : value < number_limit) where
  abbrev Code : ℕ → Type 0
  Code code =
      let f = fields code a b c value target in word_is_good size before f ≡ true → Says size before f (word_of f)

  kind_says : Code 0
  kind_says e =
      let p = both _ _ e in
      let q = both _ _ p.0 in
      let h = all_five _ _ _ _ _ q.0 in
      record {
        bytes = spell_by 0 (class-byte a (leb-true a 1 h.0)) refl (zero_is c h.2) (zero_is value h.3) (zero_is target h.4);
        here = inl (record {
          kind = record { card = eqb a 0; arity = b };
          is = refl;
          code_is = refl;
          good = leb-true b most_numbers h.1;
          room = ltb-true before.kinds most_kinds q.1;
          first = not-true before.others p.1;
        });
        ends = λ q. absurd (false≢true q);
      }

  open_says : Code 1
  open_says e =
      let h = all_five _ _ _ _ _ e in
      goes_on size before (spell_by 1 refl (zero_is b h.1) (zero_is c h.2) (zero_is value h.3) (zero_is target h.4)) refl
      (ltb-true a cursor_count h.0) refl

  seek_says : Code 2
  seek_says e =
      let h = all_five _ _ _ _ _ e in
      goes_on size before (spell_by 2 refl refl (zero_is c h.2) (zero_is value h.3) refl) refl
      (ltb-true a cursor_count h.0, ltb-true b before.kinds h.1, ltb-true target size h.4) refl

  bind_says : Code 3
  bind_says e =
      let h = all_five _ _ _ _ _ e in
      goes_on size before (spell_by 3 refl refl refl (zero_is value h.3) (zero_is target h.4)) refl
      (ltb-true a cursor_count h.0, ltb-true b most_numbers h.1, ltb-true c variables h.2) refl

  same_says : Code 4
  same_says e =
      let h = all_five _ _ _ _ _ e in
      goes_on size before (spell_by 4 refl refl refl (zero_is value h.3) refl) refl
      (ltb-true a cursor_count h.0, ltb-true b most_numbers h.1, ltb-true c variables h.2, ltb-true target size h.4) refl

  lit_says : Code 5
  lit_says e =
      let h = all-four _ _ _ _ e in
      goes_on size before (spell_by 5 refl refl (zero_is c h.2) refl refl) refl
      (ltb-true a cursor_count h.0, ltb-true b most_numbers h.1, right, ltb-true target size h.3) refl

  test_says : Code 6
  test_says e =
      let f = fields 6 a b c value target in
      let h = all-four (leb a 15) (is_term (left_tag f) (left_of f)) (is_term (right_tag f) value) (ltb target size) e in
      let l = term-good (left_tag f) (left_of f) h.1 left in
      let r = term-good (right_tag f) value h.2 right in
      let sum : 4 * (a / 4) + 2 * (a / 2 % 2) + a % 2 ≡ a = omega arith in
      let test : comparison_number (comparison_of (a / 4)) ≡ a / 4 = comparison_number_lem (a / 4) (omega (arith, leb-true a 15 h.0)) in
      goes_on size before
      (spell_by 6
      (rw (test, term_tag (left_tag f) (left_of f) l.0, term_tag (right_tag f) value r.0) sum)
      (ap (λ (x : ℕ). x % 256) (term_value_lem (left_tag f) (left_of f)) ∙ low_of b c low)
      (ap (λ (x : ℕ). x / 256) (term_value_lem (left_tag f) (left_of f)) ∙ high_of b c low)
      (term_value_lem (right_tag f) value) refl)
      refl ((l.1, r.1), ltb-true target size h.3) refl

  keep_says : Code 7
  keep_says e =
      let h = all_five _ _ _ _ _ e in
      goes_on size before (spell_by 7 (zero_is a h.0) (zero_is b h.1) (zero_is c h.2) (zero_is value h.3) (zero_is target h.4)) refl tt refl

  put_says : Code 8
  put_says e =
      let h = all_five _ _ _ _ _ e in
      goes_on size before (spell_by 8 refl (zero_is b h.1) (zero_is c h.2) (zero_is value h.3) (zero_is target h.4)) refl
      (ltb-true a before.kinds h.0) refl

  arg_says : Code 9
  arg_says e =
      let h = all-four _ _ _ _ e in
      let t = term-good b value h.1 right in
      goes_on size before (spell_by 9 refl (term_tag b value t.0) (zero_is c h.2) (term_value_lem b value) (zero_is target h.3)) refl
      (ltb-true a most_numbers h.0, t.1) refl

  jump_says : Code 10
  jump_says e =
      let h = all_five _ _ _ _ _ e in
      may_end_lem size before (spell_by 10 (zero_is a h.0) (zero_is b h.1) (zero_is c h.2) (zero_is value h.3) refl) refl
      (ltb-true target size h.4) tt

  fire_says : Code 11
  fire_says e =
      let h = all_five _ _ _ _ _ e in
      may_end_lem size before (spell_by 11 refl (zero_is b h.1) (zero_is c h.2) (zero_is value h.3) (zero_is target h.4)) refl
      (ltb-true a most_rules h.0) tt

  quiet_says : Code 12
  quiet_says e =
      let h = all_five _ _ _ _ _ e in
      may_end_lem size before (spell_by 12 (zero_is a h.0) (zero_is b h.1) (zero_is c h.2) (zero_is value h.3) (zero_is target h.4)) refl tt tt

  code_says : (code : ℕ) → code < 13 → Code code
  code_says =
      by_code Code kind_says open_says seek_says bind_says same_says lit_says test_says keep_says put_says arg_says jump_says fire_says quiet_says

module _ (size : ℕ) (before : Earlier) where
  -- no other code is good
  unknown : (f : Fields) → 13 ≤ f.code → word_is_good size before f ≡ false
  unknown f h =
      rw (
        other 0 (omega arith),
        other 1 (omega arith),
        other 2 (omega arith),
        other 3 (omega arith),
        other 4 (omega arith),
        other 5 (omega arith),
        other 6 (omega arith),
        other 7 (omega arith),
        other 8 (omega arith),
        other 9 (omega arith),
        other 10 (omega arith),
        other 11 (omega arith),
        other 12 (omega arith),
      )
    where
      other : (k : ℕ) → k < 13 → eqb f.code k ≡ false
      other k l = ne_eqb f.code k (λ q. omega arith)

  -- Fields of bytes that are judged good are those of the word that they say, which is good where it stands.
  pub word_says : (f : Fields) → f.b < 256 → left_of f < number_limit → f.value < number_limit → word_is_good size before f ≡ true
      → Says size before f (word_of f)
  word_says f low left right e = cases (ltb f.code 13) refl
    where
      cases : (t : Bool) → ltb f.code 13 ≡ t → Says size before f (word_of f)
      cases true q = code_says size before f.a f.b f.c f.value f.target low left right f.code (ltb-true f.code 13 q) e
      cases false q = absurd (false≢true (sym (unknown f (ltb-false f.code 13 q)) ∙ e))

-- ---- from the word to its fields

class_of : (card : Bool) → eqb (class_byte card) 0 ≡ card
class_of true = refl
class_of false = refl

class_small : (card : Bool) → leb (class_byte card) 1 ≡ true
class_small true = refl
class_small false = refl

comparison_of_lem : (c : Comparison) → (comparison_number c < 4) × (comparison_of (comparison_number c) ≡ c)
comparison_of_lem equal = (omega arith, refl)
comparison_of_lem unequal = (omega arith, refl)
comparison_of_lem less = (omega arith, refl)
comparison_of_lem less_or_equal = (omega arith, refl)

tag_small : (t : Term) → tag_of t ≤ 1
tag_small (constant v) = omega arith
tag_small (variable x) = omega arith

term_of_lem : (t : Term) → term_of (tag_of t) (term_value t) ≡ t
term_of_lem (constant v) = refl
term_of_lem (variable x) = refl

term_in_range : (t : Term) → GoodTerm any_variable t → is_term (tag_of t) (term_value t) ≡ true
term_in_range (constant v) g = refl
term_in_range (variable x) g = lt-ltb x variables g.0

-- the fields of a word of which other bytes follow
abbrev pub fields_of : Word → List ℕ → Fields
fields_of w rest = fields_at (encode_word w ++ rest) 0

module _ (size : ℕ) (before : Earlier) (rest : List ℕ) where
  -- a KIND among the first
  pub kind_read : (kind : Kind) → GoodKind kind → before.kinds < most_kinds → before.others ≡ false
      → (word_of (fields_of (kind_word kind) rest) ≡ kind_word kind) × (word_is_good size before (fields_of (kind_word kind) rest) ≡ true)
  kind_read kind g r f = (
    rw (class_of kind.card),
    rw (class_small kind.card, le-leb kind.arity most_numbers g, lt-ltb before.kinds most_kinds r, f),
  )

  -- a good word after them
  pub record Reads (w : Word) : Type 0 where
    pub word : word_of (fields_of w rest) ≡ w
    pub good : word_is_good size before (fields_of w rest) ≡ true
    pub code_is : eqb (fields_of w rest).code 0 ≡ false
    pub ends : EndsWell (w ∷ []) → leb 10 (fields_of w rest).code ≡ true

  pub word_read : (w : Word) → GoodWord before.kinds size w → Reads w
  word_read (KIND card arity) g = absurd g
  word_read (OPEN c) g = record { word = refl; good = rw (lt-ltb c cursor_count g); code_is = refl; ends = λ q. absurd q }
  word_read (SEEK c k target) g = record {
    word = rw (number_of target);
    good = rw (number_of target, lt-ltb c cursor_count g.0, lt-ltb k before.kinds g.1, lt-ltb target size g.2);
    code_is = refl;
    ends = λ q. absurd q;
  }
  word_read (BIND c i x) g = record {
    word = refl;
    good = rw (lt-ltb c cursor_count g.0, lt-ltb i most_numbers g.1, lt-ltb x variables g.2);
    code_is = refl;
    ends = λ q. absurd q;
  }
  word_read (SAME c i x target) g = record {
    word = rw (number_of target);
    good = rw (number_of target, lt-ltb c cursor_count g.0, lt-ltb i most_numbers g.1, lt-ltb x variables g.2, lt-ltb target size g.3);
    code_is = refl;
    ends = λ q. absurd q;
  }
  word_read (LIT c i v target) g = record {
    word = rw (number_of v, number_of target);
    good = rw (number_of target, lt-ltb c cursor_count g.0, lt-ltb i most_numbers g.1, lt-ltb target size g.3);
    code_is = refl;
    ends = λ q. absurd q;
  }
  word_read (TEST t target) g = test_read t target g.0 g.1
    where
      test_read : (t : Test) (target : ℕ) → GoodTest any_variable t → target < size → Reads (TEST t target)
      test_read t target g h =
          let f = fields_of (TEST t target) rest in
          let c = comparison_of_lem t.comparison in
          let test : test_code t / 4 ≡ comparison_number t.comparison = omega (arith, tag_small t.left, tag_small t.right) in
          let left : test_code t / 2 % 2 ≡ tag_of t.left = omega (arith, tag_small t.left, tag_small t.right) in
          let right : test_code t % 2 ≡ tag_of t.right = omega (arith, tag_small t.left, tag_small t.right) in
          let small : test_code t ≤ 15 = omega (arith, c.0, tag_small t.left, tag_small t.right) in
          record {
            word = rw (number_of target, number_of (term_value t.left), number_of (term_value t.right), test, left, right, c.1, term_of_lem t.left, term_of_lem t.right);
            good = rw (number_of target, number_of (term_value t.left), number_of (term_value t.right), left, right, le-leb (test_code t) 15 small, term_in_range t.left g.0, term_in_range t.right g.1, lt-ltb target size h);
            code_is = refl;
            ends = λ q. absurd q;
          }
  word_read KEEP g = record { word = refl; good = refl; code_is = refl; ends = λ q. absurd q }
  word_read (PUT k) g = record { word = refl; good = rw (lt-ltb k before.kinds g); code_is = refl; ends = λ q. absurd q }
  word_read (ARG i t) g = record {
    word = rw (number_of (term_value t), term_of_lem t);
    good = rw (number_of (term_value t), lt-ltb i most_numbers g.0, term_in_range t g.1);
    code_is = refl;
    ends = λ q. absurd q;
  }
  word_read (JUMP target) g = record {
    word = rw (number_of target);
    good = rw (number_of target, lt-ltb target size g);
    code_is = refl;
    ends = λ q. refl;
  }
  word_read (FIRE r) g = record { word = refl; good = rw (lt-ltb r most_rules g); code_is = refl; ends = λ q. refl }
  word_read QUIET g = record { word = refl; good = refl; code_is = refl; ends = λ q. refl }

-- ---- its bytes

pub word_length : (w : Word) → length (encode_word w) ≡ 8
word_length (KIND card arity) = refl
word_length (OPEN c) = refl
word_length (SEEK c k target) = refl
word_length (BIND c i x) = refl
word_length (SAME c i x target) = refl
word_length (LIT c i v target) = refl
word_length (TEST t target) = refl
word_length KEEP = refl
word_length (PUT k) = refl
word_length (ARG i t) = refl
word_length (JUMP target) = refl
word_length (FIRE r) = refl
word_length QUIET = refl

term_limit : (t : Term) → GoodTerm any_variable t → term_value t < number_limit
term_limit (constant v) g = g
term_limit (variable x) g = omega (arith, g.0)

pub word_is_bytes : (kinds size : ℕ) (w : Word) → kinds ≤ 256 → size ≤ number_limit → GoodWord kinds size w → Bytes (encode_word w)
word_is_bytes kinds size (KIND card arity) k n g = absurd g
word_is_bytes kinds size (OPEN c) k n g = omega arith
word_is_bytes kinds size (SEEK c kind target) k n g = omega arith
word_is_bytes kinds size (BIND c i x) k n g = omega arith
word_is_bytes kinds size (SAME c i x target) k n g = omega arith
word_is_bytes kinds size (LIT c i v target) k n g = omega arith
word_is_bytes kinds size (TEST t target) k n g =
    omega (arith, (comparison_of_lem t.comparison).0, tag_small t.left, tag_small t.right, term_limit t.left g.0.0, term_limit t.right g.0.1)
word_is_bytes kinds size KEEP k n g = omega arith
word_is_bytes kinds size (PUT kind) k n g = omega arith
word_is_bytes kinds size (ARG i t) k n g = omega (arith, tag_small t, term_limit t g.1)
word_is_bytes kinds size (JUMP target) k n g = omega arith
word_is_bytes kinds size (FIRE r) k n g = omega arith
word_is_bytes kinds size QUIET k n g = omega arith

pub kind_is_bytes : (card : Bool) (arity : ℕ) → arity ≤ most_numbers → Bytes (encode_word (KIND card arity))
kind_is_bytes true arity h = omega arith
kind_is_bytes false arity h = omega arith
