-- One firing as the run sees it: what it may be asked of, and what it answers. `Playable` is what a run keeps from firing to firing.
use Rattle.std.specs.Prelude.{◌≡◌, ℕ, zero, suc, ◌+◌, ◌≤◌, List, [], ◌∷◌, length, if◌then◌else◌}
use Rattle.meaning.specs.Facts.{Kind, most_rules, most_cards, most_notices, longest_book}
use Rattle.meaning.specs.Firing.{quiet, full, fired, fire}
use Rattle.meaning.specs.WellFormed.{GoodBook, GoodBoard}
use Rattle.files.specs.Marks.{RU, is_mark}
use Rattle.files.specs.InPlace.{byte_at, rule_at, kinds_at, book_at}
use Rattle.files.specs.Encode.{encode_book}
use Rattle.rows.specs.declared.Count.{Count}
use Rattle.rows.specs.Held.{Sized}
use Rattle.runs.specs.Runs.{board_in}
use Rattle.plain.specs.Stands.{places_from}
use Rattle.plain.specs.declared.rules.Rules.{Rules}
use Rattle.plain.specs.declared.firing.Look.{Look}
use Rattle.plain.specs.declared.firing.Look.TheVariants.{Quiet, Full, Fired}

-- the places after the marks `ru`, of at most so many rules from a place on
unfoldable pub rule_places : List ℕ → List Kind → ℕ → ℕ → List ℕ
rule_places book kinds zero p = []
rule_places book kinds (suc left) p =
    let more = (p + 2) ∷ rule_places book kinds left (rule_at book kinds (p + 2)).next in
    if is_mark RU (byte_at book p) (byte_at book (p + 1)) then more else []

-- those of the book
abbrev pub places_of : List ℕ → List ℕ
places_of book = rule_places book (kinds_at book).value most_rules (kinds_at book).next

pub record Playable (book : List ℕ) (kinds : List Kind) (rules : Rules) (kind numbers : List ℕ) (count : Count) : Type 0 where
  pub good : GoodBook (book_at book)
  pub declared : kinds ≡ (book_at book).kinds
  pub places : places_from rules.at 0 rules.count ≡ places_of book
  pub short : length book ≤ longest_book
  pub encoded : book ≡ encode_book (book_at book)
  pub sized : Sized kind numbers
  pub few_cards : count.cards ≤ most_cards
  pub few_notices : count.notices ≤ most_notices
  pub board : GoodBoard kinds (board_in kinds kind numbers count)

-- the arrays that are lent to each firing, whatever they hold: for the lists of rows, and for the made cards
pub record Lent (list made_kind made_numbers : List ℕ) : Type 0 where
  pub listed : length list ≡ 384
  pub rows : length made_kind ≡ 256
  pub places : length made_numbers ≡ 1024

-- what it answers, by the definition of a firing; where nothing fires the board stays
abbrev pub Looked : List ℕ → List Kind → List ℕ → List ℕ → Count → Look → List ℕ → List ℕ → Type 0
Looked book kinds kind numbers count Quiet kind' numbers' =
    Sized kind' numbers' × (fire (book_at book) (board_in kinds kind numbers count) ≡ quiet) × (board_in kinds kind' numbers' count ≡ board_in kinds kind numbers count)
Looked book kinds kind numbers count Full kind' numbers' =
    Sized kind' numbers' × (fire (book_at book) (board_in kinds kind numbers count) ≡ full) × (board_in kinds kind' numbers' count ≡ board_in kinds kind numbers count)
Looked book kinds kind numbers count (Fired rule after) kind' numbers' =
    Sized kind' numbers' × (fire (book_at book) (board_in kinds kind numbers count) ≡ fired rule (board_in kinds kind' numbers' after))
    × (after.cards ≤ most_cards) × (after.notices ≤ most_notices)
