-- What the struct `Kinds` says: the list of kinds in document 01's terms.
use Rattle.std.specs.Prelude.{ℕ, zero, suc, ◌+◌, List, [], ◌∷◌, get_or, set, replicate, eqb, leb, if◌then◌else◌}
use Rattle.meaning.specs.Facts.{Kind, most_kinds}
use Rattle.kinds.specs.declared.Kinds.{Kinds}

-- so many kinds from number i on, by their classes and arities
unfoldable pub kinds_from : List ℕ → List ℕ → ℕ → ℕ → List Kind
kinds_from classes arities i zero = []
kinds_from classes arities i (suc left) = record { card = eqb (get_or classes i 0) 0; arity = get_or arities i 0 } ∷ kinds_from classes arities (suc i) left

-- no more than there is room for
abbrev pub in_range : ℕ → ℕ
in_range count = if leb count most_kinds then count else most_kinds

unfoldable pub kinds_of : Kinds → List Kind
kinds_of kinds = kinds_from kinds.class kinds.arity 0 (in_range kinds.count)

abbrev pub no_kinds : Kinds
no_kinds = record { count = 0; class = replicate 32 0; arity = replicate 32 0 }

abbrev pub with_kind : Kinds → ℕ → ℕ → Kinds
with_kind kinds class arity =
    if leb most_kinds kinds.count then kinds
    else record { count = kinds.count + 1; class = set kinds.class kinds.count class; arity = set kinds.arity kinds.count arity }
