-- The kinds that the leading KIND words of any bytes declare, as many as there is room for.
use Rattle.std.specs.Prelude.{ℕ, zero, suc, ◌+◌, ◌*◌, ◌/◌, List, length, eqb, if◌then◌else◌}
use Rattle.files.specs.InPlace.{byte_at}
use Rattle.files.specs.Strip.{word_bytes}
use Rattle.kinds.specs.Listed.{no_kinds, with_kind}
use Rattle.kinds.specs.declared.Kinds.{Kinds}

-- those found, and those of the words from number i on, so many being left
unfoldable pub leading_from : List ℕ → ℕ → ℕ → Kinds → Kinds
leading_from file zero i found = found
leading_from file (suc left) i found =
    let p = word_bytes * i in
    let more = leading_from file left (suc i) (with_kind found (byte_at file (p + 1)) (byte_at file (p + 2))) in
    if eqb (byte_at file p) 0 then more else found

unfoldable pub leading_kinds : List ℕ → Kinds
leading_kinds file = leading_from file (length file / word_bytes) 0 no_kinds
