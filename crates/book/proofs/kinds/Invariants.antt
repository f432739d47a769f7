-- `kinds` reads kind after kind. The invariant: the kinds that are read and those that are left are all kinds.
use mathlib.Core.Path.{◌≡◌}
use Prim.Native.Nat.{◌+◌}
use Rattle.meaning.specs.Facts.{most_kinds}
use Rattle.book.proofs.KindsLaws.{Counted}
use Rattle.book.proofs.kinds.Given as goal

abbrev pub invariant-loop-kd : goal.invariant-loop-kd
invariant-loop-kd l = Counted l.book l.kd-iterator.iter.rest.now l.kinds × (l.kd-iterator.iter.size ≡ 4) × (l.kinds.count + l.kd-iterator.n ≡ most_kinds)
