-- `read_ru` reads one rule more, or tells why not.
use Rattle.book.proofs.RecordLaws.{ru_takes}
use Rattle.book.proofs.Book.read_ru.Goals as goal

pub returns : goal.returns
returns c = rw c.with_rules-book.ensures (ru_takes _ _ c.if-self-ge-RULES.false)
