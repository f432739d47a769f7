-- `put_digits` puts the digits before the last one, then the last one.
use Rattle.screen.proofs.Laws.{digits_none, digits_few, digits_more}
use Rattle.screen.proofs.Writer.+put_digits.Goals as goal
use Rattle.screen.proofs.Writer.+put_digits.Goals.{then-n-ge10, else-n-ge10}

pub returns-then-most-eq0 : goal.returns-then-most-eq0
returns-then-most-eq0 t c = search digits_none

pub returns : goal.returns
returns t c = elim c.if-n-ge10.branch [ then-n-ge10 w ↦ search digits_more | else-n-ge10 w ↦ search digits_few ]
