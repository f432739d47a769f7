-- `put_digits` calls itself for the digits before the last one. The measure: how many digits it may put.
use Rattle.screen.proofs.Writer.+put_digits.Given as goal

abbrev pub decreases-put_digits : goal.decreases-put_digits
decreases-put_digits l = l.most
