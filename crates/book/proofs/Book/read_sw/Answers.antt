-- `read_sw` reads one sweep more, or tells why not.
use borrow.Author.Rules.{rules}
use native.Mathlib.Omega.{arith}
use Rattle.std.proofs.lemmas.Grind.{common_steps}
use Rattle.files.specs.Book.{sweep_opened}
use Rattle.book.proofs.Book.read_sw.Goals as goal

pub returns : goal.returns
returns c = record {
  reads = λ l r i p. record {
    reading = record { kinds = r.kinds; rules = r.rules; now = sweep_opened r.now };
    some = omega arith;
    within = l;
    goes = search rules;
    holds = grind (arith, common_steps);
  };
}
