-- The cards are put, then the notices that stand behind them.
use Rattle.screen.proofs.Laws.{board-put}
use Rattle.screen.proofs.Writer.put_board.Goals as goal

pub returns : goal.returns
returns c = search board-put
