use Rattle.row.proofs.Laws.{log_put}
use Rattle.row.proofs.put_log_at.Goals as goal

pub returns : goal.returns
returns c = let both = log_put _ _ _ _ c.put_in.ensures in record { row_after = both.0; known = both.1.0; past = both.1.1 }
