use Rattle.zk_check.proofs.Rows.{rows-rise}
use Rattle.zk_check.proofs.laws.rows_rise.Goals as goal

pub returns : goal.returns
returns c = rows-rise
