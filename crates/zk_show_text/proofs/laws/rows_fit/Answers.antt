use Rattle.zk_show_text.proofs.RowLines.{row-fits}
use Rattle.zk_show_text.proofs.laws.rows_fit.Goals as goal

pub returns : goal.returns
returns c = λ decls l bars row. row-fits decls l bars row
