use Rattle.zk_show_chart.proofs.Cuts.{word_some, word_none}
use Rattle.zk_show_chart.proofs.lines.first_word.Goals as goal

pub returns-in-Some : goal.returns-in-Some
returns-in-Some c = word_some c.args.text.now c.in-Some.end c.in-Some.ensures

pub returns-in-None : goal.returns-in-None
returns-in-None c = word_none c.args.text.now c.in-None.ensures
