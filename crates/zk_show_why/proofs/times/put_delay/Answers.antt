use Rattle.std.specs.Prelude.{◌++◌, codes}
use Rattle.zk_show_why.specs.Players.{name_of_object}
use Rattle.zk_show_why.specs.Times.{over_words}
use Rattle.zk_show_why.proofs.Telling.{put_next}
use Rattle.zk_show_why.proofs.times.put_delay.Goals as goal

pub returns : goal.returns
returns c = put_next c.put_name_over.result c.args.out.now.items c.put.new.out.items c.put_name_over.new.out.items
    (codes "; the delay of ") (name_of_object c.args.scenario.now.decls c.args.object ++ over_words c.args.moment)
    c.in_ok-put.ensures.ok c.put_name_over.ensures
