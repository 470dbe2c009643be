use Rattle.zk_show_why.specs.Players.{name_of_object}
use Rattle.zk_show_why.specs.Times.{over_words}
use Rattle.zk_show_why.proofs.Telling.{put_next}
use Rattle.zk_show_why.proofs.times.put_name_over.Goals as goal

pub returns : goal.returns
returns c = put_next c.put_over.result c.args.out.now.items c.put_name.new.out.items c.put_over.new.out.items
    (name_of_object c.args.scenario.now.decls c.args.object) (over_words c.args.moment)
    c.in_ok-put_name.ensures c.put_over.ensures
