use Rattle.std.specs.Prelude.{◌++◌, codes, decimal}
use Rattle.zk_show_why.proofs.Telling.{put_next}
use Rattle.zk_show_why.proofs.leavings.put_until.Goals as goal

pub returns : goal.returns
returns c = put_next c.put-2.result c.args.out.now.items c.put.new.out.items c.put-2.new.out.items
    (codes ", until tick ") (decimal c.args.moment ++ codes ", which is to come") c.in_ok-put.ensures.ok
    (put_next c.put-2.result c.put.new.out.items c.put_decimal.new.out.items c.put-2.new.out.items
    (decimal c.args.moment) (codes ", which is to come") c.in_ok-put_decimal.ensures.ok c.put-2.ensures.ok)
