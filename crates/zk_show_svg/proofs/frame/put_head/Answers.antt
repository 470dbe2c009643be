use Rattle.std.proofs.lemmas.Result.{on_ok_weaker}
use Rattle.zk_base.proofs.Fronts.{front_then}
use Rattle.zk_show_svg.proofs.frame.put_head.Goals as goal

pub returns-clause-more : goal.returns-clause-more
returns-clause-more c =
    let titled = front_then _ _ _ c.in_ok-put_opening.ensures.more c.in_ok-put_title.ensures.more in
    let grounded = front_then _ _ _ titled c.in_ok-put_ground.ensures.more in
    let headed = front_then _ _ _ grounded c.in_ok-put_heading.ensures.more in
    on_ok_weaker c.put_warning.result (front_then _ _ _ headed) c.put_warning.ensures.more
