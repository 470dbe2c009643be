use Rattle.std.proofs.lemmas.Result.{on_ok_weaker}
use Rattle.zk_base.proofs.Fronts.{front_put}
use Rattle.zk_show_svg.proofs.Chains.{front_more}
use Rattle.zk_show_svg.proofs.frame.put_ground.Goals as goal

pub returns-clause-more : goal.returns-clause-more
returns-clause-more c =
    let style = front_put _ _ _ c.in_ok-put.ensures.text in
    let defs = front_more _ _ _ _ style c.in_ok-put-2.ensures.text in
    let placed = front_more _ _ _ _ defs c.in_ok-put_placed.ensures.text in
    let sized = front_more _ _ _ _ placed c.in_ok-put_sized.ensures.text in
    on_ok_weaker c.put-3.result (front_more _ _ _ _ sized) c.put-3.ensures.text
