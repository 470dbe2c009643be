use Rattle.std.specs.Prelude.{◌++◌, codes}
use Rattle.zk_show_why.specs.Leavings.{left_end}
use Rattle.zk_show_why.specs.Oops.{step_words}
use Rattle.zk_show_why.proofs.Telling.{put_next}
use Rattle.zk_show_why.proofs.leavings.put_back.Goals as goal

pub returns : goal.returns
returns c =
    let old = c.args.out.now.items in
    let at = c.put.new.out.items in
    let behind = c.put_step.new.out.items in
    let end = c.put_left_end.new.out.items in
    let new = c.put-2.new.out.items in
    let step = step_words c.args.step in
    let came = left_end c.args.what in
    put_next c.put-2.result old at new (codes " ") (step ++ (came ++ codes ".\n")) c.in_ok-put.ensures.ok
    (put_next c.put-2.result at behind new step (came ++ codes ".\n") c.in_ok-put_step.ensures
    (put_next c.put-2.result behind end new came (codes ".\n") c.in_ok-put_left_end.ensures c.put-2.ensures.ok))
