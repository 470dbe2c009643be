use Rattle.std.proofs.lemmas.Result.{on_ok_weaker}
use Rattle.zk_show_json.specs.Values.{ended}
use Rattle.zk_show_json.proofs.Arrays.{put-more}
use Rattle.zk_show_json.proofs.value.put_end.Goals as goal

pub returns-clause-text : goal.returns-clause-text
unfolding ended
returns-clause-text c =
    let old = c.args.out.now.put in
    let two = put-more old _ _ _ _ c.in_ok-put.ensures.text c.in_ok-put_answers.ensures.text in
    let three = put-more old _ _ _ _ two c.in_ok-put-2.ensures.text in
    let four = put-more old _ _ _ _ three c.in_ok-put_told.ensures.text in
    let five = put-more old _ _ _ _ four c.in_ok-put-3.ensures.text in
    let six = put-more old _ _ _ _ five c.in_ok-put_quoted.ensures.text in
    on_ok_weaker c.put-4.result (put-more old _ _ _ _ six) c.put-4.ensures.text
