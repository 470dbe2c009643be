use Rattle.std.proofs.lemmas.Result.{on_ok_weaker}
use Rattle.zk_show_json.specs.Values.{row_words}
use Rattle.zk_show_json.proofs.Arrays.{put-more}
use Rattle.zk_show_json.proofs.chart.put_row_words.Goals as goal

pub returns-clause-text : goal.returns-clause-text
unfolding row_words
returns-clause-text c =
    let old = c.args.out.now.put in
    let two = put-more old _ _ _ _ c.in_ok-put.ensures.text c.in_ok-put_quoted.ensures.text in
    let three = put-more old _ _ _ _ two c.in_ok-put-2.ensures.text in
    let four = put-more old _ _ _ _ three c.in_ok-put_quoted-2.ensures.text in
    on_ok_weaker c.push.result (put-more old _ _ _ _ four) c.push.ensures.text
