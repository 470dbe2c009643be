use Rattle.std.proofs.Common.{◌∙◌}
use Rattle.zk_show_json.specs.Values.{answer_value}
use Rattle.zk_show_json.proofs.Logs.{logs-on}
use Rattle.zk_show_json.proofs.answers.put_logs.Goals as goal

pub loop-player-preserved : goal.loop-player-preserved
loop-player-preserved c = record {
  text = logs-on (answer_value c.args.scenario.now.decls) c.args.logs.now c.loop-player.player c.index-logs-player.result c.loop-player.begun _ _ _ _
      c.loop-player-test.true c.index-logs-player.is c.is_begun-begun.ensures c.in_ok-put_log.ensures.text c.loop-player.invariant.text;
  front = c.in_ok-put_log.ensures.front ∙ c.loop-player.invariant.front;
}
