use Rattle.std.proofs.Common.{sym, ap, ◌∙◌}
use Rattle.zk_trace.specs.SpotRead.{player_of}
use Rattle.zk_trace.proofs.SpotRead.{player_exact}
use Rattle.zk_trace.proofs.spot_read.player_of.Goals as goal

pub returns-then-is_named : goal.returns-then-is_named
returns-then-is_named c =
    let decls = c.args.scenario.now.decls in
    let named = c.is_named.ensures.0 c.if-is_named.true in
    sym (ap (player_of decls) named.1 ∙ (player_exact decls c.decls-named.ensures.valid.named).again c.player-player.result named.0)
