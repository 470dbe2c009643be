use Rattle.std.proofs.Common.{◌≡◌, drop}
use Rattle.zk_blocks.specs.Blocks.{made_of}
use Rattle.zk_blocks.specs.Each.{put_front, each_of}
use Rattle.zk_trace.specs.Form.{player_numbers}
use Rattle.zk_trace.specs.WholeRead.{read_player, read_players}
use Rattle.zk_trace.proofs.players_read.read_players.Given as goal

abbrev pub invariant-loop-player : goal.invariant-loop-player
invariant-loop-player l =
    let decls = l.scenario.decls in
    read_players l.format decls l.fn.feed ≡ made_of (put_front l.all.items) (each_of (read_player l.format decls) (drop l.player (player_numbers decls)) l.feed)
