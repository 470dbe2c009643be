use Rattle.zk_player_laws.proofs.OpenPolls.{each_open_poll_goes_on}
use Rattle.zk_player_laws.proofs.PollLogs.{each_poll_is_played}
use Rattle.zk_player_laws.proofs.PollServed.{each_poll_keeps_its_laws}
use Rattle.zk_player_laws.proofs.poll_laws.answered_polls_are_played.Goals as goal

pub returns : goal.returns
returns c = record { played = each_poll_is_played; laws = each_poll_keeps_its_laws; goes_on = each_open_poll_goes_on }
