use Rattle.zk_player_laws.proofs.PollLaws.{poll_laws, poll_goes_on}
use Rattle.zk_player_laws.proofs.poll_laws.keeps_poll_laws.Goals as goal

pub returns : goal.returns
returns c = record { answered = poll_laws; goes_on = poll_goes_on }
