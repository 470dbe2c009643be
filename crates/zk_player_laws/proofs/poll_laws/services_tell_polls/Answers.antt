use Rattle.zk_player_laws.proofs.PollTells.{sem_tells_polls, msgq_tells_polls, clock_tells_polls}
use Rattle.zk_player_laws.proofs.poll_laws.services_tell_polls.Goals as goal

pub returns : goal.returns
returns c = record { sems = sem_tells_polls; msgqs = msgq_tells_polls; clock = clock_tells_polls }
