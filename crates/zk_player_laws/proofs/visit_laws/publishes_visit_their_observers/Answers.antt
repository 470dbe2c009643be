use Rattle.zk_player_laws.proofs.Visits.{each_publish_visits}
use Rattle.zk_player_laws.proofs.visit_laws.publishes_visit_their_observers.Goals as goal

pub returns : goal.returns
returns c = record { logged = each_publish_visits }
