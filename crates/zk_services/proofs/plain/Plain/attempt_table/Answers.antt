use Rattle.zk_worker.proofs.Between.{above-table}
use Rattle.zk_services.specs.Alone.{plain_shown}
use Rattle.zk_services.proofs.plain.Plain.attempt_table.Goals as goal

pub act-requires-clause-later : goal.act-requires-clause-later
act-requires-clause-later c = above-table (plain_shown c.args.self.now) c.args.who.number c.args.number c.requires.later
