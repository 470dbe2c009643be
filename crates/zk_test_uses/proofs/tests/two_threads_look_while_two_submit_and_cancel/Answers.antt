use Rattle.zk_model_work.specs.Machine.{work_machine}
use Rattle.zk_work.specs.Seen.{work_start}
use Rattle.zk_work.specs.Words.{work_word}
use Rattle.zk_uses.proofs.Looks.{HasLooked-own}
use Rattle.zk_test_uses.proofs.tests.two_threads_look_while_two_submit_and_cancel.Goals as goal

pub closed_after_looks-history-requires-clause-first : goal.closed_after_looks-history-requires-clause-first
closed_after_looks-history-requires-clause-first g c =
    let made = c.looked_at_meanwhile-lookers in
    HasLooked-own work_machine work_start work_word _ 0 _ made.result.0.0 made.ensures.first

pub closed_after_looks-history-requires-clause-second : goal.closed_after_looks-history-requires-clause-second
closed_after_looks-history-requires-clause-second g c =
    let made = c.looked_at_meanwhile-lookers in
    HasLooked-own work_machine work_start work_word _ 0 _ made.result.0.1 made.ensures.second
