use Rattle.zk_model_wait.proofs.MsgqPolls.{pollers_hold, poll_arm_answers, noted_at_a_chance, each_chance_notes_one, polling_takes_nothing}
use Rattle.zk_model_wait.proofs.msgq_laws.queue_polls_hold.Goals as goal

pub returns : goal.returns
returns c = record {
  armed = poll_arm_answers;
  noted = noted_at_a_chance;
  chances = each_chance_notes_one;
  nothing = polling_takes_nothing;
  polls = pollers_hold;
}
