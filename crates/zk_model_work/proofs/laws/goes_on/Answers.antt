use Rattle.zk_model_work.proofs.Replies.{may_always_begin, may_always_end, may_always, answers_fit}
use Rattle.zk_model_work.proofs.Dones.{may_be_done, done_has_its_start}
use Rattle.zk_model_work.proofs.laws.goes_on.Goals as goal

pub returns : goal.returns
returns c = λ start h fresh. record {
  begin = may_always_begin start h fresh;
  end = may_always_end start h fresh;
  always = may_always start h fresh;
  done = may_be_done start h fresh;
  first = done_has_its_start start h fresh;
  fits = answers_fit start h fresh;
}
