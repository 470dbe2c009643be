use Rattle.zk_model_wait.specs.Sem.{new_sem}
use Rattle.zk_model_wait.proofs.sem_laws.keeps_sem_laws.Goals as goal

pub returns : goal.returns
returns c = λ initial limit low h legal. record {
  within = c.gives_add_up.ensures.within initial limit low h legal;
  none_waits = c.gives_add_up.ensures.none_waits initial limit low h legal;
  add_up = c.gives_add_up.ensures.add_up initial limit low h legal;
  got = c.gives_add_up.ensures.got initial limit low h legal;
  takes = c.calls_are_told.ensures.takes initial limit low h legal;
  told = c.calls_are_told.ensures.told initial limit low h legal;
  reset = c.calls_are_told.ensures.reset (new_sem initial limit) h;
  decided = c.calls_are_told.ensures.decided initial limit low h legal;
  always = c.calls_are_told.ensures.always (new_sem initial limit) h;
  done = c.calls_are_told.ensures.done initial limit low h legal;
  waits = c.waits_end.ensures.waits initial limit low h legal;
  armed = c.polls_hold.ensures.armed initial limit low h legal;
  noted = c.polls_hold.ensures.noted initial limit low h legal;
  chances = c.polls_hold.ensures.chances initial limit low h legal;
  nothing = c.polls_hold.ensures.nothing (new_sem initial limit) h;
  polls = c.polls_hold.ensures.polls initial limit low h legal;
}
