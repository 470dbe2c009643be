use Rattle.zk_model_bus.proofs.table_laws.keeps_table_laws.Goals as goal

pub returns : goal.returns
returns c = λ setup h legal. record {
  no_object = c.checks_are_told.ensures.no_object setup h legal;
  wrong_kind = c.checks_are_told.ensures.wrong_kind setup h legal;
  stands = c.grants_stand.ensures.stands setup h legal;
  public = c.grants_stand.ensures.public setup h legal;
  none = c.grants_stand.ensures.none setup h legal;
  ready = c.ready_for_good.ensures.ready setup h legal;
  before = c.ready_for_good.ensures.before setup h legal;
  once = c.ready_for_good.ensures.once setup h legal;
  answered = c.checks_are_told.ensures.answered setup h legal;
  dead = c.oops_is_last.ensures.dead setup h legal;
  checked = c.user_for_good.ensures.checked setup h legal;
  user = c.user_for_good.ensures.user setup h legal;
  living = c.oops_is_last.ensures.living setup h legal;
}
