use Rattle.zk_model_trigger.proofs.laws.keeps_trigger_laws.Goals as goal

pub returns : goal.returns
returns c = λ h legal. record {
  possible = c.replies_are_told.ensures.possible h legal;
  told = c.replies_are_told.ensures.told h legal;
  once = c.fires_once.ensures h legal;
  ends = c.ends_once.ensures h legal;
}
