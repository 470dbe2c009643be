use Rattle.zk_msgsub.proofs.fan_laws.keeps_fan_laws.Goals as goal

pub returns : goal.returns
returns c = λ first are h legal. record {
  listed = c.opens_are_told.ensures.listed first are h legal;
  order = c.opens_are_told.ensures.order first are h legal;
  once = c.opens_are_told.ensures.once first are h legal;
  add = c.changes_are_told.ensures.add first are h legal;
  remove = c.changes_are_told.ensures.remove first are h legal;
  always = c.changes_are_told.ensures.always first are h legal;
}
