use Rattle.zk_model_work.proofs.laws.keeps_laws.Goals as goal

pub returns : goal.returns
returns c = λ start h fresh. record {
  once = c.runs_once.ensures start h fresh;
  order = c.begins_in_order.ensures start h fresh;
  alone = c.never_overlaps.ensures start h fresh;
  submissions = c.submissions_hold.ensures start h fresh;
  cancels = c.cancels_hold.ensures start h fresh;
  flushes = c.flushes_hold.ensures start h fresh;
  drains = c.drains_hold.ensures start h fresh;
  delays = c.delays_hold.ensures start h fresh;
  goes_on = c.goes_on.ensures start h fresh;
  flags = c.flags_show.ensures start h fresh;
}
