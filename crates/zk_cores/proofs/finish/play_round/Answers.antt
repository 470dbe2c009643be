use Rattle.std.proofs.Common.{Bool, ◌||◌, ◌+◌, refl, sym, subst, ◌∙◌}
use Rattle.zk_cores.proofs.Finishing.{IsWithin, within-first, within-on}
use Rattle.zk_cores.proofs.finish.play_round.Goals as goal

pub loop-number-init : goal.loop-number-init
loop-number-init c = record {
  scenario = refl;
  long = sym c.players-number-end.ensures;
  within = within-first c.args.rest.now.scenario c.args.rest.now.world c.requires.sound;
}

pub loop-number-preserved : goal.loop-number-preserved
loop-number-preserved c =
    let l = c.loop-number in
    record {
      scenario = c.in_ok-step.ensures.does.scenario ∙ l.invariant.scenario;
      long = l.invariant.long;
      within = subst (λ (did : Bool). IsWithin c.args.rest.now.scenario c.args.rest.now.world c.step.new.self.world (l.moved || did) (l.number + 1)) (sym c.made_step.ensures)
          (within-on c.args.rest.now.scenario c.args.rest.now.world l.rest c.step.new.self l.moved l.number c.in_ok-step.field-0 l.invariant.scenario l.invariant.within c.in_ok-step.ensures.does);
    }
