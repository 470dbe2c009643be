use Rattle.std.proofs.Common.{sym, subst}
use Rattle.zk_services.specs.Alone.{plain_shown}
use Rattle.zk_trace.specs.declared.trace.Trace.{Trace}
use Rattle.zk_trace.specs.Form.{IsInForm}
use Rattle.zk_trace.specs.Sized.{IsSized}
use Rattle.zk_world.specs.Traces.{IsFaithful}
use Rattle.zk_world.specs.World.{world}
use Rattle.zk_world.proofs.InForm.{sound-in-form}
use Rattle.zk_world.proofs.Lawful.{sound-lawful}
use Rattle.zk_world.proofs.Readiness.{logs-short}
use Rattle.zk_world.proofs.traces.trace_of.Goals as goal

pub gather-requires : goal.gather-requires
gather-requires c =
    logs-short c.args.scenario.now (world (plain_shown c.args.services) c.args.players.items) c.requires.sound.ready

pub returns-clause-says : goal.returns-clause-says
returns-clause-says c =
    let s = c.args.scenario.now in
    subst (IsFaithful s) (sym c.in_ok-trace.ensures) (sound-lawful s c.args.ending (world (plain_shown c.args.services) c.args.players.items) c.requires.sound)

pub returns-clause-form : goal.returns-clause-form
returns-clause-form c =
    let s = c.args.scenario.now in
    subst (λ (t : Trace). IsInForm s t) (sym c.in_ok-trace.ensures)
    (sound-in-form s c.args.ending (world (plain_shown c.args.services) c.args.players.items) c.requires.sound
    (subst IsSized c.in_ok-trace.ensures c.trace_sizes.ensures))
