use Rattle.std.proofs.Common.{◌≡◌, List, ap, subst}
use Rattle.std.specs.Prelude.{IfOk}
use Rattle.std.proofs.lemmas.Result.{IfOk-weaker}
use Rattle.zk_scenario.specs.Content.{Content}
use Rattle.zk_trace.specs.Ending.{lawful_ending}
use Rattle.zk_kernel.specs.Rests.{Left}
use Rattle.zk_services.specs.Alone.{plain_shown}
use Rattle.zk_worker.specs.Places.{PlayerPlace}
use Rattle.zk_world.specs.Over.{IsOver}
use Rattle.zk_world.specs.Traces.{ending_at, world_trace}
use Rattle.zk_world.specs.World.{world}
use Rattle.zk_world.proofs.Over.{trace-over}
use Rattle.zk_kernel.proofs.GoingOn.{ends-told}
use Rattle.zk_kernel.proofs.rest.Rest.trace.Goals as goal

pub returns-clause-ending : goal.returns-clause-ending
returns-clause-ending c =
    let inside = c.self.inside in
    let shown = plain_shown inside.services in
    let ends = subst (λ (ps : List PlayerPlace). c.ending_of-ending.result ≡ ending_at inside.scenario (world shown ps)) c.deref.ensures.value c.ending_of-ending.ensures in
    let told = ends-told inside.scenario (world shown inside.players.items) c.ending_of-ending.result c.trace_of.result c.self.invariant.1 ends c.trace_of.ensures.trace in
    subst (λ (s : Content). IfOk c.trace_of.result (λ trace. trace.ending ≡ lawful_ending s trace)) (ap (λ (l : Left). l.scenario) c.self.view_is) told

pub returns-clause-over : goal.returns-clause-over
returns-clause-over c =
    let inside = c.self.inside in
    let shown = plain_shown inside.services in
    let left = world shown inside.players.items in
    let ending = c.ending_of-ending.result in
    let ends = subst (λ (ps : List PlayerPlace). ending ≡ ending_at inside.scenario (world shown ps)) c.deref.ensures.value c.ending_of-ending.ensures in
    let told = IfOk-weaker c.trace_of.result (λ t. t ≡ world_trace inside.scenario ending left) (IsOver inside.scenario)
    (λ t same. trace-over inside.scenario left ending t c.self.invariant.1 ends same) c.trace_of.ensures.trace in
    subst (λ (s : Content). IfOk c.trace_of.result (IsOver s)) (ap (λ (l : Left). l.scenario) c.self.view_is) told
