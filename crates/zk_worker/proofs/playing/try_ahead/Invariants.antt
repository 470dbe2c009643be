use Rattle.std.proofs.Common.{◌≡◌, ◌≤◌}
use Rattle.zk_worker.specs.declared.steps.Step.{Step}
use Rattle.zk_worker.specs.Protocol.{attempts}
use Rattle.zk_worker.specs.Shown.{OnlyOthersCame}
use Rattle.zk_worker.specs.Attempt.{SamePlayers}
use Rattle.zk_worker.specs.Playing.{WereTried}
use Rattle.zk_worker.proofs.playing.try_ahead.Given as goal

abbrev pub invariant-loop-index : goal.invariant-loop-index
invariant-loop-index g l =
    let first = l.initial.services in
    let lone = g.V.Services.alone first in
    let m = g.V.Services.machines first in
    record {
      machines : g.V.Services.machines l.services ≡ m;
      serves : SamePlayers (g.V.Services.serves first) (g.V.Services.serves l.services);
      alone : g.V.Services.alone l.services ≡ lone;
      home : g.V.Services.home l.services ≡ g.V.Services.home first;
      others : OnlyOthersCame lone l.player.who.number (g.V.Services.shown first) (g.V.Services.shown l.services);
      counts : (step : Step) → g.V.Services.counts first step ≤ g.V.Services.counts l.services step;
      tried : WereTried lone m l.player.who (attempts l.scenario l.player) l.index (g.V.Services.shown first) (g.V.Services.shown l.services)
          (g.V.Services.counts first) (g.V.Services.counts l.services);
    }
