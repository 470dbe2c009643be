use Rattle.std.proofs.Common.{◌≡◌, take}
use Rattle.zk_base.specs.Legal.{Replays}
use Rattle.zk_failures.proofs.unlike.first_unlike.Given as goal

-- the entries so far stand, and are the history
abbrev pub invariant-loop-place : goal.invariant-loop-place
invariant-loop-place g l =
    let service = g.S.Service in
    let start = service.start l.initial.service in
    record {
      history : service.history l.service ≡ take l.place l.entries;
      started : service.start l.service ≡ start;
      stands : Replays service.machine start (take l.place l.entries);
    }
