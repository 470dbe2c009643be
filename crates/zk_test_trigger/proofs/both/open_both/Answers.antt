use Rattle.std.proofs.Common.{[], ◌∷◌, pos, ap, ◌∙◌, arith}
use Rattle.zk_base.specs.declared.ids.Who.{Who}
use Rattle.zk_work.specs.Seen.{work_start}
use Rattle.zk_trigger.specs.Pumping.{is_wide}
use Rattle.zk_trigger.specs.Pumps.{room_at}
use Rattle.zk_trigger.specs.Seen.{trigger_start}
use Rattle.zk_test_trigger.specs.Pumped.{pumper}
use Rattle.zk_test_trigger.proofs.both.open_both.Goals as goal

abbrev armer : Who
armer = record { number = 0; prio = pos 0 }

pub last_pass-pumper-requires : goal.last_pass-pumper-requires
last_pass-pumper-requires c = (armer ∷ [], c.in_ok-triggers.ensures.passes)

pub returns-clause-ready : goal.returns-clause-ready
returns-clause-ready c =
    let one = c.last_pass-pumper.ensures.pass in
    let other = c.last_pass-worker.ensures.pass in
    let next = c.new-5.ensures.next in
    record {
      pump = c.new-5.ensures.pump c.in_ok-triggers.triggers c.in_ok-work.work pumper one other;
      triggers_room = let room = one.room in let same = ap room_at next.1 in omega arith;
      work_room = let room = other.room in let same = ap room_at next.2 in omega arith;
      start = ap trigger_start c.in_ok-triggers.ensures.given ∙ c.new.ensures.start;
      wide = ap (λ s. is_wide (work_start s)) c.in_ok-work.ensures.given ∙ ap is_wide c.in_ok-service.ensures.0;
    }
