-- A machine that has waits keeps all their laws.
use Rattle.std.proofs.Common.{List}
use Rattle.zk_base.specs.declared.ids.Entry.{Entry}
use Rattle.zk_base.specs.Legal.{Machine, Replays}
use Rattle.zk_base.specs.WaitLaws.{WaitKind, HasWaits, IsFirst, KeepsWaits}
use Rattle.zk_base.proofs.WaitOrder.{none_overtakes}
use Rattle.zk_base.proofs.WaitDecisions.{end_tells_its_decision, quit_tells_its_decision, ended_by_its_own_player, may_end_once_decided, may_quit_until_ended, decision_stays, answers_its_one_decision}
use Rattle.zk_base.proofs.WaitsHold.{each_wait_has_its_opening}
use Rattle.zk_base.proofs.WaitsOnce.{each_wait_once, each_ends_once}

pub keeps_waits : {S O R M : Type 0} (m : Machine S O R) (k : WaitKind S O R M) → HasWaits m k →
    (s : S) (h : List (Entry O R)) → IsFirst k s → Replays m s h → KeepsWaits m k s h
keeps_waits m k has s h start replays = record {
  opened = each_wait_has_its_opening m k has s h start replays;
  once = each_wait_once m k has s h start replays;
  ends_once = each_ends_once m k has s h start replays;
  ends = end_tells_its_decision m k has s h replays;
  quits = quit_tells_its_decision m k has s h start replays;
  own = ended_by_its_own_player m k has s h start replays;
  stays = decision_stays m k has s h replays;
  answers = answers_its_one_decision m k has s h start replays;
  may_end = may_end_once_decided m k has s h start replays;
  may_quit = may_quit_until_ended m k has s h start replays;
  in_order = none_overtakes m k has s h start replays;
}
