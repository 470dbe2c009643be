-- The players of a lawful trace attempted what came next.
use Rattle.std.proofs.Common.{◌≡◌, List, ap, subst}
use Rattle.std.specs.List.{AllZip}
use Rattle.zk_scenario.specs.Content.{Content}
use Rattle.zk_worker.specs.declared.log.Log.{Log}
use Rattle.zk_worker.specs.declared.steps.Spot.{Spot}
use Rattle.zk_worker.specs.Follows.{Stands}
use Rattle.zk_player_laws.proofs.CallsAttempted.{each_call_goes_on}
use Rattle.zk_trace.specs.declared.trace.Trace.{Trace}
use Rattle.zk_trace.specs.Lawful.{IsLawful}
use Rattle.zk_trace.proofs.LegalHistories.{histories-legal}
use Rattle.zk_trace.specs.Shown.{trace_shown}
use Rattle.zk_forms.specs.Attempts.{EachAttemptsItsCalls}

-- each log of a lawful trace has gone on so
pub attempts-kept : (s : Content) (t : Trace) → IsLawful s t → EachAttemptsItsCalls s t
attempts-kept s t lawful number log is =
    let legal = histories-legal s t lawful.place.rises lawful.history in
    let follows = lawful.log.follow number log is in
    let steps : follows.end.spots ≡ log.steps = ap (λ (l : Log). l.steps) follows.logged in
    record {
      start = follows.led.start;
      starts = follows.led.starts;
      made = follows.led.made;
      stands = subst (λ (x : List Spot). AllZip (Stands (trace_shown t)) x follows.led.made) steps follows.led.stands;
      end = follows.end;
      led = follows.led.played;
      logged = follows.logged;
      goes_on = each_call_goes_on s number (trace_shown t) follows.end follows.led legal.clock;
    }
