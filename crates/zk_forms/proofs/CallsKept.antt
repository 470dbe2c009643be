-- The calls of a lawful trace made the steps of their forms.
use Rattle.std.proofs.Common.{◌≡◌, ◌⊎◌, false, List, All, ap, subst}
use Rattle.std.specs.List.{AllZip}
use Rattle.zk_scenario.specs.Content.{Content}
use Rattle.zk_worker.specs.declared.answers.Answered.{Answered}
use Rattle.zk_worker.specs.declared.log.Log.{Log}
use Rattle.zk_worker.specs.declared.steps.Spot.{Spot}
use Rattle.zk_player_laws.specs.CallLaws.{IsCallOf, IsUseOf}
use Rattle.zk_worker.specs.Checks.{is_oops}
use Rattle.zk_worker.specs.Follows.{Stands}
use Rattle.zk_player_laws.proofs.CallLogs.{each_call_is_made}
use Rattle.zk_trace.specs.declared.trace.Trace.{Trace}
use Rattle.zk_trace.specs.Lawful.{IsLawful}
use Rattle.zk_trace.proofs.LegalHistories.{histories-legal}
use Rattle.zk_trace.specs.Shown.{trace_shown}
use Rattle.zk_forms.specs.CallsMade.{EachMakesItsCalls}

-- each log of a lawful trace has made its calls
pub calls-kept : (s : Content) (t : Trace) → IsLawful s t → EachMakesItsCalls s t
calls-kept s t lawful number log is =
    let legal = histories-legal s t lawful.place.rises lawful.history in
    let follows = lawful.log.follow number log is in
    let answers : follows.end.answers ≡ log.answers = ap (λ (l : Log). l.answers) follows.logged in
    let steps : follows.end.spots ≡ log.steps = ap (λ (l : Log). l.steps) follows.logged in
    let all = each_call_is_made s number (trace_shown t) follows.end follows.led legal.clock in
    record {
      start = follows.led.start;
      starts = follows.led.starts;
      made = follows.led.made;
      stands = subst (λ (x : List Spot). AllZip (Stands (trace_shown t)) x follows.led.made) steps follows.led.stands;
      end = follows.end;
      led = follows.led.played;
      logged = follows.logged;
      steps = all.0;
      answered = subst (All (λ (a : Answered). is_oops a.answer ≡ false → IsCallOf s number follows.led.made a ⊎ IsUseOf follows.led.made a)) answers all.1;
    }
