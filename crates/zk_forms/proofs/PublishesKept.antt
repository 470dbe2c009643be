-- The publishes and notifies of a lawful trace have visited the observers that they were told.
use Rattle.std.proofs.Common.{◌≡◌, List, All, sym, ap, subst}
use Rattle.std.specs.List.{AllZip}
use Rattle.zk_scenario.specs.Content.{Content}
use Rattle.zk_scenario.specs.Valid.{IsValid}
use Rattle.zk_worker.specs.declared.answers.Answered.{Answered}
use Rattle.zk_worker.specs.declared.log.Log.{Log}
use Rattle.zk_worker.specs.declared.steps.Spot.{Spot}
use Rattle.zk_worker.specs.Follows.{Stands}
use Rattle.zk_worker.specs.Shown.{ShowsLog}
use Rattle.zk_player_laws.specs.VisitLaws.{UsesOrIsRefused, AreAnswered}
use Rattle.zk_player_laws.proofs.Visits.{each_publish_visits}
use Rattle.zk_trace.specs.declared.trace.Trace.{Trace}
use Rattle.zk_trace.specs.Lawful.{IsLawful}
use Rattle.zk_trace.proofs.LegalHistories.{histories-legal}
use Rattle.zk_trace.specs.Shown.{trace_shown}
use Rattle.zk_forms.specs.Publishes.{EachVisitsAsTold}
use Rattle.zk_forms.proofs.PollsKept.{shows-log}
use Rattle.zk_forms.proofs.ScriptsKept.{chans-legal}

-- each log of a lawful trace has visited as it was told
pub publishes-kept : (s : Content) (t : Trace) → IsValid s → IsLawful s t → EachVisitsAsTold s t
publishes-kept s t valid lawful number log is =
    let legal = histories-legal s t lawful.place.rises lawful.history in
    let follows = lawful.log.follow number log is in
    let answers : follows.end.answers ≡ log.answers = ap (λ (l : Log). l.answers) follows.logged in
    let steps : follows.end.spots ≡ log.steps = ap (λ (l : Log). l.steps) follows.logged in
    let shows = subst (ShowsLog (trace_shown t) number) (sym steps) (shows-log s t number log lawful.place is) in
    let all = each_publish_visits s number (trace_shown t) follows.end follows.led valid shows legal.clock (chans-legal s t legal) in
    record {
      made = follows.led.made;
      stands = subst (λ (x : List Spot). AllZip (Stands (trace_shown t)) x follows.led.made) steps follows.led.stands;
      publishes = subst (All (UsesOrIsRefused s follows.led.made)) answers all.0;
      owned = all.1;
      answered = subst (λ (x : List Answered). AreAnswered x 0 follows.led.made) answers all.2;
    }
