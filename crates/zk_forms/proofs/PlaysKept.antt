-- The players of a lawful trace played their scripts.
use Rattle.std.proofs.Common.{◌≡◌, List, sym, ap, subst}
use Rattle.std.specs.List.{AllZip}
use Rattle.zk_scenario.specs.Content.{Content}
use Rattle.zk_scenario.specs.Valid.{IsValid}
use Rattle.zk_worker.specs.declared.log.Log.{Log}
use Rattle.zk_worker.specs.declared.steps.Spot.{Spot}
use Rattle.zk_worker.specs.Follows.{Stands}
use Rattle.zk_worker.specs.Shown.{ShowsLog}
use Rattle.zk_player_laws.proofs.ScriptsPlayed.{each_script_is_played}
use Rattle.zk_trace.specs.declared.trace.Trace.{Trace}
use Rattle.zk_trace.specs.Lawful.{IsLawful}
use Rattle.zk_trace.proofs.LegalHistories.{histories-legal}
use Rattle.zk_trace.specs.Shown.{trace_shown}
use Rattle.zk_forms.specs.Plays.{EachPlaysItsScripts}
use Rattle.zk_forms.proofs.PollsKept.{shows-log}
use Rattle.zk_forms.proofs.ScriptsKept.{chans-legal}

-- each log of a lawful trace has played its scripts
pub plays-kept : (s : Content) (t : Trace) → IsValid s → IsLawful s t → EachPlaysItsScripts s t
plays-kept s t valid lawful number log is =
    let legal = histories-legal s t lawful.place.rises lawful.history in
    let follows = lawful.log.follow number log is in
    let steps : follows.end.spots ≡ log.steps = ap (λ (l : Log). l.steps) follows.logged in
    let shows = subst (ShowsLog (trace_shown t) number) (sym steps) (shows-log s t number log lawful.place is) in
    let all = each_script_is_played s number (trace_shown t) follows.end follows.led valid shows legal.clock (chans-legal s t legal) in
    record {
      start = follows.led.start;
      starts = follows.led.starts;
      made = follows.led.made;
      stands = subst (λ (x : List Spot). AllZip (Stands (trace_shown t)) x follows.led.made) steps follows.led.stands;
      end = follows.end;
      led = follows.led.played;
      logged = follows.logged;
      first = all.0;
      plays = all.1;
    }
