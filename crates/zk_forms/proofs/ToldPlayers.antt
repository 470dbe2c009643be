-- The logs of a lawful trace tell the answers and the states of their players.
use Rattle.std.proofs.Common.{◌≡◌, List, sym, ap, subst}
use Rattle.std.specs.List.{AllZip}
use Rattle.zk_scenario.specs.Content.{Content}
use Rattle.zk_worker.specs.declared.log.Log.{Log}
use Rattle.zk_worker.specs.declared.steps.Spot.{Spot}
use Rattle.zk_worker.specs.Follows.{Stands}
use Rattle.zk_player_laws.specs.StateLaws.{IsStateOf}
use Rattle.zk_player_laws.proofs.AnsweredOnce.{each_is_answered_once}
use Rattle.zk_player_laws.proofs.StatesTold.{each_state_tells}
use Rattle.zk_trace.specs.declared.trace.Trace.{Trace}
use Rattle.zk_trace.specs.Lawful.{IsLawful}
use Rattle.zk_trace.specs.Shown.{trace_shown}
use Rattle.zk_forms.specs.Told.{EachTellsItsPlayer}

-- each log of a lawful trace does
pub players-told : (s : Content) (t : Trace) → IsLawful s t → EachTellsItsPlayer s t
players-told s t lawful number log is =
    let follows = lawful.log.follow number log is in
    let steps : follows.end.spots ≡ log.steps = ap (λ (l : Log). l.steps) follows.logged in
    let once = each_is_answered_once s number (trace_shown t) follows.end follows.led in
    record {
      start = follows.led.start;
      starts = follows.led.starts;
      made = follows.led.made;
      stands = subst (λ (x : List Spot). AllZip (Stands (trace_shown t)) x follows.led.made) steps follows.led.stands;
      end = follows.end;
      led = follows.led.played;
      logged = follows.logged;
      steps = sym steps;
      answers = sym (ap (λ (l : Log). l.answers) follows.logged);
      unanswered = once.0;
      answered = once.1;
      state = subst (IsStateOf s follows.led.made follows.end) (ap (λ (l : Log). l.state) follows.logged) (each_state_tells s number (trace_shown t) follows.end follows.led);
    }
