-- The players of a lawful trace entered each script that they were to enter.
use Rattle.std.proofs.Common.{◌≡◌, ◌⊎◌, inl, inr, Option, Some, None, List, [], sym, ap, subst}
use Rattle.std.specs.List.{AllZip, slice_get}
use Rattle.std.specs.Option.{option_and_then}
use Rattle.zk_base.specs.Legal.{IsLegal}
use Rattle.zk_model_bus.specs.Channel.{Channel, chan_machine}
use Rattle.zk_scenario.specs.Content.{Content}
use Rattle.zk_scenario.specs.Valid.{IsValid}
use Rattle.zk_worker.specs.declared.log.Log.{Log}
use Rattle.zk_worker.specs.declared.steps.Spot.{Spot}
use Rattle.zk_worker.specs.Families.{start_of}
use Rattle.zk_worker.specs.Follows.{Stands}
use Rattle.zk_worker.specs.Machines.{machines_of}
use Rattle.zk_worker.specs.Shown.{ShowsLog}
use Rattle.zk_player_laws.specs.StackLogs.{ShowsLegalChans}
use Rattle.zk_player_laws.proofs.LogsPlayed.{each_log_enters_its_scripts}
use Rattle.zk_trace.specs.declared.trace.Trace.{Trace}
use Rattle.zk_trace.proofs.LegalHistories.{IsLegalAt, LegalHistories, histories-legal}
use Rattle.zk_trace.specs.Lawful.{IsLawful}
use Rattle.zk_trace.specs.Shown.{trace_shown}
use Rattle.zk_forms.specs.Scripts.{EachEntersItsScripts}
use Rattle.zk_forms.proofs.PollsKept.{shows-log, object-legal}

-- a trace with legal histories of channels shows them
pub chans-legal : (s : Content) (t : Trace) → LegalHistories s t → ShowsLegalChans s (trace_shown t)
chans-legal s t legal object h there =
    let at = object-legal chan_machine (machines_of s).chans.starts t.chans object h legal.chans there in
    by_start at.0 at.1 at.2
  where
    by_start : (start : Option Channel) → slice_get (machines_of s).chans.starts object ≡ Some start → IsLegalAt chan_machine start h →
        (h ≡ []) ⊎ ((start : Channel) × (start_of (machines_of s).chans object ≡ Some start) × IsLegal chan_machine start h)
    by_start None is none = inl none
    by_start (Some start) is legal = inr (start, ap (option_and_then (λ (o : Option Channel). o)) is, legal)

-- each log of a lawful trace has entered its scripts
pub scripts-kept : (s : Content) (t : Trace) → IsValid s → IsLawful s t → EachEntersItsScripts s t
scripts-kept s t valid lawful number log is =
    let legal = histories-legal s t lawful.place.rises lawful.history in
    let follows = lawful.log.follow number log is in
    let steps : follows.end.spots ≡ log.steps = ap (λ (l : Log). l.steps) follows.logged in
    let shows = subst (ShowsLog (trace_shown t) number) (sym steps) (shows-log s t number log lawful.place is) in
    record {
      start = follows.led.start;
      made = follows.led.made;
      starts = follows.led.starts;
      stands = subst (λ (x : List Spot). AllZip (Stands (trace_shown t)) x follows.led.made) steps follows.led.stands;
      room = each_log_enters_its_scripts s number (trace_shown t) follows.end follows.led valid shows legal.clock (chans-legal s t legal);
    }
