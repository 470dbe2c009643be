use Rattle.std.specs.Prelude.{◌≡◌, ℕ, Result, Ok, Err, List, ◌++◌}
use Rattle.zk_base.specs.declared.errors.Status.{Status}
use Rattle.zk_base.specs.declared.errors.Status.TheVariants as statuses
use Rattle.zk_model_bus.specs.ChannelLaws.{KeepsChannelLaws}
use Rattle.zk_model_bus.specs.ObserverLaws.{KeepsObserverLaws}
use Rattle.zk_model_bus.specs.TableLaws.{KeepsTableLaws}
use Rattle.zk_model_wait.specs.ClockLaws.{KeepsClockLaws}
use Rattle.zk_model_wait.specs.MsgqLaws.{KeepsMsgqLaws}
use Rattle.zk_model_wait.specs.SemLaws.{KeepsSemLaws}
use Rattle.zk_model_wait.specs.SignalLaws.{KeepsSignalLaws}
use Rattle.zk_model_work.specs.Laws.{KeepsLaws}
use Rattle.zk_scenario.specs.Content.{Content}
use Rattle.zk_scenario.specs.declared.refused.ScenarioRefused.{ScenarioRefused}
use Rattle.zk_scenario.specs.declared.refused.ScenarioRefused.TheVariants as refusals
use Rattle.zk_scenario.specs.Grammar.{scenario_of}
use Rattle.zk_scenario.specs.Spelling.{text_of}
use Rattle.zk_worker.specs.Machines.{work_start_of, machines_of}
use Rattle.zk_worker.specs.TableSetup.{setup_of}
use Rattle.zk_trace.specs.declared.format.Format.TheVariants.{Two}
use Rattle.zk_trace.specs.declared.trace.Trace.{Trace}
use Rattle.zk_trace.specs.declared.trace.Ending.{Ending}
use Rattle.zk_trace.specs.declared.trace.Ending.TheVariants as endings
use Rattle.zk_trace.specs.Text.{trace_text}
use Rattle.zk_trace.specs.Form.{IsInForm}
use Rattle.zk_trace.specs.Lawful.{IsLawful}
use Rattle.zk_world.specs.Over.{IsOver}
use Rattle.zk_forms.specs.Attempts.{EachAttemptsItsCalls}
use Rattle.zk_forms.specs.CallsMade.{EachMakesItsCalls}
use Rattle.zk_forms.specs.Moments.{AtEachMoment, AtEachObject}
use Rattle.zk_forms.specs.Plays.{EachPlaysItsScripts}
use Rattle.zk_forms.specs.Polls.{EachKeepsPolls}
use Rattle.zk_forms.specs.Publishes.{EachVisitsAsTold}
use Rattle.zk_forms.specs.UserChecks.{EachChecksFirst}
use Rattle.zk_forms.specs.Refusal.{refusal_text}
use Rattle.zk_forms.specs.Scripts.{EachEntersItsScripts}
use Rattle.zk_forms.specs.Told.{EachTellsItsPlayer}

-- the input is the text of a scenario, and the output is that text and a trace of it, in form, in format 2. The trace is lawful for the scenario, its
-- histories keep the laws at each moment, its polls keep theirs, each script is entered that was to be, each publish and notify
-- has visited its observers or was refused, each user's call was checked before all else, each other call made the steps of its
-- form, each player has played its script call by call, with what that opened, and attempted what came next at each moment, each
-- log tells what its player answered and how it stands, and where the run has ended each admission has ended or was dropped
pub record IsPrinted (s : Content) (t : Trace) (input output : List ℕ) : Type 0 where
  pub read : scenario_of input ≡ Ok s
  pub spelled : input ≡ text_of s
  pub form : IsInForm s t
  pub lawful : IsLawful s t
  pub laws : AtEachMoment (KeepsLaws (work_start_of s)) t.work
  pub clock_laws : AtEachMoment KeepsClockLaws t.clock
  pub table_laws : AtEachMoment (KeepsTableLaws (setup_of s)) t.table
  pub sem_laws : AtEachObject KeepsSemLaws (machines_of s).sems t.sems
  pub msgq_laws : AtEachObject KeepsMsgqLaws (machines_of s).msgqs t.msgqs
  pub signal_laws : AtEachObject (λ start. KeepsSignalLaws) (machines_of s).signals t.signals
  pub channel_laws : AtEachObject KeepsChannelLaws (machines_of s).chans t.chans
  pub observer_laws : AtEachObject KeepsObserverLaws (machines_of s).observers t.observers
  pub polls : EachKeepsPolls s t
  pub scripts : EachEntersItsScripts s t
  pub publishes : EachVisitsAsTold s t
  pub checks : EachChecksFirst s t
  pub calls : EachMakesItsCalls s t
  pub plays : EachPlaysItsScripts s t
  pub attempts : EachAttemptsItsCalls s t
  pub told : EachTellsItsPlayer s t
  pub over : IsOver s t
  pub printed : output ≡ text_of s ++ trace_text Two s t

-- the output is that of a run of this kind, which ended so
pub record IsRun (Made : Content → Trace → Type 0) (ending : Ending) (input output : List ℕ) : Type 0 where
  pub scenario : Content
  pub trace : Trace
  pub made : Made scenario trace
  pub prints : IsPrinted scenario trace input output
  pub ends : trace.ending ≡ ending

-- the output names the first failing line and its first reason
abbrev pub IsRefusal : Result Content ScenarioRefused → List ℕ → Type 0
IsRefusal (Err (refusals.At line why)) output = output ≡ refusal_text line why
IsRefusal (Err refusals.NoMemory) output = ⊥
IsRefusal (Ok scenario) output = ⊥

-- the status of a run with this ending
abbrev pub status_of : Ending → Status
status_of endings.Ended = statuses.Success
status_of endings.Stuck = statuses.Stuck
status_of endings.Spent = statuses.Spent

-- the whole output of a run of this kind that goes with a status, for an input
abbrev pub IsOutput : (Content → Trace → Type 0) → Status → List ℕ → List ℕ → Type 0
IsOutput Made statuses.Success input output = IsRun Made endings.Ended input output
IsOutput Made statuses.Stuck input output = IsRun Made endings.Stuck input output
IsOutput Made statuses.Spent input output = IsRun Made endings.Spent input output
IsOutput Made statuses.Refused input output = IsRefusal (scenario_of input) output
IsOutput Made status input output = ⊥
