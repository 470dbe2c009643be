-- What is shown of an input, from what was read of its parts.
use Rattle.std.proofs.Common.{◌≡◌, ℕ, ◌+◌, ◌<◌, ◌≤◌, Ok, Err, List, [], ◌++◌, length, refl, sym, ap, subst, ◌∙◌, inl, arith}
use Rattle.std.proofs.lemmas.List.{append-nil}
use Rattle.zk_base.specs.Fronts.{StaysInFront}
use Rattle.zk_base.specs.declared.errors.Status.{Status}
use Rattle.zk_base.specs.declared.errors.Status.TheVariants.{Success, Words, Refused, Stuck, Spent, ReadFault, WriteFault, NoMemory, Unlawful}
use Rattle.zk_scenario.specs.Content.{Content}
use Rattle.zk_scenario.specs.Grammar.{scenario_of}
use Rattle.zk_scenario.specs.Spelling.{text_of}
use Rattle.zk_scenario.specs.declared.refused.ScenarioRefused.TheVariants.{At}
use Rattle.zk_scenario.specs.declared.refused.Why.{Why}
use Rattle.zk_scenario.specs.declared.refused.Why.TheVariants as reasons
use Rattle.zk_scenario.proofs.ReadText.{text_of-read}
use Rattle.zk_trace.specs.declared.format.Format.{Format}
use Rattle.zk_trace.specs.declared.format.Format.TheVariants.{Two}
use Rattle.zk_trace.specs.declared.format.Formats.TheVariants.{Both}
use Rattle.zk_trace.specs.declared.trace.Trace.{Trace}
use Rattle.zk_trace.specs.Form.{IsInForm}
use Rattle.zk_trace.specs.Parting.{AreParts}
use Rattle.zk_trace.specs.Feeds.{lines_in}
use Rattle.zk_trace.specs.Text.{trace_text}
use Rattle.zk_trace.specs.TraceRead.{IsReadIn, IsWritten, IsRefusedAt}
use Rattle.zk_trace.proofs.TraceParts.{one-parting, run-parts}
use Rattle.zk_show_chart.specs.declared.chart.Chart.{Chart}
use Rattle.zk_show_why.specs.Refusal.{refusal_head}
use Rattle.zk_forms.specs.declared.form.TheConstants.{LONGEST_TRACE}
use Rattle.zk_forms.specs.CheckAnswer.{trace_refused}
use Rattle.zk_forms.proofs.CheckAnswers.{trace-of, trace-refused}
use Rattle.zk_show_view.specs.declared.view.View.{View}
use Rattle.zk_show_view.specs.declared.view.View.TheVariants as views
use Rattle.zk_show_view.specs.Shown.{IsRunOf, traced, played, IsViewOf, IsView, too_long, no_scenario, no_trace, HasNoRun, IsToldOfFront, IsShown, TellsEnd, IsItsChart, Draws, IsViewWith}
use Rattle.zk_show_view.proofs.Outcomes.{never-long}

-- a view of a trace that was read of the two parts
pub traced-view : (view : View) (status : Status) (f : Format) (s : Content) (t : Trace) (front trace output : List ℕ) → scenario_of front ≡ Ok s → front ≡ text_of s → IsWritten Both s f t →
    trace ≡ trace_text f s t → length (front ++ trace) ≤ LONGEST_TRACE → IsViewOf view status f s t output → IsView view status (front ++ trace) output
traced-view view status f s t front trace output read spelled written same short shows = record {
  f = f;
  s = s;
  t = t;
  run = traced f (trace-of Both f s t front trace read spelled written same short);
  shows = shows;
}

-- a view of a trace, from one of its chart
pub view-drawn : (view : View) (f : Format) (s : Content) (t : Trace) (chart : Chart) (end output : List ℕ) → IsItsChart f s t chart →
    Draws view s t chart end output → IsViewWith view f s t end output
view-drawn views.Text f s t chart end output is draws = (chart, is, draws)
view-drawn views.Svg f s t chart end output is draws = (chart, is, draws)
view-drawn views.Json f s t chart end output is draws = (chart, is, draws)
view-drawn views.Page f s t chart end output is draws = (chart, is, draws)
view-drawn views.Why f s t chart end output is draws = draws

-- what is told of an end goes with one of the two statuses of a view
pub shown-view : (view : View) (status : Status) (s : Content) (t : Trace) (end input output : List ℕ) → TellsEnd status s t end →
    IsView view status input output → IsShown view status input output
shown-view view Success s t end input output tells is = is
shown-view view Unlawful s t end input output tells is = is
shown-view view Words s t end input output tells is = absurd tells
shown-view view Refused s t end input output tells is = absurd tells
shown-view view Stuck s t end input output tells is = absurd tells
shown-view view Spent s t end input output tells is = absurd tells
shown-view view ReadFault s t end input output tells is = absurd tells
shown-view view WriteFault s t end input output tells is = absurd tells
shown-view view NoMemory s t end input output tells is = absurd tells

-- of a scenario alone nothing is a trace
played-parts : (input : List ℕ) (s : Content) (t : Trace) → scenario_of input ≡ Ok s →
    AreParts input (text_of s) [] × (scenario_of (text_of s) ≡ Ok s)
played-parts input s t read =
    let is : input ≡ text_of s = text_of-read input s read in
    let good : scenario_of (text_of s) ≡ Ok s = ap scenario_of (sym is) ∙ read in
    (record { whole = is ∙ sym (append-nil (text_of s)); before = (run-parts Two s t good).before; begins = inl refl }, good)

-- the parts of an input that has a run: the scenario's text, and a trace or nothing behind it
parts-of : (input : List ℕ) (f : Format) (s : Content) (t : Trace) → IsRunOf input s t f →
    (trace : List ℕ) × AreParts input (text_of s) trace × (scenario_of (text_of s) ≡ Ok s)
parts-of input f s t (traced g given) = (
  trace_text g s t,
  subst (λ (x : List ℕ). AreParts x (text_of s) (trace_text g s t)) (sym given.text) (run-parts g s t given.scenario),
  given.scenario,
)
parts-of input f s t (played short read run) = let it = played-parts input s t read in ([], it.0, it.1)

-- what is told of an input above the limit
pub told-long : (input told : List ℕ) → LONGEST_TRACE < length input → StaysInFront (refusal_head 0 reasons.Length) told →
    HasNoRun input told
told-long input told long says = record {
  never = λ f s t run. never-long input f s t long run;
  why_so = too_long long says;
}

-- what is told of a front that is refused
pub told-refused : (input front trace told : List ℕ) (line : ℕ) (why : Why) → length input ≤ LONGEST_TRACE → AreParts input front trace → scenario_of front ≡ Err (At line why) →
    IsToldOfFront input line why told → HasNoRun input told
told-refused input front trace told line why short parts read says = record {
  never = λ f s t run.
      let it = parts-of input f s t run in
      let same = one-parting input front trace (text_of s) it.0 parts it.1 in
      let both = sym read ∙ ap scenario_of same.0 ∙ it.2 in
      absurd (cc);
  why_so = no_scenario front trace line why short parts read says;
}

-- what is told of a trace part that is refused
pub told-trace : (front trace told : List ℕ) (s : Content) (line : ℕ) → scenario_of front ≡ Ok s → AreParts (front ++ trace) front trace →
    length (front ++ trace) ≤ LONGEST_TRACE → 0 < length trace →
    ((f : Format) (t : Trace) → IsReadIn Both s f → IsInForm s t → trace ≡ trace_text f s t → ⊥) → IsRefusedAt Both s trace (1 + length (lines_in front)) line →
    told ≡ trace_refused line → HasNoRun (front ++ trace) told
told-trace front trace told s line read parts short behind none refused says = record {
  never = never;
  why_so = no_trace front trace s line short parts behind read refused says;
} where
  never : (f : Format) (other : Content) (t : Trace) → IsRunOf (front ++ trace) other t f → ⊥
  never f other t (traced g given) = (trace-refused Both front trace told s line read parts short none refused says).never g other t given
  never f other t (played within whole run) =
      let it = played-parts (front ++ trace) other t whole in
      let same = one-parting (front ++ trace) front trace (text_of other) [] parts it.0 in
      omega (arith, behind, ap length same.1)
