-- What is printed for an input: a view of its run, or why there is none.
use Rattle.std.specs.Prelude.{◌≡◌, ◌⊎◌, ℕ, ◌+◌, ◌<◌, ◌≤◌, Bool, true, false, Option, List, [], ◌++◌, length, Ok, Err, IfSome}
use Rattle.std.specs.Io.KnownBytes.{Appends, Keeps}
use Rattle.zk_base.specs.Causes.{Rose}
use Rattle.zk_base.specs.Fronts.{StaysInFront}
use Rattle.zk_base.specs.declared.errors.Status.{Status}
use Rattle.zk_base.specs.declared.errors.Status.TheVariants as statuses
use Rattle.zk_scenario.specs.Content.{Content}
use Rattle.zk_scenario.specs.Grammar.{scenario_of}
use Rattle.zk_scenario.specs.Players.{players}
use Rattle.zk_scenario.specs.Spelling.{text_of}
use Rattle.zk_scenario.specs.declared.refused.ScenarioRefused.TheVariants.{At}
use Rattle.zk_scenario.specs.declared.refused.Why.{Why}
use Rattle.zk_scenario.specs.declared.refused.Why.TheVariants as reasons
use Rattle.zk_trace.specs.declared.format.Format.{Format}
use Rattle.zk_trace.specs.declared.format.Format.TheVariants.{Two}
use Rattle.zk_trace.specs.declared.format.Formats.TheVariants.{Both}
use Rattle.zk_trace.specs.declared.trace.Trace.{Trace}
use Rattle.zk_trace.specs.Feeds.{lines_in}
use Rattle.zk_trace.specs.Lawful.{IsLawful}
use Rattle.zk_trace.specs.Parting.{AreParts}
use Rattle.zk_trace.specs.Text.{trace_text}
use Rattle.zk_trace.specs.TraceRead.{IsRefusedAt}
use Rattle.zk_replay.specs.Replay.{IsReplay}
use Rattle.zk_show_chart.specs.declared.chart.Chart.{Chart}
use Rattle.zk_show_chart.specs.Charts.{IsChart}
use Rattle.zk_show_text.specs.Chart.{chart_text}
use Rattle.zk_show_svg.specs.Pictures.{IsPicture}
use Rattle.zk_show_json.specs.Values.{json_text}
use Rattle.zk_show_page.specs.Pages.{page_text}
use Rattle.zk_show_why.specs.Refusal.{refusal_head}
use Rattle.zk_show_why.specs.Sentences.{TellsWhy}
use Rattle.zk_forms.specs.declared.form.TheConstants.{LONGEST_TRACE}
use Rattle.zk_forms.specs.CheckAnswer.{IsTraceOf, trace_refused}
use Rattle.zk_forms.specs.Output.{AppendsFront}
use Rattle.zk_forms.specs.Top.{Prints}
use Rattle.zk_show_view.specs.declared.answers.Answer.{Answer}
use Rattle.zk_show_view.specs.declared.view.View.{View}
use Rattle.zk_show_view.specs.declared.view.View.TheVariants as views
use Rattle.zk_show_view.specs.Answers.{answer_text, asks_instead}
use Rattle.zk_show_view.specs.Verdict.{IsVerdict}

-- what is told of an input whose front is refused at a line as a scenario: that it is what `zk` says in place of a trace, or line and
-- reason first
pub data IsToldOfFront (input : List ℕ) (line : ℕ) (reason : Why) (output : List ℕ) : Type 0 where
  an_answer : (answer : Answer) → input ≡ answer_text answer → output ≡ asks_instead answer → IsToldOfFront input line reason output
  refused : StaysInFront (refusal_head line reason) output → IsToldOfFront input line reason output

-- the run of an input, and the format of its trace: the trace behind its scenario, or of a scenario alone that by round robin
pub data IsRunOf (input : List ℕ) (s : Content) (t : Trace) : Format → Type 0 where
  traced : (f : Format) → IsTraceOf Both f input s t → IsRunOf input s t f
  played : length input ≤ LONGEST_TRACE → scenario_of input ≡ Ok s → IsReplay s t → IsRunOf input s t Two

-- the number of the line in which the trace begins, behind the text of its scenario
abbrev pub trace_line : Content → ℕ
trace_line s = length (lines_in (text_of s)) + 1

-- the chart of a trace, with the lines of its text
abbrev pub IsItsChart : Format → Content → Trace → Chart → Type 0
IsItsChart f s t chart = IsChart s t (trace_text f s t) (trace_line s) chart

-- what is told of the end of a run that goes with a status: of a lawful one why it ended so, of any other why it isn't lawful
abbrev pub TellsEnd : Status → Content → Trace → List ℕ → Type 0
TellsEnd statuses.Success s t end = IsLawful s t × TellsWhy s.decls t [] end
TellsEnd statuses.Unlawful s t end = (IsLawful s t → ⊥) × IsVerdict s t end
TellsEnd status s t end = ⊥

-- a view of a chart, by what is told of the run's end: the chart in lines with that below, as a picture, as a value or a page with
-- the scenario's text, or that alone
abbrev pub Draws : View → Content → Trace → Chart → List ℕ → List ℕ → Type 0
Draws views.Text s t chart end output = output ≡ chart_text s.decls chart ++ end
Draws views.Svg s t chart end output = IsPicture (length (players s.decls)) chart output
Draws views.Json s t chart end output = output ≡ json_text s.decls t.logs chart end (text_of s)
Draws views.Page s t chart end output = output ≡ page_text s.decls t.logs chart end (text_of s)
Draws views.Why s t chart end output = output ≡ end

-- a view of the chart of a trace
abbrev pub DrawsItsChart : View → Format → Content → Trace → List ℕ → List ℕ → Type 0
DrawsItsChart view f s t end output = (chart : Chart) × IsItsChart f s t chart × Draws view s t chart end output

-- a view of a trace, by what is told of its end: of its chart, or that alone
abbrev pub IsViewWith : View → Format → Content → Trace → List ℕ → List ℕ → Type 0
IsViewWith views.Why f s t end output = output ≡ end
IsViewWith views.Text f s t end output = DrawsItsChart views.Text f s t end output
IsViewWith views.Svg f s t end output = DrawsItsChart views.Svg f s t end output
IsViewWith views.Json f s t end output = DrawsItsChart views.Json f s t end output
IsViewWith views.Page f s t end output = DrawsItsChart views.Page f s t end output

-- a view of a trace that goes with a status
abbrev pub IsViewOf : View → Status → Format → Content → Trace → List ℕ → Type 0
IsViewOf view status f s t output = (end : List ℕ) × TellsEnd status s t end × IsViewWith view f s t end output

-- a view of the run of an input that goes with a status
pub record IsView (view : View) (status : Status) (input output : List ℕ) : Type 0 where
  pub f : Format
  pub s : Content
  pub t : Trace
  pub run : IsRunOf input s t f
  pub shows : IsViewOf view status f s t output

-- why an input has no run: it is too long, its front is refused as a scenario, or a line behind that can't stand in a trace
pub data IsToldWhy (input output : List ℕ) : Type 0 where
  too_long : LONGEST_TRACE < length input → StaysInFront (refusal_head 0 reasons.Length) output → IsToldWhy input output
  no_scenario : (front trace : List ℕ) (line : ℕ) (reason : Why) → length input ≤ LONGEST_TRACE → AreParts input front trace →
      scenario_of front ≡ Err (At line reason) → IsToldOfFront input line reason output → IsToldWhy input output
  no_trace : (front trace : List ℕ) (s : Content) (line : ℕ) → length input ≤ LONGEST_TRACE → AreParts input front trace →
      0 < length trace →
      scenario_of front ≡ Ok s → IsRefusedAt Both s trace (1 + length (lines_in front)) line → output ≡ trace_refused line →
      IsToldWhy input output

-- an input has no run, and is told why
pub record HasNoRun (input output : List ℕ) : Type 0 where
  pub never : (f : Format) (s : Content) (t : Trace) → IsRunOf input s t f → ⊥
  pub why_so : IsToldWhy input output

-- the whole output that goes with a status, for an input
abbrev pub IsShown : View → Status → List ℕ → List ℕ → Type 0
IsShown view statuses.Success input output = IsView view statuses.Success input output
IsShown view statuses.Unlawful input output = IsView view statuses.Unlawful input output
IsShown view statuses.Refused input output = HasNoRun input output
IsShown view status input output = ⊥

-- the statuses that come with a whole output for an input
abbrev pub IsSaid : Status → Type 0
IsSaid statuses.Success = Unit {0}
IsSaid statuses.Refused = Unit {0}
IsSaid statuses.Unlawful = Unit {0}
IsSaid status = ⊥

-- whether an input was refused
abbrev pub is_refused : Status → Bool
is_refused statuses.Refused = true
is_refused status = false

-- the statuses of what the second sink gets
abbrev pub IsTold : Status → Type 0
IsTold statuses.Refused = Unit {0}
IsTold statuses.WriteFault = Unit {0}
IsTold status = ⊥

-- all statuses that may come
abbrev pub MayCome : Status → Type 0
MayCome statuses.Words = Unit {0}
MayCome statuses.ReadFault = Unit {0}
MayCome statuses.WriteFault = Unit {0}
MayCome statuses.NoMemory = Unit {0}
MayCome status = IsSaid status

-- the sink got a front of an output for an input, where that is told
abbrev pub PrintsFront : View → Option (List ℕ) → Option (List ℕ) → Option (List ℕ) → Type 0
PrintsFront view left old new =
    IfSome left (λ input. (status : Status) × (output : List ℕ) × IsShown view status input output × AppendsFront old new output)

-- how the output for an input went to the sink
pub data Shows (view : View) (input : List ℕ) (old new : Option (List ℕ)) (faults faults' : ℕ) : Status → Type 0 where
  shown : (status : Status) (output : List ℕ) → IsShown view status input output → Appends old new output →
      Shows view input old new faults faults' status
  cut_short : (status : Status) (output : List ℕ) → IsShown view status input output → AppendsFront old new output →
      Rose faults faults' → Shows view input old new faults faults' statuses.WriteFault
  unmade : Keeps old new → Shows view input old new faults faults' statuses.NoMemory

-- how a call went that asked for a view
pub data Went (view : View) (left old new : Option (List ℕ)) (reads reads' writes writes' : ℕ) : Status → Type 0 where
  printed : (status : Status) → IsSaid status → Prints left old new (IsShown view status) →
      Went view left old new reads reads' writes writes' status
  cut : PrintsFront view left old new → Rose writes writes' →
      Went view left old new reads reads' writes writes' statuses.WriteFault
  unread : Rose reads reads' → Keeps old new → Went view left old new reads reads' writes writes' statuses.ReadFault
  no_memory : Keeps old new → Went view left old new reads reads' writes writes' statuses.NoMemory

-- how the output for an input went: what is refused to the second sink, all else to the first; the other one stays
pub data ShowsTo (view : View) (input : List ℕ) (old new told told' : Option (List ℕ)) (writes writes' tells tells' : ℕ)
    (status : Status) : Type 0 where
  shows_out : Shows view input old new writes writes' status → (status ≡ statuses.Refused → ⊥) → told' ≡ told → tells' ≡ tells →
      ShowsTo view input old new told told' writes writes' tells tells' status
  shows_err : Shows view input told told' tells tells' status → IsTold status → new ≡ old → writes' ≡ writes →
      ShowsTo view input old new told told' writes writes' tells tells' status

-- how a call went that asked for a view, of both sinks
pub data WentTo (view : View) (left old new told told' : Option (List ℕ)) (reads reads' writes writes' tells tells' : ℕ)
    (status : Status) : Type 0 where
  went_out : Went view left old new reads reads' writes writes' status → (status ≡ statuses.Refused → ⊥) → told' ≡ told →
      tells' ≡ tells → WentTo view left old new told told' reads reads' writes writes' tells tells' status
  went_err : Went view left told told' reads reads' tells tells' status → IsTold status → new ≡ old → writes' ≡ writes →
      WentTo view left old new told told' reads reads' writes writes' tells tells' status

-- a sink got a front of an output for an input, and the other one stays
abbrev pub PrintsFrontTo : View → Option (List ℕ) → Option (List ℕ) → Option (List ℕ) → Option (List ℕ) → Option (List ℕ) → Type 0
PrintsFrontTo view left old new told told' =
    (PrintsFront view left old new × (told' ≡ told)) ⊎ (PrintsFront view left told told' × (new ≡ old))
