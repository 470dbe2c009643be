use Rattle.std.specs.Prelude.{◌≡◌, ℕ, ◌+◌, ◌||◌, Bool, false, if◌then◌else◌, Option, Some, None, Result, Ok, Err, List, [], ◌∷◌, drop, codes, option_and_then, option_map, IfSome, ⊤}
use Rattle.std.specs.Str.{bytes_eq}
use Rattle.std.specs.Io.KnownBytes.{Appends, Keeps}
use Rattle.zk_base.specs.Causes.{Rose}
use Rattle.zk_base.specs.declared.errors.Status.{Status}
use Rattle.zk_base.specs.declared.errors.Status.TheVariants.{Success, Words, Refused, Stuck, Spent, ReadFault, WriteFault, NoMemory, Unlawful}
use Rattle.zk_words.specs.Numbers.{number_in}
use Rattle.zk_scenario.specs.Content.{Content}
use Rattle.zk_scenario.specs.declared.limits.TheConstants.{LONGEST_SCENARIO}
use Rattle.zk_scenario.specs.declared.refused.ScenarioRefused.{ScenarioRefused}
use Rattle.zk_scenario.specs.Grammar.{scenario_of}
use Rattle.zk_trace.specs.declared.format.Format.{Format}
use Rattle.zk_trace.specs.declared.format.Formats.{Formats}
use Rattle.zk_trace.specs.declared.format.Formats.TheVariants.{Both, First}
use Rattle.zk_trace.specs.declared.trace.Trace.{Trace}
use Rattle.zk_trace.specs.Lawful.{IsLawful}
use Rattle.zk_replay.specs.Replay.{IsReplay}
use Rattle.zk_cores.specs.declared.run.TheConstants.{MOST_CORES}
use Rattle.zk_feed.specs.declared.size.FeedSize.{FeedSize}
use Rattle.zk_feed.specs.declared.size.TheConstants.{MOST_MESSAGES, MOST_PUBLISHERS, MOST_SUBSCRIBERS}
use Rattle.zk_forms.specs.declared.form.Form.{Form}
use Rattle.zk_side.specs.declared.limits.TheConstants.{LONGEST_SIDE_SCRIPT}
use Rattle.zk_side.specs.Output.{side_output}
use Rattle.zk_trigger_script.specs.Output.{trigger_stage, IsTriggerOutput}
use Rattle.zk_event_script.specs.Output.{event_stage, IsEventOutput}
use Rattle.zk_forms.specs.declared.form.Form.TheVariants.{Replay, Check, Migrate, Trigger, Event, Soak, Run, Feed}
use Rattle.zk_forms.specs.declared.form.TheConstants.{LONGEST_TRACE, MOST_SOAK}
use Rattle.zk_forms.specs.Output.{AppendsFront}
use Rattle.zk_forms.specs.Answer.{IsOutput}
use Rattle.zk_forms.specs.CheckAnswer.{IsTraceOf, IsCheckOutput, IsMigrateOutput}
use Rattle.zk_forms.specs.FeedAnswer.{IsFeedAnswer}
use Rattle.zk_forms.specs.SoakAnswer.{IsSoakOutput}

-- the form on one thread that the words ask for, if they are those of one: the word `replay` alone, or `check`, or `migrate`, or
-- `trigger`, or `event`, or `soak` and a number
abbrev pub form_of : List (List ℕ) → Option Form
form_of (word ∷ []) =
    if bytes_eq word (codes "replay") then Some Replay else
    if bytes_eq word (codes "check") then Some Check else
    if bytes_eq word (codes "migrate") then Some Migrate else
    if bytes_eq word (codes "trigger") then Some Trigger else
    if bytes_eq word (codes "event") then Some Event else None
form_of (word ∷ number ∷ []) =
    if bytes_eq word (codes "soak") then option_map Soak (number_in 0 MOST_SOAK number) else None
form_of words = None

-- how large a feed three words ask for: how many publishers, subscribers and messages
abbrev pub feed_size : List ℕ → List ℕ → List ℕ → Option FeedSize
feed_size publishers subscribers messages =
    option_and_then (λ p. option_and_then (λ s. option_map (λ n. record { publishers = p; subscribers = s; messages = n })
    (number_in 1 MOST_MESSAGES messages)) (number_in 1 MOST_SUBSCRIBERS subscribers)) (number_in 1 MOST_PUBLISHERS publishers)

-- the form on cores that the words ask for, if they are those of one: the word `run` and how many cores, or `feed` and how
-- large it is
abbrev pub cores_form_of : List (List ℕ) → Option Form
cores_form_of (word ∷ number ∷ []) =
    if bytes_eq word (codes "run") then option_map Run (number_in 1 MOST_CORES number) else None
cores_form_of (word ∷ publishers ∷ subscribers ∷ messages ∷ []) =
    if bytes_eq word (codes "feed") then option_map Feed (feed_size publishers subscribers messages) else None
cores_form_of words = None

-- whether the words need cores: where the first is `run` or `feed`
abbrev pub needs_cores : List (List ℕ) → Bool
needs_cores [] = false
needs_cores (word ∷ words) = bytes_eq word (codes "run") || bytes_eq word (codes "feed")

-- whether a form reads the input
abbrev pub Reads : Form → Type 0
Reads Replay = Unit {0}
Reads Check = Unit {0}
Reads Migrate = Unit {0}
Reads Trigger = Unit {0}
Reads Event = Unit {0}
Reads (Run cores) = Unit {0}
Reads (Soak number) = ⊥
Reads (Feed size) = ⊥

-- the input of a form: what the source has left, and nothing where none is read
abbrev pub input_of : Form → Option (List ℕ) → Option (List ℕ)
input_of Replay left = left
input_of Check left = left
input_of Migrate left = left
input_of Trigger left = left
input_of Event left = left
input_of (Run cores) left = left
input_of (Soak number) left = Some []
input_of (Feed size) left = Some []

-- the longest input of a form
abbrev pub limit_of : Form → ℕ
limit_of Replay = LONGEST_SCENARIO
limit_of Check = LONGEST_TRACE
limit_of Migrate = LONGEST_TRACE
limit_of Trigger = LONGEST_SIDE_SCRIPT
limit_of Event = LONGEST_SIDE_SCRIPT
limit_of (Run cores) = LONGEST_SCENARIO
limit_of (Soak number) = 0
limit_of (Feed size) = 0

-- how many bytes are taken of the source for a form, at the most: one above its limit, and none where it reads nothing
abbrev pub most_taken : Option Form → ℕ
most_taken None = 0
most_taken (Some Replay) = LONGEST_SCENARIO + 1
most_taken (Some Check) = LONGEST_TRACE + 1
most_taken (Some Migrate) = LONGEST_TRACE + 1
most_taken (Some Trigger) = LONGEST_SIDE_SCRIPT + 1
most_taken (Some Event) = LONGEST_SIDE_SCRIPT + 1
most_taken (Some (Run cores)) = LONGEST_SCENARIO + 1
most_taken (Some (Soak number)) = 0
most_taken (Some (Feed size)) = 0

-- the whole output of a form that goes with a status, for an input: of `replay` that of the round robin run, of `run` that of a
-- lawful one
abbrev pub IsOutputOf : Form → Status → List ℕ → List ℕ → Type 0
IsOutputOf Replay status input output = IsOutput IsReplay status input output
IsOutputOf Check status input output = IsCheckOutput status input output
IsOutputOf Migrate status input output = IsMigrateOutput status input output
IsOutputOf Trigger status input output = IsTriggerOutput status input output
IsOutputOf Event status input output = IsEventOutput status input output
IsOutputOf (Run cores) status input output = IsOutput IsLawful status input output
IsOutputOf (Soak number) status input output = IsSoakOutput number status output
IsOutputOf (Feed size) status input output = IsFeedAnswer size status output

-- what is printed where the words are no form
abbrev pub words_refused : List ℕ
words_refused = codes "refused words\n"

-- the sink got this output for an input, where that is told
abbrev pub Prints : Option (List ℕ) → Option (List ℕ) → Option (List ℕ) →
    (List ℕ → List ℕ → Type 0) → Type 0
Prints left old new IsTheOutput =
    IfSome left (λ input. (output : List ℕ) × IsTheOutput input output × Appends old new output)

-- the sink got a front of an output of a form for its input, where that is told
abbrev pub PrintsFront : Form → Option (List ℕ) → Option (List ℕ) → Option (List ℕ) → Type 0
PrintsFront form left old new =
    IfSome (input_of form left) (λ input. (status : Status) × (output : List ℕ) × IsOutputOf form status input output
    × AppendsFront old new output)

-- the source has given all its bytes, or so many
abbrev pub HasGiven : ℕ → Option (List ℕ) → Option (List ℕ) → Type 0
HasGiven many None left = ⊤
HasGiven many (Some input) left = left ≡ Some (drop many input)

-- the source has given all its bytes, or one more than the form's input may have; where none is read it has given none
abbrev pub HasReadAll : Form → Option (List ℕ) → Option (List ℕ) → Type 0
HasReadAll Replay old new = HasGiven (limit_of Replay + 1) old new
HasReadAll Check old new = HasGiven (limit_of Check + 1) old new
HasReadAll Migrate old new = HasGiven (limit_of Migrate + 1) old new
HasReadAll Trigger old new = HasGiven (limit_of Trigger + 1) old new
HasReadAll Event old new = HasGiven (limit_of Event + 1) old new
HasReadAll (Run cores) old new = HasGiven (limit_of (Run cores) + 1) old new
HasReadAll (Soak number) old new = new ≡ old
HasReadAll (Feed size) old new = new ≡ old

-- the statuses of calls that printed their whole output for an input
abbrev pub IsAnswer : Status → Type 0
IsAnswer Success = Unit {0}
IsAnswer Refused = Unit {0}
IsAnswer Stuck = Unit {0}
IsAnswer Spent = Unit {0}
IsAnswer Unlawful = Unit {0}
IsAnswer status = ⊥

-- the statuses that say that the input was read
abbrev pub HasInput : Status → Type 0
HasInput WriteFault = Unit {0}
HasInput status = IsAnswer status

-- the statuses of a run that can come for what an input is read as: as the run ended where it is a scenario, else a refusal
abbrev pub MayRun : Result Content ScenarioRefused → Status → Type 0
MayRun (Ok scenario) Success = Unit {0}
MayRun (Ok scenario) Stuck = Unit {0}
MayRun (Ok scenario) Spent = Unit {0}
MayRun (Err refused) Refused = Unit {0}
MayRun said status = ⊥

-- an input is the text of a scenario and of a trace in form, in one of these formats
abbrev pub IsTrace : Formats → List ℕ → Type 0
IsTrace formats input = (f : Format) × (s : Content) × (t : Trace) × IsTraceOf formats f input s t

-- the statuses of a check that can come for an input: whether the trace is lawful where there is one, else a refusal
abbrev pub MayCheck : List ℕ → Status → Type 0
MayCheck input Success = IsTrace Both input
MayCheck input Unlawful = IsTrace Both input
MayCheck input Refused = IsTrace Both input → ⊥
MayCheck input status = ⊥

-- the statuses of `migrate` that can come for an input: success where there is a trace in format 1, else a refusal
abbrev pub MayMigrate : List ℕ → Status → Type 0
MayMigrate input Success = IsTrace First input
MayMigrate input Refused = IsTrace First input → ⊥
MayMigrate input status = ⊥

-- the status of `trigger` for an input: success where it is a side script, else a refusal
abbrev pub MayTrigger : List ℕ → Status → Type 0
MayTrigger input status = (side_output trigger_stage input).1 ≡ status

-- and likewise that of `event`
abbrev pub MayEvent : List ℕ → Status → Type 0
MayEvent input status = (side_output event_stage input).1 ≡ status

-- the statuses of a soak that can come: as the run ended
abbrev pub MaySoak : Status → Type 0
MaySoak Success = Unit {0}
MaySoak Stuck = Unit {0}
MaySoak Spent = Unit {0}
MaySoak status = ⊥

-- the status of a feed
abbrev pub MayFeed : Status → Type 0
MayFeed Success = Unit {0}
MayFeed status = ⊥

-- the statuses that can come for the input of a form: those of its answers, the faults and want of memory
abbrev pub MayEnd : Form → List ℕ → Status → Type 0
MayEnd form input ReadFault = Reads form
MayEnd form input WriteFault = Unit {0}
MayEnd form input NoMemory = Unit {0}
MayEnd Replay input status = MayRun (scenario_of input) status
MayEnd Check input status = MayCheck input status
MayEnd Migrate input status = MayMigrate input status
MayEnd Trigger input status = MayTrigger input status
MayEnd Event input status = MayEvent input status
MayEnd (Run cores) input status = MayRun (scenario_of input) status
MayEnd (Soak number) input status = MaySoak status
MayEnd (Feed size) input status = MayFeed status

-- how the output for an input went to the sink
pub data Answered (form : Form) (input : List ℕ) (old new : Option (List ℕ)) (faults faults' : ℕ)
    : Status → Type 0 where
  answered : (status : Status) (output : List ℕ) → IsOutputOf form status input output →
      Appends old new output → Answered form input old new faults faults' status
  cut_short : (status : Status) (output : List ℕ) → IsOutputOf form status input output →
      AppendsFront old new output → Rose faults faults' →
      Answered form input old new faults faults' WriteFault
  unmade : Keeps old new → Answered form input old new faults faults' NoMemory

-- how a call went that asked for a form, or for none
pub data CallOutcome (wanted : Option Form) (left left' old new : Option (List ℕ))
    (reads reads' writes writes' : ℕ) : Status → Type 0 where
  no_form : wanted ≡ None → Appends old new words_refused →
      CallOutcome wanted left left' old new reads reads' writes writes' Words
  no_form_cut : wanted ≡ None → AppendsFront old new words_refused →
      Rose writes writes' → CallOutcome wanted left left' old new reads reads' writes writes' WriteFault
  unread : (form : Form) → Reads form → wanted ≡ Some form → Rose reads reads' → Keeps old new →
      CallOutcome wanted left left' old new reads reads' writes writes' ReadFault
  no_memory : (form : Form) → wanted ≡ Some form → Keeps old new →
      CallOutcome wanted left left' old new reads reads' writes writes' NoMemory
  printed : (form : Form) (status : Status) → wanted ≡ Some form → IsAnswer status → HasReadAll form left left' →
      Prints (input_of form left) old new (IsOutputOf form status) →
      CallOutcome wanted left left' old new reads reads' writes writes' status
  cut : (form : Form) → wanted ≡ Some form → HasReadAll form left left' → PrintsFront form left old new →
      Rose writes writes' → CallOutcome wanted left left' old new reads reads' writes writes' WriteFault
