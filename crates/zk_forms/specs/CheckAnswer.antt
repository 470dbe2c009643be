use Rattle.std.specs.Prelude.{◌≡◌, ℕ, ◌+◌, ◌<◌, ◌≤◌, Ok, List, ◌++◌, length, codes, decimal}
use Rattle.zk_base.specs.declared.errors.Status.{Status}
use Rattle.zk_base.specs.declared.errors.Status.TheVariants as statuses
use Rattle.zk_scenario.specs.Content.{Content}
use Rattle.zk_scenario.specs.declared.refused.Why.TheVariants as why
use Rattle.zk_scenario.specs.Grammar.{scenario_of}
use Rattle.zk_scenario.specs.Spelling.{text_of}
use Rattle.zk_trace.specs.declared.format.Format.{Format}
use Rattle.zk_trace.specs.declared.format.Format.TheVariants.{One, Two}
use Rattle.zk_trace.specs.declared.format.Formats.{Formats}
use Rattle.zk_trace.specs.declared.format.Formats.TheVariants.{Both, First}
use Rattle.zk_trace.specs.declared.trace.Trace.{Trace}
use Rattle.zk_trace.specs.Feeds.{lines_in}
use Rattle.zk_trace.specs.Form.{IsInForm}
use Rattle.zk_trace.specs.Lawful.{IsLawful}
use Rattle.zk_trace.specs.Parting.{AreParts}
use Rattle.zk_trace.specs.Text.{trace_text}
use Rattle.zk_trace.specs.TraceRead.{IsReadIn, IsRefusedAt}
use Rattle.zk_check.specs.declared.verdict.Checked.{Checked}
use Rattle.zk_check.specs.declared.verdict.Checked.TheVariants.{Lawful, Not}
use Rattle.zk_failures.specs.declared.site.Fail.{Fail}
use Rattle.zk_failures.specs.declared.site.Fail.TheVariants as fails
use Rattle.zk_failures.specs.declared.site.Site.{Site}
use Rattle.zk_failures.specs.Failure.{IsFailure}
use Rattle.zk_failures.specs.Lines.{line_at}
use Rattle.zk_forms.specs.declared.form.TheConstants.{LONGEST_TRACE}
use Rattle.zk_forms.specs.Answer.{IsRefusal}
use Rattle.zk_forms.specs.Refusal.{refusal_text}

-- an input in the grammar: the text of a scenario, and of a trace in form for it, in a format that is read, not above the limit
pub record IsTraceOf (formats : Formats) (f : Format) (input : List ℕ) (s : Content) (t : Trace) : Type 0 where
  pub scenario : scenario_of (text_of s) ≡ Ok s
  pub read : IsReadIn formats s f
  pub form : IsInForm s t
  pub text : input ≡ text_of s ++ trace_text f s t
  pub short : length input ≤ LONGEST_TRACE

-- an input is the text of one scenario and of one trace in form at the most, in one format
abbrev pub HasOneMeaning : List ℕ → Type 0
HasOneMeaning input =
    (f g : Format) (s other : Content) (t another : Trace) → IsTraceOf Both f input s t → IsTraceOf Both g input other another →
    (f ≡ g) × (s ≡ other) × (t ≡ another)

-- what is printed where the trace is lawful
abbrev pub lawful_text : List ℕ
lawful_text = codes "lawful\n"

-- the word of a reason
abbrev pub fail_word : Fail → List ℕ
fail_word fails.Place = codes "place"
fail_word fails.History = codes "history"
fail_word fails.Log = codes "log"
fail_word fails.Look = codes "look"
fail_word fails.Ending = codes "ending"

-- what is printed where it isn't: at which line, and why
abbrev pub unlawful_text : ℕ → Fail → List ℕ
unlawful_text line fail = codes "unlawful " ++ decimal line ++ codes " " ++ fail_word fail ++ codes "\n"

-- what is printed where a line of the trace part can't stand
abbrev pub trace_refused : ℕ → List ℕ
trace_refused line = codes "refused " ++ decimal line ++ codes " trace\n"

-- the trace is lawful, and the output says so
pub record IsFoundLawful (input output : List ℕ) : Type 0 where
  pub f : Format
  pub s : Content
  pub t : Trace
  pub given : IsTraceOf Both f input s t
  pub lawful : IsLawful s t
  pub printed : output ≡ lawful_text

-- the trace isn't lawful, and the output names the first reason and the line where it fails
pub record IsFoundUnlawful (input output : List ℕ) : Type 0 where
  pub f : Format
  pub s : Content
  pub t : Trace
  pub given : IsTraceOf Both f input s t
  pub unlawful : IsLawful s t → ⊥
  pub fail : Fail
  pub site : Site
  pub failure : IsFailure s t fail site
  pub printed : output ≡ unlawful_text (line_at s t site) fail

-- why an input isn't in the grammar: it is above the limit, its front isn't the text of a scenario, or a line behind that can't
-- stand in the text of a trace
pub data IsRefusedSo (formats : Formats) (input output : List ℕ) : Type 0 where
  too_long : LONGEST_TRACE < length input → output ≡ refusal_text 0 why.Length → IsRefusedSo formats input output
  no_scenario : (front trace : List ℕ) → length input ≤ LONGEST_TRACE → AreParts input front trace →
      IsRefusal (scenario_of front) output → IsRefusedSo formats input output
  no_trace : (front trace : List ℕ) (s : Content) (line : ℕ) → length input ≤ LONGEST_TRACE → AreParts input front trace →
      scenario_of front ≡ Ok s → IsRefusedAt formats s trace (1 + length (lines_in front)) line → output ≡ trace_refused line →
      IsRefusedSo formats input output

-- the input isn't in the grammar, and the output says where and why
pub record IsTraceRefusal (formats : Formats) (input output : List ℕ) : Type 0 where
  pub never : (f : Format) (s : Content) (t : Trace) → IsTraceOf formats f input s t → ⊥
  pub why_so : IsRefusedSo formats input output

-- the whole output of `check` that goes with a status, for an input
abbrev pub IsCheckOutput : Status → List ℕ → List ℕ → Type 0
IsCheckOutput statuses.Success input output = IsFoundLawful input output
IsCheckOutput statuses.Unlawful input output = IsFoundUnlawful input output
IsCheckOutput statuses.Refused input output = IsTraceRefusal Both input output
IsCheckOutput status input output = ⊥

-- a trace in format 1 is written in format 2: the same trace of the same scenario, so the one is lawful exactly where the other is
pub record IsMigrated (input output : List ℕ) : Type 0 where
  pub s : Content
  pub t : Trace
  pub given : IsTraceOf First One input s t
  pub printed : output ≡ text_of s ++ trace_text Two s t

-- the whole output of `migrate` that goes with a status, for an input
abbrev pub IsMigrateOutput : Status → List ℕ → List ℕ → Type 0
IsMigrateOutput statuses.Success input output = IsMigrated input output
IsMigrateOutput statuses.Refused input output = IsTraceRefusal First input output
IsMigrateOutput status input output = ⊥

-- what is said of a check
abbrev pub Says : Checked → Status → List ℕ → Type 0
Says Lawful status output = (status ≡ statuses.Success) × (output ≡ lawful_text)
Says (Not line fail) status output = (status ≡ statuses.Unlawful) × (output ≡ unlawful_text line fail)
