use Rattle.std.specs.Prelude.{◌≡◌, ℕ, ◌+◌, ◌-◌, ◌^◌, ◌<◌, ◌≤◌, min, true, List, Result, Ok, Err, length}
use Rattle.zk_blocks.specs.Cut.{FailsAt}
use Rattle.zk_scenario.specs.Content.{Content}
use Rattle.zk_scenario.specs.Players.{players}
use Rattle.zk_words.specs.Bytes.{line_feed}
use Rattle.zk_trace.specs.declared.format.Format.{Format}
use Rattle.zk_trace.specs.declared.format.Formats.{Formats}
use Rattle.zk_trace.specs.declared.read.TraceRefused.{TraceRefused}
use Rattle.zk_trace.specs.declared.read.TraceRefused.TheVariants.{At, NoMemory}
use Rattle.zk_trace.specs.declared.trace.Trace.{Trace}
use Rattle.zk_trace.specs.Feeds.{lines_in}
use Rattle.zk_trace.specs.Form.{IsInForm}
use Rattle.zk_trace.specs.Formats.{reads, CanTellAll}
use Rattle.zk_trace.specs.Text.{trace_text}

-- a scenario's traces are read in this format
abbrev pub IsReadIn : Formats → Content → Format → Type 0
IsReadIn formats s f = reads formats (length (players s.decls)) f ≡ true

-- a trace is in form, and in a format that is read and that can tell each number of lines
pub record IsWritten (formats : Formats) (s : Content) (f : Format) (t : Trace) : Type 0 where
  pub read : IsReadIn formats s f
  pub form : IsInForm s t
  pub told : CanTellAll f t

-- it is the text of such a trace
abbrev pub IsTraceText : Formats → Content → List ℕ → Type 0
IsTraceText formats s text = (f : Format) × (t : Trace) × IsWritten formats s f t × (text ≡ trace_text f s t)

-- it is the text of this trace, in a format that is read
abbrev pub HasText : Formats → Content → Trace → List ℕ → Type 0
HasText formats s t text = (f : Format) × IsWritten formats s f t × (text ≡ trace_text f s t)

-- the answer is this trace, or there was no memory
abbrev pub IsReadAs : Trace → Result Trace TraceRefused → Type 0
IsReadAs t (Ok read) = read ≡ t
IsReadAs t (Err (At line)) = ⊥
IsReadAs t (Err NoMemory) = Unit {0}

-- this holds of the line that is named, if one is
abbrev pub IfAt : Result Trace TraceRefused → (ℕ → Type 0) → Type 0
IfAt (Ok read) Named = Unit {0}
IfAt (Err (At line)) Named = Named line
IfAt (Err NoMemory) Named = Unit {0}

-- the number of a line, where the first one has this number; a greater one than 32 bits can say is the greatest that they can
abbrev pub line_number : ℕ → ℕ → ℕ
line_number first place = min (first + place) (2 ^ 32 - 1)

-- a line of a text is refused, or the end behind its last line
pub record IsRefusedAt (formats : Formats) (s : Content) (text : List ℕ) (first number : ℕ) : Type 0 where
  -- its place among the lines, from 0, or how many there are
  pub place : ℕ
  pub within : place ≤ length (lines_in text)
  -- it is named by its number
  pub named : number ≡ line_number first place
  -- no trace in form has a text with the same lines up to this one, in a format that is read
  pub never : place < length (lines_in text) → FailsAt line_feed (IsTraceText formats s) text place
