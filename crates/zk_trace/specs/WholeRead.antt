-- Inner: no contract of a top call is made of this file.
use Rattle.std.specs.Prelude.{ℕ, ◌+◌, Option, Some, None, List, [], ◌∷◌, length, map, option_and_then, if◌then◌else◌}
use Rattle.zk_base.specs.declared.ids.Entry.{Entry}
use Rattle.zk_model_bus.specs.declared.channel.ChanOp.{ChanOp}
use Rattle.zk_model_bus.specs.declared.channel.ChanReply.{ChanReply}
use Rattle.zk_model_bus.specs.declared.observer.ObsOp.{ObsOp}
use Rattle.zk_model_bus.specs.declared.observer.ObsReply.{ObsReply}
use Rattle.zk_model_bus.specs.declared.table.TableOp.{TableOp}
use Rattle.zk_model_bus.specs.declared.table.TableReply.{TableReply}
use Rattle.zk_model_wait.specs.declared.clock.ClockOp.{ClockOp}
use Rattle.zk_model_wait.specs.declared.clock.ClockReply.{ClockReply}
use Rattle.zk_model_wait.specs.declared.msgq.MsgqOp.{MsgqOp}
use Rattle.zk_model_wait.specs.declared.msgq.MsgqReply.{MsgqReply}
use Rattle.zk_model_wait.specs.declared.sem.SemOp.{SemOp}
use Rattle.zk_model_wait.specs.declared.sem.SemReply.{SemReply}
use Rattle.zk_model_wait.specs.declared.signal.SignalOp.{SignalOp}
use Rattle.zk_model_wait.specs.declared.signal.SignalReply.{SignalReply}
use Rattle.zk_model_work.specs.declared.ops.WorkOp.{WorkOp}
use Rattle.zk_model_work.specs.declared.ops.WorkReply.{WorkReply}
use Rattle.zk_blocks.specs.Blocks.{Reading, line_of, told_of, told_lines, then_of, then_lines, made_of}
use Rattle.zk_blocks.specs.Each.{each_of, each_lines}
use Rattle.zk_blocks.specs.Families.{plain_family_of, plain_family_lines, section_family_of, section_family_lines}
use Rattle.zk_blocks.specs.Sections.{plain_section_of, plain_section_lines, section_of, section_lines, titled_of, title_line, titled_lines}
use Rattle.zk_line.specs.Objects.{is_sem, is_msgq, is_signal, is_chan, is_observer, name_of}
use Rattle.zk_line.specs.declared.types.Decl.{Decl}
use Rattle.zk_scenario.specs.Players.{players}
use Rattle.zk_words.specs.Pieces.{words_of}
use Rattle.zk_worker.specs.declared.answers.Answered.{Answered}
use Rattle.zk_worker.specs.declared.log.Log.{Log}
use Rattle.zk_worker.specs.declared.log.PlayerState.{PlayerState}
use Rattle.zk_worker.specs.declared.log.PlayerState.TheVariants as states
use Rattle.zk_worker.specs.declared.steps.Spot.{Spot}
use Rattle.zk_trace.specs.declared.format.Format.{Format}
use Rattle.zk_trace.specs.declared.format.Format.TheVariants.{One, Two}
use Rattle.zk_trace.specs.declared.format.Formats.{Formats}
use Rattle.zk_trace.specs.declared.looks.ItemLook.{ItemLook}
use Rattle.zk_trace.specs.declared.looks.SignalLook.{SignalLook}
use Rattle.zk_trace.specs.declared.stood.Stood.{Stood}
use Rattle.zk_trace.specs.declared.trace.Ending.{Ending}
use Rattle.zk_trace.specs.declared.trace.Ending.TheVariants.{Ended, Stuck, Spent}
use Rattle.zk_trace.specs.declared.trace.Trace.{Trace}
use Rattle.zk_trace.specs.AnswerRead.{answered_row, answered_of}
use Rattle.zk_trace.specs.EntryKinds.{work_row, work_of, clock_row, clock_of, table_row, table_of, sem_row, sem_of, msgq_row, msgq_of, signal_row, signal_of, chan_row, chan_of, obs_row, obs_of}
use Rattle.zk_trace.specs.Fields.{named, two, three, said_behind, wide_of}
use Rattle.zk_trace.specs.Form.{player_numbers}
use Rattle.zk_trace.specs.Formats.{reads}
use Rattle.zk_trace.specs.LookRead.{same_word, item_look_row, says_item_look, signal_look_row, says_signal_look}
use Rattle.zk_trace.specs.Names.{player_name}
use Rattle.zk_trace.specs.SectionRead.{head_of, plain_head_of, has_player}
use Rattle.zk_trace.specs.Stood.{stood, steps_of}
use Rattle.zk_trace.specs.Text.{work_name, clock_name, table_name, head_row, player_word, player_row, first_row}
use Rattle.zk_trace.specs.Words.{ending_word, state_word}

-- The services of which there is one: work with its looks, the clock and the object table.

abbrev pub Singles : Type 0
Singles =
    (List (Entry WorkOp WorkReply) × List ItemLook) × (List (Entry ClockOp ClockReply) × List (Entry TableOp TableReply))

abbrev pub read_singles : Format → List Decl → List (List ℕ) → Reading (List ℕ) Singles
read_singles f decls lines =
    then_of (section_of (has_player decls) (head_of f work_name) (λ last. work_of decls) (says_item_look decls))
    (then_of (plain_section_of (has_player decls) (plain_head_of f clock_name) (λ last. clock_of decls))
    (plain_section_of (has_player decls) (plain_head_of f table_name) (λ last. table_of decls))) lines

-- the head of a section that has entries alone
abbrev pub plain_row : Format → List ℕ → ℕ → List ℕ
plain_row f name entries = head_row f name entries 0

abbrev pub singles_lines : Format → List Decl → Singles → List (List ℕ)
singles_lines f decls singles =
    then_lines (section_lines (head_row f work_name) (work_row decls) (item_look_row decls))
    (then_lines (plain_section_lines (plain_row f clock_name) (clock_row decls))
    (plain_section_lines (plain_row f table_name) (table_row decls))) singles

-- Those of which there are many: semaphores, message queues, signals with their looks, channels and observers.

abbrev pub Families : Type 0
Families =
    List (List (Entry SemOp SemReply)) × (List (List (Entry MsgqOp MsgqReply))
    × (List (List (Entry SignalOp SignalReply) × List SignalLook)
    × (List (List (Entry ChanOp ChanReply)) × List (List (Entry ObsOp ObsReply)))))

abbrev pub read_signals : Format → List Decl → List (List ℕ) → Reading (List ℕ) (List (List (Entry SignalOp SignalReply) × List SignalLook))
read_signals f decls lines =
    section_family_of is_signal name_of (has_player decls) (head_of f) (λ d last. signal_of decls) (λ d. says_signal_look decls) decls lines

abbrev pub read_families : Format → List Decl → List (List ℕ) → Reading (List ℕ) Families
read_families f decls lines =
    then_of (plain_family_of is_sem name_of (has_player decls) (plain_head_of f) (λ d last. sem_of decls) decls)
    (then_of (plain_family_of is_msgq name_of (has_player decls) (plain_head_of f) (λ d last. msgq_of decls) decls)
    (then_of (read_signals f decls)
    (then_of (plain_family_of is_chan name_of (has_player decls) (plain_head_of f) (λ d last. chan_of decls) decls)
    (plain_family_of is_observer name_of (has_player decls) (plain_head_of f) (λ d last. obs_of decls) decls)))) lines

abbrev pub families_lines : Format → List Decl → Families → List (List ℕ)
families_lines f decls families =
    then_lines (plain_family_lines is_sem name_of (plain_row f) (λ d. sem_row decls) decls)
    (then_lines (plain_family_lines is_msgq name_of (plain_row f) (λ d. msgq_row decls) decls)
    (then_lines (section_family_lines is_signal name_of (head_row f) (λ d. signal_row decls) (λ d. signal_look_row decls) decls)
    (then_lines (plain_family_lines is_chan name_of (plain_row f) (λ d. chan_row decls) decls)
    (plain_family_lines is_observer name_of (plain_row f) (λ d. obs_row decls) decls)))) families

-- The players: of each how it stands, and its answers.

-- how a player of a name stands, by its head
abbrev pub all_states : List PlayerState
all_states = states.Spent ∷ states.Oops ∷ states.Done ∷ states.Standing ∷ []

abbrev pub state_of : List ℕ → Option PlayerState
state_of word = named state_word all_states word

-- how it stands, and how many answers it has
abbrev pub uncounted : Unit {0} → PlayerState → PlayerState × Option ℕ
uncounted named state = (state, None)

abbrev pub counted : Unit {0} → PlayerState → ℕ → PlayerState × Option ℕ
counted named state answers = (state, Some answers)

-- the words behind the first one in the head of a player
abbrev pub player_words_of : Format → List ℕ → List (List ℕ) → Option (PlayerState × Option ℕ)
player_words_of One name words = two uncounted (same_word name) state_of words
player_words_of Two name words = three counted (same_word name) state_of wide_of words

abbrev pub player_head_of : Format → List ℕ → List ℕ → Option (PlayerState × Option ℕ)
player_head_of f name row = said_behind player_word (player_words_of f name) (words_of row)

abbrev pub Players : Type 0
Players = List (PlayerState × List Answered)

abbrev pub read_player : Format → List Decl → ℕ → List (List ℕ) → Reading (List ℕ) (PlayerState × List Answered)
read_player f decls player lines = titled_of (player_head_of f (player_name decls player)) (λ last. answered_of decls) lines

abbrev pub player_lines : Format → List Decl → ℕ → PlayerState × List Answered → List (List ℕ)
player_lines f decls player one = titled_lines (player_row f (player_name decls player)) (answered_row decls) one

abbrev pub read_players : Format → List Decl → List (List ℕ) → Reading (List ℕ) Players
read_players f decls lines = each_of (read_player f decls) (player_numbers decls) lines

abbrev pub players_lines : Format → List Decl → Players → List (List ℕ)
players_lines f decls all = each_lines (player_lines f decls) (player_numbers decls) all

-- The whole.

-- the formats
abbrev pub all_formats : List Format
all_formats = One ∷ Two ∷ []

-- the format whose trace parts begin with this line
abbrev pub format_of : List ℕ → Option Format
format_of row = named first_row all_formats row

-- a format, where it is read
abbrev pub where_read : Formats → List Decl → Format → Option Format
where_read formats decls f = if reads formats (length (players decls)) f then Some f else None

-- the first line: the format that is read from there on
abbrev pub first_of : Formats → List Decl → List ℕ → Option Format
first_of formats decls row = option_and_then (where_read formats decls) (format_of row)

abbrev pub all_endings : List Ending
all_endings = Ended ∷ Stuck ∷ Spent ∷ []

abbrev pub ending_of : List ℕ → Option Ending
ending_of row = named ending_word all_endings row

-- the sections of the services and of the players
abbrev pub Sections : Type 0
Sections = Singles × (Families × Players)

abbrev pub read_sections : Format → List Decl → List (List ℕ) → Reading (List ℕ) Sections
read_sections f decls lines = then_of (read_singles f decls) (then_of (read_families f decls) (read_players f decls)) lines

abbrev pub sections_lines : Format → List Decl → Sections → List (List ℕ)
sections_lines f decls sections =
    then_lines (singles_lines f decls) (then_lines (families_lines f decls) (players_lines f decls)) sections

-- the ending and the sections
abbrev pub Rest : Type 0
Rest = Ending × Sections

abbrev pub read_rest : Format → List Decl → List (List ℕ) → Reading (List ℕ) Rest
read_rest f decls lines = then_of (line_of ending_of) (read_sections f decls) lines

abbrev pub rest_lines : Format → List Decl → Rest → List (List ℕ)
rest_lines f decls rest = then_lines (title_line ending_word) (sections_lines f decls) rest

-- all that stands in the text of a trace: its format, and the rest
abbrev pub Whole : Type 0
Whole = Format × Rest

abbrev pub read_behind : List Decl → Format → List (List ℕ) → Reading (List ℕ) Whole
read_behind decls f lines = made_of (λ rest. (f, rest)) (read_rest f decls lines)

abbrev pub read_whole : Formats → List Decl → List (List ℕ) → Reading (List ℕ) Whole
read_whole formats decls lines = told_of (first_of formats decls) (read_behind decls) lines

abbrev pub whole_lines : List Decl → Whole → List (List ℕ)
whole_lines decls whole = told_lines (λ w. first_row w.0) (λ w. rest_lines w.0 decls w.1) whole

-- The trace that it makes.

-- the logs of players from one number on, whose steps are those of their lines
abbrev pub logs_of : List Stood → ℕ → Players → List Log
logs_of lines player [] = []
logs_of lines player (one ∷ more) =
    record { state = one.0; steps = steps_of lines player; answers = one.1 } ∷ logs_of lines (player + 1) more

-- the same by where the steps of each stand
abbrev pub logs_by : List (List Spot) → Players → List Log
logs_by [] players = []
logs_by (steps ∷ lists) [] = []
logs_by (steps ∷ lists) (one ∷ more) =
    record { state = one.0; steps = steps; answers = one.1 } ∷ logs_by lists more

-- a trace of these sections, with these logs
abbrev pub trace_with : Ending → Singles → Families → List Log → Trace
trace_with ending singles families logs = record {
  ending = ending;
  work = singles.0.0;
  clock = singles.1.0;
  table = singles.1.1;
  sems = families.0;
  msgqs = families.1.0;
  signals = map (λ both. both.0) families.1.1.0;
  chans = families.1.1.1.0;
  observers = families.1.1.1.1;
  looks = record { items = singles.0.1; signals = map (λ both. both.1) families.1.1.0 };
  logs = logs;
}

-- the lines of entries and looks among these sections
abbrev pub lines_stood : Singles → Families → List Stood
lines_stood singles families = stood (trace_with Ended singles families [])

-- the trace of what stands in a text
abbrev pub trace_of : Whole → Trace
trace_of whole =
    let singles = whole.1.1.0 in
    let families = whole.1.1.1.0 in
    trace_with whole.1.0 singles families (logs_of (lines_stood singles families) 0 whole.1.1.1.1)

-- the same with its format
abbrev pub written_of : Whole → Format × Trace
written_of whole = (whole.0, trace_of whole)

-- And what stands in the text of a trace.

-- pairs of what stands at one place of two lists
abbrev pub pairs_of : {A B : Type 0} → List A → List B → List (A × B)
pairs_of [] bs = []
pairs_of (a ∷ more) [] = []
pairs_of (a ∷ more) (b ∷ bs) = (a, b) ∷ pairs_of more bs

abbrev pub whole_of : Format × Trace → Whole
whole_of written =
    let t = written.1 in (
      written.0,
      (
        t.ending,
        (
          ((t.work, t.looks.items), (t.clock, t.table)),
          ((t.sems, (t.msgqs, (pairs_of t.signals t.looks.signals, (t.chans, t.observers)))), map (λ log. (log.state, log.answers)) t.logs),
        ),
      ),
    )

-- the lines of a trace in a format, without their feeds
abbrev pub trace_lines : List Decl → Format × Trace → List (List ℕ)
trace_lines decls written = whole_lines decls (whole_of written)

-- a trace and its format, as they are read from lines
abbrev pub read_trace : Formats → List Decl → List (List ℕ) → Reading (List ℕ) (Format × Trace)
read_trace formats decls lines = made_of written_of (read_whole formats decls lines)
