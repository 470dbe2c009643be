-- Inner: no contract of a top call is made of this file.
use Rattle.std.specs.Prelude.{ℕ, ◌<◌, Bool, false, ◌==◌, ◌&&◌, ◌||◌, Option, Some, None, is_some, is_none, option_map, option_and_then, position, List, [], ◌∷◌, ◌++◌, length, map, set, replicate, slice_index_or, All}
use Rattle.std.specs.Int.RustNames.{bit_and}
use Rattle.std.specs.List.{list_any}
use Rattle.std.specs.Option.{option_map_or}
use Rattle.zk_model_work.specs.Lists.{first}
use Rattle.zk_model_work.specs.Questions.{busy_flags}
use Rattle.zk_queue.specs.declared.ticket.Ticket.{Ticket}
use Rattle.zk_queue.specs.Line.{is_of, has_number, without, number_among}

-- the busy flags of an item that don't follow from its admissions
pub record ItemMarks : Type 0 where
  pub cancelling : Bool
  pub delayed : Bool
  pub flushing : Bool

-- the open admissions: how many items and queues there are, what waits for each queue, lowest number first,
-- what each queue runs, and the marks of each item
pub record Open : Type 0 where
  pub items : ℕ
  pub queues : ℕ
  pub lines : List (List Ticket)
  pub runs : List (Option Ticket)
  pub marks : List ItemMarks

-- the marks among these busy flags: 2 cancelling, 8 delayed, 16 flushing
abbrev pub marks_in : ℕ → ItemMarks
marks_in flags =
    record { cancelling = bit_and flags 2 == 2; delayed = bit_and flags 8 == 8; flushing = bit_and flags 16 == 16 }

-- no marks
abbrev pub unmarked : ItemMarks
unmarked = record { cancelling = false; delayed = false; flushing = false }

-- before the first admission
abbrev pub nothing_open : ℕ → ℕ → Open
nothing_open items queues =
    record {
      items = items;
      queues = queues;
      lines = replicate queues [];
      runs = replicate queues None;
      marks = replicate items unmarked;
    }

-- what waits for the queue, lowest number first
abbrev pub line : Open → ℕ → List Ticket
line o queue = slice_index_or o.lines queue []

-- what the queue runs
abbrev pub run : Open → ℕ → Option Ticket
run o queue = slice_index_or o.runs queue None

-- the marks of the item
abbrev pub marks_of : Open → ℕ → ItemMarks
marks_of o item = slice_index_or o.marks item unmarked

-- the run is the item's
abbrev pub is_run_of : ℕ → Option Ticket → Bool
is_run_of item run = option_map_or (is_of item) run false

-- a queue runs the item
abbrev pub is_running : Open → ℕ → Bool
is_running o item = list_any (is_run_of item) o.runs

-- the number of the item's admission that a queue runs
abbrev pub running : Open → ℕ → Option ℕ
running o item = option_and_then (λ queue. option_map (λ t. t.number) (run o queue)) (position (is_run_of item) o.runs)

-- the run has this number
abbrev pub runs_number : ℕ → Option Ticket → Bool
runs_number number run = option_map_or (has_number number) run false

-- the admission of this number waits or runs
abbrev pub is_open : Open → ℕ → Bool
is_open o number = list_any (runs_number number) o.runs || list_any (list_any (has_number number)) o.lines

-- the number of the admission by which the item waits
abbrev pub waiting : Open → ℕ → Option ℕ
waiting o item = number_among item o.lines

-- the item waits for a queue
abbrev pub is_queued : Open → ℕ → Bool
is_queued o item = is_some (waiting o item)

-- the number is above all that wait
abbrev pub IsAbove : ℕ → Open → Type 0
IsAbove number o = All (λ line. All (λ t. t.number < number) line) o.lines

-- the busy flags of the item: 1 a queue runs it, 4 it waits, and 2, 8 and 16 as it is marked
abbrev pub flags : Open → ℕ → ℕ
flags o item =
    let marks = marks_of o item in
    busy_flags (is_running o item) marks.cancelling (is_queued o item) marks.delayed marks.flushing

-- nothing waits for the queue, and it runs nothing
abbrev pub is_idle : Open → ℕ → Bool
is_idle o queue = is_none (run o queue) && (length (line o queue) == 0)

-- the item is marked as these flags are
abbrev pub mark : Open → ℕ → ℕ → Open
mark o item flags = record o { marks = set o.marks item (marks_in flags) }

-- the item waits for the queue, behind all that wait already
abbrev pub admit : Open → ℕ → ℕ → ℕ → Open
admit o item queue number =
    record o { lines = set o.lines queue (line o queue ++ record { item = item; number = number } ∷ []) }

-- the item waits no longer
abbrev pub drop_item : Open → ℕ → Open
drop_item o item = record o { lines = map (without item) o.lines }

-- the lowest of a line, where nothing runs
abbrev pub if_free : Option Ticket → Option Ticket → Option Ticket
if_free None lowest = lowest
if_free (Some ticket) lowest = None

-- what the queue may begin: the lowest of its line, where it runs nothing
abbrev pub next : Open → ℕ → Option Ticket
next o queue = if_free (run o queue) (first (line o queue))

-- the queue runs what waited with this ticket
abbrev pub begun : Open → ℕ → Ticket → Open
begun o queue ticket = record (drop_item o ticket.item) { runs = set o.runs queue (Some ticket) }

-- the queue runs what it may begin, if there is anything
abbrev pub begin : Open → ℕ → Open
begin o queue = option_map_or (begun o queue) (next o queue) o

-- the queue runs nothing
abbrev pub end : Open → ℕ → Open
end o queue = record o { runs = set o.runs queue None }

-- the ticket as a pair: its item and its number
abbrev pub pair_of : Ticket → ℕ × ℕ
pair_of t = (t.item, t.number)
