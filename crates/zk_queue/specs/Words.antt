-- Inner: no contract of a top call is made of this file.
use Rattle.std.specs.Prelude.{ℕ, ◌≡◌, ◌<◌, Bool, ◌==◌, Option, List, length, map, slice_index_or, All}
use Rattle.std.specs.Option.{IfSome}
use Rattle.std.specs.Int.RustNames.{bit_and}
use Rattle.zk_model_work.specs.declared.busy.BusyFlags.{BusyFlags}
use Rattle.zk_queue.specs.declared.ticket.Ticket.{Ticket}
use Rattle.zk_queue.specs.Line.{InLine}
use Rattle.zk_queue.specs.Open.{Open, marks_in, flags}

-- the flag is set in the word
abbrev pub has_flag : ℕ → ℕ → Bool
has_flag word flag = bit_and word flag == flag

-- the words as numbers
abbrev pub numbers : List BusyFlags → List ℕ
numbers words = map (λ w. w.0) words

-- the open admissions, where each word has the marks of its item
abbrev pub open_of : List (List Ticket) → List (Option Ticket) → List BusyFlags → Open
open_of lines runs words =
    record {
      items = length words;
      queues = length runs;
      lines = lines;
      runs = runs;
      marks = map marks_in (numbers words);
    }

-- the word of an item is its busy flags
abbrev pub IsWord : Open → List BusyFlags → ℕ → Type 0
IsWord o words item = slice_index_or (numbers words) item 0 ≡ flags o item

-- what holds of the lines, the runs and the words: there is a word for each item, which is its busy flags,
-- a line for each queue, and only such items run
pub record AreKept (w : InLine) (runs : List (Option Ticket)) (words : List BusyFlags) : Type 0 where
  pub items : w.items ≡ length words
  pub queues : length w.lines ≡ length runs
  pub known : All (λ run. IfSome run (λ t. t.item < length words)) runs
  pub flagged : (item : ℕ) → item < length words → IsWord (open_of w.lines runs words) words item
