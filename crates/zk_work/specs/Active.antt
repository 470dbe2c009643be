-- Inner: no contract of a top call is made of this file.
use Rattle.std.specs.Prelude.{ℕ, ◌≡◌, ◌<◌, Bool, false, List, length, map}
use Rattle.std.specs.Option.{option_map_or}
use Rattle.zk_queue.specs.Open.{Open, ItemMarks, marks_of, run, mark, end}
use Rattle.zk_time.specs.Timeouts.{Timeouts, is_armed}

-- what a contract sees: the open admissions, where each item is marked as cancelling at most, the items that are armed,
-- and of each item whether it is marked as flushing
pub record ActiveView : Type 0 where
  pub admissions : Open
  pub timeouts : Timeouts
  pub flushing : List Bool

-- of these marks only cancelling
abbrev pub plain_marks : ItemMarks → ItemMarks
plain_marks m = record { cancelling = m.cancelling; delayed = false; flushing = false }

-- each item is marked as cancelling at most
abbrev pub plain : Open → Open
plain o = record o { marks = map plain_marks o.marks }

-- of each item, whether it is marked as flushing
abbrev pub flushing_in : Open → List Bool
flushing_in o = map (λ m. m.flushing) o.marks

-- each item is marked as delayed where it is armed
pub record AreMarked (o : Open) (t : Timeouts) : Type 0 where
  pub armed : t.items ≡ o.items
  pub marks : length o.marks ≡ o.items
  pub delayed : (item : ℕ) → item < o.items → (marks_of o item).delayed ≡ is_armed t item

-- the queue's run is over, and its item has no marks
abbrev pub run_over : Open → ℕ → Open
run_over o queue = option_map_or (λ t. mark (end o queue) t.item 0) (run o queue) o
