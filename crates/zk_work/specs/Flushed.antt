-- Inner: no contract of a top call is made of this file.
use Rattle.std.specs.Prelude.{◌≡◌, ℕ, ◌<◌, true, false, ◌||◌, if◌then◌else◌, Bool, Option, Some, None, List, length, set, slice_index_or}
use Rattle.std.specs.List.{list_any}
use Rattle.std.specs.Option.{option_map_or}
use Rattle.zk_model_work.specs.declared.parts.Wait.{Wait}
use Rattle.zk_queue.specs.Open.{Open}
use Rattle.zk_work.specs.declared.flushed.Flushed.{Flushed}
use Rattle.zk_work.specs.EngineState.{IsBy}
use Rattle.zk_work.specs.Engine.{is_number, flushes}

-- no numbers
abbrev pub no_numbers : Flushed
no_numbers = record { first = None; second = None }

-- the numbers of an item
abbrev pub numbers_of : List Flushed → ℕ → Flushed
numbers_of flushed item = slice_index_or flushed item no_numbers

-- it is one of these numbers
abbrev pub holds : Flushed → ℕ → Bool
holds f number = is_number number f.first || is_number number f.second

-- a number more: it takes the place of one that isn't that of the run
abbrev pub beside_run : Flushed → Option ℕ → ℕ → Flushed
beside_run f running number =
    if option_map_or (λ n. is_number n f.first) running false then record f { second = Some number }
    else record f { first = Some number }

-- a flush waits for the item's admission of this number, if there is one
abbrev pub noted : List Flushed → ℕ → Option ℕ → Option ℕ → List Flushed
noted flushed item running number =
    option_map_or (λ n. set flushed item (beside_run (numbers_of flushed item) running n)) number flushed

-- the wait is a flush of the admission of this number
abbrev pub awaits_flush : ℕ → Wait → Bool
awaits_flush number w = flushes (Some number) None w.awaited

-- of the admissions by which an item waits and runs, those that flushes wait for are among its numbers, and no other is
pub record AreKept (o : Open) (flushed : List Flushed) (waits : List Wait) : Type 0 where
  pub long : length flushed ≡ o.items
  pub kept : (item number : ℕ) → item < o.items → IsBy o item number →
      holds (numbers_of flushed item) number ≡ list_any (awaits_flush number) waits

-- all numbers are of admissions that were made
abbrev pub AreOld : ℕ → List Flushed → Type 0
AreOld next flushed = (item number : ℕ) → holds (numbers_of flushed item) number ≡ true → number < next
