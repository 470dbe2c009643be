use Rattle.std.specs.Prelude.{ℕ, ◌^◌, ◌<◌, nat_le, Bool, true, false, Option, Some, None, length}
use Rattle.std.specs.List.{AllByRecursion}
use Rattle.zk_trace.specs.declared.format.Format.{Format}
use Rattle.zk_trace.specs.declared.format.Format.TheVariants.{One, Two}
use Rattle.zk_trace.specs.declared.format.Formats.{Formats}
use Rattle.zk_trace.specs.declared.format.Formats.TheVariants.{Both, First}
use Rattle.zk_trace.specs.declared.trace.Trace.{Trace}

-- how many players a scenario has at most where its trace is in format 1
abbrev pub most_players_of_one : ℕ
most_players_of_one = 64

-- whether a trace of so many players is read in this format, where these are read
abbrev pub reads : Formats → ℕ → Format → Bool
reads formats players One = nat_le players most_players_of_one
reads Both players Two = true
reads First players Two = false

-- what a head tells of a number of lines: in format 1 nothing
abbrev pub told : Format → ℕ → Option ℕ
told One lines = None
told Two lines = Some lines

-- it can be told: in format 2 it has 64 bits
abbrev pub CanTell : Format → ℕ → Type 0
CanTell One lines = Unit {0}
CanTell Two lines = lines < 2 ^ 64

-- the number of lines of each sort in each section of a trace can be told
pub record CanTellAll (f : Format) (t : Trace) : Type 0 where
  pub work : CanTell f (length t.work)
  pub clock : CanTell f (length t.clock)
  pub table : CanTell f (length t.table)
  pub sems : AllByRecursion (λ h. CanTell f (length h)) t.sems
  pub msgqs : AllByRecursion (λ h. CanTell f (length h)) t.msgqs
  pub signals : AllByRecursion (λ h. CanTell f (length h)) t.signals
  pub chans : AllByRecursion (λ h. CanTell f (length h)) t.chans
  pub observers : AllByRecursion (λ h. CanTell f (length h)) t.observers
  pub item_looks : CanTell f (length t.looks.items)
  pub signal_looks : AllByRecursion (λ looks. CanTell f (length looks)) t.looks.signals
  pub logs : AllByRecursion (λ log. CanTell f (length log.answers)) t.logs
