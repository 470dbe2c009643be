-- Inner: no contract of a top call is made of this file.
use Rattle.std.specs.Prelude.{ℕ}
use Rattle.zk_base.specs.declared.errors.Status.{Status}
use Rattle.zk_base.specs.declared.errors.Status.TheVariants.{Success, Words, Refused, Stuck, Spent, ReadFault, WriteFault, NoMemory, Unlawful}

-- the exit status of each ending of the program
abbrev pub status_code : Status → ℕ
status_code Success = 0
status_code Words = 1
status_code Refused = 2
status_code Stuck = 3
status_code Spent = 4
status_code ReadFault = 5
status_code WriteFault = 6
status_code NoMemory = 7
status_code Unlawful = 8
