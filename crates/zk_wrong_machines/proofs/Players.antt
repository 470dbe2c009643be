-- Two players of one priority, and the worker of the first queue behind them.
use Rattle.std.specs.Prelude.{pos}
use Rattle.zk_base.specs.declared.ids.Who.{Who}

abbrev pub one : Who
one = record { number = 0; prio = pos 0 }

abbrev pub other : Who
other = record { number = 1; prio = pos 0 }

abbrev pub worker : Who
worker = record { number = 2; prio = pos 0 }
