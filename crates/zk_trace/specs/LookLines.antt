-- Inner: no contract of a top call is made of this file.
use Rattle.std.specs.Prelude.{ℕ, ◌+◌, List, [], ◌∷◌, ◌++◌, map}
use Rattle.zk_trace.specs.declared.looks.ItemLook.{ItemLook}
use Rattle.zk_trace.specs.declared.looks.SignalLook.{SignalLook}
use Rattle.zk_trace.specs.declared.looks.Looks.{Looks}
use Rattle.zk_trace.specs.declared.look_lines.LookLine.{LookLine}
use Rattle.zk_trace.specs.declared.look_lines.LookReply.{LookReply}

-- a look at an item, as one of all looks
abbrev pub item_line : ItemLook → LookLine
item_line look =
    record { player = look.player; step = look.step; object = look.item; reply = LookReply.Flags look.flags look.at }

-- a look at the signal of an object number, as one of all looks
abbrev pub signal_line : ℕ → SignalLook → LookLine
signal_line object look =
    record { player = look.player; step = look.step; object = object; reply = LookReply.Seen look.seen }

-- the looks at the signals from an object number on, signal by signal
abbrev pub signal_lines : ℕ → List (List SignalLook) → List LookLine
signal_lines object [] = []
signal_lines object (looks ∷ more) = map (signal_line object) looks ++ signal_lines (object + 1) more

-- all looks, in the order of a trace's lines: those at items, then those at each signal
abbrev pub look_lines : Looks → List LookLine
look_lines looks = map item_line looks.items ++ signal_lines 0 looks.signals
