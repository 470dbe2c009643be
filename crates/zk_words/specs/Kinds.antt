use Rattle.std.specs.Prelude.{Bool, true, false}
use Rattle.zk_base.specs.declared.kinds.Kind.{Kind}
use Rattle.zk_base.specs.declared.kinds.Kind.TheVariants.{Thread, Queue, Item, Sem, Msgq, Signal, Listener, Sub, Chan}

-- whether an object of a kind can play a script: a thread, an item by its handler, or a listener
abbrev pub plays_script : Kind → Bool
plays_script Thread = true
plays_script Queue = false
plays_script Item = true
plays_script Sem = false
plays_script Msgq = false
plays_script Signal = false
plays_script Listener = true
plays_script Sub = false
plays_script Chan = false

-- whether a declaration of a kind makes a player: a thread, or the worker of a queue
abbrev pub makes_player : Kind → Bool
makes_player Thread = true
makes_player Queue = true
makes_player Item = false
makes_player Sem = false
makes_player Msgq = false
makes_player Signal = false
makes_player Listener = false
makes_player Sub = false
makes_player Chan = false

-- whether an object of a kind can be declared as not initialised
abbrev pub can_be_raw : Kind → Bool
can_be_raw Thread = false
can_be_raw Queue = false
can_be_raw Item = false
can_be_raw Sem = true
can_be_raw Msgq = true
can_be_raw Signal = true
can_be_raw Listener = false
can_be_raw Sub = false
can_be_raw Chan = false
