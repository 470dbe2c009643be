use Rattle.std.specs.Prelude.{ℕ, Bool, true, false, List, ◌++◌, codes, decimal}
use Rattle.zk_line.specs.declared.types.Decl.{Decl}
use Rattle.zk_line.specs.Objects.{name_at}
use Rattle.zk_trace.specs.declared.looks.ItemLook.{ItemLook}
use Rattle.zk_trace.specs.declared.looks.SignalLook.{SignalLook}
use Rattle.zk_trace.specs.Names.{player_name}
use Rattle.zk_trace.specs.Words.{flags_word}

-- a step of a player: its name and the number of the step
abbrev pub spot_word : List Decl → ℕ → ℕ → List ℕ
spot_word decls player step = player_name decls player ++ codes "." ++ decimal step

-- the word of a look
abbrev pub look_word : List ℕ
look_word = codes "look"

-- what a player looks at: whether an item is busy, or a signal
abbrev pub busy_word : List ℕ
busy_word = codes "busy"

abbrev pub check_word : List ℕ
check_word = codes "check"

-- the front of each look's line: the word, and whose step it is
abbrev pub look_head : List Decl → ℕ → ℕ → List ℕ
look_head decls player step = look_word ++ codes " " ++ spot_word decls player step

-- whether a signal was raised
abbrev pub raised_word : Bool → List ℕ
raised_word true = codes "raised"
raised_word false = codes "clear"

-- what a signal was: raised with its result, or clear
abbrev pub seen_word : Bool → ℕ → List ℕ
seen_word raised value = raised_word raised ++ codes " " ++ decimal value

-- what stands before the number of entries or writes
abbrev pub stamp_front : List ℕ
stamp_front = codes "@"

-- after how many entries or writes it was so
abbrev pub stamp_word : ℕ → List ℕ
stamp_word stamp = stamp_front ++ decimal stamp

-- a look at the busy flags of an item
abbrev pub item_look_line : List Decl → ItemLook → List ℕ
item_look_line decls look =
    look_head decls look.player look.step ++ codes " " ++ busy_word ++ codes " " ++ name_at decls look.item
    ++ codes " = " ++ flags_word look.flags ++ codes " " ++ stamp_word look.at ++ codes "\n"

-- a look at a signal
abbrev pub signal_look_line : List Decl → SignalLook → List ℕ
signal_look_line decls look =
    look_head decls look.player look.step ++ codes " " ++ check_word
    ++ codes " = " ++ seen_word look.seen.raised look.seen.result ++ codes " " ++ stamp_word look.seen.stamp ++ codes "\n"
