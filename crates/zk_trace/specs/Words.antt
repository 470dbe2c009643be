use Rattle.std.specs.Prelude.{ℕ, Bool, true, false, ◌==◌, if◌then◌else◌, List, [], ◌++◌}
use Rattle.std.specs.Prelude.{codes, decimal}
use Rattle.std.specs.List.{flat_map}
use Rattle.std.specs.Int.RustNames.{bit_and}
use Rattle.zk_base.specs.declared.errors.Errno.{Errno}
use Rattle.zk_base.specs.declared.errors.Errno.TheVariants.{Busy, Again, Inval, NoDev, NoMsg, Already, Fault}
use Rattle.zk_base.specs.declared.kinds.Need.{Need}
use Rattle.zk_base.specs.declared.kinds.Need.TheVariants as needs
use Rattle.zk_model_bus.specs.declared.table.OopsWhy.{OopsWhy}
use Rattle.zk_model_bus.specs.declared.table.OopsWhy.TheVariants.{NoObject, WrongKind, NotGranted, NotInit}
use Rattle.zk_words.specs.declared.word.Word.{Word}
use Rattle.zk_words.specs.Table.{call_row}
use Rattle.zk_worker.specs.declared.log.PlayerState.{PlayerState}
use Rattle.zk_worker.specs.declared.log.PlayerState.TheVariants as states
use Rattle.zk_trace.specs.declared.trace.Ending.{Ending}
use Rattle.zk_trace.specs.declared.trace.Ending.TheVariants.{Ended, Stuck, Spent}

-- the word of an ending
abbrev pub ending_word : Ending → List ℕ
ending_word Ended = codes "ended"
ending_word Stuck = codes "stuck"
ending_word Spent = codes "spent"

-- the name of an error
abbrev pub errno_word : Errno → List ℕ
errno_word Busy = codes "busy"
errno_word Again = codes "again"
errno_word Inval = codes "inval"
errno_word NoDev = codes "nodev"
errno_word NoMsg = codes "nomsg"
errno_word Already = codes "already"
errno_word Fault = codes "fault"

-- what a check asks of the kind of an object
abbrev pub need_word : Need → List ℕ
need_word needs.Thread = codes "thread"
need_word needs.Sem = codes "sem"
need_word needs.Msgq = codes "msgq"
need_word needs.Signal = codes "signal"
need_word needs.Queue = codes "queue"
need_word needs.Item = codes "item"
need_word needs.Chan = codes "chan"
need_word needs.Sub = codes "sub"
need_word needs.Obs = codes "obs"
need_word needs.Any = codes "any"

-- why a check fails
abbrev pub why_word : OopsWhy → List ℕ
why_word NoObject = codes "noobject"
why_word WrongKind = codes "wrongkind"
why_word NotGranted = codes "notgranted"
why_word NotInit = codes "notinit"

-- what stands before the reason of a check that fails
abbrev pub oops_front : List ℕ
oops_front = codes "oops "

-- a check that fails, and why
abbrev pub oops_word : OopsWhy → List ℕ
oops_word why = oops_front ++ why_word why

-- what stands before the number of an admission
abbrev pub admission_front : List ℕ
admission_front = codes "a"

-- the number of an admission
abbrev pub admission_word : ℕ → List ℕ
admission_word number = admission_front ++ decimal number

-- a letter where its flag is set
abbrev pub flag_letter : ℕ → ℕ → List ℕ → List ℕ
flag_letter flags flag letter = (if bit_and flags flag == 0 then [] else letter)

-- the letters of the busy flags: running, cancelling, queued, delayed, flushing
abbrev pub flag_letters : ℕ → List ℕ
flag_letters flags =
    flag_letter flags 1 (codes "r") ++ flag_letter flags 2 (codes "c") ++ flag_letter flags 4 (codes "q")
    ++ flag_letter flags 8 (codes "d") ++ flag_letter flags 16 (codes "f")

-- the busy flags in the order rcqdf, and a dash for none
abbrev pub flags_word : ℕ → List ℕ
flags_word flags = (if flags == 0 then codes "-" else flag_letters flags)

-- a truth value
abbrev pub truth_word : Bool → List ℕ
truth_word true = codes "true"
truth_word false = codes "false"

-- whether a call waits
abbrev pub wait_word : Bool → List ℕ
wait_word true = codes "wait"
wait_word false = codes "no"

-- a position behind a space
abbrev pub position_text : ℕ → List ℕ
position_text position = codes " " ++ decimal position

-- positions, each behind a space
abbrev pub positions_text : List ℕ → List ℕ
positions_text positions = flat_map position_text positions

-- the word before the positions of a poll's ready events
abbrev pub ready_front : List ℕ
ready_front = codes "ready"

-- the ready events of a poll, by their positions
abbrev pub ready_word : List ℕ → List ℕ
ready_word positions = ready_front ++ positions_text positions

-- the word of a call, as it stands in the table
abbrev pub call_word : Word → List ℕ
call_word word = (call_row word).first

-- how a player stands
abbrev pub state_word : PlayerState → List ℕ
state_word states.Spent = codes "spent"
state_word states.Oops = codes "oops"
state_word states.Done = codes "done"
state_word states.Standing = codes "open"
