use Rattle.std.specs.Prelude.{ℕ, ◌-◌, List, [], ◌∷◌, codes}
use Rattle.zk_base.specs.Limits.{longest_message, most_held}
use Rattle.zk_base.specs.declared.kinds.Kind.{Kind}
use Rattle.zk_base.specs.declared.kinds.Kind.TheVariants as kind
use Rattle.zk_base.specs.declared.kinds.Need.TheVariants as need
use Rattle.zk_words.specs.declared.limits.TheConstants.{MOST_TICKS, MOST_COUNT, GREATEST_RESULT}
use Rattle.zk_words.specs.declared.word.Word.{Word}
use Rattle.zk_words.specs.declared.word.Word.TheVariants as word
use Rattle.zk_words.specs.declared.word.Head.{Head}
use Rattle.zk_words.specs.declared.word.Head.TheVariants.{Declare, Allow, Script, End, Call}
use Rattle.zk_words.specs.declared.slot.Choice.TheVariants.{Mode, State, Drain}
use Rattle.zk_words.specs.declared.slot.Slot.{Slot}
use Rattle.zk_words.specs.declared.slot.Slot.TheVariants.{New, Owner, Object, Rawable, Number, Priority, Either, Hex, Wait, Valid, Raw}
use Rattle.zk_words.specs.declared.slot.Rest.TheVariants.{Nothing, Maybe, Many, Events}
use Rattle.zk_words.specs.Rows.{Form}

-- a thread
abbrev pub thread : Slot
thread = Object need.Thread

-- an object of any kind
abbrev pub object : Slot
object = Object need.Any

-- a work item
abbrev pub item : Slot
item = Object need.Item

-- a work queue
abbrev pub queue : Slot
queue = Object need.Queue

-- a semaphore
abbrev pub sem : Slot
sem = Object need.Sem

-- a message queue
abbrev pub msgq : Slot
msgq = Object need.Msgq

-- a signal
abbrev pub signal : Slot
signal = Object need.Signal

-- a channel
abbrev pub channel : Slot
channel = Object need.Chan

-- a subscriber
abbrev pub subscriber : Slot
subscriber = Object need.Sub

-- an observer: a subscriber or a listener
abbrev pub observer : Slot
observer = Object need.Obs

-- a delay in ticks
abbrev pub delay : Slot
delay = Number 0 MOST_TICKS

-- the ticks by which the clock goes on at once
abbrev pub ticks : Slot
ticks = Number 1 MOST_TICKS

-- a place in a message queue, the first message's first
abbrev pub index : Slot
index = Number 0 (most_held - 1)

-- the count that a semaphore begins with
abbrev pub initial : Slot
initial = Number 0 MOST_COUNT

-- the most that a semaphore counts to
abbrev pub limit : Slot
limit = Number 1 MOST_COUNT

-- how many bytes each message of a message queue or a channel has
abbrev pub size : Slot
size = Number 1 longest_message

-- how many messages a message queue has room for, or of how many a subscriber is told
abbrev pub capacity : Slot
capacity = Number 1 most_held

-- the result that a signal is raised with
abbrev pub result : Slot
result = Number 0 GREATEST_RESULT

-- a line of just these slots
abbrev pub exactly : List ℕ → List Slot → Form
exactly first slots = record { first = first; slots = slots; rest = Nothing }

-- a line of these slots, and perhaps one more
abbrev pub perhaps : List ℕ → List Slot → Slot → Form
perhaps first slots last = record { first = first; slots = slots; rest = Maybe last }

-- a line of these slots, and any number of words in one slot more
abbrev pub and_many : List ℕ → List Slot → Slot → Form
and_many first slots more = record { first = first; slots = slots; rest = Many more }

-- a line of these slots, and the events of a poll
abbrev pub polling : List ℕ → List Slot → Form
polling first slots = record { first = first; slots = slots; rest = Events }

-- the declarations
abbrev pub kind_row : Kind → Form
kind_row kind.Thread = exactly (codes "thread") (New ∷ Priority ∷ Either Mode ∷ [])
kind_row kind.Queue = exactly (codes "queue") (New ∷ Priority ∷ Either State ∷ [])
kind_row kind.Item = exactly (codes "item") (New ∷ [])
kind_row kind.Sem = perhaps (codes "sem") (New ∷ initial ∷ limit ∷ []) Raw
kind_row kind.Msgq = perhaps (codes "msgq") (New ∷ size ∷ capacity ∷ []) Raw
kind_row kind.Signal = perhaps (codes "signal") (New ∷ []) Raw
kind_row kind.Listener = exactly (codes "listener") (New ∷ [])
kind_row kind.Sub = exactly (codes "sub") (New ∷ capacity ∷ [])
kind_row kind.Chan = and_many (codes "chan") (New ∷ size ∷ Hex ∷ Valid ∷ []) observer

-- the calls
abbrev pub call_row : Word → Form
call_row word.Submit = perhaps (codes "submit") (item ∷ []) queue
call_row word.Cancel = exactly (codes "cancel") (item ∷ [])
call_row word.CancelSync = exactly (codes "cancelsync") (item ∷ [])
call_row word.Flush = exactly (codes "flush") (item ∷ [])
call_row word.Schedule = exactly (codes "schedule") (item ∷ queue ∷ delay ∷ [])
call_row word.Reschedule = exactly (codes "reschedule") (item ∷ queue ∷ delay ∷ [])
call_row word.Remaining = exactly (codes "remaining") (item ∷ [])
call_row word.Busy = exactly (codes "busy") (item ∷ [])
call_row word.Start = exactly (codes "start") (queue ∷ [])
call_row word.Drain = exactly (codes "drain") (queue ∷ Either Drain ∷ [])
call_row word.Unplug = exactly (codes "unplug") (queue ∷ [])
call_row word.Stop = exactly (codes "stop") (queue ∷ [])
call_row word.Tick = exactly (codes "tick") (ticks ∷ [])
call_row word.Take = exactly (codes "take") (sem ∷ Wait ∷ [])
call_row word.Give = exactly (codes "give") (sem ∷ [])
call_row word.Reset = exactly (codes "reset") (sem ∷ [])
call_row word.Count = exactly (codes "count") (sem ∷ [])
call_row word.Put = exactly (codes "put") (msgq ∷ Hex ∷ Wait ∷ [])
call_row word.PutFront = exactly (codes "putfront") (msgq ∷ Hex ∷ [])
call_row word.Get = exactly (codes "get") (msgq ∷ Wait ∷ [])
call_row word.Peek = exactly (codes "peek") (msgq ∷ [])
call_row word.PeekAt = exactly (codes "peekat") (msgq ∷ index ∷ [])
call_row word.Purge = exactly (codes "purge") (msgq ∷ [])
call_row word.Used = exactly (codes "used") (msgq ∷ [])
call_row word.Free = exactly (codes "free") (msgq ∷ [])
call_row word.Raise = exactly (codes "raise") (signal ∷ result ∷ [])
call_row word.Clear = exactly (codes "clear") (signal ∷ [])
call_row word.Check = exactly (codes "check") (signal ∷ [])
call_row word.Poll = polling (codes "poll") (Wait ∷ [])
call_row word.Claim = exactly (codes "claim") (channel ∷ Wait ∷ [])
call_row word.Finish = exactly (codes "finish") (channel ∷ [])
call_row word.Publish = exactly (codes "publish") (channel ∷ Hex ∷ Wait ∷ [])
call_row word.Notify = exactly (codes "notify") (channel ∷ Wait ∷ [])
call_row word.Read = exactly (codes "read") (channel ∷ Wait ∷ [])
call_row word.Mask = exactly (codes "mask") (channel ∷ observer ∷ Either State ∷ [])
call_row word.Enable = exactly (codes "enable") (observer ∷ Either State ∷ [])
call_row word.SubWait = exactly (codes "subwait") (subscriber ∷ Wait ∷ [])
call_row word.Grant = exactly (codes "grant") (thread ∷ object ∷ [])
call_row word.Release = exactly (codes "release") (object ∷ [])
call_row word.Revoke = exactly (codes "revoke") (thread ∷ object ∷ [])
call_row word.Public = exactly (codes "public") (object ∷ [])
call_row word.Init = exactly (codes "init") (Rawable ∷ [])
call_row word.User = exactly (codes "user") []

-- the table: the form of each line behind the first
abbrev pub row_of : Head → Form
row_of (Declare kind) = kind_row kind
row_of Allow = exactly (codes "allow") (thread ∷ object ∷ [])
row_of Script = exactly (codes "script") (Owner ∷ [])
row_of End = exactly (codes "end") []
row_of (Call word) = call_row word

-- the heads of all lines
abbrev pub heads : List Head
heads =
    Declare kind.Thread ∷ Declare kind.Queue ∷ Declare kind.Item
    ∷ Declare kind.Sem ∷ Declare kind.Msgq ∷ Declare kind.Signal
    ∷ Declare kind.Listener ∷ Declare kind.Sub ∷ Declare kind.Chan ∷ Allow ∷ Script ∷ End
    ∷ Call word.Submit ∷ Call word.Cancel ∷ Call word.CancelSync ∷ Call word.Flush
    ∷ Call word.Schedule ∷ Call word.Reschedule ∷ Call word.Remaining ∷ Call word.Busy
    ∷ Call word.Start ∷ Call word.Drain ∷ Call word.Unplug ∷ Call word.Stop ∷ Call word.Tick
    ∷ Call word.Take ∷ Call word.Give ∷ Call word.Reset ∷ Call word.Count
    ∷ Call word.Put ∷ Call word.PutFront ∷ Call word.Get ∷ Call word.Peek ∷ Call word.PeekAt
    ∷ Call word.Purge ∷ Call word.Used ∷ Call word.Free
    ∷ Call word.Raise ∷ Call word.Clear ∷ Call word.Check ∷ Call word.Poll
    ∷ Call word.Claim ∷ Call word.Finish ∷ Call word.Publish ∷ Call word.Notify ∷ Call word.Read
    ∷ Call word.Mask ∷ Call word.Enable ∷ Call word.SubWait
    ∷ Call word.Grant ∷ Call word.Release ∷ Call word.Revoke ∷ Call word.Public ∷ Call word.Init
    ∷ Call word.User ∷ []
