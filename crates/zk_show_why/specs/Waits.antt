-- What a player waits for, and who keeps it waiting, by the trace alone.
use Rattle.std.specs.Prelude.{ℕ, ◌-◌, ◌==◌, Bool, true, false, Option, Some, None, List, [], ◌∷◌, ◌++◌, codes, decimal, length, slice_get, option_and_then, if◌then◌else◌}
use Rattle.std.specs.Option.{option_map_or}
use Rattle.zk_base.specs.declared.ids.Entry.{Entry}
use Rattle.zk_line.specs.declared.types.Decl.{Decl}
use Rattle.zk_model_bus.specs.declared.channel.ChanOp.{ChanOp}
use Rattle.zk_model_bus.specs.declared.channel.ChanOp.TheVariants.{Free, Finish}
use Rattle.zk_model_bus.specs.declared.channel.ChanReply.{ChanReply}
use Rattle.zk_model_bus.specs.declared.channel.ChanReply.TheVariants as chans
use Rattle.zk_model_bus.specs.declared.observer.ObsReply.{ObsReply}
use Rattle.zk_model_bus.specs.declared.observer.ObsReply.TheVariants as observers
use Rattle.zk_model_wait.specs.declared.msgq.MsgqOp.{MsgqOp}
use Rattle.zk_model_wait.specs.declared.msgq.MsgqOp.TheVariants.{Get, Put}
use Rattle.zk_model_wait.specs.declared.msgq.MsgqReply.{MsgqReply}
use Rattle.zk_model_wait.specs.declared.msgq.MsgqReply.TheVariants as msgqs
use Rattle.zk_model_wait.specs.declared.sem.SemReply.{SemReply}
use Rattle.zk_model_wait.specs.declared.sem.SemReply.TheVariants as sems
use Rattle.zk_worker.specs.declared.log.Log.{Log}
use Rattle.zk_worker.specs.declared.log.PlayerState.{PlayerState}
use Rattle.zk_worker.specs.declared.log.PlayerState.TheVariants as states
use Rattle.zk_worker.specs.declared.steps.Spot.{Spot}
use Rattle.zk_worker.specs.declared.steps.Spot.TheVariants as spots
use Rattle.zk_trace.specs.declared.trace.Trace.{Trace}
use Rattle.zk_show_why.specs.Players.{name_of_object, player_name}
use Rattle.zk_show_why.specs.declared.waits.Awaited.{Awaited}
use Rattle.zk_show_why.specs.declared.waits.Awaited.TheVariants.{Give, Message, Room, Notice, Channel}
use Rattle.zk_show_why.specs.declared.waits.Holder.{Holder}

-- the entry at a place of an object's history
abbrev pub entry_at : {O R : Type 0} → List (List (Entry O R)) → ℕ → ℕ → Option (Entry O R)
entry_at histories object place = option_and_then (λ history. slice_get history place) (slice_get histories object)

-- a take that begins a wait waits for a give
abbrev pub sem_awaits : ℕ → SemReply → Option Awaited
sem_awaits object sems.Wait = Some (Give object)
sem_awaits object reply = None

-- a get that begins a wait waits for a message, a put for room
abbrev pub msgq_awaits : ℕ → MsgqOp → MsgqReply → Option Awaited
msgq_awaits object (Get waits) msgqs.Wait = Some (Message object)
msgq_awaits object (Put message waits) msgqs.Wait = Some (Room object)
msgq_awaits object op reply = None

-- whoever wants a channel that is held waits for it
abbrev pub chan_awaits : ℕ → ChanReply → Option Awaited
chan_awaits object chans.Wait = Some (Channel object)
chan_awaits object reply = None

-- a subscriber without a channel waits until it is told of one
abbrev pub obs_awaits : ℕ → ObsReply → Option Awaited
obs_awaits object observers.Wait = Some (Notice object)
obs_awaits object reply = None

-- what a step that stands there begins to wait for
abbrev pub awaited_at : Trace → Spot → Option Awaited
awaited_at t (spots.Sem object place) = option_and_then (λ e. sem_awaits object e.reply) (entry_at t.sems object place)
awaited_at t (spots.Msgq object place) = option_and_then (λ e. msgq_awaits object e.op e.reply) (entry_at t.msgqs object place)
awaited_at t (spots.Chan object place) = option_and_then (λ e. chan_awaits object e.reply) (entry_at t.chans object place)
awaited_at t (spots.Obs object place) = option_and_then (λ e. obs_awaits object e.reply) (entry_at t.observers object place)
awaited_at t spot = None

-- what a log's last step begins to wait for
abbrev pub awaited_in : Trace → Log → Option Awaited
awaited_in t log = option_and_then (λ spot. awaited_at t spot) (slice_get log.steps (length log.steps - 1))

-- what is waited for, in words in front of its object's name
abbrev pub awaited_front : Awaited → List ℕ
awaited_front (Give object) = codes ": it waits for a give of "
awaited_front (Message object) = codes ": it waits for a message in "
awaited_front (Room object) = codes ": it waits for room in "
awaited_front (Notice object) = codes ": it waits until "
awaited_front (Channel object) = codes ": it waits for the channel "

-- the object of what is waited for
abbrev pub awaited_object : Awaited → ℕ
awaited_object (Give object) = object
awaited_object (Message object) = object
awaited_object (Room object) = object
awaited_object (Notice object) = object
awaited_object (Channel object) = object

-- what is waited for, in words behind that name
abbrev pub awaited_back : Awaited → List ℕ
awaited_back (Notice object) = codes " is told of a channel"
awaited_back awaited = []

-- what is waited for, in words
abbrev pub awaited_words : List Decl → Awaited → List ℕ
awaited_words decls awaited = awaited_front awaited ++ name_of_object decls (awaited_object awaited) ++ awaited_back awaited

-- whether the caller has the channel from then on
abbrev pub gets : ChanReply → Bool
gets chans.Got = true
gets reply = false

-- whether nobody has the channel from then on
abbrev pub frees : ChanOp → ChanReply → Bool
frees Free reply = true
frees Finish chans.Done = true
frees op reply = false

-- who holds a channel behind an entry
abbrev pub holder_after : Entry ChanOp ChanReply → Option Holder → Option Holder
holder_after e held = if gets e.reply then Some (record { player = e.who.number; since = e.step }) else if frees e.op e.reply then None else held

-- who holds a channel behind these entries
abbrev pub holder_from : List (Entry ChanOp ChanReply) → Option Holder → Option Holder
holder_from [] held = held
holder_from (e ∷ es) held = holder_from es (holder_after e held)

-- who holds a channel: whoever got it last, since that step, if it wasn't freed since
abbrev pub holder_of : Trace → ℕ → Option Holder
holder_of t chan = option_and_then (λ history. holder_from history None) (slice_get t.chans chan)

-- how a player stands, in words
abbrev pub how_words : PlayerState → List ℕ
how_words states.Spent = codes ", and has made all its steps"
how_words states.Oops = codes ", and was ended by an oops: it does nothing any more"
how_words states.Done = codes ", and is through with its calls"
how_words states.Standing = codes ", and is in a call itself"

-- how the player of a number stands, in words
abbrev pub how_of : Trace → ℕ → List ℕ
how_of t player = option_map_or (λ log. how_words log.state) (slice_get t.logs player) []

-- that another player holds the channel since one of its steps, in words
abbrev pub holds_words : List Decl → Holder → List ℕ
holds_words decls h = codes ". " ++ player_name decls h.player ++ codes " holds it since its step " ++ decimal h.since

-- the same, and how that player stands
abbrev pub other_words : List Decl → Trace → Holder → List ℕ
other_words decls t h = holds_words decls h ++ how_of t h.player

-- who holds the channel, in words
abbrev pub held_words : List Decl → Trace → ℕ → Holder → List ℕ
held_words decls t player h = if h.player == player then codes ". It holds the channel itself" else other_words decls t h

-- who keeps a player waiting for a channel, in words
abbrev pub keeper_words : List Decl → Trace → ℕ → Awaited → List ℕ
keeper_words decls t player (Channel chan) = option_map_or (λ h. held_words decls t player h) (holder_of t chan) []
keeper_words decls t player awaited = []

-- since which of its steps a player waits, and what for
abbrev pub asked_words : List Decl → ℕ → Awaited → List ℕ
asked_words decls step awaited = codes ", since its step " ++ decimal step ++ awaited_words decls awaited

-- the same, and who keeps it waiting
abbrev pub begun_words : List Decl → Trace → ℕ → ℕ → Awaited → List ℕ
begun_words decls t player step awaited = asked_words decls step awaited ++ keeper_words decls t player awaited

-- the same, of a player with this log
abbrev pub log_words : List Decl → Trace → ℕ → Log → List ℕ
log_words decls t player log = option_map_or (λ awaited. begun_words decls t player (length log.steps - 1) awaited) (awaited_in t log) []

-- the same, of the player of a number
abbrev pub wait_words : List Decl → Trace → ℕ → List ℕ
wait_words decls t player = option_map_or (λ log. log_words decls t player log) (slice_get t.logs player) []
