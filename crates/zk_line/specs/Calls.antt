use Rattle.std.specs.Prelude.{Bool, true, false, List, [], ◌∷◌, map, Option, Some, None, option_map, option_to_list}
use Rattle.zk_words.specs.declared.slot.Choice.TheVariants.{State, Drain}
use Rattle.zk_words.specs.declared.word.Word.{Word}
use Rattle.zk_words.specs.declared.word.Word.TheVariants as word
use Rattle.zk_line.specs.declared.types.Arg.{Arg}
use Rattle.zk_line.specs.declared.types.Arg.TheVariants.{Object, Number, Truth, Bytes, Wait, Event}
use Rattle.zk_line.specs.declared.events.Event.{Event as PollEvent}
use Rattle.zk_line.specs.declared.types.Call.{Call}
use Rattle.zk_line.specs.declared.types.Call.TheVariants as call
use Rattle.zk_line.specs.Shapes.{as_object, as_number, as_result, as_truth, as_bytes, as_wait, alone, one, two, three, one_or_two, wait_events}

-- a call as it is written: its word, and what stands behind that
pub record Saying : Type 0 where
  pub word : Word
  pub args : List Arg

-- a word and what stands behind it
abbrev pub saying : Word → List Arg → Saying
saying word args = record { word = word; args = args }

-- the call of a word and what stands behind it
abbrev pub call_of : Word → List Arg → Option Call
call_of word.Submit args = option_map (λ p. call.Submit p.0 p.1) (one_or_two as_object as_object args)
call_of word.Cancel args = option_map call.Cancel (one as_object args)
call_of word.CancelSync args = option_map call.CancelSync (one as_object args)
call_of word.Flush args = option_map call.Flush (one as_object args)
call_of word.Schedule args = option_map (λ p. call.Schedule p.0 p.1 p.2) (three as_object as_object as_number args)
call_of word.Reschedule args = option_map (λ p. call.Reschedule p.0 p.1 p.2) (three as_object as_object as_number args)
call_of word.Remaining args = option_map call.Remaining (one as_object args)
call_of word.Busy args = option_map call.Busy (one as_object args)
call_of word.Start args = option_map call.Start (one as_object args)
call_of word.Drain args = option_map (λ p. call.Drain p.0 p.1) (two as_object (as_truth Drain) args)
call_of word.Unplug args = option_map call.Unplug (one as_object args)
call_of word.Stop args = option_map call.Stop (one as_object args)
call_of word.Tick args = option_map call.Tick (one as_number args)
call_of word.Take args = option_map (λ p. call.Take p.0 p.1) (two as_object as_wait args)
call_of word.Give args = option_map call.Give (one as_object args)
call_of word.Reset args = option_map call.Reset (one as_object args)
call_of word.Count args = option_map call.Count (one as_object args)
call_of word.Put args = option_map (λ p. call.Put p.0 p.1 p.2) (three as_object as_bytes as_wait args)
call_of word.PutFront args = option_map (λ p. call.PutFront p.0 p.1) (two as_object as_bytes args)
call_of word.Get args = option_map (λ p. call.Get p.0 p.1) (two as_object as_wait args)
call_of word.Peek args = option_map call.Peek (one as_object args)
call_of word.PeekAt args = option_map (λ p. call.PeekAt p.0 p.1) (two as_object as_number args)
call_of word.Purge args = option_map call.Purge (one as_object args)
call_of word.Used args = option_map call.Used (one as_object args)
call_of word.Free args = option_map call.Free (one as_object args)
call_of word.Raise args = option_map (λ p. call.Raise p.0 p.1) (two as_object as_result args)
call_of word.Clear args = option_map call.Clear (one as_object args)
call_of word.Check args = option_map call.Check (one as_object args)
call_of word.Poll args = option_map (λ p. call.Poll p.0 p.1) (wait_events args)
call_of word.Claim args = option_map (λ p. call.Claim p.0 p.1) (two as_object as_wait args)
call_of word.Finish args = option_map call.Finish (one as_object args)
call_of word.Publish args = option_map (λ p. call.Publish p.0 p.1 p.2) (three as_object as_bytes as_wait args)
call_of word.Notify args = option_map (λ p. call.Notify p.0 p.1) (two as_object as_wait args)
call_of word.Read args = option_map (λ p. call.Read p.0 p.1) (two as_object as_wait args)
call_of word.Mask args = option_map (λ p. call.Mask p.0 p.1 p.2) (three as_object as_object (as_truth State) args)
call_of word.Enable args = option_map (λ p. call.Enable p.0 p.1) (two as_object (as_truth State) args)
call_of word.SubWait args = option_map (λ p. call.SubWait p.0 p.1) (two as_object as_wait args)
call_of word.Grant args = option_map (λ p. call.Grant p.0 p.1) (two as_object as_object args)
call_of word.Release args = option_map call.Release (one as_object args)
call_of word.Revoke args = option_map (λ p. call.Revoke p.0 p.1) (two as_object as_object args)
call_of word.Public args = option_map call.Public (one as_object args)
call_of word.Init args = option_map call.Init (one as_object args)
call_of word.User args = alone call.User args

-- how a call is written
abbrev pub said_of : Call → Saying
said_of (call.Submit item queue) = saying word.Submit (Object item ∷ option_to_list (option_map Object queue))
said_of (call.Cancel item) = saying word.Cancel (Object item ∷ [])
said_of (call.CancelSync item) = saying word.CancelSync (Object item ∷ [])
said_of (call.Flush item) = saying word.Flush (Object item ∷ [])
said_of (call.Schedule item queue delay) = saying word.Schedule (Object item ∷ Object queue ∷ Number delay ∷ [])
said_of (call.Reschedule item queue delay) = saying word.Reschedule (Object item ∷ Object queue ∷ Number delay ∷ [])
said_of (call.Remaining item) = saying word.Remaining (Object item ∷ [])
said_of (call.Busy item) = saying word.Busy (Object item ∷ [])
said_of (call.Start queue) = saying word.Start (Object queue ∷ [])
said_of (call.Drain queue plug) = saying word.Drain (Object queue ∷ Truth Drain plug ∷ [])
said_of (call.Unplug queue) = saying word.Unplug (Object queue ∷ [])
said_of (call.Stop queue) = saying word.Stop (Object queue ∷ [])
said_of (call.Tick ticks) = saying word.Tick (Number ticks ∷ [])
said_of (call.Take sem wait) = saying word.Take (Object sem ∷ Wait wait ∷ [])
said_of (call.Give sem) = saying word.Give (Object sem ∷ [])
said_of (call.Reset sem) = saying word.Reset (Object sem ∷ [])
said_of (call.Count sem) = saying word.Count (Object sem ∷ [])
said_of (call.Put msgq message wait) = saying word.Put (Object msgq ∷ Bytes message ∷ Wait wait ∷ [])
said_of (call.PutFront msgq message) = saying word.PutFront (Object msgq ∷ Bytes message ∷ [])
said_of (call.Get msgq wait) = saying word.Get (Object msgq ∷ Wait wait ∷ [])
said_of (call.Peek msgq) = saying word.Peek (Object msgq ∷ [])
said_of (call.PeekAt msgq index) = saying word.PeekAt (Object msgq ∷ Number index ∷ [])
said_of (call.Purge msgq) = saying word.Purge (Object msgq ∷ [])
said_of (call.Used msgq) = saying word.Used (Object msgq ∷ [])
said_of (call.Free msgq) = saying word.Free (Object msgq ∷ [])
said_of (call.Raise signal result) = saying word.Raise (Object signal ∷ Number result ∷ [])
said_of (call.Clear signal) = saying word.Clear (Object signal ∷ [])
said_of (call.Check signal) = saying word.Check (Object signal ∷ [])
said_of (call.Poll wait events) = saying word.Poll (Wait wait ∷ map Event events)
said_of (call.Claim channel wait) = saying word.Claim (Object channel ∷ Wait wait ∷ [])
said_of (call.Finish channel) = saying word.Finish (Object channel ∷ [])
said_of (call.Publish channel message wait) = saying word.Publish (Object channel ∷ Bytes message ∷ Wait wait ∷ [])
said_of (call.Notify channel wait) = saying word.Notify (Object channel ∷ Wait wait ∷ [])
said_of (call.Read channel wait) = saying word.Read (Object channel ∷ Wait wait ∷ [])
said_of (call.Mask channel observer on) = saying word.Mask (Object channel ∷ Object observer ∷ Truth State on ∷ [])
said_of (call.Enable observer on) = saying word.Enable (Object observer ∷ Truth State on ∷ [])
said_of (call.SubWait sub wait) = saying word.SubWait (Object sub ∷ Wait wait ∷ [])
said_of (call.Grant thread object) = saying word.Grant (Object thread ∷ Object object ∷ [])
said_of (call.Release object) = saying word.Release (Object object ∷ [])
said_of (call.Revoke thread object) = saying word.Revoke (Object thread ∷ Object object ∷ [])
said_of (call.Public object) = saying word.Public (Object object ∷ [])
said_of (call.Init object) = saying word.Init (Object object ∷ [])
said_of call.User = saying word.User []

-- the word of a call
abbrev pub word_of : Call → Word
word_of call = (said_of call).word

-- whether a call makes its caller a user
abbrev pub is_user_call : Call → Bool
is_user_call call.User = true
is_user_call call = false

-- those arguments that stand
abbrev pub standing : List (Option Arg) → List Arg
standing [] = []
standing (None ∷ args) = standing args
standing (Some arg ∷ args) = arg ∷ standing args

-- the arguments that events are, where there are any
abbrev pub events_said : Option (List PollEvent) → List Arg
events_said None = []
events_said (Some events) = map Event events
