use Rattle.std.specs.Prelude.{ℕ, ◌^◌, ◌<◌, Option, None, ◌⊎◌, List, [], ◌∷◌, option_map}
use Rattle.std.specs.Str.{bytes_eq}
use Rattle.zk_words.specs.Hex.{msg_of}
use Rattle.zk_words.specs.Text.{line_text}
use Rattle.zk_line.specs.declared.types.Decl.{Decl}
use Rattle.zk_line.specs.Objects.{is_observer}
use Rattle.zk_model_bus.specs.declared.channel.ChanOp.{ChanOp}
use Rattle.zk_model_bus.specs.declared.channel.ChanOp.TheVariants as ops
use Rattle.zk_model_bus.specs.declared.channel.ChanReply.{ChanReply}
use Rattle.zk_model_bus.specs.declared.channel.ChanReply.TheVariants as replies
use Rattle.zk_trace.specs.declared.chan.Verb.{Verb}
use Rattle.zk_trace.specs.declared.chan.Verb.TheVariants as verbs
use Rattle.zk_trace.specs.Chan.{verb_word, reply_words}
use Rattle.zk_blocks.specs.Choices.{one_of, IsIn}
use Rattle.zk_trace.specs.Fields.{named, bare, one, two, said_by, wide_of, waits_of, state_of, observer_of, observers_of, IsOf, IsMessage, AreObservers}

-- all verbs
abbrev pub all_verbs : List Verb
all_verbs =
    verbs.Offer ∷ verbs.Enter ∷ verbs.Claim ∷ verbs.ClaimEnd ∷ verbs.ClaimQuit ∷ verbs.Set
    ∷ verbs.List ∷ verbs.Get ∷ verbs.Free ∷ verbs.Finish ∷ verbs.Mask ∷ []

-- the verb of a word
abbrev pub verb_of : List ℕ → Option Verb
verb_of word = named verb_word all_verbs word

-- the operation of a verb and the words behind it
abbrev pub op_behind : List Decl → Verb → List (List ℕ) → Option ChanOp
op_behind decls verbs.Offer words = two ops.Offer msg_of waits_of words
op_behind decls verbs.Enter words = one ops.Enter waits_of words
op_behind decls verbs.Claim words = one ops.Claim waits_of words
op_behind decls verbs.ClaimEnd words = one ops.ClaimEnd wide_of words
op_behind decls verbs.ClaimQuit words = one ops.ClaimQuit wide_of words
op_behind decls verbs.Set words = one ops.Set msg_of words
op_behind decls verbs.List words = bare ops.List words
op_behind decls verbs.Get words = bare ops.Get words
op_behind decls verbs.Free words = bare ops.Free words
op_behind decls verbs.Finish words = bare ops.Finish words
op_behind decls verbs.Mask words = two ops.Mask (observer_of decls) state_of words

-- the operation that some words say
abbrev pub op_of : List Decl → List (List ℕ) → Option ChanOp
op_of decls words = said_by verb_word all_verbs (op_behind decls) words

-- its message is one, its number fits its type, and its observer is declared
abbrev pub FitsOp : List Decl → ChanOp → Type 0
FitsOp decls (ops.Offer message waits) = IsMessage message
FitsOp decls (ops.ClaimEnd place) = place < 2 ^ 64
FitsOp decls (ops.ClaimQuit place) = place < 2 ^ 64
FitsOp decls (ops.Set message) = IsMessage message
FitsOp decls (ops.Mask observer on) = IsOf is_observer decls observer
FitsOp decls op = Unit {0}

-- the replies to an operation of a verb that are the same in each line
abbrev pub fixed_replies : Verb → List ChanReply
fixed_replies verbs.Offer = replies.Got ∷ replies.Busy ∷ replies.Wait ∷ replies.NoMsg ∷ []
fixed_replies verbs.Enter = replies.Got ∷ replies.Busy ∷ replies.Wait ∷ []
fixed_replies verbs.Claim = replies.Got ∷ replies.Busy ∷ replies.Wait ∷ []
fixed_replies verbs.ClaimEnd = replies.Got ∷ []
fixed_replies verbs.ClaimQuit = replies.Got ∷ replies.Again ∷ []
fixed_replies verbs.Free = replies.Done ∷ []
fixed_replies verbs.Finish = replies.Done ∷ replies.Inval ∷ []
fixed_replies verbs.Mask = replies.Done ∷ replies.Inval ∷ []
fixed_replies verb = []

-- the others, by what stands behind the sign
abbrev pub open_reply : List Decl → Verb → List ℕ → Option ChanReply
open_reply decls verbs.Set row = option_map replies.Observers (observers_of decls row)
open_reply decls verbs.List row = option_map replies.Observers (observers_of decls row)
open_reply decls verbs.Get row = option_map replies.Bytes (msg_of row)
open_reply decls verb row = None

-- which those are
abbrev pub IsTold : List Decl → ChanReply → Type 0
IsTold decls (replies.Observers told) = AreObservers decls told
IsTold decls reply = ⊥

abbrev pub IsBytes : ChanReply → Type 0
IsBytes (replies.Bytes message) = IsMessage message
IsBytes reply = ⊥

abbrev pub FitsOpen : List Decl → Verb → ChanReply → Type 0
FitsOpen decls verbs.Set reply = IsTold decls reply
FitsOpen decls verbs.List reply = IsTold decls reply
FitsOpen decls verbs.Get reply = IsBytes reply
FitsOpen decls verb reply = ⊥

-- what stands behind the sign
abbrev pub reply_row : List Decl → ChanReply → List ℕ
reply_row decls reply = line_text (reply_words decls reply)

-- the reply to an operation of a verb that stands behind the sign
abbrev pub reply_of : List Decl → Verb → List ℕ → Option ChanReply
reply_of decls verb row = one_of bytes_eq (reply_row decls) (open_reply decls verb) (fixed_replies verb) row

-- the machine can answer so to an operation of a verb
abbrev pub AnswersTo : List Decl → Verb → ChanReply → Type 0
AnswersTo decls verb reply = IsIn reply (fixed_replies verb) ⊎ FitsOpen decls verb reply
