use Rattle.std.specs.Prelude.{ℕ, ◌^◌, ◌<◌, Option, None, ◌⊎◌, List, [], ◌∷◌, option_map}
use Rattle.std.specs.Str.{bytes_eq}
use Rattle.zk_words.specs.Hex.{msg_of}
use Rattle.zk_words.specs.Text.{line_text}
use Rattle.zk_line.specs.declared.types.Decl.{Decl}
use Rattle.zk_model_wait.specs.declared.msgq.MsgqOp.{MsgqOp}
use Rattle.zk_model_wait.specs.declared.msgq.MsgqOp.TheVariants as ops
use Rattle.zk_model_wait.specs.declared.msgq.MsgqReply.{MsgqReply}
use Rattle.zk_model_wait.specs.declared.msgq.MsgqReply.TheVariants as replies
use Rattle.zk_trace.specs.declared.msgq.Verb.{Verb}
use Rattle.zk_trace.specs.declared.msgq.Verb.TheVariants as verbs
use Rattle.zk_blocks.specs.Choices.{one_of, IsIn}
use Rattle.zk_trace.specs.Fields.{named, bare, one, two, said_by, wide_of, narrow_of, waits_of, IsMessage}
use Rattle.zk_trace.specs.Msgq.{verb_word, reply_words}

-- all verbs
abbrev pub all_verbs : List Verb
all_verbs =
    verbs.Put ∷ verbs.PutFront ∷ verbs.PutEnd ∷ verbs.PutQuit ∷ verbs.Get ∷ verbs.GetEnd ∷ verbs.GetQuit
    ∷ verbs.Peek ∷ verbs.PeekAt ∷ verbs.Purge ∷ verbs.Used ∷ verbs.Free ∷ verbs.PollArm ∷ verbs.PollEnd ∷ verbs.PollQuit ∷ []

-- the verb of a word
abbrev pub verb_of : List ℕ → Option Verb
verb_of word = named verb_word all_verbs word

-- the operation of a verb and the words behind it
abbrev pub op_behind : List Decl → Verb → List (List ℕ) → Option MsgqOp
op_behind decls verbs.Put words = two ops.Put msg_of waits_of words
op_behind decls verbs.PutFront words = one ops.PutFront msg_of words
op_behind decls verbs.PutEnd words = one ops.PutEnd wide_of words
op_behind decls verbs.PutQuit words = one ops.PutQuit wide_of words
op_behind decls verbs.Get words = one ops.Get waits_of words
op_behind decls verbs.GetEnd words = one ops.GetEnd wide_of words
op_behind decls verbs.GetQuit words = one ops.GetQuit wide_of words
op_behind decls verbs.Peek words = bare ops.Peek words
op_behind decls verbs.PeekAt words = one ops.PeekAt narrow_of words
op_behind decls verbs.Purge words = bare ops.Purge words
op_behind decls verbs.Used words = bare ops.Used words
op_behind decls verbs.Free words = bare ops.Free words
op_behind decls verbs.PollArm words = one ops.PollArm waits_of words
op_behind decls verbs.PollEnd words = one ops.PollEnd wide_of words
op_behind decls verbs.PollQuit words = one ops.PollQuit wide_of words

-- the operation that some words say
abbrev pub op_of : List Decl → List (List ℕ) → Option MsgqOp
op_of decls words = said_by verb_word all_verbs (op_behind decls) words

-- its message is one, and its numbers fit their types
abbrev pub FitsOp : List Decl → MsgqOp → Type 0
FitsOp decls (ops.Put message waits) = IsMessage message
FitsOp decls (ops.PutFront message) = IsMessage message
FitsOp decls (ops.PutEnd place) = place < 2 ^ 64
FitsOp decls (ops.PutQuit place) = place < 2 ^ 64
FitsOp decls (ops.GetEnd place) = place < 2 ^ 64
FitsOp decls (ops.GetQuit place) = place < 2 ^ 64
FitsOp decls (ops.PeekAt index) = index < 2 ^ 32
FitsOp decls (ops.PollEnd place) = place < 2 ^ 64
FitsOp decls (ops.PollQuit place) = place < 2 ^ 64
FitsOp decls op = Unit {0}

-- the replies to an operation of a verb that are the same in each line
abbrev pub fixed_replies : Verb → List MsgqReply
fixed_replies verbs.Put = replies.Done ∷ replies.NoMsg ∷ replies.Wait ∷ []
fixed_replies verbs.PutFront = replies.Done ∷ replies.NoMsg ∷ []
fixed_replies verbs.PutEnd = replies.Done ∷ replies.NoMsg ∷ []
fixed_replies verbs.PutQuit = replies.Done ∷ replies.NoMsg ∷ replies.Again ∷ []
fixed_replies verbs.Get = replies.NoMsg ∷ replies.Wait ∷ []
fixed_replies verbs.GetQuit = replies.Again ∷ []
fixed_replies verbs.Peek = replies.NoMsg ∷ []
fixed_replies verbs.PeekAt = replies.NoMsg ∷ []
fixed_replies verbs.Purge = replies.Done ∷ []
fixed_replies verbs.PollArm = replies.Ready ∷ replies.NotReady ∷ replies.Armed ∷ []
fixed_replies verbs.PollEnd = replies.Noted ∷ []
fixed_replies verbs.PollQuit = replies.Noted ∷ replies.Plain ∷ []
fixed_replies verb = []

-- a message, or how many
abbrev pub bytes_reply : List ℕ → Option MsgqReply
bytes_reply row = option_map replies.Bytes (msg_of row)

abbrev pub number_reply : List ℕ → Option MsgqReply
number_reply row = option_map replies.Number (narrow_of row)

-- the others, by what stands behind the sign
abbrev pub open_reply : List Decl → Verb → List ℕ → Option MsgqReply
open_reply decls verbs.Get row = bytes_reply row
open_reply decls verbs.GetEnd row = bytes_reply row
open_reply decls verbs.GetQuit row = bytes_reply row
open_reply decls verbs.Peek row = bytes_reply row
open_reply decls verbs.PeekAt row = bytes_reply row
open_reply decls verbs.Used row = number_reply row
open_reply decls verbs.Free row = number_reply row
open_reply decls verb row = None

-- which those are
abbrev pub IsBytes : MsgqReply → Type 0
IsBytes (replies.Bytes message) = IsMessage message
IsBytes reply = ⊥

abbrev pub IsNumber : MsgqReply → Type 0
IsNumber (replies.Number number) = number < 2 ^ 32
IsNumber reply = ⊥

abbrev pub FitsOpen : List Decl → Verb → MsgqReply → Type 0
FitsOpen decls verbs.Get reply = IsBytes reply
FitsOpen decls verbs.GetEnd reply = IsBytes reply
FitsOpen decls verbs.GetQuit reply = IsBytes reply
FitsOpen decls verbs.Peek reply = IsBytes reply
FitsOpen decls verbs.PeekAt reply = IsBytes reply
FitsOpen decls verbs.Used reply = IsNumber reply
FitsOpen decls verbs.Free reply = IsNumber reply
FitsOpen decls verb reply = ⊥

-- what stands behind the sign
abbrev pub reply_row : List Decl → MsgqReply → List ℕ
reply_row decls reply = line_text (reply_words decls reply)

-- the reply to an operation of a verb that stands behind the sign
abbrev pub reply_of : List Decl → Verb → List ℕ → Option MsgqReply
reply_of decls verb row = one_of bytes_eq (reply_row decls) (open_reply decls verb) (fixed_replies verb) row

-- the machine can answer so to an operation of a verb
abbrev pub AnswersTo : List Decl → Verb → MsgqReply → Type 0
AnswersTo decls verb reply = IsIn reply (fixed_replies verb) ⊎ FitsOpen decls verb reply
