use Rattle.std.specs.Prelude.{ℕ, ◌^◌, ◌<◌, Option, None, ◌⊎◌, List, [], ◌∷◌, option_map}
use Rattle.std.specs.Str.{bytes_eq}
use Rattle.zk_words.specs.Text.{line_text}
use Rattle.zk_line.specs.declared.types.Decl.{Decl}
use Rattle.zk_line.specs.Objects.{is_chan}
use Rattle.zk_model_bus.specs.declared.observer.ObsOp.{ObsOp}
use Rattle.zk_model_bus.specs.declared.observer.ObsOp.TheVariants as ops
use Rattle.zk_model_bus.specs.declared.observer.ObsReply.{ObsReply}
use Rattle.zk_model_bus.specs.declared.observer.ObsReply.TheVariants as replies
use Rattle.zk_trace.specs.declared.obs.Verb.{Verb}
use Rattle.zk_trace.specs.declared.obs.Verb.TheVariants as verbs
use Rattle.zk_blocks.specs.Choices.{one_of, IsIn}
use Rattle.zk_trace.specs.Fields.{named, one, said_by, wide_of, waits_of, state_of, chan_of, IsOf}
use Rattle.zk_trace.specs.Obs.{verb_word, reply_words}

-- all verbs
abbrev pub all_verbs : List Verb
all_verbs = verbs.Visit ∷ verbs.Take ∷ verbs.TakeEnd ∷ verbs.TakeQuit ∷ verbs.Enable ∷ []

-- the verb of a word
abbrev pub verb_of : List ℕ → Option Verb
verb_of word = named verb_word all_verbs word

-- the operation of a verb and the words behind it
abbrev pub op_behind : List Decl → Verb → List (List ℕ) → Option ObsOp
op_behind decls verbs.Visit words = one ops.Visit (chan_of decls) words
op_behind decls verbs.Take words = one ops.Take waits_of words
op_behind decls verbs.TakeEnd words = one ops.TakeEnd wide_of words
op_behind decls verbs.TakeQuit words = one ops.TakeQuit wide_of words
op_behind decls verbs.Enable words = one ops.Enable state_of words

-- the operation that some words say
abbrev pub op_of : List Decl → List (List ℕ) → Option ObsOp
op_of decls words = said_by verb_word all_verbs (op_behind decls) words

-- its channel is declared, and its number fits its type
abbrev pub FitsOp : List Decl → ObsOp → Type 0
FitsOp decls (ops.Visit channel) = IsOf is_chan decls channel
FitsOp decls (ops.TakeEnd place) = place < 2 ^ 64
FitsOp decls (ops.TakeQuit place) = place < 2 ^ 64
FitsOp decls op = Unit {0}

-- the replies to an operation of a verb that are the same in each line
abbrev pub fixed_replies : Verb → List ObsReply
fixed_replies verbs.Visit = replies.Off ∷ replies.Run ∷ replies.Pushed ∷ replies.Full ∷ []
fixed_replies verbs.Take = replies.NoMsg ∷ replies.Wait ∷ []
fixed_replies verbs.TakeQuit = replies.Again ∷ []
fixed_replies verbs.Enable = replies.Done ∷ []
fixed_replies verb = []

-- a channel, by its name
abbrev pub channel_reply : List Decl → List ℕ → Option ObsReply
channel_reply decls row = option_map replies.Channel (chan_of decls row)

-- the others, by what stands behind the sign
abbrev pub open_reply : List Decl → Verb → List ℕ → Option ObsReply
open_reply decls verbs.Take row = channel_reply decls row
open_reply decls verbs.TakeEnd row = channel_reply decls row
open_reply decls verbs.TakeQuit row = channel_reply decls row
open_reply decls verb row = None

-- which those are
abbrev pub IsChannel : List Decl → ObsReply → Type 0
IsChannel decls (replies.Channel channel) = IsOf is_chan decls channel
IsChannel decls reply = ⊥

abbrev pub FitsOpen : List Decl → Verb → ObsReply → Type 0
FitsOpen decls verbs.Take reply = IsChannel decls reply
FitsOpen decls verbs.TakeEnd reply = IsChannel decls reply
FitsOpen decls verbs.TakeQuit reply = IsChannel decls reply
FitsOpen decls verb reply = ⊥

-- what stands behind the sign
abbrev pub reply_row : List Decl → ObsReply → List ℕ
reply_row decls reply = line_text (reply_words decls reply)

-- the reply to an operation of a verb that stands behind the sign
abbrev pub reply_of : List Decl → Verb → List ℕ → Option ObsReply
reply_of decls verb row = one_of bytes_eq (reply_row decls) (open_reply decls verb) (fixed_replies verb) row

-- the machine can answer so to an operation of a verb
abbrev pub AnswersTo : List Decl → Verb → ObsReply → Type 0
AnswersTo decls verb reply = IsIn reply (fixed_replies verb) ⊎ FitsOpen decls verb reply
