use Rattle.std.specs.Prelude.{ℕ, ◌^◌, ◌<◌, Option, None, ◌⊎◌, List, [], ◌∷◌}
use Rattle.std.specs.Str.{bytes_eq}
use Rattle.zk_words.specs.Pieces.{words_of}
use Rattle.zk_words.specs.Text.{line_text}
use Rattle.zk_line.specs.declared.types.Decl.{Decl}
use Rattle.zk_model_wait.specs.declared.clock.ClockOp.{ClockOp}
use Rattle.zk_model_wait.specs.declared.clock.ClockOp.TheVariants as ops
use Rattle.zk_model_wait.specs.declared.clock.ClockReply.{ClockReply}
use Rattle.zk_model_wait.specs.declared.clock.ClockReply.TheVariants as replies
use Rattle.zk_trace.specs.declared.clock.Verb.{Verb}
use Rattle.zk_trace.specs.declared.clock.Verb.TheVariants as verbs
use Rattle.zk_trace.specs.declared.parts.FixedWord.TheVariants.{Now, At}
use Rattle.zk_blocks.specs.Choices.{one_of, IsIn}
use Rattle.zk_trace.specs.Clock.{verb_word, reply_words}
use Rattle.zk_trace.specs.Fields.{named, one, said_behind, said_by, wide_of, narrow_of}
use Rattle.zk_trace.specs.Parts.{fixed_word}

-- all verbs
abbrev pub all_verbs : List Verb
all_verbs = verbs.Announce ∷ verbs.Alarm ∷ verbs.AlarmEnd ∷ []

-- the verb of a word
abbrev pub verb_of : List ℕ → Option Verb
verb_of word = named verb_word all_verbs word

-- the operation of a verb and the words behind it
abbrev pub op_behind : List Decl → Verb → List (List ℕ) → Option ClockOp
op_behind decls verbs.Announce words = one ops.Announce narrow_of words
op_behind decls verbs.Alarm words = one ops.Alarm narrow_of words
op_behind decls verbs.AlarmEnd words = one ops.AlarmEnd wide_of words

-- the operation that some words say
abbrev pub op_of : List Decl → List (List ℕ) → Option ClockOp
op_of decls words = said_by verb_word all_verbs (op_behind decls) words

-- its numbers fit their types
abbrev pub FitsOp : List Decl → ClockOp → Type 0
FitsOp decls (ops.Announce ticks) = ticks < 2 ^ 32
FitsOp decls (ops.Alarm ticks) = ticks < 2 ^ 32
FitsOp decls (ops.AlarmEnd moment) = moment < 2 ^ 64

-- the replies to an operation of a verb that are the same in each line
abbrev pub fixed_replies : Verb → List ClockReply
fixed_replies verbs.AlarmEnd = replies.Due ∷ []
fixed_replies verb = []

-- the others, by what stands behind the sign
abbrev pub open_reply : List Decl → Verb → List ℕ → Option ClockReply
open_reply decls verbs.Announce row = said_behind (fixed_word Now) (one replies.Now wide_of) (words_of row)
open_reply decls verbs.Alarm row = said_behind (fixed_word At) (one replies.At wide_of) (words_of row)
open_reply decls verb row = None

-- which the others are
abbrev pub FitsOpen : List Decl → Verb → ClockReply → Type 0
FitsOpen decls verbs.Announce (replies.Now time) = time < 2 ^ 64
FitsOpen decls verbs.Alarm (replies.At moment) = moment < 2 ^ 64
FitsOpen decls verb reply = ⊥

-- what stands behind the sign
abbrev pub reply_row : List Decl → ClockReply → List ℕ
reply_row decls reply = line_text (reply_words decls reply)

-- the reply to an operation of a verb that stands behind the sign
abbrev pub reply_of : List Decl → Verb → List ℕ → Option ClockReply
reply_of decls verb row = one_of bytes_eq (reply_row decls) (open_reply decls verb) (fixed_replies verb) row

-- the machine can answer so to an operation of a verb
abbrev pub AnswersTo : List Decl → Verb → ClockReply → Type 0
AnswersTo decls verb reply = IsIn reply (fixed_replies verb) ⊎ FitsOpen decls verb reply
