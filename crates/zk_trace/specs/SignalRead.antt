use Rattle.std.specs.Prelude.{ℕ, ◌^◌, ◌<◌, Option, ◌⊎◌, List, [], ◌∷◌, option_map}
use Rattle.std.specs.Str.{bytes_eq}
use Rattle.zk_words.specs.Text.{line_text}
use Rattle.zk_line.specs.declared.types.Decl.{Decl}
use Rattle.zk_model_wait.specs.declared.signal.SignalOp.{SignalOp}
use Rattle.zk_model_wait.specs.declared.signal.SignalOp.TheVariants as ops
use Rattle.zk_model_wait.specs.declared.signal.SignalReply.{SignalReply}
use Rattle.zk_model_wait.specs.declared.signal.SignalReply.TheVariants as replies
use Rattle.zk_trace.specs.declared.signal.Verb.{Verb}
use Rattle.zk_trace.specs.declared.signal.Verb.TheVariants as verbs
use Rattle.zk_blocks.specs.Choices.{one_of, IsIn}
use Rattle.zk_trace.specs.Fields.{named, bare, one, said_by, short_of, narrow_of}
use Rattle.zk_trace.specs.Signal.{verb_word, reply_words}

-- all verbs
abbrev pub all_verbs : List Verb
all_verbs = verbs.Raise ∷ verbs.Clear ∷ []

-- the verb of a word
abbrev pub verb_of : List ℕ → Option Verb
verb_of word = named verb_word all_verbs word

-- the operation of a verb and the words behind it
abbrev pub op_behind : List Decl → Verb → List (List ℕ) → Option SignalOp
op_behind decls verbs.Raise words = one ops.Raise short_of words
op_behind decls verbs.Clear words = bare ops.Clear words

-- the operation that some words say
abbrev pub op_of : List Decl → List (List ℕ) → Option SignalOp
op_of decls words = said_by verb_word all_verbs (op_behind decls) words

-- its number fits its type
abbrev pub FitsOp : List Decl → SignalOp → Type 0
FitsOp decls (ops.Raise value) = value < 2 ^ 16
FitsOp decls ops.Clear = Unit {0}

-- the replies to an operation of a verb that are the same in each line: none
abbrev pub fixed_replies : Verb → List SignalReply
fixed_replies verb = []

-- the others, by what stands behind the sign
abbrev pub open_reply : List Decl → Verb → List ℕ → Option SignalReply
open_reply decls verb row = option_map replies.Stamp (narrow_of row)

-- which those are
abbrev pub FitsOpen : List Decl → Verb → SignalReply → Type 0
FitsOpen decls verb (replies.Stamp stamp) = stamp < 2 ^ 32

-- what stands behind the sign
abbrev pub reply_row : List Decl → SignalReply → List ℕ
reply_row decls reply = line_text (reply_words decls reply)

-- the reply to an operation of a verb that stands behind the sign
abbrev pub reply_of : List Decl → Verb → List ℕ → Option SignalReply
reply_of decls verb row = one_of bytes_eq (reply_row decls) (open_reply decls verb) (fixed_replies verb) row

-- the machine can answer so to an operation of a verb
abbrev pub AnswersTo : List Decl → Verb → SignalReply → Type 0
AnswersTo decls verb reply = IsIn reply (fixed_replies verb) ⊎ FitsOpen decls verb reply
