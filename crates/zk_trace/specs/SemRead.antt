use Rattle.std.specs.Prelude.{ℕ, ◌^◌, ◌<◌, Option, None, ◌⊎◌, List, [], ◌∷◌, option_map}
use Rattle.std.specs.Str.{bytes_eq}
use Rattle.zk_words.specs.Text.{line_text}
use Rattle.zk_line.specs.declared.types.Decl.{Decl}
use Rattle.zk_model_wait.specs.declared.sem.SemOp.{SemOp}
use Rattle.zk_model_wait.specs.declared.sem.SemOp.TheVariants as ops
use Rattle.zk_model_wait.specs.declared.sem.SemReply.{SemReply}
use Rattle.zk_model_wait.specs.declared.sem.SemReply.TheVariants as replies
use Rattle.zk_trace.specs.declared.sem.Verb.{Verb}
use Rattle.zk_trace.specs.declared.sem.Verb.TheVariants as verbs
use Rattle.zk_blocks.specs.Choices.{one_of, IsIn}
use Rattle.zk_trace.specs.Fields.{named, bare, one, said_by, wide_of, narrow_of, waits_of}
use Rattle.zk_trace.specs.Sem.{verb_word, reply_words}

-- all verbs
abbrev pub all_verbs : List Verb
all_verbs =
    verbs.Take ∷ verbs.TakeEnd ∷ verbs.TakeQuit ∷ verbs.Give ∷ verbs.Reset ∷ verbs.Count
    ∷ verbs.PollArm ∷ verbs.PollEnd ∷ verbs.PollQuit ∷ []

-- the verb of a word
abbrev pub verb_of : List ℕ → Option Verb
verb_of word = named verb_word all_verbs word

-- the operation of a verb and the words behind it
abbrev pub op_behind : List Decl → Verb → List (List ℕ) → Option SemOp
op_behind decls verbs.Take words = one ops.Take waits_of words
op_behind decls verbs.TakeEnd words = one ops.TakeEnd wide_of words
op_behind decls verbs.TakeQuit words = one ops.TakeQuit wide_of words
op_behind decls verbs.Give words = bare ops.Give words
op_behind decls verbs.Reset words = bare ops.Reset words
op_behind decls verbs.Count words = bare ops.Count words
op_behind decls verbs.PollArm words = one ops.PollArm waits_of words
op_behind decls verbs.PollEnd words = one ops.PollEnd wide_of words
op_behind decls verbs.PollQuit words = one ops.PollQuit wide_of words

-- the operation that some words say
abbrev pub op_of : List Decl → List (List ℕ) → Option SemOp
op_of decls words = said_by verb_word all_verbs (op_behind decls) words

-- its numbers fit their types
abbrev pub FitsOp : List Decl → SemOp → Type 0
FitsOp decls (ops.TakeEnd place) = place < 2 ^ 64
FitsOp decls (ops.TakeQuit place) = place < 2 ^ 64
FitsOp decls (ops.PollEnd place) = place < 2 ^ 64
FitsOp decls (ops.PollQuit place) = place < 2 ^ 64
FitsOp decls op = Unit {0}

-- the replies to an operation of a verb that are the same in each line
abbrev pub fixed_replies : Verb → List SemReply
fixed_replies verbs.Take = replies.Got ∷ replies.Busy ∷ replies.Wait ∷ []
fixed_replies verbs.TakeEnd = replies.Got ∷ replies.Again ∷ []
fixed_replies verbs.TakeQuit = replies.Got ∷ replies.Again ∷ []
fixed_replies verbs.Give = replies.Done ∷ []
fixed_replies verbs.Reset = replies.Done ∷ []
fixed_replies verbs.PollArm = replies.Ready ∷ replies.NotReady ∷ replies.Armed ∷ []
fixed_replies verbs.PollEnd = replies.Noted ∷ []
fixed_replies verbs.PollQuit = replies.Noted ∷ replies.Plain ∷ []
fixed_replies verb = []

-- the others, by what stands behind the sign
abbrev pub open_reply : List Decl → Verb → List ℕ → Option SemReply
open_reply decls verbs.Count row = option_map replies.Number (narrow_of row)
open_reply decls verb row = None

-- which the others are
abbrev pub FitsOpen : List Decl → Verb → SemReply → Type 0
FitsOpen decls verbs.Count (replies.Number number) = number < 2 ^ 32
FitsOpen decls verb reply = ⊥

-- what stands behind the sign
abbrev pub reply_row : List Decl → SemReply → List ℕ
reply_row decls reply = line_text (reply_words decls reply)

-- the reply to an operation of a verb that stands behind the sign
abbrev pub reply_of : List Decl → Verb → List ℕ → Option SemReply
reply_of decls verb row = one_of bytes_eq (reply_row decls) (open_reply decls verb) (fixed_replies verb) row

-- the machine can answer so to an operation of a verb
abbrev pub AnswersTo : List Decl → Verb → SemReply → Type 0
AnswersTo decls verb reply = IsIn reply (fixed_replies verb) ⊎ FitsOpen decls verb reply
