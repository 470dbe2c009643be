use Rattle.std.specs.Prelude.{ℕ, Option, None, ◌⊎◌, List, [], ◌∷◌, option_map}
use Rattle.std.specs.Str.{bytes_eq}
use Rattle.zk_words.specs.Text.{line_text}
use Rattle.zk_line.specs.declared.types.Decl.{Decl}
use Rattle.zk_line.specs.Objects.{is_thread, object_of}
use Rattle.zk_model_bus.specs.declared.table.TableOp.{TableOp}
use Rattle.zk_model_bus.specs.declared.table.TableOp.TheVariants as ops
use Rattle.zk_model_bus.specs.declared.table.TableReply.{TableReply}
use Rattle.zk_model_bus.specs.declared.table.TableReply.TheVariants as replies
use Rattle.zk_trace.specs.declared.table.Verb.{Verb}
use Rattle.zk_trace.specs.declared.table.Verb.TheVariants as verbs
use Rattle.zk_blocks.specs.Choices.{one_of, IsIn}
use Rattle.zk_trace.specs.Fields.{named, bare, one, two, said_by, need_of, thread_of, checked_of, oops_of, IsOf, IsObject, IsChecked}
use Rattle.zk_trace.specs.Table.{verb_word, reply_words}

-- all verbs
abbrev pub all_verbs : List Verb
all_verbs =
    verbs.Check ∷ verbs.Grant ∷ verbs.Revoke ∷ verbs.Release ∷ verbs.Public ∷ verbs.Init ∷ verbs.User ∷ []

-- the verb of a word
abbrev pub verb_of : List ℕ → Option Verb
verb_of word = named verb_word all_verbs word

-- the operation of a verb and the words behind it
abbrev pub op_behind : List Decl → Verb → List (List ℕ) → Option TableOp
op_behind decls verbs.Check words = two ops.Check (checked_of decls) need_of words
op_behind decls verbs.Grant words = two ops.Grant (thread_of decls) (object_of decls) words
op_behind decls verbs.Revoke words = two ops.Revoke (thread_of decls) (object_of decls) words
op_behind decls verbs.Release words = one ops.Release (object_of decls) words
op_behind decls verbs.Public words = one ops.Public (object_of decls) words
op_behind decls verbs.Init words = one ops.Init (object_of decls) words
op_behind decls verbs.User words = bare ops.EnterUser words

-- the operation that some words say
abbrev pub op_of : List Decl → List (List ℕ) → Option TableOp
op_of decls words = said_by verb_word all_verbs (op_behind decls) words

-- its objects are declared, and where it names a thread that is one
abbrev pub FitsOp : List Decl → TableOp → Type 0
FitsOp decls (ops.Check object need) = IsChecked decls object
FitsOp decls (ops.Grant thread object) = IsOf is_thread decls thread × IsObject decls object
FitsOp decls (ops.Revoke thread object) = IsOf is_thread decls thread × IsObject decls object
FitsOp decls (ops.Release object) = IsObject decls object
FitsOp decls (ops.Public object) = IsObject decls object
FitsOp decls (ops.Init object) = IsObject decls object
FitsOp decls ops.EnterUser = Unit {0}

-- the replies to an operation of a verb that are the same in each line
abbrev pub fixed_replies : Verb → List TableReply
fixed_replies verbs.Init = replies.Done ∷ replies.Already ∷ []
fixed_replies verb = replies.Done ∷ []

-- a check that failed
abbrev pub oops_reply : List ℕ → Option TableReply
oops_reply row = option_map replies.Oops (oops_of row)

-- the others, by what stands behind the sign
abbrev pub open_reply : List Decl → Verb → List ℕ → Option TableReply
open_reply decls verbs.Check row = oops_reply row
open_reply decls verb row = None

-- which those are
abbrev pub IsOops : TableReply → Type 0
IsOops (replies.Oops why) = Unit {0}
IsOops reply = ⊥

abbrev pub FitsOpen : List Decl → Verb → TableReply → Type 0
FitsOpen decls verbs.Check reply = IsOops reply
FitsOpen decls verb reply = ⊥

-- what stands behind the sign
abbrev pub reply_row : List Decl → TableReply → List ℕ
reply_row decls reply = line_text (reply_words decls reply)

-- the reply to an operation of a verb that stands behind the sign
abbrev pub reply_of : List Decl → Verb → List ℕ → Option TableReply
reply_of decls verb row = one_of bytes_eq (reply_row decls) (open_reply decls verb) (fixed_replies verb) row

-- the machine can answer so to an operation of a verb
abbrev pub AnswersTo : List Decl → Verb → TableReply → Type 0
AnswersTo decls verb reply = IsIn reply (fixed_replies verb) ⊎ FitsOpen decls verb reply
