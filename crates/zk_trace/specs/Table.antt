use Rattle.std.specs.Prelude.{ℕ, List, [], ◌∷◌, map, codes}
use Rattle.zk_line.specs.declared.types.Decl.{Decl}
use Rattle.zk_model_bus.specs.declared.table.TableOp.{TableOp}
use Rattle.zk_model_bus.specs.declared.table.TableOp.TheVariants as ops
use Rattle.zk_model_bus.specs.declared.table.TableReply.{TableReply}
use Rattle.zk_model_bus.specs.declared.table.TableReply.TheVariants as replies
use Rattle.zk_trace.specs.declared.table.Verb.{Verb}
use Rattle.zk_trace.specs.declared.table.Verb.TheVariants as verbs
use Rattle.zk_trace.specs.declared.parts.FixedWord.TheVariants.{Done, Already}
use Rattle.zk_trace.specs.declared.parts.Part.{Part}
use Rattle.zk_trace.specs.declared.parts.Part.TheVariants.{Object, Checked, Need, Oops, Fixed}
use Rattle.zk_trace.specs.Parts.{part_word}

-- the word of a verb
abbrev pub verb_word : Verb → List ℕ
verb_word verbs.Check = codes "check"
verb_word verbs.Grant = codes "grant"
verb_word verbs.Revoke = codes "revoke"
verb_word verbs.Release = codes "release"
verb_word verbs.Public = codes "public"
verb_word verbs.Init = codes "init"
verb_word verbs.User = codes "user"

-- an operation as it is written: its verb, and what stands behind that
abbrev pub said_of : TableOp → Verb × List Part
said_of (ops.Check object need) = (verbs.Check, Checked object ∷ Need need ∷ [])
said_of (ops.Grant thread object) = (verbs.Grant, Object thread ∷ Object object ∷ [])
said_of (ops.Revoke thread object) = (verbs.Revoke, Object thread ∷ Object object ∷ [])
said_of (ops.Release object) = (verbs.Release, Object object ∷ [])
said_of (ops.Public object) = (verbs.Public, Object object ∷ [])
said_of (ops.Init object) = (verbs.Init, Object object ∷ [])
said_of ops.EnterUser = (verbs.User, [])

-- the words of an operation
abbrev pub op_words : List Decl → TableOp → List (List ℕ)
op_words decls op = let said = said_of op in verb_word said.0 ∷ map (part_word decls) said.1

-- the parts of a reply
abbrev pub reply_parts : TableReply → List Part
reply_parts replies.Done = Fixed Done ∷ []
reply_parts replies.Already = Fixed Already ∷ []
reply_parts (replies.Oops why) = Oops why ∷ []

-- the words of a reply
abbrev pub reply_words : List Decl → TableReply → List (List ℕ)
reply_words decls reply = map (part_word decls) (reply_parts reply)
