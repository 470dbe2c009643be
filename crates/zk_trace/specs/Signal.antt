use Rattle.std.specs.Prelude.{ℕ, List, [], ◌∷◌, map, codes}
use Rattle.zk_line.specs.declared.types.Decl.{Decl}
use Rattle.zk_model_wait.specs.declared.signal.SignalOp.{SignalOp}
use Rattle.zk_model_wait.specs.declared.signal.SignalOp.TheVariants as ops
use Rattle.zk_model_wait.specs.declared.signal.SignalReply.{SignalReply}
use Rattle.zk_model_wait.specs.declared.signal.SignalReply.TheVariants as replies
use Rattle.zk_trace.specs.declared.signal.Verb.{Verb}
use Rattle.zk_trace.specs.declared.signal.Verb.TheVariants as verbs
use Rattle.zk_trace.specs.declared.parts.Part.{Part}
use Rattle.zk_trace.specs.declared.parts.Part.TheVariants.{Narrow}
use Rattle.zk_trace.specs.Parts.{part_word}

-- the word of a verb
abbrev pub verb_word : Verb → List ℕ
verb_word verbs.Raise = codes "raise"
verb_word verbs.Clear = codes "clear"

-- an operation as it is written: its verb, and what stands behind that
abbrev pub said_of : SignalOp → Verb × List Part
said_of (ops.Raise value) = (verbs.Raise, Narrow value ∷ [])
said_of ops.Clear = (verbs.Clear, [])

-- the words of an operation
abbrev pub op_words : List Decl → SignalOp → List (List ℕ)
op_words decls op = let said = said_of op in verb_word said.0 ∷ map (part_word decls) said.1

-- the parts of a reply
abbrev pub reply_parts : SignalReply → List Part
reply_parts (replies.Stamp stamp) = Narrow stamp ∷ []

-- the words of a reply
abbrev pub reply_words : List Decl → SignalReply → List (List ℕ)
reply_words decls reply = map (part_word decls) (reply_parts reply)
