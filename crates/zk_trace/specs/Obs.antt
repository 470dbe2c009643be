use Rattle.std.specs.Prelude.{ℕ, List, [], ◌∷◌, map, codes}
use Rattle.zk_base.specs.declared.errors.Errno.TheVariants.{Again, NoMsg}
use Rattle.zk_line.specs.declared.types.Decl.{Decl}
use Rattle.zk_model_bus.specs.declared.observer.ObsOp.{ObsOp}
use Rattle.zk_model_bus.specs.declared.observer.ObsOp.TheVariants as ops
use Rattle.zk_model_bus.specs.declared.observer.ObsReply.{ObsReply}
use Rattle.zk_model_bus.specs.declared.observer.ObsReply.TheVariants as replies
use Rattle.zk_trace.specs.declared.obs.Verb.{Verb}
use Rattle.zk_trace.specs.declared.obs.Verb.TheVariants as verbs
use Rattle.zk_trace.specs.declared.parts.FixedWord.TheVariants.{Wait, Done, Off, Run, Pushed, Full}
use Rattle.zk_trace.specs.declared.parts.Part.{Part}
use Rattle.zk_trace.specs.declared.parts.Part.TheVariants.{Place, Object, Waits, State, Refusal, Fixed}
use Rattle.zk_trace.specs.Parts.{part_word}

-- the word of a verb
abbrev pub verb_word : Verb → List ℕ
verb_word verbs.Visit = codes "visit"
verb_word verbs.Take = codes "take"
verb_word verbs.TakeEnd = codes "takeend"
verb_word verbs.TakeQuit = codes "takequit"
verb_word verbs.Enable = codes "enable"

-- an operation as it is written: its verb, and what stands behind that
abbrev pub said_of : ObsOp → Verb × List Part
said_of (ops.Visit channel) = (verbs.Visit, Object channel ∷ [])
said_of (ops.Take waits) = (verbs.Take, Waits waits ∷ [])
said_of (ops.TakeEnd place) = (verbs.TakeEnd, Place place ∷ [])
said_of (ops.TakeQuit place) = (verbs.TakeQuit, Place place ∷ [])
said_of (ops.Enable on) = (verbs.Enable, State on ∷ [])

-- the words of an operation
abbrev pub op_words : List Decl → ObsOp → List (List ℕ)
op_words decls op = let said = said_of op in verb_word said.0 ∷ map (part_word decls) said.1

-- the parts of a reply
abbrev pub reply_parts : ObsReply → List Part
reply_parts replies.Off = Fixed Off ∷ []
reply_parts replies.Run = Fixed Run ∷ []
reply_parts replies.Pushed = Fixed Pushed ∷ []
reply_parts replies.Full = Fixed Full ∷ []
reply_parts (replies.Channel channel) = Object channel ∷ []
reply_parts replies.NoMsg = Refusal NoMsg ∷ []
reply_parts replies.Wait = Fixed Wait ∷ []
reply_parts replies.Again = Refusal Again ∷ []
reply_parts replies.Done = Fixed Done ∷ []

-- the words of a reply
abbrev pub reply_words : List Decl → ObsReply → List (List ℕ)
reply_words decls reply = map (part_word decls) (reply_parts reply)
