use Rattle.std.specs.Prelude.{ℕ, List, [], ◌∷◌, map, codes}
use Rattle.zk_base.specs.declared.errors.Errno.TheVariants.{Busy, Again}
use Rattle.zk_line.specs.declared.types.Decl.{Decl}
use Rattle.zk_model_wait.specs.declared.sem.SemOp.{SemOp}
use Rattle.zk_model_wait.specs.declared.sem.SemOp.TheVariants as ops
use Rattle.zk_model_wait.specs.declared.sem.SemReply.{SemReply}
use Rattle.zk_model_wait.specs.declared.sem.SemReply.TheVariants as replies
use Rattle.zk_trace.specs.declared.sem.Verb.{Verb}
use Rattle.zk_trace.specs.declared.sem.Verb.TheVariants as verbs
use Rattle.zk_trace.specs.declared.parts.FixedWord.TheVariants.{Got, Wait, Done, Ready, NotReady, Armed, Noted, Plain}
use Rattle.zk_trace.specs.declared.parts.Part.{Part}
use Rattle.zk_trace.specs.declared.parts.Part.TheVariants.{Narrow, Place, Waits, Refusal, Fixed}
use Rattle.zk_trace.specs.Parts.{part_word}

-- the word of a verb
abbrev pub verb_word : Verb → List ℕ
verb_word verbs.Take = codes "take"
verb_word verbs.TakeEnd = codes "takeend"
verb_word verbs.TakeQuit = codes "takequit"
verb_word verbs.Give = codes "give"
verb_word verbs.Reset = codes "reset"
verb_word verbs.Count = codes "count"
verb_word verbs.PollArm = codes "pollarm"
verb_word verbs.PollEnd = codes "pollend"
verb_word verbs.PollQuit = codes "pollquit"

-- an operation as it is written: its verb, and what stands behind that
abbrev pub said_of : SemOp → Verb × List Part
said_of (ops.Take waits) = (verbs.Take, Waits waits ∷ [])
said_of (ops.TakeEnd place) = (verbs.TakeEnd, Place place ∷ [])
said_of (ops.TakeQuit place) = (verbs.TakeQuit, Place place ∷ [])
said_of ops.Give = (verbs.Give, [])
said_of ops.Reset = (verbs.Reset, [])
said_of ops.Count = (verbs.Count, [])
said_of (ops.PollArm waits) = (verbs.PollArm, Waits waits ∷ [])
said_of (ops.PollEnd place) = (verbs.PollEnd, Place place ∷ [])
said_of (ops.PollQuit place) = (verbs.PollQuit, Place place ∷ [])

-- the words of an operation
abbrev pub op_words : List Decl → SemOp → List (List ℕ)
op_words decls op = let said = said_of op in verb_word said.0 ∷ map (part_word decls) said.1

-- the parts of a reply
abbrev pub reply_parts : SemReply → List Part
reply_parts replies.Got = Fixed Got ∷ []
reply_parts replies.Busy = Refusal Busy ∷ []
reply_parts replies.Wait = Fixed Wait ∷ []
reply_parts replies.Again = Refusal Again ∷ []
reply_parts replies.Done = Fixed Done ∷ []
reply_parts (replies.Number number) = Narrow number ∷ []
reply_parts replies.Ready = Fixed Ready ∷ []
reply_parts replies.NotReady = Fixed NotReady ∷ []
reply_parts replies.Armed = Fixed Armed ∷ []
reply_parts replies.Noted = Fixed Noted ∷ []
reply_parts replies.Plain = Fixed Plain ∷ []

-- the words of a reply
abbrev pub reply_words : List Decl → SemReply → List (List ℕ)
reply_words decls reply = map (part_word decls) (reply_parts reply)
