use Rattle.std.specs.Prelude.{ℕ, List, [], ◌∷◌, map, codes}
use Rattle.zk_base.specs.declared.errors.Errno.TheVariants.{Again, NoMsg}
use Rattle.zk_line.specs.declared.types.Decl.{Decl}
use Rattle.zk_model_wait.specs.declared.msgq.MsgqOp.{MsgqOp}
use Rattle.zk_model_wait.specs.declared.msgq.MsgqOp.TheVariants as ops
use Rattle.zk_model_wait.specs.declared.msgq.MsgqReply.{MsgqReply}
use Rattle.zk_model_wait.specs.declared.msgq.MsgqReply.TheVariants as replies
use Rattle.zk_trace.specs.declared.msgq.Verb.{Verb}
use Rattle.zk_trace.specs.declared.msgq.Verb.TheVariants as verbs
use Rattle.zk_trace.specs.declared.parts.FixedWord.TheVariants.{Wait, Done, Ready, NotReady, Armed, Noted, Plain}
use Rattle.zk_trace.specs.declared.parts.Part.{Part}
use Rattle.zk_trace.specs.declared.parts.Part.TheVariants.{Narrow, Place, Bytes, Waits, Refusal, Fixed}
use Rattle.zk_trace.specs.Parts.{part_word}

-- the word of a verb
abbrev pub verb_word : Verb → List ℕ
verb_word verbs.Put = codes "put"
verb_word verbs.PutFront = codes "putfront"
verb_word verbs.PutEnd = codes "putend"
verb_word verbs.PutQuit = codes "putquit"
verb_word verbs.Get = codes "get"
verb_word verbs.GetEnd = codes "getend"
verb_word verbs.GetQuit = codes "getquit"
verb_word verbs.Peek = codes "peek"
verb_word verbs.PeekAt = codes "peekat"
verb_word verbs.Purge = codes "purge"
verb_word verbs.Used = codes "used"
verb_word verbs.Free = codes "free"
verb_word verbs.PollArm = codes "pollarm"
verb_word verbs.PollEnd = codes "pollend"
verb_word verbs.PollQuit = codes "pollquit"

-- an operation as it is written: its verb, and what stands behind that
abbrev pub said_of : MsgqOp → Verb × List Part
said_of (ops.Put message waits) = (verbs.Put, Bytes message ∷ Waits waits ∷ [])
said_of (ops.PutFront message) = (verbs.PutFront, Bytes message ∷ [])
said_of (ops.PutEnd place) = (verbs.PutEnd, Place place ∷ [])
said_of (ops.PutQuit place) = (verbs.PutQuit, Place place ∷ [])
said_of (ops.Get waits) = (verbs.Get, Waits waits ∷ [])
said_of (ops.GetEnd place) = (verbs.GetEnd, Place place ∷ [])
said_of (ops.GetQuit place) = (verbs.GetQuit, Place place ∷ [])
said_of ops.Peek = (verbs.Peek, [])
said_of (ops.PeekAt index) = (verbs.PeekAt, Narrow index ∷ [])
said_of ops.Purge = (verbs.Purge, [])
said_of ops.Used = (verbs.Used, [])
said_of ops.Free = (verbs.Free, [])
said_of (ops.PollArm waits) = (verbs.PollArm, Waits waits ∷ [])
said_of (ops.PollEnd place) = (verbs.PollEnd, Place place ∷ [])
said_of (ops.PollQuit place) = (verbs.PollQuit, Place place ∷ [])

-- the words of an operation
abbrev pub op_words : List Decl → MsgqOp → List (List ℕ)
op_words decls op = let said = said_of op in verb_word said.0 ∷ map (part_word decls) said.1

-- the parts of a reply
abbrev pub reply_parts : MsgqReply → List Part
reply_parts replies.Done = Fixed Done ∷ []
reply_parts replies.NoMsg = Refusal NoMsg ∷ []
reply_parts replies.Wait = Fixed Wait ∷ []
reply_parts replies.Again = Refusal Again ∷ []
reply_parts (replies.Bytes message) = Bytes message ∷ []
reply_parts (replies.Number number) = Narrow number ∷ []
reply_parts replies.Ready = Fixed Ready ∷ []
reply_parts replies.NotReady = Fixed NotReady ∷ []
reply_parts replies.Armed = Fixed Armed ∷ []
reply_parts replies.Noted = Fixed Noted ∷ []
reply_parts replies.Plain = Fixed Plain ∷ []

-- the words of a reply
abbrev pub reply_words : List Decl → MsgqReply → List (List ℕ)
reply_words decls reply = map (part_word decls) (reply_parts reply)
