use Rattle.std.specs.Prelude.{ℕ, List, [], ◌∷◌, map, codes}
use Rattle.zk_base.specs.declared.errors.Errno.TheVariants.{Busy, Again, NoMsg, Inval}
use Rattle.zk_line.specs.declared.types.Decl.{Decl}
use Rattle.zk_model_bus.specs.declared.channel.ChanOp.{ChanOp}
use Rattle.zk_model_bus.specs.declared.channel.ChanOp.TheVariants as ops
use Rattle.zk_model_bus.specs.declared.channel.ChanReply.{ChanReply}
use Rattle.zk_model_bus.specs.declared.channel.ChanReply.TheVariants as replies
use Rattle.zk_trace.specs.declared.chan.Verb.{Verb}
use Rattle.zk_trace.specs.declared.chan.Verb.TheVariants as verbs
use Rattle.zk_trace.specs.declared.parts.FixedWord.TheVariants.{Got, Wait, Done}
use Rattle.zk_trace.specs.declared.parts.Part.{Part}
use Rattle.zk_trace.specs.declared.parts.Part.TheVariants.{Place, Object, Objects, Bytes, Waits, State, Refusal, Fixed}
use Rattle.zk_trace.specs.Parts.{part_word}

-- the word of a verb
abbrev pub verb_word : Verb → List ℕ
verb_word verbs.Offer = codes "offer"
verb_word verbs.Enter = codes "enter"
verb_word verbs.Claim = codes "claim"
verb_word verbs.ClaimEnd = codes "claimend"
verb_word verbs.ClaimQuit = codes "claimquit"
verb_word verbs.Set = codes "set"
verb_word verbs.List = codes "list"
verb_word verbs.Get = codes "get"
verb_word verbs.Free = codes "free"
verb_word verbs.Finish = codes "finish"
verb_word verbs.Mask = codes "mask"

-- an operation as it is written: its verb, and what stands behind that
abbrev pub said_of : ChanOp → Verb × List Part
said_of (ops.Offer message waits) = (verbs.Offer, Bytes message ∷ Waits waits ∷ [])
said_of (ops.Enter waits) = (verbs.Enter, Waits waits ∷ [])
said_of (ops.Claim waits) = (verbs.Claim, Waits waits ∷ [])
said_of (ops.ClaimEnd place) = (verbs.ClaimEnd, Place place ∷ [])
said_of (ops.ClaimQuit place) = (verbs.ClaimQuit, Place place ∷ [])
said_of (ops.Set message) = (verbs.Set, Bytes message ∷ [])
said_of ops.List = (verbs.List, [])
said_of ops.Get = (verbs.Get, [])
said_of ops.Free = (verbs.Free, [])
said_of ops.Finish = (verbs.Finish, [])
said_of (ops.Mask observer on) = (verbs.Mask, Object observer ∷ State on ∷ [])

-- the words of an operation
abbrev pub op_words : List Decl → ChanOp → List (List ℕ)
op_words decls op = let said = said_of op in verb_word said.0 ∷ map (part_word decls) said.1

-- the parts of a reply
abbrev pub reply_parts : ChanReply → List Part
reply_parts replies.Got = Fixed Got ∷ []
reply_parts replies.Busy = Refusal Busy ∷ []
reply_parts replies.Wait = Fixed Wait ∷ []
reply_parts replies.Again = Refusal Again ∷ []
reply_parts replies.NoMsg = Refusal NoMsg ∷ []
reply_parts (replies.Observers told) = Objects told ∷ []
reply_parts (replies.Bytes message) = Bytes message ∷ []
reply_parts replies.Done = Fixed Done ∷ []
reply_parts replies.Inval = Refusal Inval ∷ []

-- the words of a reply
abbrev pub reply_words : List Decl → ChanReply → List (List ℕ)
reply_words decls reply = map (part_word decls) (reply_parts reply)
