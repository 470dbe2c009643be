use Rattle.std.specs.Prelude.{ℕ, List, [], ◌∷◌, map, codes}
use Rattle.zk_line.specs.declared.types.Decl.{Decl}
use Rattle.zk_model_wait.specs.declared.clock.ClockOp.{ClockOp}
use Rattle.zk_model_wait.specs.declared.clock.ClockOp.TheVariants as ops
use Rattle.zk_model_wait.specs.declared.clock.ClockReply.{ClockReply}
use Rattle.zk_model_wait.specs.declared.clock.ClockReply.TheVariants as replies
use Rattle.zk_trace.specs.declared.clock.Verb.{Verb}
use Rattle.zk_trace.specs.declared.clock.Verb.TheVariants as verbs
use Rattle.zk_trace.specs.declared.parts.FixedWord.TheVariants.{Now, At, Due}
use Rattle.zk_trace.specs.declared.parts.Part.{Part}
use Rattle.zk_trace.specs.declared.parts.Part.TheVariants.{Narrow, Wide, Fixed}
use Rattle.zk_trace.specs.Parts.{part_word}

-- the word of a verb
abbrev pub verb_word : Verb → List ℕ
verb_word verbs.Announce = codes "announce"
verb_word verbs.Alarm = codes "alarm"
verb_word verbs.AlarmEnd = codes "alarmend"

-- an operation as it is written: its verb, and what stands behind that
abbrev pub said_of : ClockOp → Verb × List Part
said_of (ops.Announce ticks) = (verbs.Announce, Narrow ticks ∷ [])
said_of (ops.Alarm ticks) = (verbs.Alarm, Narrow ticks ∷ [])
said_of (ops.AlarmEnd moment) = (verbs.AlarmEnd, Wide moment ∷ [])

-- the words of an operation
abbrev pub op_words : List Decl → ClockOp → List (List ℕ)
op_words decls op = let said = said_of op in verb_word said.0 ∷ map (part_word decls) said.1

-- the parts of a reply
abbrev pub reply_parts : ClockReply → List Part
reply_parts (replies.Now time) = Fixed Now ∷ Wide time ∷ []
reply_parts (replies.At moment) = Fixed At ∷ Wide moment ∷ []
reply_parts replies.Due = Fixed Due ∷ []

-- the words of a reply
abbrev pub reply_words : List Decl → ClockReply → List (List ℕ)
reply_words decls reply = map (part_word decls) (reply_parts reply)
