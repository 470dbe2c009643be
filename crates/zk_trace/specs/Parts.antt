use Rattle.std.specs.Prelude.{ℕ, List, [], ◌∷◌, ◌++◌, codes, decimal}
use Rattle.zk_words.specs.declared.slot.Choice.TheVariants.{State, Drain}
use Rattle.zk_words.specs.Hex.{hex_text}
use Rattle.zk_words.specs.Spelled.{choice_text}
use Rattle.zk_line.specs.declared.types.Decl.{Decl}
use Rattle.zk_line.specs.Objects.{name_at}
use Rattle.zk_worker.specs.declared.answers.Answer.{Answer}
use Rattle.zk_worker.specs.declared.answers.Answer.TheVariants as answers
use Rattle.zk_trace.specs.declared.parts.FixedWord.{FixedWord}
use Rattle.zk_trace.specs.declared.parts.FixedWord.TheVariants.{Zero, One, Two, Wait, Done, Already, Now, At, Due, Got}
use Rattle.zk_trace.specs.declared.parts.FixedWord.TheVariants.{Ready, NotReady, Armed, Noted, Plain, Off, Run, Pushed, Full}
use Rattle.zk_trace.specs.declared.parts.Part.{Part}
use Rattle.zk_trace.specs.declared.parts.Part.TheVariants as parts
use Rattle.zk_trace.specs.Looks.{seen_word}
use Rattle.zk_trace.specs.Names.{item_name, queue_name, target_name, checked_name, names_word}
use Rattle.zk_trace.specs.Words.{errno_word, need_word, oops_word, admission_word, flags_word, truth_word, wait_word, ready_word}

-- the text of a fixed word
abbrev pub fixed_word : FixedWord → List ℕ
fixed_word Zero = codes "0"
fixed_word One = codes "1"
fixed_word Two = codes "2"
fixed_word Wait = codes "wait"
fixed_word Done = codes "ok"
fixed_word Already = codes "already"
fixed_word Now = codes "now"
fixed_word At = codes "at"
fixed_word Due = codes "due"
fixed_word Got = codes "got"
fixed_word Ready = codes "ready"
fixed_word NotReady = codes "notready"
fixed_word Armed = codes "armed"
fixed_word Noted = codes "noted"
fixed_word Plain = codes "plain"
fixed_word Off = codes "off"
fixed_word Run = codes "run"
fixed_word Pushed = codes "pushed"
fixed_word Full = codes "full"

-- the text of a part: one word, or several
abbrev pub part_word : List Decl → Part → List ℕ
part_word decls (parts.Item item) = item_name decls item
part_word decls (parts.Queue queue) = queue_name decls queue
part_word decls (parts.Target queue) = target_name decls queue
part_word decls (parts.Object object) = name_at decls object
part_word decls (parts.Objects objects) = names_word decls objects
part_word decls (parts.Checked object) = checked_name decls object
part_word decls (parts.Need need) = need_word need
part_word decls (parts.Narrow number) = decimal number
part_word decls (parts.Wide number) = decimal number
part_word decls (parts.Place place) = decimal place
part_word decls (parts.Admission number) = admission_word number
part_word decls (parts.Plug plug) = choice_text Drain plug
part_word decls (parts.State on) = choice_text State on
part_word decls (parts.Flags flags) = flags_word flags
part_word decls (parts.Truth truth) = truth_word truth
part_word decls (parts.Bytes message) = hex_text message
part_word decls (parts.Seen raised value) = seen_word raised value
part_word decls (parts.Ready positions) = ready_word positions
part_word decls (parts.Waits waits) = wait_word waits
part_word decls (parts.Refusal errno) = errno_word errno
part_word decls (parts.Oops why) = oops_word why
part_word decls (parts.Fixed fixed) = fixed_word fixed

-- the answer of a call
abbrev pub answer_part : Answer → Part
answer_part (answers.Number number) = parts.Wide number
answer_part (answers.Flags flags) = parts.Flags flags
answer_part (answers.Truth truth) = parts.Truth truth
answer_part (answers.Refused errno) = parts.Refusal errno
answer_part (answers.Bytes message) = parts.Bytes message
answer_part (answers.Signal raised value) = parts.Seen raised value
answer_part (answers.Ready positions) = parts.Ready positions
answer_part (answers.Channel channel) = parts.Object channel
answer_part (answers.Oops why) = parts.Oops why

-- words, each behind this byte
abbrev pub each_behind : ℕ → List (List ℕ) → List ℕ
each_behind byte [] = []
each_behind byte (word ∷ words) = byte ∷ word ++ each_behind byte words
