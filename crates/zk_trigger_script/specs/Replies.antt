use Rattle.std.specs.Prelude.{ℕ, List, ◌++◌, codes, decimal}
use Rattle.zk_model_trigger.specs.declared.ops.Cause.{Cause}
use Rattle.zk_model_trigger.specs.declared.ops.Cause.TheVariants.{Event, Time}
use Rattle.zk_model_trigger.specs.declared.ops.TriggerReply.{TriggerReply}
use Rattle.zk_model_trigger.specs.declared.ops.TriggerReply.TheVariants.{Armed, Busy, Done, Inval, Now, Fire}

-- why an arm has fired, behind its queue
abbrev pub cause_text : Cause → List ℕ
cause_text (Event event) = codes " event " ++ decimal event
cause_text Time = codes " time"

-- `fire NUMBER ITEM QUEUE` and the cause
abbrev pub fire_text : ℕ → ℕ → ℕ → Cause → List ℕ
fire_text number item queue cause =
    codes "fire " ++ decimal number ++ codes " " ++ decimal item ++ codes " " ++ decimal queue ++ cause_text cause

-- the text of each reply
abbrev pub trigger_text : TriggerReply → List ℕ
trigger_text (Armed number) = codes "armed " ++ decimal number
trigger_text Busy = codes "busy"
trigger_text Done = codes "ok"
trigger_text Inval = codes "inval"
trigger_text (Now ticks) = codes "now " ++ decimal ticks
trigger_text (Fire number item queue cause) = fire_text number item queue cause
