use Rattle.std.specs.Prelude.{ℕ, List, ◌++◌, codes, decimal}
use Rattle.zk_event.specs.declared.event.EventReply.{EventReply}
use Rattle.zk_event.specs.declared.event.EventReply.TheVariants.{Was, Bits, Wait}

-- the text of each reply
abbrev pub event_text : EventReply → List ℕ
event_text (Was bits) = codes "was " ++ decimal bits
event_text (Bits bits) = codes "bits " ++ decimal bits
event_text Wait = codes "wait"
