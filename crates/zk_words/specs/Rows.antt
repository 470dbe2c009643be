use Rattle.std.specs.Prelude.{ℕ, List}
use Rattle.zk_words.specs.declared.slot.Slot.{Slot}
use Rattle.zk_words.specs.declared.slot.Rest.{Rest}

-- a form of a line: its first word, the slots behind that, and what may stand behind those
pub record Form : Type 0 where
  pub first : List ℕ
  pub slots : List Slot
  pub rest : Rest
