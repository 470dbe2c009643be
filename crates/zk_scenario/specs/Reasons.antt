use Rattle.std.specs.Prelude.{ℕ, List, codes}
use Rattle.zk_scenario.specs.declared.refused.Why.{Why}
use Rattle.zk_scenario.specs.declared.refused.Why.TheVariants.{Header, Line, Order, Number, Name, Limit, Length}

-- the word of a reason
abbrev pub reason_word : Why → List ℕ
reason_word Header = codes "header"
reason_word Line = codes "line"
reason_word Order = codes "order"
reason_word Number = codes "number"
reason_word Name = codes "name"
reason_word Limit = codes "limit"
reason_word Length = codes "length"
