use Rattle.std.specs.Prelude.{ℕ, List, ◌++◌, codes, decimal}
use Rattle.zk_scenario.specs.declared.refused.Why.{Why}
use Rattle.zk_scenario.specs.Reasons.{reason_word}

-- the first line of a refusal: the number of the refused line, and the reason
abbrev pub refusal_head : ℕ → Why → List ℕ
refusal_head line why = codes "line " ++ decimal line ++ codes ": " ++ reason_word why ++ codes "\n"
