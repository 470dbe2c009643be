use Rattle.std.specs.Prelude.{ℕ, List, ◌++◌, codes, decimal}
use Rattle.zk_scenario.specs.declared.refused.Why.{Why}
use Rattle.zk_scenario.specs.Reasons.{reason_word}

-- the line of a refusal: which line of the input, and why
abbrev pub refusal_text : ℕ → Why → List ℕ
refusal_text line why =
    codes "refused " ++ decimal line ++ codes " " ++ reason_word why ++ codes "\n"
