-- Inner: no contract of a top call is made of this file.
use Rattle.std.specs.Prelude.{◌≡◌, List, None, IsSome}
use Rattle.zk_words.specs.declared.word.Head.{Head}
use Rattle.zk_words.specs.Lines.{IsForm}
use Rattle.zk_words.specs.Parts.{Placed}
use Rattle.zk_scenario.specs.Reading.{Reading}
use Rattle.zk_scenario.specs.Verdict.{verdict, after}

-- a line to which no reason applies says something
abbrev pub AlwaysSays : Type 0
AlwaysSays =
    (r : Reading) (head : Head) (parts : List Placed) → IsForm head parts → verdict r head parts ≡ None → IsSome (after r head parts)
