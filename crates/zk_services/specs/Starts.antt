use Rattle.std.specs.Prelude.{ℕ, zero, suc, option_to_list, List, [], ◌++◌}
use Rattle.zk_scenario.specs.Content.{Content}
use Rattle.zk_worker.specs.Places.{PlayerPlace}
use Rattle.zk_worker.specs.Protocol.{start_at}

-- the players with lower numbers, none of which has made a step
abbrev pub starts : Content → ℕ → List PlayerPlace
starts s zero = []
starts s (suc n) = starts s n ++ option_to_list (start_at s n)
