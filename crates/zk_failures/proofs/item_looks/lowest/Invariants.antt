use Rattle.std.proofs.Common.{◌≡◌, ◌≤◌, [], take, All, MatchOption}
use Rattle.std.specs.List.{Contains}
use Rattle.zk_failures.proofs.item_looks.lowest.Given as goal

-- the lowest of those so far
abbrev pub invariant-loop-place : goal.invariant-loop-place
invariant-loop-place l =
    let seen = take l.place-index l.places in
    MatchOption l.lowest (seen ≡ []) (λ lowest. Contains seen lowest × All (λ place. lowest ≤ place) seen)
