use Rattle.std.proofs.Common.{◌≡◌, ℕ, ◌+◌, Option, [], ◌++◌, take, drop, map}
use Rattle.std.specs.Option.{option_map}
use Rattle.zk_services.specs.Objects.{starts_of, histories_of}
use Rattle.zk_failures.specs.Answering.{FirstAmong, line_count}
use Rattle.zk_failures.proofs.unlike.first_among.Given as goal

-- what is found behind the objects so far is found in all; their histories are those, and the others have none
abbrev pub invariant-loop-object : goal.invariant-loop-object
invariant-loop-object g l =
    let service = g.S.Service in
    let starts = starts_of service.start l.initial.objects.items in
    record {
      counted : l.lines + line_count l.looks l.object (drop l.object l.histories) ≡ line_count l.looks 0 l.histories;
      found : (row : Option ℕ) → FirstAmong service.machine l.looks l.object (drop l.object starts) (drop l.object l.histories) row →
          FirstAmong service.machine l.looks 0 starts l.histories (option_map (λ n. l.lines + n) row);
      histories : histories_of service.history l.objects.items ≡ take l.object l.histories ++ map (λ h. []) (drop l.object l.histories);
      starts : starts_of service.start l.objects.items ≡ starts;
    }
