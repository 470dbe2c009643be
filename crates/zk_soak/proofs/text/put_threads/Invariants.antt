use Rattle.std.proofs.Common.{◌≡◌, ◌++◌, ◌-◌}
use Rattle.std.specs.List.{flat_map}
use Rattle.zk_scenario.specs.Spelling.{script_lines, lines_text}
use Rattle.zk_soak.specs.Soak.{thread_scripts}
use Rattle.zk_soak.proofs.text.put_threads.Given as goal

-- what was written, and the scripts that are left, are all
abbrev pub invariant-loop-thread : goal.invariant-loop-thread
invariant-loop-thread l =
    l.out.items ++ flat_map (λ script. lines_text (script_lines l.decls script)) (thread_scripts (l.threads - l.thread) l.calls l.thread l.draws)
    ≡ l.initial.out.items ++ flat_map (λ script. lines_text (script_lines l.decls script)) (thread_scripts l.threads l.calls 0 l.initial.draws)
