-- The text of the scenario is read as the scenario.
use Rattle.std.proofs.Common.{◌≡◌, ℕ, zero, suc, ◌+◌, ◌*◌, ◌%◌, ◌≤◌, None, Ok, List, [], ◌++◌, length, length-append, map, arith, refl, ap, subst, ◌∙◌}
use Rattle.std.specs.Fmt.{digits}
use Rattle.std.specs.List.{flat_map, range_with_len}
use Rattle.std.proofs.Math.Nat.{mod-lt}
use Rattle.zk_scenario.specs.declared.types.Script.{Script}
use Rattle.zk_scenario.specs.Grammar.{scenario_of, IsReadable}
use Rattle.zk_scenario.specs.Reading.{start}
use Rattle.zk_scenario.specs.Spelling.{declared_line, script_lines}
use Rattle.zk_scenario.specs.Valid.{call_count}
use Rattle.zk_soak.specs.Objects.{soak_decls}
use Rattle.zk_soak.specs.Drawn.{x_behind}
use Rattle.zk_soak.specs.Soak.{soak_written, declared_text, thread_script, thread_scripts, item_script, item_scripts, soak_scenario}
use Rattle.zk_soak.proofs.Pieces.{lines_by}
use Rattle.zk_soak.proofs.LinesRead.{IsRead, joined, scenario-read}
use Rattle.zk_soak.proofs.CallsRead.{reading, call_count-cons}
use Rattle.zk_soak.proofs.CallsTaken.{give_taken}
use Rattle.zk_soak.proofs.ScriptsRead.{ArePlayed, scripts_read, length-scripts}
use Rattle.zk_soak.proofs.SoakCalls.{drawn_taken, length-calls_drawn}
use Rattle.zk_soak.proofs.SoakObjects.{sem_there, thread_owner, item_owner}

-- the lines of the declarations are read as the declarations
declared_read : IsRead start (map (declared_line soak_decls) soak_written) (reading soak_decls soak_written [] None)
unfolding digits
declared_read = record { read = refl; each = lines_by (map (declared_line soak_decls) soak_written) refl }

length-declared : length (map (declared_line soak_decls) soak_written) ≡ 40
length-declared = refl

-- the scripts of threads and of what stands behind them
threads_played : (n calls k x behind : ℕ) (more : List Script) → k + n ≡ behind → behind ≤ 12 → ArePlayed soak_decls behind more → ArePlayed soak_decls k (thread_scripts n calls k x ++ more)
threads_played zero calls k x behind more same few played = subst (λ j. ArePlayed soak_decls j more) (omega arith) played
threads_played (suc n) calls k x behind more same few played =
    (omega arith, thread_owner k (omega arith), drawn_taken calls x, threads_played n calls (k + 1) (x_behind calls x) behind more (omega arith) few played)

-- the scripts of items
items_played : (j n k : ℕ) → j + n ≤ 16 → k ≤ 14 + j → ArePlayed soak_decls k (map item_script (range_with_len j n))
items_played j zero k few least = tt
items_played j (suc n) k few least =
    (least, item_owner j (omega arith), (give_taken soak_decls (30 + j % 4) (sem_there (j % 4) (mod-lt j (omega arith))), tt), items_played (j + 1) n (14 + j + 1) (omega arith) (omega arith))

-- how many calls they have, and how many they are
calls_in-threads : (n calls k x : ℕ) (more : List Script) → call_count (thread_scripts n calls k x ++ more) ≡ n * calls + call_count more
calls_in-threads zero calls k x more = omega arith
calls_in-threads (suc n) calls k x more =
    omega (arith, call_count-cons (thread_script k calls x) (thread_scripts n calls (k + 1) (x_behind calls x) ++ more), length-calls_drawn calls x, calls_in-threads n calls (k + 1) (x_behind calls x) more)

calls_in-items : (j n : ℕ) → call_count (map item_script (range_with_len j n)) ≡ n
calls_in-items j zero = omega arith
calls_in-items j (suc n) = omega (arith, call_count-cons (item_script j) (map item_script (range_with_len (j + 1) n)), calls_in-items (j + 1) n)

length-threads : (n calls k x : ℕ) (more : List Script) → length (thread_scripts n calls k x ++ more) ≡ n + length more
length-threads zero calls k x more = omega arith
length-threads (suc n) calls k x more = omega (arith, length-threads n calls (k + 1) (x_behind calls x) more)

-- the declarations with scripts over them are read from their text
scripts_readable : (scripts : List Script) → ArePlayed soak_decls 0 scripts → call_count scripts ≤ 4000 → length scripts ≤ 40 → IsReadable (record { decls = soak_decls; written = soak_written; scripts = scripts })
scripts_readable scripts played calls few =
    let declared : List (List ℕ) = map (declared_line soak_decls) soak_written in
    let lines : List (List ℕ) = flat_map (script_lines soak_decls) scripts in
    let none = reading soak_decls soak_written [] None in
    let all = reading soak_decls soak_written scripts None in
    let rest : IsRead none lines all = scripts_read soak_decls soak_written [] scripts 0 played (λ owner least. refl) (omega (arith, calls)) in
    let long : length (declared ++ lines) ≡ 40 + length lines = length-append declared lines ∙ ap (λ n. n + length lines) length-declared in
    record { read_back = scenario-read (declared ++ lines) all (joined start none all declared lines declared_read rest) refl (omega (arith, long, length-scripts soak_decls scripts, calls, few)) }

-- so is the whole scenario
pub soak_readable : (number : ℕ) → IsReadable (soak_scenario number)
soak_readable number =
    let count : call_count (thread_scripts 12 300 0 number ++ item_scripts) ≡ 3616 = calls_in-threads 12 300 0 number item_scripts ∙ ap (λ n. 3600 + n) (calls_in-items 0 16) in
    let many : length (thread_scripts 12 300 0 number ++ item_scripts) ≡ 28 = length-threads 12 300 0 number item_scripts in
    scripts_readable (thread_scripts 12 300 0 number ++ item_scripts) (threads_played 12 300 0 number 12 item_scripts refl (omega arith) (items_played 0 16 12 (omega arith) (omega arith))) (omega (arith, count)) (omega (arith, many))

-- the declarations alone are a scenario
pub declared_readable : scenario_of declared_text ≡ Ok (record { decls = soak_decls; written = soak_written; scripts = [] })
declared_readable = (scripts_readable [] tt (omega arith) (omega arith)).read_back
