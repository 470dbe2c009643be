-- The answers of player after player.
use Rattle.std.proofs.Common.{◌≡◌, ℕ, ◌+◌, ◌<◌, Bool, ◌||◌, nat_lt, suc, List, ◌∷◌, ◌++◌, map, length, drop, get_or, sym, ap, ◌∙◌, append_assoc, arith}
use Rattle.std.proofs.Math.Seq.{drop-cons}
use Rattle.std.proofs.lemmas.List.{length-map}
use Rattle.zk_worker.specs.declared.answers.Answered.{Answered}
use Rattle.zk_worker.specs.declared.log.Log.{Log}
use Rattle.zk_show_json.specs.Arrays.{parts}
use Rattle.zk_show_json.specs.Values.{answered, by_player}
use Rattle.zk_show_json.proofs.Arrays.{parts-append}

-- those of a player are put, and those of the players behind it are left
pub logs-on : (text : ℕ × Answered → List ℕ) (logs : List Log) (player : ℕ) (log : Log) (begun more : Bool) (old new whole : List ℕ) →
    player < length logs → log ≡ get_or logs player log → more ≡ (begun || nat_lt 0 (length log.answers)) →
    new ≡ old ++ parts text begun (map (by_player player) log.answers) →
    old ++ parts text begun (answered player (drop player logs)) ≡ whole →
    new ++ parts text more (answered (player + 1) (drop (player + 1) logs)) ≡ whole
logs-on text logs player log begun more old new whole within is says put before =
    let next : suc player ≡ player + 1 = omega arith in
    let mine : List (ℕ × Answered) = map (by_player player) log.answers in
    let rest : List (ℕ × Answered) = answered (player + 1) (drop (player + 1) logs) in
    let left : drop player logs ≡ log ∷ drop (player + 1) logs =
    drop-cons logs player log within ∙ ap (λ (l : Log). l ∷ drop (suc player) logs) (sym is) ∙ ap (λ (n : ℕ). log ∷ drop n logs) next in
    let parted : parts text begun (answered player (drop player logs)) ≡ parts text begun mine ++ parts text more rest =
    ap (λ (ls : List Log). parts text begun (answered player ls)) left ∙ parts-append text begun mine rest ∙
    ap (λ (n : ℕ). parts text begun mine ++ parts text (begun || nat_lt 0 n) rest) (length-map log.answers (by_player player)) ∙
    ap (λ (b : Bool). parts text begun mine ++ parts text b rest) (sym says) in
    ap (λ (l : List ℕ). l ++ parts text more rest) put ∙ append_assoc old (parts text begun mine) (parts text more rest) ∙
    ap (λ (l : List ℕ). old ++ l) (sym parted) ∙ before
