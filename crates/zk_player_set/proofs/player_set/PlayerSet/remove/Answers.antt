use Rattle.std.proofs.Common.{ℕ, ◌/◌, set, ltb, ◌&&◌, ap, ◌∙◌, arith}
use Rattle.zk_base.specs.Limits.{most_players}
use Rattle.zk_player_set.specs.Players.{word_bits, has_player}
use Rattle.zk_player_set.proofs.BitWords.{removed}
use Rattle.zk_player_set.proofs.player_set.PlayerSet.remove.Goals as goal

pub returns-then-player-lt-MOST_PLAYERS : goal.returns-then-player-lt-MOST_PLAYERS
returns-then-player-lt-MOST_PLAYERS c = λ other.
    let words = c.args.self.now.words in
    let player = c.args.player in
    ap (λ (w : ℕ). ltb other most_players && has_player (set words (player / word_bits) w) other) c.without_bit.ensures
    ∙ removed words player other (omega arith)
