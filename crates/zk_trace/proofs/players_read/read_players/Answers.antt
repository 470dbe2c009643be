use Rattle.std.proofs.Common.{◌≡◌, ℕ, ◌<◌, ◌≤◌, List, length, get_or, arith}
use Rattle.std.proofs.lemmas.List.FromFn.{length-range_with_len, get_or-range_with_len}
use Rattle.zk_line.specs.declared.types.Decl.{Decl}
use Rattle.zk_scenario.specs.Players.{players}
use Rattle.zk_trace.specs.Form.{player_numbers}
use Rattle.zk_trace.specs.WholeRead.{read_player}
use Rattle.zk_trace.proofs.RowsRead.{each_more, each_less, each_end}
use Rattle.zk_trace.proofs.players_read.read_players.Goals as goal

-- a player has its number, and there are as many numbers as players
within : (decls : List Decl) (player count : ℕ) → count ≡ length (players decls) → player < count → player < length (player_numbers decls)
within decls player count is below = omega (arith, length-range_with_len 0 (length (players decls)))

there : (decls : List Decl) (player count : ℕ) → count ≡ length (players decls) → player < count → player ≡ get_or (player_numbers decls) player player
there decls player count is below =
    let below_all : player < length (players decls) = omega arith in
    omega (arith, get_or-range_with_len 0 (length (players decls)) player player below_all)

past : (decls : List Decl) (player count : ℕ) → count ≡ length (players decls) → count ≤ player → length (player_numbers decls) ≤ player
past decls player count is above = omega (arith, length-range_with_len 0 (length (players decls)))

pub returns-in-None : goal.returns-in-None
returns-in-None c =
    let decls = c.args.scenario.now.decls in
    let player = c.loop-player.player in
    let count = c.players-player-end.result in
    let read = rw c.in-None.is at c.in_ok-one.ensures in
    each_less (read_player c.args.format decls) (player_numbers decls) player c.loop-player.all.items c.args.feed.now c.loop-player.feed c.read_player.new.feed c.loop-player.invariant
    player (within decls player count c.players-player-end.ensures c.loop-player-test.true) (there decls player count c.players-player-end.ensures c.loop-player-test.true) read

pub loop-player-preserved : goal.loop-player-preserved
loop-player-preserved c =
    let decls = c.args.scenario.now.decls in
    let player = c.loop-player.player in
    let count = c.players-player-end.result in
    let read = rw c.in-Some.is at c.in_ok-one.ensures in
    rw c.in_ok-push-in-Some.ensures.items
    (each_more (read_player c.args.format decls) (player_numbers decls) player player c.loop-player.all.items c.in-Some.one c.args.feed.now c.loop-player.feed c.read_player.new.feed
    (within decls player count c.players-player-end.ensures c.loop-player-test.true) (there decls player count c.players-player-end.ensures c.loop-player-test.true) c.loop-player.invariant read)

pub returns : goal.returns
returns c =
    let decls = c.args.scenario.now.decls in
    let player = c.loop-player.player in
    rw c.from_vec.ensures
    (each_end (read_player c.args.format decls) (player_numbers decls) player c.loop-player.all.items c.args.feed.now c.loop-player.feed c.loop-player.feed c.loop-player.invariant
    (past decls player c.players-player-end.result c.players-player-end.ensures c.loop-player-test.false))
