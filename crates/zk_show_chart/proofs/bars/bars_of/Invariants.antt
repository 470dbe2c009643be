use Rattle.std.proofs.Common.{◌≡◌, All, ◌++◌, map, length, drop, vec_len}
use Rattle.zk_scenario.specs.Players.{players}
use Rattle.zk_show_chart.specs.Bars.{IsAbove, players_of, start, runs_of, AreInOrder}
use Rattle.zk_show_chart.specs.Marks.{begun_rows}
use Rattle.zk_show_chart.proofs.bars.bars_of.Given as goal

-- the bars of the rows so far
abbrev pub invariant-loop-row : goal.invariant-loop-row
invariant-loop-row l =
    let count = length (players l.scenario.decls) in
    record {
      lanes : vec_len l.lanes ≡ count;
      each : All (IsAbove (players_of l.drawn) l.row) l.bars.items;
      order : AreInOrder (map start l.bars.items);
      runs : runs_of (map start l.bars.items) ++ begun_rows l.trace count l.row (drop l.row l.drawn) ≡ begun_rows l.trace count 0 l.drawn;
    }
