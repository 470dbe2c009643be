use Rattle.std.proofs.Common.{◌≡◌, ◌+◌, ◌≤◌, [], length}
use Rattle.zk_side.specs.declared.limits.TheConstants.{MOST_LINES}
use Rattle.zk_side.specs.Kept.{printed}
use Rattle.zk_side.specs.Played.{stage_of}
use Rattle.zk_side.proofs.play.play_lines.Given as goal

-- what stands there and what is put of the lines that are left is the whole output
abbrev pub invariant-loop-next : goal.invariant-loop-next
invariant-loop-next g l =
    let stage = stage_of g.S.Target.Service.machine l.initial.players.start g.S.Side.op_of g.S.Side.reply_text in
    record {
      same : printed stage l.number l.players.history l.out.put l.line l.lines
          ≡ printed stage 2 [] l.initial.out.put l.initial.first l.initial.lines;
      short : length l.players.history ≤ l.number;
      few : l.number ≤ MOST_LINES + 1;
      start : l.players.start ≡ l.initial.players.start;
      front : l.out.front ≡ l.initial.out.front;
    }

abbrev pub decreases-loop-next : goal.decreases-loop-next
decreases-loop-next g l = length l.lines
