use Rattle.std.proofs.Common.{[]}
use Rattle.zk_blocks.specs.Blocks.{given_of}
use Rattle.zk_blocks.specs.Sections.{plain_section_of}
use Rattle.zk_line.specs.Objects.{is_met, name_of}
use Rattle.zk_trace.specs.SectionRead.{plain_head_of, has_player}
use Rattle.zk_trace.proofs.RowsRead.{each_more}
use Rattle.zk_trace.proofs.rows_read.read_family.Goals as goal

pub loop-decl-preserved : goal.loop-decl-preserved
loop-decl-preserved g c =
    let decls = c.args.scenario.now.decls in
    let read = rw c.in-Some.is at c.in_ok-rows.ensures in
    rw c.in_ok-push-in-Some.ensures.items
    (each_more (λ d. given_of (is_met c.args.need d) [] (plain_section_of (has_player decls) (plain_head_of c.args.format (name_of d)) (g.E.Row.says decls)))
    c.decls-decls.result.now c.loop-decl.decl-index c.decl-item.result c.loop-decl.all.items c.in-Some.rows
    c.args.feed.now c.loop-decl.feed c.read_given.new.feed c.loop-decl-test.true c.decl-item.is c.loop-decl.invariant read)
