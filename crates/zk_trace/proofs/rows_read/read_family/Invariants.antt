use Rattle.std.proofs.Common.{◌≡◌, drop}
use Rattle.zk_blocks.specs.Blocks.{made_of}
use Rattle.zk_blocks.specs.Each.{put_front}
use Rattle.zk_blocks.specs.Families.{plain_family_of}
use Rattle.zk_line.specs.Objects.{is_met, name_of}
use Rattle.zk_trace.specs.SectionRead.{plain_head_of, has_player}
use Rattle.zk_trace.proofs.rows_read.read_family.Given as goal

abbrev pub invariant-loop-decl : goal.invariant-loop-decl
invariant-loop-decl g l =
    let decls = l.scenario.decls in
    let family = plain_family_of (is_met l.need) name_of (has_player decls) (plain_head_of l.format) (λ d. g.E.Row.says decls) in
    family l.decls l.fn.feed ≡ made_of (put_front l.all.items) (family (drop l.decl-index l.decls) l.feed)
