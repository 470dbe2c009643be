use Rattle.std.proofs.Common.{◌≡◌, max, drop}
use Rattle.zk_line.specs.Objects.{name_at}
use Rattle.zk_show_text.specs.Layout.{longest}
use Rattle.zk_show_text.proofs.layout.longest_of.Given as goal

-- the longest so far or of what is left is the longest
abbrev pub invariant-loop-object : goal.invariant-loop-object
invariant-loop-object l = max l.most (longest (name_at l.decls) (drop l.object-index l.objects)) ≡ longest (name_at l.decls) l.objects
