use Rattle.std.proofs.Common.{◌≡◌, max, drop}
use Rattle.zk_show_text.specs.Layout.{longest}
use Rattle.zk_show_text.proofs.layout.longest_service.Given as goal

-- the longest so far or of what is left is the longest
abbrev pub invariant-loop-row : goal.invariant-loop-row
invariant-loop-row l = max l.most (longest (λ r. r.service.now) (drop l.row-index l.rows)) ≡ longest (λ r. r.service.now) l.rows
