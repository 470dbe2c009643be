use Rattle.std.proofs.Common.{◌≡◌, max, drop}
use Rattle.zk_show_text.specs.Layout.{longest}
use Rattle.zk_show_text.specs.Words.{words_of}
use Rattle.zk_show_text.proofs.layout.longest_words.Given as goal

-- the longest so far or of what is left is the longest
abbrev pub invariant-loop-row : goal.invariant-loop-row
invariant-loop-row l = max l.most (longest (λ r. words_of r.text.now) (drop l.row-index l.rows)) ≡ longest (λ r. words_of r.text.now) l.rows
