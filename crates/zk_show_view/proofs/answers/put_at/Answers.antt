use Rattle.std.proofs.Common.{◌≡◌, ℕ, ◌++◌, OnOk, codes, decimal, subst}
use Rattle.zk_show_view.proofs.Words.{put_next}
use Rattle.zk_show_view.proofs.answers.put_at.Goals as goal

pub returns : goal.returns
returns c = put_next c.put_decimal.result c.args.out.now.items c.put.new.out.items c.put_decimal.new.out.items
    (codes ", at its line ") (decimal c.args.line) c.in_ok-put.ensures.ok
    (subst (λ (n : ℕ). OnOk c.put_decimal.result (c.put_decimal.new.out.items ≡ c.put.new.out.items ++ decimal n)) c.from.ensures c.put_decimal.ensures.ok)
