use Rattle.std.proofs.Common.{rules, ◌∙◌, sym}
use Rattle.zk_line.proofs.RightWords.{known_event_says}
use Rattle.zk_line.proofs.right.say_event.Goals as goal

pub returns : goal.returns
returns c =
    λ done. known_event_says _ _ _ _ _ _ c.in-Some-find.object c.requires (sym c.is_ignore.ensures ∙ c.if-is_ignore.false) c.in-Some.ensures (search rules) (search rules) (search rules)
