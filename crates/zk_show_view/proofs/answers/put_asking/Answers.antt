use Rattle.std.proofs.Common.{◌≡◌, ℕ, Option, List, ◌++◌, ap, ◌∙◌}
use Rattle.zk_show_view.specs.Answers.{answer_line, answer_words, at_answer, give_instead}
use Rattle.zk_show_view.proofs.Words.{put_next}
use Rattle.zk_show_view.proofs.answers.put_asking.Goals as goal

pub returns : goal.returns
returns c =
    let old = c.args.out.now.items in
    let at = c.put.new.out.items in
    let behind = c.put_line.new.out.items in
    let new = c.put-2.new.out.items in
    let words = answer_words c.args.answer in
    let line = at_answer (answer_line c.args.answer) in
    let first : at ≡ old ++ words = c.in_ok-put.ensures.ok ∙ ap (λ (l : List ℕ). old ++ l) c.answer_words.ensures in
    let second : behind ≡ at ++ line =
    c.in_ok-put_line.ensures ∙ ap (λ (n : Option ℕ). at ++ at_answer n) c.answer_line.ensures in
    put_next c.put-2.result old at new words (line ++ give_instead) first
    (put_next c.put-2.result at behind new line give_instead second c.put-2.ensures.ok)
