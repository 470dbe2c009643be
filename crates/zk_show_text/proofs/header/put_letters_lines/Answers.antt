use Rattle.std.proofs.Common.{List, ℕ, ◌+◌, ◌-◌, ◌++◌, sym, ◌∙◌, ap, append_assoc}
use Rattle.zk_show_text.specs.Header.{letters_line, letters_from}
use Rattle.zk_show_text.proofs.NameLines.{letters_next}
use Rattle.zk_show_text.proofs.header.put_letters_lines.Goals as goal

pub loop-place-preserved : goal.loop-place-preserved
loop-place-preserved c =
    let decls = c.args.scenario.now.decls in
    let size = c.args.width in
    let place = c.loop-place.place in
    let out = c.loop-place.out.items in
    let rest = letters_from decls size (place + 1) (c.args.places - (place + 1)) in
    ap (λ (text : List ℕ). text ++ rest) c.in_ok-put_letters_line.ensures ∙ append_assoc out (letters_line decls size place) rest
    ∙ ap (λ (text : List ℕ). out ++ text) (sym (letters_next decls size place c.args.places c.loop-place-test.true)) ∙ c.loop-place.invariant
