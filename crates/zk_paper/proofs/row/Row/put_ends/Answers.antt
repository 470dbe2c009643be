use Rattle.std.proofs.Common.{◌∙◌, ◌-◌, ◌++◌, ℕ, List, length, refl, ap, arith}
use Rattle.std.proofs.lemmas.List.{length-take-le}
use Rattle.std.proofs.lemmas.Slice.{between_to_end}
use Rattle.zk_paper.proofs.Ends.{ends_put}
use Rattle.zk_paper.proofs.row.Row.put_ends.Goals as goal

pub returns : goal.returns
returns c =
    let word = c.args.bytes.now in
    let row = c.self.inside in
    let room = c.requires.room in
    let long = c.self.invariant.0 in
    let filled = c.self.invariant.1 in
    let viewed = ap length c.self.view_is in
    let sized = length-take-le row.len row.bytes (omega arith) in
    ends_put row.len c.args.count _ _ _ row.bytes word _ _ refl c.requires.within c.requires.whole (omega arith)
    c.copy_from_slice.ensures.after
    (c.copy_from_slice-2.ensures.after ∙ between_to_end word (length word - c.args.count) (length word) (omega arith)) ∙
    ap (λ (l : List ℕ). l ++ word) c.self.view_is
