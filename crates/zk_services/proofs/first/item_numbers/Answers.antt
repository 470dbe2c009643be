use Rattle.std.proofs.Common.{ℕ, ◌∙◌, Option, List, ◌∷◌, [], ◌++◌, length, map, ap, rules}
use Rattle.std.specs.List.{range_with_len}
use Rattle.zk_line.specs.declared.types.Decl.{Decl}
use Rattle.zk_scenario.proofs.Valid.{length-decls}
use Rattle.zk_worker.specs.Machines.{item_number}
use Rattle.zk_services.proofs.Firsts.{items_more}
use Rattle.zk_services.proofs.first.item_numbers.Goals as goal

pub overflow_cast-objects : goal.overflow_cast-objects
overflow_cast-objects c =
    let few = length-decls c.args.scenario.now c.requires in
    let same = ap (λ (l : List Decl). length l) c.decls.ensures.all in
    search rules

pub loop-object-preserved : goal.loop-object-preserved
loop-object-preserved c =
    let decls = c.args.scenario.now.decls in
    let object = c.loop-object.object in
    c.in_ok-push.ensures.items
    ∙ ap (λ (l : List (Option ℕ)). l ++ c.item_number.result ∷ []) c.loop-object.invariant
    ∙ ap (λ (n : Option ℕ). map (item_number decls) (range_with_len 0 object) ++ n ∷ []) c.item_number.ensures
    ∙ items_more decls object
