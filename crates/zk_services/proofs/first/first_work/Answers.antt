use Rattle.std.proofs.Common.{◌≡◌, ◌≢◌, ◌∙◌, Bool, List, ℕ, AllPairs, length, map, ap, sym, subst, arith, rules}
use Rattle.zk_line.specs.declared.types.Decl.{Decl}
use Rattle.zk_line.specs.Objects.{places, is_thread, is_queue}
use Rattle.zk_worker.specs.Machines.{is_on}
use Rattle.zk_worker.proofs.Ranges.{same-lengths}
use Rattle.zk_services.proofs.Firsts.{few-items, range_differs, few-workers}
use Rattle.zk_services.proofs.first.first_work.Goals as goal

pub overflow_cast-items : goal.overflow_cast-items
overflow_cast-items c =
    let few = few-items c.args.scenario.now c.decls.ensures.valid in
    let same = ap (λ (l : List ℕ). length l) c.items.ensures in
    search rules

pub new-requires-clause-same : goal.new-requires-clause-same
new-requires-clause-same c =
    let s = c.args.scenario.now in
    let workers = ap (λ (l : List ℕ). length l) (c.deref.ensures.value ∙ c.in_ok-workers.ensures) in
    let started : c.deref-2.result.now ≡ map (is_on s.decls) (places is_queue s.decls) =
    c.deref-2.ensures.value ∙ c.in_ok-started.ensures
    ∙ ap (λ (l : List Decl). map (is_on l) c.queues.result.now) c.decls.ensures.all ∙ ap (map (is_on s.decls)) c.queues.ensures in
    workers ∙ same-lengths s ∙ sym (ap (λ (l : List Bool). length l) started)

pub new-requires-clause-differ : goal.new-requires-clause-differ
new-requires-clause-differ c =
    let decls = c.args.scenario.now.decls in
    subst (λ (l : List ℕ). AllPairs (λ a b. a ≢ b) l) (sym (c.deref.ensures.value ∙ c.in_ok-workers.ensures))
    (range_differs (length (places is_thread decls)) (length (places is_queue decls)))

pub new-requires-clause-queues : goal.new-requires-clause-queues
new-requires-clause-queues c =
    let workers = ap (λ (l : List ℕ). length l) (c.deref.ensures.value ∙ c.in_ok-workers.ensures) in
    omega (arith, few-workers c.args.scenario.now c.decls.ensures.valid)

pub new-requires-clause-items : goal.new-requires-clause-items
new-requires-clause-items c =
    let same = ap (λ (l : List ℕ). length l) c.items.ensures in
    omega (arith, few-items c.args.scenario.now c.decls.ensures.valid)
