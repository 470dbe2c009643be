use Rattle.std.proofs.Common.{◌≡◌, ℕ, ap, ◌∙◌, arith}
use Rattle.std.specs.Option.{option_map}
use Rattle.std.proofs.lemmas.Result.{IfOk-weaker, on_err_weaker}
use Rattle.zk_worker.specs.declared.steps.StepReply.{StepReply}
use Rattle.zk_base.specs.History.{extended}
use Rattle.zk_worker.specs.Families.{answer_at}
use Rattle.zk_services.specs.Objects.{starts_of, history_of, histories_of, made_of}
use Rattle.zk_services.proofs.Among.{taken-there, slot-there, taken-one, history-there, answered-one, histories-made, histories-same, starts-same, histories-others, closes-one}
use Rattle.zk_services.proofs.objects.act_at.Goals as goal

pub index_mut-requires : goal.index_mut-requires
index_mut-requires g c =
    let objects = c.args.objects.now in
    omega (arith, taken-there g.S.Service.machine g.S.Service.start g.S.Service.history objects.items c.args.object c.args.op c.requires.taken, objects.ok.0)

pub act_one-requires-clause-taken : goal.act_one-requires-clause-taken
act_one-requires-clause-taken g c =
    let start = g.S.Service.start in
    let history = g.S.Service.history in
    let objects = c.args.objects.now.items in
    let slot = c.index_mut.result.now in
    let there = slot-there g.S.Service.machine start history objects c.args.object slot c.args.op c.requires.taken c.index_mut.ensures.value in
    taken-one g.S.Service.machine start history objects c.args.object slot c.args.op there c.requires.taken

pub act_one-requires-clause-later : goal.act_one-requires-clause-later
act_one-requires-clause-later g c =
    let start = g.S.Service.start in
    let history = g.S.Service.history in
    let objects = c.args.objects.now.items in
    let slot = c.index_mut.result.now in
    let there = slot-there g.S.Service.machine start history objects c.args.object slot c.args.op c.requires.taken c.index_mut.ensures.value in
    c.requires.later (history_of history slot) (history-there g.S.Service.machine start history objects c.args.object slot there)

pub act_one-requires-clause-short : goal.act_one-requires-clause-short
act_one-requires-clause-short g c =
    let start = g.S.Service.start in
    let history = g.S.Service.history in
    let objects = c.args.objects.now.items in
    let slot = c.index_mut.result.now in
    let there = slot-there g.S.Service.machine start history objects c.args.object slot c.args.op c.requires.taken c.index_mut.ensures.value in
    c.requires.short (history_of history slot) (history-there g.S.Service.machine start history objects c.args.object slot there)

pub returns-clause-made : goal.returns-clause-made
returns-clause-made g c =
    let start = g.S.Service.start in
    let history = g.S.Service.history in
    let objects = c.args.objects.now.items in
    let slot = c.index_mut.result.now in
    let there = slot-there g.S.Service.machine start history objects c.args.object slot c.args.op c.requires.taken c.index_mut.ensures.value in
    let m = g.S.Service.machine in
    IfOk-weaker c.act_one.result (λ made. made ≡ made_of m start history slot c.args.who c.args.op)
    (λ made. (step_reply : ℕ → _ → ℕ → StepReply) → option_map (λ made. step_reply c.args.object made.0 made.1) made
    ≡ answer_at (record { machine = m; starts = starts_of start objects }) (histories_of history objects) step_reply c.args.who c.args.object c.args.op)
    (λ made is step_reply. ap (option_map (λ made. step_reply c.args.object made.0 made.1)) is
    ∙ answered-one m start history objects c.args.object slot step_reply c.args.who c.args.op there)
    c.act_one.ensures.made

pub returns-clause-entry : goal.returns-clause-entry
returns-clause-entry g c =
    let start = g.S.Service.start in
    let history = g.S.Service.history in
    let objects = c.args.objects.now.items in
    let slot = c.index_mut.result.now in
    let there = slot-there g.S.Service.machine start history objects c.args.object slot c.args.op c.requires.taken c.index_mut.ensures.value in
    let slot' = c.act_one.new.slot in
    IfOk-weaker c.act_one.result
    (λ made. history_of history slot' ≡ extended (history_of history slot) c.args.who c.args.step c.args.op (option_map (λ made. made.0) made)) _
    (λ made longer. histories-made g.S.Service.machine start history objects c.args.object slot slot' c.args.who c.args.step c.args.op made there longer)
    c.act_one.ensures.entry

pub returns-clause-err : goal.returns-clause-err
returns-clause-err g c =
    let start = g.S.Service.start in
    let history = g.S.Service.history in
    let objects = c.args.objects.now.items in
    let slot = c.index_mut.result.now in
    let there = slot-there g.S.Service.machine start history objects c.args.object slot c.args.op c.requires.taken c.index_mut.ensures.value in
    on_err_weaker c.act_one.result (histories-same g.S.Service.machine start history objects c.args.object slot c.act_one.new.slot there) c.act_one.ensures.err

pub returns-clause-memory : goal.returns-clause-memory
returns-clause-memory g c =
    let start = g.S.Service.start in
    let history = g.S.Service.history in
    let objects = c.args.objects.now.items in
    let slot = c.index_mut.result.now in
    let there = slot-there g.S.Service.machine start history objects c.args.object slot c.args.op c.requires.taken c.index_mut.ensures.value in
    on_err_weaker c.act_one.result (λ none. closes-one g.S.Service.machine start history g.S.Service.closes objects c.args.object slot c.args.who c.args.op there ∙ none) c.act_one.ensures.memory

pub returns-clause-others : goal.returns-clause-others
returns-clause-others g c =
    histories-others g.S.Service.machine g.S.Service.start g.S.Service.history c.args.objects.now.items c.args.object c.act_one.new.slot

pub returns-clause-start : goal.returns-clause-start
returns-clause-start g c =
    let start = g.S.Service.start in
    let history = g.S.Service.history in
    let objects = c.args.objects.now.items in
    let slot = c.index_mut.result.now in
    let there = slot-there g.S.Service.machine start history objects c.args.object slot c.args.op c.requires.taken c.index_mut.ensures.value in
    starts-same g.S.Service.machine start history objects c.args.object slot c.act_one.new.slot there c.act_one.ensures.start
