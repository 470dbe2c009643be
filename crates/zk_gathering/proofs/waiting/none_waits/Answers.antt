use Rattle.std.proofs.Common.{◌∙◌, length, refl, sym, ap, subst, below_more, arith}
use Rattle.std.specs.Option.{is_some}
use Rattle.zk_base.specs.Legal.{state_after, AreInRange}
use Rattle.zk_line.specs.Objects.{is_item}
use Rattle.zk_line.proofs.Tables.{length-places}
use Rattle.zk_model_work.specs.Machine.{work_machine}
use Rattle.zk_model_work.specs.Questions.{waiting}
use Rattle.zk_model_work.specs.State.{State}
use Rattle.zk_worker.specs.Machines.{Machines, work_start_of}
use Rattle.zk_services.specs.Alone.{plain_machines, plain_shown}
use Rattle.zk_gathering.proofs.WaitingItems.{word-says, set-flag, clear-flag, admits-after, none-waiting, some-waiting}
use Rattle.zk_gathering.proofs.waiting.none_waits.Goals as goal

pub overflow_cast-item : goal.overflow_cast-item
overflow_cast-item c =
    let decls = c.args.scenario.now.decls in
    let items = ap (λ l. length l) c.items-item-end.ensures in
    let counted = length-places is_item decls in
    let few = c.decls-valid.ensures.valid.items in
    let less = c.loop-item-test.true in
    omega arith

pub returns-then-word-ne0 : goal.returns-then-word-ne0
returns-then-word-ne0 c =
    let s = c.args.scenario.now in
    let h = (plain_shown c.args.services.now).work in
    let st = state_after work_machine (work_start_of s) h in
    let item = c.loop-item.item in
    let items = ap (λ l. length l) c.items-item-end.ensures in
    let less = c.loop-item-test.true in
    let says = word-says s (plain_machines c.args.services.now) (plain_shown c.args.services.now) h item c.word.result c.requires refl (omega arith)
    c.word.ensures.word in
    sym (some-waiting st item (set-flag (is_some (waiting st.admissions item)) (λ zero. c.if-word-ne0.true (says ∙ zero))))

pub loop-item-preserved : goal.loop-item-preserved
loop-item-preserved c =
    let s = c.args.scenario.now in
    let h = (plain_shown c.args.services.now).work in
    let st = state_after work_machine (work_start_of s) h in
    let item = c.loop-item.item in
    let items = ap (λ l. length l) c.items-item-end.ensures in
    let less = c.loop-item-test.true in
    let says = word-says s (plain_machines c.args.services.now) (plain_shown c.args.services.now) h item c.word.result c.requires refl (omega arith)
    c.word.ensures.word in
    below_more _ _ c.loop-item.invariant (clear-flag (is_some (waiting st.admissions item)) (sym says ∙ c.if-word-ne0.false))

pub returns : goal.returns
returns c =
    let s = c.args.scenario.now in
    let h = (plain_shown c.args.services.now).work in
    let items = ap (λ l. length l) c.items-item-end.ensures in
    let over = c.loop-item-test.false in
    let in_range = subst (λ (start : State). AreInRange work_machine start h) (ap (λ (m : Machines). m.work_start) c.requires) c.history-legal.ensures.legal.2 in
    sym (none-waiting s.decls (state_after work_machine (work_start_of s) h) (admits-after s h in_range) (λ item less. c.loop-item.invariant item (omega arith)))
