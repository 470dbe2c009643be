use Rattle.std.proofs.Common.{Option, ℕ, false, ◌||◌, ◌≡◌, ◌∙◌, true, sym, ap}
use Rattle.std.specs.Option.{option_map_or}
use Rattle.zk_queue.specs.Open.{waiting, running}
use Rattle.zk_work.specs.Flushed.{numbers_of, holds}
use Rattle.zk_work.proofs.Kept.{flushing-kept}
use Rattle.zk_work.proofs.waits.is_flushing.Goals as goal

pub returns-then-holds : goal.returns-then-holds
returns-then-holds c =
    let o = c.args.active.now.admissions in
    let f = numbers_of c.args.flushed.now c.args.item in
    let runs = option_map_or (holds f) (running o c.args.item) false in
    let waits : option_map_or (holds f) (waiting o c.args.item) false ≡ true =
    ap (λ (w : Option ℕ). option_map_or (holds f) w false) (sym c.waiting.ensures) ∙ sym c.holds.ensures ∙ c.if-holds.true in
    c.if-holds.true
    ∙ sym (sym (flushing-kept o c.args.flushed.now c.args.waits.now.waits c.args.item c.requires.kept c.requires.item)
    ∙ ap (λ b. b || runs) waits)

pub returns-else-holds : goal.returns-else-holds
returns-else-holds c =
    let o = c.args.active.now.admissions in
    let f = numbers_of c.args.flushed.now c.args.item in
    let runs = option_map_or (holds f) (running o c.args.item) false in
    let waits : option_map_or (holds f) (waiting o c.args.item) false ≡ false =
    ap (λ (w : Option ℕ). option_map_or (holds f) w false) (sym c.waiting.ensures) ∙ sym c.holds.ensures ∙ c.if-holds.false in
    c.holds-else-holds.ensures ∙ ap (λ (r : Option ℕ). option_map_or (holds f) r false) c.running.ensures
    ∙ sym (sym (flushing-kept o c.args.flushed.now c.args.waits.now.waits c.args.item c.requires.kept c.requires.item)
    ∙ ap (λ b. b || runs) waits)
