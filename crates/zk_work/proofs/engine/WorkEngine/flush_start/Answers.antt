use Rattle.std.proofs.Common.{◌≡◌, ◌<◌, ℕ, Option, List, refl, sym, ap, subst, ◌∙◌, set, arith}
use Rattle.std.specs.Option.{option_or}
use Rattle.zk_model_work.specs.declared.parts.Wait.{Wait}
use Rattle.zk_model_work.specs.Answers.{flush_wait, flushed}
use Rattle.zk_model_work.specs.Machine.{awaiting}
use Rattle.zk_queue.specs.Open.{Open, waiting, running}
use Rattle.zk_work.specs.EngineState.{EngineState, EngineView, AreNumbered, IsWhole}
use Rattle.zk_work.specs.Engine.{is_flushing}
use Rattle.zk_work.specs.Flushed.{noted, AreOld}
use Rattle.zk_work.specs.Flushing.{AreFlushing}
use Rattle.zk_work.proofs.Numbered.{numbered-hurried, items-hurried}
use Rattle.zk_work.proofs.Flushing.{flushing-started, flushing-marked}
use Rattle.zk_work.proofs.Kept.{kept-flush, kept-as, old-noted}
use Rattle.zk_work.proofs.engine.WorkEngine.flush_start.Goals as goal

pub mark_flushing-requires-clause-kept : goal.mark_flushing-requires-clause-kept
mark_flushing-requires-clause-kept c =
    let b = c.self.inside in
    let K : List Wait → EngineState =
    λ ws. record {
      time = b.time;
      entries = b.entries;
      made = b.made;
      running = b.running;
      last = b.last.items;
      active = b.active.admissions;
      timeouts = b.active.timeouts;
      waits = ws;
      queues = b.queues.items;
    } in
    let before : K b.waits.waits ≡ c.args.self.now.state = ap (λ (h : EngineView). h.state) c.self.view_is in
    let whole : IsWhole (K c.reserve.new.self.waits) =
    subst (λ (ws : List Wait). IsWhole (K ws)) (sym c.in_ok-reserve.ensures.waits) (subst IsWhole (sym before) c.requires.whole) in
    let known = ap (λ (k : EngineState). k.active.items) before in
    let item_before : c.args.item < b.active.admissions.items = omega arith in
    let i = c.self-2.inside in
    let o = i.active.admissions in
    let now = c.put.new.self.waits in
    let after = ap (λ (h : EngineView). h.state) c.self-2.view_is ∙ c.hurry.ensures.next in
    let numbered = subst (λ (k : EngineState). AreNumbered k.made k.active) (sym after)
    (numbered-hurried (K c.reserve.new.self.waits) c.args.who c.args.item whole item_before) in
    let count = ap (λ (k : EngineState). k.active.items) after ∙ items-hurried (K c.reserve.new.self.waits) c.args.who c.args.item in
    let item_in : c.args.item < o.items = omega arith in
    let waits : now ≡ awaiting i.waits.waits (flush_wait i.entries c.args.who (flushed (waiting o c.args.item) (running o c.args.item))) =
    c.in_ok-put.ensures.ok
    ∙ ap (awaiting i.waits.waits) (c.flush_wait-wait.ensures
    ∙ ap (flush_wait i.entries c.args.who) (c.or-number.ensures
    ∙ ap (λ w. option_or w c.running-running.result) c.waiting-waiting.ensures
    ∙ ap (option_or (waiting o c.args.item)) c.running-running.ensures)) in
    let fls = i.flushed.items in
    let number = flushed (waiting o c.args.item) (running o c.args.item) in
    let noted-is : c.note.new.flushed.items ≡ noted fls c.args.item (running o c.args.item) number =
    c.note.ensures ∙ ap (λ (r : Option ℕ). noted fls c.args.item r c.or-number.result) c.running-running.ensures
    ∙ ap (noted fls c.args.item (running o c.args.item)) (c.or-number.ensures
    ∙ ap (λ w. option_or w c.running-running.result) c.waiting-waiting.ensures
    ∙ ap (option_or (waiting o c.args.item)) c.running-running.ensures) in
    kept-as o o (noted fls c.args.item (running o c.args.item) number) c.deref.result.now
    (awaiting i.waits.waits (flush_wait i.entries c.args.who number)) now refl (c.deref.ensures.value ∙ noted-is) waits
    (kept-flush i.made o numbered fls i.waits.waits c.self-2.invariant.kept c.args.item i.entries c.args.who item_in)

pub invariant_of-self-3 : goal.invariant_of-self-3
invariant_of-self-3 c =
    let b = c.self.inside in
    let K : List Wait → EngineState =
    λ ws. record {
      time = b.time;
      entries = b.entries;
      made = b.made;
      running = b.running;
      last = b.last.items;
      active = b.active.admissions;
      timeouts = b.active.timeouts;
      waits = ws;
      queues = b.queues.items;
    } in
    let before : K b.waits.waits ≡ c.args.self.now.state = ap (λ (h : EngineView). h.state) c.self.view_is in
    let whole : IsWhole (K c.reserve.new.self.waits) =
    subst (λ (ws : List Wait). IsWhole (K ws)) (sym c.in_ok-reserve.ensures.waits) (subst IsWhole (sym before) c.requires.whole) in
    let known = ap (λ (k : EngineState). k.active.items) before in
    let item_before : c.args.item < b.active.admissions.items = omega arith in
    let i = c.self-2.inside in
    let o = i.active.admissions in
    let fl = i.active.flushing in
    let new = c.mark_flushing.new.active in
    let now = c.put.new.self.waits in
    let after = ap (λ (h : EngineView). h.state) c.self-2.view_is ∙ c.hurry.ensures.next in
    let numbered = subst (λ (k : EngineState). AreNumbered k.made k.active) (sym after)
    (numbered-hurried (K c.reserve.new.self.waits) c.args.who c.args.item whole item_before) in
    let count = ap (λ (k : EngineState). k.active.items) after ∙ items-hurried (K c.reserve.new.self.waits) c.args.who c.args.item in
    let item_in : c.args.item < o.items = omega arith in
    let items : new.admissions.items ≡ o.items = ap (λ (o : Open). o.items) c.mark_flushing.ensures.admissions in
    let long = c.self-2.invariant.items in
    let room = c.self-2.invariant.touched in
    let waits : now ≡ awaiting i.waits.waits (flush_wait i.entries c.args.who (flushed (waiting o c.args.item) (running o c.args.item))) =
    c.in_ok-put.ensures.ok
    ∙ ap (awaiting i.waits.waits) (c.flush_wait-wait.ensures
    ∙ ap (flush_wait i.entries c.args.who) (c.or-number.ensures
    ∙ ap (λ w. option_or w c.running-running.result) c.waiting-waiting.ensures
    ∙ ap (option_or (waiting o c.args.item)) c.running-running.ensures)) in
    let fls = i.flushed.items in
    let number = flushed (waiting o c.args.item) (running o c.args.item) in
    let noted-is : c.note.new.flushed.items ≡ noted fls c.args.item (running o c.args.item) number =
    c.note.ensures ∙ ap (λ (r : Option ℕ). noted fls c.args.item r c.or-number.result) c.running-running.ensures
    ∙ ap (noted fls c.args.item (running o c.args.item)) (c.or-number.ensures
    ∙ ap (λ w. option_or w c.running-running.result) c.waiting-waiting.ensures
    ∙ ap (option_or (waiting o c.args.item)) c.running-running.ensures) in
    let all = c.self-2.invariant.kept.long in
    let placed = c.in_ok-put.ensures.next in
    record {
      runs = c.self-2.invariant.runs;
      items = omega arith;
      touched = omega arith;
      flushing = flushing-marked i.made o o new.admissions fl fl new.flushing now now c.args.item refl refl
          refl c.mark_flushing.ensures.admissions c.mark_flushing.ensures.flushing
          (subst (λ (ws : List Wait). AreFlushing i.made o (set fl c.args.item (is_flushing o ws c.args.item)) ws) (sym waits)
          (flushing-started i.made o fl i.waits.waits c.args.item i.entries c.args.who c.self-2.invariant.flushing numbered item_in));
      kept = kept-as o new.admissions (noted fls c.args.item (running o c.args.item) number) c.note.new.flushed.items
          (awaiting i.waits.waits (flush_wait i.entries c.args.who number)) now c.mark_flushing.ensures.admissions noted-is waits
          (kept-flush i.made o numbered fls i.waits.waits c.self-2.invariant.kept c.args.item i.entries c.args.who item_in);
      old = subst (AreOld i.made) (sym noted-is)
          (old-noted i.made o fls c.args.item c.self-2.invariant.old numbered (omega arith));
      placed = omega arith;
    }
