use Rattle.std.proofs.Common.{length, map, option_map, is_some, take, get_or, All, List, Option, [], ◌∷◌, ◌++◌, sym, ap, subst, ◌∙◌, arith}
use Rattle.std.proofs.lemmas.List.{take_more}
use Rattle.std.proofs.lemmas.List.Elements.{All-push, All-get_or}
use Rattle.zk_poll.specs.Seen.{signal_start}
use Rattle.zk_signal.specs.declared.signal.SharedSignal.{SharedSignal}
use Rattle.zk_cells.specs.Dealt.{IsBegun, AllSigLeft}
use Rattle.zk_cells.specs.Kernels.{IsSharedBy}
use Rattle.zk_cells.specs.Signals.{signal_family}
use Rattle.zk_cells.proofs.NewShares.{one-sig-started, one-sig-left}
use Rattle.zk_cells.proofs.opening.open_signals.Goals as goal

pub loop-service-preserved : goal.loop-service-preserved
loop-service-preserved c =
    let l = c.loop-service in
    let ws = c.args.whos.now in
    let services = c.args.services.now in
    let i = l.service-index in
    let x = c.service-item.result in
    let within = c.loop-service-test.true in
    let y = get_or services i x in
    let signal = c.in_ok-signal.signal in
    let list = c.in_ok-signal.passes in
    let one = c.in_ok-signal.ensures in
    let signals = c.push_within.ensures in
    let lists = c.push_within-in-loop-service.ensures in
    let made = l.invariant.made in
    let room = l.invariant.room in
    let begun = All-get_or IsBegun services i x within c.requires.begun in
    let some = one.some ∙ c.is_some.ensures ∙ ap is_some c.service-item.is in
    record {
      starts = ap (λ (ss : List (Option SharedSignal)). (signal_family ss).starts) signals.items
          ∙ one-sig-started l.signals.items (take i services) signal y l.invariant.starts some begun
          ∙ ap (map (option_map signal_start)) (sym (take_more services i x within));
      whole = subst (All (IsSharedBy (length ws))) (sym signals.items) (All-push (IsSharedBy (length ws)) l.signals.items signal l.invariant.whole one.whole);
      passes = subst (λ ss. AllSigLeft ws ss c.push_within-in-loop-service.new.items.items) (sym signals.items)
          (subst (λ ls. AllSigLeft ws (l.signals.items ++ signal ∷ []) ls) (sym lists.items) (one-sig-left ws l.signals.items l.lists.items signal list l.invariant.passes one.passes));
      made = (let len = signals.len in let was = made.0 in omega arith, let len = lists.len in let was = made.1 in omega arith);
      room = (let kept = signals.capacity in let was = room.0 in omega arith, let kept = lists.capacity in let was = room.1 in omega arith);
    }
