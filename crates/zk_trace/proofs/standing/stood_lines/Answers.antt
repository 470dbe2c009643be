use Rattle.zk_trace.proofs.StoodLists.{all-stood}
use Rattle.zk_trace.proofs.standing.stood_lines.Goals as goal

pub returns : goal.returns
returns c =
    let work = rw c.items.ensures at c.in_ok-put_entries.ensures in
    let looks = rw c.items-2.ensures at c.in_ok-put_item_looks.ensures in
    let clock = rw c.items-3.ensures at c.in_ok-put_entries-2.ensures in
    let table = rw c.items-4.ensures at c.in_ok-put_entries-3.ensures in
    let sems = rw c.items-5.ensures at c.in_ok-put_histories.ensures in
    let msgqs = rw c.items-6.ensures at c.in_ok-put_histories-2.ensures in
    let signals = rw (c.items-7.ensures, c.items-8.ensures) at c.in_ok-put_signals.ensures in
    let chans = rw c.items-9.ensures at c.in_ok-put_histories-3.ensures in
    let observers = rw c.items-10.ensures at c.in_ok-put_histories-4.ensures in
    all-stood c.args.trace.now c.new-lines.result.items c.put_entries.new.lines.items c.put_item_looks.new.lines.items c.put_entries-2.new.lines.items
    c.put_entries-3.new.lines.items c.put_histories.new.lines.items c.put_histories-2.new.lines.items c.put_signals.new.lines.items
    c.put_histories-3.new.lines.items c.put_histories-4.new.lines.items
    c.new-lines.ensures.items work looks clock table sems msgqs signals chans observers
