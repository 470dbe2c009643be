use Rattle.std.proofs.Common.{refl, ap, arith}
use Rattle.std.specs.Option.{is_some}
use Rattle.zk_cells.specs.Notes.{writes_at}
use Rattle.zk_cells.proofs.Noted.{few-writes}
use Rattle.zk_cells.proofs.Shares.{taken-some, read-signal, own-read, as-many, wrote-among}
use Rattle.zk_cells.proofs.signals.write_at.Goals as goal

pub index_mut-requires : goal.index_mut-requires
index_mut-requires c =
    let some = taken-some c.args.signals.now c.args.object c.args.op c.requires.taken in
    let x = read-signal c.args.signals.now c.args.object c.index-signals-index.result c.index-signals-index.result some c.index-signals-index.is in
    let within = x.3 in
    let many = as-many c.args.who (writes_at c.args.notes.now.items) c.args.signals.now c.args.passes.now.items c.requires.own in
    let long = c.args.passes.now.ok in
    omega arith

pub write_one-stamp-requires-clause-own : goal.write_one-stamp-requires-clause-own
write_one-stamp-requires-clause-own c =
    let some = taken-some c.args.signals.now c.args.object c.args.op c.requires.taken in
    let few = few-writes c.args.notes.now.items c.args.object in
    let lt = c.requires.few in (
      c.args.who,
      writes_at c.args.notes.now.items c.args.object,
      own-read c.args.who (writes_at c.args.notes.now.items) c.args.signals.now c.args.passes.now.items c.args.object c.index-signals-index.result c.index-signals-index.result c.index_mut.result.now c.index_mut.result.now c.requires.own some
          c.index-signals-index.is c.index_mut.ensures.value,
      omega arith,
    )

pub write_one-stamp-requires-clause-some : goal.write_one-stamp-requires-clause-some
write_one-stamp-requires-clause-some c =
    let some = taken-some c.args.signals.now c.args.object c.args.op c.requires.taken in
    let x = read-signal c.args.signals.now c.args.object c.index-signals-index.result c.index-signals-index.result some c.index-signals-index.is in
    ap is_some x.1

pub returns-clause-wrote : goal.returns-clause-wrote
returns-clause-wrote c =
    let some = taken-some c.args.signals.now c.args.object c.args.op c.requires.taken in
    wrote-among c.args.who c.args.signals.now c.args.passes.now.items c.args.notes.now.items c.args.object c.args.step c.write_one-stamp.result c.args.op c.index-signals-index.result c.index-signals-index.result
    c.index_mut.result.now c.index_mut.result.now c.write_one-stamp.new.pass _ c.push_within.new.items.items c.requires.own some c.index-signals-index.is c.index_mut.ensures.value c.write_one-stamp.ensures.wrote refl c.push_within.ensures.items
