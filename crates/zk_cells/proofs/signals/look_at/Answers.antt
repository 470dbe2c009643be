use Rattle.std.proofs.Common.{refl, ap, arith}
use Rattle.std.specs.Option.{is_some}
use Rattle.zk_cells.proofs.Shares.{read-signal, own-read, as-many, found-among}
use Rattle.zk_cells.proofs.signals.look_at.Goals as goal

pub index_mut-requires : goal.index_mut-requires
index_mut-requires c =
    let own = c.requires.own in
    let x = read-signal c.args.signals.now c.args.object c.index-signals-index.result c.index-signals-index.result c.requires.taken c.index-signals-index.is in
    let within = x.3 in
    let many = as-many own.0 own.1 c.args.signals.now c.args.passes.now.items own.2 in
    let long = c.args.passes.now.ok in
    omega arith

pub look_one-requires-clause-own : goal.look_one-requires-clause-own
look_one-requires-clause-own c =
    let own = c.requires.own in (
      own.0,
      own.1 c.args.object,
      own-read own.0 own.1 c.args.signals.now c.args.passes.now.items c.args.object c.index-signals-index.result c.index-signals-index.result c.index_mut.result.now c.index_mut.result.now own.2 c.requires.taken
          c.index-signals-index.is c.index_mut.ensures.value,
    )

pub look_one-requires-clause-some : goal.look_one-requires-clause-some
look_one-requires-clause-some c =
    ap is_some (read-signal c.args.signals.now c.args.object c.index-signals-index.result c.index-signals-index.result c.requires.taken c.index-signals-index.is).1

pub returns : goal.returns
returns c =
    let own = c.requires.own in
    record {
      found = found-among own.0 own.1 c.args.signals.now c.args.passes.now.items c.args.object c.look_one.result c.index-signals-index.result c.index-signals-index.result
          c.index_mut.result.now c.index_mut.result.now c.look_one.new.pass _ own.2 c.requires.taken c.index-signals-index.is c.index_mut.ensures.value c.look_one.ensures.found refl;
    }
