use Rattle.std.proofs.Common.{ap, rules}
use Rattle.zk_worker.specs.Machines.{Machines}
use Rattle.zk_worker.proofs.Ranges.{ahead-takes}
use Rattle.zk_worker.proofs.Between.{log-still}
use Rattle.zk_worker.proofs.ShownSteps.{log-stepped}
use Rattle.zk_worker.proofs.Looking.{looks-still, looks-stepped}
use Rattle.zk_worker.proofs.Following.{following-between, stands-made}
use Rattle.zk_worker.proofs.Replied.{replied-fits}
use Rattle.zk_worker.proofs.PassedChecks.{replied-passes}
use Rattle.zk_worker.proofs.Trying.{tried-some, tried-none, made-both, made-none, made-unput}
use Rattle.zk_worker.proofs.player.Player.step.Goals as goal

pub try_ahead-requires-clause-range : goal.try_ahead-requires-clause-range
try_ahead-requires-clause-range g c =
    ahead-takes c.args.scenario.now (g.V.Services.machines c.args.services.now) c.args.self.now c.requires.valid c.requires.machines c.requires.fits

pub try_ahead-requires-clause-room : goal.try_ahead-requires-clause-room
try_ahead-requires-clause-room g c = ap (λ (m : Machines). m.most) c.requires.machines

pub returns-in_err-told-clause-log : goal.returns-in_err-told-clause-log
returns-in_err-told-clause-log g c = log-still _ _ _ _ _ c.requires.log c.in_err-told.ensures.err

pub returns-in_err-told-clause-follows : goal.returns-in_err-told-clause-follows
returns-in_err-told-clause-follows g c = λ number is. following-between _ _ number _ _ _ _ c.in_err-told.ensures.err is

pub returns-in_err-told-clause-looks : goal.returns-in_err-told-clause-looks
returns-in_err-told-clause-looks g c =
    looks-still _ _ _ _ _ _ _ c.in_err-told.ensures.machines c.requires.looks c.in_err-told.ensures.err

-- a step was made

pub returns-clause-does : goal.returns-clause-does
returns-clause-does g c = record {
  step = c.in-Some-ahead.step;
  reply = c.in-Some.reply;
  first = tried-some _ _ _ _ _ c.in-Some-ahead.step c.in-Some.reply _ _ _ _ _ c.in_ok-told.ensures.tried (made-both _ _ c.in-Some.reply c.in-Some-ahead.step c.in-Some.is c.in-Some-ahead.is);
  next = c.made.ensures.next;
}

pub returns-clause-log : goal.returns-clause-log
returns-clause-log g c =
    let first = tried-some _ _ _ _ _ c.in-Some-ahead.step c.in-Some.reply _ _ _ _ _ c.in_ok-told.ensures.tried (made-both _ _ c.in-Some.reply c.in-Some-ahead.step c.in-Some.is c.in-Some-ahead.is) in
    log-stepped _ _ c.args.scenario.now c.args.self.now _ _ _ _ _ c.requires.log first.made c.made.ensures.next

pub returns-clause-follows : goal.returns-clause-follows
returns-clause-follows g c =
    let first = tried-some _ _ _ _ _ c.in-Some-ahead.step c.in-Some.reply _ _ _ _ _ c.in_ok-told.ensures.tried (made-both _ _ c.in-Some.reply c.in-Some-ahead.step c.in-Some.is c.in-Some-ahead.is) in
    λ number is. c.made.ensures.follows number first.made.found _ (stands-made _ _ c.args.self.now _ _ _ _ first.made)
    (following-between _ _ number _ _ _ _ first.made.since is)

pub returns-clause-fits : goal.returns-clause-fits
returns-clause-fits g c =
    let first = tried-some _ _ _ _ _ c.in-Some-ahead.step c.in-Some.reply _ _ _ _ _ c.in_ok-told.ensures.tried (made-both _ _ c.in-Some.reply c.in-Some-ahead.step c.in-Some.is c.in-Some-ahead.is) in
    c.made.ensures.fits c.requires.valid c.requires.fits
    (replied-fits c.args.scenario.now _ first.made.found _ c.in-Some-ahead.step c.in-Some.reply c.requires.valid c.requires.machines first.made.replied)
    (replied-passes c.args.scenario.now _ first.made.found _ c.in-Some-ahead.step c.in-Some.reply c.requires.machines first.made.replied)

pub returns-clause-looks : goal.returns-clause-looks
returns-clause-looks g c =
    let first = tried-some _ _ _ _ _ c.in-Some-ahead.step c.in-Some.reply _ _ _ _ _ c.in_ok-told.ensures.tried (made-both _ _ c.in-Some.reply c.in-Some-ahead.step c.in-Some.is c.in-Some-ahead.is) in
    looks-stepped _ _ _ c.args.scenario.now c.args.self.now _ _ _ _ _ c.in_ok-told.ensures.machines c.requires.log c.requires.looks first.made c.made.ensures.next

-- no attempt was possible

pub returns-in_default-clause-does : goal.returns-in_default-clause-does
returns-in_default-clause-does g c = record {
  unspent = search rules;
  not_through = search rules;
  none = tried-none _ _ _ _ _ _ _ _ _ _ c.in_ok-told.ensures.tried (made-none _ _ c.in_default.is);
  unchanged = search rules;
}

pub returns-in_default-clause-log : goal.returns-in_default-clause-log
returns-in_default-clause-log g c =
    let none = tried-none _ _ _ _ _ _ _ _ _ _ c.in_ok-told.ensures.tried (made-none _ _ c.in_default.is) in
    log-still _ _ _ _ _ c.requires.log none.others

pub returns-in_default-clause-follows : goal.returns-in_default-clause-follows
returns-in_default-clause-follows g c =
    let none = tried-none _ _ _ _ _ _ _ _ _ _ c.in_ok-told.ensures.tried (made-none _ _ c.in_default.is) in
    λ number is. following-between _ _ number _ _ _ _ none.others is

pub returns-in_default-clause-looks : goal.returns-in_default-clause-looks
returns-in_default-clause-looks g c =
    let none = tried-none _ _ _ _ _ _ _ _ _ _ c.in_ok-told.ensures.tried (made-none _ _ c.in_default.is) in
    looks-still _ _ _ _ _ _ _ c.in_ok-told.ensures.machines c.requires.looks none.others

pub returns-in_default-ahead-clause-does : goal.returns-in_default-ahead-clause-does
returns-in_default-ahead-clause-does g c = record {
  unspent = search rules;
  not_through = search rules;
  none = tried-none _ _ _ _ _ _ _ _ _ _ c.in_ok-told.ensures.tried (made-unput _ _ c.in-Some.reply c.in-Some.is c.in_default-ahead.is);
  unchanged = search rules;
}

pub returns-in_default-ahead-clause-log : goal.returns-in_default-ahead-clause-log
returns-in_default-ahead-clause-log g c =
    let none = tried-none _ _ _ _ _ _ _ _ _ _ c.in_ok-told.ensures.tried (made-unput _ _ c.in-Some.reply c.in-Some.is c.in_default-ahead.is) in
    log-still _ _ _ _ _ c.requires.log none.others

pub returns-in_default-ahead-clause-follows : goal.returns-in_default-ahead-clause-follows
returns-in_default-ahead-clause-follows g c =
    let none = tried-none _ _ _ _ _ _ _ _ _ _ c.in_ok-told.ensures.tried (made-unput _ _ c.in-Some.reply c.in-Some.is c.in_default-ahead.is) in
    λ number is. following-between _ _ number _ _ _ _ none.others is

pub returns-in_default-ahead-clause-looks : goal.returns-in_default-ahead-clause-looks
returns-in_default-ahead-clause-looks g c =
    let none = tried-none _ _ _ _ _ _ _ _ _ _ c.in_ok-told.ensures.tried (made-unput _ _ c.in-Some.reply c.in-Some.is c.in_default-ahead.is) in
    looks-still _ _ _ _ _ _ _ c.in_ok-told.ensures.machines c.requires.looks none.others
