use Rattle.std.proofs.Common.{List, sym, subst}
use Rattle.zk_base.specs.declared.ids.Who.{Who}
use Rattle.zk_base.specs.Legal.{IsLegal}
use Rattle.zk_turn.specs.Passes.{pass_seen}
use Rattle.zk_turn.specs.Players.{GoesOn}
use Rattle.zk_worker.specs.Single.{OthersGrew}
use Rattle.zk_visit.specs.Seats.{seen_at}
use Rattle.zk_visit.proofs.Visiting.{room_left, own-looked, others_grew}
use Rattle.zk_visit.proofs.looking.look.Goals as goal

pub look-requires-clause-own : goal.look-requires-clause-own
look-requires-clause-own g c = (rw c.in-Some.is at c.requires.at).1.of_cell

pub look-requires-clause-room : goal.look-requires-clause-room
look-requires-clause-room g c =
    let at = rw c.in-Some.is at c.requires.at in
    let later = rw c.in-Some.is at c.requires.later in
    room_left (IsLegal g.S.Service.machine) g.S.Service.start c.args.cell.now c.args.who at.0 c.args.step c.in-Some.pass at.1 later at.2 c.requires.number

pub returns-clause-at : goal.returns-clause-at
returns-clause-at g c =
    let at = rw c.in-Some.is at c.requires.at in
    let later = rw c.in-Some.is at c.requires.later in
    own-looked (IsLegal g.S.Service.machine) g.S.Service.start c.args.cell.now c.args.who at.0 c.args.step c.in-Some.pass at.1 later at.2
    c.look.new.pass c.look.ensures.own c.look.ensures.who c.look.ensures.players c.look.ensures.room

pub returns-clause-grew : goal.returns-clause-grew
returns-clause-grew g c =
    let own = (rw c.in-Some.is at c.requires.at).1 in
    let goes = subst (λ (ws : List Who). GoesOn ws (pass_seen c.in-Some.pass) (pass_seen c.look.new.pass)) own.only c.look.ensures.seen in
    subst (λ o. OthersGrew c.args.who.number (seen_at o) (pass_seen c.look.new.pass)) (sym c.in-Some.is) (others_grew c.args.who (pass_seen c.in-Some.pass) (pass_seen c.look.new.pass) goes)
