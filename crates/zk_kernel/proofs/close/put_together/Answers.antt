use Rattle.std.proofs.Common.{◌≡◌, List, [], ◌∷◌, ◌++◌, Option, sym, subst}
use Rattle.zk_base.specs.declared.ids.Who.{Who}
use Rattle.zk_kernel.specs.declared.caller.Caller.{Caller}
use Rattle.zk_cells.specs.declared.passes.Passes.{Passes}
use Rattle.zk_kernel.specs.Callers.{place_of}
use Rattle.zk_cells.specs.Joined.{numbers_of, left_at}
use Rattle.zk_kernel.specs.Gathered.{AreTogether, AreGathered, players_of, all_noted, all_found}
use Rattle.zk_cells.specs.Signals.{looks_at_number}
use Rattle.zk_kernel.proofs.Gathering.{served_for, own-noted, first_together, more_together}
use Rattle.zk_kernel.proofs.close.put_together.Goals as goal

pub join_passes-requires-clause-own : goal.join_passes-requires-clause-own
join_passes-requires-clause-own c =
    let all = c.requires.all in
    let into = subst (λ (o : Option Passes). AreTogether c.args.cells.now all.0 o) c.in-Some.is all.2 in
    let who = (place_of all.1).who in
    (players_of all.0, who ∷ [], into.stand, served_for c.args.cells.now c.args.other who all.4)

pub join_passes-requires-clause-shared : goal.join_passes-requires-clause-shared
join_passes-requires-clause-shared c =
    let all = c.requires.all in
    let into = subst (λ (o : Option Passes). AreTogether c.args.cells.now all.0 o) c.in-Some.is all.2 in
    let who = (place_of all.1).who in (
      numbers_of (players_of all.0),
      who.number ∷ [],
      left_at (all_noted all.0),
      left_at c.args.other.notes.items,
      all_found all.0,
      looks_at_number c.args.other.signals.items,
      into.signals,
      own-noted c.args.cells.now c.args.other who all.4,
    )

pub returns-in_ok-join_passes-in-Some : goal.returns-in_ok-join_passes-in-Some
returns-in_ok-join_passes-in-Some c = λ callers x together is served.
    let cells = c.args.cells.now in
    let other = c.args.other in
    let into = subst (λ (o : Option Passes). AreTogether cells callers o) c.in-Some.is together in
    let who = (place_of x).who in
    let us : List Who = who ∷ [] in
    let own = served_for cells other who served in
    let joined = c.in_ok-join_passes-in-Some.ensures in
    more_together cells c.in-Some.into other c.join_passes.new.into callers x into is
    (joined.players (players_of callers) us into.stand own)
    (joined.first (players_of callers) us into.stand own)
    (joined.second (players_of callers) us into.stand own)
    joined.notes
    (joined.signals (numbers_of (players_of callers)) (who.number ∷ []) (left_at (all_noted callers)) (left_at other.notes.items) (all_found callers) (looks_at_number other.signals.items)
    into.signals (own-noted cells other who served))

pub returns-in-None : goal.returns-in-None
returns-in-None c = λ callers x together is served.
    let none : callers ≡ [] = subst (λ (o : Option Passes). AreTogether c.args.cells.now callers o) c.in-None.is together in
    subst (λ (cs : List Caller). AreGathered c.args.cells.now (cs ++ x ∷ []) c.args.other) (sym none) (first_together c.args.cells.now c.args.other x is served)
