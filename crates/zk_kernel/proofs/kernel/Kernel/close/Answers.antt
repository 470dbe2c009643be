use Rattle.std.proofs.Common.{◌≡◌, ◌*◌, ℕ, All, List, length, refl, sym, ap, subst, ◌∙◌}
use Rattle.std.proofs.lemmas.List.{length-map}
use Rattle.zk_poll.specs.Seen.{signal_history}
use Rattle.zk_scenario.specs.Content.{Content}
use Rattle.zk_services.specs.Alone.{plain_shown}
use Rattle.zk_services.specs.Objects.{histories_of}
use Rattle.zk_turn.specs.Players.{room_of_a_pass}
use Rattle.zk_worker.specs.Machines.{Machines}
use Rattle.zk_worker.specs.Places.{PlayerPlace}
use Rattle.zk_worker.specs.Shown.{Shown}
use Rattle.zk_world.specs.Legal.{IsLegalShown}
use Rattle.zk_world.specs.Sound.{IsSound}
use Rattle.zk_world.specs.Within.{AreWithin}
use Rattle.zk_world.specs.World.{world}
use Rattle.zk_cells.specs.declared.cells.Cells.{Cells}
use Rattle.zk_cells.specs.declared.notes.Note.{Note}
use Rattle.zk_kernel.specs.Callers.{place_of, shown_to}
use Rattle.zk_cells.specs.Closed.{AllBy, ArePlayed, ended}
use Rattle.zk_cells.specs.Desks.{cells_machines, desk_shown}
use Rattle.zk_cells.specs.Joined.{whos}
use Rattle.zk_kernel.specs.Gathered.{all_found, players_of}
use Rattle.zk_cells.specs.Lasting.{Closes}
use Rattle.zk_cells.specs.Notes.{writes_at}
use Rattle.zk_kernel.specs.Rests.{Left}
use Rattle.zk_kernel.proofs.Leaving.{left-sound, many-players, numbered, stands-all, steps-all, noted-by, for-all, shared-all, whole-all, all-close, all-sound}
use Rattle.zk_kernel.proofs.Ordered.{closed-any}
use Rattle.zk_kernel.proofs.kernel.Kernel.close.Goals as goal

pub empty_cells-requires-clause-all : goal.empty_cells-requires-clause-all
empty_cells-requires-clause-all c =
    stands-all c.args.self c.into_parts-cells.result.0 c.put_in_order.new.callers.items c.in_ok-all.all c.into_parts-cells.ensures.cells c.into_parts-cells.ensures.made c.put_in_order.ensures.order c.in_ok-all.ensures.together

pub empty_cells-requires-clause-steps : goal.empty_cells-requires-clause-steps
empty_cells-requires-clause-steps c = steps-all c.args.self c.put_in_order.new.callers.items c.in_ok-all.all c.put_in_order.ensures.order c.in_ok-all.ensures.together

pub of-requires-clause-sound : goal.of-requires-clause-sound
of-requires-clause-sound c =
    let k = c.args.self in
    let callers = c.put_in_order.new.callers.items in
    let players = c.in_ok-all.players.items in
    let all = c.in_ok-all.all in
    let gathered = c.in_ok-all.ensures.together in
    let same = c.into_parts-cells.ensures.cells in
    let made = c.into_parts-cells.ensures.made in
    let services = c.in_ok-services.ensures in
    let xs = c.in_ok-services.services.signals.items in
    let final = ended (desk_shown all) (histories_of signal_history xs) in
    let cs = c.into_parts-cells.result.0 in
    let ws = players_of callers in
    let told : whos players ≡ ws = ap whos c.in_ok-all.ensures.players in
    let many = many-players k callers players c.put_in_order.ensures.order c.in_ok-all.ensures.players in
    let long : length ws ≡ length players = ap length (sym told) ∙ length-map players (λ (a : PlayerPlace). a.who) in
    let played = subst (λ (ns : List Note). ArePlayed (writes_at ns) (all_found callers) k.cells.signals.items xs) gathered.notes
    (subst (λ (ks : Cells). ArePlayed (writes_at all.notes.items) (all_found callers) ks.signals.items xs) same (services.played ws (all_found callers) (shared-all k cs callers all same gathered))) in
    let legal = subst (λ (m : Machines). IsLegalShown m final) (ap cells_machines same ∙ made.machines) services.legal in
    let short = subst (λ (n : ℕ). AreWithin final (room_of_a_pass * n)) long (services.short ws (whole-all k cs callers same made c.put_in_order.ensures.order)) in
    let by = subst (λ l. AllBy l final) (sym told) (services.mine ws (for-all k cs callers all same gathered) (noted-by k callers all c.put_in_order.ensures.order gathered)) in
    let sound = left-sound k.scenario final players made.valid many (numbered k callers players c.put_in_order.ensures.order c.in_ok-all.ensures.players)
    (all-sound k callers players final c.put_in_order.ensures.order c.in_ok-all.ensures.players (all-close k callers all xs c.put_in_order.ensures.order gathered played)) legal by refl refl short in
    subst (λ (s : Content). IsSound s (world (plain_shown c.in_ok-services.services) players)) (sym c.into_parts-cells.ensures.scenario)
    (subst (λ (h : Shown). IsSound k.scenario (world h players)) (sym services.shown) sound)

pub returns : goal.returns
returns c =
    let k = c.args.self in
    let callers = c.put_in_order.new.callers.items in
    let all = c.in_ok-all.all in
    let gathered = c.in_ok-all.ensures.together in
    let same = c.into_parts-cells.ensures.cells in
    let made = c.into_parts-cells.ensures.made in
    let services = c.in_ok-services.ensures in
    let xs = c.in_ok-services.services.signals.items in
    let cs = c.into_parts-cells.result.0 in
    let played = subst (λ (ns : List Note). ArePlayed (writes_at ns) (all_found callers) k.cells.signals.items xs) gathered.notes
    (subst (λ (ks : Cells). ArePlayed (writes_at all.notes.items) (all_found callers) ks.signals.items xs) same (services.played (players_of callers) (all_found callers) (shared-all k cs callers all same gathered))) in
    record {
      closed = closed-any k c.args.callers.items callers c.of.result c.put_in_order.ensures.order c.put_in_order.ensures.same c.put_in_order.ensures.count
          (ap (λ (l : Left). l.scenario) c.of.ensures.rest ∙ c.into_parts-cells.ensures.scenario)
          (ap (λ (l : Left). l.world.players) c.of.ensures.rest ∙ c.in_ok-all.ensures.players)
          (subst (λ (h : Shown). All (λ x. Closes (place_of x).who.number (shown_to x) h) callers)
          (sym services.shown ∙ ap (λ (l : Left). l.world.shown) (sym c.of.ensures.rest))
          (all-close k callers all xs c.put_in_order.ensures.order gathered played))
          c.of.ensures.sound;
    }
