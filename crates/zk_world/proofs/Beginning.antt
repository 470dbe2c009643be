-- The world in which nothing was done.
use Rattle.std.proofs.Common.{◌≡◌, ℕ, ◌≤◌, Some, List, length, All, refl, ap, ◌∙◌, arith}
use Rattle.std.specs.List.{slice_get}
use Rattle.std.proofs.lemmas.List.Elements.{All-weaker}
use Rattle.zk_scenario.specs.Content.{Content}
use Rattle.zk_scenario.specs.Valid.{IsValid}
use Rattle.zk_scenario.specs.Players.{players}
use Rattle.zk_scenario.proofs.Valid.{length-players}
use Rattle.zk_worker.specs.declared.steps.Spot.{Spot}
use Rattle.zk_worker.specs.declared.steps.Spot.TheVariants as spots
use Rattle.zk_scenario.specs.Steps.{steps_of}
use Rattle.zk_worker.specs.Places.{PlayerPlace}
use Rattle.zk_worker.specs.Protocol.{start_at}
use Rattle.zk_worker.specs.Ranges.{IsFit}
use Rattle.zk_worker.specs.Machines.{machines_of}
use Rattle.zk_worker.specs.Shown.{Shown, nothing_shown}
use Rattle.zk_worker.specs.Single.{step_of}
use Rattle.zk_worker.proofs.Families.{none-there}
use Rattle.zk_worker.proofs.FitsStill.{start_at-fits}
use Rattle.zk_worker.proofs.Following.{following-fresh}
use Rattle.zk_worker.proofs.Between.{log-none}
use Rattle.zk_worker.proofs.Looking.{looks-fresh}
use Rattle.zk_worker.proofs.Starts.{start_at-fresh}
use Rattle.zk_services.specs.Starts.{starts}
use Rattle.zk_services.proofs.Starts.{starts-all, length-starts, numbers-starts, starts-there}
use Rattle.zk_world.specs.Ready.{IsReady, most_shown}
use Rattle.zk_world.specs.Sound.{AreKnown, IsSound}
use Rattle.zk_world.specs.World.{world, first}
use Rattle.zk_world.proofs.AtWork.{at-work-first}
use Rattle.zk_world.proofs.Fitting.{fitting-first}
use Rattle.zk_world.proofs.Legality.{legal-first}
use Rattle.zk_world.proofs.Within.{within-first}

-- each player of the first world is where it starts
first-there : (s : Content) (p : ℕ) (at : PlayerPlace) → slice_get (first s).players p ≡ Some at → start_at s p ≡ Some at
first-there s p at is = starts-there s (length (players s.decls)) (omega arith) p at is

-- the first world has all players
first-players : (s : Content) → length (first s).players ≡ length (players s.decls)
first-players s = length-starts s (length (players s.decls)) (omega arith)

-- the first world of a valid scenario is ready
pub ready-first : (s : Content) → IsValid s → IsReady s (first s)
ready-first s valid =
    let n = length (players s.decls) in
    let None_made : PlayerPlace → Type 0 = λ at. length at.spots ≤ 0 in
    let Short : PlayerPlace → Type 0 = λ at. length at.spots ≤ steps_of s in
    let none : All None_made (starts s n) =
    starts-all None_made s (λ k at is. omega (arith, ap (λ (l : List Spot). length l) (start_at-fresh s k at is).none_made)) n in
    record {
      valid = valid;
      few = omega (arith, length-starts s n (omega arith), length-players s.decls, valid.players);
      numbers = numbers-starts s n (omega arith);
      shows = λ p at is. log-none s.decls at.who.number at.spots (start_at-fresh s p at (first-there s p at is)).none_made;
      looks = λ p at is. looks-fresh (machines_of s) (nothing_shown s.decls) at.spots (start_at-fresh s p at (first-there s p at is)).none_made;
      short = All-weaker None_made Short (λ at le. omega arith) (starts s n) none;
      within = within-first s.decls (most_shown (starts s n));
      whole = refl;
      unlooked = refl;
      follow = λ p at is. following-fresh s p (nothing_shown s.decls) at (first-there s p at is);
      fits = starts-all (IsFit s) s (λ k at is. start_at-fits s k at is) n;
    }

-- nothing done, and the players as they start, are the first world
pub world-first : (s : Content) (shown : Shown) (made : List PlayerPlace) → shown ≡ nothing_shown s.decls → made ≡ starts s (length (players s.decls)) → world shown made ≡ first s
world-first s shown made nothing all = ap (λ (x : Shown). world x made) nothing ∙ ap (world (nothing_shown s.decls)) all

-- at first there is no entry
known-first : (s : Content) → AreKnown (first s)
known-first s (spots.Work place) number step is = absurd (cc)
known-first s (spots.Clock place) number step is = absurd (cc)
known-first s (spots.Table place) number step is = absurd (cc)
known-first s (spots.Sem object place) number step is = absurd (none-there step_of s.decls object place (number, step) is)
known-first s (spots.Msgq object place) number step is = absurd (none-there step_of s.decls object place (number, step) is)
known-first s (spots.Signal object place) number step is = absurd (none-there step_of s.decls object place (number, step) is)
known-first s (spots.Chan object place) number step is = absurd (none-there step_of s.decls object place (number, step) is)
known-first s (spots.Obs object place) number step is = absurd (none-there step_of s.decls object place (number, step) is)
known-first s (spots.LookItem object flags at) number step is = absurd (cc)
known-first s (spots.LookSignal object seen) number step is = absurd (cc)

-- the first world of a valid scenario is sound
pub sound-first : (s : Content) → IsValid s → IsSound s (first s)
sound-first s valid = record {
  ready = ready-first s valid;
  as_many = first-players s;
  known = known-first s;
  legal = legal-first s;
  fitting = fitting-first s;
  works = λ p at there. at-work-first s p (nothing_shown s.decls) at refl (first-there s p at there);
}
