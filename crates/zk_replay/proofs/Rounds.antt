-- Turns and rounds as the definition has them.
use Rattle.std.proofs.Common.{◌≡◌, ℕ, zero, suc, ◌+◌, ◌<◌, Bool, ◌||◌, true, false, cond, Option, Some, None, List, length, set, refl, sym, ap, subst, ◌∙◌, arith, is_some}
use Rattle.std.specs.List.{slice_get}
use Rattle.std.proofs.lemmas.Option.{slice_get_within}
use Rattle.zk_scenario.specs.Content.{Content}
use Rattle.zk_worker.specs.declared.steps.Step.{Step}
use Rattle.zk_worker.specs.declared.steps.StepReply.{StepReply}
use Rattle.zk_worker.specs.Places.{PlayerPlace}
use Rattle.zk_worker.specs.Protocol.{attempts}
use Rattle.zk_worker.specs.Machines.{Machines, machines_of}
use Rattle.zk_worker.specs.Shown.{Shown}
use Rattle.zk_worker.specs.Follows.{is_spent_at}
use Rattle.zk_worker.proofs.Lists.{set-there, none-passes, any-set}
use Rattle.zk_replay.specs.declared.turns.Turn.{Turn}
use Rattle.zk_replay.specs.declared.turns.RoundEnd.{RoundEnd}
use Rattle.zk_replay.specs.declared.turns.RoundEnd.TheVariants.{Spent}
use Rattle.zk_worker.specs.Choosing.{chosen}
use Rattle.zk_world.specs.Ready.{IsReady, all_left}
use Rattle.zk_world.specs.World.{World, world, stepped, is_spent}
use Rattle.zk_world.proofs.Readiness.{ready-stepped, left-stepped}
use Rattle.zk_replay.specs.RoundRobin.{turn, turn_of, turns, round, rounds}
use Rattle.zk_replay.specs.Turning.{has_moved, has_spent, shown_with, at_after, IsTurn, Turned, Rounded, WithinRound}
use Rattle.zk_replay.proofs.InVain.{none_or}
use Rattle.zk_replay.proofs.StillRounds.{first_possible-is}

module _ (m : Machines) (s : Content) where
  turn-unspent : (w : World) (p : ℕ) (at : PlayerPlace) → is_spent s w ≡ false → slice_get w.players p ≡ Some at → turn m s w p ≡ stepped s w p at (chosen m s w.shown at)
  turn-unspent w p at unspent is =
      ap (λ b. cond b w (turn_of m s w p (slice_get w.players p))) unspent ∙ ap (turn_of m s w p) is

  -- the world that a turn leaves
  left-by : (shown : Shown) (players : List PlayerPlace) (p : ℕ) (at : PlayerPlace) (made : Option (Step × StepReply)) → slice_get players p ≡ Some at →
      world (shown_with shown at.who (length at.spots) made) (set players p (at_after s at made)) ≡ stepped s (world shown players) p at made
  left-by shown players p at None is = ap (world shown) (set-there players p at is)
  left-by shown players p at (Some made) is = refl

  -- a turn in the code is a turn of the definition
  pub turned-from : (shown shown' : Shown) (players players' : List PlayerPlace) (p : ℕ) (at at' : PlayerPlace) (told : Turn) (made : Option (Step × StepReply)) →
      m ≡ machines_of s → IsReady s (world shown players) → is_spent s (world shown players) ≡ false → slice_get players p ≡ Some at → chosen m s shown at ≡ made →
      shown' ≡ shown_with shown at.who (length at.spots) made → at' ≡ at_after s at made → players' ≡ set players p at' →
      has_moved told ≡ is_some made → has_spent told ≡ is_spent_at s at' → Turned m s (world shown players) (world shown' players') p told
  turned-from shown shown' players players' p at at' told made of_scenario ready unspent is choice history place written moved spent =
      let all : world shown' players' ≡ stepped s (world shown players) p at made =
      ap (λ (h : Shown). world h players') history
      ∙ ap (world (shown_with shown at.who (length at.spots) made)) (written ∙ ap (set players p) place)
      ∙ left-by shown players p at made is in
      let W : World → Type 0 = IsReady s in
      record {
        next = all ∙ ap (stepped s (world shown players) p at) (sym choice) ∙ sym (turn-unspent (world shown players) p at unspent is);
        ready = subst W (sym all) (ready_after made choice);
        spent = spent ∙ sym (any-set (is_spent_at s) players p at' unspent (slice_get_within players p at is)) ∙ ap (λ (l : List PlayerPlace). is_spent s (world shown' l)) (sym written);
        moved = λ moves. subst (λ (w : World). all_left s w.players < all_left s players) (sym all) (less made (sym moved ∙ moves));
        still = λ rests. all ∙ same made (sym moved ∙ rests);
      }
    where
      alone : is_spent_at s at ≡ false
      alone = none-passes (is_spent_at s) players p at unspent is

      ready_after : (made : Option (Step × StepReply)) → chosen m s shown at ≡ made → IsReady s (stepped s (world shown players) p at made)
      ready_after None choice = ready
      ready_after (Some made) choice =
          ready-stepped m s (world shown players) p at made of_scenario ready is alone (first_possible-is m shown at.who (attempts s at) made choice)

      less : (made : Option (Step × StepReply)) → is_some made ≡ true → all_left s (stepped s (world shown players) p at made).players < all_left s players
      less None moves = absurd (cc)
      less (Some made) moves = left-stepped s (world shown players) p at made is alone

      same : (made : Option (Step × StepReply)) → is_some made ≡ false → stepped s (world shown players) p at made ≡ world shown players
      same None rests = refl
      same (Some made) rests = absurd (cc)

  -- once the run is spent no turn changes it
  pub turns-spent : (w : World) (n p : ℕ) → is_spent s w ≡ true → turns m s w n p ≡ w
  turns-spent w zero p spent = refl
  turns-spent w (suc n) p spent =
      let here : turn m s w p ≡ w = ap (λ b. cond b w (turn_of m s w p (slice_get w.players p))) spent in
      ap (λ (v : World). turns m s v n (p + 1)) here ∙ turns-spent w n (p + 1) spent

  rest-next : (old now new : World) (n p : ℕ) → new ≡ turn m s now p → turns m s now (suc n) p ≡ round m s old → turns m s new n (p + 1) ≡ round m s old
  rest-next old now new n p next rest = ap (λ (w : World). turns m s w n (p + 1)) next ∙ rest

  -- the round goes on behind a turn after which no player is spent
  pub within-next : (old now new : World) (moved : Bool) (n p : ℕ) (told : Turn) → WithinRound m s old now moved (suc n) p → Turned m s now new p told → has_spent told ≡ false →
      WithinRound m s old new (moved || has_moved told) n (p + 1)
  within-next old now new moved n p told within turned unspent = record {
    rest = rest-next old now new n p turned.next within.rest;
    ready = turned.ready;
    unspent = sym turned.spent ∙ unspent;
    less = λ moves. by_less moved (has_moved told) within.less within.still turned.moved turned.still moves;
    still = λ rests. by_still moved (has_moved told) within.still turned.still rests;
  }
    where
      by_still : (a b : Bool) → (a ≡ false → now ≡ old) → (b ≡ false → new ≡ now) → (a || b) ≡ false → new ≡ old
      by_still true b first second rests = absurd (cc)
      by_still false b first second rests = second rests ∙ first refl

      by_less : (a b : Bool) → (a ≡ true → all_left s now.players < all_left s old.players) → (a ≡ false → now ≡ old) → (b ≡ true → all_left s new.players < all_left s now.players) → (b ≡ false → new ≡ now) →
          (a || b) ≡ true → all_left s new.players < all_left s old.players
      by_less true true less still less' still' moves = omega (arith, less refl, less' refl)
      by_less true false less still less' still' moves = subst (λ (w : World). all_left s w.players < all_left s old.players) (sym (still' refl)) (less refl)
      by_less false b less still less' still' moves = subst (λ (w : World). all_left s new.players < all_left s w.players) (still refl) (less' moves)

  -- a turn after which a player is spent ends the round
  pub within-spent : (old now new : World) (moved : Bool) (n p : ℕ) (told : Turn) → WithinRound m s old now moved (suc n) p → Turned m s now new p told → has_spent told ≡ true →
      Rounded m s old new Spent
  within-spent old now new moved n p told within turned spent =
      let over : is_spent s new ≡ true = sym turned.spent ∙ spent in
      record {
        next = sym (turns-spent new n (p + 1) over) ∙ rest-next old now new n p turned.next within.rest;
        ready = turned.ready;
        goes = over;
      }

  -- a spent run has no further round
  pub over-spent : (old new : World) → Rounded m s old new Spent → round m s new ≡ new
  over-spent old new rounded = turns-spent new (length new.players) 0 rounded.goes

  -- one round more
  pub rounds-next : (first old new : World) (n : ℕ) → old ≡ rounds m s n first → new ≡ round m s old → new ≡ rounds m s (suc n) first
  rounds-next first old new n so_far next = next ∙ ap (round m s) so_far

-- the same of a turn in the code
pub turned-with : (m : Machines) (s : Content) (old new : Shown) (players players' : List PlayerPlace) (p : ℕ) (at at' : PlayerPlace) (told : Turn) →
    m ≡ machines_of s → IsReady s (world old players) → is_spent s (world old players) ≡ false → slice_get players p ≡ Some at → players' ≡ set players p at' →
    IsTurn m s at at' old new (has_moved told) → has_spent told ≡ is_spent_at s at' → Turned (machines_of s) s (world old players) (world new players') p told
turned-with m s old new players players' p at at' told of_scenario ready unspent is written turn spent =
    subst (λ (x : Machines). Turned x s (world old players) (world new players') p told) of_scenario
    (turned-from m s old new players players' p at at' told (chosen m s old at) of_scenario ready unspent is refl
    turn.shows turn.place written turn.moves spent)

-- what a round leaves doesn't rest on how its course is written
pub rounded-at : (m : Machines) (s : Content) (old new : World) (course course' : RoundEnd) → course ≡ course' →
    Rounded m s old new course → Rounded m s old new course'
rounded-at m s old new course course' told rounded = subst (λ (c : RoundEnd). Rounded m s old new c) told rounded

-- the turns that are left in a round, one by one
pub within-left : (m : Machines) (s : Content) (old now : World) (moved : Bool) (k l p : ℕ) → k ≡ l →
    WithinRound m s old now moved k p → WithinRound m s old now moved l p
within-left m s old now moved k l p same within = subst (λ (j : ℕ). WithinRound m s old now moved j p) same within

-- a turn without a step leaves a player that isn't spent so
pub spent-still : (m : Machines) (s : Content) (at at' : PlayerPlace) (old new : Shown) (moved : Bool) → IsTurn m s at at' old new moved →
    moved ≡ false → is_spent_at s at ≡ false → is_spent_at s at' ≡ false
spent-still m s at at' old new moved turn rests unspent =
    ap (is_spent_at s) (turn.place ∙ ap (at_after s at) (none_or (chosen m s old at) (sym rests ∙ turn.moves))) ∙ unspent
