-- The trace of a sound world is lawful, where it ends so.
use Rattle.std.proofs.Common.{◌≡◌, ℕ, suc, ◌≤◌, Bool, true, false, ◌&&◌, ◌||◌, cond, Option, Some, None, List, [], ◌∷◌, length, map, refl, sym, ap, subst, ◌∙◌}
use Rattle.std.specs.List.{slice_get, list_any, list_all}
use Rattle.std.specs.Option.{option_map, option_and_then}
use Rattle.std.proofs.lemmas.Bool.{or_parts}
use Rattle.std.proofs.lemmas.List.{length-map}
use Rattle.std.proofs.lemmas.Option.{slice_get-map}
use Rattle.zk_base.specs.declared.seen.Seen.{Seen}
use Rattle.zk_base.specs.Legal.{state_after}
use Rattle.zk_base.proofs.Lists.{All-at}
use Rattle.zk_model_work.specs.Machine.{work_machine}
use Rattle.zk_scenario.specs.Content.{Content}
use Rattle.zk_scenario.specs.Steps.{steps_of}
use Rattle.zk_worker.specs.declared.log.PlayerState.TheVariants as states
use Rattle.zk_worker.specs.declared.log.Log.{Log}
use Rattle.zk_worker.specs.Choosing.{chosen}
use Rattle.zk_worker.specs.Follows.{is_dead, log_of, is_done, is_spent_at, IsFollowing, Follows}
use Rattle.zk_worker.specs.Machines.{work_start_of, machines_of}
use Rattle.zk_worker.specs.Places.{PlayerPlace}
use Rattle.zk_worker.specs.Right.{LooksRight}
use Rattle.zk_worker.specs.Shown.{Shown, shown_at}
use Rattle.zk_worker.proofs.Lists.{there-mapped}
use Rattle.zk_trace.specs.declared.trace.Ending.{Ending}
use Rattle.zk_trace.specs.declared.trace.Ending.TheVariants.{Ended, Stuck, Spent}
use Rattle.zk_trace.specs.declared.trace.Trace.{Trace}
use Rattle.zk_trace.specs.Ending.{is_spent_state, is_done_state, none_waits, lawful_ending, EndsSo}
use Rattle.zk_trace.specs.Lawful.{IsLawful}
use Rattle.zk_trace.specs.Look.{AreRight}
use Rattle.zk_trace.specs.Place.{IsPlaced}
use Rattle.zk_trace.specs.Shown.{trace_shown}
use Rattle.zk_trace.proofs.LegalHistories.{LegalHistories, legal-stand, legal-rise}
use Rattle.zk_trace.proofs.OnePlace.{one-place}
use Rattle.zk_world.specs.Sound.{IsSound}
use Rattle.zk_world.specs.Traces.{all_done, ending_at, world_trace, IsFaithful}
use Rattle.zk_world.specs.World.{World, is_spent}
use Rattle.zk_world.proofs.DeadPlayers.{dead-whole}
use Rattle.zk_world.proofs.Places.{there-is}

-- what the logs say of the players
spent-state : (a d b : Bool) → is_spent_state (cond a states.Spent (cond d states.Oops (cond b states.Done states.Standing))) ≡ a
spent-state true d b = refl
spent-state false true b = refl
spent-state false false true = refl
spent-state false false false = refl

done-state : (a d b : Bool) → a ≡ false → (d ≡ true → b ≡ true) → is_done_state (cond a states.Spent (cond d states.Oops (cond b states.Done states.Standing))) ≡ b
done-state true d b unspent whole = absurd (cc)
done-state false true b unspent whole = sym (whole refl)
done-state false false true unspent whole = refl
done-state false false false unspent whole = refl

any-spent : (s : Content) (xs : List PlayerPlace) → list_any (λ log. is_spent_state log.state) (map (log_of s) xs) ≡ list_any (is_spent_at s) xs
any-spent s [] = refl
any-spent s (x ∷ xs) =
    ap (λ (b : Bool). b || (list_any (λ log. is_spent_state log.state) (map (log_of s) xs))) (spent-state (is_spent_at s x) (is_dead x.mode) (is_done x.frames))
    ∙ ap (λ (b : Bool). is_spent_at s x || b) (any-spent s xs)

all-done : (s : Content) (xs : List PlayerPlace) → ((p : ℕ) (x : PlayerPlace) → slice_get xs p ≡ Some x → is_dead x.mode ≡ true → is_done x.frames ≡ true) → list_any (is_spent_at s) xs ≡ false →
    list_all (λ log. is_done_state log.state) (map (log_of s) xs) ≡ all_done xs
all-done s [] whole unspent = refl
all-done s (x ∷ xs) whole unspent =
    let both = or_parts (is_spent_at s x) (list_any (is_spent_at s) xs) unspent in
    ap (λ (b : Bool). b && list_all (λ log. is_done_state log.state) (map (log_of s) xs)) (done-state (is_spent_at s x) (is_dead x.mode) (is_done x.frames) both.0 (whole 0 x refl))
    ∙ ap (λ (b : Bool). is_done x.frames && b) (all-done s xs (λ p y there. whole (suc p) y there) both.1)

-- how it ended is what its trace says, whichever ending that has
pub sound-ends : (s : Content) (ending : Ending) (w : World) → IsSound s w → ending_at s w ≡ lawful_ending s (world_trace s ending w)
sound-ends s ending w sound =
    by_spent (is_spent s w) refl
    ∙ sym (ap (λ (b : Bool). cond b Spent (cond (list_all (λ log. is_done_state log.state) (map (log_of s) w.players) && waits) Ended Stuck)) (any-spent s w.players))
  where
    whole : (p : ℕ) (at : PlayerPlace) → slice_get w.players p ≡ Some at → is_dead at.mode ≡ true → is_done at.frames ≡ true
    whole p at there dead = ap is_done (dead-whole s p w.shown at (sound.ready.follow p at there) dead)

    waits : Bool
    waits = none_waits (state_after work_machine (work_start_of s) w.shown.work)

    by_spent : (b : Bool) → is_spent s w ≡ b → cond b Spent (cond (all_done w.players && none_waits (state_after work_machine (work_start_of s) w.shown.work)) Ended Stuck)
        ≡ cond b Spent (cond (list_all (λ log. is_done_state log.state) (map (log_of s) w.players) && none_waits (state_after work_machine (work_start_of s) w.shown.work)) Ended Stuck)
    by_spent true spent = refl
    by_spent false unspent = sym (ap (λ (d : Bool). cond (d && none_waits (state_after work_machine (work_start_of s) w.shown.work)) Ended Stuck) (all-done s w.players whole unspent))

-- whole histories are all that is shown
whole-same : (shown : Shown) → shown.looks ≡ None → shown.looked ≡ None → (record shown { looks = None; looked = None }) ≡ shown
whole-same shown whole unlooked =
    ap (λ (looks : Option (List (List Seen))). record shown { looks = looks; looked = None }) (sym whole)
    ∙ ap (λ (looked : Option ℕ). record shown { looked = looked }) (sym unlooked)

module _ (s : Content) (ending : Ending) (w : World) (sound : IsSound s w) where
  abbrev trace : Trace
  trace = world_trace s ending w

  -- the trace shows what was shown
  shown-same : trace_shown trace ≡ w.shown
  shown-same = whole-same w.shown sound.ready.whole sound.ready.unlooked

  -- each player follows its script as the trace shows it
  follows-shown : (number : ℕ) (at : PlayerPlace) → slice_get w.players number ≡ Some at → IsFollowing s number (trace_shown trace) at
  follows-shown number at there = subst (λ (x : Shown). IsFollowing s number x at) (sym shown-same) (sound.ready.follow number at there)

  follows : (number : ℕ) (log : Log) → slice_get (map (log_of s) w.players) number ≡ Some log → Follows s number (trace_shown trace) log
  follows number log is =
      let found = there-mapped (log_of s) w.players number log is in
      record { end = found.0; led = follows-shown number found.0 found.1; logged = found.2 }

  -- its histories are those of the services
  legal : LegalHistories s trace
  legal = record {
    work = sound.legal.work;
    clock = sound.legal.clock;
    table = sound.legal.table;
    sems = sound.legal.sems;
    msgqs = sound.legal.msgqs;
    signals = sound.legal.signals;
    chans = sound.legal.chans;
    observers = sound.legal.observers;
  }

  placed : IsPlaced s trace
  placed = record {
    short = λ number log is.
        let found = there-mapped (log_of s) w.players number log is in
        let P : PlayerPlace → Type 0 = λ at. length at.spots ≤ steps_of s in
        subst (λ (l : Log). length l.steps ≤ steps_of s) found.2 (All-at P w.players number found.0 sound.ready.short found.1);
    stands = λ number step spot log is recorded no_look.
        let found = there-mapped (log_of s) w.players number log is in
        let shows = sound.ready.shows number found.0 found.1 in
        ap (λ (x : Shown). shown_at x spot) shown-same
        ∙ shows.each step spot (ap (λ (l : Log). slice_get l.steps step) found.2 ∙ recorded) no_look
        ∙ ap (λ (n : ℕ). Some (n, step)) (sound.ready.numbers number found.0 found.1);
    each = λ spot number step is.
        let there = ap (λ (x : Shown). shown_at x spot) (sym shown-same) ∙ is in
        let found = there-is w.players number (sound.known spot number step there) in
        let shows = sound.ready.shows number found.0 found.1 in
        let recorded = shows.no_other step spot (there ∙ ap (λ (n : ℕ). Some (n, step)) (sym (sound.ready.numbers number found.0 found.1))) in
        ap (option_and_then (λ (log : Log). slice_get log.steps step)) (slice_get-map (log_of s) w.players number ∙ ap (option_map (log_of s)) found.1) ∙ recorded;
    item_looks = refl;
    signal_looks = refl;
    rises = legal-rise s trace legal;
  }

  -- the looks of each player are right
  right : AreRight s trace
  right number log is =
      let found = there-mapped (log_of s) w.players number log is in
      subst (λ (l : Log). LooksRight (machines_of s) (trace_shown trace) l.steps) found.2
      (subst (λ (x : Shown). LooksRight (machines_of s) x found.0.spots) (sym shown-same) (sound.ready.looks number found.0 found.1))

  -- whichever ending it is given, the trace says what was done
  pub sound-lawful : IsFaithful s trace
  sound-lawful = record {
    place = placed;
    history = legal-stand s trace legal;
    log = record { logged = length-map w.players (log_of s) ∙ sound.as_many; follow = follows };
    look = right;
  }

-- where the ending isn't spent, no player has made all its steps
unspent-ending : (s : Content) (w : World) → (ending_at s w ≡ Spent → ⊥) → is_spent s w ≡ false
unspent-ending s w never = by_spent (is_spent s w) refl
  where
    by_spent : (b : Bool) → is_spent s w ≡ b → is_spent s w ≡ false
    by_spent true spent =
        absurd (never (ap (λ b. cond b Spent (cond (all_done w.players && none_waits (state_after work_machine (work_start_of s) w.shown.work)) Ended Stuck)) spent))
    by_spent false none = none

-- where no player can go on, unless one is spent, the trace ends as it has to
pub sound-halts : (s : Content) (w : World) → IsSound s w →
    (is_spent s w ≡ false → (p : ℕ) (at : PlayerPlace) → slice_get w.players p ≡ Some at → chosen (machines_of s) s w.shown at ≡ None) →
    EndsSo s (world_trace s (ending_at s w) w)
sound-halts s w sound none = record {
  ends = sound-ends s (ending_at s w) w sound;
  halts = λ never number log is end led logged.
      let t = world_trace s (ending_at s w) w in
      let found = there-mapped (log_of s) w.players number log is in
      let own = follows-shown s (ending_at s w) w sound number found.0 found.1 in
      let same : end ≡ found.0 = one-place s number (trace_shown t) end found.0 led own (ap (λ (l : Log). l.steps) (logged ∙ sym found.2)) in
      ap (λ (x : PlayerPlace). chosen (machines_of s) s (trace_shown t) x) same
      ∙ ap (λ (x : Shown). chosen (machines_of s) s x found.0) (shown-same s (ending_at s w) w sound)
      ∙ none (unspent-ending s w never) number found.0 found.1;
}

-- a trace that says what was done, and ends as it has to, is lawful
pub lawful-where : (s : Content) (t : Trace) → IsFaithful s t → EndsSo s t → IsLawful s t
lawful-where s t says ends = record { place = says.place; history = says.history; log = says.log; look = says.look; ending = ends }
