-- What holds of a player holds after each step of its own, and as others play.
use Rattle.std.proofs.Common.{◌≡◌, ◌⊎◌, inl, inr, ℕ, Bool, Some, List, [], ◌∷◌, length, All, refl, sym, ap, subst, ◌∙◌, arith, length-append}
use Rattle.std.proofs.lemmas.List.Elements.{All-nil, All-push}
use Rattle.zk_base.specs.declared.ids.Who.{Who}
use Rattle.zk_scenario.specs.Content.{Content}
use Rattle.zk_scenario.specs.Valid.{IsValid}
use Rattle.zk_worker.specs.declared.playing.Stepped.{Stepped}
use Rattle.zk_worker.specs.declared.playing.Stepped.TheVariants.{Did, NotYet, Ended, Spent}
use Rattle.zk_worker.specs.declared.steps.Spot.{Spot}
use Rattle.zk_worker.specs.declared.steps.Step.{Step}
use Rattle.zk_worker.specs.declared.steps.StepReply.{StepReply}
use Rattle.zk_worker.specs.Attempt.{reply_in, IsMade, Counts}
use Rattle.zk_worker.specs.Follows.{IsFollowing}
use Rattle.zk_worker.specs.Machines.{Machines, machines_of}
use Rattle.zk_worker.specs.Places.{PlayerPlace}
use Rattle.zk_worker.specs.Playing.{StepOutcome}
use Rattle.zk_worker.specs.Protocol.{IsAhead, after, spot_of, start_at}
use Rattle.zk_worker.specs.Right.{LooksRight}
use Rattle.zk_worker.specs.Shown.{Shown, ShowsLog, nothing_shown, OnlyOthersCame}
use Rattle.zk_worker.proofs.Between.{log-none, log-still}
use Rattle.zk_worker.proofs.CheckedSteps.{after-spots}
use Rattle.zk_worker.proofs.FitsStill.{ahead-fits, after-fits, start_at-fits}
use Rattle.zk_worker.proofs.Following.{following-between, following-fresh, following-more, stands-made}
use Rattle.zk_worker.proofs.Limits.{ahead_left}
use Rattle.zk_worker.proofs.Looking.{looks-fresh, looks-still, looks-stepped}
use Rattle.zk_worker.proofs.PassedChecks.{replied-passes}
use Rattle.zk_worker.proofs.Replied.{replied-fits}
use Rattle.zk_worker.proofs.ShownSteps.{log-stepped}
use Rattle.zk_worker.proofs.Starts.{start_at-fresh}
use Rattle.zk_world.specs.Requests.{Request, request, request_at, IsKnownWho, RequestFits, LookFits}
use Rattle.zk_world.specs.SoundPlayer.{IsSoundPlayer}
use Rattle.zk_world.specs.Tending.{IsAtWork}
use Rattle.zk_world.proofs.AheadSays.{ahead-says}
use Rattle.zk_world.proofs.AtWork.{at-work-first, at-work-still, at-work-made}
use Rattle.zk_world.proofs.Fitting.{look-fits, nothing-asked, request-back, start-known}
use Rattle.zk_world.proofs.Requested.{request-between}

-- it holds where a player starts, as long as nothing is shown
pub player-first : (s : Content) (number : ℕ) (shown : Shown) (at : PlayerPlace) → shown ≡ nothing_shown s.decls → start_at s number ≡ Some at → IsSoundPlayer s shown at
player-first s number shown at nothing is =
    let fresh = start_at-fresh s number at is in
    let none : length at.spots ≡ 0 = ap (λ (l : List Spot). length l) fresh.none_made in
    record {
      log = subst (λ (x : Shown). ShowsLog x at.who.number at.spots) (sym nothing) (log-none s.decls at.who.number at.spots fresh.none_made);
      looks = looks-fresh (machines_of s) shown at.spots fresh.none_made;
      follows = subst (λ (n : ℕ). IsFollowing s n shown at) (sym fresh.number_is) (following-fresh s number shown at is);
      fits = start_at-fits s number at is;
      short = omega (arith, none);
      known = start-known s number at is;
      asked = λ spot x there mine. absurd (nothing-asked s.decls spot x (ap (λ (h : Shown). request_at h spot) (sym nothing) ∙ there));
      sighted = subst (All (LookFits s.decls)) (sym fresh.none_made) (All-nil (LookFits s.decls));
      works = at-work-first s number shown at nothing is;
    }

-- it holds still as others' entries come
pub player-still : (alone : Bool) (s : Content) (at : PlayerPlace) (old new : Shown) → OnlyOthersCame alone at.who.number old new → IsSoundPlayer s old at → IsSoundPlayer s new at
player-still alone s at old new came sound = record {
  log = log-still alone at.who.number at.spots old new sound.log came;
  looks = looks-still alone (machines_of s) (machines_of s) at.who.number at.spots old new refl sound.looks came;
  follows = following-between alone s at.who.number at.who.number old new at came sound.follows;
  fits = sound.fits;
  short = sound.short;
  known = sound.known;
  asked = λ spot x there mine. sound.asked spot x (request-between alone at.who.number old new spot x came there mine) mine;
  sighted = sound.sighted;
  works = at-work-still alone s at old new came sound.works;
}

module _ (alone : Bool) (m : Machines) (s : Content) (at : PlayerPlace) (step : Step) (reply : StepReply) (old new : Shown)
    (valid : IsValid s) (same : m ≡ machines_of s) (sound : IsSoundPlayer s old at) (ahead : IsAhead s at step)
    (made : IsMade alone m at.who (length at.spots) step reply old new) where
  abbrev next : PlayerPlace
  next = after s at step reply

  -- it made the step after what others had done
  before : IsSoundPlayer s made.found at
  before = player-still alone s at old made.found made.since sound

  own-request : RequestFits s (request at.who step)
  own-request = record { known = sound.known; fits = ahead-fits s at step valid sound.fits ahead; says = ahead-says s at step valid sound.fits ahead }

  asked : (spot : Spot) (x : Request) → request_at new spot ≡ Some x → x.who.number ≡ next.who.number → (x.who ≡ next.who) × RequestFits s x
  asked spot x there mine =
      by (request-back made.found at.who (length at.spots) step reply spot x (ap (λ (h : Shown). request_at h spot) (sym made.shown) ∙ there))
    where
      kept : next.who ≡ at.who
      kept = (after-spots s at step reply).0

      by : (request_at made.found spot ≡ Some x) ⊎ (x ≡ request at.who step) → (x.who ≡ next.who) × RequestFits s x
      by (inl earlier) =
          let told = before.asked spot x earlier (mine ∙ ap (λ (w : Who). w.number) kept) in
          (told.0 ∙ sym kept, told.1)
      by (inr is) = (ap (λ (r : Request). r.who) is ∙ sym kept, subst (RequestFits s) (sym is) own-request)

  after-made : IsSoundPlayer s new next
  after-made =
      let kept = after-spots s at step reply in
      let right : LooksRight m old at.spots = subst (λ (x : Machines). LooksRight x old at.spots) (sym same) sound.looks in
      let longer = ap (λ (l : List Spot). length l) kept.1 in
      record {
        log = log-stepped alone m s at next step reply old new sound.log made refl;
        looks = looks-stepped alone m (machines_of s) s at next step reply old new (sym same) sound.log right made refl;
        follows = subst (λ (w : Who). IsFollowing s w.number new next) (sym kept.0)
            (following-more s at.who.number made.found new at step reply (stands-made alone m at step reply old new made) ahead before.follows);
        fits = after-fits s at step reply valid sound.fits ahead (replied-fits s m made.found at.who step reply valid same made.replied)
            (replied-passes s m made.found at.who step reply same made.replied);
        short = omega (arith, longer, length-append at.spots (spot_of step reply ∷ []), ahead_left s at step ahead);
        known = subst (IsKnownWho s) (sym kept.0) sound.known;
        asked = asked;
        sighted = subst (All (LookFits s.decls)) (sym kept.1)
            (All-push (LookFits s.decls) at.spots (spot_of step reply) sound.sighted (look-fits s.decls step reply own-request.fits));
        works = subst (λ (x : Shown). IsAtWork s x next) (sym made.shown)
            (at-work-made s made.found at step reply valid sound.fits ahead (subst (λ (x : Machines). reply_in x made.found at.who step ≡ Some reply) same made.replied) before.works);
      }

-- it holds after an attempt that was made
pub player-made : (alone : Bool) (m : Machines) (s : Content) (at at' : PlayerPlace) (step : Step) (reply : StepReply) (old new : Shown) → IsValid s → m ≡ machines_of s →
    IsSoundPlayer s old at → IsAhead s at step → IsMade alone m at.who (length at.spots) step reply old new → at' ≡ after s at step reply → IsSoundPlayer s new at'
player-made alone m s at at' step reply old new valid same sound ahead made next =
    subst (IsSoundPlayer s new) (sym next) (after-made alone m s at step reply old new valid same sound ahead made)

-- where nothing was done it holds still
unmoved : (s : Content) (at at' : PlayerPlace) (old new : Shown) → at' ≡ at → new ≡ old → IsSoundPlayer s old at → IsSoundPlayer s new at'
unmoved s at at' old new stays nothing sound =
    subst (IsSoundPlayer s new) (sym stays) (subst (λ (x : Shown). IsSoundPlayer s x at) (sym nothing) sound)

-- and after each step, whatever came of it
pub player-stepped : (alone : Bool) (m : Machines) (s : Content) (at at' : PlayerPlace) (old new : Shown) (counts counts' : Counts) (stepped : Stepped) → IsValid s → m ≡ machines_of s →
    IsSoundPlayer s old at → StepOutcome alone m s at at' old new counts counts' stepped → IsSoundPlayer s new at'
player-stepped alone m s at at' old new counts counts' Did valid same sound does =
    player-made alone m s at at' does.step does.reply old new valid same sound (does.first.index, does.first.is_there) does.first.made does.next
player-stepped alone m s at at' old new counts counts' NotYet valid same sound does =
    subst (IsSoundPlayer s new) (sym does.unchanged) (player-still alone s at old new does.none.others sound)
player-stepped alone m s at at' old new counts counts' Ended valid same sound does = unmoved s at at' old new does.1.unchanged does.1.nothing sound
player-stepped alone m s at at' old new counts counts' Spent valid same sound does = unmoved s at at' old new does.unchanged does.nothing sound
