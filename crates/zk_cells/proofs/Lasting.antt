-- A player and its log stay sound from what was last shown to its caller to what is shown in the end.
use Rattle.std.proofs.Common.{◌≡◌, ℕ, suc, ◌≤◌, false, Option, Some, None, List, [], ◌∷◌, length, refl, sym, ap, subst, ◌∙◌}
use Rattle.std.specs.List.{slice_get, AllZip}
use Rattle.std.specs.Option.{option_map}
use Rattle.std.proofs.lemmas.Option.{same_Some}
use Rattle.zk_base.proofs.Lists.{All-at}
use Rattle.zk_base.specs.declared.seen.Seen.{Seen}
use Rattle.zk_scenario.specs.Content.{Content}
use Rattle.zk_worker.specs.declared.steps.Step.TheVariants as steps
use Rattle.zk_worker.specs.declared.steps.StepReply.TheVariants as step_replies
use Rattle.zk_worker.specs.declared.steps.Spot.{Spot}
use Rattle.zk_worker.specs.declared.steps.Spot.TheVariants as spots
use Rattle.zk_worker.specs.Families.{entry_at}
use Rattle.zk_worker.specs.Follows.{StepMade, Stands, IsFollowing}
use Rattle.zk_worker.specs.Looks.{looks_at, IsKnown, LookedBelow}
use Rattle.zk_worker.specs.Machines.{Machines, machines_of}
use Rattle.zk_worker.specs.Places.{PlayerPlace}
use Rattle.zk_worker.specs.Right.{IsRight, LooksRight}
use Rattle.zk_worker.specs.Shown.{Shown, shown_at, is_look, ShowsLog}
use Rattle.zk_worker.specs.Single.{step_of}
use Rattle.zk_world.specs.Requests.{Request, request, request_at}
use Rattle.zk_world.specs.SoundPlayer.{IsSoundPlayer}
use Rattle.zk_world.proofs.Players.{player-still}
use Rattle.zk_cells.specs.Lasting.{late, IsLookAt, Closes}
use Rattle.zk_cells.specs.Notes.{Write}

-- an entry of this number, by whose step it is
entry-known : (o : Option Write) (number step : ℕ) → option_map step_of o ≡ Some (number, step) → (e : Write) × (o ≡ Some e) × (step_of e ≡ (number, step))
entry-known None number step is = absurd (cc)
entry-known (Some e) number step is = (e, refl, same_Some (step_of e) (number, step) is)

entry-asked : (object : ℕ) (o : Option Write) (x : Request) → option_map (λ e. request e.who (steps.Signal object e.op)) o ≡ Some x →
    (e : Write) × (o ≡ Some e) × (e.who.number ≡ x.who.number)
entry-asked object None x is = absurd (cc)
entry-asked object (Some e) x is =
    (e, refl, ap (λ (r : Request). r.who.number) (same_Some (request e.who (steps.Signal object e.op)) x is))

module _ (number : ℕ) (seen last : Shown) (closes : Closes number seen last) where
  -- what was last shown, with what came to the cells
  abbrev mid : Shown
  mid = late seen last

  -- an entry of this player stays
  stays-known : {B : Type 0} (f : Write → B) (object place step : ℕ) (b : B) → option_map step_of (entry_at seen.signals object place) ≡ Some (number, step) →
      option_map f (entry_at seen.signals object place) ≡ Some b → option_map f (entry_at last.signals object place) ≡ Some b
  stays-known f object place step b mine is =
      let e = entry-known (entry_at seen.signals object place) number step mine in
      let there = closes.stays object place e.0 e.1 (ap (λ (x : ℕ × ℕ). x.0) e.2) in
      ap (option_map f) (there ∙ sym e.1) ∙ is

  -- and no other came
  back-known : (object place step : ℕ) → option_map step_of (entry_at last.signals object place) ≡ Some (number, step) →
      option_map step_of (entry_at seen.signals object place) ≡ Some (number, step)
  back-known object place step mine =
      let e = entry-known (entry_at last.signals object place) number step mine in
      let there = closes.back object place e.0 e.1 (ap (λ (x : ℕ × ℕ). x.0) e.2) in
      ap (option_map step_of) (there ∙ sym e.1) ∙ mine

  shown-last : (step : ℕ) (spot : Spot) → shown_at mid spot ≡ Some (number, step) → shown_at last spot ≡ Some (number, step)
  shown-last step (spots.Work place) is = is
  shown-last step (spots.Clock place) is = is
  shown-last step (spots.Table place) is = is
  shown-last step (spots.Sem object place) is = is
  shown-last step (spots.Msgq object place) is = is
  shown-last step (spots.Signal object place) is = stays-known step_of object place step (number, step) is is
  shown-last step (spots.Chan object place) is = is
  shown-last step (spots.Obs object place) is = is
  shown-last step (spots.LookItem object flags at) is = is
  shown-last step (spots.LookSignal object look) is = is

  shown-back : (step : ℕ) (spot : Spot) → shown_at last spot ≡ Some (number, step) → shown_at mid spot ≡ Some (number, step)
  shown-back step (spots.Work place) is = is
  shown-back step (spots.Clock place) is = is
  shown-back step (spots.Table place) is = is
  shown-back step (spots.Sem object place) is = is
  shown-back step (spots.Msgq object place) is = is
  shown-back step (spots.Signal object place) is = back-known object place step is
  shown-back step (spots.Chan object place) is = is
  shown-back step (spots.Obs object place) is = is
  shown-back step (spots.LookItem object flags at) is = is
  shown-back step (spots.LookSignal object look) is = is

  -- the log
  log-last : (log : List Spot) → ShowsLog mid number log → ShowsLog last number log
  log-last log shows = record {
    each = λ step spot is not_look. shown-last step spot (shows.each step spot is not_look);
    no_other = λ step spot is. shows.no_other step spot (shown-back step spot is);
    looked = subst (λ (o : Option ℕ). LookedBelow o (length log)) (sym closes.unlooked) tt;
  }

  -- a look that is known stays so
  known-last : (object : ℕ) (h : List Write) (look : Seen) → slice_get seen.signals object ≡ Some h → IsKnown (looks_at seen.looks object) h look →
      (h' : List Write) × (slice_get last.signals object ≡ Some h') × (look.stamp ≤ length h') × IsKnown (looks_at last.looks object) h' look
  known-last object h look there known =
      let lasts = closes.looks object h there in
      let found = subst (λ (l : Option (List Seen)). IsKnown l h look) lasts.looked known in
      let right = All-at (IsLookAt lasts.history) lasts.shown found.0 look lasts.each found.1 in
      (lasts.history, lasts.there, right.0, subst (λ (l : Option (List (List Seen))). IsKnown (looks_at l object) lasts.history look) (sym closes.whole) right.1)

  right-last : (m : Machines) (spot : Spot) → IsRight m mid spot → IsRight m last spot
  right-last m (spots.Work place) is = tt
  right-last m (spots.Clock place) is = tt
  right-last m (spots.Table place) is = tt
  right-last m (spots.Sem object place) is = tt
  right-last m (spots.Msgq object place) is = tt
  right-last m (spots.Signal object place) is = tt
  right-last m (spots.Chan object place) is = tt
  right-last m (spots.Obs object place) is = tt
  right-last m (spots.LookItem object flags at) is = is
  right-last m (spots.LookSignal object look) is = known-last object is.0 look is.1 is.3

  looks-last : (m : Machines) (log : List Spot) → LooksRight m mid log → LooksRight m last log
  looks-last m log right = record { each = λ step spot is. right-last m spot (right.each step spot is); in_order = right.in_order }

  -- what stands at a spot of the log
  stands-last : (step : ℕ) (spot : Spot) (made : StepMade) → (is_look spot ≡ false → shown_at mid spot ≡ Some (number, step)) → Stands mid spot made → Stands last spot made
  stands-last step (spots.Work place) made mine is = is
  stands-last step (spots.Clock place) made mine is = is
  stands-last step (spots.Table place) made mine is = is
  stands-last step (spots.Sem object place) made mine is = is
  stands-last step (spots.Msgq object place) made mine is = is
  stands-last step (spots.Signal object place) made mine is =
      stays-known (λ (e : Write). (steps.Signal object e.op, step_replies.Signal object e.reply place)) object place step made (mine refl) is
  stands-last step (spots.Chan object place) made mine is = is
  stands-last step (spots.Obs object place) made mine is = is
  stands-last step (spots.LookItem object flags at) made mine is = is
  stands-last step (spots.LookSignal object look) made mine is = is

  all-stand : (log : List Spot) (made : List StepMade) → ((step : ℕ) (spot : Spot) (x : StepMade) → slice_get log step ≡ Some spot → Stands mid spot x → Stands last spot x) →
      AllZip (Stands mid) log made → AllZip (Stands last) log made
  all-stand [] [] each all = tt
  all-stand [] (x ∷ made) each all = absurd all
  all-stand (spot ∷ log) [] each all = absurd all
  all-stand (spot ∷ log) (x ∷ made) each all = (each 0 spot x refl all.0, all-stand log made (λ step other y is. each (suc step) other y is) all.1)

  follows-last : (s : Content) (at : PlayerPlace) → ShowsLog mid number at.spots → IsFollowing s number mid at → IsFollowing s number last at
  follows-last s at shows follows = record {
    start = follows.start;
    made = follows.made;
    starts = follows.starts;
    stands = all-stand at.spots follows.made (λ step spot x is. stands-last step spot x (shows.each step spot is)) follows.stands;
    played = follows.played;
  }

  -- what was asked
  asked-back : (spot : Spot) (x : Request) → request_at last spot ≡ Some x → x.who.number ≡ number → request_at mid spot ≡ Some x
  asked-back (spots.Work place) x is mine = is
  asked-back (spots.Clock place) x is mine = is
  asked-back (spots.Table place) x is mine = is
  asked-back (spots.Sem object place) x is mine = is
  asked-back (spots.Msgq object place) x is mine = is
  asked-back (spots.Signal object place) x is mine =
      let e = entry-asked object (entry_at last.signals object place) x is in
      let there = closes.back object place e.0 e.1 (e.2 ∙ mine) in
      ap (option_map (λ (w : Write). request w.who (steps.Signal object w.op))) (there ∙ sym e.1) ∙ is
  asked-back (spots.Chan object place) x is mine = is
  asked-back (spots.Obs object place) x is mine = is
  asked-back (spots.LookItem object flags at) x is mine = is
  asked-back (spots.LookSignal object look) x is mine = is

-- what holds of a player and its log holds in the end
pub closes-sound : (s : Content) (at : PlayerPlace) (seen last : Shown) → IsSoundPlayer s seen at → Closes at.who.number seen last → IsSoundPlayer s last at
closes-sound s at seen last sound closes =
    let n = at.who.number in
    let before : IsSoundPlayer s (late seen last) at = player-still false s at seen (late seen last) closes.others sound in
    record {
      log = log-last n seen last closes at.spots before.log;
      looks = looks-last n seen last closes (machines_of s) at.spots before.looks;
      follows = follows-last n seen last closes s at before.log before.follows;
      fits = before.fits;
      short = before.short;
      known = before.known;
      asked = λ spot x is mine. before.asked spot x (asked-back n seen last closes spot x is mine) mine;
      sighted = before.sighted;
      works = before.works;
    }
