-- What comes between two moments beside the steps of a player.
use Rattle.std.proofs.Common.{◌≡◌, ◌≢◌, ◌⊎◌, ◌∷◌, inl, inr, ℕ, zero, suc, ◌+◌, ◌<◌, Bool, true, false, Option, Some, None, List, [], ◌++◌, length, refl, sym, ap, subst, ◌∙◌}
use Rattle.std.specs.List.{slice_get, AllZip}
use Rattle.std.specs.Option.{option_map}
use Rattle.std.proofs.lemmas.List.Elements.{All-nil, All-cons, All-append}
use Rattle.std.proofs.lemmas.List.{append-nil, append_assoc}
use Rattle.std.proofs.lemmas.Option.{slice_get_within}
use Rattle.zk_base.specs.declared.ids.Entry.{Entry}
use Rattle.zk_base.specs.declared.seen.Seen.{Seen}
use Rattle.zk_base.specs.History.{IsAbove}
use Rattle.zk_base.proofs.Lists.{All-at}
use Rattle.zk_line.specs.declared.types.Decl.{Decl}
use Rattle.zk_model_bus.specs.declared.channel.ChanOp.{ChanOp}
use Rattle.zk_model_bus.specs.declared.channel.ChanReply.{ChanReply}
use Rattle.zk_model_bus.specs.declared.observer.ObsOp.{ObsOp}
use Rattle.zk_model_bus.specs.declared.observer.ObsReply.{ObsReply}
use Rattle.zk_model_wait.specs.declared.msgq.MsgqOp.{MsgqOp}
use Rattle.zk_model_wait.specs.declared.msgq.MsgqReply.{MsgqReply}
use Rattle.zk_model_wait.specs.declared.sem.SemOp.{SemOp}
use Rattle.zk_model_wait.specs.declared.sem.SemReply.{SemReply}
use Rattle.zk_model_wait.specs.declared.signal.SignalOp.{SignalOp}
use Rattle.zk_model_wait.specs.declared.signal.SignalReply.{SignalReply}
use Rattle.zk_worker.specs.declared.steps.Step.{Step}
use Rattle.zk_worker.specs.declared.steps.Step.TheVariants as steps
use Rattle.zk_worker.specs.declared.steps.StepReply.{StepReply}
use Rattle.zk_worker.specs.declared.steps.StepReply.TheVariants as step_replies
use Rattle.zk_worker.specs.declared.steps.Spot.{Spot}
use Rattle.zk_worker.specs.declared.steps.Spot.TheVariants as spots
use Rattle.zk_worker.specs.Follows.{Stands}
use Rattle.zk_worker.specs.Single.{step_of, OthersGrew}
use Rattle.zk_worker.specs.Families.{entry_at, EachGrew}
use Rattle.zk_worker.specs.Looks.{Longer, LooksGrew, LookedBelow}
use Rattle.zk_worker.specs.Shown.{Shown, nothing_shown, shown_at, ShowsLog, IsLater, AllGrew, OnlyOthersCame}
use Rattle.zk_worker.proofs.Lists.{known-longer, known-back, known-there}
use Rattle.zk_worker.proofs.Families.{of-object, none-there}

-- the history of one object
module _ {O R : Type 0} (number : ℕ) where
  -- a history grew by nothing
  pub grew-none : (h : List (Entry O R)) → OthersGrew number h h
  grew-none h =
      let P : Entry O R → Type 0 = λ e. e.who.number ≢ number in
      record { more = []; longer = sym (append-nil h); others = All-nil P }

  -- a history that grew and grew again
  pub grew-both : (old mid new : List (Entry O R)) → OthersGrew number old mid → OthersGrew number mid new → OthersGrew number old new
  grew-both old mid new first then_ =
      let P : Entry O R → Type 0 = λ e. e.who.number ≢ number in
      record {
        more = first.more ++ then_.more;
        longer = then_.longer ∙ ap (λ (h : List (Entry O R)). h ++ then_.more) first.longer ∙ append_assoc old first.more then_.more;
        others = All-append P first.more then_.more first.others then_.others;
      }

  -- what is known of an entry of the history stays so
  entry-longer : {B : Type 0} (f : Entry O R → B) (old new : List (Entry O R)) (place : ℕ) (b : B) → OthersGrew number old new →
      option_map f (slice_get old place) ≡ Some b → option_map f (slice_get new place) ≡ Some b
  entry-longer f old new place b grew is =
      subst (λ (h : List (Entry O R)). option_map f (slice_get h place) ≡ Some b) (sym grew.longer) (known-longer f old grew.more place b is)

  -- and of this player no other came
  entry-back : (step : ℕ) (old new : List (Entry O R)) (place : ℕ) → OthersGrew number old new → option_map step_of (slice_get new place) ≡ Some (number, step) →
      option_map step_of (slice_get old place) ≡ Some (number, step)
  entry-back step old new place grew is =
      by_place (known-back step_of old grew.more place (number, step) (ap (λ (h : List (Entry O R)). option_map step_of (slice_get h place)) (sym grew.longer) ∙ is))
    where
      by_place : (option_map step_of (slice_get old place) ≡ Some (number, step)) ⊎ ((k : ℕ) × (place ≡ length old + k) × (option_map step_of (slice_get grew.more k) ≡ Some (number, step))) →
          option_map step_of (slice_get old place) ≡ Some (number, step)
      by_place (inl there) = there
      by_place (inr added) =
          let P : Entry O R → Type 0 = λ e. e.who.number ≢ number in
          let found = known-there step_of grew.more added.0 (number, step) added.2 in
          absurd (All-at P grew.more added.0 found.0 grew.others found.1 (ap (λ (b : ℕ × ℕ). b.0) found.2))

  above-all : (h : List (Entry O R)) (next : ℕ) → ((place step : ℕ) → option_map step_of (slice_get h place) ≡ Some (number, step) → step < next) → IsAbove h number next
  above-all [] next each = let P : Entry O R → Type 0 = λ e. e.who.number ≡ number → e.step < next in All-nil P
  above-all (e ∷ h) next each =
      let P : Entry O R → Type 0 = λ e. e.who.number ≡ number → e.step < next in
      All-cons P e h (λ mine. each 0 e.step (ap (λ (n : ℕ). Some (n, e.step)) mine)) (above-all h next (λ place step is. each (suc place) step is))

-- the histories of the objects of a kind
module _ {O R : Type 0} (number : ℕ) where
  pub grew-none_each : (hs : List (List (Entry O R))) → EachGrew number hs hs
  grew-none_each [] = tt
  grew-none_each (h ∷ hs) = (grew-none number h, grew-none_each hs)

  pub grew-both_each : (old mid new : List (List (Entry O R))) → EachGrew number old mid → EachGrew number mid new → EachGrew number old new
  grew-both_each [] [] new first then_ = then_
  grew-both_each [] (m ∷ ms) new first then_ = absurd first
  grew-both_each (o ∷ os) [] new first then_ = absurd first
  grew-both_each (o ∷ os) (m ∷ ms) [] first then_ = absurd then_
  grew-both_each (o ∷ os) (m ∷ ms) (n ∷ ns) first then_ = (grew-both number o m n first.0 then_.0, grew-both_each os ms ns first.1 then_.1)

  pub entry-longer_each : {B : Type 0} (f : Entry O R → B) (old new : List (List (Entry O R))) (object place : ℕ) (b : B) → EachGrew number old new →
      option_map f (entry_at old object place) ≡ Some b → option_map f (entry_at new object place) ≡ Some b
  entry-longer_each f [] new object place b grew is = absurd (cc)
  entry-longer_each f (o ∷ os) [] object place b grew is = absurd grew
  entry-longer_each f (o ∷ os) (n ∷ ns) zero place b grew is = entry-longer number f o n place b grew.0 is
  entry-longer_each f (o ∷ os) (n ∷ ns) (suc object) place b grew is = entry-longer_each f os ns object place b grew.1 is

  pub entry-back_each : (step : ℕ) (old new : List (List (Entry O R))) (object place : ℕ) → EachGrew number old new →
      option_map step_of (entry_at new object place) ≡ Some (number, step) → option_map step_of (entry_at old object place) ≡ Some (number, step)
  entry-back_each step old [] object place grew is = absurd (cc)
  entry-back_each step [] (n ∷ ns) object place grew is = absurd grew
  entry-back_each step (o ∷ os) (n ∷ ns) zero place grew is = entry-back number step o n place grew.0 is
  entry-back_each step (o ∷ os) (n ∷ ns) (suc object) place grew is = entry-back_each step os ns object place grew.1 is

  -- a step above all of its player's entries is above those of each object
  pub above-each : (hs : List (List (Entry O R))) (object next : ℕ) (h : List (Entry O R)) → slice_get hs object ≡ Some h →
      ((place step : ℕ) → option_map step_of (entry_at hs object place) ≡ Some (number, step) → step < next) → IsAbove h number next
  above-each hs object next h there each = above-all number h next (λ place step is. each place step (of-object step_of hs object h place (number, step) there is))

-- the looks of one signal, and of each
module _ {A : Type 0} where
  pub longer-none : (xs : List A) → Longer xs xs
  longer-none xs = ([], sym (append-nil xs))

  pub longer-both : (old mid new : List A) → Longer old mid → Longer mid new → Longer old new
  longer-both old mid new first then_ =
      (first.0 ++ then_.0, then_.1 ∙ ap (λ (xs : List A). xs ++ then_.0) first.1 ∙ append_assoc old first.0 then_.0)

  pub longer-none_each : (xss : List (List A)) → AllZip Longer xss xss
  longer-none_each [] = tt
  longer-none_each (xs ∷ xss) = (longer-none xs, longer-none_each xss)

  pub longer-both_each : (old mid new : List (List A)) → AllZip Longer old mid → AllZip Longer mid new → AllZip Longer old new
  longer-both_each [] [] new first then_ = then_
  longer-both_each [] (m ∷ ms) new first then_ = absurd first
  longer-both_each (o ∷ os) [] new first then_ = absurd first
  longer-both_each (o ∷ os) (m ∷ ms) [] first then_ = absurd then_
  longer-both_each (o ∷ os) (m ∷ ms) (n ∷ ns) first then_ = (longer-both o m n first.0 then_.0, longer-both_each os ms ns first.1 then_.1)

pub looks-none : (looks : Option (List (List Seen))) → LooksGrew looks looks
looks-none None = tt
looks-none (Some looks) = longer-none_each looks

looks-both : (old mid new : Option (List (List Seen))) → LooksGrew old mid → LooksGrew mid new → LooksGrew old new
looks-both None None new first then_ = then_
looks-both None (Some m) new first then_ = absurd first
looks-both (Some o) None new first then_ = absurd first
looks-both (Some o) (Some m) None first then_ = absurd then_
looks-both (Some o) (Some m) (Some n) first then_ = longer-both_each o m n first then_

-- nothing comes between a moment and itself
pub between-none : (alone : Bool) (number : ℕ) (shown : Shown) → OnlyOthersCame alone number shown shown
between-none true number shown = refl
between-none false number shown = record {
  work = grew-none number shown.work;
  clock = grew-none number shown.clock;
  table = grew-none number shown.table;
  sems = grew-none_each number shown.sems;
  msgqs = grew-none_each number shown.msgqs;
  signals = grew-none_each number shown.signals;
  chans = grew-none_each number shown.chans;
  observers = grew-none_each number shown.observers;
  looks = looks-none shown.looks;
  looked = refl;
}

-- what comes between two moments, and then between the second and a third
pub between-both : (alone : Bool) (number : ℕ) (old mid new : Shown) → OnlyOthersCame alone number old mid → OnlyOthersCame alone number mid new → OnlyOthersCame alone number old new
between-both true number old mid new first then_ = then_ ∙ first
between-both false number old mid new first then_ = record {
  work = grew-both number old.work mid.work new.work first.work then_.work;
  clock = grew-both number old.clock mid.clock new.clock first.clock then_.clock;
  table = grew-both number old.table mid.table new.table first.table then_.table;
  sems = grew-both_each number old.sems mid.sems new.sems first.sems then_.sems;
  msgqs = grew-both_each number old.msgqs mid.msgqs new.msgqs first.msgqs then_.msgqs;
  signals = grew-both_each number old.signals mid.signals new.signals first.signals then_.signals;
  chans = grew-both_each number old.chans mid.chans new.chans first.chans then_.chans;
  observers = grew-both_each number old.observers mid.observers new.observers first.observers then_.observers;
  looks = looks-both old.looks mid.looks new.looks first.looks then_.looks;
  looked = then_.looked ∙ first.looked;
}

-- what is shown stays shown
shown-longer : (number : ℕ) (old new : Shown) (spot : Spot) (b : ℕ × ℕ) → AllGrew number old new → shown_at old spot ≡ Some b → shown_at new spot ≡ Some b
shown-longer number old new (spots.Work place) b grew is = entry-longer number step_of old.work new.work place b grew.work is
shown-longer number old new (spots.Clock place) b grew is = entry-longer number step_of old.clock new.clock place b grew.clock is
shown-longer number old new (spots.Table place) b grew is = entry-longer number step_of old.table new.table place b grew.table is
shown-longer number old new (spots.Sem object place) b grew is =
    entry-longer_each number step_of old.sems new.sems object place b grew.sems is
shown-longer number old new (spots.Msgq object place) b grew is =
    entry-longer_each number step_of old.msgqs new.msgqs object place b grew.msgqs is
shown-longer number old new (spots.Signal object place) b grew is =
    entry-longer_each number step_of old.signals new.signals object place b grew.signals is
shown-longer number old new (spots.Chan object place) b grew is =
    entry-longer_each number step_of old.chans new.chans object place b grew.chans is
shown-longer number old new (spots.Obs object place) b grew is =
    entry-longer_each number step_of old.observers new.observers object place b grew.observers is
shown-longer number old new (spots.LookItem object flags at) b grew is = is
shown-longer number old new (spots.LookSignal object seen) b grew is = is

-- and so does the step that it stands for
pub stands-longer : (number : ℕ) (old new : Shown) → AllGrew number old new → (spot : Spot) (made : Step × StepReply) →
    Stands old spot made → Stands new spot made
stands-longer number old new grew (spots.Work place) made is =
    entry-longer number (λ e. (steps.Work e.op, step_replies.Work e.reply place)) old.work new.work place made grew.work is
stands-longer number old new grew (spots.Clock place) made is =
    entry-longer number (λ e. (steps.Clock e.op, step_replies.Clock e.reply place)) old.clock new.clock place made grew.clock is
stands-longer number old new grew (spots.Table place) made is =
    entry-longer number (λ e. (steps.Table e.op, step_replies.Table e.reply place)) old.table new.table place made grew.table is
stands-longer number old new grew (spots.Sem object place) made is =
    entry-longer_each number
    (λ e. (steps.Sem object e.op, step_replies.Sem object e.reply place)) old.sems new.sems object place made grew.sems is
stands-longer number old new grew (spots.Msgq object place) made is =
    entry-longer_each number
    (λ e. (steps.Msgq object e.op, step_replies.Msgq object e.reply place)) old.msgqs new.msgqs object place made grew.msgqs is
stands-longer number old new grew (spots.Signal object place) made is =
    entry-longer_each number
    (λ e. (steps.Signal object e.op, step_replies.Signal object e.reply place)) old.signals new.signals object place made grew.signals is
stands-longer number old new grew (spots.Chan object place) made is =
    entry-longer_each number
    (λ e. (steps.Chan object e.op, step_replies.Chan object e.reply place)) old.chans new.chans object place made grew.chans is
stands-longer number old new grew (spots.Obs object place) made is =
    entry-longer_each number
    (λ e. (steps.Obs object e.op, step_replies.Obs object e.reply place)) old.observers new.observers object place made grew.observers is
stands-longer number old new grew (spots.LookItem object flags at) made is = is
stands-longer number old new grew (spots.LookSignal object seen) made is = is

-- and of this player nothing else is
shown-back : (number step : ℕ) (old new : Shown) (spot : Spot) → AllGrew number old new → shown_at new spot ≡ Some (number, step) → shown_at old spot ≡ Some (number, step)
shown-back number step old new (spots.Work place) grew is = entry-back number step old.work new.work place grew.work is
shown-back number step old new (spots.Clock place) grew is = entry-back number step old.clock new.clock place grew.clock is
shown-back number step old new (spots.Table place) grew is = entry-back number step old.table new.table place grew.table is
shown-back number step old new (spots.Sem object place) grew is =
    entry-back_each number step old.sems new.sems object place grew.sems is
shown-back number step old new (spots.Msgq object place) grew is =
    entry-back_each number step old.msgqs new.msgqs object place grew.msgqs is
shown-back number step old new (spots.Signal object place) grew is =
    entry-back_each number step old.signals new.signals object place grew.signals is
shown-back number step old new (spots.Chan object place) grew is =
    entry-back_each number step old.chans new.chans object place grew.chans is
shown-back number step old new (spots.Obs object place) grew is =
    entry-back_each number step old.observers new.observers object place grew.observers is
shown-back number step old new (spots.LookItem object flags at) grew is = is
shown-back number step old new (spots.LookSignal object seen) grew is = is

-- a log is shown as before
pub log-still : (alone : Bool) (number : ℕ) (log : List Spot) (old new : Shown) → ShowsLog old number log → OnlyOthersCame alone number old new → ShowsLog new number log
log-still true number log old new shows nothing = subst (λ (s : Shown). ShowsLog s number log) (sym nothing) shows
log-still false number log old new shows grew = record {
  each = λ step spot is not_look. shown-longer number old new spot (number, step) grew (shows.each step spot is not_look);
  no_other = λ step spot is. shows.no_other step spot (shown-back number step old new spot grew is);
  looked = subst (λ (o : Option ℕ). LookedBelow o (length log)) (sym grew.looked) shows.looked;
}

-- the next step of a log is above all that are shown of its player
pub log-later : (number : ℕ) (log : List Spot) (shown : Shown) → ShowsLog shown number log → IsLater shown number (length log)
log-later number log shown shows = record {
  entries = λ step spot is. slice_get_within log step spot (shows.no_other step spot is);
  looked = shows.looked;
}

-- no step is shown where none was made
pub log-none : (decls : List Decl) (number : ℕ) (log : List Spot) → log ≡ [] → ShowsLog (nothing_shown decls) number log
log-none decls number [] none = record {
  each = λ step spot is not_look. absurd (cc);
  no_other = λ step spot is. absurd (nothing_there step spot is);
  looked = tt;
}
  where
    nothing_there : (step : ℕ) (spot : Spot) → shown_at (nothing_shown decls) spot ≡ Some (number, step) → ⊥
    nothing_there step (spots.Work place) is = cc
    nothing_there step (spots.Clock place) is = cc
    nothing_there step (spots.Table place) is = cc
    nothing_there step (spots.Sem object place) is = none-there step_of decls object place (number, step) is
    nothing_there step (spots.Msgq object place) is = none-there step_of decls object place (number, step) is
    nothing_there step (spots.Signal object place) is = none-there step_of decls object place (number, step) is
    nothing_there step (spots.Chan object place) is = none-there step_of decls object place (number, step) is
    nothing_there step (spots.Obs object place) is = none-there step_of decls object place (number, step) is
    nothing_there step (spots.LookItem object flags at) is = cc
    nothing_there step (spots.LookSignal object seen) is = cc
log-none decls number (spot ∷ log) none = absurd (cc)

-- a step above all that are shown of its player is above those of its entries at each service
pub above-work : (shown : Shown) (number next : ℕ) → IsLater shown number next → IsAbove shown.work number next
above-work shown number next later = above-all number shown.work next (λ place step is. later.entries step (spots.Work place) is)

pub above-clock : (shown : Shown) (number next : ℕ) → IsLater shown number next → IsAbove shown.clock number next
above-clock shown number next later = above-all number shown.clock next (λ place step is. later.entries step (spots.Clock place) is)

pub above-table : (shown : Shown) (number next : ℕ) → IsLater shown number next → IsAbove shown.table number next
above-table shown number next later = above-all number shown.table next (λ place step is. later.entries step (spots.Table place) is)

pub above-sems : (shown : Shown) (number next object : ℕ) (h : List (Entry SemOp SemReply)) →
    slice_get shown.sems object ≡ Some h → IsLater shown number next → IsAbove h number next
above-sems shown number next object h there later =
    above-each number shown.sems object next h there (λ place step is. later.entries step (spots.Sem object place) is)

pub above-msgqs : (shown : Shown) (number next object : ℕ) (h : List (Entry MsgqOp MsgqReply)) →
    slice_get shown.msgqs object ≡ Some h → IsLater shown number next → IsAbove h number next
above-msgqs shown number next object h there later =
    above-each number shown.msgqs object next h there (λ place step is. later.entries step (spots.Msgq object place) is)

pub above-signals : (shown : Shown) (number next object : ℕ) (h : List (Entry SignalOp SignalReply)) →
    slice_get shown.signals object ≡ Some h → IsLater shown number next → IsAbove h number next
above-signals shown number next object h there later =
    above-each number shown.signals object next h there (λ place step is. later.entries step (spots.Signal object place) is)

pub above-chans : (shown : Shown) (number next object : ℕ) (h : List (Entry ChanOp ChanReply)) →
    slice_get shown.chans object ≡ Some h → IsLater shown number next → IsAbove h number next
above-chans shown number next object h there later =
    above-each number shown.chans object next h there (λ place step is. later.entries step (spots.Chan object place) is)

pub above-observers : (shown : Shown) (number next object : ℕ) (h : List (Entry ObsOp ObsReply)) →
    slice_get shown.observers object ≡ Some h → IsLater shown number next → IsAbove h number next
above-observers shown number next object h there later =
    above-each number shown.observers object next h there (λ place step is. later.entries step (spots.Obs object place) is)
