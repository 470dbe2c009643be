-- A player that had no possible attempt has none, as long as what it asked for is in vain still.
use Rattle.std.proofs.Common.{◌≡◌, ◌≢◌, ◌⊎◌, inl, inr, ℕ, zero, suc, ◌+◌, ◌≤◌, Bool, true, false, Option, Some, None, is_some, List, [], ◌∷◌, ◌++◌, length, map, set, take, drop, All, refl, sym, ap, subst, ◌∙◌, arith, length-append}
use Rattle.std.proofs.lemmas.List.{append-nil, take-append-le}
use Rattle.std.proofs.lemmas.List.Elements.{All-nil, All-cons, All-head, All-tail}
use Rattle.std.specs.List.{slice_get, AllZip}
use Rattle.std.specs.Option.{option_map, option_and_then}
use Rattle.zk_base.specs.declared.ids.Who.{Who}
use Rattle.zk_base.specs.declared.ids.Entry.{Entry}
use Rattle.zk_base.specs.declared.seen.Seen.{Seen}
use Rattle.zk_base.specs.History.{entry}
use Rattle.zk_model_bus.specs.declared.table.TableOp.{TableOp}
use Rattle.zk_model_bus.specs.declared.table.TableReply.{TableReply}
use Rattle.zk_model_wait.specs.declared.clock.ClockOp.{ClockOp}
use Rattle.zk_model_wait.specs.declared.clock.ClockReply.{ClockReply}
use Rattle.zk_model_wait.specs.declared.signal.SignalOp.{SignalOp}
use Rattle.zk_model_wait.specs.declared.signal.SignalReply.{SignalReply}
use Rattle.zk_model_work.specs.declared.ops.WorkOp.{WorkOp}
use Rattle.zk_model_work.specs.declared.ops.WorkReply.{WorkReply}
use Rattle.zk_scenario.specs.Content.{Content}
use Rattle.zk_services.specs.Counted.{service_of, count_at, entries_at}
use Rattle.zk_worker.specs.declared.steps.Step.{Step}
use Rattle.zk_worker.specs.declared.steps.Step.TheVariants as steps
use Rattle.zk_worker.specs.declared.steps.StepReply.{StepReply}
use Rattle.zk_worker.specs.declared.steps.StepReply.TheVariants as step_replies
use Rattle.zk_worker.specs.Attempt.{reply_in}
use Rattle.zk_worker.specs.Choosing.{or_else, first_possible, chosen}
use Rattle.zk_worker.specs.Families.{Family, start_of, with_entry, answer_at}
use Rattle.zk_worker.specs.Looks.{Longer, look_reply, look_at, looks_at, found_by}
use Rattle.zk_worker.specs.Machines.{Machines, flags_after}
use Rattle.zk_worker.specs.Places.{PlayerPlace}
use Rattle.zk_worker.specs.Protocol.{attempts}
use Rattle.zk_worker.specs.Shown.{Shown, shown_after}
use Rattle.zk_worker.specs.Single.{answer_in}
use Rattle.zk_worker.proofs.Between.{longer-none, longer-both, longer-none_each, longer-both_each}
use Rattle.zk_worker.proofs.Lists.{slice_get-set}
use Rattle.zk_replay.specs.declared.last_turn.Asked.{Asked}
use Rattle.zk_replay.specs.declared.last_turn.LastTurn.{LastTurn}
use Rattle.zk_world.specs.World.{world}
use Rattle.zk_replay.specs.Turning.{shown_with, at_after, IsTurn}
use Rattle.zk_replay.specs.LastTurns.{asked_at, IsFutile, AreFutile, counted_again, HaveAsked, IsEarlier, WaitsSince, IsKept, AreKept}

module _ {A : Type 0} where
  -- what has only grown and is as long as it was is the same
  same-length : (old new : List A) → Longer old new → length new ≡ length old → new ≡ old
  same-length old new grew same = by grew.0 grew.1 where
    by : (more : List A) → new ≡ old ++ more → new ≡ old
    by [] is = is ∙ append-nil old
    by (x ∷ more) is =
        let long : length new ≡ length (old ++ x ∷ more) = ap (λ (l : List A). length l) is in
        let parts : length (old ++ x ∷ more) ≡ length old + suc (length more) = length-append old (x ∷ more) in
        absurd (omega arith)

  -- and so the history of an object that has as many entries as it had
  same-at : (old new : List (List A)) (object : ℕ) → AllZip Longer old new → count_at new object ≡ count_at old object → slice_get new object ≡ slice_get old object
  same-at [] [] object grew same = refl
  same-at [] (n ∷ ns) object grew same = absurd grew
  same-at (o ∷ os) [] object grew same = absurd grew
  same-at (o ∷ os) (n ∷ ns) zero grew same = ap (λ (h : List A). Some h) (same-length o n grew.0 same)
  same-at (o ∷ os) (n ∷ ns) (suc object) grew same = same-at os ns object grew.1 same

answer-same : {S O R : Type 0} (family : Family S O R) (old new : List (List (Entry O R))) (step_reply : ℕ → R → ℕ → StepReply) (who : Who) (object : ℕ) (op : O) →
    AllZip Longer old new → count_at new object ≡ count_at old object → answer_at family new step_reply who object op ≡ answer_at family old step_reply who object op
answer-same {O = O} {R = R} family old new step_reply who object op grew same =
    ap (λ (o : Option (List (Entry O R))). option_and_then (λ start. option_and_then (λ h. answer_in family.machine start h (step_reply object) who op) o) (start_of family object))
    (same-at old new object grew same)

-- a step is answered as it was where its service has as many entries as it had
reply-same : (m : Machines) (old new : Shown) (who : Who) → IsEarlier old new → (step : Step) → entries_at new (service_of step) ≡ entries_at old (service_of step) →
    reply_in m new who step ≡ reply_in m old who step
reply-same m old new who grew (steps.Work op) same =
    ap (λ (h : List (Entry WorkOp WorkReply)). answer_in m.work m.work_start h step_replies.Work who op) (same-length old.work new.work grew.work same)
reply-same m old new who grew (steps.Clock op) same =
    ap (λ (h : List (Entry ClockOp ClockReply)). answer_in m.clock m.clock_start h step_replies.Clock who op) (same-length old.clock new.clock grew.clock same)
reply-same m old new who grew (steps.Table op) same =
    ap (λ (h : List (Entry TableOp TableReply)). answer_in m.table m.table_start h step_replies.Table who op) (same-length old.table new.table grew.table same)
reply-same m old new who grew (steps.Sem object op) same = answer-same m.sems old.sems new.sems step_replies.Sem who object op grew.sems same
reply-same m old new who grew (steps.Msgq object op) same = answer-same m.msgqs old.msgqs new.msgqs step_replies.Msgq who object op grew.msgqs same
reply-same m old new who grew (steps.Signal object op) same = answer-same m.signals old.signals new.signals step_replies.Signal who object op grew.signals same
reply-same m old new who grew (steps.Chan object op) same = answer-same m.chans old.chans new.chans step_replies.Chan who object op grew.chans same
reply-same m old new who grew (steps.Obs object op) same = answer-same m.observers old.observers new.observers step_replies.Obs who object op grew.observers same
reply-same m old new who grew (steps.LookItem object) same =
    ap (λ (h : List (Entry WorkOp WorkReply)). option_map (λ flags. step_replies.Flags flags (length h)) (flags_after m h object)) (same-length old.work new.work grew.work same)
reply-same m old new who grew (steps.LookSignal object must) same =
    ap (λ (looks : Option (List (List Seen))). look_at looks new.signals object must) grew.looks
    ∙ ap (λ (o : Option (List (Entry SignalOp SignalReply))). option_and_then (λ h. option_and_then (look_reply must) (found_by (looks_at old.looks object) h)) o)
    (same-at old.signals new.signals object grew.signals same)

-- a step that was in vain, and is in vain still, isn't possible
one-still : (m : Machines) (old new : Shown) (who : Who) → IsEarlier old new → (step : Step) → reply_in m old who step ≡ None → IsFutile m new who (asked_at old step) →
    reply_in m new who step ≡ None
one-still m old new who grew step none (inl same) = reply-same m old new who grew step same ∙ none
one-still m old new who grew step none (inr futile) = futile

pub none_first : (step : Step) (o : Option StepReply) (rest : Option (Step × StepReply)) → or_else step o rest ≡ None → (o ≡ None) × (rest ≡ None)
none_first step None rest none = (refl, none)
none_first step (Some r) rest none = absurd (cc)

first-still : (m : Machines) (old new : Shown) (who : Who) → IsEarlier old new → (ahead : List Step) → first_possible m old who ahead ≡ None → AreFutile m new who (map (asked_at old) ahead) →
    first_possible m new who ahead ≡ None
first-still m old new who grew [] none futile = refl
first-still m old new who grew (x ∷ xs) none futile =
    let P : Asked → Type 0 = IsFutile m new who in
    let both = none_first x (reply_in m old who x) (first_possible m old who xs) none in
    ap (λ (o : Option StepReply). or_else x o (first_possible m new who xs))
    (one-still m old new who grew x both.0 (All-head P (asked_at old x) (map (asked_at old) xs) futile))
    ∙ first-still m old new who grew xs both.1 (All-tail P (asked_at old x) (map (asked_at old) xs) futile)

-- it has no possible attempt still
pub still-none : (m : Machines) (s : Content) (shown : Shown) (at : PlayerPlace) (asked : List Asked) → WaitsSince m s shown at asked → AreFutile m shown at.who asked → chosen m s shown at ≡ None
still-none m s shown at asked since futile =
    first-still m since.earlier shown at.who since.since (attempts s at) since.none (subst (λ (l : List Asked). AreFutile m shown at.who l) since.asks futile)

earlier-here : (shown : Shown) → IsEarlier shown shown
earlier-here shown = record {
  work = longer-none shown.work;
  clock = longer-none shown.clock;
  table = longer-none shown.table;
  sems = longer-none_each shown.sems;
  msgqs = longer-none_each shown.msgqs;
  signals = longer-none_each shown.signals;
  chans = longer-none_each shown.chans;
  observers = longer-none_each shown.observers;
  looks = refl;
}

earlier-both : (old mid new : Shown) → IsEarlier old mid → IsEarlier mid new → IsEarlier old new
earlier-both old mid new first then_ = record {
  work = longer-both old.work mid.work new.work first.work then_.work;
  clock = longer-both old.clock mid.clock new.clock first.clock then_.clock;
  table = longer-both old.table mid.table new.table first.table then_.table;
  sems = longer-both_each old.sems mid.sems new.sems first.sems then_.sems;
  msgqs = longer-both_each old.msgqs mid.msgqs new.msgqs first.msgqs then_.msgqs;
  signals = longer-both_each old.signals mid.signals new.signals first.signals then_.signals;
  chans = longer-both_each old.chans mid.chans new.chans first.chans then_.chans;
  observers = longer-both_each old.observers mid.observers new.observers first.observers then_.observers;
  looks = then_.looks ∙ first.looks;
}

module _ {O R : Type 0} where
  longer-with : (hs : List (List (Entry O R))) (object : ℕ) (e : Entry O R) → AllZip Longer hs (with_entry hs object e)
  longer-with [] object e = tt
  longer-with (h ∷ hs) zero e = ((e ∷ [], refl), longer-none_each hs)
  longer-with (h ∷ hs) (suc object) e = (longer-none h, longer-with hs object e)

-- what is shown before a step is earlier than what is shown behind it
earlier-after : (shown : Shown) (who : Who) (n : ℕ) (step : Step) (reply : StepReply) → IsEarlier shown (shown_after shown who n step reply)
earlier-after shown who n (steps.Work op) (step_replies.Work r place) =
    let here = earlier-here shown in
    record { work = (entry who n op r ∷ [], refl); clock = here.clock; table = here.table; sems = here.sems; msgqs = here.msgqs; signals = here.signals; chans = here.chans; observers = here.observers; looks = refl }
earlier-after shown who n (steps.Clock op) (step_replies.Clock r place) =
    let here = earlier-here shown in
    record { work = here.work; clock = (entry who n op r ∷ [], refl); table = here.table; sems = here.sems; msgqs = here.msgqs; signals = here.signals; chans = here.chans; observers = here.observers; looks = refl }
earlier-after shown who n (steps.Table op) (step_replies.Table r place) =
    let here = earlier-here shown in
    record { work = here.work; clock = here.clock; table = (entry who n op r ∷ [], refl); sems = here.sems; msgqs = here.msgqs; signals = here.signals; chans = here.chans; observers = here.observers; looks = refl }
earlier-after shown who n (steps.Sem object op) (step_replies.Sem at r place) =
    let here = earlier-here shown in
    record { work = here.work; clock = here.clock; table = here.table; sems = longer-with shown.sems object (entry who n op r); msgqs = here.msgqs; signals = here.signals; chans = here.chans; observers = here.observers; looks = refl }
earlier-after shown who n (steps.Msgq object op) (step_replies.Msgq at r place) =
    let here = earlier-here shown in
    record { work = here.work; clock = here.clock; table = here.table; sems = here.sems; msgqs = longer-with shown.msgqs object (entry who n op r); signals = here.signals; chans = here.chans; observers = here.observers; looks = refl }
earlier-after shown who n (steps.Signal object op) (step_replies.Signal at r place) =
    let here = earlier-here shown in
    record { work = here.work; clock = here.clock; table = here.table; sems = here.sems; msgqs = here.msgqs; signals = longer-with shown.signals object (entry who n op r); chans = here.chans; observers = here.observers; looks = refl }
earlier-after shown who n (steps.Chan object op) (step_replies.Chan at r place) =
    let here = earlier-here shown in
    record { work = here.work; clock = here.clock; table = here.table; sems = here.sems; msgqs = here.msgqs; signals = here.signals; chans = longer-with shown.chans object (entry who n op r); observers = here.observers; looks = refl }
earlier-after shown who n (steps.Obs object op) (step_replies.Obs at r place) =
    let here = earlier-here shown in
    record { work = here.work; clock = here.clock; table = here.table; sems = here.sems; msgqs = here.msgqs; signals = here.signals; chans = here.chans; observers = longer-with shown.observers object (entry who n op r); looks = refl }
earlier-after shown who n (steps.LookItem object) (step_replies.Flags flags at) =
    let here = earlier-here shown in
    record { work = here.work; clock = here.clock; table = here.table; sems = here.sems; msgqs = here.msgqs; signals = here.signals; chans = here.chans; observers = here.observers; looks = refl }
earlier-after shown who n step reply = earlier-here shown

earlier-turn : (old new : Shown) (who : Who) (n : ℕ) (made : Option (Step × StepReply)) → new ≡ shown_with old who n made → IsEarlier old new
earlier-turn old new who n None shows = subst (IsEarlier old) (sym shows) (earlier-here old)
earlier-turn old new who n (Some made) shows = subst (IsEarlier old) (sym shows) (earlier-after old who n made.0 made.1)

pub none_or : {A : Type 0} (o : Option A) → false ≡ is_some o → o ≡ None
none_or None is = refl
none_or (Some x) is = absurd (cc)

-- a player that is passed over had no possible attempt
pub passed : (m : Machines) (s : Content) (shown : Shown) (at : PlayerPlace) (kept : LastTurn) → IsKept m s shown at kept → (kept.waits ≡ true) × AreFutile m shown at.who kept.asked.items →
    IsTurn m s at at shown shown false
passed m s shown at kept was vain =
    let none = still-none m s shown at kept.asked.items (was vain.0) vain.1 in
    record {
      place = ap (at_after s at) (sym none);
      shows = ap (shown_with shown at.who (length at.spots)) (sym none);
      moves = ap is_some (sym none);
    }

-- what is kept of a turn holds
pub kept-turn : (m : Machines) (s : Content) (at at' : PlayerPlace) (old new : Shown) (moved : Bool) (kept : LastTurn) → IsTurn m s at at' old new moved →
    (moved ≡ true → kept.waits ≡ false) → (moved ≡ false → kept.asked.items ≡ map (asked_at new) (attempts s at')) → IsKept m s new at' kept
kept-turn m s at at' old new true kept turn moves asks = λ waits. absurd (let no = moves refl in cc)
kept-turn m s at at' old new false kept turn moves asks = λ waits.
    let none = none_or (chosen m s old at) turn.moves in
    let here : at' ≡ at = turn.place ∙ ap (at_after s at) none in
    let same : new ≡ old = turn.shows ∙ ap (shown_with old at.who (length at.spots)) none in
    record {
      earlier = new;
      since = earlier-here new;
      none = ap (λ (x : Shown). chosen m s x at') same ∙ ap (chosen m s old) here ∙ none;
      asks = asks refl;
    }

-- the services that are asked are the same where a player stays
pub asked-still : (m : Machines) (s : Content) (shown : Shown) (at at' : PlayerPlace) (old new : Shown) (moved : Bool) (kept : LastTurn) → IsKept m s shown at kept → IsTurn m s at at' old new moved →
    moved ≡ false → kept.waits ≡ true → HaveAsked kept.asked.items (attempts s at')
asked-still m s shown at at' old new moved kept was turn still waits =
    let since = was waits in
    let none = none_or (chosen m s old at) (sym still ∙ turn.moves) in
    let here : at' ≡ at = turn.place ∙ ap (at_after s at) none in
    (since.earlier, since.asks ∙ ap (λ (x : PlayerPlace). map (asked_at since.earlier) (attempts s x)) (sym here))

-- counted anew they are as if asked now
pub counted-asked : (earlier shown : Shown) (ahead : List Step) → map (counted_again shown) (map (asked_at earlier) ahead) ≡ map (asked_at shown) ahead
counted-asked earlier shown [] = refl
counted-asked earlier shown (x ∷ xs) = ap (λ (l : List Asked). asked_at shown x ∷ l) (counted-asked earlier shown xs)

kept-later : (m : Machines) (s : Content) (old new : Shown) (at : PlayerPlace) (kept : LastTurn) → IsEarlier old new → IsKept m s old at kept → IsKept m s new at kept
kept-later m s old new at kept grew was = λ waits.
    let since = was waits in
    record {
      earlier = since.earlier;
      since = earlier-both since.earlier old new since.since grew;
      none = since.none;
      asks = since.asks;
    }

-- and so of all players, behind a turn of one
kept-each : (m : Machines) (s : Content) (old new : Shown) (players : List PlayerPlace) (waiting : List LastTurn) (p : ℕ) (at' : PlayerPlace) (kept' : LastTurn) →
    AreKept m s (world old players) waiting → IsEarlier old new → IsKept m s new at' kept' → AreKept m s (world new (set players p at')) (set waiting p kept')
kept-each m s old new players waiting p at' kept' were grew here = λ q at kept is of_it. by q at kept (slice_get-set players p q at' at is) (slice_get-set waiting p q kept' kept of_it) where
  by : (q : ℕ) (at : PlayerPlace) (kept : LastTurn) → ((q ≡ p) × (at ≡ at')) ⊎ ((q ≢ p) × (slice_get players q ≡ Some at)) →
      ((q ≡ p) × (kept ≡ kept')) ⊎ ((q ≢ p) × (slice_get waiting q ≡ Some kept)) → IsKept m s new at kept
  by q at kept (inl mine) (inl own) = subst (λ (x : PlayerPlace). IsKept m s new x kept) (sym mine.1) (subst (λ (k : LastTurn). IsKept m s new at' k) (sym own.1) here)
  by q at kept (inl mine) (inr other) = absurd (other.0 mine.0)
  by q at kept (inr other) (inl own) = absurd (other.0 own.0)
  by q at kept (inr other) (inr there) = kept-later m s old new at kept grew (were q at kept other.1 there.1)

pub kept-turned : (m : Machines) (s : Content) (old new : Shown) (players players' : List PlayerPlace) (waiting waiting' : List LastTurn) (p : ℕ) (at at' : PlayerPlace) (kept' : LastTurn) (moved : Bool) →
    AreKept m s (world old players) waiting → IsTurn m s at at' old new moved → players' ≡ set players p at' → waiting' ≡ set waiting p kept' → IsKept m s new at' kept' →
    AreKept m s (world new players') waiting'
kept-turned m s old new players players' waiting waiting' p at at' kept' moved were turn written noted here =
    subst (λ (ps : List PlayerPlace). AreKept m s (world new ps) waiting') (sym written)
    (subst (λ (ws : List LastTurn). AreKept m s (world new (set players p at')) ws) (sym noted)
    (kept-each m s old new players waiting p at' kept' were (earlier-turn old new at.who (length at.spots) (chosen m s old at) turn.shows) here))

module _ {A B : Type 0} (f : A → B) where
  -- so many of a list are all of it, where it has no more
  pub asked-all : (xs : List A) (n : ℕ) → slice_get xs n ≡ None → map f (take n xs) ≡ map f xs
  asked-all [] zero none = refl
  asked-all [] (suc n) none = refl
  asked-all (x ∷ xs) zero none = absurd (cc)
  asked-all (x ∷ xs) (suc n) none = ap (λ (l : List B). f x ∷ l) (asked-all xs n none)

  pub asked-most : (xs : List A) (n : ℕ) → length xs ≤ n → map f (take n xs) ≡ map f xs
  asked-most [] zero few = refl
  asked-most [] (suc n) few = refl
  asked-most (x ∷ xs) zero few = absurd (omega arith)
  asked-most (x ∷ xs) (suc n) few = ap (λ (l : List B). f x ∷ l) (asked-most xs n (omega arith))

  -- and one more of it
  more : (xs : List A) (n : ℕ) (x : A) → slice_get xs n ≡ Some x → map f (take (suc n) xs) ≡ map f (take n xs) ++ f x ∷ []
  more [] n x is = absurd (cc)
  more (y ∷ xs) zero x is = let same : y ≡ x = cc in ap (λ (z : A). f z ∷ []) same
  more (y ∷ xs) (suc n) x is = ap (λ (l : List B). f y ∷ l) (more xs n x is)

  pub asked-more : (xs : List A) (n : ℕ) (x : A) → slice_get xs n ≡ Some x → map f (take (n + 1) xs) ≡ map f (take n xs) ++ f x ∷ []
  asked-more xs n x is = let next : n + 1 ≡ suc n = omega arith in ap (λ (k : ℕ). map f (take k xs)) next ∙ more xs n x is

-- one more of a list passes
all-more : {A : Type 0} (P : A → Type 0) (xs : List A) (n : ℕ) (x : A) → slice_get xs n ≡ Some x → All P (take n xs) → P x → All P (take (suc n) xs)
all-more P [] n x is all it = absurd (cc)
all-more P (y ∷ ys) zero x is all it = let same : y ≡ x = cc in subst (λ z. All P (z ∷ [])) (sym same) (All-cons P x [] it (All-nil P))
all-more P (y ∷ ys) (suc n) x is all it = All-cons P y (take (suc n) ys) (All-head P y (take n ys) all) (all-more P ys n x is (All-tail P y (take n ys) all) it)

pub all-one_more : {A : Type 0} (P : A → Type 0) (xs : List A) (n : ℕ) (x : A) → slice_get xs n ≡ Some x → All P (take n xs) → P x → All P (take (n + 1) xs)
all-one_more P xs n x is all it = let next : n + 1 ≡ suc n = omega arith in subst (λ (k : ℕ). All P (take k xs)) (sym next) (all-more P xs n x is all it)

-- so many of what was written back are what was written
pub written-back : {A : Type 0} (new old : List A) (n : ℕ) → length new ≡ n → take n (new ++ drop (length new) old) ≡ new
written-back new old n long = take-append-le n new (drop (length new) old) (omega arith) ∙ all new n (omega arith) where
  all : {A : Type 0} (xs : List A) (n : ℕ) → length xs ≤ n → take n xs ≡ xs
  all [] zero few = refl
  all [] (suc n) few = refl
  all (x ∷ xs) zero few = absurd (omega arith)
  all {A} (x ∷ xs) (suc n) few = ap (λ (l : List A). x ∷ l) (all xs n (omega arith))
