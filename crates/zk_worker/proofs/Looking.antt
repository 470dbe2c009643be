-- The looks of a log stay right, and a look that is made is right, and not older than what its player had seen.
use Rattle.std.proofs.Common.{◌≡◌, ◌⊎◌, inl, inr, ℕ, zero, suc, ◌+◌, ◌<◌, ◌≤◌, ◌==◌, Bool, true, false, cond, Option, Some, None, List, [], ◌∷◌, ◌++◌, length, length-append, take, refl, sym, ap, subst, ◌∙◌, arith}
use Rattle.std.specs.List.{slice_get, AllZip}
use Rattle.std.specs.Option.{option_map, option_and_then}
use Rattle.std.proofs.lemmas.Bool.{eqb-true}
use Rattle.std.proofs.lemmas.List.{take-append-le, length-map}
use Rattle.std.proofs.lemmas.Option.{slice_get_within, slice_get-map}
use Rattle.std.proofs.Math.Seq.{take-length}
use Rattle.zk_base.specs.declared.ids.Who.{Who}
use Rattle.zk_base.specs.declared.ids.Entry.{Entry}
use Rattle.zk_base.specs.History.{entry}
use Rattle.zk_base.specs.declared.seen.Seen.{Seen}
use Rattle.zk_model_wait.specs.declared.signal.SignalOp.{SignalOp}
use Rattle.zk_model_wait.specs.declared.signal.SignalReply.{SignalReply}
use Rattle.zk_model_wait.specs.Signal.{written_by, value_at}
use Rattle.zk_model_wait.proofs.Writes.{value-stamp}
use Rattle.zk_model_work.specs.declared.ops.WorkOp.{WorkOp}
use Rattle.zk_model_work.specs.declared.ops.WorkReply.{WorkReply}
use Rattle.zk_scenario.specs.Content.{Content}
use Rattle.zk_worker.specs.declared.steps.Step.{Step}
use Rattle.zk_worker.specs.declared.steps.Step.TheVariants as steps
use Rattle.zk_worker.specs.declared.steps.StepReply.{StepReply}
use Rattle.zk_worker.specs.declared.steps.StepReply.TheVariants as step_replies
use Rattle.zk_worker.specs.declared.steps.Spot.{Spot}
use Rattle.zk_worker.specs.declared.steps.Spot.TheVariants as spots
use Rattle.zk_worker.specs.Places.{PlayerPlace}
use Rattle.zk_worker.specs.Protocol.{after, spot_of}
use Rattle.zk_worker.specs.Single.{step_of}
use Rattle.zk_worker.specs.Families.{with_entry, EachGrew}
use Rattle.zk_worker.specs.Looks.{Longer, LooksGrew, last_of, looks_at, found_by, IsKnown, writes_of, seen_after}
use Rattle.zk_worker.specs.Machines.{Machines, flags_after}
use Rattle.zk_worker.specs.Shown.{Shown, shown_at, is_look, shown_after, ShowsLog, AllGrew, OnlyOthersCame}
use Rattle.zk_worker.specs.Attempt.{reply_in, ReadsAt, IsMade}
use Rattle.zk_worker.specs.Right.{IsRight, work_front, stamp_at, NotOlder, LooksRight}
use Rattle.zk_worker.proofs.Lists.{at-end, at-front, there-longer, known-there}
use Rattle.zk_worker.proofs.Between.{longer-none, longer-none_each, looks-none, log-still}
use Rattle.zk_worker.proofs.Families.{answered-at}
use Rattle.zk_worker.proofs.ShownSteps.{made-of, HasLooked, look-answered}
use Rattle.zk_worker.proofs.CheckedSteps.{after-spots}

abbrev Writes : Type 0
Writes = List (Entry SignalOp SignalReply)

-- the histories of signals grow
each-longer : (number : ℕ) (old new : List Writes) → EachGrew number old new → AllZip Longer old new
each-longer number [] [] grew = tt
each-longer number [] (n ∷ ns) grew = absurd grew
each-longer number (o ∷ os) [] grew = absurd grew
each-longer number (o ∷ os) (n ∷ ns) grew = ((grew.0.more, grew.0.longer), each-longer number os ns grew.1)

with-longer_each : (hs : List Writes) (object : ℕ) (e : Entry SignalOp SignalReply) → AllZip Longer hs (with_entry hs object e)
with-longer_each [] object e = tt
with-longer_each (h ∷ hs) zero e = ((e ∷ [], refl), longer-none_each hs)
with-longer_each (h ∷ hs) (suc object) e = (longer-none h, with-longer_each hs object e)

-- what is looked at goes on, whosever entries came
pub record GoesOn (old new : Shown) : Type 0 where
  pub work : Longer old.work new.work
  pub signals : AllZip Longer old.signals new.signals
  pub looks : LooksGrew old.looks new.looks

goes-on : (number : ℕ) (old new : Shown) → AllGrew number old new → GoesOn old new
goes-on number old new grew = record {
  work = (grew.work.more, grew.work.longer);
  signals = each-longer number old.signals new.signals grew.signals;
  looks = grew.looks;
}

-- whatever step is made
goes-on-step : (shown : Shown) (who : Who) (number : ℕ) (step : Step) (reply : StepReply) → GoesOn shown (shown_after shown who number step reply)
goes-on-step shown who number (steps.Work op) (step_replies.Work reply place) =
    record { work = (entry who number op reply ∷ [], refl); signals = longer-none_each shown.signals; looks = looks-none shown.looks }
goes-on-step shown who number (steps.Signal object op) (step_replies.Signal at reply place) =
    record { work = longer-none shown.work; signals = with-longer_each shown.signals object (entry who number op reply); looks = looks-none shown.looks }
goes-on-step shown who number (steps.LookItem object) (step_replies.Flags flags at) =
    record { work = longer-none shown.work; signals = longer-none_each shown.signals; looks = looks-none shown.looks }
goes-on-step shown who number step (step_replies.Work reply place) =
    record { work = longer-none shown.work; signals = longer-none_each shown.signals; looks = looks-none shown.looks }
goes-on-step shown who number step reply = record { work = longer-none shown.work; signals = longer-none_each shown.signals; looks = looks-none shown.looks }

-- a list among others, where each grew
there-grown : {A : Type 0} (old new : List (List A)) (object : ℕ) (h : List A) → AllZip Longer old new → slice_get old object ≡ Some h →
    (h' : List A) × (slice_get new object ≡ Some h') × Longer h h'
there-grown [] new object h grew there = absurd (cc)
there-grown (o ∷ os) [] object h grew there = absurd grew
there-grown {A = A} (o ∷ os) (n ∷ ns) zero h grew there =
    let same : o ≡ h = cc in (n, refl, subst (λ (x : List A). Longer x n) same grew.0)
there-grown (o ∷ os) (n ∷ ns) (suc object) h grew there = there-grown os ns object h grew.1 there

none-grown : {A : Type 0} (old new : List (List A)) (object : ℕ) → AllZip Longer old new → slice_get old object ≡ None → slice_get new object ≡ None
none-grown [] [] object grew none = refl
none-grown [] (n ∷ ns) object grew none = absurd grew
none-grown (o ∷ os) [] object grew none = absurd grew
none-grown (o ∷ os) (n ∷ ns) zero grew none = absurd (cc)
none-grown (o ∷ os) (n ∷ ns) (suc object) grew none = none-grown os ns object grew.1 none

-- the value of a stamp stays so when there are more writes
value-still : (h more : Writes) (stamp : ℕ) → stamp ≤ length h → value_at (writes_of (h ++ more)) stamp ≡ value_at (writes_of h) stamp
value-still h more zero within = refl
value-still h more (suc before) within =
    ap (written_by (suc before))
    (slice_get-map (λ (e : Entry SignalOp SignalReply). e.op) (h ++ more) before
    ∙ ap (option_map (λ (e : Entry SignalOp SignalReply). e.op)) (at-front h more before (omega (arith, within)))
    ∙ sym (slice_get-map (λ (e : Entry SignalOp SignalReply). e.op) h before))

-- a known value stays known
known-whole : (h h' : Writes) (seen : Seen) → Longer h h' → seen.stamp ≤ length h → IsKnown None h seen → IsKnown None h' seen
known-whole h h' seen longer within known =
    ap (λ (x : Writes). value_at (writes_of x) seen.stamp) longer.1 ∙ value-still h longer.0 seen.stamp within ∙ known

known-still : (old new : Option (List (List Seen))) (object : ℕ) (h h' : Writes) (seen : Seen) → LooksGrew old new → Longer h h' → seen.stamp ≤ length h →
    IsKnown (looks_at old object) h seen → IsKnown (looks_at new object) h' seen
known-still None None object h h' seen grew longer within known = known-whole h h' seen longer within known
known-still None (Some n) object h h' seen grew longer within known = absurd grew
known-still (Some o) None object h h' seen grew longer within known = absurd grew
known-still (Some o) (Some n) object h h' seen grew longer within known = by_looks (slice_get o object) refl known
  where
    by_looks : (l : Option (List Seen)) → slice_get o object ≡ l → IsKnown l h seen → IsKnown (slice_get n object) h' seen
    by_looks None none known =
        subst (λ (l : Option (List Seen)). IsKnown l h' seen) (sym (none-grown o n object grew none)) (known-whole h h' seen longer within known)
    by_looks (Some looks) there known =
        let more = there-grown o n object looks grew there in
        subst (λ (l : Option (List Seen)). IsKnown l h' seen) (sym more.1)
        (known.0, ap (λ (l : List Seen). slice_get l known.0) more.2.1 ∙ there-longer looks more.2.0 known.0 seen known.1)

-- a right look stays right
right-still : (m : Machines) (old new : Shown) (spot : Spot) → GoesOn old new → IsRight m old spot → IsRight m new spot
right-still m old new (spots.LookItem object flags at) grew right =
    let same : take at new.work ≡ take at old.work = ap (take at) grew.work.1 ∙ take-append-le at old.work grew.work.0 right.0 in
    let long = ap length grew.work.1 in (
      omega (arith, right.0, long, length-append old.work grew.work.0),
      ap (λ (h : List (Entry WorkOp WorkReply)). flags_after m h object) same ∙ right.1,
    )
right-still m old new (spots.LookSignal object seen) grew right =
    let more = there-grown old.signals new.signals object right.0 grew.signals right.1 in
    let long = ap length more.2.1 in (
      more.0,
      more.1,
      omega (arith, right.2, long, length-append right.0 more.2.0),
      known-still old.looks new.looks object right.0 more.0 seen grew.looks more.2 right.2 right.3,
    )
right-still m old new spot grew right = tt

still-between : (alone : Bool) (m : Machines) (number : ℕ) (log : List Spot) (old new : Shown) → LooksRight m old log → OnlyOthersCame alone number old new → LooksRight m new log
still-between true m number log old new right same = subst (λ (s : Shown). LooksRight m s log) (sym same) right
still-between false m number log old new right grew = record {
  each = λ step spot is. right-still m old new spot (goes-on number old new grew) (right.each step spot is);
  in_order = right.in_order;
}

-- what was right stays so, whatever comes between
pub looks-still : (alone : Bool) (m m' : Machines) (number : ℕ) (log : List Spot) (old new : Shown) → m' ≡ m → LooksRight m old log → OnlyOthersCame alone number old new → LooksRight m' new log
looks-still alone m m' number log old new same right between =
    subst (λ (x : Machines). LooksRight x new log) (sym same) (still-between alone m number log old new right between)

-- what a step of a log shows of the work service is shown
front-within : (m : Machines) (shown : Shown) (number step : ℕ) (spot : Spot) → (is_look spot ≡ false → shown_at shown spot ≡ Some (number, step)) →
    IsRight m shown spot → work_front spot ≤ length shown.work
front-within m shown number step (spots.Work place) there right =
    let e = known-there step_of shown.work place (number, step) (there refl) in
    let low = slice_get_within shown.work place e.0 e.1 in omega (arith, low)
front-within m shown number step (spots.LookItem object flags at) there right = right.0
front-within m shown number step spot there right = omega arith

-- and of a signal
stamp-within : (m : Machines) (shown : Shown) (number step object : ℕ) (h : Writes) (spot : Spot) → slice_get shown.signals object ≡ Some h →
    (is_look spot ≡ false → shown_at shown spot ≡ Some (number, step)) → IsRight m shown spot → stamp_at object spot ≤ length h
stamp-within m shown number step object h (spots.Signal at place) is there right = by_object (at == object) refl
  where
    by_object : (b : Bool) → (at == object) ≡ b → cond b (place + 1) 0 ≤ length h
    by_object false differ = omega arith
    by_object true same =
        let one : at ≡ object = eqb-true at object same in
        let here : option_map step_of (slice_get h place) ≡ Some (number, step) =
        ap (λ (o : Option Writes). option_map step_of (option_and_then (λ h. slice_get h place) o)) (sym (ap (slice_get shown.signals) one ∙ is)) ∙ there refl in
        let e = known-there step_of h place (number, step) here in
        let low = slice_get_within h place e.0 e.1 in omega (arith, low)
stamp-within m shown number step object h (spots.LookSignal at seen) is there right = by_object (at == object) refl
  where
    by_object : (b : Bool) → (at == object) ≡ b → cond b seen.stamp 0 ≤ length h
    by_object false differ = omega arith
    by_object true same =
        let one : at ≡ object = eqb-true at object same in
        let both : Some right.0 ≡ Some h = sym right.1 ∙ ap (slice_get shown.signals) one ∙ is in
        let equal : right.0 ≡ h = cc in
        let long = ap length equal in omega (arith, right.2, long)
stamp-within m shown number step object h spot is there right = omega arith

-- the last of the looks that are shown is one of them
last-known : (looks : List Seen) (seen : Seen) → last_of looks ≡ Some seen → (k : ℕ) × (slice_get looks k ≡ Some seen)
last-known [] seen is = absurd (cc)
last-known (x ∷ []) seen is = (0, is)
last-known (x ∷ y ∷ more) seen is = let rest = last-known (y ∷ more) seen is in (suc rest.0, rest.1)

-- what a look finds is known
found-known : (looks : Option (List Seen)) (h : Writes) (seen : Seen) → found_by looks h ≡ Some seen → seen.stamp ≡ length h → IsKnown looks h seen
found-known None h seen is at =
    let same : seen_after h ≡ seen = cc in
    ap (value_at (writes_of h)) (at ∙ sym (length-map h (λ (e : Entry SignalOp SignalReply). e.op))) ∙ same
found-known (Some looks) h seen is at = last-known looks seen is

-- a look that was made at the end of what is shown has the number of writes as its stamp
looked-length : (shown : Shown) (object : ℕ) (must : Bool) (reply : StepReply) (from : HasLooked shown object must reply) →
    ReadsAt shown (steps.LookSignal object must) reply → length from.history ≡ from.seen.stamp
looked-length shown object must reply from at =
    let read : option_map length (slice_get shown.signals object) ≡ Some from.seen.stamp =
    subst (λ (x : StepReply). ReadsAt shown (steps.LookSignal object must) x) (sym from.tells) at in
    let both : Some (length from.history) ≡ Some from.seen.stamp = ap (option_map length) (sym from.there) ∙ read in
    cc

-- the step that is made is right where it is a look
right-made : (m : Machines) (shown : Shown) (who : Who) (step : Step) (reply : StepReply) → reply_in m shown who step ≡ Some reply → ReadsAt shown step reply →
    IsRight m shown (spot_of step reply)
right-made m shown who (steps.LookItem object) reply is at =
    let from = made-of (λ flags. step_replies.Flags flags (length shown.work)) (flags_after m shown.work object) reply is in
    subst (λ (x : StepReply). IsRight m shown (spot_of (steps.LookItem object) x)) from.2
    (omega arith, ap (λ (h : List (Entry WorkOp WorkReply)). flags_after m h object) (take-length shown.work) ∙ from.1)
right-made m shown who (steps.LookSignal object must) reply is at =
    let from = look-answered shown object must reply is in
    let same = looked-length shown object must reply from at in
    subst (λ (x : StepReply). IsRight m shown (spot_of (steps.LookSignal object must) x)) from.tells
    (from.history, from.there, omega (arith, same), found-known (looks_at shown.looks object) from.history from.seen from.found (sym same))
right-made m shown who step reply is at = tt

-- and not older than an earlier step of its player
order-made : (m : Machines) (shown : Shown) (who : Who) (step : Step) (reply : StepReply) (number : ℕ) (earlier : Spot) → reply_in m shown who step ≡ Some reply → ReadsAt shown step reply →
    (is_look earlier ≡ false → shown_at shown earlier ≡ Some (who.number, number)) → IsRight m shown earlier → NotOlder earlier (spot_of step reply)
order-made m shown who (steps.LookItem object) reply number earlier is at there right =
    let from = made-of (λ flags. step_replies.Flags flags (length shown.work)) (flags_after m shown.work object) reply is in
    subst (λ (x : StepReply). NotOlder earlier (spot_of (steps.LookItem object) x)) from.2 (front-within m shown who.number number earlier there right)
order-made m shown who (steps.LookSignal object must) reply number earlier is at there right =
    let from = look-answered shown object must reply is in
    let same = looked-length shown object must reply from at in
    let low = stamp-within m shown who.number number object from.history earlier from.there there right in
    subst (λ (x : StepReply). NotOlder earlier (spot_of (steps.LookSignal object must) x)) from.tells (omega (arith, low, same))
order-made m shown who (steps.Signal object op) reply number earlier is at there right =
    let from = answered-at m.signals shown.signals step_replies.Signal who object op reply is in
    let low = stamp-within m shown who.number number object from.history earlier from.there there right in
    subst (λ (x : StepReply). NotOlder earlier (spot_of (steps.Signal object op) x)) from.tells (omega (arith, low))
order-made m shown who step reply number earlier is at there right = tt

-- the looks of a log with the step that was made
looks-answered : (m : Machines) (shown : Shown) (who : Who) (log : List Spot) (step : Step) (reply : StepReply) → ShowsLog shown who.number log → LooksRight m shown log →
    reply_in m shown who step ≡ Some reply → ReadsAt shown step reply → LooksRight m (shown_after shown who (length log) step reply) (log ++ spot_of step reply ∷ [])
looks-answered m shown who log step reply shows right is at = record {
  each = λ n spot there. right-still m shown (shown_after shown who (length log) step reply) spot (goes-on-step shown who (length log) step reply) (each n spot (at-end log (spot_of step reply) spot n there));
  in_order = λ i j a b less there there'. in_order i j a b less there (at-end log (spot_of step reply) b j there');
}
  where
    each : (n : ℕ) (spot : Spot) → (slice_get log n ≡ Some spot) ⊎ ((n ≡ length log) × (spot_of step reply ≡ spot)) → IsRight m shown spot
    each n spot (inl before) = right.each n spot before
    each n spot (inr last) = subst (λ (x : Spot). IsRight m shown x) last.1 (right-made m shown who step reply is at)

    in_order : (i j : ℕ) (a b : Spot) → i < j → slice_get (log ++ spot_of step reply ∷ []) i ≡ Some a →
        (slice_get log j ≡ Some b) ⊎ ((j ≡ length log) × (spot_of step reply ≡ b)) → NotOlder a b
    in_order i j a b less there (inl before) = earlier (at-end log (spot_of step reply) a i there)
      where
        earlier : (slice_get log i ≡ Some a) ⊎ ((i ≡ length log) × (spot_of step reply ≡ a)) → NotOlder a b
        earlier (inl there) = right.in_order i j a b less there before
        earlier (inr last) = let low = slice_get_within log j b before in absurd (let same = last.0 in omega (arith, less, low, same))
    in_order i j a b less there (inr last) = earlier (at-end log (spot_of step reply) a i there)
      where
        earlier : (slice_get log i ≡ Some a) ⊎ ((i ≡ length log) × (spot_of step reply ≡ a)) → NotOlder a b
        earlier (inl there) =
            subst (λ (x : Spot). NotOlder a x) last.1
            (order-made m shown who step reply i a is at (λ not_look. shows.each i a there not_look) (right.each i a there))
        earlier (inr same) = absurd (let e = same.0 in let e' = last.0 in omega (arith, less, e, e'))

-- and when its player has made a step
pub looks-stepped : (alone : Bool) (m m' : Machines) (s : Content) (at at' : PlayerPlace) (step : Step) (reply : StepReply) (old new : Shown) → m' ≡ m → ShowsLog old at.who.number at.spots →
    LooksRight m old at.spots → IsMade alone m at.who (length at.spots) step reply old new → at' ≡ after s at step reply → LooksRight m' new at'.spots
looks-stepped alone m m' s at at' step reply old new same shows right made next =
    let found = log-still alone at.who.number at.spots old made.found shows made.since in
    let still = still-between alone m at.who.number at.spots old made.found right made.since in
    let answered = looks-answered m made.found at.who at.spots step reply found still made.replied made.read_at in
    subst (λ (x : Machines). LooksRight x new at'.spots) (sym same)
    (subst (λ (a : PlayerPlace). LooksRight m new a.spots) (sym next)
    (subst (λ (l : List Spot). LooksRight m new l) (sym (after-spots s at step reply).1)
    (subst (λ (x : Shown). LooksRight m x (at.spots ++ spot_of step reply ∷ [])) (sym made.shown) answered)))

-- and when another player has made one, on services that nobody else uses
pub looks-others : (m : Machines) (shown : Shown) (who : Who) (number : ℕ) (step : Step) (reply : StepReply) (log : List Spot) →
    LooksRight m shown log → LooksRight m (shown_after shown who number step reply) log
looks-others m shown who number step reply log right = record {
  each = λ k spot is. right-still m shown (shown_after shown who number step reply) spot (goes-on-step shown who number step reply) (right.each k spot is);
  in_order = right.in_order;
}

-- nothing is looked at before the first step
pub looks-fresh : (m : Machines) (shown : Shown) (log : List Spot) → log ≡ [] → LooksRight m shown log
looks-fresh m shown [] none = record { each = λ step spot is. absurd (cc); in_order = λ i j a b less is_a is_b. absurd (cc) }
looks-fresh m shown (spot ∷ log) none = absurd (cc)

-- a look reads at the end of what is shown, where whole histories are shown
pub reads-whole : (m : Machines) (shown : Shown) (who : Who) (step : Step) (reply : StepReply) → shown.looks ≡ None → reply_in m shown who step ≡ Some reply → ReadsAt shown step reply
reads-whole m shown who (steps.LookSignal object must) reply whole is =
    let from = look-answered shown object must reply is in
    let read : Some (seen_after from.history) ≡ Some from.seen =
    sym (ap (λ (o : Option (List (List Seen))). found_by (looks_at o object) from.history) whole) ∙ from.found in
    let same : seen_after from.history ≡ from.seen = cc in
    subst (λ (x : StepReply). ReadsAt shown (steps.LookSignal object must) x) from.tells
    (ap (option_map length) from.there ∙ ap (λ (n : ℕ). Some n)
    (sym (length-map from.history (λ (e : Entry SignalOp SignalReply). e.op))
    ∙ sym (value-stamp (writes_of from.history) (length (writes_of from.history))) ∙ ap (λ (s : Seen). s.stamp) same))
reads-whole m shown who step reply whole is = tt
