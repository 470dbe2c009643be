-- What is shown of a player that makes a step.
use Rattle.std.proofs.Common.{◌≡◌, ◌≢◌, ◌⊎◌, inl, inr, ℕ, ◌+◌, ◌≤◌, Bool, true, false, not, ◌&&◌, cond, Option, Some, None, List, [], ◌∷◌, ◌++◌, length, length-append, refl, sym, ap, subst, ◌∙◌, arith}
use Rattle.std.specs.List.{slice_get}
use Rattle.std.specs.Option.{option_map, option_and_then}
use Rattle.std.proofs.lemmas.Option.{option_and_then_some}
use Rattle.zk_base.specs.declared.ids.Who.{Who}
use Rattle.zk_base.specs.declared.ids.Entry.{Entry}
use Rattle.zk_base.specs.declared.seen.Seen.{Seen}
use Rattle.zk_base.specs.History.{entry}
use Rattle.zk_base.specs.Legal.{state_after}
use Rattle.zk_scenario.specs.Content.{Content}
use Rattle.zk_model_bus.specs.declared.channel.ChanOp.{ChanOp}
use Rattle.zk_model_bus.specs.declared.channel.ChanReply.{ChanReply}
use Rattle.zk_model_bus.specs.declared.observer.ObsOp.{ObsOp}
use Rattle.zk_model_bus.specs.declared.observer.ObsReply.{ObsReply}
use Rattle.zk_model_bus.specs.declared.table.TableOp.{TableOp}
use Rattle.zk_model_bus.specs.declared.table.TableReply.{TableReply}
use Rattle.zk_model_wait.specs.declared.clock.ClockOp.{ClockOp}
use Rattle.zk_model_wait.specs.declared.clock.ClockReply.{ClockReply}
use Rattle.zk_model_wait.specs.declared.msgq.MsgqOp.{MsgqOp}
use Rattle.zk_model_wait.specs.declared.msgq.MsgqReply.{MsgqReply}
use Rattle.zk_model_wait.specs.declared.sem.SemOp.{SemOp}
use Rattle.zk_model_wait.specs.declared.sem.SemReply.{SemReply}
use Rattle.zk_model_wait.specs.declared.signal.SignalOp.{SignalOp}
use Rattle.zk_model_wait.specs.declared.signal.SignalReply.{SignalReply}
use Rattle.zk_model_work.specs.declared.ops.WorkOp.{WorkOp}
use Rattle.zk_model_work.specs.declared.ops.WorkReply.{WorkReply}
use Rattle.zk_worker.specs.declared.steps.Step.{Step}
use Rattle.zk_worker.specs.declared.steps.Step.TheVariants as steps
use Rattle.zk_worker.specs.declared.steps.StepReply.{StepReply}
use Rattle.zk_worker.specs.declared.steps.StepReply.TheVariants as step_replies
use Rattle.zk_worker.specs.declared.steps.Spot.{Spot}
use Rattle.zk_worker.specs.declared.steps.Spot.TheVariants as spots
use Rattle.zk_worker.specs.Places.{PlayerPlace}
use Rattle.zk_worker.specs.Protocol.{after, spot_of}
use Rattle.zk_worker.specs.Follows.{made_at, Stands, StandsMore}
use Rattle.zk_worker.specs.Machines.{Machines, flags_after}
use Rattle.zk_worker.specs.Single.{step_of}
use Rattle.zk_worker.specs.Families.{Family, entry_at, with_entry, answer_at}
use Rattle.zk_worker.specs.Looks.{LookedBelow, looks_at, found_by, look_reply, look_at}
use Rattle.zk_worker.specs.Shown.{Shown, shown_at, shown_after, is_look, entry_count, ShowsLog}
use Rattle.zk_worker.specs.Attempt.{reply_in, IsMade}
use Rattle.zk_worker.proofs.Lists.{at-end, there-longer, there-behind}
use Rattle.zk_worker.proofs.Families.{with-here, with-longer, with-back, with-count, answered-at}
use Rattle.zk_worker.proofs.Between.{log-still}
use Rattle.zk_worker.proofs.CheckedSteps.{after-spots}

-- what is mapped to something is there
pub made-of : {A B : Type 0} (f : A → B) (o : Option A) (b : B) → option_map f o ≡ Some b → (a : A) × (o ≡ Some a) × (f a ≡ b)
made-of f None b is = absurd (cc)
made-of f (Some a) b is = (a, refl, cc)

-- a step more is shown: its entry at this spot, unless it is a look, and it stands for what was made there; elsewhere is what was there before
pub record IsMore (shown longer : Shown) (spot : Spot) (step : ℕ × ℕ) (made : Step × StepReply) : Type 0 where
  pub here : is_look spot ≡ false → shown_at longer spot ≡ Some step
  pub stays : (at : Spot) (b : ℕ × ℕ) → shown_at shown at ≡ Some b → shown_at longer at ≡ Some b
  pub back : (at : Spot) (b : ℕ × ℕ) → shown_at longer at ≡ Some b → (shown_at shown at ≡ Some b) ⊎ ((at ≡ spot) × (step ≡ b))
  pub stands : StandsMore shown longer spot made
  pub count : entry_count longer ≤ entry_count shown + 1

pair-same : (a b a' b' : ℕ) → a ≡ a' → b ≡ b' → ◌≡◌ {A = ℕ × ℕ} (a, b) (a', b')
pair-same a b a' b' one other = cc

-- where each entry stands for what it stood for, so does each look
stands-still : (old new : Shown) → ((at : Spot) (x : Step × StepReply) → made_at old at ≡ Some x → made_at new at ≡ Some x) →
    (at : Spot) (x : Step × StepReply) → Stands old at x → Stands new at x
stands-still old new still (spots.LookItem object flags at) x is = is
stands-still old new still (spots.LookSignal object seen) x is = is
stands-still old new still at x is = still at x is

-- the entries of a kind by their places, with one entry more
pub record IsWith {P E : Type 0} (old new : P → Option E) (place : P) (e : E) : Type 0 where
  pub here : new place ≡ Some e
  pub stays : (p : P) (x : E) → old p ≡ Some x → new p ≡ Some x
  pub back : (p : P) (x : E) → new p ≡ Some x → (old p ≡ Some x) ⊎ ((p ≡ place) × (e ≡ x))

-- the history of one object
pub history-with : {E : Type 0} (h : List E) (e : E) → IsWith (slice_get h) (slice_get (h ++ e ∷ [])) (length h) e
history-with h e = record {
  here = there-behind h e;
  stays = λ p x is. there-longer h (e ∷ []) p x is;
  back = λ p x is. at-end h e x p is;
}

-- the histories of the objects of a kind, where a place is an object and a place in its history
pub histories-with : {O R : Type 0} (hs : List (List (Entry O R))) (object : ℕ) (h : List (Entry O R)) (e : Entry O R) → slice_get hs object ≡ Some h →
    IsWith {P = ℕ × ℕ} (λ p. entry_at hs p.0 p.1) (λ p. entry_at (with_entry hs object e) p.0 p.1) (object, length h) e
histories-with {O = O} {R = R} hs object h e there = record {
  here = with-here hs object e h there;
  stays = λ p x is. with-longer hs object e p.0 p.1 x is;
  back = λ p x is. by_place p x (with-back hs object e h p.0 p.1 x there is);
}
  where
    by_place : (p : ℕ × ℕ) (x : Entry O R) → (entry_at hs p.0 p.1 ≡ Some x) ⊎ ((p.0 ≡ object) × (p.1 ≡ length h) × (e ≡ x)) →
        (entry_at hs p.0 p.1 ≡ Some x) ⊎ (◌≡◌ {A = ℕ × ℕ} p (object, length h) × (e ≡ x))
    by_place p x (inl before) = inl before
    by_place p x (inr last) = inr (pair-same p.0 p.1 object (length h) last.0 last.1, last.2)

-- a spot is one of a kind, or what is there stays
abbrev pub Elsewhere : {P : Type 0} → (P → Spot) → Shown → Shown → Spot → Type 0
Elsewhere {P = P} spot old new at = ((p : P) × (at ≡ spot p)) ⊎ ((shown_at new at ≡ shown_at old at) × (made_at new at ≡ made_at old at))

-- a kind's spots, with the steps and replies that its entries stand for
module _ {P O R : Type 0} (spot : P → Spot) (step : P → O → Step) (step_reply : P → R → StepReply) where
  abbrev stood : P → Entry O R → Step × StepReply
  stood p e = (step p e.op, step_reply p e.reply)

  -- at the spots of a kind these entries are shown
  pub record Shows (shown : Shown) (entries : P → Option (Entry O R)) : Type 0 where
    pub seen : (p : P) → shown_at shown (spot p) ≡ option_map step_of (entries p)
    pub made : (p : P) → made_at shown (spot p) ≡ option_map (stood p) (entries p)
    pub entry : (p : P) (x : Step × StepReply) → made_at shown (spot p) ≡ Some x → Stands shown (spot p) x

  module _ (old new : Shown) (entries entries' : P → Option (Entry O R)) (before : Shows old entries) (then_ : Shows new entries')
      (elsewhere : (at : Spot) → Elsewhere spot old new at) where
    -- what is known of the entry at a spot of the kind stays so
    known-stays : {B : Type 0} (see : Shown → Spot → Option B) (f : P → Entry O R → B) →
        ((p : P) → see old (spot p) ≡ option_map (f p) (entries p)) → ((p : P) → see new (spot p) ≡ option_map (f p) (entries' p)) →
        ((p : P) (x : Entry O R) → entries p ≡ Some x → entries' p ≡ Some x) → (p : P) (b : B) → see old (spot p) ≡ Some b → see new (spot p) ≡ Some b
    known-stays {B = B} see f was is stays p b there =
        let x = made-of (f p) (entries p) b (sym (was p) ∙ there) in
        is p ∙ ap (option_map (f p)) (stays p x.0 x.1) ∙ ap (λ (y : B). Some y) x.2

    -- a step of a kind that adds its entry
    pub object-more : (place : P) (who : Who) (number : ℕ) (op : O) (reply : R) → IsWith entries entries' place (entry who number op reply) → entry_count new ≤ entry_count old + 1 →
        IsMore old new (spot place) (who.number, number) (step place op, step_reply place reply)
    object-more place who number op reply more count = record {
      here = λ not_look. then_.seen place ∙ ap (option_map step_of) more.here;
      stays = stays;
      back = back;
      stands = record {
        here = then_.entry place (stood place (entry who number op reply)) (then_.made place ∙ ap (option_map (stood place)) more.here);
        still = stands-still old new still;
      };
      count = count;
    }
      where
        stays : (at : Spot) (b : ℕ × ℕ) → shown_at old at ≡ Some b → shown_at new at ≡ Some b
        stays at b is = by_kind (elsewhere at) is
          where
            by_kind : Elsewhere spot old new at → shown_at old at ≡ Some b → shown_at new at ≡ Some b
            by_kind (inl mine) is =
                subst (λ (x : Spot). shown_at new x ≡ Some b) (sym mine.1)
                (known-stays shown_at (λ p. step_of) before.seen then_.seen more.stays mine.0 b (ap (shown_at old) (sym mine.1) ∙ is))
            by_kind (inr same) is = same.0 ∙ is

        still : (at : Spot) (x : Step × StepReply) → made_at old at ≡ Some x → made_at new at ≡ Some x
        still at x is = by_kind (elsewhere at) is
          where
            by_kind : Elsewhere spot old new at → made_at old at ≡ Some x → made_at new at ≡ Some x
            by_kind (inl mine) is =
                subst (λ (y : Spot). made_at new y ≡ Some x) (sym mine.1)
                (known-stays made_at stood before.made then_.made more.stays mine.0 x (ap (made_at old) (sym mine.1) ∙ is))
            by_kind (inr same) is = same.1 ∙ is

        back : (at : Spot) (b : ℕ × ℕ) → shown_at new at ≡ Some b → (shown_at old at ≡ Some b) ⊎ ((at ≡ spot place) × ((who.number, number) ≡ b))
        back at b is = by_kind (elsewhere at) is
          where
            by_kind : Elsewhere spot old new at → shown_at new at ≡ Some b → (shown_at old at ≡ Some b) ⊎ ((at ≡ spot place) × ((who.number, number) ≡ b))
            by_kind (inl mine) is =
                let x = made-of step_of (entries' mine.0) b (sym (then_.seen mine.0) ∙ ap (shown_at new) (sym mine.1) ∙ is) in
                by_entry (more.back mine.0 x.0 x.1) x.2
              where
                by_entry : {x : Entry O R} → (entries mine.0 ≡ Some x) ⊎ ((mine.0 ≡ place) × (entry who number op reply ≡ x)) → step_of x ≡ b →
                    (shown_at old at ≡ Some b) ⊎ ((at ≡ spot place) × ((who.number, number) ≡ b))
                by_entry (inl was) told = inl (ap (shown_at old) mine.1 ∙ before.seen mine.0 ∙ ap (option_map step_of) was ∙ ap (λ (y : ℕ × ℕ). Some y) told)
                by_entry (inr last) told = inr (mine.1 ∙ ap spot last.0, ap step_of last.1 ∙ told)
            by_kind (inr same) is = inl (sym same.0 ∙ is)

-- where each answer adds its step, so does the one that was given
pub answered-more : {A : Type 0} (shown : Shown) (who : Who) (number : ℕ) (step : Step) (tell : A → StepReply) (answer : Option A) (reply : StepReply) → option_map tell answer ≡ Some reply →
    ((a : A) → IsMore shown (shown_after shown who number step (tell a)) (spot_of step (tell a)) (who.number, number) (step, tell a)) →
    IsMore shown (shown_after shown who number step reply) (spot_of step reply) (who.number, number) (step, reply)
answered-more shown who number step tell answer reply is each =
    let from = made-of tell answer reply is in
    subst (λ (x : StepReply). IsMore shown (shown_after shown who number step x) (spot_of step x) (who.number, number) (step, x)) from.2 (each from.0)

-- the same of an object of a kind of which there are many
pub at-more : {S O R : Type 0} (shown : Shown) (who : Who) (number : ℕ) (step : Step) (step_reply : ℕ → R → ℕ → StepReply) (family : Family S O R) (hs : List (List (Entry O R))) (object : ℕ) (op : O) (reply : StepReply) →
    answer_at family hs step_reply who object op ≡ Some reply → ((h : List (Entry O R)) (r : R) → slice_get hs object ≡ Some h →
    let told : StepReply = step_reply object r (length h) in IsMore shown (shown_after shown who number step told) (spot_of step told) (who.number, number) (step, told)) →
    IsMore shown (shown_after shown who number step reply) (spot_of step reply) (who.number, number) (step, reply)
at-more shown who number step step_reply family hs object op reply is each =
    let from = answered-at family hs step_reply who object op reply is in
    subst (λ (x : StepReply). IsMore shown (shown_after shown who number step x) (spot_of step x) (who.number, number) (step, x)) from.tells (each from.history from.reply from.there)

-- an entry more of a service changes nothing at the spots of others
work-elsewhere : (shown : Shown) (h : List (Entry WorkOp WorkReply)) (at : Spot) → Elsewhere spots.Work shown (record shown { work = h }) at
work-elsewhere shown h (spots.Work p) = inl (p, refl)
work-elsewhere shown h at = inr (refl, refl)

clock-elsewhere : (shown : Shown) (h : List (Entry ClockOp ClockReply)) (at : Spot) → Elsewhere spots.Clock shown (record shown { clock = h }) at
clock-elsewhere shown h (spots.Clock p) = inl (p, refl)
clock-elsewhere shown h at = inr (refl, refl)

table-elsewhere : (shown : Shown) (h : List (Entry TableOp TableReply)) (at : Spot) → Elsewhere spots.Table shown (record shown { table = h }) at
table-elsewhere shown h (spots.Table p) = inl (p, refl)
table-elsewhere shown h at = inr (refl, refl)

-- the spot of an object of a kind is one of an object and a place
sems-elsewhere : (shown : Shown) (hs : List (List (Entry SemOp SemReply))) (at : Spot) →
    Elsewhere {P = ℕ × ℕ} (λ p. spots.Sem p.0 p.1) shown (record shown { sems = hs }) at
sems-elsewhere shown hs (spots.Sem object place) = inl ((object, place), refl)
sems-elsewhere shown hs at = inr (refl, refl)

msgqs-elsewhere : (shown : Shown) (hs : List (List (Entry MsgqOp MsgqReply))) (at : Spot) →
    Elsewhere {P = ℕ × ℕ} (λ p. spots.Msgq p.0 p.1) shown (record shown { msgqs = hs }) at
msgqs-elsewhere shown hs (spots.Msgq object place) = inl ((object, place), refl)
msgqs-elsewhere shown hs at = inr (refl, refl)

signals-elsewhere : (shown : Shown) (hs : List (List (Entry SignalOp SignalReply))) (at : Spot) →
    Elsewhere {P = ℕ × ℕ} (λ p. spots.Signal p.0 p.1) shown (record shown { signals = hs }) at
signals-elsewhere shown hs (spots.Signal object place) = inl ((object, place), refl)
signals-elsewhere shown hs at = inr (refl, refl)

chans-elsewhere : (shown : Shown) (hs : List (List (Entry ChanOp ChanReply))) (at : Spot) →
    Elsewhere {P = ℕ × ℕ} (λ p. spots.Chan p.0 p.1) shown (record shown { chans = hs }) at
chans-elsewhere shown hs (spots.Chan object place) = inl ((object, place), refl)
chans-elsewhere shown hs at = inr (refl, refl)

observers-elsewhere : (shown : Shown) (hs : List (List (Entry ObsOp ObsReply))) (at : Spot) →
    Elsewhere {P = ℕ × ℕ} (λ p. spots.Obs p.0 p.1) shown (record shown { observers = hs }) at
observers-elsewhere shown hs (spots.Obs object place) = inl ((object, place), refl)
observers-elsewhere shown hs at = inr (refl, refl)

-- a look adds no entry
look-more : (old new : Shown) (spot : Spot) (step : ℕ × ℕ) (made : Step × StepReply) → is_look spot ≡ true → Stands new spot made →
    ((at : Spot) → (shown_at new at ≡ shown_at old at) × (made_at new at ≡ made_at old at)) → entry_count new ≤ entry_count old + 1 → IsMore old new spot step made
look-more old new spot step made looks stands same count = record {
  here = λ not_look. absurd (cc);
  stays = λ at b is. (same at).0 ∙ is;
  back = λ at b is. inl (sym (same at).0 ∙ is);
  stands = record { here = stands; still = stands-still old new (λ at x is. (same at).1 ∙ is) };
  count = count;
}

looked-elsewhere : (shown : Shown) (looked : Option ℕ) (at : Spot) →
    (shown_at (record shown { looked = looked }) at ≡ shown_at shown at) × (made_at (record shown { looked = looked }) at ≡ made_at shown at)
looked-elsewhere shown looked (spots.Work place) = (refl, refl)
looked-elsewhere shown looked at = (refl, refl)

-- what a look at a signal found that was answered so
pub record HasLooked (shown : Shown) (object : ℕ) (must : Bool) (reply : StepReply) : Type 0 where
  pub history : List (Entry SignalOp SignalReply)
  pub seen : Seen
  pub there : slice_get shown.signals object ≡ Some history
  pub found : found_by (looks_at shown.looks object) history ≡ Some seen
  pub raised : must ≡ true → seen.raised ≡ true
  pub tells : step_replies.Seen seen ≡ reply

pub look-answered : (shown : Shown) (object : ℕ) (must : Bool) (reply : StepReply) → look_at shown.looks shown.signals object must ≡ Some reply → HasLooked shown object must reply
look-answered shown object must reply is =
    let Q : Type 0 = HasLooked shown object must reply in
    option_and_then_some {P = Q} (λ h. option_and_then (look_reply must) (found_by (looks_at shown.looks object) h)) (slice_get shown.signals object) reply is
    (λ h there answered. option_and_then_some {P = Q} (look_reply must) (found_by (looks_at shown.looks object) h) reply answered
    (λ seen found looked. by_raised h seen there found must refl seen.raised refl looked))
  where
    by_raised : (h : List (Entry SignalOp SignalReply)) (seen : Seen) → slice_get shown.signals object ≡ Some h → found_by (looks_at shown.looks object) h ≡ Some seen →
        (must' : Bool) → must ≡ must' → (raised : Bool) → seen.raised ≡ raised → cond (must' && not raised) None (Some (step_replies.Seen seen)) ≡ Some reply → HasLooked shown object must reply
    by_raised h seen there found true is_must true is_raised looked =
        record { history = h; seen = seen; there = there; found = found; raised = λ m. is_raised; tells = cc }
    by_raised h seen there found true is_must false is_raised looked = absurd (cc)
    by_raised h seen there found false is_must raised is_raised looked =
        record { history = h; seen = seen; there = there; found = found; raised = λ m. absurd (cc); tells = cc }

nothing-elsewhere : (shown : Shown) (at : Spot) → (shown_at shown at ≡ shown_at shown at) × (made_at shown at ≡ made_at shown at)
nothing-elsewhere shown at = (refl, refl)

-- a step that its machine answers is shown with it
pub made-more : (m : Machines) (shown : Shown) (who : Who) (number : ℕ) (step : Step) (reply : StepReply) → reply_in m shown who step ≡ Some reply →
    IsMore shown (shown_after shown who number step reply) (spot_of step reply) (who.number, number) (step, reply)
made-more m shown who number (steps.Work op) reply answered =
    answered-more shown who number (steps.Work op) (λ r. step_replies.Work r (length shown.work)) (m.work.reply_of (state_after m.work m.work_start shown.work) who op) reply answered (λ r.
    let e = entry who number op r in
    object-more spots.Work (λ p. steps.Work) (λ p r. step_replies.Work r p) shown (record shown { work = shown.work ++ e ∷ [] }) (slice_get shown.work) (slice_get (shown.work ++ e ∷ []))
    (record { seen = λ p. refl; made = λ p. refl; entry = λ p x is. is }) (record { seen = λ p. refl; made = λ p. refl; entry = λ p x is. is }) (work-elsewhere shown (shown.work ++ e ∷ []))
    (length shown.work) who number op r (history-with shown.work e) (omega (arith, length-append shown.work (e ∷ []))))
made-more m shown who number (steps.Clock op) reply answered =
    answered-more shown who number (steps.Clock op) (λ r. step_replies.Clock r (length shown.clock)) (m.clock.reply_of (state_after m.clock m.clock_start shown.clock) who op) reply answered (λ r.
    let e = entry who number op r in
    object-more spots.Clock (λ p. steps.Clock) (λ p r. step_replies.Clock r p) shown (record shown { clock = shown.clock ++ e ∷ [] }) (slice_get shown.clock) (slice_get (shown.clock ++ e ∷ []))
    (record { seen = λ p. refl; made = λ p. refl; entry = λ p x is. is }) (record { seen = λ p. refl; made = λ p. refl; entry = λ p x is. is }) (clock-elsewhere shown (shown.clock ++ e ∷ []))
    (length shown.clock) who number op r (history-with shown.clock e) (omega (arith, length-append shown.clock (e ∷ []))))
made-more m shown who number (steps.Table op) reply answered =
    answered-more shown who number (steps.Table op) (λ r. step_replies.Table r (length shown.table)) (m.table.reply_of (state_after m.table m.table_start shown.table) who op) reply answered (λ r.
    let e = entry who number op r in
    object-more spots.Table (λ p. steps.Table) (λ p r. step_replies.Table r p) shown (record shown { table = shown.table ++ e ∷ [] }) (slice_get shown.table) (slice_get (shown.table ++ e ∷ []))
    (record { seen = λ p. refl; made = λ p. refl; entry = λ p x is. is }) (record { seen = λ p. refl; made = λ p. refl; entry = λ p x is. is }) (table-elsewhere shown (shown.table ++ e ∷ []))
    (length shown.table) who number op r (history-with shown.table e) (omega (arith, length-append shown.table (e ∷ []))))
made-more m shown who number (steps.Sem object op) reply answered =
    at-more shown who number (steps.Sem object op) step_replies.Sem m.sems shown.sems object op reply answered (λ h r there.
    let e = entry who number op r in
    object-more {P = ℕ × ℕ} (λ p. spots.Sem p.0 p.1) (λ p. steps.Sem p.0) (λ p r. step_replies.Sem p.0 r p.1) shown
    (record shown { sems = with_entry shown.sems object e })
    (λ p. entry_at shown.sems p.0 p.1) (λ p. entry_at (with_entry shown.sems object e) p.0 p.1)
    (record { seen = λ p. refl; made = λ p. refl; entry = λ p x is. is }) (record { seen = λ p. refl; made = λ p. refl; entry = λ p x is. is })
    (sems-elsewhere shown (with_entry shown.sems object e))
    (object, length h) who number op r (histories-with shown.sems object h e there)
    (omega (arith, with-count shown.sems object e h there)))
made-more m shown who number (steps.Msgq object op) reply answered =
    at-more shown who number (steps.Msgq object op) step_replies.Msgq m.msgqs shown.msgqs object op reply answered (λ h r there.
    let e = entry who number op r in
    object-more {P = ℕ × ℕ} (λ p. spots.Msgq p.0 p.1) (λ p. steps.Msgq p.0) (λ p r. step_replies.Msgq p.0 r p.1) shown
    (record shown { msgqs = with_entry shown.msgqs object e })
    (λ p. entry_at shown.msgqs p.0 p.1) (λ p. entry_at (with_entry shown.msgqs object e) p.0 p.1)
    (record { seen = λ p. refl; made = λ p. refl; entry = λ p x is. is }) (record { seen = λ p. refl; made = λ p. refl; entry = λ p x is. is })
    (msgqs-elsewhere shown (with_entry shown.msgqs object e))
    (object, length h) who number op r (histories-with shown.msgqs object h e there)
    (omega (arith, with-count shown.msgqs object e h there)))
made-more m shown who number (steps.Signal object op) reply answered =
    at-more shown who number (steps.Signal object op) step_replies.Signal m.signals shown.signals object op reply answered (λ h r there.
    let e = entry who number op r in
    object-more {P = ℕ × ℕ} (λ p. spots.Signal p.0 p.1) (λ p. steps.Signal p.0) (λ p r. step_replies.Signal p.0 r p.1) shown
    (record shown { signals = with_entry shown.signals object e })
    (λ p. entry_at shown.signals p.0 p.1) (λ p. entry_at (with_entry shown.signals object e) p.0 p.1)
    (record { seen = λ p. refl; made = λ p. refl; entry = λ p x is. is }) (record { seen = λ p. refl; made = λ p. refl; entry = λ p x is. is })
    (signals-elsewhere shown (with_entry shown.signals object e))
    (object, length h) who number op r (histories-with shown.signals object h e there)
    (omega (arith, with-count shown.signals object e h there)))
made-more m shown who number (steps.Chan object op) reply answered =
    at-more shown who number (steps.Chan object op) step_replies.Chan m.chans shown.chans object op reply answered (λ h r there.
    let e = entry who number op r in
    object-more {P = ℕ × ℕ} (λ p. spots.Chan p.0 p.1) (λ p. steps.Chan p.0) (λ p r. step_replies.Chan p.0 r p.1) shown
    (record shown { chans = with_entry shown.chans object e })
    (λ p. entry_at shown.chans p.0 p.1) (λ p. entry_at (with_entry shown.chans object e) p.0 p.1)
    (record { seen = λ p. refl; made = λ p. refl; entry = λ p x is. is }) (record { seen = λ p. refl; made = λ p. refl; entry = λ p x is. is })
    (chans-elsewhere shown (with_entry shown.chans object e))
    (object, length h) who number op r (histories-with shown.chans object h e there)
    (omega (arith, with-count shown.chans object e h there)))
made-more m shown who number (steps.Obs object op) reply answered =
    at-more shown who number (steps.Obs object op) step_replies.Obs m.observers shown.observers object op reply answered (λ h r there.
    let e = entry who number op r in
    object-more {P = ℕ × ℕ} (λ p. spots.Obs p.0 p.1) (λ p. steps.Obs p.0) (λ p r. step_replies.Obs p.0 r p.1) shown
    (record shown { observers = with_entry shown.observers object e })
    (λ p. entry_at shown.observers p.0 p.1) (λ p. entry_at (with_entry shown.observers object e) p.0 p.1)
    (record { seen = λ p. refl; made = λ p. refl; entry = λ p x is. is }) (record { seen = λ p. refl; made = λ p. refl; entry = λ p x is. is })
    (observers-elsewhere shown (with_entry shown.observers object e))
    (object, length h) who number op r (histories-with shown.observers object h e there)
    (omega (arith, with-count shown.observers object e h there)))
made-more m shown who number (steps.LookItem object) reply answered =
    answered-more shown who number (steps.LookItem object) (λ flags. step_replies.Flags flags (length shown.work)) (flags_after m shown.work object) reply answered (λ flags.
    let looked = option_map (λ n. number + 1) shown.looked in
    look-more shown (record shown { looked = looked }) (spots.LookItem object flags (length shown.work)) (who.number, number)
    (steps.LookItem object, step_replies.Flags flags (length shown.work)) refl refl (looked-elsewhere shown looked) (omega arith))
made-more m shown who number (steps.LookSignal object must) reply answered =
    let from = look-answered shown object must reply answered in
    subst (λ (x : StepReply). IsMore shown (shown_after shown who number (steps.LookSignal object must) x) (spot_of (steps.LookSignal object must) x) (who.number, number) (steps.LookSignal object must, x))
    from.tells
    (look-more shown shown (spots.LookSignal object from.seen) (who.number, number) (steps.LookSignal object must, step_replies.Seen from.seen) refl
    (must, refl, from.raised) (nothing-elsewhere shown) (omega arith))

-- where no looks are shown, a step shows none
pub unlooked-after : (shown : Shown) (who : Who) (number : ℕ) (step : Step) (reply : StepReply) → shown.looked ≡ None → (shown_after shown who number step reply).looked ≡ None
unlooked-after shown who number (steps.Work op) (step_replies.Work reply place) none = none
unlooked-after shown who number (steps.LookItem object) (step_replies.Flags flags at) none = ap (option_map (λ n. number + 1)) none
unlooked-after shown who number step (step_replies.Work reply place) none = none
unlooked-after shown who number step reply none = none

pub whole-after : (shown : Shown) (who : Who) (number : ℕ) (step : Step) (reply : StepReply) → shown.looks ≡ None → (shown_after shown who number step reply).looks ≡ None
whole-after shown who number (steps.Work op) (step_replies.Work reply place) none = none
whole-after shown who number (steps.LookItem object) (step_replies.Flags flags at) none = none
whole-after shown who number step (step_replies.Work reply place) none = none
whole-after shown who number step reply none = none

below-next : (o : Option ℕ) (number : ℕ) → LookedBelow o number → LookedBelow o (number + 1)
below-next None number below = tt
below-next (Some n) number below = omega (arith, below)

look-below : (o : Option ℕ) (number : ℕ) → LookedBelow (option_map (λ n. number + 1) o) (number + 1)
look-below None number = tt
look-below (Some n) number = omega arith

-- after a step the looks at items that are shown are below the next one
looked-after : (shown : Shown) (who : Who) (number : ℕ) (step : Step) (reply : StepReply) → LookedBelow shown.looked number → LookedBelow (shown_after shown who number step reply).looked (number + 1)
looked-after shown who number (steps.Work op) (step_replies.Work reply place) below = below-next shown.looked number below
looked-after shown who number (steps.LookItem object) (step_replies.Flags flags at) below = look-below shown.looked number
looked-after shown who number step (step_replies.Work reply place) below = below-next shown.looked number below
looked-after shown who number step reply below = below-next shown.looked number below

-- the log with a step that adds an entry is shown with it
log-longer : (shown longer : Shown) (number : ℕ) (log : List Spot) (spot : Spot) (made : Step × StepReply) → IsMore shown longer spot (number, length log) made →
    LookedBelow longer.looked (length log + 1) → ShowsLog shown number log → ShowsLog longer number (log ++ spot ∷ [])
log-longer shown longer number log spot made more looked shows = record {
  each = each;
  no_other = no_other;
  looked = let long : length log + 1 ≡ length (log ++ spot ∷ []) = omega (arith, length-append log (spot ∷ [])) in subst (LookedBelow longer.looked) long looked;
}
  where
    each : (step : ℕ) (at : Spot) → slice_get (log ++ spot ∷ []) step ≡ Some at → is_look at ≡ false → shown_at longer at ≡ Some (number, step)
    each step at is not_look = by_step (at-end log spot at step is)
      where
        by_step : (slice_get log step ≡ Some at) ⊎ ((step ≡ length log) × (spot ≡ at)) → shown_at longer at ≡ Some (number, step)
        by_step (inl before) = more.stays at (number, step) (shows.each step at before not_look)
        by_step (inr last) =
            let here = more.here (subst (λ (x : Spot). is_look x ≡ false) (sym last.1) not_look) in
            subst (λ (x : Spot). shown_at longer x ≡ Some (number, step)) last.1 (here ∙ ap (λ (n : ℕ). Some (number, n)) (sym last.0))

    no_other : (step : ℕ) (at : Spot) → shown_at longer at ≡ Some (number, step) → slice_get (log ++ spot ∷ []) step ≡ Some at
    no_other step at is = by_spot (more.back at (number, step) is)
      where
        by_spot : (shown_at shown at ≡ Some (number, step)) ⊎ ((at ≡ spot) × ◌≡◌ {A = ℕ × ℕ} (number, length log) (number, step)) → slice_get (log ++ spot ∷ []) step ≡ Some at
        by_spot (inl before) = there-longer log (spot ∷ []) step at (shows.no_other step at before)
        by_spot (inr last) =
            let same : length log ≡ step = ap (λ (b : ℕ × ℕ). b.1) last.1 in
            subst (λ (n : ℕ). slice_get (log ++ spot ∷ []) n ≡ Some at) same (there-behind log spot ∙ ap (λ (x : Spot). Some x) (sym last.0))

-- the log of another player is shown as before
pub log-others : (shown longer : Shown) (number other step : ℕ) (log : List Spot) (spot : Spot) (made : Step × StepReply) → IsMore shown longer spot (number, step) made → other ≢ number →
    LookedBelow longer.looked (length log) → ShowsLog shown other log → ShowsLog longer other log
log-others shown longer number other step log spot made more apart looked shows = record {
  each = λ n at is not_look. more.stays at (other, n) (shows.each n at is not_look);
  no_other = λ n at is. by_spot n at (more.back at (other, n) is);
  looked = looked;
}
  where
    by_spot : (n : ℕ) (at : Spot) → (shown_at shown at ≡ Some (other, n)) ⊎ ((at ≡ spot) × ◌≡◌ {A = ℕ × ℕ} (number, step) (other, n)) → slice_get log n ≡ Some at
    by_spot n at (inl before) = shows.no_other n at before
    by_spot n at (inr last) = absurd (apart (sym (ap (λ (b : ℕ × ℕ). b.0) last.1)))

-- the log with a step that its machine answers is shown with the entry of the step
pub log-answered : (m : Machines) (shown : Shown) (who : Who) (log : List Spot) (step : Step) (reply : StepReply) → ShowsLog shown who.number log →
    reply_in m shown who step ≡ Some reply → ShowsLog (shown_after shown who (length log) step reply) who.number (log ++ spot_of step reply ∷ [])
log-answered m shown who log step reply shows answered =
    log-longer shown (shown_after shown who (length log) step reply) who.number log (spot_of step reply) (step, reply) (made-more m shown who (length log) step reply answered)
    (looked-after shown who (length log) step reply shows.looked) shows

-- the log of a player is shown with the step that it has made
pub log-stepped : (alone : Bool) (m : Machines) (s : Content) (at at' : PlayerPlace) (step : Step) (reply : StepReply) (old new : Shown) → ShowsLog old at.who.number at.spots →
    IsMade alone m at.who (length at.spots) step reply old new → at' ≡ after s at step reply → ShowsLog new at'.who.number at'.spots
log-stepped alone m s at at' step reply old new shows made next =
    let found = log-still alone at.who.number at.spots old made.found shows made.since in
    let later = after-spots s at step reply in
    subst (λ (a : PlayerPlace). ShowsLog new a.who.number a.spots) (sym next)
    (subst (λ (w : Who). ShowsLog new w.number (after s at step reply).spots) (sym later.0)
    (subst (λ (l : List Spot). ShowsLog new at.who.number l) (sym later.1)
    (subst (λ (x : Shown). ShowsLog x at.who.number (at.spots ++ spot_of step reply ∷ [])) (sym made.shown) (log-answered m made.found at.who at.spots step reply found made.replied))))
