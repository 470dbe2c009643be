-- A log that follows the scenario is played among what comes to the channels.
use Rattle.std.proofs.Common.{◌≡◌, ◌≢◌, ◌⊎◌, inl, inr, ℕ, zero, suc, ◌+◌, ◌<◌, ◌≤◌, Bool, true, false, eqb, ◌&&◌, cond, nat_le, Option, Some, None, List, [], ◌∷◌, ◌++◌, map, length, length-append, All, refl, sym, ap, subst, ◌∙◌, arith}
use Rattle.std.specs.List.{slice_get, AllZip}
use Rattle.std.specs.Option.{option_map, option_and_then}
use Rattle.std.proofs.lemmas.Bool.Decides.{nat_tests}
use Rattle.std.proofs.lemmas.List.Elements.{All-nil, All-cons, All-head, All-tail}
use Rattle.std.proofs.lemmas.Option.{option_and_then_some, same_Some}
use Rattle.zk_base.specs.declared.ids.Who.{Who}
use Rattle.zk_base.specs.declared.ids.Entry.{Entry}
use Rattle.zk_base.specs.History.{entry, Rises}
use Rattle.zk_base.specs.Legal.{Replays, IsLegal}
use Rattle.zk_base.proofs.Histories.{Replays-rest}
use Rattle.zk_base.proofs.WaitsOnce.{eqb-same}
use Rattle.zk_model_bus.specs.declared.channel.ChanOp.{ChanOp}
use Rattle.zk_model_bus.specs.declared.channel.ChanReply.{ChanReply}
use Rattle.zk_model_bus.specs.Channel.{Channel, chan_machine}
use Rattle.zk_model_bus.specs.ChannelLaws.{ChanHistory}
use Rattle.zk_scenario.specs.Content.{Content}
use Rattle.zk_scenario.specs.Players.{players}
use Rattle.zk_line.specs.declared.types.Decl.{Decl}
use Rattle.zk_worker.specs.declared.steps.Step.{Step}
use Rattle.zk_worker.specs.declared.steps.Step.TheVariants as steps
use Rattle.zk_worker.specs.declared.steps.StepReply.{StepReply}
use Rattle.zk_worker.specs.declared.steps.StepReply.TheVariants as step_replies
use Rattle.zk_worker.specs.declared.steps.Spot.{Spot}
use Rattle.zk_worker.specs.declared.steps.Spot.TheVariants as spots
use Rattle.zk_worker.specs.Single.{step_of, answer_in, OthersGrew}
use Rattle.zk_worker.specs.Families.{start_of, with_entry, entry_at, EachGrew}
use Rattle.zk_worker.specs.Follows.{StepMade, IsPlayed, Stands, IsFollowing}
use Rattle.zk_worker.specs.Machines.{machines_of}
use Rattle.zk_worker.specs.Places.{PlayerPlace}
use Rattle.zk_worker.specs.Protocol.{after, starting, start_at, spot_of}
use Rattle.zk_worker.specs.Shown.{Shown, ShowsLog}
use Rattle.zk_model_wait.specs.declared.clock.ClockOp.{ClockOp}
use Rattle.zk_model_wait.specs.declared.clock.ClockOp.TheVariants as clock_ops
use Rattle.zk_model_wait.specs.declared.clock.ClockReply.{ClockReply}
use Rattle.zk_model_wait.specs.declared.clock.ClockReply.TheVariants as clock_replies
use Rattle.zk_model_wait.specs.Clock.{Clock, new_clock, clock_machine, clock_reply, is_due}
use Rattle.zk_base.proofs.Lists.{cond_chosen}
use Rattle.zk_player_laws.specs.StackLaws.{clock_may_tell, ChanHistories, IsReplied, chans_after, IsPlayedAmong}
use Rattle.zk_player_laws.specs.StackLogs.{ShowsLegalClock, ShowsLegalChans, EachLogEntersItsScripts}
use Rattle.zk_worker.proofs.CheckedSteps.{after-spots}
use Rattle.zk_worker.proofs.Between.{grew-none}
use Rattle.zk_player_laws.proofs.ScriptsEntered.{each_script_is_entered}
use Rattle.zk_worker.proofs.ShownSteps.{made-of}

-- whether an entry is this player's, of this step or a later one
is_from : ℕ → ℕ → Entry ChanOp ChanReply → Bool
is_from number i e = eqb e.who.number number && nat_le i e.step

-- what comes before the player's steps from this one on
cut : ℕ → ℕ → ChanHistory → ChanHistory
cut number i [] = []
cut number i (e ∷ es) = cond (is_from number i e) [] (e ∷ cut number i es)

-- what comes before an entry of the same player is of an earlier step
before-at : (x : Entry ChanOp ChanReply) (xs : ChanHistory) (place : ℕ) (e : Entry ChanOp ChanReply) → slice_get xs place ≡ Some e →
    All (λ f. f.who.number ≡ x.who.number → x.step < f.step) xs → x.who.number ≡ e.who.number → x.step < e.step
before-at x [] place e there all same = absurd (cc)
before-at x (y ∷ ys) zero e there all same =
    let P : Entry ChanOp ChanReply → Type 0 = λ f. f.who.number ≡ x.who.number → x.step < f.step in
    subst (λ (z : Entry ChanOp ChanReply). z.who.number ≡ x.who.number → x.step < z.step) (same_Some y e there) (All-head P y ys all) (sym same)
before-at x (y ∷ ys) (suc place) e there all same =
    let P : Entry ChanOp ChanReply → Type 0 = λ f. f.who.number ≡ x.who.number → x.step < f.step in
    before-at x ys place e there (All-tail P y ys all) same

module _ (number i : ℕ) where
  -- the test of the next step differs only where the entry is of this one
  from-next : (e : Entry ChanOp ChanReply) → step_of e ≢ (number, i) → is_from number i e ≡ is_from number (i + 1) e
  unfolding is_from
  from-next e other = by_tests (eqb e.who.number number) (nat_le i e.step) (nat_le (i + 1) e.step) refl refl refl
    where
      by_tests : (a b c : Bool) → eqb e.who.number number ≡ a → nat_le i e.step ≡ b → nat_le (i + 1) e.step ≡ c → (a && b) ≡ (a && c)
      by_tests false b c own here later = refl
      by_tests true true true own here later = refl
      by_tests true false false own here later = refl
      by_tests true true false own here later =
          let player : e.who.number ≡ number = grind (arith, nat_tests) in
          let step : e.step ≡ i = grind (arith, nat_tests) in
          absurd (other (cc))
      by_tests true false true own here later = grind (arith, nat_tests)

  -- where the history has no entry of this step, nothing is cut between this and the next
  cut-same : (h : ChanHistory) → All (λ e. step_of e ≢ (number, i)) h → cut number i h ≡ cut number (i + 1) h
  unfolding cut
  cut-same [] none = refl
  cut-same (e ∷ es) none =
      let P : Entry ChanOp ChanReply → Type 0 = λ e. step_of e ≢ (number, i) in
      let rest = cut-same es (All-tail P e es none) in
      ap (λ (b : Bool). cond b [] (e ∷ cut number i es)) (from-next e (All-head P e es none))
      ∙ ap (λ (l : ChanHistory). cond (is_from number (i + 1) e) [] (e ∷ l)) rest

  -- what is behind this step up to the next is of others
  cut-others : (h : ChanHistory) → All (λ e. e.who.number ≡ number → i < e.step) h → All (λ e. e.who.number ≢ number) (cut number (i + 1) h)
  unfolding cut is_from
  cut-others [] later = All-nil (λ (e : Entry ChanOp ChanReply). e.who.number ≢ number)
  cut-others (e ∷ es) later = by_test (eqb e.who.number number) (nat_le (i + 1) e.step) refl refl (cut-others es (All-tail Later e es later))
    where
      Later : Entry ChanOp ChanReply → Type 0
      Later e = e.who.number ≡ number → i < e.step

      by_test : (a b : Bool) → eqb e.who.number number ≡ a → nat_le (i + 1) e.step ≡ b → All (λ e. e.who.number ≢ number) (cut number (i + 1) es) →
          All (λ e. e.who.number ≢ number) (cond (a && b) [] (e ∷ cut number (i + 1) es))
      by_test true true own here rest = All-nil (λ (e : Entry ChanOp ChanReply). e.who.number ≢ number)
      by_test true false own here rest =
          let player : e.who.number ≡ number = grind (arith, nat_tests) in
          let above = All-head Later e es later player in
          absurd (let never : ⊥ = grind (arith, nat_tests) in never)
      by_test false b own here rest =
          All-cons (λ (e : Entry ChanOp ChanReply). e.who.number ≢ number) e (cut number (i + 1) es) (λ player. grind (arith, nat_tests)) rest

  -- a history at the place of this step's entry
  record IsCutAt (h : ChanHistory) (place : ℕ) (e : Entry ChanOp ChanReply) : Type 0 where
    front : ChanHistory
    rest : ChanHistory
    whole : h ≡ front ++ e ∷ rest
    long : length front ≡ place
    cuts : cut number i h ≡ front
    grew : OthersGrew number (front ++ e ∷ []) (cut number (i + 1) h)

  cut-at : (h : ChanHistory) (place : ℕ) (e : Entry ChanOp ChanReply) → slice_get h place ≡ Some e → step_of e ≡ (number, i) → Rises h → IsCutAt h place e
  unfolding cut is_from
  cut-at [] place e there own rises = absurd (cc)
  cut-at (x ∷ xs) zero e there own rises = subst (λ (y : Entry ChanOp ChanReply). IsCutAt (x ∷ xs) zero y) (same_Some x e there) (here (ap (λ (y : Entry ChanOp ChanReply). step_of y) (same_Some x e there) ∙ own))
    where
      here : step_of x ≡ (number, i) → IsCutAt (x ∷ xs) zero x
      here mine =
          let player : x.who.number ≡ number = ap (λ (p : ℕ × ℕ). p.0) mine in
          let step : x.step ≡ i = ap (λ (p : ℕ × ℕ). p.1) mine in
          let from_ : (eqb x.who.number number && nat_le i x.step) ≡ true = grind (arith, nat_tests) in
          let not_next : (eqb x.who.number number && nat_le (i + 1) x.step) ≡ false = grind (arith, nat_tests) in
          record {
            front = [];
            rest = xs;
            whole = refl;
            long = refl;
            cuts = ap (λ (b : Bool). cond b [] (x ∷ cut number i xs)) from_;
            grew = record {
              more = cut number (i + 1) xs;
              longer = ap (λ (b : Bool). cond b [] (x ∷ cut number (i + 1) xs)) not_next;
              others = cut-others xs (subst (λ (k : ℕ). All (λ f. f.who.number ≡ number → k < f.step) xs) step
                  (subst (λ (p : ℕ). All (λ f. f.who.number ≡ p → x.step < f.step) xs) player rises.0));
            };
          }
  cut-at (x ∷ xs) (suc place) e there own rises = further (cut-at xs place e there own rises.1)
    where
      -- the first is of another, or of an earlier step
      kept : (k : ℕ) → i ≤ k → (eqb x.who.number number && nat_le k x.step) ≡ false
      kept k above = by_test (eqb x.who.number number) (nat_le k x.step) refl refl
        where
          by_test : (a b : Bool) → eqb x.who.number number ≡ a → nat_le k x.step ≡ b → (a && b) ≡ false
          by_test false b mine late = refl
          by_test true false mine late = refl
          by_test true true mine late =
              let player : x.who.number ≡ number = grind (arith, nat_tests) in
              let before = before-at x xs place e there rises.0 (player ∙ sym (ap (λ (p : ℕ × ℕ). p.0) own)) in
              let step : e.step ≡ i = ap (λ (p : ℕ × ℕ). p.1) own in
              absurd (let never : ⊥ = grind (arith, nat_tests) in never)

      further : IsCutAt xs place e → IsCutAt (x ∷ xs) (suc place) e
      further at = record {
        front = x ∷ at.front;
        rest = at.rest;
        whole = ap (λ (l : ChanHistory). x ∷ l) at.whole;
        long = ap suc at.long;
        cuts = ap (λ (b : Bool). cond b [] (x ∷ cut number i xs)) (kept i (omega arith)) ∙ ap (λ (l : ChanHistory). x ∷ l) at.cuts;
        grew = record {
          more = at.grew.more;
          longer = ap (λ (b : Bool). cond b [] (x ∷ cut number (i + 1) xs)) (kept (i + 1) (omega arith)) ∙ ap (λ (l : ChanHistory). x ∷ l) at.grew.longer;
          others = at.grew.others;
        };
      }

-- The histories of all channels.

pub cuts : ℕ → ℕ → ChanHistories → ChanHistories
cuts number i hs = map (cut number i) hs

-- no channel has an entry of this step
NoneOf : ℕ → ℕ → ChanHistories → Type 0
NoneOf number i hs = (object place : ℕ) (e : Entry ChanOp ChanReply) → entry_at hs object place ≡ Some e → step_of e ≢ (number, i)

all-of-places : {A : Type 0} (P : A → Type 0) (xs : List A) → ((p : ℕ) (x : A) → slice_get xs p ≡ Some x → P x) → All P xs
all-of-places P [] each = All-nil P
all-of-places P (x ∷ xs) each = All-cons P x xs (each 0 x refl) (all-of-places P xs (λ p y there. each (suc p) y there))

cuts-same : (number i : ℕ) (hs : ChanHistories) → NoneOf number i hs → cuts number i hs ≡ cuts number (i + 1) hs
unfolding cuts NoneOf
cuts-same number i [] none = refl
cuts-same number i (h ∷ hs) none =
    let here = cut-same number i h (all-of-places (λ e. step_of e ≢ (number, i)) h (λ p e there. none 0 p e there)) in
    let rest = cuts-same number i hs (λ object place e there. none (suc object) place e there) in
    ap (λ (l : ChanHistory). l ∷ map (cut number i) hs) here ∙ ap (λ (l : ChanHistories). cut number (i + 1) h ∷ l) rest

cuts-grew-none : (number : ℕ) (hs hs' : ChanHistories) → hs ≡ hs' → EachGrew number hs hs'
cuts-grew-none number hs hs' same = subst (λ (x : ChanHistories). EachGrew number hs x) same (each hs)
  where
    each : (hs : ChanHistories) → EachGrew number hs hs
    each [] = tt
    each (h ∷ hs) = (grew-none number h, each hs)

-- the histories up to this step, with its entry, grow by entries of others up to the next
cuts-grew : (number i : ℕ) (hs : ChanHistories) (object place : ℕ) (h : ChanHistory) (e : Entry ChanOp ChanReply) → slice_get hs object ≡ Some h → IsCutAt number i h place e →
    ((o p : ℕ) (x : Entry ChanOp ChanReply) → entry_at hs o p ≡ Some x → step_of x ≡ (number, i) → o ≡ object) →
    EachGrew number (with_entry (cuts number i hs) object e) (cuts number (i + 1) hs)
unfolding cuts NoneOf
cuts-grew number i [] object place h e there at only = absurd (cc)
cuts-grew number i (g ∷ hs) zero place h e there at only =
    let same : g ≡ h = same_Some g h there in
    let rest = cuts-same number i hs (λ o p x found own. absurd (let here = only (suc o) p x found own in omega arith)) in (
      subst (λ (x : ChanHistory). OthersGrew number (x ++ e ∷ []) (cut number (i + 1) g)) (sym (ap (cut number i) same ∙ at.cuts))
          (subst (λ (x : ChanHistory). OthersGrew number (at.front ++ e ∷ []) (cut number (i + 1) x)) (sym same) at.grew),
      cuts-grew-none number (map (cut number i) hs) (map (cut number (i + 1)) hs) rest,
    )
cuts-grew number i (g ∷ hs) (suc object) place h e there at only =
    let here = cut-same number i g (all-of-places (λ x. step_of x ≢ (number, i)) g (λ p x found own. absurd (let here = only 0 p x found own in omega arith))) in (
      subst (λ (x : ChanHistory). OthersGrew number (cut number i g) x) here (grew-none number (cut number i g)),
      cuts-grew number i hs object place h e there at (λ o p x found own. (let same = only (suc o) p x found own in omega arith)),
    )

slice_get-cuts : (number i : ℕ) (hs : ChanHistories) (object : ℕ) (h : ChanHistory) → slice_get hs object ≡ Some h → slice_get (cuts number i hs) object ≡ Some (cut number i h)
unfolding cuts
slice_get-cuts number i [] object h there = absurd (cc)
slice_get-cuts number i (g ∷ hs) zero h there = ap (λ (x : ChanHistory). Some (cut number i x)) (same_Some g h there)
slice_get-cuts number i (g ∷ hs) (suc object) h there = slice_get-cuts number i hs object h there

-- A step of the log.

-- what is known of it: by whom it was made, what it was replied behind what came before, and what came up to the next
record IsNext (s : Content) (chans : ChanHistories) (number i : ℕ) (step : Step) (reply : StepReply) : Type 0 where
  who : Who
  own : who.number ≡ number
  replied : IsReplied s (cuts number i chans) who step reply
  grew : EachGrew number (chans_after (cuts number i chans) who i step reply) (cuts number (i + 1) chans)

-- what the clock tells
clock-told : (c : Clock) (who : Who) (op : ClockOp) (reply : ClockReply) → clock_reply c who op ≡ Some reply → clock_may_tell op reply ≡ true
clock-told c who (clock_ops.Announce ticks) reply is =
    subst (λ (r : ClockReply). clock_may_tell (clock_ops.Announce ticks) r ≡ true) (same_Some (clock_replies.Now (c.time + ticks)) reply is) refl
clock-told c who (clock_ops.Alarm ticks) reply is =
    subst (λ (r : ClockReply). clock_may_tell (clock_ops.Alarm ticks) r ≡ true) (same_Some (clock_replies.At (c.time + ticks)) reply is) refl
clock-told c who (clock_ops.AlarmEnd moment) reply is =
    let chosen = cond_chosen (is_due c.time c.alarms who.number moment) (Some clock_replies.Due) reply is in
    subst (λ (r : ClockReply). clock_may_tell (clock_ops.AlarmEnd moment) r ≡ true) (same_Some clock_replies.Due reply chosen.1) refl

clock-tells-from : (c : Clock) (h : List (Entry ClockOp ClockReply)) (place : ℕ) (e : Entry ClockOp ClockReply) → Replays clock_machine c h → slice_get h place ≡ Some e →
    clock_may_tell e.op e.reply ≡ true
clock-tells-from c [] place e replays there = absurd (cc)
clock-tells-from c (x ∷ xs) zero e replays there =
    subst (λ (y : Entry ClockOp ClockReply). clock_may_tell y.op y.reply ≡ true) (same_Some x e there) (clock-told c x.who x.op x.reply replays.0)
clock-tells-from c (x ∷ xs) (suc place) e replays there = clock-tells-from (clock_machine.next c x.who x.op) xs place e replays.1 there

pub clock-tells : (h : List (Entry ClockOp ClockReply)) (place : ℕ) (e : Entry ClockOp ClockReply) → Replays clock_machine new_clock h → slice_get h place ≡ Some e →
    clock_may_tell e.op e.reply ≡ true
clock-tells = clock-tells-from new_clock

module _ (s : Content) (shown : Shown) (number : ℕ) (player : Who) (is_player : player.number ≡ number) (log : List Spot) (shows : ShowsLog shown number log) (timed : ShowsLegalClock shown) (legal : ShowsLegalChans s shown) where
  -- a step that is at no channel
  none-there : (i : ℕ) (spot : Spot) → slice_get log i ≡ Some spot → ((object place : ℕ) → spot ≡ spots.Chan object place → ⊥) → NoneOf number i shown.chans
  unfolding NoneOf
  none-there i spot there other = λ object place e at own.
      let named = shows.no_other i (spots.Chan object place) (ap (option_map step_of) at ∙ ap Some own) in
      other object place (same_Some spot (spots.Chan object place) (sym there ∙ named))

  elsewhere : (i : ℕ) (spot : Spot) (step : Step) (reply : StepReply) → slice_get log i ≡ Some spot → ((object place : ℕ) → spot ≡ spots.Chan object place → ⊥) →
      chans_after (cuts number i shown.chans) player i step reply ≡ cuts number i shown.chans → IsReplied s (cuts number i shown.chans) player step reply →
      IsNext s shown.chans number i step reply
  elsewhere i spot step reply there other same replied = record {
    who = player;
    own = is_player;
    replied = replied;
    grew = cuts-grew-none number _ _ (same ∙ cuts-same number i shown.chans (none-there i spot there other));
  }

  -- a step at a channel
  at-chan : (i object place : ℕ) (e : Entry ChanOp ChanReply) → slice_get log i ≡ Some (spots.Chan object place) → entry_at shown.chans object place ≡ Some e →
      IsNext s shown.chans number i (steps.Chan object e.op) (step_replies.Chan object e.reply place)
  at-chan i object place e there at =
      option_and_then_some {P = IsNext s shown.chans number i (steps.Chan object e.op) (step_replies.Chan object e.reply place)}
      (λ (h : ChanHistory). slice_get h place) (slice_get shown.chans object) e at (λ h found here. by_legal h found here (legal object h found))
    where
      own : step_of e ≡ (number, i)
      own = same_Some (step_of e) (number, i) (sym (ap (option_map step_of) at) ∙ shows.each i (spots.Chan object place) there refl)

      only : (o p : ℕ) (x : Entry ChanOp ChanReply) → entry_at shown.chans o p ≡ Some x → step_of x ≡ (number, i) → o ≡ object
      only o p x found mine =
          let named = shows.no_other i (spots.Chan o p) (ap (option_map step_of) found ∙ ap Some mine) in
          let same = same_Some (spots.Chan object place) (spots.Chan o p) (sym there ∙ named) in
          cc

      by_legal : (h : ChanHistory) → slice_get shown.chans object ≡ Some h → slice_get h place ≡ Some e →
          (h ≡ []) ⊎ ((start : Channel) × (start_of (machines_of s).chans object ≡ Some start) × IsLegal chan_machine start h) →
          IsNext s shown.chans number i (steps.Chan object e.op) (step_replies.Chan object e.reply place)
      by_legal h found here (inl none) = absurd (let nothing = ap (λ (l : ChanHistory). slice_get l place) none in cc)
      by_legal h found here (inr by) =
          let at = cut-at number i h place e here own by.2.1 in
          let replay = Replays-rest chan_machine by.0 at.front (e ∷ at.rest) (subst (Replays chan_machine by.0) at.whole by.2.0) in
          record {
            who = e.who;
            own = ap (λ (p : ℕ × ℕ). p.0) own;
            replied = ap (option_and_then (λ (start : Channel). option_and_then (λ (g : ChanHistory). answer_in chan_machine start g (step_replies.Chan object) e.who e.op) (slice_get (cuts number i shown.chans) object))) by.1
                ∙ ap (option_and_then (λ (g : ChanHistory). answer_in chan_machine by.0 g (step_replies.Chan object) e.who e.op)) (slice_get-cuts number i shown.chans object h found ∙ ap Some at.cuts)
                ∙ ap (option_map (λ (r : ChanReply). step_replies.Chan object r (length at.front))) replay.0
                ∙ ap (λ (p : ℕ). Some (step_replies.Chan object e.reply p)) at.long;
            grew = subst (λ (x : Entry ChanOp ChanReply). EachGrew number (with_entry (cuts number i shown.chans) object x) (cuts number (i + 1) shown.chans)) (same_entry (ap (λ (p : ℕ × ℕ). p.1) own))
                (cuts-grew number i shown.chans object place h e found at only);
          }
        where
          same_entry : e.step ≡ i → e ≡ entry e.who i e.op e.reply
          same_entry step = ap (λ (k : ℕ). entry e.who k e.op e.reply) step

  -- each step
  is-next : (i : ℕ) (spot : Spot) (made : StepMade) → slice_get log i ≡ Some spot → Stands shown spot made → IsNext s shown.chans number i made.0 made.1
  is-next i (spots.Chan object place) made there stands =
      let from = made-of (λ (e : Entry ChanOp ChanReply). (steps.Chan object e.op, step_replies.Chan object e.reply place)) (entry_at shown.chans object place) made stands in
      subst (λ (m : StepMade). IsNext s shown.chans number i m.0 m.1) from.2 (at-chan i object place from.0 there from.1)
  is-next i (spots.Work place) made there stands =
      let from = made-of _ _ made stands in
      subst (λ (m : StepMade). IsNext s shown.chans number i m.0 m.1) from.2 (elsewhere i (spots.Work place) _ _ there (λ object at same. cc) refl refl)
  is-next i (spots.Table place) made there stands =
      let from = made-of _ _ made stands in
      subst (λ (m : StepMade). IsNext s shown.chans number i m.0 m.1) from.2 (elsewhere i (spots.Table place) _ _ there (λ object at same. cc) refl refl)
  is-next i (spots.Clock place) made there stands =
      let from = made-of (λ (e : Entry ClockOp ClockReply). (steps.Clock e.op, step_replies.Clock e.reply place)) (slice_get shown.clock place) made stands in
      subst (λ (m : StepMade). IsNext s shown.chans number i m.0 m.1) from.2
      (elsewhere i (spots.Clock place) (steps.Clock from.0.op) (step_replies.Clock from.0.reply place) there (λ object at same. cc) refl
      (clock-tells shown.clock place from.0 timed.0 from.1))
  is-next i (spots.Sem object place) made there stands =
      let from = made-of _ _ made stands in
      subst (λ (m : StepMade). IsNext s shown.chans number i m.0 m.1) from.2 (elsewhere i (spots.Sem object place) _ _ there (λ o at same. cc) refl (eqb-same object))
  is-next i (spots.Msgq object place) made there stands =
      let from = made-of _ _ made stands in
      subst (λ (m : StepMade). IsNext s shown.chans number i m.0 m.1) from.2 (elsewhere i (spots.Msgq object place) _ _ there (λ o at same. cc) refl (eqb-same object))
  is-next i (spots.Signal object place) made there stands =
      let from = made-of _ _ made stands in
      subst (λ (m : StepMade). IsNext s shown.chans number i m.0 m.1) from.2 (elsewhere i (spots.Signal object place) _ _ there (λ o at same. cc) refl (eqb-same object))
  is-next i (spots.Obs object place) made there stands =
      let from = made-of _ _ made stands in
      subst (λ (m : StepMade). IsNext s shown.chans number i m.0 m.1) from.2 (elsewhere i (spots.Obs object place) _ _ there (λ o at same. cc) refl (eqb-same object))
  is-next i (spots.LookItem object flags at) made there stands =
      subst (λ (m : StepMade). IsNext s shown.chans number i m.0 m.1) (sym stands) (elsewhere i (spots.LookItem object flags at) _ _ there (λ o p same. cc) refl refl)
  is-next i (spots.LookSignal object seen) made there stands =
      subst (λ (m : StepMade). IsNext s shown.chans number i m.0 m.1) (sym stands.1) (elsewhere i (spots.LookSignal object seen) _ _ there (λ o p same. cc) refl refl)

  -- the steps of a log from one of them on
  played-among : (i : ℕ) (chans : ChanHistories) (at end : PlayerPlace) (rest : List Spot) (made : List StepMade) → at.who.number ≡ number → length at.spots ≡ i →
      ((k : ℕ) (spot : Spot) → slice_get rest k ≡ Some spot → slice_get log (i + k) ≡ Some spot) → AllZip (Stands shown) rest made → IsPlayed s at made end →
      EachGrew number chans (cuts number i shown.chans) → IsPlayedAmong s chans at made
  played-among i chans at end [] [] own long among stands played grew = tt
  played-among i chans at end [] (m ∷ more) own long among stands played grew = absurd stands
  played-among i chans at end (spot ∷ rest) [] own long among stands played grew = tt
  played-among i chans at end (spot ∷ rest) (m ∷ more) own long among stands played grew =
      let here : slice_get log i ≡ Some spot = (let same : i + 0 ≡ i = omega arith in ap (slice_get log) (sym same) ∙ among 0 spot refl) in
      let next = is-next i spot m here stands.0 in
      let stays = after-spots s at m.0 m.1 in
      let later : length (after s at m.0 m.1).spots ≡ i + 1 = ap (λ (l : List Spot). length l) stays.1 ∙ (let more = length-append at.spots (spot_made at m ∷ []) in omega arith) in (
        cuts number i shown.chans,
        next.who,
        next.own ∙ sym own,
        subst (λ (k : ℕ). EachGrew k chans (cuts number i shown.chans)) (sym own) grew,
        played.0,
        next.replied,
        played-among (i + 1) (chans_after (cuts number i shown.chans) next.who (length at.spots) m.0 m.1) (after s at m.0 m.1) end rest more (ap (λ (w : Who). w.number) stays.0 ∙ own) later
            (λ k spot' there. (let same : i + 1 + k ≡ i + suc k = omega arith in ap (slice_get log) same ∙ among (suc k) spot' there)) stands.1 played.1
            (subst (λ (k : ℕ). EachGrew number (chans_after (cuts number i shown.chans) next.who k m.0 m.1) (cuts number (i + 1) shown.chans)) (sym long) next.grew),
      )
    where
      spot_made : PlayerPlace → StepMade → Spot
      spot_made at m = spot_of m.0 m.1

-- at its start a player has this number, and has made no step
pub start-of : (s : Content) (number : ℕ) (at : PlayerPlace) → start_at s number ≡ Some at → (at.who.number ≡ number) × (at.spots ≡ [])
start-of s number at is =
    let inner : ℕ → Option PlayerPlace = λ object. option_map (starting s number object) (slice_get s.decls object) in
    option_and_then_some inner (slice_get (players s.decls) number) at is (λ object found made. by_decl object (slice_get s.decls object) made)
  where
    by_decl : (object : ℕ) (decl : Option Decl) → option_map (starting s number object) decl ≡ Some at → (at.who.number ≡ number) × (at.spots ≡ [])
    by_decl object None made = absurd (cc)
    by_decl object (Some decl) made =
        subst (λ (a : PlayerPlace). (a.who.number ≡ number) × (a.spots ≡ [])) (same_Some (starting s number object decl) at made) (refl, refl)

-- the log of a player is played among what came to the channels
pub log-played : (s : Content) (number : ℕ) (shown : Shown) (at : PlayerPlace) (is : IsFollowing s number shown at) → ShowsLog shown number at.spots → ShowsLegalClock shown → ShowsLegalChans s shown →
    IsPlayedAmong s (cuts number 0 shown.chans) is.start is.made
unfolding cuts
log-played s number shown at is shows timed legal =
    let start = start-of s number is.start is.starts in
    played-among s shown number is.start.who start.0 at.spots shows timed legal 0 (cuts number 0 shown.chans) is.start at at.spots is.made start.0 (ap length start.1)
    (λ k spot there. (let same : 0 + k ≡ k = omega arith in ap (slice_get at.spots) same ∙ there)) is.stands is.played
    (cuts-grew-none number (cuts number 0 shown.chans) (cuts number 0 shown.chans) refl)

-- each script that a player of a lawful log was to enter was entered
pub each_log_enters_its_scripts : EachLogEntersItsScripts
each_log_enters_its_scripts s number shown at is valid shows timed legal =
    each_script_is_entered s (cuts number 0 shown.chans) number is.start is.made valid is.starts (log-played s number shown at is shows timed legal)
