-- What a player's own entry at a channel does to what it holds and waits for.
use Rattle.std.proofs.Common.{◌≡◌, ◌≢◌, ◌⊎◌, inl, inr, ℕ, zero, suc, ◌<◌, Bool, true, false, eqb, ◌||◌, Option, Some, None, option_to_list, List, [], ◌∷◌, ◌++◌, map, length, refl, sym, ap, subst, ◌∙◌, arith}
use Rattle.std.specs.List.{slice_get, list_any, IsDistinct, AllByRecursion}
use Rattle.std.specs.Option.{option_map, option_and_then}
use Rattle.std.proofs.lemmas.Bool.{or_parts}
use Rattle.std.proofs.lemmas.Bool.Decides.{nat_tests}
use Rattle.std.proofs.lemmas.List.Elements.{All-nil}
use Rattle.std.proofs.lemmas.Map.Keys.{IsDistinct-cons, IsDistinct-tail, IsDistinct-head}
use Rattle.std.proofs.lemmas.Option.{option_and_then_some, same_Some}
use Rattle.zk_base.specs.declared.ids.Who.{Who}
use Rattle.zk_base.specs.declared.ids.Entry.{Entry}
use Rattle.zk_base.specs.History.{entry}
use Rattle.zk_base.specs.Legal.{state_after}
use Rattle.zk_base.proofs.Histories.{state_after-append}
use Rattle.zk_base.specs.declared.waits.Waiter.{Waiter}
use Rattle.zk_base.specs.declared.waits.Decision.{Decision}
use Rattle.zk_line.specs.declared.types.Decl.{Decl}
use Rattle.zk_line.specs.declared.types.Decl.TheVariants as decls
use Rattle.zk_scenario.specs.Content.{Content}
use Rattle.zk_model_bus.specs.declared.channel.ChanOp.{ChanOp}
use Rattle.zk_model_bus.specs.declared.channel.ChanOp.TheVariants as ops
use Rattle.zk_model_bus.specs.declared.channel.ChanReply.{ChanReply}
use Rattle.zk_model_bus.specs.declared.channel.ChanReply.TheVariants as replies
use Rattle.zk_model_bus.specs.declared.channel.Manner.{Manner}
use Rattle.zk_model_bus.specs.Channel.{Channel, new_chan, is_claim, chan_machine, chan_next, chan_reply}
use Rattle.zk_model_bus.specs.ChannelLaws.{ChanHistory, manner_of}
use Rattle.zk_model_bus.proofs.ChannelKept.{IsHeldAs, IsAwaitedAs, IsUndecided, ArePlaced, held-own, got-called, got-ended, got-quit, waits-called, placed-after, counted-after}
use Rattle.zk_worker.specs.declared.steps.StepReply.{StepReply}
use Rattle.zk_worker.specs.declared.steps.StepReply.TheVariants as step_replies
use Rattle.zk_worker.specs.Single.{answer_in}
use Rattle.zk_worker.specs.Families.{start_of, with_entry, answer_at}
use Rattle.zk_worker.specs.Machines.{machines_of, chan_start}
use Rattle.zk_player_laws.specs.StackLaws.{ChanHistories}
use Rattle.zk_player_laws.proofs.ChannelAnswers.{IsGiven, AreGiven, given-after}
use Rattle.zk_player_laws.proofs.OpenScripts.{chan_state, IsHeld, IsAwaited, IsKept}

-- a channel that answered: its history and state, and the reply of its machine
pub record HasReplied (s : Content) (chans : ChanHistories) (who : Who) (object : ℕ) (op : ChanOp) (told : StepReply) : Type 0 where
  pub history : ChanHistory
  pub state : Channel
  pub reply : ChanReply
  pub there : slice_get chans object ≡ Some history
  pub is_state : chan_state s chans object ≡ Some state
  pub answers : chan_reply state who op ≡ Some reply
  pub tells : step_replies.Chan object reply (length history) ≡ told
  pub placed : ArePlaced state
  pub counted : state.entries ≡ length history
  pub gives : AreGiven state.waits.decided

-- the first state of a channel has no waits and no entries
first-placed : (decl : Decl) (start : Channel) → chan_start decl ≡ Some start → ArePlaced start × (start.entries ≡ 0) × AreGiven start.waits.decided
first-placed (decls.Chan name message valid observers) start is =
    subst (λ (c : Channel). ArePlaced c × (c.entries ≡ 0) × AreGiven c.waits.decided) (same_Some (new_chan message valid observers) start is)
    (record { waiting = All-nil (λ (w : Waiter Manner). w.place < 0); decided = All-nil (λ (d : Decision ChanReply). d.place < 0) }, refl, All-nil IsGiven)
first-placed decl start is = absurd (cc)

starts-placed : (decls : List Decl) (object : ℕ) (start : Channel) → option_and_then (λ (o : Option Channel). o) (slice_get (map chan_start decls) object) ≡ Some start →
    ArePlaced start × (start.entries ≡ 0) × AreGiven start.waits.decided
starts-placed [] object start is = absurd (cc)
starts-placed (d ∷ ds) zero start is = first-placed d start is
starts-placed (d ∷ ds) (suc object) start is = starts-placed ds object start is

-- what is answered at a channel is what its machine answers in its state
pub has-replied : (s : Content) (chans : ChanHistories) (who : Who) (object : ℕ) (op : ChanOp) (told : StepReply) →
    answer_at (machines_of s).chans chans step_replies.Chan who object op ≡ Some told → HasReplied s chans who object op told
has-replied s chans who object op told is =
    let Q : Type 0 = HasReplied s chans who object op told in
    option_and_then_some {P = Q} (λ (start : Channel). option_and_then (λ h. answer_in chan_machine start h (step_replies.Chan object) who op) (slice_get chans object))
    (start_of (machines_of s).chans object) told is
    (λ start started after. option_and_then_some {P = Q} (λ h. answer_in chan_machine start h (step_replies.Chan object) who op) (slice_get chans object) told after
    (λ h there answered. by_reply start started h there (chan_reply (state_after chan_machine start h) who op) refl answered))
  where
    by_reply : (start : Channel) → start_of (machines_of s).chans object ≡ Some start → (h : ChanHistory) → slice_get chans object ≡ Some h → (o : Option ChanReply) →
        chan_reply (state_after chan_machine start h) who op ≡ o → option_map (λ r. step_replies.Chan object r (length h)) o ≡ Some told → HasReplied s chans who object op told
    by_reply start started h there None answers answered = absurd (cc)
    by_reply start started h there (Some r) answers answered = record {
      history = h;
      state = state_after chan_machine start h;
      reply = r;
      there = there;
      is_state = ap (option_and_then (λ (start : Channel). option_map (state_after chan_machine start) (slice_get chans object))) started
          ∙ ap (option_map (state_after chan_machine start)) there;
      answers = answers;
      tells = same_Some (step_replies.Chan object r (length h)) told answered;
      placed = placed-after start h (starts-placed s.decls object start started).0;
      counted = (let count = counted-after start h in let none = (starts-placed s.decls object start started).1 in omega arith);
      gives = given-after start h (starts-placed s.decls object start started).2;
    }

-- what holds of each reply of a channel holds of what was replied
pub told-by : (s : Content) (chans : ChanHistories) (who : Who) (object : ℕ) (op : ChanOp) (P : StepReply → Type 0) →
    ((r : ChanReply) (place : ℕ) → HasReplied s chans who object op (step_replies.Chan object r place) → P (step_replies.Chan object r place)) →
    (told : StepReply) → answer_at (machines_of s).chans chans step_replies.Chan who object op ≡ Some told → P told
told-by s chans who object op P each told is =
    let had = has-replied s chans who object op told is in
    subst P had.tells (each had.reply (length had.history) (subst (λ (x : StepReply). HasReplied s chans who object op x) (sym had.tells) had))

-- it is what its machine answers there
pub answers-so : (s : Content) (chans : ChanHistories) (who : Who) (object : ℕ) (op : ChanOp) (r : ChanReply) (place : ℕ) (had : HasReplied s chans who object op (step_replies.Chan object r place)) →
    chan_reply had.state who op ≡ Some r
answers-so s chans who object op r place had = had.answers ∙ ap Some (cc (had.tells))

here-with : (hs : ChanHistories) (object : ℕ) (e : Entry ChanOp ChanReply) (h : ChanHistory) → slice_get hs object ≡ Some h → slice_get (with_entry hs object e) object ≡ Some (h ++ e ∷ [])
here-with [] object e h there = absurd (cc)
here-with (g ∷ hs) zero e h there = ap (λ (x : ChanHistory). Some (x ++ e ∷ [])) (same_Some g h there)
here-with (g ∷ hs) (suc object) e h there = here-with hs object e h there

elsewhere-with : (hs : ChanHistories) (object other : ℕ) (e : Entry ChanOp ChanReply) → other ≢ object → slice_get (with_entry hs object e) other ≡ slice_get hs other
elsewhere-with [] object other e apart = refl
elsewhere-with (g ∷ hs) zero zero e apart = absurd (apart refl)
elsewhere-with (g ∷ hs) zero (suc other) e apart = refl
elsewhere-with (g ∷ hs) (suc object) zero e apart = refl
elsewhere-with (g ∷ hs) (suc object) (suc other) e apart = elsewhere-with hs object other e (λ same. apart (ap suc same))

-- the state of a channel after an entry there
pub state-next : (s : Content) (chans : ChanHistories) (object : ℕ) (c : Channel) (who : Who) (n : ℕ) (op : ChanOp) (r : ChanReply) → chan_state s chans object ≡ Some c →
    chan_state s (with_entry chans object (entry who n op r)) object ≡ Some (chan_next c who op)
state-next s chans object c who n op r is =
    let Q : Type 0 = chan_state s (with_entry chans object (entry who n op r)) object ≡ Some (chan_next c who op) in
    option_and_then_some {P = Q} (λ (start : Channel). option_map (state_after chan_machine start) (slice_get chans object)) (start_of (machines_of s).chans object) c is
    (λ start started after. by_history start started (slice_get chans object) refl after)
  where
    by_history : (start : Channel) → start_of (machines_of s).chans object ≡ Some start → (o : Option ChanHistory) → slice_get chans object ≡ o →
        option_map (state_after chan_machine start) o ≡ Some c →
        chan_state s (with_entry chans object (entry who n op r)) object ≡ Some (chan_next c who op)
    by_history start started None there after = absurd (cc)
    by_history start started (Some h) there after =
        let e : Entry ChanOp ChanReply = entry who n op r in
        let state : state_after chan_machine start h ≡ c = same_Some (state_after chan_machine start h) c after in
        ap (option_and_then (λ (start : Channel). option_map (state_after chan_machine start) (slice_get (with_entry chans object e) object))) started
        ∙ ap (option_map (state_after chan_machine start)) (here-with chans object e h there)
        ∙ ap (λ (d : Channel). Some d) (state_after-append chan_machine start h (e ∷ []) ∙ ap (λ (d : Channel). chan_next d who op) state)

-- and that of another channel
state-elsewhere : (s : Content) (chans : ChanHistories) (object other : ℕ) (e : Entry ChanOp ChanReply) → other ≢ object →
    chan_state s (with_entry chans object e) other ≡ chan_state s chans other
state-elsewhere s chans object other e apart =
    ap (λ (o : Option ChanHistory). option_and_then (λ (start : Channel). option_map (state_after chan_machine start) o) (start_of (machines_of s).chans other))
    (elsewhere-with chans object other e apart)

same-or-apart : (a b : ℕ) → (a ≡ b) ⊎ (a ≢ b)
same-or-apart zero zero = inl refl
same-or-apart zero (suc b) = inr (λ same. omega arith)
same-or-apart (suc a) zero = inr (λ same. omega arith)
same-or-apart (suc a) (suc b) = further (same-or-apart a b)
  where
    further : (a ≡ b) ⊎ (a ≢ b) → (suc a ≡ suc b) ⊎ (suc a ≢ suc b)
    further (inl same) = inl (ap suc same)
    further (inr apart) = inr (λ same. apart (omega arith))

-- what a player holds it holds after each entry of its own but the free there
pub held-after : (s : Content) (chans : ChanHistories) (who : Who) (n object chan : ℕ) (op : ChanOp) (r : ChanReply) → IsHeld s chans who.number chan → (chan ≡ object → op ≢ ops.Free) →
    IsHeld s (with_entry chans object (entry who n op r)) who.number chan
held-after s chans who n object chan op r was not_free = by_place (same-or-apart chan object)
  where
    by_place : (chan ≡ object) ⊎ (chan ≢ object) → IsHeld s (with_entry chans object (entry who n op r)) who.number chan
    by_place (inl same) =
        subst (λ (k : ℕ). IsHeld s (with_entry chans object (entry who n op r)) who.number k) (sym same)
        (record {
          state = chan_next was.state who op;
          manner = was.manner;
          is_state = state-next s chans object was.state who n op r (ap (chan_state s chans) (sym same) ∙ was.is_state);
          entered = was.entered;
          holds = held-own was.state who op was.manner was.holds was.entered (not_free same);
        })
    by_place (inr apart) = record {
      state = was.state;
      manner = was.manner;
      is_state = state-elsewhere s chans object chan (entry who n op r) apart ∙ was.is_state;
      entered = was.entered;
      holds = was.holds;
    }

-- Lists of channels without an equal.

eqb-is : (a b : ℕ) → eqb a b ≡ true → a ≡ b
eqb-is a b is = grind (arith, nat_tests)

pub or-behind : (a b : Bool) → b ≡ true → (a || b) ≡ true
or-behind true b is = refl
or-behind false b is = is

all-apart : (c : ℕ) (ks : List ℕ) → list_any (eqb c) ks ≡ false → AllByRecursion (λ k. eqb c k ≡ false) ks
all-apart c [] none = tt
all-apart c (k ∷ ks) none = let both = or_parts (eqb c k) (list_any (eqb c) ks) none in (both.0, all-apart c ks both.1)

none-among : (c : ℕ) (ks : List ℕ) → AllByRecursion (λ k. eqb c k ≡ false) ks → list_any (eqb c) ks ≡ false
none-among c [] all = refl
none-among c (k ∷ ks) all = ap (λ (b : Bool). b || list_any (eqb c) ks) all.0 ∙ none-among c ks all.1

-- a list without equal numbers has its first one once
pub not-again : (c : ℕ) (ks : List ℕ) → IsDistinct eqb (c ∷ ks) → list_any (eqb c) ks ≡ true → ⊥
not-again c ks apart among = let none = none-among c ks (IsDistinct-head eqb c ks apart) in cc

-- What is kept of the innermost script's call.

module _ (s : Content) (number : ℕ) (below : List ℕ) where
  apart-below : (holds : Option ℕ) → IsDistinct eqb (option_to_list holds ++ below) → IsDistinct eqb below
  apart-below None apart = apart
  apart-below (Some c) apart = IsDistinct-tail eqb c below apart

  among-below : (holds : Option ℕ) (chan : ℕ) → list_any (eqb chan) below ≡ true → list_any (eqb chan) (option_to_list holds ++ below) ≡ true
  among-below None chan among = among
  among-below (Some c) chan among = or-behind (eqb chan c) (list_any (eqb chan) below) among

  -- a call that holds nothing and waits for nothing
  pub kept-quiet : (chans chans' : ChanHistories) (holds : Option ℕ) (waits : Option (ℕ × ℕ)) → IsKept s chans number below holds waits →
      ((chan : ℕ) → list_any (eqb chan) below ≡ true → IsHeld s chans number chan → IsHeld s chans' number chan) → IsKept s chans' number below None None
  kept-quiet chans chans' holds waits was stays = record {
    apart = apart-below holds was.apart;
    held = λ chan among. stays chan among (was.held chan (among-below holds chan among));
    awaited = λ wait is. absurd (cc);
  }

  -- a call that gets a channel
  pub kept-gets : (chans chans' : ChanHistories) (waits : Option (ℕ × ℕ)) (chan : ℕ) → IsKept s chans number below None waits →
      ((c : ℕ) → IsHeld s chans number c → IsHeld s chans' number c) → list_any (eqb chan) below ≡ false → IsHeld s chans' number chan →
      IsKept s chans' number below (Some chan) None
  kept-gets chans chans' waits chan was stays new is = record {
    apart = IsDistinct-cons eqb chan below (all-apart chan below new) was.apart;
    held = λ c among. by_test c (eqb c chan) refl among;
    awaited = λ wait none. absurd (cc);
  }
    where
      by_test : (c : ℕ) (b : Bool) → eqb c chan ≡ b → (eqb c chan || list_any (eqb c) below) ≡ true → IsHeld s chans' number c
      by_test c true same among = subst (λ (k : ℕ). IsHeld s chans' number k) (sym (eqb-is c chan same)) is
      by_test c false isnt among = stays c (was.held c (sym (ap (λ (b : Bool). b || list_any (eqb c) below) isnt) ∙ among))

  -- a call that begins to wait, or waits on
  pub kept-waits : (chans chans' : ChanHistories) (waits : Option (ℕ × ℕ)) (wait : ℕ × ℕ) → IsKept s chans number below None waits →
      ((c : ℕ) → IsHeld s chans number c → IsHeld s chans' number c) → IsAwaited s chans' number below wait → IsKept s chans' number below None (Some wait)
  kept-waits chans chans' waits wait was stays awaited = record {
    apart = was.apart;
    held = λ c among. stays c (was.held c among);
    awaited = λ w is. subst (λ (x : ℕ × ℕ). IsAwaited s chans' number below x) (same_Some wait w is) awaited;
  }

  -- a call that holds its channel on
  pub kept-holds : (chans chans' : ChanHistories) (chan : ℕ) → IsKept s chans number below (Some chan) None →
      ((c : ℕ) → IsHeld s chans number c → IsHeld s chans' number c) → IsKept s chans' number below (Some chan) None
  kept-holds chans chans' chan was stays = record {
    apart = was.apart;
    held = λ c among. stays c (was.held c among);
    awaited = λ w is. absurd (cc);
  }

module _ (s : Content) (chans : ChanHistories) (who : Who) (n : ℕ) (below : List ℕ) (waits : Option (ℕ × ℕ)) (chan : ℕ) (was : IsKept s chans who.number below None waits) where
  -- what isn't held at a moment isn't among what is
  not-among : (c : Channel) → chan_state s chans chan ≡ Some c → ((manner : Manner) → IsHeldAs c who.number manner → ⊥) → list_any (eqb chan) below ≡ false
  not-among c is none = by_test (list_any (eqb chan) below) refl
    where
      by_test : (b : Bool) → list_any (eqb chan) below ≡ b → list_any (eqb chan) below ≡ false
      by_test true among =
          let own = was.held chan among in
          let same : own.state ≡ c = same_Some own.state c (sym own.is_state ∙ is) in
          absurd (none own.manner (subst (λ (x : Channel). IsHeldAs x who.number own.manner) same own.holds))
      by_test false among = among

  still : (op : ChanOp) (r : ChanReply) → op ≢ ops.Free → (c : ℕ) → IsHeld s chans who.number c → IsHeld s (with_entry chans chan (entry who n op r)) who.number c
  still op r not_free c held = held-after s chans who n chan c op r held (λ same. not_free)

  -- a channel that a call gives isn't one of those that the player's open scripts hold, and is held then
  pub got-by_call : (op : ChanOp) (manner : Manner) (c : Channel) → chan_state s chans chan ≡ Some c → chan_reply c who op ≡ Some replies.Got → manner_of op ≡ Some manner →
      is_claim manner ≡ false → op ≢ ops.Free → IsKept s (with_entry chans chan (entry who n op replies.Got)) who.number below (Some chan) None
  got-by_call op manner c is told asks entered not_free =
      let got = got-called c who op manner told asks in
      kept-gets s who.number below chans (with_entry chans chan (entry who n op replies.Got)) waits chan was (still op replies.Got not_free)
      (not-among c is (λ other held. let free = got.0 in cc))
      (record {
        state = chan_next c who op;
        manner = manner;
        is_state = state-next s chans chan c who n op replies.Got is;
        entered = entered;
        holds = got.1;
      })

  -- nor is one that was awaited, and is given by an entry that the wait's decision answers
  got-awaited : (op : ChanOp) (place : ℕ) (c : Channel) (awaited : IsAwaited s chans who.number below (chan, place)) → chan_state s chans chan ≡ Some c → op ≢ ops.Free →
      ((manner : Manner) → IsAwaitedAs c who.number place manner → (IsUndecided c who.number place → ⊥) × IsHeldAs (chan_next c who op) who.number manner) →
      IsKept s (with_entry chans chan (entry who n op replies.Got)) who.number below (Some chan) None
  got-awaited op place c awaited is not_free gives =
      let same : awaited.state ≡ c = same_Some awaited.state c (sym awaited.is_state ∙ is) in
      let got = gives awaited.manner (subst (λ (x : Channel). IsAwaitedAs x who.number place awaited.manner) same awaited.awaits) in
      kept-gets s who.number below chans (with_entry chans chan (entry who n op replies.Got)) waits chan was (still op replies.Got not_free)
      (by_test (list_any (eqb chan) below) refl
      (λ among. got.0 (subst (λ (x : Channel). IsUndecided x who.number place) same (awaited.once among))))
      (record {
        state = chan_next c who op;
        manner = awaited.manner;
        is_state = state-next s chans chan c who n op replies.Got is;
        entered = awaited.entered;
        holds = got.1;
      })
    where
      by_test : (b : Bool) → list_any (eqb chan) below ≡ b → (list_any (eqb chan) below ≡ true → ⊥) → list_any (eqb chan) below ≡ false
      by_test true among never = absurd (never among)
      by_test false among never = among

  pub got-by_end : (place : ℕ) (c : Channel) → waits ≡ Some (chan, place) → chan_state s chans chan ≡ Some c → chan_reply c who (ops.ClaimEnd place) ≡ Some replies.Got →
      IsKept s (with_entry chans chan (entry who n (ops.ClaimEnd place) replies.Got)) who.number below (Some chan) None
  got-by_end place c waiting is told =
      got-awaited (ops.ClaimEnd place) place c (was.awaited (chan, place) waiting) is (λ same. cc) (λ manner awaits. got-ended c who place manner awaits told)

  pub got-by_quit : (place : ℕ) (c : Channel) → waits ≡ Some (chan, place) → chan_state s chans chan ≡ Some c → chan_reply c who (ops.ClaimQuit place) ≡ Some replies.Got →
      IsKept s (with_entry chans chan (entry who n (ops.ClaimQuit place) replies.Got)) who.number below (Some chan) None
  got-by_quit place c waiting is told =
      got-awaited (ops.ClaimQuit place) place c (was.awaited (chan, place) waiting) is (λ same. cc) (λ manner awaits. got-quit c who place manner awaits told)

  -- a call that has to wait isn't given the channel yet
  pub waits-by_call : (op : ChanOp) (manner : Manner) (c : Channel) → chan_state s chans chan ≡ Some c → ArePlaced c → chan_reply c who op ≡ Some replies.Wait → manner_of op ≡ Some manner →
      is_claim manner ≡ false → op ≢ ops.Free → IsKept s (with_entry chans chan (entry who n op replies.Wait)) who.number below None (Some (chan, c.entries))
  waits-by_call op manner c is placed told asks entered not_free =
      let waits' = waits-called c who op manner placed told asks in
      kept-waits s who.number below chans (with_entry chans chan (entry who n op replies.Wait)) waits (chan, c.entries) was (still op replies.Wait not_free)
      (record {
        state = chan_next c who op;
        manner = manner;
        is_state = state-next s chans chan c who n op replies.Wait is;
        entered = entered;
        awaits = waits'.0;
        once = λ among. waits'.1;
      })

  -- an entry that brings nothing
  pub quiet-by : (op : ChanOp) (r : ChanReply) → op ≢ ops.Free → IsKept s (with_entry chans chan (entry who n op r)) who.number below None None
  quiet-by op r not_free =
      kept-quiet s who.number below chans (with_entry chans chan (entry who n op r)) None waits was (λ c among held. still op r not_free c held)
