-- What a thread has done that waits for bits, through its calls.
use Rattle.std.proofs.Common.{◌≡◌, ℕ, ◌+◌, ◌<◌, Bool, true, false, eqb, Option, Some, None, ◌⊎◌, Result, Ok, List, [], ◌∷◌, ◌++◌, refl, sym, ap, subst, ◌∙◌, inl, inr, arith}
use Rattle.std.proofs.lemmas.Bool.Decides.{nat_tests}
use Rattle.std.proofs.lemmas.List.{append-nil, append_assoc}
use Rattle.std.proofs.lemmas.List.Elements.{All-nil, All-append, filter-append}
use Rattle.std.proofs.lemmas.Option.{none-some, same_Some}
use Rattle.zk_base.specs.declared.ids.Who.{Who}
use Rattle.zk_base.specs.declared.ids.Entry.{Entry}
use Rattle.zk_base.specs.declared.errors.NoMemory.{NoMemory}
use Rattle.zk_base.specs.History.{entry, IsAbove}
use Rattle.zk_base.specs.Legal.{IsLegal}
use Rattle.zk_base.proofs.Histories.{IsLegal-front}
use Rattle.zk_base.proofs.Order.{filter_none}
use Rattle.zk_turn.specs.Calls.{IsEntered, HasCalled, entries_made}
use Rattle.zk_turn.specs.Passes.{pass_players, pass_seen, pass_mine, pass_room}
use Rattle.zk_turn.specs.Players.{is_by, own, GoesOn}
use Rattle.zk_event.specs.declared.event.EventOp.{EventOp}
use Rattle.zk_event.specs.declared.event.EventOp.TheVariants as ops
use Rattle.zk_event.specs.declared.event.EventReply.{EventReply}
use Rattle.zk_event.specs.declared.event.EventReply.TheVariants as replies
use Rattle.zk_event.specs.declared.event.Wanted.{Wanted}
use Rattle.zk_event.specs.Event.{new_event, told, found, wait_reply, event_machine}
use Rattle.zk_event.specs.EventLaws.{EventHistory, event_after_all}
use Rattle.zk_event.specs.Waiting.{EventPass, HasMade, HasMadeNone, asks, HasAsked, HasEnded, HasTried, told_by, is_told, ended_by, may_end}
use Rattle.zk_event.proofs.EndBits.{IsBits, asked-told, ended-bits}

-- the bits of a reply
abbrev bits_in : EventReply → ℕ
bits_in (replies.Bits bits) = bits
bits_in reply = 0

bits-some : (bits : ℕ) → IsBits (replies.Bits bits) → 0 < bits
bits-some bits is = subst (λ (n : ℕ). 0 < n) (sym (ap bits_in is.says)) is.some

isnt-zero : (n : ℕ) → 0 < n → eqb n 0 ≡ false
isnt-zero n some = grind (arith, nat_tests)

-- nobody went on
goes-none : (who : Who) (h : EventHistory) → GoesOn (who ∷ []) h h
goes-none who h =
    let P : Entry EventOp EventReply → Type 0 = λ e. is_by (who ∷ []) e ≡ false in
    record { later = []; longer = sym (append-nil h); others = All-nil P }

-- entries of others are none of one's own
own-others : (players : List Who) (old new : EventHistory) → GoesOn players old new → own players new ≡ own players old
own-others players old new goes =
    ap (own players) goes.longer
    ∙ filter-append (is_by players) old goes.later
    ∙ ap (λ (l : EventHistory). own players old ++ l) (filter_none (is_by players) goes.later goes.others)
    ∙ append-nil (own players old)

-- others alone went on twice
goes-on : (who : Who) (h h' h'' : EventHistory) → GoesOn (who ∷ []) h h' → GoesOn (who ∷ []) h' h'' → GoesOn (who ∷ []) h h''
goes-on who h h' h'' one other =
    let P : Entry EventOp EventReply → Type 0 = λ e. is_by (who ∷ []) e ≡ false in
    record {
      later = one.later ++ other.later;
      longer = other.longer ∙ ap (λ (l : EventHistory). l ++ other.later) one.longer ∙ append_assoc h one.later other.later;
      others = All-append P one.later other.later one.others other.others;
    }

was-never : (bits : ℕ) → IsBits (replies.Was bits) → ⊥
was-never bits is = cc is.says

wait-never : IsBits replies.Wait → ⊥
wait-never is = cc is.says

there-are : (bits : ℕ) → (replies.Bits bits ≡ replies.Wait) ⊎ IsBits (replies.Bits bits) → 0 < bits
there-are bits (inl is) = absurd (cc)
there-are bits (inr is) = bits-some bits is

never-was : (bits : ℕ) → (replies.Was bits ≡ replies.Wait) ⊎ IsBits (replies.Was bits) → ⊥
never-was bits (inl is) = cc is
never-was bits (inr is) = was-never bits is

-- what a call may answer
abbrev Made : Type 0
Made = Option (EventReply × ℕ)

abbrev ok : Made → Result Made NoMemory
ok made = Ok made

module _ (who : Who) (step : ℕ) where
  -- one who asks is told bits, or that it waits
  replied-told : (wanted : Wanted) (reset : Bool) (reply : EventReply) (place : ℕ) (p q : EventPass) → 0 < wanted.mask →
      IsEntered event_machine new_event who step (asks wanted reset) reply place (pass_seen p) (pass_seen q) →
      (reply ≡ replies.Wait) ⊎ IsBits reply
  replied-told wanted reset reply place p q some made =
      let bits = found reset (event_after_all made.found).bits in
      asked-told bits wanted reply (isnt-zero wanted.mask some)
      (same_Some (wait_reply (told bits wanted) true) reply made.replied)

  -- one who ends its wait is told bits
  replied-end : (place : ℕ) (reply : EventReply) (at : ℕ) (p q : EventPass) → IsLegal event_machine new_event (pass_seen q) →
      IsEntered event_machine new_event who step (ops.WaitEnd place) reply at (pass_seen p) (pass_seen q) → IsBits reply
  replied-end place reply at p q legal made =
      let e : Entry EventOp EventReply = entry who step (ops.WaitEnd place) reply in
      ended-bits made.found who place reply
      (IsLegal-front event_machine new_event made.found (e ∷ []) (subst (IsLegal event_machine new_event) made.entered legal))
      made.replied

  -- a pass by which nothing was done
  pub made-nothing : (p : EventPass) → IsAbove (pass_mine p) who.number step → HasMadeNone who step p p
  made-nothing p later = record { since = goes-none who (pass_seen p); room = refl; later = later }

  -- no entry was made
  pub made-none : (p q : EventPass) → pass_players p ≡ who ∷ [] → pass_players q ≡ pass_players p →
      GoesOn (who ∷ []) (pass_seen p) (pass_seen q) → pass_room q + 0 ≡ pass_room p → IsAbove (pass_mine p) who.number step →
      HasMadeNone who step p q
  made-none p q alone same since room later = record {
    since = since;
    room = omega (arith, room);
    later = subst (λ (l : EventHistory). IsAbove l who.number step)
        (ap (λ ws. own ws (pass_seen p)) alone ∙ sym (own-others (who ∷ []) (pass_seen p) (pass_seen q) since)
        ∙ ap (λ ws. own ws (pass_seen q)) (sym (same ∙ alone))) later;
  }

  -- and none again
  pub none-again : (p q r : EventPass) → HasMadeNone who step p q → HasMadeNone who step q r → HasMadeNone who step p r
  none-again p q r one other = record {
    since = goes-on who (pass_seen p) (pass_seen q) (pass_seen r) one.since other.since;
    room = other.room ∙ one.room;
    later = other.later;
  }

  -- none, and then one
  made-then : (op : EventOp) (reply : EventReply) (place : ℕ) (p q r : EventPass) → HasMadeNone who step p q →
      HasMade who step op reply place q r → HasMade who step op reply place p r
  made-then op reply place p q r none made =
      let e = made.entered in
      record {
        entered = record {
          found = e.found;
          since = goes-on who (pass_seen p) (pass_seen q) e.found none.since e.since;
          replied = e.replied;
          at_place = e.at_place;
          entered = e.entered;
        };
        room = made.room ∙ none.room;
        later = made.later;
      }

  pub ended-then : (place bits : ℕ) (p q r : EventPass) → HasMadeNone who step p q → HasEnded who step place q r bits →
      HasEnded who step place p r bits
  ended-then place bits p q r none ended =
      (ended.0, (ended.1.0, made-then (ops.WaitEnd place) (replies.Bits bits) ended.1.0 p q r none ended.1.1))

  -- the answer to one who asks
  pub asked-so : (wanted : Wanted) (reset : Bool) (p q : EventPass) → 0 < wanted.mask → IsAbove (pass_mine q) who.number (step + 1) →
      (made : Made) → HasCalled event_machine new_event who step (asks wanted reset) (pass_seen p) (pass_seen q) (ok made) →
      pass_room q + entries_made (ok made) ≡ pass_room p →
      (is_told made ≡ true) × HasAsked who step wanted reset p q (Ok (told_by made))
  asked-so wanted reset p q some later None called room =
      absurd (none-some (wait_reply (told (found reset (event_after_all (pass_seen q)).bits) wanted) true) (sym called.impossible))
  asked-so wanted reset p q some later (Some (replies.Bits bits, place)) called room =
      let there = there-are bits (replied-told wanted reset (replies.Bits bits) place p q some called) in
      (refl, (there, (place, record { entered = called; room = room; later = later })))
  asked-so wanted reset p q some later (Some (replies.Wait, place)) called room =
      (refl, record { entered = called; room = room; later = later })
  asked-so wanted reset p q some later (Some (replies.Was bits, place)) called room =
      absurd (never-was bits (replied-told wanted reset (replies.Was bits) place p q some called))

  -- the answer to one who ends its wait
  pub ended-so : (place : ℕ) (p q : EventPass) → IsLegal event_machine new_event (pass_seen q) → pass_players p ≡ who ∷ [] →
      pass_players q ≡ pass_players p → IsAbove (pass_mine p) who.number step → IsAbove (pass_mine q) who.number (step + 1) →
      (made : Made) → HasCalled event_machine new_event who step (ops.WaitEnd place) (pass_seen p) (pass_seen q) (ok made) →
      pass_room q + entries_made (ok made) ≡ pass_room p →
      (may_end made ≡ true) × HasTried who step place p q (ended_by made)
  ended-so place p q legal alone same before later None called room =
      (refl, made-none p q alone same called.since room before)
  ended-so place p q legal alone same before later (Some (replies.Bits bits, at)) called room =
      let is = replied-end place (replies.Bits bits) at p q legal called in
      (refl, (bits-some bits is, (at, record { entered = called; room = room; later = later })))
  ended-so place p q legal alone same before later (Some (replies.Was bits, at)) called room =
      absurd (was-never bits (replied-end place (replies.Was bits) at p q legal called))
  ended-so place p q legal alone same before later (Some (replies.Wait, at)) called room =
      absurd (wait-never (replied-end place replies.Wait at p q legal called))
