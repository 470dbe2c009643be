-- Wrong fans. Of each a short history that it lets stand, and the law that is false of it.
use Rattle.std.proofs.Common.{◌≡◌, ℕ, inl, Some, List, [], ◌∷◌, ◌++◌, refl, ap, arith}
use Rattle.std.specs.Prelude.{pos}
use Rattle.zk_base.specs.declared.ids.Who.{Who}
use Rattle.zk_base.specs.History.{entry}
use Rattle.zk_base.specs.Legal.{Machine, Replays}
use Rattle.zk_msgsub.specs.declared.fan_state.FanOp.{FanOp}
use Rattle.zk_msgsub.specs.declared.fan_state.FanOp.TheVariants.{Add, Remove, Open}
use Rattle.zk_msgsub.specs.declared.fan_state.FanReply.{FanReply}
use Rattle.zk_msgsub.specs.declared.fan_state.FanReply.TheVariants.{Done, Subs}
use Rattle.zk_msgsub.specs.Fan.{Roster, new_fan, fan_answer, fan_changed, fan_machine}
use Rattle.zk_msgsub.specs.FanLaws.{FanHistory, OpenTellsTheOrder, AddIsTold}

abbrev somebody : Who
somebody = record { number = 0; prio = pos 0 }

-- the first of those that an open tells, or 8 where it tells nobody
abbrev first_told : FanReply → ℕ
first_told (Subs (n ∷ ns)) = n
first_told reply = 8

-- an add that puts the subscriber before the others
abbrev changed_in_front : List ℕ → FanOp → List ℕ
changed_in_front listed (Add n) = n ∷ listed
changed_in_front listed op = fan_changed listed op

abbrev pub adds_in_front : Machine Roster FanOp FanReply
adds_in_front = record fan_machine { next = λ s who op. record { listed = changed_in_front s.listed op; entries = s.entries } }

abbrev two_adds : FanHistory
two_adds = entry somebody 0 (Add 1) Done ∷ entry somebody 1 (Add 2) Done ∷ []

abbrev pub opened_after_two : FanHistory
opened_after_two = two_adds ++ entry somebody 2 Open (Subs (2 ∷ 1 ∷ [])) ∷ []

pub opened_after_two-replays : Replays adds_in_front (new_fan []) opened_after_two
opened_after_two-replays = (refl, (refl, (refl, tt)))

pub opened_after_two-refused : OpenTellsTheOrder [] opened_after_two → ⊥
opened_after_two-refused order =
    let told : ◌≡◌ {A = ℕ} 2 1 = ap first_told (order two_adds (entry somebody 2 Open (Subs (2 ∷ 1 ∷ [])))
    (record { rest = []; whole = refl }) refl) in
    omega (arith, told)

-- a remove that leaves the subscriber listed
abbrev changed_by_adds : List ℕ → FanOp → List ℕ
changed_by_adds listed (Remove n) = listed
changed_by_adds listed op = fan_changed listed op

abbrev pub keeps_the_removed : Machine Roster FanOp FanReply
keeps_the_removed = record fan_machine { next = λ s who op. record { listed = changed_by_adds s.listed op; entries = s.entries } }

abbrev one_removed : FanHistory
one_removed = entry somebody 0 (Remove 1) Done ∷ []

abbrev pub opened_after_a_remove : FanHistory
opened_after_a_remove = one_removed ++ entry somebody 1 Open (Subs (1 ∷ [])) ∷ []

pub opened_after_a_remove-replays : Replays keeps_the_removed (new_fan (1 ∷ [])) opened_after_a_remove
opened_after_a_remove-replays = (refl, (refl, tt))

pub opened_after_a_remove-refused : OpenTellsTheOrder (1 ∷ []) opened_after_a_remove → ⊥
opened_after_a_remove-refused order =
    let told : ◌≡◌ {A = ℕ} 1 8 = ap first_told (order one_removed (entry somebody 1 Open (Subs (1 ∷ [])))
    (record { rest = []; whole = refl }) refl) in
    omega (arith, told)

-- an open that tells those of the start, whatever was done since
abbrev answer_from : List ℕ → List ℕ → FanOp → FanReply
answer_from first listed Open = Subs first
answer_from first listed op = fan_answer listed op

abbrev pub tells_the_start : List ℕ → Machine Roster FanOp FanReply
tells_the_start first = record fan_machine { reply_of = λ s who op. Some (answer_from first s.listed op) }

abbrev one_added : FanHistory
one_added = entry somebody 0 (Add 1) Done ∷ []

abbrev pub opened_after_an_add : FanHistory
opened_after_an_add = one_added ++ entry somebody 1 Open (Subs []) ∷ []

pub opened_after_an_add-replays : Replays (tells_the_start []) (new_fan []) opened_after_an_add
opened_after_an_add-replays = (refl, (refl, tt))

pub opened_after_an_add-refused : OpenTellsTheOrder [] opened_after_an_add → ⊥
opened_after_an_add-refused order =
    let told : ◌≡◌ {A = ℕ} 8 1 = ap first_told (order one_added (entry somebody 1 Open (Subs []))
    (record { rest = []; whole = refl }) refl) in
    omega (arith, told)

-- an add that is done though the subscriber is listed
abbrev answer_done : List ℕ → FanOp → FanReply
answer_done listed (Add n) = Done
answer_done listed op = fan_answer listed op

abbrev pub adds_again : Machine Roster FanOp FanReply
adds_again = record fan_machine { reply_of = λ s who op. Some (answer_done s.listed op) }

abbrev pub added_twice : FanHistory
added_twice = one_added ++ entry somebody 1 (Add 1) Done ∷ []

pub added_twice-replays : Replays adds_again (new_fan []) added_twice
added_twice-replays = (refl, (refl, tt))

abbrev code : FanReply → ℕ
code Done = 0
code reply = 1

pub added_twice-refused : AddIsTold [] added_twice → ⊥
added_twice-refused add =
    let told : ◌≡◌ {A = ℕ} 0 1 = ap code (add.already one_added (entry somebody 1 (Add 1) Done) 1
    (record { rest = []; whole = refl }) refl
    (inl (record {
      front = [];
      e = entry somebody 0 (Add 1) Done;
      rest = [];
      whole = refl;
      added = refl;
      done = refl;
      last = refl;
    }))) in
    omega (arith, told)
