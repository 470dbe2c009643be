-- What goes through a message queue, along a history.
use Rattle.std.proofs.Common.{◌≡◌, ℕ, suc, ◌+◌, ◌-◌, ◌<◌, ◌≤◌, ◌⊎◌, inl, inr, All, Bool, true, false, ltb, eqb, cond, ◌&&◌, ◌||◌, Option, Some, List, [], ◌∷◌, ◌++◌, length, refl, sym, ap, subst, ◌∙◌, append_assoc, append-nil, arith}
use Rattle.std.specs.List.{list_any, count_by}
use Rattle.std.specs.Option.{option_map_or}
use Rattle.std.specs.Str.{bytes_eq}
use Rattle.std.proofs.lemmas.Bool.{ltb-true, eqb-true}
use Rattle.std.proofs.lemmas.Bool.Decides.{nat_tests}
use Rattle.std.proofs.lemmas.List.{length-append}
use Rattle.std.proofs.lemmas.List.Elements.{All-head, All-tail}
use Rattle.std.proofs.lemmas.List.Sums.{sum_by-cons, sum_by-append}
use Rattle.std.proofs.lemmas.Option.{same_Some, slice_get_past}
use Rattle.zk_base.specs.declared.ids.Who.{Who}
use Rattle.zk_base.specs.declared.ids.Entry.{Entry}
use Rattle.zk_base.specs.declared.waits.Waiter.{Waiter}
use Rattle.zk_base.specs.declared.waits.Decision.{Decision}
use Rattle.zk_base.specs.History.{IsEntry}
use Rattle.zk_base.specs.Legal.{Replays}
use Rattle.zk_base.specs.Waits.{Waits, is_waiter, decide, decides_first}
use Rattle.zk_base.specs.WaitLaws.{decided_at, handed_by}
use Rattle.zk_base.proofs.Firsts.{one_if}
use Rattle.zk_base.proofs.Handed.{some-waits, nothing-there, handed-none, handed-first}
use Rattle.zk_base.proofs.Histories.{state_after-append, state_after-snoc, Replays-front, Replays-rest}
use Rattle.zk_base.proofs.WaitsOnce.{eqb-same}
use Rattle.zk_base.proofs.WaitDecisions.{said, waits-apart, decides-said}
use Rattle.zk_model_wait.specs.declared.msgq.MsgqOp.{MsgqOp}
use Rattle.zk_model_wait.specs.declared.msgq.MsgqOp.TheVariants as ops
use Rattle.zk_model_wait.specs.declared.msgq.MsgqReply.{MsgqReply}
use Rattle.zk_model_wait.specs.declared.msgq.MsgqReply.TheVariants.{Done, NoMsg, Bytes, Number}
use Rattle.zk_model_wait.specs.Msgq.{Msgq, new_msgq, else_reply, put_reply, get_reply, peek_reply, msgq_reply, msgq_next, msgq_machine, put_at_full, appended, put_to, prepended, put_front_to, moved_in, get_from}
use Rattle.zk_model_wait.specs.MsgqWaits.{get_decides, put_decides, take_decides, putters, getters}
use Rattle.zk_model_wait.specs.MsgqLaws.{MsgqHistory, OfEachMsgq, msgq_after_all, message_of, is_done, moved_by, accepted, leaving, all_accepted, all_leaving, goes_in_front, some_in_front, message_put, times, PutIsTold, GetIsTold, PeekIsTold, FirstInFirstOut, PutFrontGoesFirst, NothingIsLost, RingWithinMax, NoneWaitsToGetWhileMessages, NoneWaitsToPutWhileRoom, PutWaitsOnlyAtFull, PutFrontIsTold, GetWaitsOnlyAtEmpty, PutDecidedByGetOrPurge, GetDecidedByItsPut, LooksTellTheRing, PurgeEndsEveryPut, MayAlways, PurgeIsDone}
use Rattle.zk_model_wait.proofs.MsgqWaits.{has_putters, has_getters, first_putters, first_getters}
use Rattle.zk_model_wait.proofs.SemCounts.{without-nil}

-- what each operation keeps: no more messages than the queue holds, no get that waits beside a message, no put that waits
-- beside room
record IsServed (most : ℕ) (q : Msgq) : Type 0 where
  holds : q.most ≡ most
  within : length q.messages ≤ most
  gets : 0 < length q.messages → q.gets.waiting ≡ []
  puts : length q.messages < most → q.puts.waiting ≡ []

heads : {A : Type 0} (x y : A) (xs ys : List A) → x ∷ xs ≡ y ∷ ys → x ≡ y
heads x y xs ys same = cc

not-below : (a b : ℕ) → ltb a b ≡ false → b ≤ a
not-below a b is = grind (arith, nat_tests)

put-served : (most : ℕ) (waiting : List (Waiter Unit)) (q : Msgq) (who : Who) (message : List ℕ) (waits : Bool) →
    q.gets.waiting ≡ waiting → IsServed most q → IsServed most (put_to waiting q who message waits)
put-served most (w ∷ ws) q who message waits some is = record {
  holds = is.holds;
  within = is.within;
  gets = λ above. absurd (some-waits w ws q.gets.waiting some (is.gets above));
  puts = is.puts;
}
put-served most [] q who message waits none is = by (ltb (length q.messages) q.most) refl waits where
  by : (room : Bool) → ltb (length q.messages) q.most ≡ room → (waits : Bool) →
      IsServed most (cond room (appended q message) (put_at_full q who message waits))
  by true below waits =
      let less = ltb-true (length q.messages) q.most below in
      let same = is.holds in
      let long = length-append q.messages (message ∷ []) in
      record { holds = is.holds; within = omega arith; gets = λ above. none; puts = λ room. is.puts (omega arith) }
  by false full true =
      let more = not-below (length q.messages) q.most full in
      let same = is.holds in
      record { holds = is.holds; within = is.within; gets = is.gets; puts = λ room. absurd (omega arith) }
  by false full false = is

front-served : (most : ℕ) (waiting : List (Waiter Unit)) (q : Msgq) (message : List ℕ) → q.gets.waiting ≡ waiting →
    IsServed most q → IsServed most (put_front_to waiting q message)
front-served most (w ∷ ws) q message some is = record {
  holds = is.holds;
  within = is.within;
  gets = λ above. absurd (some-waits w ws q.gets.waiting some (is.gets above));
  puts = is.puts;
}
front-served most [] q message none is = by (ltb (length q.messages) q.most) refl where
  by : (room : Bool) → ltb (length q.messages) q.most ≡ room → IsServed most (cond room (prepended q message) q)
  by true below =
      let less = ltb-true (length q.messages) q.most below in
      let same = is.holds in
      record { holds = is.holds; within = omega arith; gets = λ above. none; puts = λ room. is.puts (omega arith) }
  by false full = is

moved-served : (most : ℕ) (waiting : List (Waiter (List ℕ))) (m : List ℕ) (ms : List (List ℕ)) (q : Msgq) →
    q.puts.waiting ≡ waiting → q.messages ≡ m ∷ ms → IsServed most q →
    IsServed most (moved_in waiting (record q { messages = ms }))
moved-served most [] m ms q none has is =
    let long : length q.messages ≡ suc (length ms) = ap length has in
    let within = is.within in
    record { holds = is.holds; within = omega arith; gets = λ above. is.gets (omega arith); puts = λ room. none }
moved-served most (w ∷ ws) m ms q some has is =
    let long : length q.messages ≡ suc (length ms) = ap length has in
    let longer = length-append ms (w.payload ∷ []) in
    let within = is.within in
    record {
      holds = is.holds;
      within = omega arith;
      gets = λ above. is.gets (omega arith);
      puts = λ room. absurd (some-waits w ws q.puts.waiting some (is.puts (omega arith)));
    }

get-served : (most : ℕ) (messages : List (List ℕ)) (q : Msgq) (who : Who) (waits : Bool) → q.messages ≡ messages →
    IsServed most q → IsServed most (get_from messages q who waits)
get-served most (m ∷ ms) q who waits has is = moved-served most q.puts.waiting m ms q refl has is
get-served most [] q who true none is =
    let long : length q.messages ≡ 0 = ap length none in
    record { holds = is.holds; within = is.within; gets = λ above. absurd (omega arith); puts = is.puts }
get-served most [] q who false none is = is

next-served : (most : ℕ) (q : Msgq) (who : Who) (op : MsgqOp) → IsServed most q → IsServed most (msgq_next q who op)
next-served most q who (ops.Put message waits) is =
    let after = put-served most q.gets.waiting q who message waits refl is in
    record { holds = after.holds; within = after.within; gets = after.gets; puts = after.puts }
next-served most q who (ops.PutFront message) is =
    let after = front-served most q.gets.waiting q message refl is in
    record { holds = after.holds; within = after.within; gets = after.gets; puts = after.puts }
next-served most q who (ops.PutEnd place) is = record { holds = is.holds; within = is.within; gets = is.gets; puts = is.puts }
next-served most q who (ops.PutQuit place) is =
    record {
      holds = is.holds;
      within = is.within;
      gets = is.gets;
      puts = λ room. without-nil (is_waiter who.number place) q.puts.waiting (is.puts room);
    }
next-served most q who (ops.Get waits) is =
    let after = get-served most q.messages q who waits refl is in
    record { holds = after.holds; within = after.within; gets = after.gets; puts = after.puts }
next-served most q who (ops.GetEnd place) is = record { holds = is.holds; within = is.within; gets = is.gets; puts = is.puts }
next-served most q who (ops.GetQuit place) is =
    record {
      holds = is.holds;
      within = is.within;
      gets = λ above. without-nil (is_waiter who.number place) q.gets.waiting
          (is.gets above);
      puts = is.puts;
    }
next-served most q who ops.Purge is =
    record { holds = is.holds; within = omega arith; gets = λ above. absurd (omega arith); puts = λ room. refl }
next-served most q who op is = record { holds = is.holds; within = is.within; gets = is.gets; puts = is.puts }

served-all : (most : ℕ) (q : Msgq) (h : MsgqHistory) → IsServed most q → IsServed most (msgq_after_all q h)
served-all most q [] is = is
served-all most q (e ∷ es) is = served-all most (msgq_next q e.who e.op) es (next-served most q e.who e.op is)

served-new : (most : ℕ) → IsServed most (new_msgq most)
served-new most = record { holds = refl; within = omega arith; gets = λ above. refl; puts = λ room. refl }

pub ring_within_max : OfEachMsgq RingWithinMax
ring_within_max most h legal = (served-all most (new_msgq most) h (served-new most)).within

pub none_waits_to_get : OfEachMsgq NoneWaitsToGetWhileMessages
none_waits_to_get most h legal above = (served-all most (new_msgq most) h (served-new most)).gets above

pub none_waits_to_put : OfEachMsgq NoneWaitsToPutWhileRoom
none_waits_to_put most h legal room = (served-all most (new_msgq most) h (served-new most)).puts room

-- An entry puts behind what it accepts, unless it goes in front, and takes off the front what leaves.

-- whose wait isn't decided moves nothing in
any-apart : (place : ℕ) (ds : List (Decision MsgqReply)) →
    count_by (λ (d : Decision MsgqReply). eqb d.place place) ds ≡ 0 →
    list_any (λ (d : Decision MsgqReply). eqb d.place place && is_done d.answer) ds ≡ false
any-apart place [] none = refl
any-apart place (d ∷ ds) none = by (eqb d.place place) refl (any-apart place ds) where
  cons : count_by (λ (c : Decision MsgqReply). eqb c.place place) (d ∷ ds) ≡ one_if (eqb d.place place) + count_by
      (λ (c : Decision MsgqReply). eqb c.place place) ds
  cons = sum_by-cons (λ (c : Decision MsgqReply). one_if (eqb c.place place)) d ds

  by : (b : Bool) → eqb d.place place ≡ b → (count_by (λ (c : Decision MsgqReply). eqb c.place place) ds ≡ 0 →
      list_any (λ (c : Decision MsgqReply). eqb c.place place && is_done c.answer) ds ≡ false) →
      ((b && is_done d.answer) || list_any (λ (c : Decision MsgqReply). eqb c.place place && is_done c.answer) ds) ≡ false
  by true is rest = let one : one_if (eqb d.place place) ≡ 1 = ap one_if is in absurd (omega (arith, cons, none))
  by false is rest = rest (omega (arith, cons, none))

moved-none : (after : Waits (List ℕ) MsgqReply) (ws : List (Waiter (List ℕ))) →
    All (λ (w : Waiter (List ℕ)). decided_at w.place after ≡ 0) ws → moved_by after ws ≡ []
moved-none after [] apart = refl
moved-none after (w ∷ ws) apart =
    let P : Waiter (List ℕ) → Type 0 = λ (w : Waiter (List ℕ)). decided_at w.place after ≡ 0 in
    let isnt = any-apart w.place after.decided (All-head P w ws apart) in
    ap (λ (b : Bool). cond b (w.payload ∷ []) [] ++ moved_by after ws) isnt ∙ moved-none after ws (All-tail P w ws apart)

done-last : (w : Waiter (List ℕ)) (ds : List (Decision MsgqReply)) →
    list_any (λ (d : Decision MsgqReply). eqb d.place w.place && is_done d.answer) (ds ++ decide Done w ∷ []) ≡ true
done-last w [] = ap (λ (b : Bool). (b && true) || false) (eqb-same w.place)
done-last w (d ∷ ds) =
    either (eqb d.place w.place && is_done d.answer)
    (list_any (λ (c : Decision MsgqReply). eqb c.place w.place && is_done c.answer) (ds ++ decide Done w ∷ []))
    (done-last w ds) where
      either : (a b : Bool) → b ≡ true → (a || b) ≡ true
      either true b is = refl
      either false b is = is

-- the waits of both lists are apart: none that goes on is decided
record AreApart (q : Msgq) : Type 0 where
  puts : All (λ (w : Waiter (List ℕ)). decided_at w.place q.puts ≡ 0) q.puts.waiting
  gets : All (λ (w : Waiter Unit). decided_at w.place q.gets ≡ 0) q.gets.waiting

put-passes : (most : ℕ) (waiting : List (Waiter Unit)) (q : Msgq) (who : Who) (message : List ℕ) (waits : Bool) →
    q.gets.waiting ≡ waiting → IsServed most q → AreApart q →
    q.messages ++ accepted q (put_to waiting q who message waits) (ops.Put message waits) (put_reply waiting q waits)
    ≡ leaving q (put_to waiting q who message waits) (ops.Put message waits) (put_reply waiting q waits)
    ++ (put_to waiting q who message waits).messages
put-passes most (w ∷ ws) q who message waits some is apart =
    let empty = nothing-there q.messages w ws q.gets.waiting some is.gets in
    let P : Waiter Unit → Type 0 = λ (v : Waiter Unit). decided_at v.place q.gets ≡ 0 in
    let none = All-head P w ws (subst (All P) some apart.gets) in
    let L : List (Waiter Unit) → Type 0 =
    λ l. handed_by message_of q.gets (decides_first (Bytes message) l q.gets.decided).decided ≡ message ∷ [] in
    let first : L q.gets.waiting = subst L (sym some) (handed-first message_of q.gets w (Bytes message) none) in
    ap (λ (ms : List (List ℕ)). ms ++ message ∷ []) empty
    ∙ sym (ap (λ (ms : List (List ℕ)). ms ++ q.messages) first ∙ ap (λ (ms : List (List ℕ)). message ∷ ms) empty)
put-passes most [] q who message waits none is apart = by (ltb (length q.messages) q.most) waits where
  by : (room waits : Bool) →
      q.messages ++ accepted q (cond room (appended q message) (put_at_full q who message waits)) (ops.Put message waits)
      (cond room Done (else_reply waits))
      ≡ leaving q (cond room (appended q message) (put_at_full q who message waits)) (ops.Put message waits)
      (cond room Done (else_reply waits))
      ++ (cond room (appended q message) (put_at_full q who message waits)).messages
  by true waits = sym (ap (λ (ms : List (List ℕ)). ms ++ (q.messages ++ message ∷ [])) (handed-none message_of q.gets))
  by false true = append-nil q.messages ∙ sym (ap (λ (ms : List (List ℕ)). ms ++ q.messages) (handed-none message_of q.gets))
  by false false = append-nil q.messages ∙ sym (ap (λ (ms : List (List ℕ)). ms ++ q.messages) (handed-none message_of q.gets))

-- a put in front does the same where a get waits
front-passes : (most : ℕ) (waiting : List (Waiter Unit)) (q : Msgq) (who : Who) (message : List ℕ) → q.gets.waiting ≡ waiting →
    IsServed most q → AreApart q → (is_done (put_reply waiting q false) && eqb (length waiting) 0) ≡ false →
    q.messages ++ accepted q (put_front_to waiting q message) (ops.PutFront message) (put_reply waiting q false)
    ≡ leaving q (put_front_to waiting q message) (ops.PutFront message) (put_reply waiting q false)
    ++ (put_front_to waiting q message).messages
front-passes most (w ∷ ws) q who message some is apart behind = put-passes most (w ∷ ws) q who message false some is apart
front-passes most [] q who message none is apart behind = by (ltb (length q.messages) q.most) behind where
  by : (room : Bool) → (is_done (cond room Done NoMsg) && true) ≡ false →
      q.messages ++ accepted q (cond room (prepended q message) q) (ops.PutFront message) (cond room Done NoMsg)
      ≡ leaving q (cond room (prepended q message) q) (ops.PutFront message) (cond room Done NoMsg)
      ++ (cond room (prepended q message) q).messages
  by true isnt = absurd (cc)
  by false isnt = append-nil q.messages ∙ sym (ap (λ (ms : List (List ℕ)). ms ++ q.messages) (handed-none message_of q.gets))

moved-passes : (waiting : List (Waiter (List ℕ))) (ms : List (List ℕ)) (q : Msgq) → q.puts.waiting ≡ waiting →
    AreApart (moved_in waiting (record q { messages = ms })) →
    ms ++ moved_by (moved_in waiting (record q { messages = ms })).puts waiting
    ≡ (moved_in waiting (record q { messages = ms })).messages
moved-passes [] ms q none apart = append-nil ms
moved-passes (w ∷ ws) ms q some apart =
    let after : Waits (List ℕ) MsgqReply = (moved_in (w ∷ ws) (record q { messages = ms })).puts in
    let same : after ≡ decides_first Done (w ∷ ws) q.puts.decided =
    ap (λ (l : List (Waiter (List ℕ))). decides_first Done l q.puts.decided) some in
    let P : Waits (List ℕ) MsgqReply → Type 0 = λ a. All (λ (v : Waiter (List ℕ)). decided_at v.place a ≡ 0) a.waiting in
    let rest = moved-none (decides_first Done (w ∷ ws) q.puts.decided) ws (subst P same apart.puts) in
    let moved : moved_by (decides_first Done (w ∷ ws) q.puts.decided) (w ∷ ws) ≡ w.payload ∷ [] =
    ap (λ (b : Bool). cond b (w.payload ∷ []) [] ++ moved_by (decides_first Done (w ∷ ws) q.puts.decided) ws)
    (done-last w q.puts.decided) ∙ ap (λ (l : List (List ℕ)). w.payload ∷ l) rest in
    ap (λ (l : List (List ℕ)). ms ++ l) (ap (λ (a : Waits (List ℕ) MsgqReply). moved_by a (w ∷ ws)) same ∙ moved)

get-passes : (messages : List (List ℕ)) (q : Msgq) (who : Who) (waits : Bool) → q.messages ≡ messages → AreApart q →
    AreApart (get_from messages q who waits) →
    messages ++ moved_by (get_from messages q who waits).puts q.puts.waiting ≡ message_of (get_reply messages waits)
    ++ (get_from messages q who waits).messages
get-passes (m ∷ ms) q who waits has apart next = ap (λ (l : List (List ℕ)). m ∷ l) (moved-passes q.puts.waiting ms q refl next)
get-passes [] q who true none apart next = moved-none q.puts q.puts.waiting apart.puts ∙ sym none
get-passes [] q who false none apart next = moved-none q.puts q.puts.waiting apart.puts ∙ sym none

next-passes : (most : ℕ) (q : Msgq) (who : Who) (op : MsgqOp) (reply : MsgqReply) → IsServed most q → AreApart q →
    AreApart (msgq_next q who op) → msgq_reply q who op ≡ Some reply → goes_in_front q op reply ≡ false →
    q.messages ++ accepted q (msgq_next q who op) op reply ≡ leaving q (msgq_next q who op) op reply
    ++ (msgq_next q who op).messages
next-passes most q who (ops.Put message waits) reply is apart next told behind =
    subst (λ (r : MsgqReply). q.messages ++ accepted q (msgq_next q who (ops.Put message waits)) (ops.Put message waits) r
    ≡ leaving q (msgq_next q who (ops.Put message waits)) (ops.Put message waits) r
    ++ (msgq_next q who (ops.Put message waits)).messages)
    (same_Some (put_reply q.gets.waiting q waits) reply told) (put-passes most q.gets.waiting q who message waits refl is apart)
next-passes most q who (ops.PutFront message) reply is apart next told behind =
    let same = same_Some (put_reply q.gets.waiting q false) reply told in
    subst (λ (r : MsgqReply). q.messages ++ accepted q (msgq_next q who (ops.PutFront message)) (ops.PutFront message) r
    ≡ leaving q (msgq_next q who (ops.PutFront message)) (ops.PutFront message) r
    ++ (msgq_next q who (ops.PutFront message)).messages)
    same
    (front-passes most q.gets.waiting q who message refl is apart
    (subst (λ (r : MsgqReply). (is_done r && eqb (length q.gets.waiting) 0) ≡ false) (sym same) behind))
next-passes most q who (ops.Get waits) reply is apart next told behind =
    subst (λ (r : MsgqReply). q.messages ++ moved_by (msgq_next q who (ops.Get waits)).puts q.puts.waiting
    ≡ message_of r ++ (msgq_next q who (ops.Get waits)).messages)
    (same_Some (get_reply q.messages waits) reply told)
    (get-passes q.messages q who waits refl apart (record { puts = next.puts; gets = next.gets }))
next-passes most q who ops.Purge reply is apart next told behind = refl
next-passes most q who op reply is apart next told behind = append-nil q.messages

neither-of : (a b : Bool) → (a || b) ≡ false → (a ≡ false) × (b ≡ false)
neither-of true b is = absurd (cc)
neither-of false b is = (refl, is)

passes-all : (most : ℕ) (q : Msgq) (h : MsgqHistory) → IsServed most q →
    ((front rest : MsgqHistory) → h ≡ front ++ rest → AreApart (msgq_after_all q front)) → Replays msgq_machine q h →
    some_in_front q h ≡ false → q.messages ++ all_accepted q h ≡ all_leaving q h ++ (msgq_after_all q h).messages
passes-all most q [] is apart replays behind = append-nil q.messages
passes-all most q (e ∷ es) is apart replays behind =
    let next = msgq_next q e.who e.op in
    let neither = neither-of (goes_in_front q e.op e.reply) (some_in_front next es) behind in
    let here = next-passes most q e.who e.op e.reply is (apart [] (e ∷ es) refl) (apart (e ∷ []) es refl) replays.0 neither.0 in
    let rest = passes-all most next es (next-served most q e.who e.op is)
    (λ front back parts. apart (e ∷ front) back (ap (λ (l : MsgqHistory). e ∷ l) parts)) replays.1 neither.1 in
    let taken = accepted q next e.op e.reply in
    let gone = leaving q next e.op e.reply in
    sym (append_assoc q.messages taken (all_accepted next es)) ∙ ap (λ (ms : List (List ℕ)). ms ++ all_accepted next es) here
    ∙ append_assoc gone next.messages (all_accepted next es) ∙ ap (λ (ms : List (List ℕ)). gone ++ ms) rest
    ∙ sym (append_assoc gone (all_leaving next es) (msgq_after_all next es).messages)

apart-all : (most : ℕ) (h : MsgqHistory) → Replays msgq_machine (new_msgq most) h → AreApart (msgq_after_all (new_msgq most) h)
apart-all most h replays = record {
  puts = waits-apart msgq_machine putters has_putters (new_msgq most) h (first_putters most) replays;
  gets = waits-apart msgq_machine getters has_getters (new_msgq most) h (first_getters most) replays;
}

-- and so they are at each front of what comes after a front
apart-rest : (most : ℕ) (front part : MsgqHistory) → Replays msgq_machine (new_msgq most) (front ++ part) →
    (f r : MsgqHistory) → part ≡ f ++ r → AreApart (msgq_after_all (msgq_after_all (new_msgq most) front) f)
apart-rest most front part replays f r split =
    let new = new_msgq most in
    let all = subst (Replays msgq_machine new) (ap (λ (l : MsgqHistory). front ++ l) split ∙ sym (append_assoc front f r)) replays in
    subst AreApart (state_after-append msgq_machine new front f)
    (apart-all most (front ++ f) (Replays-front msgq_machine new (front ++ f) r all))

pub first_in_first_out : OfEachMsgq FirstInFirstOut
first_in_first_out most h legal front part parts behind =
    let new = new_msgq most in
    let q = msgq_after_all new front in
    let both = subst (Replays msgq_machine new) parts legal.0 in
    let whole = ap (msgq_after_all new) parts ∙ state_after-append msgq_machine new front part in
    passes-all most q part (served-all most new front (served-new most)) (apart-rest most front part both)
    (Replays-rest msgq_machine new front part both) behind
    ∙ ap (λ (r : Msgq). all_leaving q part ++ r.messages) (sym whole)

-- Each message is counted as often before an entry as after it, be it put behind or in front.

times-append : (message : List ℕ) (xs ys : List (List ℕ)) → times message (xs ++ ys) ≡ times message xs + times message ys
times-append message xs ys = sum_by-append (λ (m : List ℕ). one_if (bytes_eq message m)) xs ys

put-anywhere : (message put : List ℕ) (ms : List (List ℕ)) → times message (ms ++ put ∷ []) ≡ times message (put ∷ ms)
put-anywhere message put ms =
    let behind = times-append message ms (put ∷ []) in
    let before : times message (put ∷ ms) ≡ times message (put ∷ []) + times message ms = times-append message (put ∷ []) ms in
    omega (arith, behind, before)

front-counts : (message : List ℕ) (waiting : List (Waiter Unit)) (q : Msgq) (put : List ℕ) →
    (is_done (put_reply waiting q false) && eqb (length waiting) 0) ≡ true →
    times message (q.messages ++ accepted q (put_front_to waiting q put) (ops.PutFront put) (put_reply waiting q false))
    ≡ times message (leaving q (put_front_to waiting q put) (ops.PutFront put) (put_reply waiting q false)
    ++ (put_front_to waiting q put).messages)
front-counts message (w ∷ ws) q put first = absurd (let none = eqb-true (length (w ∷ ws)) 0 first in omega arith)
front-counts message [] q put first = by (ltb (length q.messages) q.most) first where
  by : (room : Bool) → (is_done (cond room Done NoMsg) && true) ≡ true →
      times message (q.messages ++ accepted q (cond room (prepended q put) q) (ops.PutFront put) (cond room Done NoMsg))
      ≡ times message (leaving q (cond room (prepended q put) q) (ops.PutFront put) (cond room Done NoMsg)
      ++ (cond room (prepended q put) q).messages)
  by true is =
      put-anywhere message put q.messages
      ∙ sym (ap (λ (ms : List (List ℕ)). times message (ms ++ put ∷ q.messages)) (handed-none message_of q.gets))
  by false is = absurd (cc)

first-counts : (message : List ℕ) (q : Msgq) (who : Who) (op : MsgqOp) (reply : MsgqReply) → msgq_reply q who op ≡ Some reply →
    goes_in_front q op reply ≡ true →
    times message (q.messages ++ accepted q (msgq_next q who op) op reply)
    ≡ times message (leaving q (msgq_next q who op) op reply ++ (msgq_next q who op).messages)
first-counts message q who (ops.PutFront put) reply told first =
    let same = same_Some (put_reply q.gets.waiting q false) reply told in
    subst (λ (r : MsgqReply).
    times message (q.messages ++ accepted q (msgq_next q who (ops.PutFront put)) (ops.PutFront put) r)
    ≡ times message (leaving q (msgq_next q who (ops.PutFront put)) (ops.PutFront put) r
    ++ (msgq_next q who (ops.PutFront put)).messages))
    same
    (front-counts message q.gets.waiting q put
    (subst (λ (r : MsgqReply). (is_done r && eqb (length q.gets.waiting) 0) ≡ true) (sym same) first))
first-counts message q who op reply told first = absurd (cc)

next-counts : (message : List ℕ) (most : ℕ) (q : Msgq) (who : Who) (op : MsgqOp) (reply : MsgqReply) → IsServed most q →
    AreApart q → AreApart (msgq_next q who op) → msgq_reply q who op ≡ Some reply →
    times message (q.messages ++ accepted q (msgq_next q who op) op reply)
    ≡ times message (leaving q (msgq_next q who op) op reply ++ (msgq_next q who op).messages)
next-counts message most q who op reply is apart next told = by (goes_in_front q op reply) refl where
  by : (b : Bool) → goes_in_front q op reply ≡ b →
      times message (q.messages ++ accepted q (msgq_next q who op) op reply)
      ≡ times message (leaving q (msgq_next q who op) op reply ++ (msgq_next q who op).messages)
  by true first = first-counts message q who op reply told first
  by false behind = ap (times message) (next-passes most q who op reply is apart next told behind)

-- what is counted as often along two parts is counted as often along both
times-along : (message : List ℕ) (there taken later gone next left last : List (List ℕ)) →
    times message (there ++ taken) ≡ times message (gone ++ next) →
    times message (next ++ later) ≡ times message (left ++ last) →
    times message (there ++ (taken ++ later)) ≡ times message ((gone ++ left) ++ last)
times-along message there taken later gone next left last here rest =
    let a = times-append message there (taken ++ later) in
    let b = times-append message taken later in
    let c = times-append message there taken in
    let d = times-append message gone next in
    let e = times-append message next later in
    let f = times-append message left last in
    let g = times-append message (gone ++ left) last in
    let i = times-append message gone left in
    omega arith

counts-all : (message : List ℕ) (most : ℕ) (q : Msgq) (h : MsgqHistory) → IsServed most q →
    ((front rest : MsgqHistory) → h ≡ front ++ rest → AreApart (msgq_after_all q front)) → Replays msgq_machine q h →
    times message (q.messages ++ all_accepted q h) ≡ times message (all_leaving q h ++ (msgq_after_all q h).messages)
counts-all message most q [] is apart replays = ap (times message) (append-nil q.messages)
counts-all message most q (e ∷ es) is apart replays =
    let next = msgq_next q e.who e.op in
    times-along message q.messages (accepted q next e.op e.reply) (all_accepted next es)
    (leaving q next e.op e.reply) next.messages (all_leaving next es) (msgq_after_all next es).messages
    (next-counts message most q e.who e.op e.reply is (apart [] (e ∷ es) refl) (apart (e ∷ []) es refl) replays.0)
    (counts-all message most next es (next-served most q e.who e.op is)
    (λ front back parts. apart (e ∷ front) back (ap (λ (l : MsgqHistory). e ∷ l) parts)) replays.1)

pub nothing_is_lost : OfEachMsgq NothingIsLost
nothing_is_lost most h legal front part message parts =
    let new = new_msgq most in
    let q = msgq_after_all new front in
    let both = subst (Replays msgq_machine new) parts legal.0 in
    let whole = ap (msgq_after_all new) parts ∙ state_after-append msgq_machine new front part in
    counts-all message most q part (served-all most new front (served-new most)) (apart-rest most front part both)
    (Replays-rest msgq_machine new front part both)
    ∙ ap (λ (r : Msgq). times message (all_leaving q part ++ r.messages)) (sym whole)

-- What one entry is answered, and what it leaves.

pub replied : (q : Msgq) (h front : MsgqHistory) (e : Entry MsgqOp MsgqReply) (op : MsgqOp) → Replays msgq_machine q h →
    IsEntry h front e → e.op ≡ op → msgq_reply (msgq_after_all q front) e.who op ≡ Some e.reply
replied q h front e op replays at same =
    subst (λ (o : MsgqOp). msgq_reply (msgq_after_all q front) e.who o ≡ Some e.reply) same
    ((Replays-rest msgq_machine q front (e ∷ at.rest) (subst (Replays msgq_machine q) at.whole replays)).0)

front-first : (waiting : List (Waiter Unit)) (q : Msgq) (message : List ℕ) →
    (is_done (put_reply waiting q false) && eqb (length waiting) 0) ≡ true →
    (put_front_to waiting q message).messages ≡ message ∷ q.messages
front-first (w ∷ ws) q message first = absurd (let none = eqb-true (length (w ∷ ws)) 0 first in omega arith)
front-first [] q message first = by (ltb (length q.messages) q.most) first where
  by : (room : Bool) → (is_done (cond room Done NoMsg) && true) ≡ true →
      (cond room (prepended q message) q).messages ≡ message ∷ q.messages
  by true is = refl
  by false is = absurd (cc)

pub put_front_goes_first : OfEachMsgq PutFrontGoesFirst
put_front_goes_first most h legal front e message at op first =
    let new = new_msgq most in
    let q = msgq_after_all new front in
    let after = state_after-snoc msgq_machine new front e ∙ ap (msgq_next q e.who) op in
    let told = same_Some (put_reply q.gets.waiting q false) e.reply (replied new h front e (ops.PutFront message) legal.0 at op) in
    let alone = subst (λ (o : MsgqOp). goes_in_front q o e.reply ≡ true) op first in
    ap (λ (r : Msgq). r.messages) after
    ∙ front-first q.gets.waiting q message
    (subst (λ (r : MsgqReply). (is_done r && eqb (length q.gets.waiting) 0) ≡ true) (sym told) alone)

put-told : (most : ℕ) (waiting : List (Waiter Unit)) (q : Msgq) (waits : Bool) → q.gets.waiting ≡ waiting →
    q.most ≡ most → PutIsTold most q waits (put_reply waiting q waits)
put-told most (w ∷ ws) q waits some holds =
    let none = some-waits w ws q.gets.waiting some in
    record {
      handed = λ gets. refl;
      room = λ below. refl;
      wait = λ nobody full is. absurd (none nobody);
      full = λ nobody full is. absurd (none nobody);
    }
put-told most [] q waits nobody holds = by (ltb (length q.messages) q.most) refl waits where
  by : (room : Bool) → ltb (length q.messages) q.most ≡ room → (waits : Bool) →
      PutIsTold most q waits (cond room Done (else_reply waits))
  by true below waits =
      let less = ltb-true (length q.messages) q.most below in
      record {
        handed = λ gets. refl;
        room = λ is. refl;
        wait = λ none full is. absurd (omega arith);
        full = λ none full is. absurd (omega arith);
      }
  by false above true =
      let more = not-below (length q.messages) q.most above in
      record {
        handed = λ gets. absurd (gets nobody);
        room = λ is. absurd (omega arith);
        wait = λ none full is. refl;
        full = λ none full is. absurd (cc);
      }
  by false above false =
      let more = not-below (length q.messages) q.most above in
      record {
        handed = λ gets. absurd (gets nobody);
        room = λ is. absurd (omega arith);
        wait = λ none full is. absurd (cc);
        full = λ none full is. refl;
      }

pub put_waits_only_at_full : OfEachMsgq PutWaitsOnlyAtFull
put_waits_only_at_full most h legal front e message waits at op =
    let q = msgq_after_all (new_msgq most) front in
    let holds = (served-all most (new_msgq most) front (served-new most)).holds in
    subst (PutIsTold most q waits)
    (same_Some (put_reply q.gets.waiting q waits) e.reply
    (replied (new_msgq most) h front e (ops.Put message waits) legal.0 at op))
    (put-told most q.gets.waiting q waits refl holds)

pub put_front_is_told : OfEachMsgq PutFrontIsTold
put_front_is_told most h legal front e message at op =
    let q = msgq_after_all (new_msgq most) front in
    let holds = (served-all most (new_msgq most) front (served-new most)).holds in
    subst (PutIsTold most q false)
    (same_Some (put_reply q.gets.waiting q false) e.reply
    (replied (new_msgq most) h front e (ops.PutFront message) legal.0 at op))
    (put-told most q.gets.waiting q false refl holds)

get-told : (messages : List (List ℕ)) (q : Msgq) (waits : Bool) → q.messages ≡ messages →
    GetIsTold q waits (get_reply messages waits)
get-told (m ∷ ms) q waits has = record {
  got = λ n ns is. ap Bytes (heads m n ms ns (sym has ∙ is));
  wait = λ none is. absurd (let both = sym has ∙ none in cc);
  empty = λ none is. absurd (let both = sym has ∙ none in cc);
}
get-told [] q true none = record {
  got = λ n ns is. absurd (let both = sym none ∙ is in cc);
  wait = λ empty is. refl;
  empty = λ empty is. absurd (cc);
}
get-told [] q false none = record {
  got = λ n ns is. absurd (let both = sym none ∙ is in cc);
  wait = λ empty is. absurd (cc);
  empty = λ empty is. refl;
}

pub get_waits_only_at_empty : OfEachMsgq GetWaitsOnlyAtEmpty
get_waits_only_at_empty most h legal front e waits at op =
    let q = msgq_after_all (new_msgq most) front in
    subst (GetIsTold q waits)
    (same_Some (get_reply q.messages waits) e.reply (replied (new_msgq most) h front e (ops.Get waits) legal.0 at op))
    (get-told q.messages q waits refl)

peek-told : (q : Msgq) (index : ℕ) → PeekIsTold q index (peek_reply q index)
peek-told q index = record {
  there = λ m is. ap (λ (o : Option (List ℕ)). option_map_or Bytes o NoMsg) is;
  past = λ long. ap (λ (o : Option (List ℕ)). option_map_or Bytes o NoMsg) (slice_get_past q.messages index long);
}

peeked : (most : ℕ) (h front : MsgqHistory) (e : Entry MsgqOp MsgqReply) (index : ℕ) →
    msgq_reply (msgq_after_all (new_msgq most) front) e.who (ops.PeekAt index) ≡ Some e.reply →
    PeekIsTold (msgq_after_all (new_msgq most) front) index e.reply
peeked most h front e index told =
    let q = msgq_after_all (new_msgq most) front in
    subst (PeekIsTold q index) (same_Some (peek_reply q index) e.reply told) (peek-told q index)

pub looks_tell_the_ring : OfEachMsgq LooksTellTheRing
looks_tell_the_ring most h legal = record {
  peek = λ front e at op. peeked most h front e 0 (replied (new_msgq most) h front e ops.Peek legal.0 at op);
  peek_at = λ front e index at op.
      peeked most h front e index (replied (new_msgq most) h front e (ops.PeekAt index) legal.0 at op);
  used = λ front e at op.
      sym (same_Some (Number (length (msgq_after_all (new_msgq most) front).messages)) e.reply
      (replied (new_msgq most) h front e ops.Used legal.0 at op));
  free = λ front e at op.
      let q = msgq_after_all (new_msgq most) front in
      let told = same_Some (Number (q.most - length q.messages)) e.reply
      (replied (new_msgq most) h front e ops.Free legal.0 at op) in
      sym told ∙ ap (λ (n : ℕ). Number (n - length q.messages)) (served-all most (new_msgq most) front (served-new most)).holds;
}

-- What decides a wait.

taken-so : (messages : List (List ℕ)) (answer : MsgqReply) (for : List ℕ) → said (get_decides messages) for ≡ Some answer →
    answer ≡ Done
taken-so (m ∷ ms) answer for is = sym (same_Some Done answer is)
taken-so [] answer for is = absurd (cc)

put-decided : (q : Msgq) (op own : MsgqOp) (reply answer : MsgqReply) (for : List ℕ) → op ≡ own →
    said (put_decides q own reply) for ≡ Some answer →
    ((waits : Bool) × (op ≡ ops.Get waits) × (answer ≡ Done)) ⊎ ((op ≡ ops.Purge) × (answer ≡ NoMsg))
put-decided q op (ops.Get waits) reply answer for same is = inl (waits, same, taken-so q.messages answer for is)
put-decided q op ops.Purge reply answer for same is = inr (same, sym (same_Some NoMsg answer is))
put-decided q op own reply answer for same is = absurd (cc)

pub put_decided_by_get_or_purge : OfEachMsgq PutDecidedByGetOrPurge
put_decided_by_get_or_purge most h legal front e d at decides =
    let new = new_msgq most in
    let whose = decides-said msgq_machine putters has_putters new h legal.0 front e d at decides in
    put-decided (msgq_after_all new front) e.op e.op e.reply d.answer whose.0.payload refl whose.3

get-decided : (q : Msgq) (op own : MsgqOp) (reply said_so answer : MsgqReply) (for : Unit {0}) → op ≡ own →
    reply ≡ said_so → said (take_decides q own said_so) for ≡ Some answer →
    (message : List ℕ) × (message_put op ≡ Some message) × (reply ≡ Done) × (answer ≡ Bytes message)
get-decided q op (ops.Put message waits) reply Done answer for same told is =
    (message, ap message_put same, told, sym (same_Some (Bytes message) answer is))
get-decided q op (ops.PutFront message) reply Done answer for same told is =
    (message, ap message_put same, told, sym (same_Some (Bytes message) answer is))
get-decided q op own reply said_so answer for same told is = absurd (cc)

pub get_decided_by_its_put : OfEachMsgq GetDecidedByItsPut
get_decided_by_its_put most h legal front e d at decides =
    let new = new_msgq most in
    let whose = decides-said msgq_machine getters has_getters new h legal.0 front e d at decides in
    get-decided (msgq_after_all new front) e.op e.op e.reply e.reply d.answer whose.0.payload refl refl whose.3

pub may_always : (q : Msgq) (h : MsgqHistory) → MayAlways q h
may_always q h who (ops.Put message waits) never = (_, refl)
may_always q h who (ops.PutFront message) never = (_, refl)
may_always q h who (ops.Get waits) never = (_, refl)
may_always q h who ops.Peek never = (_, refl)
may_always q h who (ops.PeekAt index) never = (_, refl)
may_always q h who ops.Purge never = (_, refl)
may_always q h who ops.Used never = (_, refl)
may_always q h who ops.Free never = (_, refl)
may_always q h who (ops.PollArm waits) never = (_, refl)
may_always q h who op never = absurd (cc)

pub purge_is_done : OfEachMsgq PurgeIsDone
purge_is_done most h legal front e at op =
    sym (same_Some Done e.reply (replied (new_msgq most) h front e ops.Purge legal.0 at op))

pub purge_ends_every_put : (q : Msgq) (h : MsgqHistory) → PurgeEndsEveryPut q h
purge_ends_every_put q h front e at op =
    let after = state_after-snoc msgq_machine q front e ∙ ap (msgq_next (msgq_after_all q front) e.who) op in
    (ap (λ (r : Msgq). r.messages) after, ap (λ (r : Msgq). r.puts.waiting) after)
