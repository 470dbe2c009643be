-- The replies of a message queue are of their operations.
use Rattle.std.proofs.Common.{◌≡◌, ℕ, ◌-◌, Bool, true, false, ◌⊎◌, inl, inr, cond, nat_lt, Option, Some, None, List, [], ◌∷◌, ◌++◌, length, All, refl, sym, subst}
use Rattle.std.specs.List.{AllByRecursion, slice_get}
use Rattle.std.specs.Option.{option_map_or}
use Rattle.std.proofs.lemmas.List.Elements.{All-nil, All-head, All-tail, All-cons, All-push}
use Rattle.std.proofs.lemmas.Option.{same_Some}
use Rattle.zk_base.proofs.Lists.{All-at}
use Rattle.zk_base.proofs.WaitsHold.{All-put_before, All-without}
use Rattle.zk_base.specs.declared.ids.Who.{Who}
use Rattle.zk_base.specs.declared.ids.Entry.{Entry}
use Rattle.zk_base.specs.declared.waits.Waiter.{Waiter}
use Rattle.zk_base.specs.declared.waits.Decision.{Decision}
use Rattle.zk_base.specs.Legal.{Replays}
use Rattle.zk_base.specs.Waits.{Waits, is_served_after, is_waiter, ended, quitted, first_decided, decides_first}
use Rattle.zk_line.specs.declared.types.Decl.{Decl}
use Rattle.zk_model_wait.specs.declared.msgq.MsgqOp.{MsgqOp}
use Rattle.zk_model_wait.specs.declared.msgq.MsgqOp.TheVariants as ops
use Rattle.zk_model_wait.specs.declared.msgq.MsgqReply.{MsgqReply}
use Rattle.zk_model_wait.specs.declared.msgq.MsgqReply.TheVariants.{Done, NoMsg, Wait, Again, Bytes, Number, Noted, Plain}
use Rattle.zk_model_wait.specs.Msgq.{Msgq, new_msgq, else_reply, put_reply, get_reply, peek_reply, poll_reply, msgq_reply, put_at_full, appended, put_to, prepended, put_front_to, moved_in, get_from, arm_at, msgq_changed, msgq_next, msgq_machine}
use Rattle.zk_blocks.specs.Choices.{IsIn}
use Rattle.zk_trace.specs.Fields.{IsMessage}
use Rattle.zk_trace.specs.Msgq.{said_of, reply_parts}
use Rattle.zk_trace.specs.MsgqRead.{IsBytes, FitsOp, AnswersTo}
use Rattle.zk_trace.specs.Sized.{AreSized}
use Rattle.zk_trace.proofs.DecidedWaits.{DecidedBy, none-decided, first_decided-by, all_decided-by, ended-by, quitted-by, decision-by, quit-by}
use Rattle.zk_trace.proofs.Kept.{answers-along}

module _ (decls : List Decl) where
  -- it is of its operation, if its numbers are within their types
  abbrev Says : MsgqOp → MsgqReply → Type 0
  Says op r = AreSized (reply_parts r) → AnswersTo decls (said_of op).0 r

  abbrev Put : MsgqReply → Type 0
  Put r = IsIn r (Done ∷ NoMsg ∷ [])

  abbrev Told : MsgqReply → Type 0
  Told r = IsIn r (Noted ∷ [])

  -- a waiting put has a message
  abbrev Holds : Waiter (List ℕ) → Type 0
  Holds w = IsMessage w.payload

  record Keeps (q : Msgq) : Type 0 where
    messages : All IsMessage q.messages
    held : All Holds q.puts.waiting
    puts : DecidedBy Put q.puts
    gets : DecidedBy IsBytes q.gets
    pollers : DecidedBy Told q.pollers

  -- A reply.

  -- a put is done, or told what one is told that finds no room
  put-told : (waiting : List (Waiter Unit)) (q : Msgq) (waits : Bool) →
      IsIn (put_reply waiting q waits) (Done ∷ else_reply waits ∷ [])
  put-told (w ∷ ws) q waits = inl refl
  put-told [] q waits = by (nat_lt (length q.messages) q.most) where
    by : (b : Bool) → IsIn (cond b Done (else_reply waits)) (Done ∷ else_reply waits ∷ [])
    by true = inl refl
    by false = inr (inl refl)

  put-says : (waits : Bool) (r : MsgqReply) → IsIn r (Done ∷ else_reply waits ∷ []) → IsIn r (Done ∷ NoMsg ∷ Wait ∷ [])
  put-says waits r (inl is) = inl is
  put-says true r (inr (inl is)) = inr (inr (inl is))
  put-says false r (inr (inl is)) = inr (inl is)
  put-says waits r (inr (inr none)) = absurd none

  get-says : (messages : List (List ℕ)) (waits : Bool) → All IsMessage messages → Says (ops.Get waits) (get_reply messages waits)
  get-says (m ∷ ms) waits all sized = inr (All-head IsMessage m ms all)
  get-says [] true all sized = inl (inr (inl refl))
  get-says [] false all sized = inl (inl refl)

  peek-says : (found : Option (List ℕ)) → ((m : List ℕ) → found ≡ Some m → IsMessage m) → IsIn (option_map_or Bytes found NoMsg) (NoMsg ∷ []) ⊎ IsBytes (option_map_or Bytes found NoMsg)
  peek-says None each = inl (inl refl)
  peek-says (Some m) each = inr (each m refl)

  poll-says : (messages : List (List ℕ)) (waits : Bool) → Says (ops.PollArm waits) (poll_reply messages waits)
  poll-says (m ∷ ms) waits sized = inl (inl refl)
  poll-says [] true sized = inl (inr (inr (inl refl)))
  poll-says [] false sized = inl (inr (inl refl))

  told-too : (r : MsgqReply) → Told r → IsIn r (Noted ∷ Plain ∷ [])
  told-too r (inl is) = inl is
  told-too r (inr none) = absurd none

  put-too : (r : MsgqReply) → Put r → IsIn r (Done ∷ NoMsg ∷ Again ∷ [])
  put-too r (inl is) = inl is
  put-too r (inr (inl is)) = inr (inl is)
  put-too r (inr (inr none)) = absurd none

  -- a message, or that the wait was given up
  abbrev Given : MsgqReply → Type 0
  Given r = IsIn r (Again ∷ []) ⊎ IsBytes r

  says : (q : Msgq) (who : Who) (op : MsgqOp) (r : MsgqReply) → Keeps q → FitsOp decls op → msgq_reply q who op ≡ Some r → Says op r
  says q who (ops.Put message waits) r kept fits is =
      let told = same_Some (put_reply q.gets.waiting q waits) r is in
      λ sized. inl (put-says waits r (subst (λ r. IsIn r (Done ∷ else_reply waits ∷ [])) told (put-told q.gets.waiting q waits)))
  says q who (ops.PutFront message) r kept fits is =
      λ sized. inl (subst Put (same_Some (put_reply q.gets.waiting q false) r is) (put-told q.gets.waiting q false))
  says q who (ops.PutEnd place) r kept fits is = λ sized. inl (decision-by Put q.puts who.number place r kept.puts is)
  says q who (ops.PutQuit place) r kept fits is =
      λ sized. inl (quit-by Put (λ r. IsIn r (Done ∷ NoMsg ∷ Again ∷ [])) put-too Again q.puts who.number place r (inr (inr (inl refl))) kept.puts is)
  says q who (ops.Get waits) r kept fits is = subst (Says (ops.Get waits)) (same_Some (get_reply q.messages waits) r is) (get-says q.messages waits kept.messages)
  says q who (ops.GetEnd place) r kept fits is = λ sized. inr (decision-by IsBytes q.gets who.number place r kept.gets is)
  says q who (ops.GetQuit place) r kept fits is = λ sized. quit-by IsBytes Given (λ r is. inr is) Again q.gets who.number place r (inl (inl refl)) kept.gets is
  says q who ops.Peek r kept fits is =
      subst (Says ops.Peek) (same_Some (peek_reply q 0) r is) (λ sized. peek-says (slice_get q.messages 0) (λ m there. All-at IsMessage q.messages 0 m kept.messages there))
  says q who (ops.PeekAt index) r kept fits is =
      subst (Says (ops.PeekAt index)) (same_Some (peek_reply q index) r is) (λ sized. peek-says (slice_get q.messages index) (λ m there. All-at IsMessage q.messages index m kept.messages there))
  says q who ops.Purge r kept fits is = λ sized. inl (inl (sym (same_Some Done r is)))
  says q who ops.Used r kept fits is = subst (Says ops.Used) (same_Some (Number (length q.messages)) r is) (λ sized. inr sized.0)
  says q who ops.Free r kept fits is = subst (Says ops.Free) (same_Some (Number (q.most - length q.messages)) r is) (λ sized. inr sized.0)
  says q who (ops.PollArm waits) r kept fits is = subst (Says (ops.PollArm waits)) (same_Some (poll_reply q.messages waits) r is) (poll-says q.messages waits)
  says q who (ops.PollEnd place) r kept fits is = λ sized. inl (decision-by Told q.pollers who.number place r kept.pollers is)
  says q who (ops.PollQuit place) r kept fits is =
      λ sized. inl (quit-by Told (λ r. IsIn r (Noted ∷ Plain ∷ [])) told-too Plain q.pollers who.number place r (inr (inl refl)) kept.pollers is)

  -- The state.

  abbrev still : (q : Msgq) → Keeps q → (pollers : Waits Unit MsgqReply) → DecidedBy Told pollers → Keeps (record q { pollers = pollers })
  still q kept pollers told = record { messages = kept.messages; held = kept.held; puts = kept.puts; gets = kept.gets; pollers = told }

  full-keeps : (q : Msgq) (who : Who) (message : List ℕ) (waits : Bool) → IsMessage message → Keeps q → Keeps (put_at_full q who message waits)
  full-keeps q who message true fits kept =
      let w : Waiter (List ℕ) = record { place = q.entries; who = who; payload = message } in
      record {
        messages = kept.messages;
        held = All-put_before Holds (is_served_after w) w q.puts.waiting fits kept.held;
        puts = kept.puts;
        gets = kept.gets;
        pollers = kept.pollers;
      }
  full-keeps q who message false fits kept = kept

  -- one message more, and a poller that is told
  more-keeps : (q : Msgq) (messages : List (List ℕ)) → All IsMessage messages → Keeps q →
      Keeps (record q { messages = messages; pollers = first_decided Noted q.pollers })
  more-keeps q messages all kept = record {
    messages = all;
    held = kept.held;
    puts = kept.puts;
    gets = kept.gets;
    pollers = first_decided-by Told Noted q.pollers (inl refl) kept.pollers;
  }

  -- a get that waited has the message
  handed-keeps : (q : Msgq) (message : List ℕ) → IsMessage message → Keeps q →
      Keeps (record q { gets = first_decided (Bytes message) q.gets })
  handed-keeps q message fits kept = record {
    messages = kept.messages;
    held = kept.held;
    puts = kept.puts;
    gets = first_decided-by IsBytes (Bytes message) q.gets fits kept.gets;
    pollers = kept.pollers;
  }

  put-keeps : (waiting : List (Waiter Unit)) (q : Msgq) (who : Who) (message : List ℕ) (waits : Bool) → IsMessage message → Keeps q → Keeps (put_to waiting q who message waits)
  put-keeps (w ∷ ws) q who message waits fits kept = handed-keeps q message fits kept
  put-keeps [] q who message waits fits kept = by (nat_lt (length q.messages) q.most) where
    by : (b : Bool) → Keeps (cond b (appended q message) (put_at_full q who message waits))
    by true = more-keeps q (q.messages ++ message ∷ []) (All-push IsMessage q.messages message kept.messages fits) kept
    by false = full-keeps q who message waits fits kept

  front-keeps : (waiting : List (Waiter Unit)) (q : Msgq) (message : List ℕ) → IsMessage message → Keeps q → Keeps (put_front_to waiting q message)
  front-keeps (w ∷ ws) q message fits kept = handed-keeps q message fits kept
  front-keeps [] q message fits kept = by (nat_lt (length q.messages) q.most) where
    by : (b : Bool) → Keeps (cond b (prepended q message) q)
    by true = more-keeps q (message ∷ q.messages) (All-cons IsMessage message q.messages fits kept.messages) kept
    by false = kept

  first-held : (answer : MsgqReply) (waiting : List (Waiter (List ℕ))) (decided : List (Decision MsgqReply)) → All Holds waiting → All Holds (decides_first answer waiting decided).waiting
  first-held answer [] decided all = all
  first-held answer (w ∷ ws) decided all = All-tail Holds w ws all

  moved-keeps : (waiting : List (Waiter (List ℕ))) (q : Msgq) → All Holds waiting → Keeps q → Keeps (moved_in waiting q)
  moved-keeps [] q all kept = kept
  moved-keeps (w ∷ ws) q all kept = record {
    messages = All-push IsMessage q.messages w.payload kept.messages (All-head Holds w ws all);
    held = first-held Done q.puts.waiting q.puts.decided kept.held;
    puts = first_decided-by Put Done q.puts (inl refl) kept.puts;
    gets = kept.gets;
    pollers = kept.pollers;
  }

  get-keeps : (messages : List (List ℕ)) (q : Msgq) (who : Who) (waits : Bool) → All IsMessage messages → Keeps q → Keeps (get_from messages q who waits)
  get-keeps (m ∷ ms) q who waits all kept =
      moved-keeps q.puts.waiting (record q { messages = ms }) kept.held
      (record { messages = All-tail IsMessage m ms all; held = kept.held; puts = kept.puts; gets = kept.gets; pollers = kept.pollers })
  get-keeps [] q who true all kept = record { messages = kept.messages; held = kept.held; puts = kept.puts; gets = kept.gets; pollers = kept.pollers }
  get-keeps [] q who false all kept = kept

  arm-keeps : (messages : List (List ℕ)) (q : Msgq) (who : Who) (waits : Bool) → Keeps q → DecidedBy Told (arm_at messages q who waits)
  arm-keeps (m ∷ ms) q who waits kept = kept.pollers
  arm-keeps [] q who true kept = kept.pollers
  arm-keeps [] q who false kept = kept.pollers

  changed-keeps : (q : Msgq) (who : Who) (op : MsgqOp) → Keeps q → FitsOp decls op → Keeps (msgq_changed q who op)
  changed-keeps q who (ops.Put message waits) kept fits = put-keeps q.gets.waiting q who message waits fits kept
  changed-keeps q who (ops.PutFront message) kept fits = front-keeps q.gets.waiting q message fits kept
  changed-keeps q who (ops.PutEnd place) kept fits =
      record { messages = kept.messages; held = kept.held; puts = ended-by Put q.puts who.number place kept.puts; gets = kept.gets; pollers = kept.pollers }
  changed-keeps q who (ops.PutQuit place) kept fits = record {
    messages = kept.messages;
    held = All-without Holds (is_waiter who.number place) q.puts.waiting kept.held;
    puts = quitted-by Put q.puts who.number place kept.puts;
    gets = kept.gets;
    pollers = kept.pollers;
  }
  changed-keeps q who (ops.Get waits) kept fits = get-keeps q.messages q who waits kept.messages kept
  changed-keeps q who (ops.GetEnd place) kept fits =
      record { messages = kept.messages; held = kept.held; puts = kept.puts; gets = ended-by IsBytes q.gets who.number place kept.gets; pollers = kept.pollers }
  changed-keeps q who (ops.GetQuit place) kept fits =
      record { messages = kept.messages; held = kept.held; puts = kept.puts; gets = quitted-by IsBytes q.gets who.number place kept.gets; pollers = kept.pollers }
  changed-keeps q who ops.Purge kept fits = record {
    messages = All-nil IsMessage;
    held = All-nil Holds;
    puts = all_decided-by Put NoMsg q.puts (inr (inl refl)) kept.puts;
    gets = kept.gets;
    pollers = kept.pollers;
  }
  changed-keeps q who (ops.PollArm waits) kept fits = still q kept (arm_at q.messages q who waits) (arm-keeps q.messages q who waits kept)
  changed-keeps q who (ops.PollEnd place) kept fits = still q kept (ended q.pollers who.number place) (ended-by Told q.pollers who.number place kept.pollers)
  changed-keeps q who (ops.PollQuit place) kept fits = still q kept (quitted q.pollers who.number place) (quitted-by Told q.pollers who.number place kept.pollers)
  changed-keeps q who op kept fits = kept

  keeps : (q : Msgq) (who : Who) (op : MsgqOp) → Keeps q → FitsOp decls op → Keeps (msgq_next q who op)
  keeps q who op kept fits =
      let after = changed-keeps q who op kept fits in
      record { messages = after.messages; held = after.held; puts = after.puts; gets = after.gets; pollers = after.pollers }

  -- each reply of a history is of its operation, where the operations fit
  pub msgq-answers : (most : ℕ) (h : List (Entry MsgqOp MsgqReply)) → Replays msgq_machine (new_msgq most) h → AllByRecursion (λ e. FitsOp decls e.op) h →
      AllByRecursion (λ e. AreSized (reply_parts e.reply) → AnswersTo decls (said_of e.op).0 e.reply) h
  msgq-answers most h replays fit =
      answers-along msgq_machine Keeps (FitsOp decls) Says says keeps (new_msgq most) h
      (record { messages = All-nil IsMessage; held = All-nil Holds; puts = none-decided Put; gets = none-decided IsBytes; pollers = none-decided Told }) replays fit
