-- Each form of call that is drawn is taken, where its objects, its numbers and its messages are said.
use Rattle.std.proofs.Common.{◌≡◌, ℕ, ◌≤◌, ◌<◌, nat_le, Option, Some, None, List, [], ◌∷◌, length, arith, refl, sym, ap, subst}
use Rattle.std.specs.Prelude.{option_map}
use Rattle.std.proofs.lemmas.Bool.{cond-true, le-leb}
use Rattle.zk_words.specs.declared.limits.TheConstants.{GREATEST_RESULT}
use Rattle.zk_words.specs.declared.slot.Slot.{Slot}
use Rattle.zk_words.specs.declared.slot.Slot.TheVariants as slot
use Rattle.zk_words.specs.declared.timeout.Timeout.TheVariants.{No, Forever}
use Rattle.zk_words.specs.Table.{item, queue, sem, msgq, signal, channel, delay, ticks, result}
use Rattle.zk_line.specs.declared.types.Arg.{Arg}
use Rattle.zk_line.specs.declared.types.Arg.TheVariants.{Object, Number, Bytes, Wait}
use Rattle.zk_line.specs.declared.types.Call.TheVariants as call
use Rattle.zk_line.specs.declared.types.Decl.{Decl}
use Rattle.zk_line.specs.declared.types.Ref.TheVariants.{Known}
use Rattle.zk_line.specs.Objects.{size_at}
use Rattle.zk_line.specs.Shapes.{both}
use Rattle.zk_soak.proofs.WordsRead.{IsSaid}
use Rattle.zk_soak.proofs.SlotsSaid.{AreBytes, message_said, no_said, forever_said}
use Rattle.zk_soak.proofs.CallsRead.{IsTaken}

-- said in a slot, in a line whose messages have any size
abbrev pub IsSaidAlways : List Decl → Slot → Arg → Type 0
IsSaidAlways decls s a = (size : Option ℕ) → IsSaid decls size s a

module _ (decls : List Decl) where
  pub submit_taken : (w : ℕ) → (q : ℕ) → IsSaidAlways decls item (Object (Known w)) → IsSaidAlways decls queue (Object (Known q)) → IsTaken decls (call.Submit (Known w) (Some (Known q)))
  submit_taken w q item_is queue_is = record {
    saying = (item, Object (Known w)) ∷ (queue, Object (Known q)) ∷ [];
    row = record { first = refl; fitting = refl; placed = refl; once = refl; together = refl; plain = refl; short = omega arith };
    said = (item_is _, (queue_is _, tt));
    written = refl;
    made = refl;
    few = refl;
    mere = refl;
    stays = refl;
    other = refl;
  }

  pub cancel_taken : (w : ℕ) → IsSaidAlways decls item (Object (Known w)) → IsTaken decls (call.Cancel (Known w))
  cancel_taken w item_is = record {
    saying = (item, Object (Known w)) ∷ [];
    row = record { first = refl; fitting = refl; placed = refl; once = refl; together = refl; plain = refl; short = omega arith };
    said = (item_is _, tt);
    written = refl;
    made = refl;
    few = refl;
    mere = refl;
    stays = refl;
    other = refl;
  }

  pub cancelsync_taken : (w : ℕ) → IsSaidAlways decls item (Object (Known w)) → IsTaken decls (call.CancelSync (Known w))
  cancelsync_taken w item_is = record {
    saying = (item, Object (Known w)) ∷ [];
    row = record { first = refl; fitting = refl; placed = refl; once = refl; together = refl; plain = refl; short = omega arith };
    said = (item_is _, tt);
    written = refl;
    made = refl;
    few = refl;
    mere = refl;
    stays = refl;
    other = refl;
  }

  pub flush_taken : (w : ℕ) → IsSaidAlways decls item (Object (Known w)) → IsTaken decls (call.Flush (Known w))
  flush_taken w item_is = record {
    saying = (item, Object (Known w)) ∷ [];
    row = record { first = refl; fitting = refl; placed = refl; once = refl; together = refl; plain = refl; short = omega arith };
    said = (item_is _, tt);
    written = refl;
    made = refl;
    few = refl;
    mere = refl;
    stays = refl;
    other = refl;
  }

  pub schedule_taken : (w : ℕ) → (q : ℕ) → (d : ℕ) → IsSaidAlways decls item (Object (Known w)) → IsSaidAlways decls queue (Object (Known q)) → IsSaidAlways decls delay (Number d) → IsTaken decls (call.Schedule (Known w) (Known q) d)
  schedule_taken w q d item_is queue_is delay_is = record {
    saying = (item, Object (Known w)) ∷ (queue, Object (Known q)) ∷ (delay, Number d) ∷ [];
    row = record { first = refl; fitting = refl; placed = refl; once = refl; together = refl; plain = refl; short = omega arith };
    said = (item_is _, (queue_is _, (delay_is _, tt)));
    written = refl;
    made = refl;
    few = refl;
    mere = refl;
    stays = refl;
    other = refl;
  }

  pub reschedule_taken : (w : ℕ) → (q : ℕ) → (d : ℕ) → IsSaidAlways decls item (Object (Known w)) → IsSaidAlways decls queue (Object (Known q)) → IsSaidAlways decls delay (Number d) → IsTaken decls (call.Reschedule (Known w) (Known q) d)
  reschedule_taken w q d item_is queue_is delay_is = record {
    saying = (item, Object (Known w)) ∷ (queue, Object (Known q)) ∷ (delay, Number d) ∷ [];
    row = record { first = refl; fitting = refl; placed = refl; once = refl; together = refl; plain = refl; short = omega arith };
    said = (item_is _, (queue_is _, (delay_is _, tt)));
    written = refl;
    made = refl;
    few = refl;
    mere = refl;
    stays = refl;
    other = refl;
  }

  pub tick_taken : (n : ℕ) → IsSaidAlways decls ticks (Number n) → IsTaken decls (call.Tick n)
  tick_taken n ticks_is = record {
    saying = (ticks, Number n) ∷ [];
    row = record { first = refl; fitting = refl; placed = refl; once = refl; together = refl; plain = refl; short = omega arith };
    said = (ticks_is _, tt);
    written = refl;
    made = refl;
    few = refl;
    mere = refl;
    stays = refl;
    other = refl;
  }

  pub take_taken : (s : ℕ) → IsSaidAlways decls sem (Object (Known s)) → IsTaken decls (call.Take (Known s) No)
  take_taken s sem_is = record {
    saying = (sem, Object (Known s)) ∷ (slot.Wait, Wait No) ∷ [];
    row = record { first = refl; fitting = refl; placed = refl; once = refl; together = refl; plain = refl; short = omega arith };
    said = (sem_is _, (no_said decls _, tt));
    written = refl;
    made = refl;
    few = refl;
    mere = refl;
    stays = refl;
    other = refl;
  }

  pub give_taken : (s : ℕ) → IsSaidAlways decls sem (Object (Known s)) → IsTaken decls (call.Give (Known s))
  give_taken s sem_is = record {
    saying = (sem, Object (Known s)) ∷ [];
    row = record { first = refl; fitting = refl; placed = refl; once = refl; together = refl; plain = refl; short = omega arith };
    said = (sem_is _, tt);
    written = refl;
    made = refl;
    few = refl;
    mere = refl;
    stays = refl;
    other = refl;
  }

  pub get_taken : (m : ℕ) → IsSaidAlways decls msgq (Object (Known m)) → IsTaken decls (call.Get (Known m) No)
  get_taken m msgq_is = record {
    saying = (msgq, Object (Known m)) ∷ (slot.Wait, Wait No) ∷ [];
    row = record { first = refl; fitting = refl; placed = refl; once = refl; together = refl; plain = refl; short = omega arith };
    said = (msgq_is _, (no_said decls _, tt));
    written = refl;
    made = refl;
    few = refl;
    mere = refl;
    stays = refl;
    other = refl;
  }

  pub put_taken : (m : ℕ) → (message : List ℕ) → IsSaidAlways decls msgq (Object (Known m)) → size_at decls m ≡ Some (length message) → AreBytes message → 0 < length message → length message ≤ 4 → IsTaken decls (call.Put (Known m) message No)
  put_taken m message msgq_is sized are some few = record {
    saying = (msgq, Object (Known m)) ∷ (slot.Hex, Bytes message) ∷ (slot.Wait, Wait No) ∷ [];
    row = record { first = refl; fitting = refl; placed = refl; once = refl; together = refl; plain = refl; short = omega arith };
    said = (msgq_is _, (subst (λ size. IsSaid decls size slot.Hex (Bytes message)) (sym sized) (message_said decls message are some few), (no_said decls _, tt)));
    written = refl;
    made = refl;
    few = refl;
    mere = refl;
    stays = refl;
    other = refl;
  }

  pub publish_taken : (c : ℕ) → (message : List ℕ) → IsSaidAlways decls channel (Object (Known c)) → size_at decls c ≡ Some (length message) → AreBytes message → 0 < length message → length message ≤ 4 → IsTaken decls (call.Publish (Known c) message Forever)
  publish_taken c message channel_is sized are some few = record {
    saying = (channel, Object (Known c)) ∷ (slot.Hex, Bytes message) ∷ (slot.Wait, Wait Forever) ∷ [];
    row = record { first = refl; fitting = refl; placed = refl; once = refl; together = refl; plain = refl; short = omega arith };
    said = (channel_is _, (subst (λ size. IsSaid decls size slot.Hex (Bytes message)) (sym sized) (message_said decls message are some few), (forever_said decls _, tt)));
    written = refl;
    made = refl;
    few = refl;
    mere = refl;
    stays = refl;
    other = refl;
  }

  pub raise_taken : (g : ℕ) → (r : ℕ) → IsSaidAlways decls signal (Object (Known g)) → IsSaidAlways decls result (Number r) → r ≤ GREATEST_RESULT → IsTaken decls (call.Raise (Known g) r)
  raise_taken g r signal_is result_is most = record {
    saying = (signal, Object (Known g)) ∷ (result, Number r) ∷ [];
    row = record { first = refl; fitting = refl; placed = refl; once = refl; together = refl; plain = refl; short = omega arith };
    said = (signal_is _, (result_is _, tt));
    written = refl;
    made = ap (λ o. option_map (λ p. call.Raise p.0 p.1) (both (Some (Known g)) o)) (cond-true (nat_le r GREATEST_RESULT) (Some r) None (le-leb r GREATEST_RESULT most));
    few = refl;
    mere = refl;
    stays = refl;
    other = refl;
  }
