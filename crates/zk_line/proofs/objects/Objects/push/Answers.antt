use Rattle.std.proofs.Common.{◌≡◌, ◌∙◌, length, count_by, ap, sym, subst, arith, ◌++◌, ◌∷◌, [], ℕ, List, Some, cond}
use Rattle.std.specs.Str.{bytes_eq}
use Rattle.std.proofs.lemmas.List.Sums.{count_by-le-length}
use Rattle.zk_line.specs.ByName.{by_name}
use Rattle.zk_line.specs.Objects.{with_object, object_of, counts_with, has_kind_of, IsTabled, is_thread, is_queue, is_item, is_sem, is_msgq, is_signal, is_chan, is_observer, name_of}
use Rattle.zk_line.proofs.Tables.{AreGrown, IsTabled-push}
use Rattle.zk_line.proofs.objects.Objects.push.Goals as goal

pub overflow_cast-number : goal.overflow_cast-number
overflow_cast-number c = omega (arith, c.count-number.ensures, count_by-le-length (counts_with c.kind_of.result) c.args.self.now, c.requires.few)

pub invariant_of-self-2 : goal.invariant_of-self-2
invariant_of-self-2 c =
    let at = c.self.inside in
    let ds = at.decls.items in
    let d = c.args.decl in
    let object : c.len-object.result ≡ length ds = omega (arith, c.len-object.ensures, c.make_room_for_one.new.items.ok.0, ap length c.make_room_for_one.ensures.unchanged) in
    let view : ds ≡ c.args.self.now = c.self.view_is in
    let put = λ (other : List ℕ). c.in_ok-insert.ensures.ok other
    ∙ ap (λ q. cond (bytes_eq q other) (Some c.len-object.result) (by_name at.names other)) c.name_of.ensures
    ∙ ap (λ k. cond (bytes_eq (name_of d) other) (Some k) (by_name at.names other)) object in
    let more : AreGrown d (length ds) at.lists c.add_to_kind.new.lists = record {
      threads = c.add_to_kind.ensures.threads ∙ ap (with_object is_thread d c.len-object.result) c.make_room.ensures.threads ∙ ap (λ n. with_object is_thread d n at.lists.threads.items) object;
      queues = c.add_to_kind.ensures.queues ∙ ap (with_object is_queue d c.len-object.result) c.make_room.ensures.queues ∙ ap (λ n. with_object is_queue d n at.lists.queues.items) object;
      items = c.add_to_kind.ensures.items ∙ ap (with_object is_item d c.len-object.result) c.make_room.ensures.items ∙ ap (λ n. with_object is_item d n at.lists.items.items) object;
      sems = c.add_to_kind.ensures.sems ∙ ap (with_object is_sem d c.len-object.result) c.make_room.ensures.sems ∙ ap (λ n. with_object is_sem d n at.lists.sems.items) object;
      msgqs = c.add_to_kind.ensures.msgqs ∙ ap (with_object is_msgq d c.len-object.result) c.make_room.ensures.msgqs ∙ ap (λ n. with_object is_msgq d n at.lists.msgqs.items) object;
      signals = c.add_to_kind.ensures.signals ∙ ap (with_object is_signal d c.len-object.result) c.make_room.ensures.signals ∙ ap (λ n. with_object is_signal d n at.lists.signals.items) object;
      chans = c.add_to_kind.ensures.chans ∙ ap (with_object is_chan d c.len-object.result) c.make_room.ensures.chans ∙ ap (λ n. with_object is_chan d n at.lists.chans.items) object;
      observers = c.add_to_kind.ensures.observers ∙ ap (with_object is_observer d c.len-object.result) c.make_room.ensures.observers ∙ ap (λ n. with_object is_observer d n at.lists.observers.items) object;
    } in
    let number : c.count-number.result ≡ count_by (has_kind_of d) ds = c.count-number.ensures ∙ ap (λ k. count_by (counts_with k) c.args.self.now) c.kind_of.ensures ∙ ap (count_by (has_kind_of d)) (sym view) in
    let made = IsTabled-push ds d at.lists c.add_to_kind.new.lists at.numbers.items c.count-number.result at.names c.insert.new.self c.self.invariant (omega (arith, c.requires.few, ap length view)) (ap (λ xs. object_of xs (name_of d)) view ∙ c.requires.fresh) more number put in
    subst (λ xs. IsTabled xs c.add_to_kind.new.lists c.push_within.new.items.items c.insert.new.self) (sym (c.push_within-2.ensures.items ∙ ap (λ l. l ++ d ∷ []) c.make_room_for_one.ensures.unchanged))
    (subst (λ ns. IsTabled (ds ++ d ∷ []) c.add_to_kind.new.lists ns c.insert.new.self) (sym (c.push_within.ensures.items ∙ ap (λ l. l ++ c.count-number.result ∷ []) c.make_room_for_one-2.ensures.unchanged)) made)
