use Rattle.std.proofs.Common.{◌≡◌, ◌<◌, ◌++◌, ℕ, length, drop, sym, ap, subst, ◌∙◌, arith}
use Rattle.zk_base.specs.Legal.{IsLegal}
use Rattle.zk_base.specs.Touched.{LeavesOthers}
use Rattle.zk_turn.specs.Views.{left, in_flight, with_stamped, with_entry}
use Rattle.zk_turn.specs.Steps.{Fits}
use Rattle.zk_turn.specs.Words.{word_after, MayCount}
use Rattle.zk_turn.specs.Passes.{IsPublishing, IsStamped}
use Rattle.zk_turn.proofs.Counting.{publishes}
use Rattle.zk_turn.proofs.Passes.{publishing_now, publishing_stamped}
use Rattle.zk_turn.proofs.Glances.{may_count}
use Rattle.zk_turn.proofs.cell.Cell.publish.Goals as goal

pub stamp_all-requires-clause-flight : goal.stamp_all-requires-clause-flight
stamp_all-requires-clause-flight g c =
    let x = c.args.service in
    let same = c.announce-service.ensures.service in
    let v = c.args.seat.now.me.0 in
    let there = publishing_now (IsLegal g.S.Service.machine) g.S.Service.start g.S.Service.history x v (c.requires.ready c.if-not-added.false) in
    subst (λ y. IsPublishing (IsLegal g.S.Service.machine) g.S.Service.start g.S.Service.history y c.announce-service.new.seat.me.0) (sym same)
    (subst (λ u. IsPublishing (IsLegal g.S.Service.machine) g.S.Service.start g.S.Service.history x u) (sym (ap (λ m. m.0) c.announce-service.ensures.flight)) there)

pub fetch_add-requires : goal.fetch_add-requires
fetch_add-requires g c =
    let shared = c.args.self.now.table.shared in
    let shape = c.args.self.now.«shape».0 in
    let wide : 2 < shared.table_id.words = omega arith in
    let x = c.args.service in
    let v = c.args.seat.now.me.0 in
    let ready = c.requires.ready c.if-not-added.false in
    let kept = c.requires.kept c.if-not-added.false in
    let word = word_after g.S.Service.machine g.S.Service.word in
    let start = g.S.Service.start x in
    let stamped = subst (λ y. IsStamped g.S.Service.WORDS (g.S.Service.touched y) c.announce-service.new.seat.me
    c.stamp_all.new.seat.me) c.announce-service.ensures.service c.stamp_all.ensures.stamped in
    let flying = in_flight v (drop (length v.seen) (g.S.Service.history x)) in
    let last = with_stamped flying stamped.stamped in
    let is : c.stamp_all.new.seat.me.0 ≡ last = ap (λ m. m.0) stamped.now
    ∙ ap (λ m. with_stamped m.0 stamped.stamped) c.announce-service.ensures.flight in
    let publishing = publishing_stamped (IsLegal g.S.Service.machine) g.S.Service.start g.S.Service.history x flying stamped.stamped (publishing_now (IsLegal g.S.Service.machine) g.S.Service.start g.S.Service.history x v ready) in
    let old = λ (i : ℕ). word start v.seen i in
    let new = λ (i : ℕ). word start (v.seen ++ flying.flight.pending) i in
    let after = ap (λ h. word start h) publishing.longer in
    let leaves = subst (λ f. LeavesOthers g.S.Service.WORDS (g.S.Service.touched x) old f) after kept in (
      c.stamp_all.ensures.table ∙ c.announce-service.ensures.table ∙ c.requires.table,
      wide,
      publishes (IsLegal g.S.Service.machine) (Fits g.S.Service.start g.S.Service.history)
          (word_after g.S.Service.machine g.S.Service.word) g.S.Service.WORDS
          (g.S.Service.start shared.key.service.value) (length shared.key.players.items) shared.table_id.slots
          c.stamp_all.new.seat.id c.stamp_all.new.seat.me g.S.Service.start g.S.Service.history x
          (subst (λ u. IsPublishing (IsLegal g.S.Service.machine) g.S.Service.start g.S.Service.history x u) (sym is) publishing)
          (λ i below. subst (λ u. MayCount (λ h. word start h i) u.seen u.flight i) (sym is)
          (may_count g.S.Service.WORDS (g.S.Service.touched x) stamped.stamped old new leaves i below (stamped.each i below))),
    )

pub returns-clause-done : goal.returns-clause-done
returns-clause-done g c =
    let x = c.args.service in
    let v = c.args.seat.now.me.0 in
    let stamped = c.stamp_all.ensures.stamped in
    let longer = (publishing_now (IsLegal g.S.Service.machine) g.S.Service.start g.S.Service.history x v
    (c.requires.ready c.if-not-added.false)).longer in
    c.fetch_add.ensures.2
    ∙ ap (λ m. (with_entry m.0 (m.0.seen ++ m.0.flight.pending), m.1)) stamped.now
    ∙ ap (λ m. (with_entry m.0 (m.0.seen ++ m.0.flight.pending), m.1)) c.announce-service.ensures.flight
    ∙ ap (λ h. (with_entry v h, c.args.seat.now.me.1)) (sym longer)
    ∙ ap (λ b. (left b v (g.S.Service.history x), c.args.seat.now.me.1)) (sym c.if-not-added.false)
