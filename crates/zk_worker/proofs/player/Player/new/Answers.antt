use Rattle.std.proofs.Common.{◌≡◌, ◌<◌, ◌∙◌, Some, List, [], ◌∷◌, length, reverse, refl, sym, ap, subst, arith}
use Rattle.std.specs.List.{slice_get}
use Rattle.std.proofs.lemmas.Option.{slice_get_read}
use Rattle.zk_line.specs.declared.types.Decl.{Decl}
use Rattle.zk_worker.specs.declared.frames.Frame.{Frame}
use Rattle.zk_worker.specs.declared.frames.Role.{Role}
use Rattle.zk_worker.specs.Places.{PlayerPlace}
use Rattle.zk_worker.specs.Protocol.{settled, first_frame, role_at}
use Rattle.zk_worker.proofs.DeclaredObjects.{players-below}
use Rattle.zk_worker.proofs.Limits.{IsRoomy-fresh}
use Rattle.zk_worker.proofs.Starts.{At-same, start_at-found, start_at-fresh}
use Rattle.zk_worker.proofs.FitsStill.{start_at-fits}
use Rattle.zk_worker.proofs.Looking.{looks-fresh}
use Rattle.zk_worker.proofs.Following.{following-fresh}
use Rattle.zk_worker.proofs.player.Player.new.Goals as goal

pub unreachable-requires-in_default-get : goal.unreachable-requires-in_default-get
unreachable-requires-in_default-get c =
    let below = players-below c.args.scenario.now.decls c.args.number c.in-Some.object (sym c.in-Some.ensures) in
    let within : c.in-Some.object < length c.decls.result.now = subst (λ (l : List Decl). c.in-Some.object < length l) (sym c.decls.ensures.all) below in
    let bad = c.in_default-get.ensures.lookup.2 within in
    cc

pub invariant_of-result : goal.invariant_of-result
invariant_of-result c =
    let s = c.args.scenario.now in
    let stack : reverse c.open_frame.new.stack.items ≡ first_frame c.role_at.result ∷ [] =
    c.open_frame.ensures.frames ∙ ap (λ (l : List Frame). first_frame c.role_at.result ∷ reverse l) c.in_ok-stack.ensures.items in
    IsRoomy-fresh s c.role_at.result _ _ _ _ _ _ _ (c.settle.ensures.frames ∙ ap (λ (l : List Frame). settled s l) stack)
    c.in_ok-with_capacity.ensures.items c.in_ok-with_capacity-2.ensures.items c.steps-most.ensures.most
    (omega (arith, c.in_ok-stack.ensures.capacity, c.open_frame.ensures.capacity, c.settle.ensures.capacity))
    c.in_ok-with_capacity.ensures.room c.in_ok-with_capacity-2.ensures.capacity

pub returns-clause-start : goal.returns-clause-start
returns-clause-start c =
    let s = c.args.scenario.now in
    let decl = c.in-Some-get.decl.now in
    let object = c.in-Some.object in
    let below = players-below s.decls c.args.number object (sym c.in-Some.ensures) in
    let within : object < length c.decls.result.now = subst (λ (l : List Decl). object < length l) (sym c.decls.ensures.all) below in
    let declared : slice_get s.decls object ≡ Some decl =
    subst (λ (l : List Decl). slice_get l object ≡ Some decl) c.decls.ensures.all
    (slice_get_read c.decls.result.now (length c.decls.result.now) object decl refl within c.in-Some-get.ensures.lookup.1) in
    let stack : reverse c.open_frame.new.stack.items ≡ first_frame (role_at decl object) ∷ [] =
    c.open_frame.ensures.frames ∙ ap (λ (l : List Frame). first_frame c.role_at.result ∷ reverse l) c.in_ok-stack.ensures.items
    ∙ ap (λ (r : Role). first_frame r ∷ []) c.role_at.ensures in
    let frames = c.settle.ensures.frames ∙ ap (λ (l : List Frame). settled s l) stack in
    let made = At-same _ _ _ _ _ _ _ _ _ _ _ _ _ (sym c.who_at-who.ensures) (sym c.steps-most.ensures.steps) (sym c.start_mode.ensures) (sym frames)
    (sym c.in_ok-with_capacity.ensures.items) (sym c.in_ok-with_capacity-2.ensures.items) in
    start_at-found s c.args.number object decl (sym c.in-Some.ensures) declared ∙ ap (λ (x : PlayerPlace). Some x) made

pub returns-clause-fits : goal.returns-clause-fits
returns-clause-fits c = start_at-fits c.args.scenario.now c.args.number _ (returns-clause-start c)

pub returns-clause-follows : goal.returns-clause-follows
returns-clause-follows c = λ shown. following-fresh c.args.scenario.now c.args.number shown _ (returns-clause-start c)

pub returns-clause-looks : goal.returns-clause-looks
returns-clause-looks c =
    λ m shown. looks-fresh m shown _ (start_at-fresh c.args.scenario.now c.args.number _ (returns-clause-start c)).none_made
