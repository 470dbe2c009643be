use Rattle.std.proofs.Common.{◌≡◌, ℕ, ◌+◌, Bool, Some, List, [], ◌∷◌, length, slice_get, refl, sym, ap, subst, ◌∙◌, arith}
use Rattle.std.proofs.lemmas.List.{length-append}
use Rattle.std.proofs.lemmas.Option.{slice_get_read}
use Rattle.zk_model_bus.specs.Table.{Setup, new_table}
use Rattle.zk_objects.specs.declared.object.Object.{Object}
use Rattle.zk_objects.specs.First.{allowing, IsFirstThread}
use Rattle.zk_objects.specs.Kept.{IsObject}
use Rattle.zk_objects.proofs.Firsts.{objects-more}
use Rattle.zk_objects.proofs.first.bare_objects.Goals as goal

pub first_object-requires-clause-player : goal.first_object-requires-clause-player
first_object-requires-clause-player c =
    let object = c.loop-object.object in
    let player = c.index.result.now in
    let players = c.in_ok-players.players.items in
    let made = c.in_ok-players.ensures in
    let long = made.long in
    let threads = c.deref.ensures.value ∙ ap (λ (s : Setup). s.threads) c.setup.view_is in
    subst (λ (l : List (ℕ × Bool)). IsFirstThread l object player) threads
    (made.each object player (slice_get_read players (length players) object player refl (omega arith) c.index.ensures))

pub loop-object-preserved : goal.loop-object-preserved
loop-object-preserved c =
    let setup = allowing [] c.args.setup.now in
    let xs = c.loop-object.objects.items in
    let y = c.first_object.result in
    let items = c.in_ok-push.ensures.items in
    let long = c.loop-object.invariant.0 in
    let last = subst (λ (n : ℕ). IsObject (new_table setup) n y) (sym long) c.first_object.ensures in (
      ap length items ∙ length-append xs (y ∷ []) ∙ ap (λ (n : ℕ). n + 1) long,
      λ object x has. objects-more setup xs y last c.loop-object.invariant.1 object x
          (subst (λ (l : List Object). slice_get l object ≡ Some x) items has),
    )
