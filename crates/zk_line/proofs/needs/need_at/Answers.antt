use Rattle.std.proofs.Common.{◌≡◌, List, [], ◌∷◌, map, refl, sym, ap, ◌∙◌}
use Rattle.std.specs.List.{slice_get, filter_map, cons_option}
use Rattle.zk_words.specs.declared.slot.Slot.TheVariants as slots
use Rattle.zk_line.specs.declared.events.Event.{Event}
use Rattle.zk_line.specs.declared.needs.Needed.{Needed}
use Rattle.zk_line.specs.declared.types.Arg.TheVariants as args
use Rattle.zk_line.specs.declared.types.Call.{Call}
use Rattle.zk_line.specs.Needs.{event_need, need_in, needs_of}
use Rattle.zk_line.proofs.needs.need_at.Goals as goal

-- the needs of events are those of the words that say them
events-needs : (events : List Event) → filter_map event_need events ≡ filter_map (need_in slots.Event) (map args.Event events)
events-needs [] = refl
events-needs (event ∷ events) = ap (cons_option (event_need event)) (events-needs events)

pub returns-in-Poll : goal.returns-in-Poll
returns-in-Poll c =
    c.of_events.ensures
    ∙ ap (λ (l : List Needed). slice_get l c.args.index) (events-needs c.items.result.now)
    ∙ ap (λ (l : List Event). slice_get (filter_map (need_in slots.Event) (map args.Event l)) c.args.index) c.items.ensures.all
    ∙ ap (λ (call : Call). slice_get (needs_of call) c.args.index) (sym c.in-Poll.is)
