-- The attempts of a player are in range at the machines of its scenario.
use Rattle.std.proofs.Common.{◌≡◌, ℕ, zero, suc, ◌+◌, ◌<◌, Bool, true, false, cond, nat_lt, Option, Some, None, is_some, List, [], ◌∷◌, length, map, sym, refl, ap, subst, ◌∙◌, arith}
use Rattle.std.specs.List.{slice_get, range_with_len}
use Rattle.std.specs.Option.{option_map, option_map_or, option_and_then}
use Rattle.std.proofs.lemmas.Option.{slice_get-map}
use Rattle.std.proofs.lemmas.List.{length-map}
use Rattle.std.proofs.lemmas.List.FromFn.{length-range_with_len}
use Rattle.zk_line.specs.declared.types.Decl.{Decl}
use Rattle.zk_scenario.specs.Content.{Content}
use Rattle.zk_scenario.specs.Valid.{IsValid}
use Rattle.zk_line.specs.Objects.{places, number_of, is_at, is_thread, is_queue, is_item}
use Rattle.zk_model_bus.specs.Channel.{chan_machine}
use Rattle.zk_model_bus.specs.Observer.{obs_machine}
use Rattle.zk_model_wait.specs.Msgq.{msgq_machine}
use Rattle.zk_model_wait.specs.Sem.{sem_machine}
use Rattle.zk_model_wait.specs.Signal.{signal_machine}
use Rattle.zk_model_work.specs.State.{fresh_queues}
use Rattle.zk_model_work.specs.Machine.{is_among}
use Rattle.zk_worker.specs.declared.steps.Step.{Step}
use Rattle.zk_worker.specs.declared.steps.Step.TheVariants as steps
use Rattle.zk_worker.specs.Places.{PlayerPlace}
use Rattle.zk_worker.specs.Protocol.{IsAhead}
use Rattle.zk_worker.specs.Ranges.{IsFit, step_fits}
use Rattle.zk_worker.specs.Machines.{Machines, machines_of, workers, is_on, item_number, items_of, sem_start, msgq_start, signal_start, chan_start, observer_start}
use Rattle.zk_worker.specs.Attempt.{is_in_range}
use Rattle.zk_worker.specs.Families.{is_declared}
use Rattle.zk_worker.proofs.Fits.{item-fits}
use Rattle.zk_worker.proofs.FitsStill.{ahead-fits}
use Rattle.zk_worker.proofs.Families.{takes-declared_one}
use Rattle.zk_worker.proofs.TableRanges.{names-declared}

length-fresh_queues : (workers : List ℕ) (started : List Bool) → length workers ≡ length started → length (fresh_queues workers started) ≡ length workers
length-fresh_queues [] started same = refl
length-fresh_queues (w ∷ ws) [] same = absurd (omega arith)
length-fresh_queues (w ∷ ws) (b ∷ bs) same = let more = length-fresh_queues ws bs (omega arith) in omega arith

-- each worker has its queue's mark whether it is started
pub same-lengths : (s : Content) → length (workers s.decls) ≡ length (map (is_on s.decls) (places is_queue s.decls))
same-lengths s =
    length-range_with_len (length (places is_thread s.decls)) (length (places is_queue s.decls)) ∙ sym (length-map (places is_queue s.decls) (is_on s.decls))

-- what is declared as one of a kind is declared
is_at-below : (test : Decl → Bool) (decls : List Decl) (object : ℕ) → is_at test decls object ≡ true → object < length decls
is_at-below test [] object is = absurd (cc)
is_at-below test (d ∷ ds) zero is = omega arith
is_at-below test (d ∷ ds) (suc object) is = let more = is_at-below test ds object is in omega arith

slice_get-range : (from many k : ℕ) → k < many → slice_get (range_with_len from many) k ≡ Some (from + k)
slice_get-range from zero k below = absurd (omega arith)
slice_get-range from (suc many) zero below = ap (λ (n : ℕ). Some n) (omega arith)
slice_get-range from (suc many) (suc k) below = slice_get-range (from + 1) many k (omega arith) ∙ ap (λ (n : ℕ). Some n) (omega arith)

-- the number that is kept of a declared object is its number as an item
item-there : (decls : List Decl) (object : ℕ) → object < length decls → slice_get (items_of decls) object ≡ Some (item_number decls object)
item-there decls object below =
    slice_get-map (item_number decls) (range_with_len 0 (length decls)) object
    ∙ ap (option_map (item_number decls)) (slice_get-range 0 (length decls) object below ∙ ap (λ (n : ℕ). Some n) (omega arith))

number-there : (decls : List Decl) (object : ℕ) → is_at is_item decls object ≡ true → item_number decls object ≡ Some (number_of decls object)
number-there decls object is = ap (λ (b : Bool). cond b (Some (number_of decls object)) None) is

-- what is declared as one of a kind has the state that it starts in
starts-declared : {S : Type 0} (start : Decl → Option S) (decls : List Decl) (object : ℕ) → is_declared start decls object ≡ true →
    is_some (option_and_then (λ (start : Option S). start) (slice_get (map start decls) object)) ≡ true
starts-declared start [] object is = absurd (cc)
starts-declared start (d ∷ ds) zero is = is
starts-declared start (d ∷ ds) (suc object) is = starts-declared start ds object is

-- the services of a scenario take all that is declared
pub takes-declared : (s : Content) (step : Step) → step_fits s.decls step ≡ true → is_in_range (machines_of s) step ≡ true
takes-declared s (steps.Work op) fits =
    let long = length-fresh_queues (workers s.decls) (map (is_on s.decls) (places is_queue s.decls)) (same-lengths s)
    ∙ length-range_with_len (length (places is_thread s.decls)) (length (places is_queue s.decls)) in
    subst (λ (n : ℕ). is_among (length (places is_item s.decls)) n op ≡ true) (sym long) fits
takes-declared s (steps.Clock op) fits = refl
takes-declared s (steps.Table op) fits = names-declared s op fits
takes-declared s (steps.Sem object op) fits = takes-declared_one sem_machine sem_start s.decls object op (λ start. refl) fits
takes-declared s (steps.Msgq object op) fits = takes-declared_one msgq_machine msgq_start s.decls object op (λ start. refl) fits
takes-declared s (steps.Signal object op) fits = takes-declared_one signal_machine signal_start s.decls object op (λ start. refl) fits
takes-declared s (steps.Chan object op) fits = takes-declared_one chan_machine chan_start s.decls object op (λ start. refl) fits
takes-declared s (steps.Obs object op) fits = takes-declared_one obs_machine observer_start s.decls object op (λ start. refl) fits
takes-declared s (steps.LookItem object) fits =
    ap (λ (item : Option ℕ). option_map_or (λ item. nat_lt item (length (places is_item s.decls))) item false)
    (ap (option_and_then (λ (item : Option ℕ). item)) (item-there s.decls object (is_at-below is_item s.decls object fits)) ∙ number-there s.decls object fits)
    ∙ item-fits s.decls object fits
takes-declared s (steps.LookSignal object must) fits = starts-declared signal_start s.decls object fits

-- and so each attempt of a player of a valid scenario
pub ahead-takes : (s : Content) (m : Machines) (at : PlayerPlace) → IsValid s → m ≡ machines_of s → IsFit s at → (step : Step) → IsAhead s at step → is_in_range m step ≡ true
ahead-takes s m at valid same fits = λ step ahead.
    subst (λ (n : Machines). is_in_range n step ≡ true) (sym same) (takes-declared s step (ahead-fits s at step valid fits ahead))
