-- The services of a scenario at which nothing was done.
use Rattle.std.proofs.Common.{◌≡◌, ◌≢◌, ℕ, zero, suc, ◌+◌, ◌≤◌, List, [], ◌∷◌, ◌++◌, length, map, AllPairs, sym, ap, ◌∙◌, arith}
use Rattle.std.specs.List.{range_with_len}
use Rattle.std.proofs.lemmas.List.{map-append}
use Rattle.std.proofs.lemmas.List.FromFn.{length-range_with_len, get_or-range_with_len}
use Rattle.zk_base.specs.Limits.{most_players}
use Rattle.zk_scenario.specs.declared.limits.TheConstants.{MOST_QUEUES, MOST_ITEMS}
use Rattle.zk_scenario.specs.Content.{Content}
use Rattle.zk_scenario.specs.Steps.{steps_of}
use Rattle.zk_scenario.specs.Valid.{IsValid}
use Rattle.zk_line.specs.declared.types.Decl.{Decl}
use Rattle.zk_line.specs.Objects.{places, is_thread, is_queue, is_item}
use Rattle.zk_line.proofs.Tables.{length-places}
use Rattle.zk_worker.specs.Families.{no_entries}
use Rattle.zk_worker.specs.Machines as machines
use Rattle.zk_worker.specs.Machines.{machines_of, workers, work_start_of, item_number, items_of}
use Rattle.zk_model_wait.specs.Clock.{new_clock}
use Rattle.zk_bus.specs.Seen.{chan_start, chan_history}
use Rattle.zk_model_bus.specs.Table.{new_table}
use Rattle.zk_worker.specs.TableSetup.{setup_of}
use Rattle.zk_objects.specs.Seen.{objects_start, objects_history}
use Rattle.zk_msgq.specs.Seen.{msgq_start, msgq_history}
use Rattle.zk_poll.specs.Seen.{signal_start, signal_history}
use Rattle.zk_sem.specs.Seen.{sem_start, sem_history}
use Rattle.zk_subq.specs.Seen.{obs_start, obs_history}
use Rattle.zk_work.specs.Seen.{work_start, work_history}
use Rattle.zk_time.specs.ClockSeen.{clock_start, clock_history}
use Rattle.zk_services.specs.declared.plain.Plain.{Plain}
use Rattle.zk_services.specs.Alone.{plain_machines, plain_shown}
use Rattle.zk_services.specs.Objects.{starts_of, histories_of}
use Rattle.zk_worker.specs.Shown.{nothing_shown}

-- there are few threads and queues
pub few-threads : (s : Content) → IsValid s → length (places is_thread s.decls) ≤ most_players
few-threads s valid = omega (arith, valid.players, length-places is_thread s.decls)

pub few-queues : (s : Content) → IsValid s → length (places is_queue s.decls) ≤ MOST_QUEUES
few-queues s valid = omega (arith, valid.queues, length-places is_queue s.decls)

pub few-items : (s : Content) → IsValid s → length (places is_item s.decls) ≤ MOST_ITEMS
few-items s valid = omega (arith, valid.items, length-places is_item s.decls)

-- one number more of a row
pub range_more : (a n : ℕ) → range_with_len a n ++ (a + n) ∷ [] ≡ range_with_len a (n + 1)
range_more a zero = let same : a + zero ≡ a = omega arith in ap (λ (x : ℕ). x ∷ []) same
range_more a (suc n) =
    let same : a + suc n ≡ (a + 1) + n = omega arith in
    let long : suc (n + 1) ≡ suc n + 1 = omega arith in
    ap (λ (l : List ℕ). a ∷ l) (ap (λ (x : ℕ). range_with_len (a + 1) n ++ x ∷ []) same ∙ range_more (a + 1) n) ∙ ap (range_with_len a) long

-- the numbers of a row differ
pub range_differs : (a n : ℕ) → AllPairs (λ x y. x ≢ y) (range_with_len a n)
range_differs a n = λ i j d less within same.
    let long = length-range_with_len a n in
    let at_i = get_or-range_with_len a n i d (omega arith) in
    let at_j = get_or-range_with_len a n j d (omega arith) in
    let both : a + i ≡ a + j = sym at_i ∙ same ∙ at_j in
    omega arith

-- there are few workers
pub few-workers : (s : Content) → IsValid s → length (workers s.decls) ≤ MOST_QUEUES
few-workers s valid =
    omega (arith, few-queues s valid, length-range_with_len (length (places is_thread s.decls)) (length (places is_queue s.decls)))

-- services that start as those of a scenario do have its machines
pub machines-first : (s : Content) (p : Plain) →
    work_start p.work ≡ work_start_of s → p.items.items ≡ items_of s.decls → p.most ≡ steps_of s → clock_start p.clock ≡ new_clock →
    objects_start p.table ≡ new_table (setup_of s) →
    starts_of sem_start p.sems.items ≡ map machines.sem_start s.decls →
    starts_of msgq_start p.msgqs.items ≡ map machines.msgq_start s.decls →
    starts_of signal_start p.signals.items ≡ map machines.signal_start s.decls →
    starts_of chan_start p.chans.items ≡ map machines.chan_start s.decls →
    starts_of obs_start p.observers.items ≡ map machines.observer_start s.decls →
    plain_machines p ≡ machines_of s
machines-first s p same_work same_items same_most same_clock same_table same_sems same_msgqs same_signals same_chans same_observers = cc

-- and show nothing
pub shown-first : (s : Content) (p : Plain) →
    work_history p.work ≡ [] → clock_history p.clock ≡ [] → objects_history p.table ≡ [] →
    histories_of sem_history p.sems.items ≡ no_entries s.decls →
    histories_of msgq_history p.msgqs.items ≡ no_entries s.decls →
    histories_of signal_history p.signals.items ≡ no_entries s.decls →
    histories_of chan_history p.chans.items ≡ no_entries s.decls →
    histories_of obs_history p.observers.items ≡ no_entries s.decls →
    plain_shown p ≡ nothing_shown s.decls
shown-first s p no_work no_clock no_table no_sems no_msgqs no_signals no_chans no_observers = cc

-- one number more
pub items_more : (decls : List Decl) (n : ℕ) → map (item_number decls) (range_with_len 0 n) ++ item_number decls n ∷ [] ≡ map (item_number decls) (range_with_len 0 (n + 1))
items_more decls n =
    let zero_more : 0 + n ≡ n = omega arith in
    sym (map-append (item_number decls) (range_with_len 0 n) (n ∷ []))
    ∙ ap (map (item_number decls)) (ap (λ (k : ℕ). range_with_len 0 n ++ k ∷ []) (sym zero_more) ∙ range_more 0 n)
