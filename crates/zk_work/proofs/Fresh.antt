-- The engine before the first entry.
use Rattle.std.proofs.Common.{◌≡◌, ℕ, ◌<◌, ◌≤◌, ◌⊎◌, inl, inr, leb, Bool, true, false, Option, Some, None, List, [], length, get_or, replicate, All, refl, sym, ap, subst, ◌∙◌, option_to_list, arith}
use Rattle.std.proofs.lemmas.Bool.Decides.{leb_tells}
use Rattle.std.proofs.lemmas.List.{get_or_past, length-replicate, get_or-replicate}
use Rattle.std.proofs.lemmas.List.Elements.{All-replicate, All-nil}
use Rattle.zk_model_work.specs.declared.parts.Queue.{Queue}
use Rattle.zk_model_work.specs.declared.parts.Wait.{Wait}
use Rattle.zk_model_work.specs.State.{fresh_queues, start_of}
use Rattle.zk_model_work.proofs.Counts.{IsTimed-fresh, IsCounted-fresh, length-fresh_queues}
use Rattle.zk_time.specs.Timeouts.{Timeouts, nothing_armed}
use Rattle.zk_time.proofs.Orders.{IsOrdered-nothing}
use Rattle.zk_queue.specs.declared.ticket.Ticket.{Ticket}
use Rattle.zk_queue.specs.Open as active
use Rattle.zk_work.specs.EngineState.{EngineState, is_there, StandsFor}
use Rattle.zk_work.proofs.Sound.{IsSound-fresh}
use Rattle.zk_work.proofs.Numbered.{numbered_as}

-- all places of a list alike, and the same beyond
alike : {A : Type 0} (n i : ℕ) (a : A) → get_or (replicate n a) i a ≡ a
alike {A} n i a = by (leb_tells n i) where
  by : ((leb n i ≡ true) × (n ≤ i)) ⊎ ((leb n i ≡ false) × (i < n)) → get_or (replicate n a) i a ≡ a
  by (inl past) = get_or_past (replicate n a) i a (let most = past.1 in omega (arith, length-replicate {A = A} n a))
  by (inr inside) = get_or-replicate n i a a inside.1

-- nothing waits, runs or is marked
pub fresh-stands : (items : ℕ) (workers : List ℕ) (started : List Bool) → length workers ≡ length started → length workers ≤ 8 →
    StandsFor (record {
      time = 0;
      entries = 0;
      made = 0;
      running = 0;
      last = replicate items None;
      active = active.nothing_open items (length workers);
      timeouts = nothing_armed items;
      waits = [];
      queues =
          fresh_queues workers started;
    })
    (start_of items workers started)
fresh-stands items workers started same few =
    let long = length-fresh_queues workers started same in
    record {
      whole = record {
        counted = IsCounted-fresh workers started same few;
        timed = IsTimed-fresh;
        fewer = omega arith;
        fewest = omega arith;
        items = length-replicate items None;
        armed = refl;
        ordered = IsOrdered-nothing items;
        queues = long;
        shaped = record {
          marks = length-replicate items active.unmarked;
          lines = length-replicate (length workers) [];
          runs = length-replicate (length workers) None;
        };
        above = All-replicate (All (λ (t : Ticket). t.number < 0)) (length workers) [] (All-nil (λ (t : Ticket). t.number < 0));
        busy = λ q t is. absurd (none t (sym (alike (length workers) q None) ∙ is));
        known = λ q t is. absurd (none t (sym (alike (length workers) q None) ∙ is));
        numbered = numbered_as (active.nothing_open items (length workers)) [] items []
            (λ q. alike (length workers) q []) (λ q. ap option_to_list (alike (length workers) q None)) (IsSound-fresh items) 0
            refl refl;
      };
      time = refl;
      entries = refl;
      queues = refl;
      arms = refl;
      waits = record { left = refl; there = All-nil (λ (w : Wait). is_there [] w.awaited w.answered ≡ true) };
      admissions = record {
        items = refl;
        made = refl;
        running = refl;
        last = λ i. alike items i None;
        lines = λ q. alike (length workers) q [];
        runs = λ q. ap option_to_list (alike (length workers) q None);
        marks = λ i. alike items i active.unmarked;
        sound = IsSound-fresh items;
      };
    } where
      none : (t : Ticket) → None ≡ Some t → ⊥
      none t is = cc

-- made of parts that are as said
pub fresh_is : (items : ℕ) (workers : List ℕ) (started : List Bool) (waits : List Wait) (last : List (Option ℕ))
    (o : active.Open) (t : Timeouts) (queues : List Queue) →
    waits ≡ [] → last ≡ replicate items None → o ≡ active.nothing_open items (length workers) → t ≡ nothing_armed items →
    queues ≡ fresh_queues workers started → length workers ≡ length started → length workers ≤ 8 →
    StandsFor (record {
      time = 0;
      entries = 0;
      made = 0;
      running = 0;
      last = last;
      active = o;
      timeouts = t;
      waits = waits;
      queues = queues;
    }) (start_of items workers started)
fresh_is items workers started waits last o t queues none last_is o_is t_is queues_are same few =
    let K : List Wait → List (Option ℕ) → active.Open → Timeouts → List Queue → EngineState =
    λ ws l o t q. record {
      time = 0;
      entries = 0;
      made = 0;
      running = 0;
      last = l;
      active = o;
      timeouts = t;
      waits = ws;
      queues = q;
    } in
    let S : EngineState → Type 0 = λ k. StandsFor k (start_of items workers started) in
    let O = active.nothing_open items (length workers) in
    let N = replicate items None in
    subst (λ ws. S (K ws last o t queues)) (sym none)
    (subst (λ l. S (K [] l o t queues)) (sym last_is) (subst (λ o. S (K [] N o t queues)) (sym o_is)
    (subst (λ t. S (K [] N O t queues)) (sym t_is) (subst (λ qs. S (K [] N O (nothing_armed items) qs)) (sym queues_are)
    (fresh-stands items workers started same few)))))
