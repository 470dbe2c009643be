-- A step of a player is read exactly.
use Rattle.std.proofs.Common.{◌≡◌, ◌⊎◌, ℕ, ◌+◌, ◌-◌, ◌<◌, suc, Bool, true, false, ◌&&◌, not, ltb, cond, Some, None, List, [], ◌∷◌, ◌++◌, length, refl, sym, ap, subst, inl, inr, ◌∙◌, arith}
use Rattle.std.specs.Prelude.{option_map, option_and_then, slice_get, codes}
use Rattle.std.specs.Fmt.{decimal}
use Rattle.std.specs.List.{list_all}
use Rattle.std.specs.Option.{option_map_or}
use Rattle.std.proofs.lemmas.Bool.{cases_Bool, cond-true, and_parts, and_from, ne_eqb, false≢true, ltb-true, ltb-false}
use Rattle.std.proofs.lemmas.List.{append_assoc, length-append}
use Rattle.std.proofs.lemmas.List.Folds.{list_all-append}
use Rattle.std.proofs.lemmas.Option.{same_Some, cond_some, none-some, slice_get_within, option_and_then_some}
use Rattle.zk_base.specs.declared.ids.Who.{Who}
use Rattle.zk_base.specs.Limits.{longest_name}
use Rattle.zk_base.specs.Names.{is_name, is_spelled, is_reserved, is_lower, is_name_byte}
use Rattle.zk_line.specs.declared.types.Decl.{Decl}
use Rattle.zk_line.specs.declared.types.Decl.TheVariants.{Thread, Queue, Item, Sem, Msgq, Signal, Listener, Sub, Chan}
use Rattle.zk_line.specs.Objects.{AreNames, places, is_thread, is_queue, is_at, has_kind_of, number_of, object_of, name_of, name_at}
use Rattle.zk_line.proofs.Lists.{slice_get-append_left}
use Rattle.zk_line.proofs.Options.{one_part}
use Rattle.zk_scenario.specs.Players.{players, prio_of, who_of}
use Rattle.zk_trace.specs.Exact.{is_plain, IsPlain, Lacks, IsExact}
use Rattle.zk_trace.specs.Fields.{object_named, number_named, narrow_of}
use Rattle.zk_trace.specs.Looks.{spot_word}
use Rattle.zk_trace.specs.Names.{object_name, player_name}
use Rattle.zk_trace.specs.Sides.{halves, pair}
use Rattle.zk_trace.specs.SpotRead.{point, player_made, player_at, player_of, named_step, step_of, known_step, spot_of, IsStep, IsSpot}
use Rattle.zk_trace.proofs.NameWords.{declared, object-spelled, is_name-at, number_named_exact, queue_exact}
use Rattle.zk_trace.proofs.NumberWords.{narrow_exact}
use Rattle.zk_trace.proofs.Sides.{halves-again, halves-spelled}

-- Players.

counts_thread : (d : Decl) → is_thread d ≡ true → has_kind_of d ≡ is_thread
counts_thread (Thread name prio user) is = refl
counts_thread (Queue name prio on) is = absurd (false≢true is)
counts_thread (Item name) is = absurd (false≢true is)
counts_thread (Sem name initial limit raw) is = absurd (false≢true is)
counts_thread (Msgq name size capacity raw) is = absurd (false≢true is)
counts_thread (Signal name raw) is = absurd (false≢true is)
counts_thread (Listener name) is = absurd (false≢true is)
counts_thread (Sub name capacity) is = absurd (false≢true is)
counts_thread (Chan name message valid observers) is = absurd (false≢true is)

thread_made : (threads number : ℕ) (d : Decl) → is_thread d ≡ true → player_made threads number d ≡ Some number
thread_made threads number (Thread name prio user) is = refl
thread_made threads number (Queue name prio on) is = absurd (false≢true is)
thread_made threads number (Item name) is = absurd (false≢true is)
thread_made threads number (Sem name initial limit raw) is = absurd (false≢true is)
thread_made threads number (Msgq name size capacity raw) is = absurd (false≢true is)
thread_made threads number (Signal name raw) is = absurd (false≢true is)
thread_made threads number (Listener name) is = absurd (false≢true is)
thread_made threads number (Sub name capacity) is = absurd (false≢true is)
thread_made threads number (Chan name message valid observers) is = absurd (false≢true is)

queue_made : (threads number : ℕ) (d : Decl) → is_queue d ≡ true → player_made threads number d ≡ Some (threads + number)
queue_made threads number (Thread name prio user) is = absurd (false≢true is)
queue_made threads number (Queue name prio on) is = refl
queue_made threads number (Item name) is = absurd (false≢true is)
queue_made threads number (Sem name initial limit raw) is = absurd (false≢true is)
queue_made threads number (Msgq name size capacity raw) is = absurd (false≢true is)
queue_made threads number (Signal name raw) is = absurd (false≢true is)
queue_made threads number (Listener name) is = absurd (false≢true is)
queue_made threads number (Sub name capacity) is = absurd (false≢true is)
queue_made threads number (Chan name message valid observers) is = absurd (false≢true is)

-- a player is a thread or the worker of a queue
made_by : (threads number p : ℕ) (d : Decl) → player_made threads number d ≡ Some p → ((is_thread d ≡ true) × (number ≡ p)) ⊎ ((is_queue d ≡ true) × (threads + number ≡ p))
made_by threads number p (Thread name prio user) made = inl (refl, same_Some number p made)
made_by threads number p (Queue name prio on) made = inr (refl, same_Some (threads + number) p made)
made_by threads number p (Item name) made = absurd (none-some p made)
made_by threads number p (Sem name initial limit raw) made = absurd (none-some p made)
made_by threads number p (Msgq name size capacity raw) made = absurd (none-some p made)
made_by threads number p (Signal name raw) made = absurd (none-some p made)
made_by threads number p (Listener name) made = absurd (none-some p made)
made_by threads number p (Sub name capacity) made = absurd (none-some p made)
made_by threads number p (Chan name message valid observers) made = absurd (none-some p made)

slice_get-append_right : {A : Type 0} (xs ys : List A) (k : ℕ) → slice_get (xs ++ ys) (length xs + k) ≡ slice_get ys k
slice_get-append_right [] ys k = let same : 0 + k ≡ k = omega arith in ap (slice_get ys) same
slice_get-append_right (x ∷ xs) ys k =
    let same : length (x ∷ xs) + k ≡ suc (length xs + k) = omega arith in
    ap (slice_get (x ∷ (xs ++ ys))) same ∙ slice_get-append_right xs ys k

-- the object of a name, where its declaration passes a test
record IsNamed (test : Decl → Bool) (decls : List Decl) (word : List ℕ) (number : ℕ) : Type 0 where
  object : ℕ
  found : object_of decls word ≡ Some object
  is : is_at test decls object ≡ true
  counts : number_of decls object ≡ number

named_by : (test : Decl → Bool) (decls : List Decl) (word : List ℕ) (number : ℕ) → number_named test decls word ≡ Some number → IsNamed test decls word number
named_by test decls word number said =
    let o = one_part (number_of decls) (object_named test decls word) number said in
    option_and_then_some (λ object. cond (is_at test decls object) (Some object) None) (object_of decls word) o.0 o.1
    (λ object found given.
    let is = cond_some (is_at test decls object) object o.0 given in
    record { object = object; found = found; is = is.0; counts = ap (number_of decls) is.1 ∙ o.2 })

naming : (test : Decl → Bool) (decls : List Decl) (word : List ℕ) (object : ℕ) → object_of decls word ≡ Some object → is_at test decls object ≡ true → number_named test decls word ≡ Some (number_of decls object)
naming test decls word object found is =
    ap (λ o. option_map (number_of decls) (option_and_then (λ x. cond (is_at test decls x) (Some x) None) o)) found
    ∙ ap (option_map (number_of decls)) (cond-true (is_at test decls object) (Some object) None is)

module _ (decls : List Decl) (are : AreNames decls) where
  -- a thread, by its number among the threads
  thread_exact : IsExact (λ i. object_name decls (slice_get (places is_thread decls) i)) (λ i. i < length (places is_thread decls)) (number_named is_thread decls)
  thread_exact = number_named_exact decls are is_thread counts_thread

  -- how many threads there are
  abbrev threads : ℕ
  threads = length (places is_thread decls)

  thread_name : (i : ℕ) → i < threads → player_name decls i ≡ object_name decls (slice_get (places is_thread decls) i)
  thread_name i below = ap (object_name decls) (slice_get-append_left (places is_thread decls) (places is_queue decls) i below)

  worker_name : (i : ℕ) → player_name decls (threads + i) ≡ object_name decls (slice_get (places is_queue decls) i)
  worker_name i = ap (object_name decls) (slice_get-append_right (places is_thread decls) (places is_queue decls) i)

  -- each player is a thread or a worker
  either : (p : ℕ) → p < length (players decls) → (p < threads) ⊎ ((q : ℕ) × (p ≡ threads + q) × (q < length (places is_queue decls)))
  either p below = elim (cases_Bool (ltb p threads)) [
    | inl thread ↦ inl (ltb-true p threads thread)
    | inr other ↦
        let past = ltb-false p threads other in
        let all = length-append (places is_thread decls) (places is_queue decls) in
        inr (p - threads, omega arith, omega arith)
  ]

  at_thread : (object : ℕ) → is_at is_thread decls object ≡ true → player_at decls object ≡ Some (number_of decls object)
  at_thread object is =
      let o = declared is_thread decls object is in
      ap (option_and_then (player_made threads (number_of decls object))) o.there ∙ thread_made threads (number_of decls object) o.d o.passes

  at_queue : (object : ℕ) → is_at is_queue decls object ≡ true → player_at decls object ≡ Some (threads + number_of decls object)
  at_queue object is =
      let o = declared is_queue decls object is in
      ap (option_and_then (player_made threads (number_of decls object))) o.there ∙ queue_made threads (number_of decls object) o.d o.passes

  player-again : (p : ℕ) → p < length (players decls) → player_of decls (player_name decls p) ≡ Some p
  player-again p below = elim (either p below) [
    | inl thread ↦
        let n = named_by is_thread decls (player_name decls p) p (ap (number_named is_thread decls) (thread_name p thread) ∙ thread_exact.again p thread) in
        ap (option_and_then (player_at decls)) n.found ∙ at_thread n.object n.is ∙ ap Some n.counts
    | inr worker ↦
        let q = worker.0 in
        let name = ap (player_name decls) worker.1 ∙ worker_name q in
        let n = named_by is_queue decls (player_name decls p) q (ap (number_named is_queue decls) name ∙ (queue_exact decls are).again q worker.2) in
        ap (option_and_then (player_at decls)) n.found ∙ at_queue n.object n.is ∙ ap Some (ap (λ i. threads + i) n.counts ∙ sym worker.1)
  ]

  player-spelled : (word : List ℕ) (p : ℕ) → player_of decls word ≡ Some p → (word ≡ player_name decls p) × (p < length (players decls))
  player-spelled word p said = option_and_then_some (player_at decls) (object_of decls word) p said
      (λ object found made. option_and_then_some (player_made threads (number_of decls object)) (slice_get decls object) p made
      (λ d there makes. by object found d there (made_by threads (number_of decls object) p d makes))) where
        all : length (players decls) ≡ threads + length (places is_queue decls)
        all = length-append (places is_thread decls) (places is_queue decls)

        by : (object : ℕ) → object_of decls word ≡ Some object → (d : Decl) → slice_get decls object ≡ Some d
            → ((is_thread d ≡ true) × (number_of decls object ≡ p)) ⊎ ((is_queue d ≡ true) × (threads + number_of decls object ≡ p)) → (word ≡ player_name decls p) × (p < length (players decls))
        by object found d there (inl thread) =
            let n = thread_exact.spelled word (number_of decls object) (naming is_thread decls word object found (ap (λ o. option_map_or is_thread o false) there ∙ thread.0)) in
            let below = n.1 in
            let same = thread.1 in
            let both = all in
            (n.0 ∙ sym (thread_name (number_of decls object) below) ∙ ap (player_name decls) thread.1, omega arith)
        by object found d there (inr worker) =
            let n = (queue_exact decls are).spelled word (number_of decls object) (naming is_queue decls word object found (ap (λ o. option_map_or is_queue o false) there ∙ worker.0)) in
            let below = n.1 in
            let same = worker.1 in
            let both = all in
            (n.0 ∙ sym (worker_name (number_of decls object)) ∙ ap (player_name decls) worker.1, omega arith)

  player-plain : (p : ℕ) → p < length (players decls) → IsPlain (player_name decls p)
  player-plain p below = elim (either p below) [
    | inl thread ↦ subst IsPlain (sym (thread_name p thread)) (thread_exact.plain p thread)
    | inr worker ↦ subst IsPlain (sym (ap (player_name decls) worker.1 ∙ worker_name worker.0)) ((queue_exact decls are).plain worker.0 worker.2)
  ]

  -- a player, by its name
  pub player_exact : IsExact (player_name decls) (λ p. p < length (players decls)) (player_of decls)
  player_exact = record { again = player-again; spelled = player-spelled; plain = player-plain }

-- the worker of a queue stands among those of all queues
pub worker_among : (decls : List Decl) → AreNames decls → (object : ℕ) → is_at is_queue decls object ≡ true → number_of decls object < length (places is_queue decls)
worker_among decls are object is =
    let o = declared is_queue decls object is in
    ((queue_exact decls are).spelled (name_of o.d) (number_of decls object) (naming is_queue decls (name_of o.d) object (are.distinct object o.d o.there) is)).1

-- Steps.

lacks_by : (test : ℕ → Bool) (c : ℕ) → test c ≡ false → (word : List ℕ) → list_all test word ≡ true → Lacks c word
lacks_by test c fails [] all = tt
lacks_by test c fails (b ∷ bs) all =
    let parts = and_parts (test b) (list_all test bs) all in
    (ne_eqb b c (λ same. false≢true (sym fails ∙ sym (ap test same) ∙ parts.0)), lacks_by test c fails bs parts.1)

-- no name has a point
name_lacks : (name : List ℕ) → is_name name ≡ true → Lacks point name
name_lacks [] named = tt
name_lacks (b ∷ bs) named =
    let spelled = and_parts (is_spelled (b ∷ bs)) (not (is_reserved (b ∷ bs))) named in
    let parts = and_parts (is_lower b && ltb (length bs) longest_name) (list_all is_name_byte bs) spelled.0 in
    let first = and_parts (is_lower b) (ltb (length bs) longest_name) parts.0 in
    let lower = lacks_by is_lower point refl (b ∷ []) (and_from (is_lower b) true first.0 refl) in
    (lower.0, lacks_by is_name_byte point refl bs parts.1)

plain_joined : (front rest : List ℕ) → IsPlain front → list_all is_plain rest ≡ true → IsPlain (front ++ rest)
plain_joined [] rest plain all = absurd plain
plain_joined (b ∷ bs) rest plain all = list_all-append is_plain (b ∷ bs) rest ∙ and_from (list_all is_plain (b ∷ bs)) (list_all is_plain rest) plain all

plain_all : (word : List ℕ) → IsPlain word → list_all is_plain word ≡ true
plain_all [] plain = absurd plain
plain_all (b ∷ bs) plain = plain

module _ (decls : List Decl) (are : AreNames decls) where
  -- the word of a step
  abbrev step_word : ℕ × ℕ → List ℕ
  step_word step = spot_word decls step.0 step.1

  step-joined : (step : ℕ × ℕ) → step_word step ≡ player_name decls step.0 ++ point ∷ decimal step.1
  step-joined step = append_assoc (player_name decls step.0) (codes ".") (decimal step.1)

  lacks_point : (p : ℕ) → p < length (players decls) → Lacks point (player_name decls p)
  lacks_point p below = option_and_then_some (player_at decls) (object_of decls (player_name decls p)) p ((player_exact decls are).again p below)
      (λ object found made.
      let is = object-spelled decls (player_name decls p) object found in
      subst (Lacks point) (sym is.0) (name_lacks (name_at decls object) (is_name-at decls are object is.1)))

  step-again : (step : ℕ × ℕ) → IsStep decls step → step_of decls (step_word step) ≡ Some step
  step-again step fits =
      ap (step_of decls) (step-joined step)
      ∙ ap (option_and_then (named_step decls)) (halves-again point (player_name decls step.0) (decimal step.1) (lacks_point step.0 fits.0))
      ∙ ap (option_and_then (λ p. option_map (pair p) (narrow_of (decimal step.1)))) ((player_exact decls are).again step.0 fits.0)
      ∙ ap (option_map (pair step.0)) (narrow_exact.again step.1 fits.1)

  step-spelled : (word : List ℕ) (step : ℕ × ℕ) → step_of decls word ≡ Some step → (word ≡ step_word step) × IsStep decls step
  step-spelled word step said = option_and_then_some (named_step decls) (halves point word) step said
      (λ h cut more. option_and_then_some (λ p. option_map (pair p) (narrow_of h.1)) (player_of decls h.0) step more
      (λ p is most.
      let n = one_part (pair p) (narrow_of h.1) step most in
      let name = (player_exact decls are).spelled h.0 p is in
      let number = narrow_exact.spelled h.1 n.0 n.1 in
      subst (λ s. (word ≡ step_word s) × IsStep decls s) n.2 (
        halves-spelled point word h.0 h.1 cut ∙ ap (λ l. l ++ point ∷ h.1) name.0 ∙ ap (λ l. player_name decls p ++ point ∷ l) number.0 ∙ sym (step-joined (p, n.0)),
        (name.1, number.1),
      )))

  step-plain : (step : ℕ × ℕ) → IsStep decls step → IsPlain (step_word step)
  step-plain step fits =
      subst IsPlain (sym (step-joined step))
      (plain_joined (player_name decls step.0) (point ∷ decimal step.1) ((player_exact decls are).plain step.0 fits.0) (plain_all (decimal step.1) (narrow_exact.plain step.1 fits.1)))

  -- a player, by its name, and the number of one of its steps
  pub step_exact : IsExact (λ step. spot_word decls step.0 step.1) (IsStep decls) (step_of decls)
  step_exact = record { again = step-again; spelled = step-spelled; plain = step-plain }

  -- a player as the services know it has its number
  pub who-number : (p : ℕ) (who : Who) → who_of decls p ≡ Some who → (who.number ≡ p) × (p < length (players decls))
  who-number p who is = option_and_then_some (λ object. option_map (λ d. record { number = p; prio = prio_of d }) (slice_get decls object)) (slice_get (players decls) p) who is
      (λ object at made.
      let d = one_part {B = Who} (λ d. record { number = p; prio = prio_of d }) (slice_get decls object) who made in
      (sym (ap (λ w. w.number) d.2), slice_get_within (players decls) p object at))

  -- the same, with the player as the services know it
  pub spot_exact : IsExact (λ spot. spot_word decls spot.0.number spot.1) (IsSpot decls) (spot_of decls)
  spot_exact = record { again = again; spelled = spelled; plain = plain } where
    step_in : (spot : Who × ℕ) → IsSpot decls spot → IsStep decls (spot.0.number, spot.1)
    step_in spot fits = ((who-number spot.0.number spot.0 fits.0).1, fits.1)

    again : (spot : Who × ℕ) → IsSpot decls spot → spot_of decls (spot_word decls spot.0.number spot.1) ≡ Some spot
    again spot fits =
        ap (option_and_then (known_step decls)) (step-again (spot.0.number, spot.1) (step_in spot fits))
        ∙ ap (option_map (λ who. pair who spot.1)) fits.0

    spelled : (word : List ℕ) (spot : Who × ℕ) → spot_of decls word ≡ Some spot → (word ≡ spot_word decls spot.0.number spot.1) × IsSpot decls spot
    spelled word spot said = option_and_then_some (known_step decls) (step_of decls word) spot said
        (λ step is more.
        let who = one_part (λ w. pair w step.1) (who_of decls step.0) spot more in
        let found = step-spelled word step is in
        let number = (who-number step.0 who.0 who.1).0 in
        subst (λ s. (word ≡ spot_word decls s.0.number s.1) × IsSpot decls s) who.2 (
          found.0 ∙ ap (λ p. spot_word decls p step.1) (sym number),
          (ap (who_of decls) number ∙ who.1, found.1.1),
        ))

    plain : (spot : Who × ℕ) → IsSpot decls spot → IsPlain (spot_word decls spot.0.number spot.1)
    plain spot fits = step-plain (spot.0.number, spot.1) (step_in spot fits)
