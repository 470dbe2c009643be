-- The objects of a kind, one of which is asked.
use Rattle.std.proofs.Common.{◌≡◌, ℕ, zero, suc, ◌<◌, Bool, true, false, Option, Some, None, Result, Ok, Err, List, [], ◌∷◌, ◌++◌, length, set, get_or, refl, sym, ap, subst, ◌∙◌, arith}
use Rattle.std.specs.List.{slice_get}
use Rattle.std.specs.Option.{option_map}
use Rattle.std.specs.Result.{OnErr}
use Rattle.std.proofs.lemmas.List.{map-set, set-set}
use Rattle.std.proofs.lemmas.Option.{slice_get_read}
use Rattle.zk_base.specs.declared.ids.Who.{Who}
use Rattle.zk_base.specs.declared.ids.Entry.{Entry}
use Rattle.zk_base.specs.History.{entry, extended}
use Rattle.zk_base.specs.Legal.{Machine, state_after}
use Rattle.zk_worker.specs.declared.steps.Step.{Step}
use Rattle.zk_worker.specs.declared.steps.StepReply.{StepReply}
use Rattle.zk_worker.specs.Machines.{Machines}
use Rattle.zk_worker.specs.Shown.{Shown, shown_after}
use Rattle.zk_worker.specs.Attempt.{reply_in, Attempted}
use Rattle.zk_worker.proofs.Looking.{reads-whole}
use Rattle.zk_worker.specs.Families.{with_entry, answer_at, closes_at, takes_at}
use Rattle.zk_services.specs.Objects.{starts_of, history_of, histories_of, is_taken, made_of, histories_after, closes_in}

module _ {V S O R : Type 0} (m : Machine S O R) (start : V → S) (history : V → List (Entry O R)) where
  -- an object that takes an operation is there
  pub taken-there : (objects : List (Option V)) (object : ℕ) (op : O) → takes_at (record { machine = m; starts = starts_of start objects }) object op ≡ true → object < length objects
  taken-there [] object op is = absurd (cc)
  taken-there (o ∷ os) zero op is = omega arith
  taken-there (o ∷ os) (suc object) op is = let more = taken-there os object op is in omega arith

  -- it is the one that stands at its number
  pub slot-there : (objects : List (Option V)) (object : ℕ) (slot : Option V) (op : O) → takes_at (record { machine = m; starts = starts_of start objects }) object op ≡ true →
      slot ≡ get_or objects object slot → slice_get objects object ≡ Some slot
  slot-there objects object slot op taken is = slice_get_read objects (length objects) object slot refl (taken-there objects object op taken) is

  -- and takes it by itself
  pub taken-one : (objects : List (Option V)) (object : ℕ) (slot : Option V) (op : O) → slice_get objects object ≡ Some slot →
      takes_at (record { machine = m; starts = starts_of start objects }) object op ≡ true → is_taken m start slot op ≡ true
  taken-one [] object slot op there is = absurd (cc)
  taken-one (None ∷ os) zero slot op there is = absurd (cc)
  taken-one (Some v ∷ os) zero slot op there is = let same : Some v ≡ slot = cc in subst (λ (o : Option V). is_taken m start o op ≡ true) same is
  taken-one (o ∷ os) (suc object) slot op there is = taken-one os object slot op there is

  -- its history is the one of its number
  pub history-there : (objects : List (Option V)) (object : ℕ) (slot : Option V) → slice_get objects object ≡ Some slot →
      slice_get (histories_of history objects) object ≡ Some (history_of history slot)
  history-there [] object slot there = absurd (cc)
  history-there (o ∷ os) zero slot there = let same : o ≡ slot = cc in ap (λ (x : Option V). Some (history_of history x)) same
  history-there (o ∷ os) (suc object) slot there = history-there os object slot there

  -- what it answers by itself it answers among the others
  pub answered-one : (objects : List (Option V)) (object : ℕ) (slot : Option V) (step_reply : ℕ → R → ℕ → StepReply) (who : Who) (op : O) → slice_get objects object ≡ Some slot →
      option_map (λ (made : R × ℕ). step_reply object made.0 made.1) (made_of m start history slot who op)
      ≡ answer_at (record { machine = m; starts = starts_of start objects }) (histories_of history objects) step_reply who object op
  answered-one objects object slot step_reply who op there = from objects object there (step_reply object)
    where
      mapped : (f : R → ℕ → StepReply) (n : ℕ) (o : Option R) → option_map (λ (made : R × ℕ). f made.0 made.1) (option_map (λ reply. (reply, n)) o) ≡ option_map (λ reply. f reply n) o
      mapped f n None = refl
      mapped f n (Some r) = refl

      from : (objects : List (Option V)) (object : ℕ) → slice_get objects object ≡ Some slot → (f : R → ℕ → StepReply) →
          option_map (λ (made : R × ℕ). f made.0 made.1) (made_of m start history slot who op)
          ≡ answer_at (record { machine = m; starts = starts_of start objects }) (histories_of history objects) (λ object. f) who object op
      from [] object there f = absurd (cc)
      from (None ∷ os) zero there f =
          let same : None ≡ slot = cc in
          ap (λ (o : Option V). option_map (λ (made : R × ℕ). f made.0 made.1) (made_of m start history o who op)) (sym same)
      from (Some v ∷ os) zero there f =
          let same : Some v ≡ slot = cc in
          ap (λ (o : Option V). option_map (λ (made : R × ℕ). f made.0 made.1) (made_of m start history o who op)) (sym same)
          ∙ mapped f (length (history v)) (m.reply_of (state_after m (start v) (history v)) who op)
      from (o ∷ os) (suc object) there f = from os object there f

  -- whether it closes what an earlier one began
  pub closes-one : (closes : S → Who → O → Bool) (objects : List (Option V)) (object : ℕ) (slot : Option V) (who : Who) (op : O) → slice_get objects object ≡ Some slot →
      closes_at closes (record { machine = m; starts = starts_of start objects }) (histories_of history objects) who object op ≡ closes_in closes m start history slot who op
  closes-one closes [] object slot who op there = absurd (cc)
  closes-one closes (None ∷ os) zero slot who op there =
      let same : None ≡ slot = cc in
      ap (λ (o : Option V). closes_in closes m start history o who op) same
  closes-one closes (Some v ∷ os) zero slot who op there =
      let same : Some v ≡ slot = cc in
      ap (λ (o : Option V). closes_in closes m start history o who op) same
  closes-one closes (o ∷ os) (suc object) slot who op there = closes-one closes os object slot who op there

  -- where its history stays as it was, all do
  pub histories-same : (objects : List (Option V)) (object : ℕ) (slot slot' : Option V) → slice_get objects object ≡ Some slot →
      history_of history slot' ≡ history_of history slot → histories_of history (set objects object slot') ≡ histories_of history objects
  histories-same [] object slot slot' there same = refl
  histories-same (o ∷ os) zero slot slot' there same =
      let one : o ≡ slot = cc in
      ap (λ (h : List (Entry O R)). h ∷ histories_of history os) (same ∙ ap (history_of history) (sym one))
  histories-same (o ∷ os) (suc object) slot slot' there same = ap (λ (hs : List (List (Entry O R))). history_of history o ∷ hs) (histories-same os object slot slot' there same)

  histories-entry : (objects : List (Option V)) (object : ℕ) (slot slot' : Option V) (e : Entry O R) → slice_get objects object ≡ Some slot →
      history_of history slot' ≡ history_of history slot ++ e ∷ [] → histories_of history (set objects object slot') ≡ with_entry (histories_of history objects) object e
  histories-entry [] object slot slot' e there longer = refl
  histories-entry (o ∷ os) zero slot slot' e there longer =
      let one : o ≡ slot = cc in
      ap (λ (h : List (Entry O R)). h ∷ histories_of history os) (longer ∙ ap (λ (x : Option V). history_of history x ++ e ∷ []) (sym one))
  histories-entry (o ∷ os) (suc object) slot slot' e there longer =
      ap (λ (hs : List (List (Entry O R))). history_of history o ∷ hs) (histories-entry os object slot slot' e there longer)

  -- and where it has an entry more, that is all
  pub histories-made : (objects : List (Option V)) (object : ℕ) (slot slot' : Option V) (who : Who) (step : ℕ) (op : O) (made : Option (R × ℕ)) → slice_get objects object ≡ Some slot →
      history_of history slot' ≡ extended (history_of history slot) who step op (option_map (λ (made : R × ℕ). made.0) made) →
      histories_of history (set objects object slot') ≡ histories_after (histories_of history objects) object who step op made
  histories-made objects object slot slot' who step op None there longer = histories-same objects object slot slot' there longer
  histories-made objects object slot slot' who step op (Some made) there longer = histories-entry objects object slot slot' (entry who step op made.0) there longer

  -- whatever comes to it, those of the others stay
  pub histories-others : (objects : List (Option V)) (object : ℕ) (slot' : Option V) → set (histories_of history (set objects object slot')) object [] ≡ set (histories_of history objects) object []
  histories-others objects object slot' =
      ap (λ (hs : List (List (Entry O R))). set hs object []) (map-set (history_of history) objects object slot')
      ∙ set-set (histories_of history objects) object (history_of history slot') []

  -- the states that they started in stay
  pub starts-same : (objects : List (Option V)) (object : ℕ) (slot slot' : Option V) → slice_get objects object ≡ Some slot →
      option_map start slot' ≡ option_map start slot → starts_of start (set objects object slot') ≡ starts_of start objects
  starts-same [] object slot slot' there same = refl
  starts-same (o ∷ os) zero slot slot' there same =
      let one : o ≡ slot = cc in
      ap (λ (s : Option S). s ∷ starts_of start os) (same ∙ ap (option_map start) (sym one))
  starts-same (o ∷ os) (suc object) slot slot' there same = ap (λ (ss : List (Option S)). option_map start o ∷ ss) (starts-same os object slot slot' there same)

-- what an attempt at one of the objects is, on services that nobody else uses: they show `write` of the kind's histories
module _ {O R : Type 0} (m : Machines) (who : Who) (number object : ℕ) (op : O) (step : Step) (tell : R → ℕ → StepReply) (old : Shown) (write : List (List (Entry O R)) → Shown)
    (hs : List (List (Entry O R))) (stays : write hs ≡ old) (whole : old.looks ≡ None)
    (adds : (r : R) (place : ℕ) → shown_after old who number step (tell r place) ≡ write (with_entry hs object (entry who number op r))) where
  made-at : (hs' : List (List (Entry O R))) (made : Option (R × ℕ)) → option_map (λ (made : R × ℕ). tell made.0 made.1) made ≡ reply_in m old who step →
      hs' ≡ histories_after hs object who number op made → Attempted true m who number step old (write hs') (Ok (option_map (λ (made : R × ℕ). tell made.0 made.1) made))
  made-at hs' None said is =
      let nothing = ap write is ∙ stays in
      (nothing, subst (λ (x : Shown). reply_in m x who step ≡ None) (sym nothing) (sym said))
  made-at hs' (Some made) said is = record {
    found = old;
    since = refl;
    replied = sym said;
    read_at = reads-whole m old who step (tell made.0 made.1) whole (sym said);
    shown = ap write is ∙ sym (adds made.0 made.1);
  }

  -- the same, of the step and of what is told in the code
  pub attempted-at : (hs' : List (List (Entry O R))) (made : Option (R × ℕ)) (step' : Step) (told : Option StepReply) → option_map (λ (made : R × ℕ). tell made.0 made.1) made ≡ reply_in m old who step →
      hs' ≡ histories_after hs object who number op made → step' ≡ step → option_map (λ (made : R × ℕ). tell made.0 made.1) made ≡ told → Attempted true m who number step' old (write hs') (Ok told)
  attempted-at hs' made step' told said is asked tells =
      subst (λ (s : Step). Attempted true m who number s old (write hs') (Ok told)) (sym asked)
      (subst (λ (o : Option StepReply). Attempted true m who number step old (write hs') (Ok o)) tells (made-at hs' made said is))

-- what wanted memory was none that wants none
pub when-wanted : {A E : Type 0} (r : Result A E) (b : Bool) → b ≡ false → OnErr r (b ≡ false)
when-wanted (Ok a) b is = tt
when-wanted (Err e) b is = is
