-- What is known while the attempts of a player are made in order.
use Rattle.std.proofs.Common.{◌≡◌, ◌⊎◌, inl, inr, ℕ, get_or, zero, suc, ◌+◌, ◌-◌, ◌^◌, ◌<◌, ◌≤◌, Bool, false, Option, Some, None, Result, Ok, Err, List, length, sym, ap, subst, ◌∙◌, arith}
use Rattle.std.specs.List.{slice_get}
use Rattle.std.specs.Result.{OnErr}
use Rattle.std.proofs.lemmas.Option.{slice_get_cases}
use Rattle.zk_base.specs.declared.ids.Who.{Who}
use Rattle.zk_base.specs.declared.errors.NoMemory.{NoMemory}
use Rattle.zk_base.specs.Causes.{Rose}
use Rattle.zk_base.proofs.Causes.{Rose-from}
use Rattle.zk_scenario.specs.Content.{Content}
use Rattle.zk_worker.specs.declared.steps.Step.{Step}
use Rattle.zk_worker.specs.declared.steps.StepReply.{StepReply}
use Rattle.zk_worker.specs.Machines.{Machines}
use Rattle.zk_worker.specs.Shown.{Shown, OnlyOthersCame}
use Rattle.zk_worker.specs.Attempt.{Counts, NoneFell, IsMade, reply_in, Attempted}
use Rattle.zk_worker.specs.Places.{PlayerPlace}
use Rattle.zk_worker.specs.Protocol.{attempts}
use Rattle.zk_worker.specs.Playing.{HasWanted, WasTried, WereTried, WasFirst, WasNone, made_of, Tried}
use Rattle.zk_worker.proofs.Between.{between-none, between-both}

-- a count that rose has risen still when none fell since
pub rose-since : (a b c : ℕ) → Rose a b → b ≤ c → c ≤ 2 ^ 64 - 1 → Rose a c
rose-since a b c (inl less) kept most = inl (omega arith)
rose-since a b c (inr full) kept most = inr (omega arith)

-- what was tried before a moment was tried before a later one
pub tried-since : (alone : Bool) (m : Machines) (who : Who) (ahead : List Step) (many : ℕ) (old mid new : Shown) (counts counts' counts'' : Counts) →
    WereTried alone m who ahead many old mid counts counts' → OnlyOthersCame alone who.number mid new → NoneFell counts' counts'' → WereTried alone m who ahead many old new counts counts''
tried-since alone m who ahead many old mid new counts counts' counts'' tried others kept = λ k step below is.
    let was = tried k step below is in
    record {
      found = was.found;
      since = was.since;
      until = between-both alone who.number was.found mid new was.until others;
      impossible = was.impossible;
      rose = rose-since (counts step) (counts' step) (counts'' step) was.rose (kept step).0 (kept step).1;
    }

lower-or-last : (k n : ℕ) → k < n + 1 → (k < n) ⊎ (k ≡ n)
lower-or-last k zero low = inr (omega arith)
lower-or-last zero (suc n) low = inl (omega arith)
lower-or-last (suc k) (suc n) low = further (lower-or-last k n (omega arith))
  where
    further : (k < n) ⊎ (k ≡ n) → (suc k < suc n) ⊎ (suc k ≡ suc n)
    further (inl less) = inl (omega arith)
    further (inr same) = inr (ap suc same)

-- one attempt more was made, and wasn't possible
pub tried-next : (alone : Bool) (m : Machines) (who : Who) (ahead : List Step) (many : ℕ) (last : Step) (old mid new : Shown) (counts counts' counts'' : Counts) →
    WereTried alone m who ahead many old mid counts counts' → slice_get ahead many ≡ Some last → OnlyOthersCame alone who.number old mid → OnlyOthersCame alone who.number mid new →
    reply_in m new who last ≡ None → Rose (counts' last) (counts'' last) → ((step : Step) → counts step ≤ counts' step) → NoneFell counts' counts'' →
    WereTried alone m who ahead (many + 1) old new counts counts''
tried-next alone m who ahead many last old mid new counts counts' counts'' tried is before others impossible rose kept none_fell = λ k step below there.
    by_place k step there (lower-or-last k many below)
  where
    by_place : (k : ℕ) (step : Step) → slice_get ahead k ≡ Some step → (k < many) ⊎ (k ≡ many) → WasTried alone m who old new counts counts'' step
    by_place k step there (inl earlier) = tried-since alone m who ahead many old mid new counts counts' counts'' tried others none_fell k step earlier there
    by_place k step there (inr same) =
        let both : Some last ≡ Some step = sym is ∙ ap (slice_get ahead) (sym same) ∙ there in
        let one : last ≡ step = cc in
        subst (λ (x : Step). WasTried alone m who old new counts counts'' x) one (record {
          found = new;
          since = between-both alone who.number old mid new before others;
          until = between-none alone who.number new;
          impossible = impossible;
          rose = Rose-from (counts last) (counts' last) (counts'' last) (kept last) rose;
        })

-- an attempt is made, behind those that weren't possible
pub first-made : (alone : Bool) (m : Machines) (who : Who) (number : ℕ) (ahead : List Step) (many : ℕ) (step : Step) (reply : StepReply) (old mid new : Shown) (counts counts' counts'' : Counts) →
    WereTried alone m who ahead many old mid counts counts' → slice_get ahead many ≡ Some step → OnlyOthersCame alone who.number old mid →
    IsMade alone m who number step reply mid new → NoneFell counts' counts'' → WasFirst alone m who number ahead step reply old new counts counts''
first-made alone m who number ahead many step reply old mid new counts counts' counts'' tried is before made none_fell = record {
  index = many;
  is_there = is;
  made = record {
    found = made.found;
    since = between-both alone who.number old mid made.found before made.since;
    replied = made.replied;
    read_at = made.read_at;
    shown = made.shown;
  };
  tried = tried-since alone m who ahead many old mid made.found counts counts' counts'' tried made.since none_fell;
}

-- all attempts were made, and none was possible
pub none-left : (alone : Bool) (m : Machines) (who : Who) (ahead : List Step) (many : ℕ) (old new : Shown) (counts counts' : Counts) →
    WereTried alone m who ahead many old new counts counts' → length ahead ≤ many → OnlyOthersCame alone who.number old new → WasNone alone m who ahead old new counts counts'
none-left alone m who ahead many old new counts counts' tried all before = record {
  others = before;
  tried = λ k step below there. tried k step (omega arith) there;
}

-- behind the last there is none
past : (xs : List Step) (k : ℕ) → slice_get xs k ≡ None → length xs ≤ k
past xs k none = by_place (slice_get_cases xs k).1
  where
    by_place : ((x : Step) × (k < length xs) × (slice_get xs k ≡ Some x) × (get_or xs k x ≡ x)) ⊎ ((length xs ≤ k) × (slice_get xs k ≡ None)) → length xs ≤ k
    by_place (inl there) = let some = there.2 in absurd cc
    by_place (inr behind) = behind.0

-- all attempts were made where there is no further one, and none was possible
pub none-behind : (alone : Bool) (m : Machines) (who : Who) (ahead : List Step) (many : ℕ) (old new : Shown) (counts counts' : Counts) →
    WereTried alone m who ahead many old new counts counts' → slice_get ahead many ≡ None → OnlyOthersCame alone who.number old new → WasNone alone m who ahead old new counts counts'
none-behind alone m who ahead many old new counts counts' tried none before =
    none-left alone m who ahead many old new counts counts' tried (past ahead many none) before

-- what came of the attempts, by whether one was made
pub tried-some : (alone : Bool) (m : Machines) (who : Who) (number : ℕ) (ahead : List Step) (step : Step) (reply : StepReply) (old new : Shown) (counts counts' : Counts) (made : Option (Step × StepReply)) →
    Tried alone m who number ahead old new counts counts' made → made ≡ Some (step, reply) → WasFirst alone m who number ahead step reply old new counts counts'
tried-some alone m who number ahead step reply old new counts counts' made tried is =
    subst (λ (o : Option (Step × StepReply)). Tried alone m who number ahead old new counts counts' o) is tried

pub tried-none : (alone : Bool) (m : Machines) (who : Who) (number : ℕ) (ahead : List Step) (old new : Shown) (counts counts' : Counts) (made : Option (Step × StepReply)) →
    Tried alone m who number ahead old new counts counts' made → made ≡ None → WasNone alone m who ahead old new counts counts'
tried-none alone m who number ahead old new counts counts' made tried is =
    subst (λ (o : Option (Step × StepReply)). Tried alone m who number ahead old new counts counts' o) is tried

-- none was made, and what was made is still none
pub none-made : (alone : Bool) (m : Machines) (who : Who) (number : ℕ) (ahead : List Step) (old new : Shown) (counts counts' : Counts) (made : Option (Step × StepReply)) →
    made ≡ None → WasNone alone m who ahead old new counts counts' → Tried alone m who number ahead old new counts counts' made
none-made alone m who number ahead old new counts counts' made is none =
    subst (λ (o : Option (Step × StepReply)). Tried alone m who number ahead old new counts counts' o) (sym is) none

-- the same attempt, as the start of the call has its services and its player
attempted-same : (alone alone' : Bool) (m m' : Machines) (who who' : Who) (number number' : ℕ) (step : Step) (old new : Shown) (result : Result (Option StepReply) NoMemory) →
    alone' ≡ alone → m' ≡ m → who' ≡ who → number' ≡ number → Attempted alone' m' who' number' step old new result → Attempted alone m who number step old new result
attempted-same alone alone' m m' who who' number number' step old new result same_alone same_m same_who same_number attempted =
    subst (λ (n : ℕ). Attempted alone m who n step old new result) same_number
    (subst (λ (w : Who). Attempted alone m w number' step old new result) same_who
    (subst (λ (x : Machines). Attempted alone x who' number' step old new result) same_m
    (subst (λ (b : Bool). Attempted b m' who' number' step old new result) same_alone attempted)))

-- an attempt that was made, or wasn't possible, by its answer
pub attempted-some : (alone alone' : Bool) (m m' : Machines) (who who' : Who) (number number' : ℕ) (step : Step) (old new : Shown)
    (answer : Option StepReply) (reply : StepReply) → alone' ≡ alone → m' ≡ m → who' ≡ who → number' ≡ number →
    Attempted alone' m' who' number' step old new (Ok answer) → answer ≡ Some reply → IsMade alone m who number step reply old new
attempted-some alone alone' m m' who who' number number' step old new answer reply same_alone same_m same_who same_number attempted is =
    subst (λ (o : Option StepReply). Attempted alone m who number step old new (Ok o)) is
    (attempted-same alone alone' m m' who who' number number' step old new (Ok answer) same_alone same_m same_who same_number attempted)

pub attempted-none : (alone alone' : Bool) (m m' : Machines) (who who' : Who) (number number' : ℕ) (step : Step) (old new : Shown)
    (answer : Option StepReply) → alone' ≡ alone → m' ≡ m → who' ≡ who → number' ≡ number →
    Attempted alone' m' who' number' step old new (Ok answer) → answer ≡ None → OnlyOthersCame alone who.number old new × (reply_in m new who step ≡ None)
attempted-none alone alone' m m' who who' number number' step old new answer same_alone same_m same_who same_number attempted is =
    subst (λ (o : Option StepReply). Attempted alone m who number step old new (Ok o)) is
    (attempted-same alone alone' m m' who who' number number' step old new (Ok answer) same_alone same_m same_who same_number attempted)

pub attempted-err : (alone alone' : Bool) (m m' : Machines) (who who' : Who) (number number' : ℕ) (step : Step) (old new : Shown)
    (e : NoMemory) → alone' ≡ alone → m' ≡ m → who' ≡ who → number' ≡ number →
    Attempted alone' m' who' number' step old new (Err e) → OnlyOthersCame alone who.number old new
attempted-err alone alone' m m' who who' number number' step old new e same_alone same_m same_who same_number attempted =
    attempted-same alone alone' m m' who who' number number' step old new (Err e) same_alone same_m same_who same_number attempted

-- what was made is the step that was put, with its reply
pub made-both : (told : Option StepReply) (put : Option Step) (reply : StepReply) (step : Step) → told ≡ Some reply → put ≡ Some step → made_of told put ≡ Some (step, reply)
made-both told put reply step answered was = ap (λ (o : Option StepReply). made_of o put) answered ∙ ap (λ (o : Option Step). made_of (Some reply) o) was

-- where there is no reply or no step, none was made
pub made-none : (told : Option StepReply) (put : Option Step) → told ≡ None → made_of told put ≡ None
made-none told put none = ap (λ (o : Option StepReply). made_of o put) none

pub made-unput : (told : Option StepReply) (put : Option Step) (reply : StepReply) → told ≡ Some reply → put ≡ None → made_of told put ≡ None
made-unput told put reply answered none = ap (λ (o : Option StepReply). made_of o put) answered ∙ ap (λ (o : Option Step). made_of (Some reply) o) none

pub tried-with : (alone : Bool) (m : Machines) (who : Who) (number : ℕ) (ahead : List Step) (old new : Shown) (counts counts' : Counts) (put : Option Step) (step : Step) (reply : StepReply) →
    put ≡ Some step → WasFirst alone m who number ahead step reply old new counts counts' → Tried alone m who number ahead old new counts counts' (made_of (Some reply) put)
tried-with alone m who number ahead old new counts counts' put step reply was first =
    subst (λ (o : Option (Step × StepReply)). Tried alone m who number ahead old new counts counts' o) (sym (ap (λ (o : Option Step). made_of (Some reply) o) was)) first

-- an attempt that wanted memory is told of the machines and the player as they were
pub wanted-there : (wants_none : Machines → Shown → Who → Step → Bool) (m m' : Machines) (shown : Shown) (who : Who) (s : Content) (at : PlayerPlace) (step : Step) (result : Result (Option StepReply) NoMemory) (k : ℕ) →
    m' ≡ m → who ≡ at.who → slice_get (attempts s at) k ≡ Some step → wants_none m' shown who step ≡ false → OnErr result (HasWanted wants_none m shown s at)
wanted-there wants_none m m' shown who s at step (Ok reply) k same player there wanted = tt
wanted-there wants_none m m' shown who s at step (Err e) k same player there wanted =
    (step, (k, there), sym (ap (λ (m : Machines). wants_none m shown who step) same ∙ ap (λ (w : Who). wants_none m shown w step) player) ∙ wanted)
