-- What the flag word of an item says.
use Rattle.std.proofs.Common.{◌≡◌, ℕ, Bool, true, false, ◌||◌, eqb, Option, Some, None, List, [], ◌∷◌, slice_get, refl, sym, ap, ◌∙◌}
use Rattle.std.specs.Cmp.{first_so, second_so}
use Rattle.std.specs.List.{list_any}
use Rattle.std.specs.Option.{option_map_or}
use Rattle.std.proofs.lemmas.Bool.{eqb-true, eq-eqb, and_from}
use Rattle.zk_base.specs.declared.ids.Entry.{Entry}
use Rattle.zk_base.specs.Legal.{state_after}
use Rattle.zk_model_work.specs.declared.parts.Admission.{Admission}
use Rattle.zk_model_work.specs.declared.parts.Awaited.{Awaited}
use Rattle.zk_model_work.specs.declared.parts.Awaited.TheVariants as awaiteds
use Rattle.zk_model_work.specs.declared.parts.Wait.{Wait}
use Rattle.zk_model_work.specs.declared.ops.WorkOp.{WorkOp}
use Rattle.zk_model_work.specs.declared.ops.WorkReply.{WorkReply}
use Rattle.zk_model_work.specs.Questions.{is_open, is_open_as, passes_at, is_cancelling, flushes, is_flushing}
use Rattle.zk_model_work.specs.State.{State}
use Rattle.zk_model_work.specs.Machine.{work_machine}
use Rattle.zk_model_work.specs.Histories.{WorkHistory, IsFreshHistory, OfEach, IsBeingFlushed, awaits}
use Rattle.zk_model_work.specs.Laws.{FlagsShow}
use Rattle.zk_model_work.proofs.Marks.{passes-there, cancelling-is, is-cancelling}
use Rattle.zk_model_work.proofs.Waits.{is_flush_of, flushes-after, any-at, at-any}

-- that a flush of this admission goes on is what a flush was told before
flush-told : (start : State) (h : WorkHistory) (number : ℕ) → IsFreshHistory start h →
    list_any (λ (w : Wait). is_flush_of number w.awaited) (state_after work_machine start h).waits
    ≡ list_any (λ (e : Entry WorkOp WorkReply). awaits number e.reply) h
flush-told start h number fresh =
    flushes-after number start h fresh.work.legal.0
    ∙ ap (λ (ws : List Wait). list_any (λ (w : Wait). is_flush_of number w.awaited) ws
    || list_any (λ (e : Entry WorkOp WorkReply). awaits number e.reply) h) fresh.waits

-- a wait by which an item is being flushed is a flush of an admission of it that is open
flush-of : (xs : List Admission) (item : ℕ) (a : Awaited) → flushes xs item a ≡ true →
    (number : ℕ) × (a ≡ awaiteds.Flush number) × (passes_at (is_open_as item) xs number ≡ true)
flush-of xs item (awaiteds.Cancel number) is = absurd (cc)
flush-of xs item (awaiteds.Flush number) is = (number, refl, is)
flush-of xs item (awaiteds.Drain queue count) is = absurd (cc)

-- and a flush of this admission is one of this number
flushes-open : (xs : List Admission) (item number : ℕ) (a : Awaited) → is_flush_of number a ≡ true →
    passes_at (is_open_as item) xs number ≡ true → flushes xs item a ≡ true
flushes-open xs item number (awaiteds.Cancel other) is opens = absurd (cc)
flushes-open xs item number (awaiteds.Flush other) is opens =
    ap (passes_at (is_open_as item) xs) (sym (eqb-true number other is)) ∙ opens
flushes-open xs item number (awaiteds.Drain queue count) is opens = absurd (cc)

flushing-is : (start : State) (h : WorkHistory) (item : ℕ) → IsFreshHistory start h →
    is_flushing (state_after work_machine start h).admissions (state_after work_machine start h).waits item ≡ true →
    IsBeingFlushed start h item
flushing-is start h item fresh is =
    let t = state_after work_machine start h in
    let it = any-at (λ (w : Wait). flushes t.admissions item w.awaited) t.waits is in
    let of = flush-of t.admissions item it.1.awaited it.3 in
    let there = passes-there (is_open_as item) t.admissions of.0 of.2 in
    let a = there.0 in
    let same : is_flush_of of.0 it.1.awaited ≡ true = ap (is_flush_of of.0) of.1 ∙ eq-eqb of.0 of.0 refl in
    record {
      number = of.0;
      a = a;
      told = sym (flush-told start h of.0 fresh)
          ∙ at-any (λ (w : Wait). is_flush_of of.0 w.awaited) t.waits it.0 it.1 it.2 same;
      there = there.1;
      same = eqb-true a.item item (first_so (eqb a.item item) (is_open a.life) there.2);
      goes_on = second_so (eqb a.item item) (is_open a.life) there.2;
    }

is-flushing : (start : State) (h : WorkHistory) (item : ℕ) → IsFreshHistory start h → IsBeingFlushed start h item →
    is_flushing (state_after work_machine start h).admissions (state_after work_machine start h).waits item ≡ true
is-flushing start h item fresh it =
    let t = state_after work_machine start h in
    let w = any-at (λ (w : Wait). is_flush_of it.number w.awaited) t.waits (flush-told start h it.number fresh ∙ it.told) in
    let opens : passes_at (is_open_as item) t.admissions it.number ≡ true =
    ap (λ (o : Option Admission). option_map_or (is_open_as item) o false) it.there
    ∙ and_from (eqb it.a.item item) (is_open it.a.life) (eq-eqb it.a.item item it.same) it.goes_on in
    at-any (λ (w : Wait). flushes t.admissions item w.awaited) t.waits w.0 w.1 w.2
    (flushes-open t.admissions item it.number w.1.awaited w.3 opens)

pub flags_show : OfEach FlagsShow
flags_show start h fresh item =
    let t = state_after work_machine start h in
    record {
      cancelled = is_cancelling t.admissions t.marks item;
      while_cancelled = (cancelling-is start h item fresh, is-cancelling start h item fresh);
      flushed = is_flushing t.admissions t.waits item;
      while_flushed = (flushing-is start h item fresh, is-flushing start h item fresh);
      word = refl;
    }
