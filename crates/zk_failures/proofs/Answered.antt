-- Where histories stand, no entry in them is unlike what its service answers.
use Rattle.std.proofs.Common.{◌≡◌, ℕ, zero, suc, ◌<◌, Option, Some, None, List, [], ◌∷◌, ◌++◌, length, take, sym, subst, arith}
use Rattle.std.specs.List.{slice_get, AllZip}
use Rattle.std.proofs.lemmas.List.{take_all}
use Rattle.std.proofs.lemmas.List.Elements.{All-nil, All-cons}
use Rattle.std.proofs.lemmas.Option.{same_Some, slice_get_within}
use Rattle.zk_base.specs.declared.ids.Entry.{Entry}
use Rattle.zk_base.specs.History.{IsAbove, Rises}
use Rattle.zk_base.specs.Legal.{Machine, state_after, Replays}
use Rattle.zk_base.proofs.Lists.{All-at}
use Rattle.zk_scenario.specs.Content.{Content}
use Rattle.zk_worker.specs.declared.steps.Spot.{Spot}
use Rattle.zk_worker.specs.declared.steps.Spot.TheVariants as spots
use Rattle.zk_worker.specs.Machines.{Machines, machines_of}
use Rattle.zk_trace.specs.declared.trace.Trace.{Trace}
use Rattle.zk_trace.specs.Form.{IsInForm}
use Rattle.zk_trace.specs.History.{IsAnsweredAt, AreLegal}
use Rattle.zk_failures.specs.First.{IsFirst}
use Rattle.zk_failures.specs.HistoryFailure.{IsUnlike, IsUnlikeAt, IsUnlikeIn, IsUnanswered}

module _ {S O R : Type 0} (m : Machine S O R) where
  -- an entry in a front that stands is what the machine answers behind those before it
  pub answered-front : (s : S) (h : List (Entry O R)) (place earlier : ℕ) (e : Entry O R) → earlier < place → Replays m s (take place h) →
      slice_get h earlier ≡ Some e → m.reply_of (state_after m s (take earlier h)) e.who e.op ≡ Some e.reply
  answered-front s [] place earlier e less stands there = absurd (cc)
  answered-front s (x ∷ h) zero earlier e less stands there = absurd (omega arith)
  answered-front s (x ∷ h) (suc place) zero e less stands there =
      subst (λ (y : Entry O R). m.reply_of s y.who y.op ≡ Some y.reply) (same_Some x e there) stands.0
  answered-front s (x ∷ h) (suc place) (suc earlier) e less stands there =
      answered-front (m.next s x.who x.op) h place earlier e (omega arith) stands.1 there

  -- and so is each in a history that stands
  pub answered-at : (s : S) (h : List (Entry O R)) (place : ℕ) (e : Entry O R) → Replays m s h → slice_get h place ≡ Some e →
      m.reply_of (state_after m s (take place h)) e.who e.op ≡ Some e.reply
  answered-at s h place e stands there =
      answered-front s h (length h) place e (slice_get_within h place e there) (subst (Replays m s) (sym (take_all (length h) h (omega arith))) stands) there

  pub unlike-none : (s : S) (h : List (Entry O R)) (place : ℕ) → Replays m s h → IsUnlike m s h place → ⊥
  unlike-none s h place stands unlike = unlike.unlike (answered-at s h place unlike.e stands unlike.there)

  -- an entry that isn't so, behind a front that stands, is the first
  pub unlike-first : (s : S) (h : List (Entry O R)) (place : ℕ) (e : Entry O R) → Replays m s (take place h) → slice_get h place ≡ Some e →
      (m.reply_of (state_after m s (take place h)) e.who e.op ≡ Some e.reply → ⊥) → IsFirst (IsUnlike m s h) place
  unlike-first s h place e stands there unlike = record {
    fails = record { e = e; there = there; unlike = unlike };
    none_before = λ earlier less other. other.unlike (answered-front s h place earlier other.e less stands other.there);
  }

  unlike-none-at : (start : Option S) (h : List (Entry O R)) (state : S) (place : ℕ) → IsAnsweredAt m start h → start ≡ Some state → IsUnlike m state h place → ⊥
  unlike-none-at None h state place stands is unlike = absurd (cc)
  unlike-none-at (Some s) h state place stands is unlike = unlike-none state h place (subst (λ (x : S). Replays m x h) (same_Some s state is) stands.0) unlike

  -- so it is of an object
  pub unlike-none_each : (starts : List (Option S)) (hs : List (List (Entry O R))) (object place : ℕ) → AllZip (IsAnsweredAt m) starts hs →
      IsUnlikeAt (record { machine = m; starts = starts }) hs object place → ⊥
  unlike-none_each [] hs object place stand unlike = let there = unlike.starts in absurd (cc)
  unlike-none_each (s ∷ ss) [] object place stand unlike = absurd stand
  unlike-none_each (s ∷ ss) (h ∷ hs) zero place stand unlike =
      unlike-none-at s h unlike.start place stand.0 (same_Some s (Some unlike.start) unlike.starts)
      (subst (λ (l : List (Entry O R)). IsUnlike m unlike.start l place) (sym (same_Some h unlike.h unlike.stands)) unlike.entry)
  unlike-none_each (s ∷ ss) (h ∷ hs) (suc object) place stand unlike =
      unlike-none_each ss hs object place stand.1
      (record { start = unlike.start; h = unlike.h; starts = unlike.starts; stands = unlike.stands; entry = unlike.entry })

  -- with an entry more that the machine answers so it stands still
  pub replays-more : (s : S) (h : List (Entry O R)) (e : Entry O R) → Replays m s h → m.reply_of (state_after m s h) e.who e.op ≡ Some e.reply → Replays m s (h ++ e ∷ [])
  replays-more s [] e stands is = (is, tt)
  replays-more s (x ∷ h) e stands is = (stands.0, replays-more (m.next s x.who x.op) h e stands.1 is)

  -- the step of an entry is above those before it
  pub above-at : (h : List (Entry O R)) (place : ℕ) (e : Entry O R) → Rises h → slice_get h place ≡ Some e → IsAbove (take place h) e.who.number e.step
  above-at [] place e rises there = absurd (cc)
  above-at (x ∷ h) zero e rises there = let P : Entry O R → Type 0 = λ f. f.who.number ≡ e.who.number → f.step < e.step in All-nil P
  above-at (x ∷ h) (suc place) e rises there =
      let P : Entry O R → Type 0 = λ f. f.who.number ≡ e.who.number → f.step < e.step in
      let Q : Entry O R → Type 0 = λ f. f.who.number ≡ x.who.number → x.step < f.step in
      let behind = All-at Q h place e rises.0 there in
      All-cons P x (take place h) (λ same. behind (sym same)) (above-at h place e rises.1 there)

-- where all histories stand, no line is an entry that its service doesn't answer so
pub unlike-never : (s : Content) (t : Trace) → IsInForm s t → AreLegal s t → (place : ℕ) → IsUnanswered s t place → ⊥
unlike-never s t form legal place is = by is.line.spot is.unlike where
  m : Machines
  m = machines_of s

  by : (spot : Spot) → IsUnlikeIn (machines_of s) t spot → ⊥
  by (spots.Work place) unlike = unlike-none m.work m.work_start t.work place legal.work.0 unlike
  by (spots.Clock place) unlike = unlike-none m.clock m.clock_start t.clock place legal.clock.0 unlike
  by (spots.Table place) unlike = unlike-none m.table m.table_start t.table place legal.table.0 unlike
  by (spots.Sem object place) unlike = unlike-none_each m.sems.machine m.sems.starts t.sems object place legal.sems unlike
  by (spots.Msgq object place) unlike = unlike-none_each m.msgqs.machine m.msgqs.starts t.msgqs object place legal.msgqs unlike
  by (spots.Signal object place) unlike = unlike-none_each m.signals.machine m.signals.starts t.signals object place legal.signals unlike
  by (spots.Chan object place) unlike = unlike-none_each m.chans.machine m.chans.starts t.chans object place legal.chans unlike
  by (spots.Obs object place) unlike = unlike-none_each m.observers.machine m.observers.starts t.observers object place legal.observers unlike
  by (spots.LookItem item flags at) unlike = unlike
  by (spots.LookSignal object seen) unlike = unlike
