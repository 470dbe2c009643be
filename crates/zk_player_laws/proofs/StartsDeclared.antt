-- Each service and each object starts as it is declared.
use Rattle.std.proofs.Common.{◌≡◌, ℕ, zero, suc, ◌+◌, Bool, false, not, cond, Option, Some, None, List, [], ◌∷◌, length, map, take, count_by, slice_get, refl, sym, ap, ◌∙◌, arith}
use Rattle.std.specs.List.{flat_map, range_with_len}
use Rattle.std.specs.Option.{option_map_or, option_and_then}
use Rattle.std.proofs.lemmas.Option.{same_Some}
use Rattle.zk_line.proofs.Lists.{count_by-cons}
use Rattle.zk_line.proofs.Tables.{length-places}
use Rattle.zk_line.specs.declared.types.Decl.{Decl}
use Rattle.zk_line.specs.declared.types.Decl.TheVariants as decls
use Rattle.zk_line.specs.declared.types.Declared.{Declared}
use Rattle.zk_line.specs.declared.types.Declared.TheVariants.{Object, Allow}
use Rattle.zk_line.specs.Objects.{is_thread, is_queue, is_item, has_kind_of, is_user, is_raw, places_from, places}
use Rattle.zk_model_work.specs.State.{fresh_queues}
use Rattle.zk_scenario.specs.Written.{permissions}
use Rattle.zk_worker.specs.Machines.{is_started, is_on, item_number, sem_start, msgq_start, signal_start, chan_start, observer_start}
use Rattle.zk_worker.specs.TableSetup.{thread_of, permission_of}
use Rattle.zk_player_laws.specs.StartLaws.{declared_sem, declared_msgq, declared_signal, declared_chan, declared_observer, declared_queues, declared_threads, declared_items, is_declared_ready, declared_permission, EachStartsAsDeclared}

-- where two say the same of each declaration, objects start so
starts-so : {S : Type 0} (start declared : Decl → Option S) → ((decl : Decl) → start decl ≡ declared decl) → (ds : List Decl) (object : ℕ) →
    option_and_then (λ (o : Option S). o) (slice_get (map start ds) object) ≡ option_and_then declared (slice_get ds object)
starts-so start declared same [] object = refl
starts-so start declared same (d ∷ ds) zero = same d
starts-so start declared same (d ∷ ds) (suc object) = starts-so start declared same ds object

sem-so : (decl : Decl) → sem_start decl ≡ declared_sem decl
sem-so (decls.Sem name initial limit raw) = refl
sem-so decl = refl

msgq-so : (decl : Decl) → msgq_start decl ≡ declared_msgq decl
msgq-so (decls.Msgq name size capacity raw) = refl
msgq-so decl = refl

signal-so : (decl : Decl) → signal_start decl ≡ declared_signal decl
signal-so (decls.Signal name raw) = refl
signal-so decl = refl

chan-so : (decl : Decl) → chan_start decl ≡ declared_chan decl
chan-so (decls.Chan name message valid observers) = refl
chan-so decl = refl

observer-so : (decl : Decl) → observer_start decl ≡ declared_observer decl
observer-so (decls.Listener name) = refl
observer-so (decls.Sub name capacity) = refl
observer-so decl = refl

ready-so : (decl : Decl) → not (is_raw decl) ≡ is_declared_ready decl
ready-so (decls.Sem name initial limit raw) = refl
ready-so (decls.Msgq name size capacity raw) = refl
ready-so (decls.Signal name raw) = refl
ready-so decl = refl

all-ready : (ds : List Decl) → map (λ decl. not (is_raw decl)) ds ≡ map is_declared_ready ds
all-ready [] = refl
all-ready (d ∷ ds) = ap (λ (b : Bool). b ∷ map (λ decl. not (is_raw decl)) ds) (ready-so d) ∙ ap (λ (bs : List Bool). is_declared_ready d ∷ bs) (all-ready ds)

-- these declarations stand in all of them from this number on
abbrev StandFrom : List Decl → ℕ → List Decl → Type 0
StandFrom all n ds = (i k : ℕ) → k ≡ n + i → slice_get all k ≡ slice_get ds i

stand-later : (all : List Decl) (n : ℕ) (d : Decl) (ds : List Decl) → StandFrom all n (d ∷ ds) → StandFrom all (n + 1) ds
stand-later all n d ds stand i k at = stand (suc i) k (omega (arith, at))

-- the first of them
stand-here : {A : Type 0} (all : List Decl) (n : ℕ) (d : Decl) (ds : List Decl) → StandFrom all n (d ∷ ds) → (f : Decl → A) (none : A) → option_map_or f (slice_get all n) none ≡ f d
stand-here all n d ds stand f none = ap (λ (o : Option Decl). option_map_or f o none) (stand 0 n (omega arith))

queues-so : (all : List Decl) (n worker : ℕ) (ds : List Decl) → StandFrom all n ds →
    fresh_queues (range_with_len worker (length (places_from n is_queue ds))) (map (is_on all) (places_from n is_queue ds)) ≡ declared_queues worker ds
queues-so all n worker [] stand = refl
queues-so all n worker (decls.Queue name prio on ∷ ds) stand =
    ap (λ (b : Bool). record { worker = worker; started = b; draining = false; plugged = false; drained = 0 }
    ∷ fresh_queues (range_with_len (worker + 1) (length (places_from (n + 1) is_queue ds))) (map (is_on all) (places_from (n + 1) is_queue ds)))
    (stand-here all n (decls.Queue name prio on) ds stand is_started false)
    ∙ ap (λ qs. record { worker = worker; started = on; draining = false; plugged = false; drained = 0 } ∷ qs)
    (queues-so all (n + 1) (worker + 1) ds (stand-later all n (decls.Queue name prio on) ds stand))
queues-so all n worker (d ∷ ds) stand = queues-so all (n + 1) worker ds (stand-later all n d ds stand)

threads-so : (all : List Decl) (n : ℕ) (ds : List Decl) → StandFrom all n ds → map (thread_of all) (places_from n is_thread ds) ≡ declared_threads n ds
threads-so all n [] stand = refl
threads-so all n (decls.Thread name prio user ∷ ds) stand =
    ap (λ (b : Bool). (n, b) ∷ map (thread_of all) (places_from (n + 1) is_thread ds)) (stand-here all n (decls.Thread name prio user) ds stand is_user false)
    ∙ ap (λ (ts : List (ℕ × Bool)). (n, user) ∷ ts) (threads-so all (n + 1) ds (stand-later all n (decls.Thread name prio user) ds stand))
threads-so all n (d ∷ ds) stand = threads-so all (n + 1) ds (stand-later all n d ds stand)

-- how many items are declared before the next one
items-next : (all : List Decl) (n : ℕ) (d : Decl) → slice_get all n ≡ Some d → count_by is_item (take (n + 1) all) ≡ count_by is_item (take n all) + cond (is_item d) 1 0
items-next [] n d there = absurd (cc)
items-next (x ∷ xs) zero d there = let same = ap (λ (y : Decl). cond {A = ℕ} (is_item y) 1 0) (same_Some x d there) in omega (arith, same)
items-next (x ∷ xs) (suc n) d there =
    let more = items-next xs n d there in
    let far : suc n + 1 ≡ suc (n + 1) = omega arith in
    let one = ap (λ (m : ℕ). count_by is_item (take m (x ∷ xs))) far in
    let two = count_by-cons is_item x (take (n + 1) xs) in
    let three = count_by-cons is_item x (take n xs) in
    omega (arith, more, one, two, three)

items-so : (all : List Decl) (n m : ℕ) (ds : List Decl) → StandFrom all n ds → m ≡ count_by is_item (take n all) → map (item_number all) (range_with_len n (length ds)) ≡ declared_items m ds
items-so all n m [] stand many = refl
items-so all n m (d ∷ ds) stand many = by d (stand 0 n (omega arith)) (λ next. items-so all (n + 1) next ds (stand-later all n d ds stand)) where
  left : List (Option ℕ)
  left = map (item_number all) (range_with_len (n + 1) (length ds))

  number : (e : Decl) → slice_get all n ≡ Some e → item_number all n ≡ cond (is_item e) (Some (count_by (has_kind_of e) (take n all))) None
  number e there = ap (λ (o : Option Decl). cond (option_map_or is_item o false) (Some (option_map_or (λ decl. count_by (has_kind_of decl) (take n all)) o 0)) None) there

  Later : Type 0
  Later = (next : ℕ) → next ≡ count_by is_item (take (n + 1) all) → left ≡ declared_items next ds

  other : (e : Decl) → slice_get all n ≡ Some e → is_item e ≡ false → Later → item_number all n ∷ left ≡ None ∷ declared_items m ds
  other e there is later =
      let more = items-next all n e there in
      let none = ap (λ (b : Bool). cond {A = ℕ} b 1 0) is in
      ap (λ (o : Option ℕ). o ∷ left) (number e there ∙ ap (λ (b : Bool). cond b (Some (count_by (has_kind_of e) (take n all))) None) is)
      ∙ ap (λ (os : List (Option ℕ)). None ∷ os) (later m (omega (arith, many, more, none)))

  by : (e : Decl) → slice_get all n ≡ Some e → Later → item_number all n ∷ left ≡ declared_items m (e ∷ ds)
  by (decls.Item name) there later =
      let more = items-next all n (decls.Item name) there in
      ap (λ (o : Option ℕ). o ∷ left) (number (decls.Item name) there ∙ ap (λ (k : ℕ). Some k) (sym many))
      ∙ ap (λ (os : List (Option ℕ)). Some m ∷ os) (later (m + 1) (omega (arith, many, more)))
  by e there later = other e there refl later

permissions-so : (ds : List Decl) (written : List Declared) → map (permission_of ds) (permissions written) ≡ flat_map (declared_permission ds) written
permissions-so ds [] = refl
permissions-so ds (Object object ∷ more) = permissions-so ds more
permissions-so ds (Allow thread object ∷ more) = ap (λ (ps : List (ℕ × ℕ)). permission_of ds (thread, object) ∷ ps) (permissions-so ds more)

pub each_starts_as_declared : EachStartsAsDeclared
each_starts_as_declared s = record {
  work = record {
    time = refl;
    entries = refl;
    items = length-places is_item s.decls;
    admissions = refl;
    arms = refl;
    marks = refl;
    waits = refl;
    queues = ap (λ (n : ℕ). fresh_queues (range_with_len n (length (places is_queue s.decls))) (map (is_on s.decls) (places is_queue s.decls))) (length-places is_thread s.decls)
        ∙ queues-so s.decls 0 (count_by is_thread s.decls) s.decls all;
  };
  items = items-so s.decls 0 0 s.decls all refl;
  clock = refl;
  table = record {
    entries = refl;
    kinds = refl;
    ready = all-ready s.decls;
    threads = threads-so s.decls 0 s.decls all;
    allowed = permissions-so s.decls s.written;
  };
  sems = starts-so sem_start declared_sem sem-so s.decls;
  msgqs = starts-so msgq_start declared_msgq msgq-so s.decls;
  signals = starts-so signal_start declared_signal signal-so s.decls;
  chans = starts-so chan_start declared_chan chan-so s.decls;
  observers = starts-so observer_start declared_observer observer-so s.decls;
}
  where
    all : StandFrom s.decls 0 s.decls
    all i k at = ap (slice_get s.decls) (omega (arith, at))
