-- What a valid scenario gives: its size, the numbers of its objects, and that each call fits and stands where it may.
use Rattle.std.proofs.Common.{◌≡◌, ℕ, suc, ◌+◌, ◌<◌, ◌≤◌, Bool, true, false, not, cond, eqb, ◌||◌, Option, None, Some, List, [], ◌∷◌, length, take, slice_get, count_by, refl, sym, ap, ◌∙◌, arith, length-append}
use Rattle.std.specs.List.{list_any}
use Rattle.std.specs.Option.{option_map_or}
use Rattle.std.proofs.lemmas.Bool.{and_parts, eqb-true}
use Rattle.zk_base.specs.Limits.{most_players}
use Rattle.zk_base.proofs.Lists.{list_all-at}
use Rattle.zk_line.specs.declared.types.Decl.{Decl}
use Rattle.zk_line.specs.declared.types.Call.{Call}
use Rattle.zk_line.specs.declared.types.Call.TheVariants.{User}
use Rattle.zk_line.specs.Calls.{word_of, is_user_call}
use Rattle.zk_line.specs.declared.types.Decl.TheVariants.{Thread, Queue, Item, Sem, Msgq, Signal, Listener, Sub, Chan}
use Rattle.zk_scenario.specs.declared.limits.TheConstants.{MOST_ITEMS, MOST_SEMS, MOST_MSGQS, MOST_SIGNALS, MOST_OBSERVERS, MOST_CHANS}
use Rattle.zk_scenario.specs.declared.types.Script.{Script}
use Rattle.zk_line.specs.Objects.{is_at, is_user, plays_script, is_thread, is_queue, is_item, is_sem, is_msgq, is_signal, is_listener, is_chan, is_observer, has_kind_of, places, number_of, player_count}
use Rattle.zk_scenario.specs.Content.{Content}
use Rattle.zk_scenario.specs.Players.{players, calls_of}
use Rattle.zk_line.proofs.Lists.{count_by-cons}
use Rattle.zk_scenario.specs.Valid.{IsValid, calls_pass, calls_fit, script_fits, forbids_call, call_stands, script_stands}
use Rattle.zk_scenario.proofs.InOrder.{count_by-take-lt}
use Rattle.zk_scenario.proofs.FreeLines.{calls_pass-at}
use Rattle.zk_line.proofs.Tables.{length-places}

-- the players of the table are as many as their count
pub length-players : (decls : List Decl) → length (players decls) ≡ player_count decls
length-players decls = omega (arith, length-append (places is_thread decls) (places is_queue decls), length-places is_thread decls, length-places is_queue decls)

-- each declaration is of one kind
length-kinds : (ds : List Decl) → length ds ≡ player_count ds + count_by is_item ds + count_by is_sem ds + count_by is_msgq ds + count_by is_signal ds + count_by is_chan ds + count_by is_observer ds
length-kinds [] = refl
length-kinds (Thread name prio user ∷ ds) =
    let d = Thread name prio user in omega (arith, length-kinds ds, count_by-cons is_thread d ds, count_by-cons is_queue d ds, count_by-cons is_item d ds, count_by-cons is_sem d ds, count_by-cons is_msgq d ds, count_by-cons is_signal d ds, count_by-cons is_chan d ds, count_by-cons is_observer d ds)
length-kinds (Queue name prio on ∷ ds) =
    let d = Queue name prio on in omega (arith, length-kinds ds, count_by-cons is_thread d ds, count_by-cons is_queue d ds, count_by-cons is_item d ds, count_by-cons is_sem d ds, count_by-cons is_msgq d ds, count_by-cons is_signal d ds, count_by-cons is_chan d ds, count_by-cons is_observer d ds)
length-kinds (Item name ∷ ds) =
    let d = Item name in omega (arith, length-kinds ds, count_by-cons is_thread d ds, count_by-cons is_queue d ds, count_by-cons is_item d ds, count_by-cons is_sem d ds, count_by-cons is_msgq d ds, count_by-cons is_signal d ds, count_by-cons is_chan d ds, count_by-cons is_observer d ds)
length-kinds (Sem name initial limit raw ∷ ds) =
    let d = Sem name initial limit raw in omega (arith, length-kinds ds, count_by-cons is_thread d ds, count_by-cons is_queue d ds, count_by-cons is_item d ds, count_by-cons is_sem d ds, count_by-cons is_msgq d ds, count_by-cons is_signal d ds, count_by-cons is_chan d ds, count_by-cons is_observer d ds)
length-kinds (Msgq name size capacity raw ∷ ds) =
    let d = Msgq name size capacity raw in omega (arith, length-kinds ds, count_by-cons is_thread d ds, count_by-cons is_queue d ds, count_by-cons is_item d ds, count_by-cons is_sem d ds, count_by-cons is_msgq d ds, count_by-cons is_signal d ds, count_by-cons is_chan d ds, count_by-cons is_observer d ds)
length-kinds (Signal name raw ∷ ds) =
    let d = Signal name raw in omega (arith, length-kinds ds, count_by-cons is_thread d ds, count_by-cons is_queue d ds, count_by-cons is_item d ds, count_by-cons is_sem d ds, count_by-cons is_msgq d ds, count_by-cons is_signal d ds, count_by-cons is_chan d ds, count_by-cons is_observer d ds)
length-kinds (Listener name ∷ ds) =
    let d = Listener name in omega (arith, length-kinds ds, count_by-cons is_thread d ds, count_by-cons is_queue d ds, count_by-cons is_item d ds, count_by-cons is_sem d ds, count_by-cons is_msgq d ds, count_by-cons is_signal d ds, count_by-cons is_chan d ds, count_by-cons is_observer d ds)
length-kinds (Sub name capacity ∷ ds) =
    let d = Sub name capacity in omega (arith, length-kinds ds, count_by-cons is_thread d ds, count_by-cons is_queue d ds, count_by-cons is_item d ds, count_by-cons is_sem d ds, count_by-cons is_msgq d ds, count_by-cons is_signal d ds, count_by-cons is_chan d ds, count_by-cons is_observer d ds)
length-kinds (Chan name message valid own ∷ ds) =
    let d = Chan name message valid own in omega (arith, length-kinds ds, count_by-cons is_thread d ds, count_by-cons is_queue d ds, count_by-cons is_item d ds, count_by-cons is_sem d ds, count_by-cons is_msgq d ds, count_by-cons is_signal d ds, count_by-cons is_chan d ds, count_by-cons is_observer d ds)

-- the most declarations of a valid scenario
abbrev pub most_decls : ℕ
most_decls = most_players + MOST_ITEMS + MOST_SEMS + MOST_MSGQS + MOST_SIGNALS + MOST_CHANS + MOST_OBSERVERS

-- a valid scenario has no more
pub length-decls : (p : Content) → IsValid p → length p.decls ≤ most_decls
length-decls p valid = omega (arith, length-kinds p.decls, valid.players, valid.items, valid.sems, valid.msgqs, valid.signals, valid.chans, valid.observers)

below : (test : Decl → Bool) (decls : List Decl) (object : ℕ) → ((d : Decl) → test d ≡ true → has_kind_of d ≡ test) → is_at test decls object ≡ true → number_of decls object < count_by test decls
below test decls object kind at = at_some (slice_get decls object) refl at where
  at_some : (o : Option Decl) → slice_get decls object ≡ o → option_map_or test o false ≡ true → option_map_or (λ d. count_by (has_kind_of d) (take object decls)) o 0 < count_by test decls
  at_some None e here = absurd (cc)
  at_some (Some d) e here = omega (arith, ap (λ p. count_by p (take object decls)) (kind d here), count_by-take-lt test decls object d e here)

-- the number of an item is below the count of the items
pub number_of-item : (decls : List Decl) (object : ℕ) → is_at is_item decls object ≡ true → number_of decls object < count_by is_item decls
number_of-item decls object at = below is_item decls object kind at where
  kind : (d : Decl) → is_item d ≡ true → has_kind_of d ≡ is_item
  kind (Item name) e = refl
  kind d e = absurd (cc)

-- the number of a queue is below the count of the queues
pub number_of-queue : (decls : List Decl) (object : ℕ) → is_at is_queue decls object ≡ true → number_of decls object < count_by is_queue decls
number_of-queue decls object at = below is_queue decls object kind at where
  kind : (d : Decl) → is_queue d ≡ true → has_kind_of d ≡ is_queue
  kind (Queue name prio on) e = refl
  kind d e = absurd (cc)

-- the number of a thread is below the count of the threads
pub number_of-thread : (decls : List Decl) (object : ℕ) → is_at is_thread decls object ≡ true → number_of decls object < count_by is_thread decls
number_of-thread decls object at = below is_thread decls object kind at where
  kind : (d : Decl) → is_thread d ≡ true → has_kind_of d ≡ is_thread
  kind (Thread name prio user) e = refl
  kind d e = absurd (cc)

-- what holds of no calls, and of those of each script of an object, holds of the object's calls
own_calls : (ss : List Script) (owner : ℕ) (P : List Call → Type 0) → P []
    → ((n : ℕ) (script : Script) → slice_get ss n ≡ Some script → script.owner ≡ owner → P script.calls) → P (calls_of ss owner)
own_calls [] owner P none each = none
own_calls (s ∷ ss) owner P none each = by_owner (eqb s.owner owner) refl (own_calls ss owner P none (λ n. each (suc n))) where
  by_owner : (b : Bool) → eqb s.owner owner ≡ b → P (calls_of ss owner) → P (cond b s.calls (calls_of ss owner))
  by_owner true e rest = each 0 s refl (eqb-true s.owner owner e)
  by_owner false e rest = rest

-- the calls of an object's script fit; those of a user are free
pub calls_fit-calls_of : (p : Content) (owner : ℕ) → IsValid p → calls_fit (is_at is_user p.decls owner) p.decls (calls_of p.scripts owner) ≡ true
calls_fit-calls_of p owner valid = own_calls p.scripts owner (λ calls. calls_fit (is_at is_user p.decls owner) p.decls calls ≡ true) refl own where
  own : (n : ℕ) (script : Script) → slice_get p.scripts n ≡ Some script → script.owner ≡ owner → calls_fit (is_at is_user p.decls owner) p.decls script.calls ≡ true
  own n script e same =
      ap (λ k. calls_fit (is_at is_user p.decls k) p.decls script.calls) (sym same)
      ∙ (and_parts (is_at plays_script p.decls script.owner) (calls_fit (is_at is_user p.decls script.owner) p.decls script.calls) (list_all-at (script_fits p.decls) p.scripts n script valid.fit e)).1

-- the calls of an object's script stand where they may
calls_stand-calls_of : (p : Content) (owner : ℕ) → IsValid p → calls_pass (call_stands p.decls owner) (is_at is_user p.decls owner) (calls_of p.scripts owner) ≡ true
calls_stand-calls_of p owner valid = own_calls p.scripts owner (λ calls. calls_pass (call_stands p.decls owner) (is_at is_user p.decls owner) calls ≡ true) refl own where
  own : (n : ℕ) (script : Script) → slice_get p.scripts n ≡ Some script → script.owner ≡ owner → calls_pass (call_stands p.decls owner) (is_at is_user p.decls owner) script.calls ≡ true
  own n script e same =
      ap (λ k. calls_pass (call_stands p.decls k) (is_at is_user p.decls k) script.calls) (sym same) ∙ list_all-at (script_stands p.decls) p.scripts n script valid.stand e

-- each call of an object's script stands where it may
pub call_stands-at : (p : Content) (owner next : ℕ) (call : Call) → IsValid p → slice_get (calls_of p.scripts owner) next ≡ Some call
    → call_stands p.decls owner (is_at is_user p.decls owner || list_any is_user_call (take next (calls_of p.scripts owner))) call ≡ true
call_stands-at p owner next call valid e =
    calls_pass-at (call_stands p.decls owner) (is_at is_user p.decls owner) (calls_of p.scripts owner) next call (calls_stand-calls_of p owner valid) e

-- each script is played by a thread, an item or a listener
pub plays_script-owner : (p : Content) (n : ℕ) (script : Script) → IsValid p → slice_get p.scripts n ≡ Some script → is_at plays_script p.decls script.owner ≡ true
plays_script-owner p n script valid e =
    (and_parts (is_at plays_script p.decls script.owner) (calls_fit (is_at is_user p.decls script.owner) p.decls script.calls) (list_all-at (script_fits p.decls) p.scripts n script valid.fit e)).0

-- what has the call in its script that makes its caller a user plays scripts, and it is no item and no listener
user_owner : (p : Content) (owner next : ℕ) (call : Call) → IsValid p → slice_get (calls_of p.scripts owner) next ≡ Some call → is_user_call call ≡ true
    → (is_at plays_script p.decls owner ≡ true) × (is_at is_item p.decls owner ≡ false) × (is_at is_listener p.decls owner ≡ false)
user_owner p owner next call valid e makes = (plays, barred.0, barred.1) where
  plays : is_at plays_script p.decls owner ≡ true
  plays = own_calls p.scripts owner (λ calls. slice_get calls next ≡ Some call → is_at plays_script p.decls owner ≡ true) (λ none. absurd (cc))
      (λ n script at same here. ap (is_at plays_script p.decls) (sym same) ∙ plays_script-owner p n script valid at) e

  by_call : (c : Call) (free listener item : Bool) → is_user_call c ≡ true → not (forbids_call free listener item (word_of c)) ≡ true → (item ≡ false) × (listener ≡ false)
  by_call User false false false is stands = (refl, refl)
  by_call User true listener item is stands = absurd (cc)
  by_call User false true item is stands = absurd (cc)
  by_call User false false true is stands = absurd (cc)
  by_call c free listener item is stands = absurd (cc)

  barred : (is_at is_item p.decls owner ≡ false) × (is_at is_listener p.decls owner ≡ false)
  barred = by_call call (is_at is_user p.decls owner || list_any is_user_call (take next (calls_of p.scripts owner))) (is_at is_listener p.decls owner) (is_at is_item p.decls owner) makes (call_stands-at p owner next call valid e)

-- it is a thread
pub user-owner : (p : Content) (owner next : ℕ) (call : Call) → IsValid p → slice_get (calls_of p.scripts owner) next ≡ Some call → is_user_call call ≡ true
    → is_at is_thread p.decls owner ≡ true
user-owner p owner next call valid e makes =
    let is = user_owner p owner next call valid e makes in of_three (slice_get p.decls owner) is.0 is.1 is.2 where
      of_three : (o : Option Decl) → option_map_or plays_script o false ≡ true → option_map_or is_item o false ≡ false → option_map_or is_listener o false ≡ false
          → option_map_or is_thread o false ≡ true
      of_three (Some (Thread name prio user)) plays item listener = refl
      of_three o plays item listener = absurd (cc)
