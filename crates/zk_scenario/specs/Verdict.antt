use Rattle.std.specs.Prelude.{◌≡◌, ℕ, Bool, false, not, nat_le, nat_lt, ◌&&◌, ◌||◌, Option, None, Some, Result, Ok, Err, List, [], length, count_by, is_some, option_map, option_and_then, if◌then◌else◌}
use Rattle.std.specs.Option.{option_map_or}
use Rattle.zk_base.specs.Limits.{most_players}
use Rattle.zk_base.specs.declared.kinds.Kind.{Kind}
use Rattle.zk_base.specs.declared.kinds.Kind.TheVariants as kind
use Rattle.zk_words.specs.declared.word.Head.{Head}
use Rattle.zk_words.specs.declared.word.Head.TheVariants.{Declare, Allow, Script, End, Call}
use Rattle.zk_words.specs.declared.word.Word.{Word}
use Rattle.zk_words.specs.Kinds.{makes_player}
use Rattle.zk_words.specs.Parts.{Placed}
use Rattle.zk_line.specs.declared.types.Arg.{Arg}
use Rattle.zk_line.specs.declared.types.Decl.{Decl}
use Rattle.zk_line.specs.Args.{args_of}
use Rattle.zk_line.specs.Calls.{call_of}
use Rattle.zk_line.specs.Checks.{first_object, are_in_range, are_well_named, has_many_events, has_many_observers}
use Rattle.zk_line.specs.Decls.{decl_of, permission_of}
use Rattle.zk_line.specs.Objects.{counts_with, is_at, is_item, is_listener, player_count}
use Rattle.zk_scenario.specs.declared.limits.TheConstants.{MOST_QUEUES, MOST_ITEMS, MOST_SEMS, MOST_MSGQS, MOST_SIGNALS, MOST_OBSERVERS, MOST_CHANS, MOST_CALLS}
use Rattle.zk_scenario.specs.declared.refused.Why.{Why}
use Rattle.zk_scenario.specs.declared.refused.Why.TheVariants as why
use Rattle.zk_scenario.specs.Free.{next_is_free, is_free_line}
use Rattle.zk_scenario.specs.Reading.{Reading, all_scripts, declared, permitted, begun, called, closed}
use Rattle.zk_scenario.specs.Scripts.{script_of}
use Rattle.zk_scenario.specs.Valid.{forbids_call, call_count}
use Rattle.zk_scenario.specs.Written.{is_allowed}

-- whether a script stands already, be it open or not
abbrev pub has_begun : Reading → Bool
has_begun r = is_some r.current || nat_lt 0 (length r.scripts)

-- whether an object, if one is named, has a script
abbrev pub has_script : Reading → Option ℕ → Bool
has_script r object = option_map_or (λ owner. is_some (script_of r.scripts owner)) object false

-- whether a script is open, and it is that of an object whose declaration passes a test
abbrev pub is_within : (Decl → Bool) → Reading → Bool
is_within test r = option_map_or (λ script. is_at test r.decls script.owner) r.current false

-- whether a call is one that may not stand in the open script
abbrev pub is_barred : Reading → Word → Bool
is_barred r word = forbids_call (next_is_free r) (is_within is_listener r) (is_within is_item r) word

-- whether a call may be the next line, whatever stands behind its word: a script is open, the call isn't barred there,
-- and there may be one more
abbrev pub may_call : Reading → Word → Bool
may_call r word = is_some r.current && not (is_barred r word) && nat_lt (call_count (all_scripts r)) MOST_CALLS

-- whether the line may not stand there: declarations and permissions stand before all scripts, calls and ends in one
-- where they aren't barred, and a script's head outside of each, once for an object
abbrev pub is_misplaced : Reading → Head → List Placed → Bool
is_misplaced r (Declare kind) parts = has_begun r
is_misplaced r Allow parts = has_begun r
is_misplaced r Script parts = is_some r.current || has_script r (first_object r.decls parts)
is_misplaced r End parts = not (is_some r.current)
is_misplaced r (Call word) parts = not (is_some r.current) || is_barred r word

-- how many objects of a kind there may be; subscribers and listeners count together
abbrev pub most : Kind → ℕ
most kind.Thread = most_players
most kind.Queue = MOST_QUEUES
most kind.Item = MOST_ITEMS
most kind.Sem = MOST_SEMS
most kind.Msgq = MOST_MSGQS
most kind.Signal = MOST_SIGNALS
most kind.Listener = MOST_OBSERVERS
most kind.Sub = MOST_OBSERVERS
most kind.Chan = MOST_CHANS

-- whether there may be no further object of a kind
abbrev pub is_full : List Decl → Kind → Bool
is_full decls kind =
    nat_le (most kind) (count_by (counts_with kind) decls)
    || makes_player kind && nat_le most_players (player_count decls)

-- whether the line passes a limit
abbrev pub is_past_limit : Reading → Head → List Placed → Bool
is_past_limit r (Declare kind) parts = is_full r.decls kind || has_many_observers parts
is_past_limit r Allow parts = false
is_past_limit r Script parts = false
is_past_limit r End parts = false
is_past_limit r (Call word) parts = nat_le MOST_CALLS (call_count (all_scripts r)) || has_many_events parts

-- whether a line says a permission that was said before
abbrev pub is_said_before : Reading → Head → List Arg → Bool
is_said_before r Allow args = option_map_or (λ pair. is_allowed r.written pair.0 pair.1) (permission_of args) false
is_said_before r head args = false

-- whether the names of a line may stand where they do, and it says no permission again
abbrev pub are_named : Reading → Head → List Placed → Bool
are_named r head parts =
    are_well_named (is_free_line r head) r.decls parts
    && not (option_map_or (is_said_before r head) (args_of r.decls parts) false)

-- the first reason that applies to a line behind these, if there is one
abbrev pub verdict : Reading → Head → List Placed → Option Why
verdict r head parts =
    if is_misplaced r head parts then Some why.Order else
    if not (are_in_range r.decls head parts) then Some why.Number else
    if not (are_named r head parts) then Some why.Name else
    if is_past_limit r head parts then Some why.Limit else None

-- a judgement names the first reason that applies, or says where none does what the line's words say
abbrev pub Judges : Reading → Head → List Placed → Result (List Arg) Why → Type 0
Judges r head parts (Err reason) = verdict r head parts ≡ Some reason
Judges r head parts (Ok args) = (verdict r head parts ≡ None) × (args_of r.decls parts ≡ Some args)

-- a script of an object begins
abbrev pub opened : Reading → ℕ → Reading
opened r owner = begun r (record { owner = owner; calls = [] })

-- what the lines said with one line more
abbrev pub after : Reading → Head → List Placed → Option Reading
after r (Declare kind) parts = option_map (declared r) (option_and_then (decl_of kind) (args_of r.decls parts))
after r Allow parts =
    option_map (λ pair. permitted r pair.0 pair.1) (option_and_then permission_of (args_of r.decls parts))
after r Script parts = option_map (opened r) (first_object r.decls parts)
after r End parts = Some (closed r)
after r (Call word) parts = option_map (called r) (option_and_then (call_of word) (args_of r.decls parts))
