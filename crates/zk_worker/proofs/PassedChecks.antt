-- What passes a check is what it has to be.
use Rattle.std.proofs.Common.{◌≡◌, ℕ, Bool, true, false, cond, not, ◌||◌, Option, Some, None, List, [], ◌∷◌, length, refl, sym, subst, ap, ◌∙◌}
use Rattle.std.proofs.lemmas.Option.{cond_some}
use Rattle.zk_base.specs.declared.ids.Who.{Who}
use Rattle.zk_base.specs.declared.ids.Entry.{Entry}
use Rattle.zk_base.specs.Legal.{state_after}
use Rattle.zk_base.specs.declared.kinds.Need.{Need}
use Rattle.zk_model_bus.specs.declared.table.OopsWhy.TheVariants.{WrongKind, NotGranted, NotInit}
use Rattle.zk_model_bus.specs.declared.table.TableOp.{TableOp}
use Rattle.zk_model_bus.specs.declared.table.TableOp.TheVariants as table_ops
use Rattle.zk_model_bus.specs.declared.table.TableReply.{TableReply}
use Rattle.zk_model_bus.specs.declared.table.TableReply.TheVariants.{Done, Oops}
use Rattle.zk_model_bus.specs.Table.{Setup, Table, new_table, has_kind, is_allowed, is_public, is_ready, may, check_reply, table_machine}
use Rattle.zk_base.specs.Kinds.{is_any}
use Rattle.zk_scenario.specs.Content.{Content}
use Rattle.zk_worker.specs.declared.steps.Step.{Step}
use Rattle.zk_worker.specs.declared.steps.Step.TheVariants as steps
use Rattle.zk_worker.specs.declared.steps.StepReply.{StepReply}
use Rattle.zk_worker.specs.declared.steps.StepReply.TheVariants as step_replies
use Rattle.zk_worker.specs.Attempt.{reply_in}
use Rattle.zk_worker.specs.Checks.{oops_in}
use Rattle.zk_worker.specs.Machines.{Machines, machines_of}
use Rattle.zk_worker.specs.Ranges.{IsAsked, PassesFit}
use Rattle.zk_worker.specs.Shown.{Shown}
use Rattle.zk_worker.specs.TableSetup.{setup_of}
use Rattle.zk_worker.proofs.ShownSteps.{made-of}
use Rattle.zk_worker.proofs.TableRanges.{met-at}

-- entries change nothing of what is declared
same-setup : (t : Table) (h : List (Entry TableOp TableReply)) → (state_after table_machine t h).setup ≡ t.setup
same-setup t [] = refl
same-setup t (e ∷ h) = same-setup (table_machine.next t e.who e.op) h

-- what passes a check is what it has to be
pub replied-passes : (s : Content) (m : Machines) (shown : Shown) (who : Who) (step : Step) (reply : StepReply) → m ≡ machines_of s →
    reply_in m shown who step ≡ Some reply → PassesFit s.decls step reply
replied-passes s m shown who step reply same is = by_step step (subst (λ (n : Machines). reply_in n shown who step ≡ Some reply) same is)
  where
    asked : (t : Table) (player : ℕ) (object : Option ℕ) (need : Need) → t.setup ≡ setup_of s → oops_in (step_replies.Table (check_reply t player object need) (length shown.table)) ≡ None → IsAsked s.decls object need
    asked t player None need setup passed = absurd (cc)
    asked t player (Some object) need setup passed = by (has_kind t.setup object need) refl passed where
      by : (b : Bool) → has_kind t.setup object need ≡ b →
          oops_in (step_replies.Table (cond (not b) (Oops WrongKind) (cond (not (is_allowed t player object || is_public t object)) (Oops NotGranted) (cond (not (is_any need || is_ready t object)) (Oops NotInit) Done))) (length shown.table)) ≡ None →
          IsAsked s.decls (Some object) need
      by true kind passed = sym (met-at need s.decls object) ∙ ap (λ (setup : Setup). has_kind setup object need) (sym setup) ∙ kind
      by false kind passed = absurd (cc)

    by_step : (step : Step) → reply_in (machines_of s) shown who step ≡ Some reply → PassesFit s.decls step reply
    by_step (steps.Table (table_ops.Check object need)) is = λ passed.
        let m = machines_of s in
        let state : Table = state_after m.table m.table_start shown.table in
        let from = made-of (λ r. step_replies.Table r (length shown.table)) (m.table.reply_of state who (table_ops.Check object need)) reply is in
        let told = (cond_some (may state who.number (table_ops.Check object need)) (check_reply state who.number object need) from.0 from.1).1 in
        asked state who.number object need (same-setup (new_table (setup_of s)) shown.table)
        (ap (λ (r : TableReply). oops_in (step_replies.Table r (length shown.table))) told ∙ ap oops_in from.2 ∙ passed)
    by_step step is = tt
