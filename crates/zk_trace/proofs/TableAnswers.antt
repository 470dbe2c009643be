-- The replies of the object table are of their operations.
use Rattle.std.proofs.Common.{◌≡◌, ℕ, Bool, true, false, not, ◌||◌, cond, inl, inr, Option, Some, None, List, refl, subst}
use Rattle.std.specs.List.{AllByRecursion}
use Rattle.std.proofs.lemmas.Option.{cond_some}
use Rattle.zk_base.specs.declared.ids.Who.{Who}
use Rattle.zk_base.specs.declared.ids.Entry.{Entry}
use Rattle.zk_base.specs.declared.kinds.Need.{Need}
use Rattle.zk_base.specs.Kinds.{is_any}
use Rattle.zk_base.specs.Legal.{Replays}
use Rattle.zk_line.specs.declared.types.Decl.{Decl}
use Rattle.zk_model_bus.specs.declared.table.OopsWhy.TheVariants.{WrongKind, NotGranted, NotInit}
use Rattle.zk_model_bus.specs.declared.table.TableOp.{TableOp}
use Rattle.zk_model_bus.specs.declared.table.TableOp.TheVariants as ops
use Rattle.zk_model_bus.specs.declared.table.TableReply.{TableReply}
use Rattle.zk_model_bus.specs.declared.table.TableReply.TheVariants.{Done, Already, Oops}
use Rattle.zk_model_bus.specs.Table.{Table, has_kind, is_allowed, is_public, is_ready, may, check_reply, answer, table_reply, table_machine}
use Rattle.zk_trace.specs.declared.table.Verb.TheVariants as verbs
use Rattle.zk_trace.specs.Table.{said_of}
use Rattle.zk_trace.specs.TableRead.{AnswersTo}
use Rattle.zk_trace.proofs.Kept.{answers-along, of-any}

module _ (decls : List Decl) where
  abbrev Says : TableOp → TableReply → Type 0
  Says op r = AnswersTo decls (said_of op).0 r

  check-says : (t : Table) (player : ℕ) (object : Option ℕ) (need : Need) → AnswersTo decls verbs.Check (check_reply t player object need)
  check-says t player None need = inr tt
  check-says t player (Some object) need =
      by (not (has_kind t.setup object need)) (not (is_allowed t player object || is_public t object)) (not (is_any need || is_ready t object)) where
        by : (a b c : Bool) → AnswersTo decls verbs.Check (cond a (Oops WrongKind) (cond b (Oops NotGranted) (cond c (Oops NotInit) Done)))
        by true b c = inr tt
        by false true c = inr tt
        by false false true = inr tt
        by false false false = inl (inl refl)

  init-says : (ready : Bool) → AnswersTo decls verbs.Init (cond ready Already Done)
  init-says true = inl (inr (inl refl))
  init-says false = inl (inl refl)

  answer-says : (t : Table) (player : ℕ) (op : TableOp) → Says op (answer t player op)
  answer-says t player (ops.Check object need) = check-says t player object need
  answer-says t player (ops.Init object) = init-says (is_ready t object)
  answer-says t player op = inl (inl refl)

  says : (t : Table) (who : Who) (op : TableOp) (r : TableReply) → Unit {0} → Unit {0} → table_reply t who op ≡ Some r → Says op r
  says t who op r kept fits is = subst (Says op) (cond_some (may t who.number op) (answer t who.number op) r is).1 (answer-says t who.number op)

  -- each reply of a history is of its operation
  pub table-answers : (start : Table) (h : List (Entry TableOp TableReply)) → Replays table_machine start h →
      AllByRecursion (λ e. AnswersTo decls (said_of e.op).0 e.reply) h
  table-answers start h replays =
      answers-along table_machine (λ t. Unit {0}) (λ op. Unit {0}) Says says (λ t who op kept fits. tt) start h tt replays (of-any h)
