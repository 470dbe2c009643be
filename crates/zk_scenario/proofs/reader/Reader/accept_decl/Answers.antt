use Rattle.std.proofs.Common.{false, rules}
use Rattle.std.proofs.lemmas.Bool.{and_parts}
use Rattle.zk_line.specs.Checks.{each_well_named, name_once}
use Rattle.zk_line.proofs.Fits.{fresh-read}
use Rattle.zk_words.specs.declared.word.Head.TheVariants as head
use Rattle.zk_scenario.proofs.AcceptedLines.{Passes-verdict, nothing_begun, IsValid-declared-is}
use Rattle.zk_scenario.proofs.reader.Reader.accept_decl.Goals as goal

pub declare-requires-clause-fresh : goal.declare-requires-clause-fresh
declare-requires-clause-fresh c =
    let passes = Passes-verdict c.args.self.now (head.Declare c.args.kind) c.args.parts.now c.requires.passes in
    let named = (and_parts (each_well_named false c.args.self.now.decls c.args.parts.now) (name_once c.args.parts.now) passes.well_named).0 in
    fresh-read false c.args.self.now.decls c.args.kind c.args.parts.now c.in-Some.decl named (search rules)

pub declare-requires-clause-valid : goal.declare-requires-clause-valid
declare-requires-clause-valid c =
    IsValid-declared-is _ _ c.args.kind c.args.parts.now _ c.self.view_is c.self.invariant.valid c.requires.form c.requires.passes (search rules)

pub declare-requires-clause-between : goal.declare-requires-clause-between
declare-requires-clause-between c =
    (nothing_begun c.args.self.now (Passes-verdict c.args.self.now (head.Declare c.args.kind) c.args.parts.now c.requires.passes).placed).1
