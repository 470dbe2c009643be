use Rattle.std.proofs.Common.{◌-◌, Some, None, length, refl, sym, ◌∙◌}
use Rattle.std.proofs.lemmas.Bool.{false≢true}
use Rattle.zk_trace.specs.Feeds.{lines_in}
use Rattle.zk_trace.specs.TraceRead.{line_number, IsRefusedAt}
use Rattle.zk_trace.specs.WholeParts.{parts_of}
use Rattle.zk_trace.proofs.TraceRead.{whole-players, whole-few, refused-whole, none-right, left-right, found, only, named-at}
use Rattle.zk_trace.proofs.read.read_trace.Goals as goal

pub returns-in_default-clause-only : goal.returns-in_default-clause-only
returns-in_default-clause-only c =
    let read = rw (c.in_default.is, c.of-feed.ensures) at c.in_ok-whole.ensures in
    λ f trace in_format form same.
    absurd (none-right c.args.formats c.args.scenario.now c.decls-readable.ensures.valid.named c.args.bytes.now c.read_whole.new.feed f trace in_format form same c.long.ensures read)

pub returns-in_default-clause-at : goal.returns-in_default-clause-at
returns-in_default-clause-at c =
    let s = c.args.scenario.now in
    let text = c.args.bytes.now in
    let left = c.read_whole.new.feed in
    let first = c.args.first_line in
    let read = rw (c.in_default.is, c.of-feed.ensures) at c.in_ok-whole.ensures in
    let number = line_number first (length (lines_in text) - length left) in
    named-at c.refused.result number (IsRefusedAt c.args.formats s text first) c.refused.ensures
    (refused-whole c.args.formats s c.decls-readable.ensures.valid.named text left None first number read refl)

pub returns-then-not-is_read-clause-only : goal.returns-then-not-is_read-clause-only
returns-then-not-is_read-clause-only c =
    let read = rw (c.in-Some.is, c.of-feed.ensures) at c.in_ok-whole.ensures in
    λ f trace in_format form same.
    absurd (left-right c.args.formats c.args.scenario.now c.decls-readable.ensures.valid.named c.args.bytes.now c.read_whole.new.feed f trace in_format form same c.long.ensures
    (parts_of c.in-Some.whole) read (λ end. false≢true (sym c.if-not-is_read.true ∙ c.is_read.ensures.1 end)))

pub returns-then-not-is_read-clause-at : goal.returns-then-not-is_read-clause-at
returns-then-not-is_read-clause-at c =
    let s = c.args.scenario.now in
    let text = c.args.bytes.now in
    let left = c.read_whole.new.feed in
    let first = c.args.first_line in
    let read = rw (c.in-Some.is, c.of-feed.ensures) at c.in_ok-whole.ensures in
    let number = line_number first (length (lines_in text) - length left) in
    named-at c.refused-then-not-is_read.result number (IsRefusedAt c.args.formats s text first) c.refused-then-not-is_read.ensures
    (refused-whole c.args.formats s c.decls-readable.ensures.valid.named text left (Some (parts_of c.in-Some.whole)) first number read refl)

pub trace_of-requires-clause-few : goal.trace_of-requires-clause-few
trace_of-requires-clause-few c =
    let read = rw (c.in-Some.is, c.of-feed.ensures) at c.in_ok-whole.ensures in
    whole-few c.args.formats c.args.scenario.now c.decls-readable.ensures.valid.named c.decls-readable.ensures.valid (lines_in c.args.bytes.now) c.read_whole.new.feed
    (parts_of c.in-Some.whole) read

pub trace_of-requires-clause-all : goal.trace_of-requires-clause-all
trace_of-requires-clause-all c =
    let read = rw (c.in-Some.is, c.of-feed.ensures) at c.in_ok-whole.ensures in
    whole-players c.args.formats c.args.scenario.now c.decls-readable.ensures.valid.named (lines_in c.args.bytes.now) c.read_whole.new.feed (parts_of c.in-Some.whole) read

pub returns-clause-found : goal.returns-clause-found
returns-clause-found c =
    let read = rw (c.in-Some.is, c.of-feed.ensures) at c.in_ok-whole.ensures in
    rw c.in_ok-trace_of.ensures
    (found c.args.formats c.args.scenario.now c.decls-readable.ensures.valid.named c.args.bytes.now c.read_whole.new.feed (parts_of c.in-Some.whole) read
    (c.is_read.ensures.0 c.if-not-is_read.false))

pub returns-clause-only : goal.returns-clause-only
returns-clause-only c =
    let read = rw (c.in-Some.is, c.of-feed.ensures) at c.in_ok-whole.ensures in
    λ f trace in_format form same.
    c.in_ok-trace_of.ensures
    ∙ only c.args.formats c.args.scenario.now c.decls-readable.ensures.valid.named c.args.bytes.now c.read_whole.new.feed f trace in_format form same c.long.ensures
    (parts_of c.in-Some.whole) read
