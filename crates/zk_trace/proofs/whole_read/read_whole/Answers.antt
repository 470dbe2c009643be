use Rattle.zk_trace.proofs.WholeThere.{whole_there, whole_short}
use Rattle.zk_trace.specs.WholeParts.{singles_of, families_of}
use Rattle.zk_trace.proofs.whole_read.read_whole.Goals as goal

pub returns-in_default-4 : goal.returns-in_default-4
returns-in_default-4 c =
    whole_short c.args.formats c.args.scenario.now.decls c.in-Some.format c.in-Some-read_ending.ending (singles_of c.in-Some-2.singles) (families_of c.in-Some-3.families) c.args.feed.now
    c.read_first.new.feed c.read_ending.new.feed c.read_singles.new.feed c.read_families.new.feed c.read_players.new.feed
    c.in-Some.ensures c.in-Some-read_ending.ensures (rw c.in-Some-2.is at c.in_ok-singles.ensures) (rw c.in-Some-3.is at c.in_ok-families.ensures) (rw c.in_default-4.is at c.in_ok-players.ensures)

pub returns : goal.returns
returns c =
    whole_there c.args.formats c.args.scenario.now.decls c.in-Some.format c.in-Some-read_ending.ending (singles_of c.in-Some-2.singles) (families_of c.in-Some-3.families) c.args.feed.now
    c.read_first.new.feed c.read_ending.new.feed c.read_singles.new.feed c.read_families.new.feed c.read_players.new.feed
    c.in-Some.ensures c.in-Some-read_ending.ensures (rw c.in-Some-2.is at c.in_ok-singles.ensures) (rw c.in-Some-3.is at c.in_ok-families.ensures)
    c.in-Some-4.players (rw c.in-Some-4.is at c.in_ok-players.ensures)
