-- Inner: no contract of a top call is made of this file.
use Rattle.zk_trace.specs.declared.whole_read.Families as families_read
use Rattle.zk_trace.specs.declared.whole_read.Singles as singles_read
use Rattle.zk_trace.specs.declared.whole_read.Whole as whole_read
use Rattle.zk_trace.specs.WholeRead.{Singles, Families, Whole}

-- What was read as its parts, in the order of the text.

abbrev pub singles_of : singles_read.Singles → Singles
singles_of s = ((s.work, s.item_looks), (s.clock, s.table))

abbrev pub families_of : families_read.Families → Families
families_of f = (f.sems, (f.msgqs, (f.signals, (f.chans, f.observers))))

abbrev pub parts_of : whole_read.Whole → Whole
parts_of w = (w.format, (w.ending, (singles_of w.singles, (families_of w.families, w.players))))
