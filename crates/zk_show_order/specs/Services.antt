use Rattle.std.specs.Prelude.{ℕ, ◌+◌, ◌*◌, ◌==◌, nat_le, Bool, not, ◌&&◌, if◌then◌else◌}
use Rattle.zk_worker.specs.declared.steps.Spot.{Spot}
use Rattle.zk_worker.specs.declared.steps.Spot.TheVariants as spots
use Rattle.zk_worker.specs.Shown.{is_look}
use Rattle.zk_trace.specs.declared.stood.Stood.{Stood}

-- the number of the service at which a line stands: three of which there is one, and then five for each object number, one of
-- each kind
abbrev pub service_of : Spot → ℕ
service_of (spots.Work place) = 0
service_of (spots.LookItem item flags at) = 0
service_of (spots.Clock place) = 1
service_of (spots.Table place) = 2
service_of (spots.Sem object place) = 5 * object + 3
service_of (spots.Msgq object place) = 5 * object + 4
service_of (spots.Signal object place) = 5 * object + 5
service_of (spots.LookSignal object seen) = 5 * object + 5
service_of (spots.Chan object place) = 5 * object + 6
service_of (spots.Obs object place) = 5 * object + 7

-- how many entries of its service stand above a line: above that of a look at least so many
abbrev pub entries_above : Spot → ℕ
entries_above (spots.Work place) = place
entries_above (spots.Clock place) = place
entries_above (spots.Table place) = place
entries_above (spots.Sem object place) = place
entries_above (spots.Msgq object place) = place
entries_above (spots.Signal object place) = place
entries_above (spots.Chan object place) = place
entries_above (spots.Obs object place) = place
entries_above (spots.LookItem item flags at) = at
entries_above (spots.LookSignal object seen) = seen.stamp

-- whether a line can stand below so many entries of its service
abbrev pub fits_below : Spot → ℕ → Bool
fits_below spot count = if is_look spot then nat_le (entries_above spot) count else entries_above spot == count

-- whether a line is that of an entry of a service
abbrev pub is_entry_of : ℕ → Stood → Bool
is_entry_of service line = not (is_look line.spot) && (service_of line.spot == service)
