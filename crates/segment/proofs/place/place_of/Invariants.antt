use Rattle.std.proofs.Common.{◌≡◌, ◌-◌, ◌≤◌, not, length, take}
use Rattle.std.specs.Str.{bytes_eq}
use Rattle.segment.specs.Fields.{name_at, place_of}
use Rattle.segment.specs.Items.{first_failing}
use Rattle.segment.proofs.place.place_of.Given as goal

abbrev pub invariant-bytes : goal.invariant-bytes
invariant-bytes l = (l.k ≤ length l.name) × (take l.k l.field ≡ take l.k l.name)

abbrev pub decreases-bytes : goal.decreases-bytes
decreases-bytes l = length l.name - l.k

abbrev pub invariant-fields : goal.invariant-fields
invariant-fields l = (l.i ≤ length l.fields) × (place_of l.fields l.name ≡ first_failing (λ i. not (bytes_eq (name_at l.fields i) l.name)) l.i (length l.fields - l.i))

abbrev pub decreases-fields : goal.decreases-fields
decreases-fields l = length l.fields - l.i
