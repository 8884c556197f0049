-- The number of each refusal of a collector. Assumes nothing.
use Rattle.std.specs.Prelude.{ℕ}
use Rattle.collector.specs.declared.fault.OpeningFault.{OpeningFault}
use Rattle.collector.specs.declared.fault.OpeningFault.TheVariants.{NoField, NotFacets, TooManyChildren}
use Rattle.collector.specs.declared.fault.CollectingFault.{CollectingFault}
use Rattle.collector.specs.declared.fault.CollectingFault.TheVariants.{NoDocument, Unfit}
use Rattle.collector.specs.declared.fault.CollectorFault.{CollectorFault}
use Rattle.collector.specs.declared.fault.CollectorFault.TheVariants.{Opening, Collecting}
use Rattle.collector.specs.declared.fault.FloorFault.{FloorFault}
use Rattle.collector.specs.declared.fault.FloorFault.TheVariants.{NotANumber}

abbrev pub opening_number : OpeningFault → ℕ
opening_number NoField = 19
opening_number NotFacets = 20
opening_number TooManyChildren = 21

abbrev pub collecting_number : CollectingFault → ℕ
collecting_number NoDocument = 22
collecting_number Unfit = 23

abbrev pub collector_number : CollectorFault → ℕ
collector_number (Opening e) = opening_number e
collector_number (Collecting e) = collecting_number e

abbrev pub floor_number : FloorFault → ℕ
floor_number NotANumber = 25
