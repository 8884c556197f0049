-- The number of each refusal of a request. Assumes nothing.
use Rattle.std.specs.Prelude.{ℕ}
use Rattle.facet_collector.specs.declared.request_fault.RequestFault.{RequestFault}
use Rattle.facet_collector.specs.declared.request_fault.RequestFault.TheVariants.{BelowRequested, AboveRequested, TooMany}

abbrev pub request_number : RequestFault → ℕ
request_number BelowRequested = 6
request_number AboveRequested = 7
request_number TooMany = 8
