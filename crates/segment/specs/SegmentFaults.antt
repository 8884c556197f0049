-- The number of each refusal of a segment. Assumes nothing.
use Rattle.std.specs.Prelude.{ℕ}
use Rattle.segment.specs.declared.segment_fault.SegmentFault.{SegmentFault}
use Rattle.segment.specs.declared.segment_fault.SegmentFault.TheVariants.{Column, Name, Documents}
use Rattle.segment.specs.Faults.{column_number}

abbrev pub segment_number : SegmentFault → ℕ
segment_number (Column i e) = column_number e
segment_number (Name i) = 17
segment_number Documents = 18
