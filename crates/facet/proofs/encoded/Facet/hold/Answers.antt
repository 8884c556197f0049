use Rattle.std.proofs.Common.{◌++◌, length, drop, replicate, ap}
use Rattle.facet.proofs.Bytes.{filled_copy, padded_filled}
use Rattle.facet.proofs.encoded.Facet.hold.Goals as goal

pub invariant_of-result : goal.invariant_of-result
invariant_of-result c =
    padded_filled c.args.encoded.now _ _ c.requires.text
    (filled_copy _ (replicate 127 0) _ c.requires.bound (ap (λ l. l ++ drop (length c.args.encoded.now) (replicate 127 0)) c.copy_from_slice.ensures.after))
