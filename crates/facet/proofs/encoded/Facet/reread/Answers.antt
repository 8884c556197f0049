use Rattle.facet.proofs.Octets.{reads_back}
use Rattle.facet.proofs.encoded.Facet.reread.Goals as goal

pub returns-clause-law : goal.returns-clause-law
returns-clause-law c = reads_back
