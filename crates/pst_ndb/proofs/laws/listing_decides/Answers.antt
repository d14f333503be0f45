use Rattle.pst_ndb.proofs.ListingLaws.{listing_law}
use Rattle.pst_ndb.proofs.laws.listing_decides.Goals as goal

pub returns : goal.returns
returns c = listing_law
