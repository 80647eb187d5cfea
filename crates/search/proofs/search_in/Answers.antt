-- The table has room for the sets met.
use lib.ListN.{length-replicate}
use Rattle.search.proofs.search_in.Goals as goal

pub search_with-requires : goal.search_with-requires
search_with-requires g c = (c.requires.0, rw length-replicate c.requires.1, c.requires.3)
