use Rattle.tl_index.proofs.PlaceLemmas.{set_none, set_more}
use Rattle.tl_index.proofs.places.Places.set_all.Goals as goal
