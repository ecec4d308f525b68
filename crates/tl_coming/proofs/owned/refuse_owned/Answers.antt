use Rattle.tl_coming.proofs.ClashLaws.{owned_settled}
use Rattle.tl_coming.proofs.owned.refuse_owned.Goals as goal

pub refuse_owned_of-requires : goal.refuse_owned_of-requires
refuse_owned_of-requires c = owned_settled c.args.db.now c.args.names.now.keys c.in_ok-outside.outside c.in_ok-outside.ensures
