use Rattle.layout.proofs.Tail.{transfer_fits, transfer_is}
use Rattle.layout.proofs.transfer.Goals as goal

pub address_of-requires : goal.address_of-requires
address_of-requires c = search transfer_fits

pub returns : goal.returns
returns c = search transfer_is
