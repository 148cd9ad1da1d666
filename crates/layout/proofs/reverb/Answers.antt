use Rattle.layout.proofs.Tail.{place_fits, reverb_is}
use borrow.Author.Rules.{rules}
use Rattle.layout.proofs.reverb.Goals as goal

pub address_of-requires : goal.address_of-requires
address_of-requires c = search place_fits

pub returns : goal.returns
returns c = search (reverb_is, rules)
