use Rattle.layout.proofs.address_of.Goals as goal

pub returns : goal.returns
returns c = rw c.wide.ensures
