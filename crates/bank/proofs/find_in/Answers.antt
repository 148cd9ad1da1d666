use Rattle.bank.proofs.Leads.{sound_stands}
use Rattle.bank.proofs.Finds.{found_as}
use Rattle.bank.proofs.find_in.Goals as goal

pub entry_at-e-requires : goal.entry_at-e-requires
entry_at-e-requires c =
    let p = c.requires in
    rw c.sound_of-entry.ensures (sound_stands _ p.0 _ p.1)

pub returns : goal.returns
returns c = found_as _ _ _ c.sound_of-entry.ensures c.entry_at-e.ensures
