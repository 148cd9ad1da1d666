use native.Mathlib.Nat.{lt_trans}
use Rattle.bank.proofs.Leads.{entry_stands, sound_here, alias_falls, alias_leads}
use Rattle.bank.proofs.+sound_of.Goals as goal

pub entry_at-e-requires : goal.entry_at-e-requires
entry_at-e-requires t c = entry_stands _ c.requires.0 _ c.requires.1

pub returns-then-e-ne1 : goal.returns-then-e-ne1
returns-then-e-ne1 t c = sound_here _ c.requires.0 _ c.requires.1 c.entry_at-e.ensures c.if-e-ne1.true

pub sound_of-requires : goal.sound_of-requires
sound_of-requires t c =
    let f = alias_falls _ c.requires.0 _ c.requires.1 c.entry_at-e.ensures c.if-e-ne1.false in
    (rw (← c.decreases) f, (c.requires.0, lt_trans f c.requires.1))

pub returns : goal.returns
returns t c = alias_leads _ c.requires.0 _ c.requires.1 c.entry_at-e.ensures c.if-e-ne1.false c.sound_of.ensures
