use borrow.Author.Rules.{rules}
use mir.Syntax.{w16, w32}
use mir.Facts.{to_z-of_z}
use Rattle.fixed.proofs.Number.{ok, is, passed_in}
use Rattle.soundram.proofs.Programs.{lent_after}
use Rattle.reverb.proofs.Turns.{turn_does}
use Rattle.reverb_turn.proofs.turn.Goals as goal

pub combs-sum-requires : goal.combs-sum-requires
combs-sum-requires c =
    lent_after c.reflections-early.ensures c.requires

pub all_passes-late-requires : goal.all_passes-late-requires
all_passes-late-requires c =
    (lent_after c.reflections-early.ensures c.requires, c.combs-sum.ensures.1)

pub leaving-value-requires : goal.leaving-value-requires
leaving-value-requires c =
    passed_in w32 c.all_passes-late.ensures.1 tt

pub returns : goal.returns
returns c =
    turn_does _ _ _ _ (to_z-of_z c.ranges.input) c.reflections-early.ensures c.combs-sum.ensures.0 c.all_passes-late.ensures.0 (search (rules, c.struct_told-1.given)) c.leaving-value.ensures (is (ok w16 _ c.leaving-value.type_inv))
