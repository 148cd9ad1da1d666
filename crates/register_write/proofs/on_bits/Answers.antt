use mathlib.Core.Path.{refl}
use borrow.Author.Rules.{rules}
use Rattle.layout.specs.Layout.{state_of}
use Rattle.register_write.specs.Keys.{key_bits}
use Rattle.register_write.proofs.Work.{still_sized, bits_none_in, bits_more_in, holds_end}
use Rattle.register_write.proofs.on_bits.Goals as goal

pub loop-k-init : goal.loop-k-init
loop-k-init c = search bits_none_in

pub key-requires : goal.key-requires
key-requires c = (search rules, search rules, still_sized _ c.requires.3 c.loop-k.invariant refl)

pub loop-k-preserved : goal.loop-k-preserved
loop-k-preserved c = search bits_more_in

pub returns : goal.returns
returns c =
    let a = c.args in
    holds_end (key_bits a.on (state_of a.state.now) a.value a.first) _ _ c.loop-k.invariant (search rules) c.loop-k-test.false
