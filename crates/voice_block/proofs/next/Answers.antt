use Rattle.voice.proofs.Keys.{next_repeat, next_block}
use Rattle.voice_block.proofs.next.Goals as goal
use Rattle.voice_block.proofs.next.Goals.{then-flags-eq1, else-flags-eq1}

pub returns : goal.returns
returns c =
    elim c.if-flags-eq1.branch [
      | then-flags-eq1 w ↦ rw w.address-is (next_repeat _ _ _ w.if-flags-eq1.true w.address_of-address.ensures)
      | else-flags-eq1 w ↦ rw w.address-is (next_block _ _ _ w.if-flags-eq1.false w.forward-address.ensures)
    ]
