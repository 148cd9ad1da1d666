use Rattle.std.proofs.Common.{rules}
use Rattle.soundram.proofs.Addresses.{forward_below}
use Rattle.soundram.proofs.Programs.{within}
use Rattle.voice_play.proofs.put_block.Goals as goal

pub write-requires : goal.write-requires
write-requires c = search (within, forward_below, rules)
