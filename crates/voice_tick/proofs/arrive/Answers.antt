use borrow.Author.Rules.{rules}
use Rattle.voice.proofs.Range.{ended_below}
use Rattle.voice.proofs.Ticks.{arrive_block, arrive_on}
use Rattle.voice_tick.proofs.arrive.Goals as goal

pub returns-then-i-le27 : goal.returns-then-i-le27
returns-then-i-le27 c = search arrive_on

pub fetch-requires : goal.fetch-requires
fetch-requires c = search (ended_below, rules)

pub returns : goal.returns
returns c = search arrive_block
