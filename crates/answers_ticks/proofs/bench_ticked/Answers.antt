use Rattle.answers.specs.Answer.{bench_text}
use Rattle.answers_ticks.proofs.Laws.{around_pair}
use Rattle.answers_ticks.proofs.bench_ticked.Goals as goal

pub returns : goal.returns
unfolding bench_text
returns c = search around_pair
