use Rattle.register_read.proofs.Values.{flag_shl}
use Rattle.register_read.proofs.end_flag.Goals as goal

pub returns : goal.returns
returns c = flag_shl c.args.ended c.args.k c.requires.0 c.requires.1
