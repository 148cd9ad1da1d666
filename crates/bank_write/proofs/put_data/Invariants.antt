use lib.ListN.{take}
use Rattle.little_endian.specs.Bytes.{Put}
use Rattle.bank_write.proofs.put_data.Given as goal

abbrev pub invariant-loop-n : goal.invariant-loop-n
invariant-loop-n l = Put (take l.n l.«data») l.initial.out l.at l.out
