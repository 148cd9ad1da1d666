use Rattle.little_endian.specs.Bytes.{each, Put}
use Rattle.bank_write.specs.Write.{entry_in, entry_bytes}
use Rattle.bank_write.specs.Handed.{handed}
use Rattle.bank_write.proofs.lists.Lists.put_entries.Given as goal

abbrev pub invariant-loop-n : goal.invariant-loop-n
invariant-loop-n l = Put (each (λ k. entry_bytes (entry_in (handed l.self) k)) l.n) l.initial.out 2 l.out
