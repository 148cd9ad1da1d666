use native.Mathlib.Omega.{arith}
use Rattle.layout.proofs.Read.{index_byte, position_is}
use Rattle.layout.proofs.position.Goals as goal

pub overflow_cast-result : goal.overflow_cast-result
overflow_cast-result c = let l = index_byte _ _ c.requires.0 c.requires.1 in record { fits = omega arith }

pub returns : goal.returns
returns c = search position_is
