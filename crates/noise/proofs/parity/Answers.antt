use native.Mathlib.Omega.{arith}
use Rattle.noise.specs.Noise.{parity_of}
use Rattle.noise.proofs.parity.Goals as goal

pub returns : goal.returns
unfolding parity_of
returns c = omega arith
