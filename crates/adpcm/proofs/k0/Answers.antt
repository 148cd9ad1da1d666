use mathlib.Core.Path.{refl}
use lib.IntN.{ℤ}
use borrow.Author.Rules.{rules}
use Rattle.adpcm.specs.Adpcm.{k0_of}
use Rattle.adpcm.specs.declared.TheConstants.{FACTORS}
use Rattle.adpcm.proofs.Laws.{pair_entry}
use Rattle.adpcm.proofs.k0.Goals as goal

pub returns : goal.returns
returns c = pair_entry k0_of 0 122 (λ (p : ℤ × ℤ). p.0) FACTORS 5 tt refl c.args.filter (search rules) tt
