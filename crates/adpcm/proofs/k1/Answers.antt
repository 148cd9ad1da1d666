use mathlib.Core.Path.{refl}
use lib.IntN.{ℤ}
use borrow.Author.Rules.{rules}
use Rattle.adpcm.specs.Adpcm.{k1_of}
use Rattle.adpcm.specs.declared.TheConstants.{FACTORS}
use Rattle.adpcm.proofs.Laws.{pair_entry}
use Rattle.adpcm.proofs.k1.Goals as goal

pub returns : goal.returns
returns c = pair_entry k1_of 60 0 (λ (p : ℤ × ℤ). p.1) FACTORS 5 tt refl c.args.filter (search rules) tt
