-- The measure is the entry's number.
use Rattle.bank.proofs.+sound_of.Given as goal

abbrev pub decreases-sound_of : goal.decreases-sound_of
decreases-sound_of l = l.n
