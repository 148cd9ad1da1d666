-- The transfer mode, by the way that halfwords move. Assumes nothing.
use Rattle.std.specs.Prelude.{Bool}
use Rattle.chip.specs.State.{State}
use Rattle.spu.specs.Step.{not_inward, not_outward}
use Rattle.calls_transfer.specs.declared.Direction.{Direction}
use Rattle.calls_transfer.specs.declared.Direction.TheVariants.{Inward, Outward}

-- "applied mode not 1 or 2 (inward), not 3 (outward)"
abbrev pub other_mode : Direction → State → Bool
other_mode Inward s = not_inward s
other_mode Outward s = not_outward s
