use mathlib.Core.Bool.{true, false}
use Rattle.bank.proofs.Finds.{found_none, found_end, found_fits, found_part}
use Rattle.bank.proofs.lookup.Goals as goal

pub returns-in_default : goal.returns-in_default
returns-in_default c = found_none _ _ _ c.find.ensures c.in_default.is

pub overflow_add-end : goal.overflow_add-end
overflow_add-end c =
    record { fits = found_fits _ _ _ c.find.ensures c.in-Ok.is _ c.well_formed.0.0 c.well_formed.1.0.0 }

pub slice_bounds-result-end-then-found : goal.slice_bounds-result-end-then-found
slice_bounds-result-end-then-found c = found_end _ _ _ c.find.ensures c.in-Ok.is true c.if-found.true

pub returns-then-found : goal.returns-then-found
returns-then-found c = found_part _ _ _ c.find.ensures c.in-Ok.is true c.if-found.true

pub slice_bounds-result-end-2 : goal.slice_bounds-result-end-2
slice_bounds-result-end-2 c = found_end _ _ _ c.find.ensures c.in-Ok.is false c.if-found.false

pub returns : goal.returns
returns c = found_part _ _ _ c.find.ensures c.in-Ok.is false c.if-found.false
