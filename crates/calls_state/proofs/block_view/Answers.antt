use mathlib.Core.Path.{refl}
use Rattle.calls.proofs.Refused.{numbered}
use Rattle.calls_state.proofs.Views.{view_inside, view_none, view_some}
use Rattle.calls_state.proofs.block_view.Goals as goal

pub returns-in-Err : goal.returns-in-Err
returns-in-Err c = view_none _ _ _ c.in-Err.ensures (numbered _ refl)

pub slice_bounds-result-end : goal.slice_bounds-result-end
slice_bounds-result-end c = view_inside _ _ _ c.in-Ok.ensures refl

pub returns-in-Ok : goal.returns-in-Ok
returns-in-Ok c = view_some _ _ _ c.in-Ok.ensures refl
