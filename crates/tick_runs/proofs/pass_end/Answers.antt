use native.Mathlib.Omega.{arith}
use Rattle.tick_runs.proofs.Voices.{passed_in, steps_pass}
use Rattle.tick_runs.proofs.pass_end.Goals as goal

pub end-past-requires : goal.end-past-requires
end-past-requires c =
    let z = c.requires in
    let v = c.voice-before.ensures in
    let l = z.6.sized.least in
    (rw v z.2.below, omega arith, z.6.sized.most)

pub load-requires : goal.load-requires
load-requires c =
    let z = c.requires in
    let s = c.of-s.ensures in
    let v = c.voice-before.ensures in
    let e = c.tick-envelope.ensures in
    let x = c.end-past.ensures in
    let q = passed_in _ _ _ _ _ _ z.4 s v e x z.5 z.3 z.6.sized z.2 in
    (z.0, z.1, q.0, q.1, z.6)

pub returns : goal.returns
returns c =
    let z = c.requires in
    let s = c.of-s.ensures in
    let v = c.voice-before.ensures in
    let e = c.tick-envelope.ensures in
    let x = c.end-past.ensures in
    let b = c.load.ensures in
    steps_pass _ _ _ _ _ _ z.4 s v e x b
