use Rattle.tick_runs.proofs.Voices.{loaded_place}
use Rattle.tick_runs.proofs.load.Goals as goal

pub put_voice-requires : goal.put_voice-requires
put_voice-requires c =
    let z = c.requires in
    let f = c.fetch-l.ensures in
    let q = loaded_place _ _ _ f z.2 z.3 z.4.sized in
    (z.0, z.1, q.0, q.1)
