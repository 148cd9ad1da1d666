use borrow.Author.Rules.{rules}
use Rattle.std.proofs.lemmas.Result.{err_from_is_err_and}
use Rattle.xa.proofs.Laws.{number_sized, stereo_accepted, mono_accepted, decoded_refused, decoded_accepted}
use Rattle.xa.proofs.decode.Goals as goal

pub returns-in_err-accept : goal.returns-in_err-accept
returns-in_err-accept c =
    let a = c.args in
    let p = err_from_is_err_and c.from_residual.result c.from_residual.ensures.1 in
    rw (p.1, p.2) (decoded_refused a.sector.now a.stereo a.eight_bit a.histories a.out.now _ c.in_err-accept.ensures)

pub channel-left-requires : goal.channel-left-requires
channel-left-requires c =
    let s = number_sized c.args.sector.now c.args.out.now c.args.eight_bit c.in_ok-accept.ensures in
    search rules

pub channel-right-requires : goal.channel-right-requires
channel-right-requires c =
    let s = number_sized c.args.sector.now c.args.out.now c.args.eight_bit c.in_ok-accept.ensures in
    search rules

pub channel-mono-requires : goal.channel-mono-requires
channel-mono-requires c =
    let s = number_sized c.args.sector.now c.args.out.now c.args.eight_bit c.in_ok-accept.ensures in
    search rules

pub returns-then-stereo : goal.returns-then-stereo
returns-then-stereo c =
    let a = c.args in
    let s = number_sized a.sector.now a.out.now a.eight_bit c.in_ok-accept.ensures in
    decoded_accepted a.sector.now a.stereo a.eight_bit a.histories a.out.now c.in_ok-accept.ensures c.if-stereo.true (stereo_accepted a.sector.now a.histories a.out.now s.1 c.channel-left.ensures c.channel-right.ensures)

pub returns-else-stereo : goal.returns-else-stereo
returns-else-stereo c =
    let a = c.args in
    let s = number_sized a.sector.now a.out.now a.eight_bit c.in_ok-accept.ensures in
    decoded_accepted a.sector.now a.stereo a.eight_bit a.histories a.out.now c.in_ok-accept.ensures c.if-stereo.false (mono_accepted a.sector.now a.histories a.out.now s.1 c.channel-mono.ensures)
