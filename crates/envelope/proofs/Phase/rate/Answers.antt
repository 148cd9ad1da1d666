use mathlib.Core.Path.{refl}
use mathlib.Core.Logic.{inl, inr}
use native.Mathlib.Nat.{div-one}
use Rattle.envelope.specs.Adsr.{rate_of}
use Rattle.envelope.proofs.Rates.{rate_at}
use Rattle.envelope.proofs.Phase.rate.Goals as goal

pub returns-in-Idle : goal.returns-in-Idle
unfolding rate_of
returns-in-Idle c = elim c.in-Idle.is [ inl e ↦ rate_at _ _ e refl | inr e ↦ rate_at _ _ e refl ]

pub returns-in-Attack : goal.returns-in-Attack
unfolding rate_of
returns-in-Attack c = search rate_at

pub returns-in-Decay : goal.returns-in-Decay
unfolding rate_of
returns-in-Decay c = search rate_at

pub returns-in-Sustain : goal.returns-in-Sustain
unfolding rate_of
returns-in-Sustain c = search rate_at

pub returns-in-Release : goal.returns-in-Release
unfolding rate_of
returns-in-Release c = search (rate_at, div-one)
