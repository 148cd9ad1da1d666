-- A block's samples joined to the three before it, and a load. Assumes nothing.
use mathlib.Core.Path.{◌≡◌, refl, ap, ◌∙◌}
use mathlib.Core.Bool.{true}
use mathlib.Core.List.{List, ◌++◌}
use Prim.Native.Nat.{ℕ}
use native.Mathlib.Omega.{arith}
use lib.IntN.{ℤ, pos}
use lib.ListN.{length, drop, get_or}
use borrow.Rule.Slice.PartMut.{put_mid}
use Rattle.std.specs.List.{between}
use Rattle.std.proofs.lemmas.List.{take_at, drop_at, drop_all, append-nil, length-drop}
use Rattle.std.proofs.lemmas.Slice.{between_to_end}
use Rattle.adpcm.specs.Adpcm.{block_of}
use Rattle.voice.specs.declared.Source.{Source}
use Rattle.voice.specs.declared.Voice.{Voice}
use Rattle.voice.specs.Voice.{looped_of, window_of, filled_of}

-- the three last samples before, written over the first three of a, and the block over the other 28
pub joined_as : {a b block : List ℤ} (zs before : List ℤ) → a ≡ between 28 31 before → b ≡ block → length before ≡ 31 → length zs ≡ 28 → put_mid 3 28 (a ++ zs) b ≡ drop 28 before ++ block
joined_as {a} {b} zs before ea eb l n =
    let k : a ≡ drop 28 before = ea ∙ between_to_end before 28 31 (omega arith) in
    let j : length a ≡ 3 = ap length k ∙ length-drop 28 before ∙ rw l refl in
    rw (take_at a zs 3 j, drop_at a zs 3 j, drop_all 28 zs (omega arith), append-nil b, k, eb)

pub filled_as : (v : Voice) (bytes : List ℕ) {block samples : List ℤ} {o p : ℤ} {s : Source}
    → block ≡ block_of bytes o p → o ≡ get_or v.playing.samples 30 (pos 0) → p ≡ get_or v.playing.samples 29 (pos 0)
    → samples ≡ drop 28 v.playing.samples ++ block → s ≡ looped_of v.source (get_or bytes 1 0)
    → record { envelope = v.envelope; source = s; position = v.position; playing = record { loaded = true; flags = get_or bytes 1 0; samples = samples }; ended = v.ended } ≡ filled_of v bytes
unfolding filled_of window_of
filled_as v bytes b o p s l = rw (s, l, b, o, p)
