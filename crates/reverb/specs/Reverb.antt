-- One turn of the reverb: 000's formula, statement by statement. Assumes nothing.
use Rattle.std.specs.Prelude.{Bool, cond, not, List, ℕ, ◌+◌, ◌-◌, ◌*◌, ◌≤◌, ◌<◌, ℤ, pos, ◌+ℤ◌, ◌-ℤ◌}
use Rattle.fixed.specs.Signed.{signed, modulo_of, bits_of}
use Rattle.fixed.specs.Arithmetic.{saturated, product_of}
use Rattle.registers.specs.Map.{register_at}
use Rattle.soundram.specs.declared.ByteAddress.{ByteAddress}
use Rattle.soundram.specs.declared.Reader.{Reader}
use Rattle.soundram.specs.Address.{halfword_of}
use Rattle.soundram.specs.Program.{Prog, done, bind, get, put, branch}
use Rattle.reverb.specs.declared.Area.{Area}
use Rattle.reverb.specs.declared.Turning.{Turning}

-- "Address = base + ((place - base + displacement in bytes, not reduced before) modulo (L - base))"
unfoldable pub address_at : Area → ℤ → ByteAddress
address_at a d = record { 0 = a.base + modulo_of (pos a.place -ℤ pos a.base +ℤ d) (a.size - a.base) }

-- of a pair of registers, the offset of the right one from the left
unfoldable pub side_of : Bool → ℕ
side_of right = cond right 2 0

unfoldable pub who_of : Bool → Reader
who_of right = cond right Reader.ReverbRight Reader.ReverbLeft

module _ (area : Area) (t : Turning) where
  -- [d]; and [d] = x: "only stored halfwords .. saturate", "SPUCNT bit 7 clear: nothing is written"
  unfoldable pub fetch : ℤ → Prog ℤ
  fetch d = bind (get (who_of t.right) t.counted (halfword_of (address_at area d))) (λ v. done (signed 16 v))

  unfoldable pub store : ℤ → ℤ → Prog (Unit {0})
  store d x = branch t.writes (put (halfword_of (address_at area d)) (bits_of 16 x)) (done tt)

-- a volume, signed 16 bits as it stands; a displacement in bytes, of 8-byte units; each of a register by its offset
unfoldable pub volume_at : List ℕ → ℕ → ℤ
volume_at regs offset = signed 16 (register_at regs offset)

unfoldable pub bytes_at : List ℕ → ℕ → ℕ
bytes_at regs offset = register_at regs offset * 8

module _ (regs : List ℕ) where
  -- (in + a*vWALL - b)*vIIR + c
  unfoldable pub reflected_of : ℤ → ℤ → ℤ → ℤ → ℤ
  reflected_of input a b c = saturated (product_of (input +ℤ product_of a (volume_at regs 0x1CE) -ℤ b) (volume_at regs 0x1C4) +ℤ c)

  -- vCOMB1*a + vCOMB2*b + vCOMB3*c + vCOMB4*d
  unfoldable pub combed_of : ℤ → ℤ → ℤ → ℤ → ℤ
  combed_of a b c d = product_of a (volume_at regs 0x1C6) +ℤ product_of b (volume_at regs 0x1C8) +ℤ product_of c (volume_at regs 0x1CA) +ℤ product_of d (volume_at regs 0x1CC)

module _ (regs : List ℕ) (area : Area) (t : Turning) where
  -- of a pair of registers, the one of the turn's side, and the one of the other
  abbrev pub own : ℕ → ℕ
  own offset = offset + side_of t.right

  abbrev other : ℕ → ℕ
  other offset = offset + side_of (not t.right)

  -- the displacement that a register holds
  abbrev disp : ℕ → ℤ
  disp offset = pos (bytes_at regs offset)

  -- [m] = (in + [d]*vWALL - [m-2])*vIIR + [m-2]
  unfoldable pub reflection : ℤ → ℕ → ℕ → Prog (Unit {0})
  reflection input m d =
      bind (fetch area t (disp d)) (λ a.
      bind (fetch area t (disp m -ℤ pos 2)) (λ b.
      bind (fetch area t (disp m -ℤ pos 2)) (λ c.
      store area t (disp m) (reflected_of regs input a b c))))

  -- out = vCOMB1*[mCOMB1] + vCOMB2*[mCOMB2] + vCOMB3*[mCOMB3] + vCOMB4*[mCOMB4]
  unfoldable pub combs : Prog ℤ
  combs =
      bind (fetch area t (disp (own 0x1D8))) (λ a.
      bind (fetch area t (disp (own 0x1DC))) (λ b.
      bind (fetch area t (disp (own 0x1E8))) (λ c.
      bind (fetch area t (disp (own 0x1EC))) (λ d.
      done (combed_of regs a b c d)))))

  -- out = out - vAPF*[m-d], [m] = out, out = out*vAPF + [m-d]: "x of each all-pass, used on, written or not" saturates
  unfoldable pub all_pass : ℕ → ℕ → ℕ → ℤ → Prog ℤ
  all_pass v m d out =
      bind (fetch area t (disp m -ℤ disp d)) (λ a.
      let x = saturated (out -ℤ product_of a (volume_at regs v)) in
      bind (store area t (disp m) x) (λ _.
      bind (fetch area t (disp m -ℤ disp d)) (λ b.
      done (product_of x (volume_at regs v) +ℤ b))))

  -- both reflections, of the same side and of the different one
  unfoldable pub reflections_of : ℤ → Prog (Unit {0})
  reflections_of input =
      let entering = product_of input (volume_at regs (own 0x1FC)) in
      bind (reflection entering (own 0x1D4) (own 0x1E0)) (λ _. reflection entering (own 0x1E4) (other 0x1F0))

  -- both all-passes
  unfoldable pub all_passes : ℤ → Prog ℤ
  all_passes out = bind (all_pass 0x1D0 (own 0x1F4) 0x1C0 out) (λ a. all_pass 0x1D2 (own 0x1F8) 0x1C2 a)

  -- the whole turn, of the input; "each side's output, already multiplied by its output volume of that turn", saturates
  unfoldable pub turn_of : ℤ → Prog ℤ
  turn_of input =
      bind (reflections_of input) (λ _.
      bind combs (λ a.
      bind (all_passes a) (λ b.
      done (saturated (product_of b (volume_at regs (own 0x184)))))))

-- an area that lies in RAM, with its place
pub record AreaIn (a : Area) : Type 0 where
  pub least : a.base ≤ a.place
  pub below : a.place < a.size
  pub most : a.size ≤ 0x80000
