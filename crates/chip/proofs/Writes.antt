-- What a register write leaves alone. Assumes nothing.
use mathlib.Core.Path.{◌≡◌, refl}
use mathlib.Core.Bool.{Bool, true, false, cond}
use Prim.Native.Nat.{ℕ, ◌-◌, ◌/◌}
use lib.Dec.{eqb}
use Rattle.chip.specs.State.{State, with_reverb, with_transfer}
use Rattle.chip.specs.Registers.{is_repeat, is_key_on, is_key_off, placed, key_on, key_off, set_repeat, set_control, effect_of, write_of}

-- what holds of each of two holds of the one that is taken
pub of_cases : {A : Type 0} (P : A → Type 0) (b : Bool) {x y : A} → (b ≡ true → P x) → (b ≡ false → P y) → P (cond b x y)
of_cases P true p q = p refl
of_cases P false p q = q refl

pub of_both : {A : Type 0} (P : A → Type 0) (b : Bool) {x y : A} → P x → P y → P (cond b x y)
of_both P b p q = of_cases P b (λ _. p) (λ _. q)

-- of a write's effects, one is taken
pub of_effects : (P : State → Type 0) (s : State) (offset old value : ℕ) → (is_repeat offset ≡ true → P (set_repeat s (offset / 16) value)) → P (key_on s (offset - 0x188) value)
    → P (key_off s (offset - 0x18C) value) → (eqb offset 0x1A2 ≡ true → P (with_reverb s (record { place = placed s value; right = s.reverb.right; held = s.reverb.held })))
    → P (with_transfer s (placed s value)) → P (set_control s old value) → P s → P (effect_of s offset old value)
unfolding effect_of
of_effects P s offset old value repeat on off base transfer control none =
    of_cases P (is_repeat offset) repeat (λ _. of_both P (is_key_on offset) on (of_both P (is_key_off offset) off
    (of_cases P (eqb offset 0x1A2) base (λ _. of_both P (eqb offset 0x1A6) transfer (of_both P (eqb offset 0x1AA) control none)))))

abbrev Doubt : Bool → State → Type 0
Doubt b s = s.control.doubt ≡ b

pub write_doubt : (s : State) (offset value : ℕ) → (write_of s offset value).control.doubt ≡ s.control.doubt
unfolding write_of key_on key_off set_repeat set_control
write_doubt s offset value = of_effects (Doubt s.control.doubt) _ offset _ value (λ _. refl) refl refl (λ _. refl) refl refl refl
