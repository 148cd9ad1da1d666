-- The rule of the interpolation's table, and from it and the entries' sizes that the interpolation of any four 16-bit samples
-- fits 16 bits. Assumes nothing.
use mathlib.Core.Path.{◌≡◌}
use mathlib.Core.Bool.{Bool}
use mathlib.Core.List.{List}
use Prim.Native.Nat.{ℕ, ◌+◌, ◌-◌, ◌≤◌, ◌<◌, zero-le}
use native.Mathlib.Nat.{le_refl}
use native.Mathlib.Omega.{arith}
use lib.Dec.{leb→le}
use lib.ListN.{get_or}
use lib.IntN.{ℤ, pos, negsuc, ◌+ℤ◌}
use lib.Signed.{le_z, le_z_yes, ◌≤ℤ◌}
use mir.Syntax.{w16}
use mir.Val.{SFits}
use Rattle.fixed.specs.Range.{up, dn, In}
use Rattle.fixed.proofs.Parts.{add_is, of_fits}
use Rattle.fixed.proofs.Number.{both, both_l, both_r, add_in, fit, product_in}
use Rattle.fixed.proofs.Table.{below_at, in_z, in_z→in}
use Rattle.gauss.specs.Gauss.{table, factor_at, tap_of, interpolated_of}

-- ---- the table

-- the sum of the four entries of an index
abbrev pub sum_at : ℕ → ℤ
sum_at i = factor_at (0xFF - i) +ℤ factor_at (0x1FF - i) +ℤ factor_at (0x100 + i) +ℤ factor_at i

abbrev least : ℕ → Bool
least i = le_z (pos 0x7F7F) (sum_at i)

abbrev most : ℕ → Bool
most i = le_z (sum_at i) (pos 0x7F81)

-- "Its rule, that the four entries of any i sum to 7F7Fh..7F81h, is proved once for the whole table"
pub sum_rule : (i : ℕ) → i < 256 → (pos 0x7F7F ≤ℤ sum_at i) × (sum_at i ≤ℤ pos 0x7F81)
unfolding table factor_at
sum_rule i h =
    let t = below_at 256 (λ k. both (least k) (most k)) tt i h in
    (le_z_yes (both_l (least i) (most i) t), le_z_yes (both_r (least i) (most i) t))

-- "the entries' sizes (a few are negative)": those are -1
pub factor_in : (i : ℕ) → i < 512 → In 1 0x59B3 (factor_at i)
unfolding table factor_at
factor_in i h = in_z→in (factor_at i) (below_at 512 (λ k. in_z 1 0x59B3 (factor_at k)) tt i h)

-- an entry of the table as it is lent
pub lent_at : {t : List ℤ} (i : ℕ) → t ≡ table → get_or t i (pos 0) ≡ factor_at i
unfolding factor_at
lent_at i e = rw e

-- ---- the fit

abbrev size : ℤ → ℕ
size z = up z + dn z

-- a 16-bit sample's tap is no larger than the entry
tap_in : (i : ℕ) {s : ℤ} → SFits w16 s → In (size (factor_at i)) (size (factor_at i)) (tap_of i s)
tap_in i {s} f =
    let e = factor_at i in
    let p = product_in {a = e} {l = dn e} {h = up e} (record { top = le_refl (up e); low = le_refl (dn e) }) (of_fits w16 s f) in
    record { top = omega arith; low = omega arith }

up_most : {z : ℤ} {n : ℕ} → z ≤ℤ pos n → up z ≤ n
up_most {z = pos a} {n} h = leb→le a n h.le
up_most {z = negsuc a} h = zero-le

-- the sizes of four numbers of at least -1 sum to their sum, and at most 2 for each
sizes : {a b c d : ℤ} {n m : ℕ} → In 1 m a → In 1 m b → In 1 m c → In 1 m d → (a +ℤ b +ℤ c +ℤ d) ≤ℤ pos n
    → size a + size b + size c + size d ≤ n + 8
sizes {a} {b} {c} {d} p q r s h =
    let ab = add_is a b in
    let abc = add_is (a +ℤ b) c in
    let abcd = add_is (a +ℤ b +ℤ c) d in
    let top = up_most h in
    omega arith

-- "and from it and the entries' sizes (a few are negative) that the sum fits 16 bits": each tap is no larger than its entry, and
-- the sizes of the four sum to their sum, at most 7F81h by the rule, and 2 for each that is -1: at most 7F89h.
pub fits16 : (i : ℕ) {a b c d : ℤ} → i < 256 → SFits w16 a → SFits w16 b → SFits w16 c → SFits w16 d → SFits w16 (interpolated_of i a b c d)
unfolding interpolated_of
fits16 i h fa fb fc fd =
    let taps = add_in (add_in (add_in (tap_in (0xFF - i) fa) (tap_in (0x1FF - i) fb)) (tap_in (0x100 + i) fc)) (tap_in i fd) in
    let rule = sum_rule i h in
    let small = sizes (factor_in (0xFF - i) (omega arith)) (factor_in (0x1FF - i) (omega arith)) (factor_in (0x100 + i) (omega arith)) (factor_in i (omega arith)) rule.1 in
    fit {l = 0x7F89} {h = 0x7F89} (record { top = omega arith; low = omega arith }) tt
