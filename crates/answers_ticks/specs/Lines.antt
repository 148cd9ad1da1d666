-- The lines of ticks, by their parts. Assumes nothing.
use Rattle.std.specs.Prelude.{◌≡◌, refl, Bool, ◌++◌, ℕ, ℤ, Float}
use Rattle.answers.specs.Answer.{signed_part, pair_part, hex_part, end_part, tick_start, tick_text, bits_of, floats_part, floats_text}

pub tick_text_is : (number tick : ℕ) (left right : ℤ) (irq doubt after : Bool)
    → tick_text number tick left right irq doubt after ≡ tick_start 116 number tick ++ (signed_part left ++ signed_part right) ++ end_part irq doubt after
unfolding tick_text pair_part
tick_text_is number tick left right irq doubt after = refl

pub floats_text_is : (number tick : ℕ) (left right : Float) (irq doubt after : Bool)
    → floats_text number tick left right irq doubt after
    ≡ tick_start 102 number tick ++ (hex_part (bits_of left) 8 ++ hex_part (bits_of right) 8) ++ end_part irq doubt after
unfolding floats_text floats_part
floats_text_is number tick left right irq doubt after = refl
