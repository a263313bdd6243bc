-- The first draws of two numbers, as another program works them out.
use Rattle.std.proofs.Common.{◌≡◌, refl}
use Rattle.scripts.specs.Make.{advanced, drawn, next_number, opening}

pub first_draw-of_zero : drawn (opening 0) ≡ 335903614
unfolding drawn advanced next_number
first_draw-of_zero = refl

pub first_draw-of_two : drawn (opening 2) ≡ 3299435481
unfolding drawn advanced next_number
first_draw-of_two = refl
