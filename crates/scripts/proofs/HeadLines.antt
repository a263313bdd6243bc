-- Lines between the key and the deeds, as they are read.
use Rattle.std.proofs.Common.{◌≡◌, codes, refl}
use Rattle.std.specs.Prelude.{Some, None, [], ◌∷◌, false, true}
use Rattle.bodies.specs.declared.format.Format.TheVariants.{Padded, Plain}
use Rattle.bodies.specs.Formats.{format_read}
use Rattle.scripts.specs.Heads.{both_plain, formats_read, head_read, guard_read}
use Rattle.scripts.specs.Words.{after_prefix, halves_of, line_read, plain_read, seed_read, side_named}

pub both_said : formats_read (codes "format plain padded") ≡ Some (record { first = Plain; second = Padded })
unfolding formats_read format_read after_prefix halves_of
both_said = refl

-- one word, or three, or another, says no formats
pub one_said : formats_read (codes "format padded") ≡ None
unfolding formats_read format_read after_prefix halves_of
one_said = refl

pub three_said : formats_read (codes "format plain padded plain") ≡ None
unfolding formats_read format_read after_prefix halves_of
three_said = refl

pub other_said : formats_read (codes "format plain open") ≡ None
unfolding formats_read format_read after_prefix halves_of
other_said = refl

-- `guard` stands first, or after formats
pub guard_said : head_read (codes "guard" ∷ []) ≡ record { formats = both_plain; guarded = true; number = 4; lines = [] }
unfolding head_read formats_read guard_read after_prefix
guard_said = refl

pub guard_behind : head_read (codes "format plain padded" ∷ codes "guard" ∷ [])
    ≡ record { formats = record { first = Plain; second = Padded }; guarded = true; number = 5; lines = [] }
unfolding head_read formats_read format_read guard_read after_prefix halves_of
guard_behind = refl

-- a second one is a line of the deeds, and so are formats behind it
pub guard_once : head_read (codes "guard" ∷ codes "guard" ∷ [])
    ≡ record { formats = both_plain; guarded = true; number = 4; lines = codes "guard" ∷ [] }
unfolding head_read formats_read guard_read after_prefix
guard_once = refl

pub formats_first : head_read (codes "guard" ∷ codes "format plain padded" ∷ [])
    ≡ record { formats = both_plain; guarded = true; number = 4; lines = codes "format plain padded" ∷ [] }
unfolding head_read formats_read guard_read after_prefix
formats_first = refl

-- with a blank behind it it is none
pub guard_exact : head_read (codes "guard " ∷ [])
    ≡ record { formats = both_plain; guarded = false; number = 3; lines = codes "guard " ∷ [] }
unfolding head_read formats_read guard_read after_prefix
guard_exact = refl

-- among the deeds neither line is one
pub no_deed : line_read (codes "format plain padded") ≡ None
unfolding line_read plain_read seed_read side_named after_prefix
no_deed = refl

pub guard_no_deed : line_read (codes "guard") ≡ None
unfolding line_read plain_read seed_read side_named after_prefix
guard_no_deed = refl
