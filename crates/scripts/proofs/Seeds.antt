-- The seed that a line gives has 32 bytes.
use Rattle.std.proofs.Common.{◌≡◌, ℕ, Bool, true, false, List, length, Option, Some, None, Result, Ok, Err, refl, ◌∙◌, sym, arith}
use Rattle.std.specs.Prelude.{IfSome, option_map, codes, if◌then◌else◌}
use Rattle.std.specs.Option.{option_and_then, option_or}
use Rattle.std.specs.Result.{result_ok}
use Rattle.hex.specs.Hex.{decode_sized}
use Rattle.hex.proofs.HexLemmas.{decode_of-ok, decode_sized-ok, decode_sized-twice}
use Rattle.dr_base.specs.declared.position.Side.{Side}
use Rattle.dr_model.specs.Machines.Events.{Event, does, seeds, shows_awaiting, shows_inbox, shows_state}
use Rattle.scripts.specs.Words.{after_prefix, called_words, is_text, look_words, plain_read, seed_read, side_named, side_words, sided}
use Rattle.dr_model.specs.Theorems.Fairness.{IsSeedWhole}

-- ---- choices

whole_or : (a b : Option Event) → IfSome a IsSeedWhole → IfSome b IsSeedWhole → IfSome (option_or a b) IsSeedWhole
whole_or None b h i = i
whole_or (Some event) b h i = h

whole_if : (b : Bool) (x y : Option Event) → IfSome x IsSeedWhole → IfSome y IsSeedWhole → IfSome (if b then x else y) IsSeedWhole
whole_if true x y h i = h
whole_if false x y h i = i

whole_map : {A : Type 0} (f : A → Event) (o : Option A) → ((a : A) → IsSeedWhole (f a)) → IfSome (option_map f o) IsSeedWhole
whole_map f None h = tt
whole_map f (Some a) h = h a

whole_then : {A : Type 0} (f : A → Option Event) (o : Option A) → ((a : A) → IfSome (f a) IsSeedWhole)
    → IfSome (option_and_then f o) IsSeedWhole
whole_then f None h = tt
whole_then f (Some a) h = h a

-- ---- a seed line

decoded : (digits : List ℕ) (r : Result (List ℕ) _) → decode_sized digits 32 ≡ r → IfSome (result_ok r) (λ bytes. length bytes ≡ 32)
decoded digits (Err e) h = tt
decoded digits (Ok bytes) h =
    let long = decode_sized-ok digits 32 bytes h in
    let twice = (decode_of-ok digits bytes (sym (decode_sized-twice digits 32 long) ∙ h)) in
    omega (arith, long, twice.2)

whole_seed : (o : Option (List ℕ)) → IfSome o (λ bytes. length bytes ≡ 32) → IfSome (option_map seeds o) IsSeedWhole
whole_seed None h = tt
whole_seed (Some bytes) h = h

found : (o : Option (List ℕ)) → IfSome (option_and_then (λ digits. result_ok (decode_sized digits 32)) o) (λ bytes. length bytes ≡ 32)
found None = tt
found (Some digits) = decoded digits (decode_sized digits 32) refl

-- ---- a side's line

whole_look : (side : Side) (words : List ℕ) → IfSome (look_words side words) IsSeedWhole
unfolding look_words
whole_look side words =
    let state = if is_text (codes "state") words then Some (shows_state side) else None in
    whole_if (is_text (codes "inbox") words) (Some (shows_inbox side))
    (if is_text (codes "awaiting") words then Some (shows_awaiting side) else state) tt
    (whole_if (is_text (codes "awaiting") words) (Some (shows_awaiting side)) state tt
    (whole_if (is_text (codes "state") words) (Some (shows_state side)) None tt tt))

pub whole_words : (side : Side) (words : List ℕ) → IfSome (side_words side words) IsSeedWhole
unfolding side_words
whole_words side words =
    whole_or (option_map (does side) (called_words words)) (look_words side words)
    (whole_map (does side) (called_words words) (λ _. tt)) (whole_look side words)

pub whole_plain : (line : List ℕ) → IfSome (plain_read line) IsSeedWhole
unfolding plain_read seed_read
whole_plain line =
    whole_or (seed_read line) (sided side_words line)
    (whole_seed (option_and_then (λ digits. result_ok (decode_sized digits 32)) (after_prefix (codes "seed ") line)) (found (after_prefix (codes "seed ") line)))
    (whole_then (λ (named : Side × List ℕ). side_words named.0 named.1) (side_named line) (λ named. whole_words named.0 named.1))
