-- Parts of bytes are bytes.
use Rattle.std.proofs.Common.{ℕ, ◌+◌, ◌<◌, List, length, get_or, take, drop, subst, arith, inl, inr}
use Rattle.std.proofs.lemmas.Bool.{cases_lt}
use Rattle.std.proofs.lemmas.List.{length-take, length-drop, get_or-drop, get_or-take, get_or_default, get_or_past}
use Rattle.dr_base.specs.Bytes.{AreBytes}

pub byte_at : (bytes : List ℕ) (i : ℕ) → AreBytes bytes → get_or bytes i 0 < 256
byte_at bytes i are = elim (cases_lt i (length bytes)) [ inl inside ↦ are i 0 inside | inr past ↦ rw (get_or_past bytes i 0 past) (omega arith) ]

pub are_bytes : (bytes : List ℕ) → ((i : ℕ) → get_or bytes i 0 < 256) → AreBytes bytes
are_bytes bytes each k d inside = subst (λ (b : ℕ). b < 256) (get_or_default bytes k 0 d inside) (each k)

pub AreBytes-take : (n : ℕ) (bytes : List ℕ) → AreBytes bytes → AreBytes (take n bytes)
AreBytes-take n bytes are k d inside =
    let shorter = length-take n bytes in
    rw (get_or-take n bytes k d (omega arith)) (are k d (omega arith))

pub AreBytes-drop : (n : ℕ) (bytes : List ℕ) → AreBytes bytes → AreBytes (drop n bytes)
AreBytes-drop n bytes are k d inside =
    let shorter = length-drop n bytes in
    rw (get_or-drop n bytes k d) (are (n + k) d (omega arith))
