-- The fields of a record that each version has the same: numbers, and those that hold keys.
use Rattle.std.specs.Prelude.{ℕ, ◌==◌, ◌&&◌, ◌||◌, ◌⊎◌, Bool, true, false, not, nat_le, nat_lt, List, ◌++◌, Option, Some, None, if◌then◌else◌}
use Rattle.std.proofs.Common.{inl, inr}
use Rattle.std.specs.Int.{w8, w32, to_be_bytes}
use Rattle.bodies.specs.declared.format.Format.{Format}
use Rattle.bodies.specs.declared.format.Format.TheVariants.{Padded, Plain, Receipts}
use Rattle.cka.specs.Agreement.{agreement_size}
use Rattle.dr_base.specs.Position.{is_own}
use Rattle.dr_base.specs.declared.limits.TheConstants.{INDEX_LIMIT, LAST_EPOCH}
use Rattle.dr_base.specs.declared.position.Side.{Side}
use Rattle.dr_base.specs.declared.position.Side.TheVariants.{First, Second}
use Rattle.grammar.specs.Printer.{print_either}
use Rattle.grammar.specs.Reader.{Reader, number, piece, checked, mapped, both, maybe, either}
use Rattle.kem_laws.specs.Mechanism.{Mechanism}
use Rattle.packet.specs.Packet.{agreement_len}
use Rattle.session_model.specs.States.{Own, Phase, Reception, in_own, in_peers}

abbrev pub up_to : ℕ → ℕ → Bool
up_to most n = nat_le n most

-- ---- the side: 1 is First, 2 is Second

abbrev pub is_side : ℕ → Bool
is_side n = (n == 1) || (n == 2)

abbrev pub side_at : ℕ → Side
side_at n = if n == 1 then First else Second

abbrev pub code_of : Side → ℕ
code_of First = 1
code_of Second = 2

unfoldable pub side_field : Reader Side
side_field = mapped side_at (checked is_side (number w8))

-- ---- the format

abbrev pub format_code : Format → ℕ
format_code Plain = 1
format_code Padded = 2
format_code Receipts = 3

-- ---- the epoch, up to the last one; and a count of texts

unfoldable pub epoch_field : Reader ℕ
epoch_field = checked (up_to LAST_EPOCH) (number w32)

unfoldable pub count_field : Reader ℕ
count_field = checked (up_to INDEX_LIMIT) (number w32)

-- ---- the keys of the epoch

-- no byte of a secret is one that no secret has there
abbrev pub is_good : Option ℕ → Bool
is_good None = true
is_good (Some at) = false

abbrev pub is_secret : Mechanism → List ℕ → Bool
is_secret k bytes = is_good (k.meaning.bad_byte bytes)

abbrev pub own_of : List ℕ × (List ℕ × (List ℕ × ℕ)) → Own
own_of e = record { secret = e.0; agreement = e.1.0; chain = e.1.1.0; sent = e.1.1.1 }

abbrev pub of_own : Own → List ℕ × (List ℕ × (List ℕ × ℕ))
of_own own = (own.secret, (own.agreement, (own.chain, own.sent)))

-- in an own epoch: the secret, the agreement message, the chain key, and how many texts were said
unfoldable pub own_fields : Mechanism → ℕ → Reader Own
own_fields k epoch =
    mapped own_of
    (both (checked (is_secret k) (piece k.secret)) (λ _.
    both (piece (agreement_len (agreement_size k) epoch)) (λ _.
    both (piece 32) (λ _.
    count_field))))

abbrev pub own_text : Own → List ℕ
own_text own = own.secret ++ (own.agreement ++ (own.chain ++ to_be_bytes w32 own.sent))

abbrev pub phase_of : Own ⊎ List ℕ → Phase
phase_of (inl own) = in_own own
phase_of (inr public) = in_peers public

abbrev pub of_phase : Phase → Own ⊎ List ℕ
of_phase (in_own own) = inl own
of_phase (in_peers public) = inr public

-- in a peer's epoch: the peer's public key
unfoldable pub phase_field : Mechanism → Side → ℕ → Reader Phase
phase_field k side epoch =
    mapped phase_of (either (is_own side epoch) (own_fields k epoch) (piece k.public))

abbrev pub phase_text : Phase → List ℕ
phase_text phase = print_either own_text (λ public. public) (of_phase phase)

-- ---- the texts of the own epoch before: none where there is no such epoch

abbrev pub is_previous : Side → ℕ → ℕ → Bool
is_previous side epoch n =
    up_to INDEX_LIMIT n && ((n == 0) || nat_le (if is_own side epoch then 2 else 1) epoch)

unfoldable pub previous_field : Side → ℕ → Reader ℕ
previous_field side epoch = checked (is_previous side epoch) (number w32)

-- ---- the stream of the latest peer's epoch: there is one but where Second is in epoch 0

abbrev pub has_receiving : Side → ℕ → Bool
has_receiving side epoch = not (is_own side epoch) || nat_lt 0 epoch

abbrev pub reception_of : List ℕ × ℕ → Reception
reception_of e = record { chain = e.0; reach = e.1 }

abbrev pub of_reception : Reception → List ℕ × ℕ
of_reception r = (r.chain, r.reach)

unfoldable pub reception_fields : Reader Reception
reception_fields = mapped reception_of (both (piece 32) (λ _. count_field))

unfoldable pub receiving_field : Side → ℕ → Reader (Option Reception)
receiving_field side epoch = maybe (has_receiving side epoch) reception_fields

abbrev pub reception_text : Reception → List ℕ
reception_text r = r.chain ++ to_be_bytes w32 r.reach

-- its reach, 0 where there is none
abbrev pub reach_of : Option Reception → ℕ
reach_of None = 0
reach_of (Some r) = r.reach
