-- Reading a packet is reading its two halves.
use Rattle.std.proofs.Common.{◌≡◌, ℕ, List, Ok, Err, refl}
use Rattle.std.specs.Prelude.{nat_eq}
use Rattle.std.specs.Int.{w8, w16, w32}
use Rattle.packet.specs.declared.fault.Kind.TheVariants.{Version, Epoch, Previous, Index, Agreement}
use Rattle.packet.specs.declared.fault.Malformed.{Malformed}
use Rattle.packet.specs.Packet.{agreement_len}
use Rattle.packet.specs.Reading.{lawful, field, read_packet, is_version, is_epoch, is_previous, is_index}
use Rattle.packet.specs.Halves.{Head, read_head, read_body}
use Rattle.packet.proofs.Steps.{by_step, by_fault, passed_on}

-- where the numbers are read, the rest decides
pub after_head : (agreement : ℕ) (bytes : List ℕ) (x : Head × List ℕ) → read_head agreement bytes ≡ Ok x
    → read_packet agreement bytes ≡ read_body x.0 x.1
unfolding read_packet read_head read_body
after_head agreement bytes x e =
    by_step (lawful w8 0 Version is_version bytes) _ x e (λ version version_is e1.
    by_step (field 1 16 version.1) _ x e1 (λ session session_is e2.
    by_step (lawful w32 17 Epoch is_epoch session.1) _ x e2 (λ epoch epoch_is e3.
    by_step (lawful w32 21 Previous (is_previous epoch.0) epoch.1) _ x e3 (λ previous previous_is e4.
    by_step (lawful w32 25 Index is_index previous.1) _ x e4 (λ index index_is e5.
    by_step (lawful w16 29 Agreement (λ n. nat_eq n (agreement_len agreement epoch.0)) index.1) _ x e5 (λ size size_is e6.
    let is = passed_on
    (record { version = version.0; session = session.0; epoch = epoch.0; previous = previous.0; index = index.0; size = size.0 }, size.1) x e6 in
    rw (version_is, session_is, epoch_is, previous_is, index_is, size_is, ← is) refl))))))

-- a fault of the numbers is the first one
pub in_head : (agreement : ℕ) (bytes : List ℕ) (fault : Malformed) → read_head agreement bytes ≡ Err fault
    → read_packet agreement bytes ≡ Err fault
unfolding read_packet read_head
in_head agreement bytes fault e =
    by_fault (lawful w8 0 Version is_version bytes) _ fault e (λ here. rw (here) refl) (λ version version_is e1.
    by_fault (field 1 16 version.1) _ fault e1 (λ here. rw (version_is, here) refl) (λ session session_is e2.
    by_fault (lawful w32 17 Epoch is_epoch session.1) _ fault e2 (λ here. rw (version_is, session_is, here) refl)
    (λ epoch epoch_is e3.
    by_fault (lawful w32 21 Previous (is_previous epoch.0) epoch.1) _ fault e3
    (λ here. rw (version_is, session_is, epoch_is, here) refl) (λ previous previous_is e4.
    by_fault (lawful w32 25 Index is_index previous.1) _ fault e4
    (λ here. rw (version_is, session_is, epoch_is, previous_is, here) refl) (λ index index_is e5.
    by_fault (lawful w16 29 Agreement (λ n. nat_eq n (agreement_len agreement epoch.0)) index.1) _ fault e5
    (λ here. rw (version_is, session_is, epoch_is, previous_is, index_is, here) refl) (λ size size_is e6.
    absurd cc))))))
