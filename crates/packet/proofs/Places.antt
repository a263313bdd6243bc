-- Where the fields of a packet stand.
use Rattle.std.proofs.Common.{◌≡◌, ℕ, suc, ◌+◌, ◌<◌, List, [], ◌++◌, length, get_or, take, drop, sym, ap, ◌∙◌, refl, arith}
use Rattle.std.specs.List.{concat}
use Rattle.std.proofs.lemmas.List.{drop_at, length-append, take-append-drop, take_at}
use Rattle.std.proofs.lemmas.List.Folds.{concat-append}
use Rattle.packet.specs.Faults.{pieces_of}
use Rattle.packet.specs.Packet.{Fields, packet_of}
use Rattle.packet.specs.Parts.{HasAt}
use Rattle.packet.proofs.Pieces.{concat-drop, packet_of-pieces}

-- a packet parts before each of its pieces
parted : (f : Fields) (k : ℕ) → k < 10
    → packet_of f ≡ concat (take k (pieces_of f)) ++ (get_or (pieces_of f) k [] ++ concat (drop (suc k) (pieces_of f)))
parted f k below =
    packet_of-pieces f
    ∙ ap concat (sym (take-append-drop k (pieces_of f)))
    ∙ concat-append (take k (pieces_of f)) (drop k (pieces_of f))
    ∙ ap (λ (t : List ℕ). concat (take k (pieces_of f)) ++ t) (concat-drop (pieces_of f) k below)

-- each piece stands behind those before it
piece_at : (f : Fields) (k place : ℕ) → k < 10 → length (concat (take k (pieces_of f))) ≡ place
    → HasAt (packet_of f) place (get_or (pieces_of f) k [])
piece_at f k place below len =
    let piece = get_or (pieces_of f) k [] in
    let after = concat (drop (suc k) (pieces_of f)) in
    rw (parted f k below, drop_at (concat (take k (pieces_of f))) (piece ++ after) place len)
    (take_at piece after (length piece) refl)

pub session_at : (f : Fields) → HasAt (packet_of f) 1 f.session
session_at f = piece_at f 1 1 (omega arith) refl

pub agreement_at : (f : Fields) → length f.session ≡ 16 → HasAt (packet_of f) 31 f.agreement
agreement_at f session = piece_at f 6 31 (omega arith) (simp length-append (omega (arith, session)))

pub ciphertext_at : (f : Fields) (place : ℕ) → length f.session ≡ 16 → place ≡ 33 + length f.agreement
    → HasAt (packet_of f) place f.ciphertext
ciphertext_at f place session is = piece_at f 8 place (omega arith) (simp length-append (omega (arith, session, is)))

pub tag_at : (f : Fields) (place : ℕ) → length f.session ≡ 16
    → place ≡ 33 + length f.agreement + length f.ciphertext
    → HasAt (packet_of f) place f.tag
tag_at f place session is = piece_at f 9 place (omega arith) (simp length-append (omega (arith, session, is)))
