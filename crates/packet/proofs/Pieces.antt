-- A packet as its pieces, and what two packets that begin alike have in common.
use Rattle.std.proofs.Common.{◌≡◌, ℕ, zero, suc, ◌^◌, ◌<◌, ◌≤◌, List, [], ◌∷◌, ◌++◌, length, get_or, take, drop, refl, sym, ap, ap₂, ◌∙◌, append_assoc, append-nil, arith}
use Rattle.std.specs.List.{concat}
use Rattle.std.specs.Int.{w16, from_be_bytes, to_be_bytes}
use Rattle.std.proofs.Math.Seq.{take-suc}
use Rattle.std.proofs.lemmas.List.{take_at, drop_at}
use Rattle.packet.specs.Packet.{Fields, IsLawful, packet_of}
use Rattle.packet.specs.Faults.{pieces_of}
use Rattle.dr_base.proofs.Widths.{exact16}
use Rattle.packet.proofs.Known.{text_small}
use Rattle.packet.proofs.Printed.{packet_of-grouped}

pub packet_of-pieces : (f : Fields) → packet_of f ≡ concat (pieces_of f)
packet_of-pieces f = packet_of-grouped f

-- one piece more in front
pub concat-take : (xs : List (List ℕ)) (k : ℕ) → k < length xs → concat (take (suc k) xs) ≡ concat
    (take k xs) ++ get_or xs k []
concat-take [] k below = absurd (omega arith)
concat-take (x ∷ xs) zero below = append-nil x
concat-take (x ∷ xs) (suc k) below = ap (λ (t : List ℕ). x ++ t) (concat-take xs k (omega arith)) ∙ sym
    (append_assoc x (concat (take k xs)) (get_or xs k []))

-- one piece fewer after
pub concat-drop : (xs : List (List ℕ)) (k : ℕ) → k < length xs → concat (drop k xs) ≡ get_or xs k [] ++ concat
    (drop (suc k) xs)
concat-drop [] k below = absurd (omega arith)
concat-drop (x ∷ xs) zero below = refl
concat-drop (x ∷ xs) (suc k) below = concat-drop xs k (omega arith)

-- fronts of one length, and what stands after them
pub same_fronts : (a b x y : List ℕ) → length a ≡ length b → a ++ x ≡ b ++ y → (a ≡ b) × (x ≡ y)
same_fronts a b x y len e = (
  sym (take_at a x (length b) len) ∙ ap (take (length b)) e ∙ take_at b y (length b) refl,
  sym (drop_at a x (length b) len) ∙ ap (drop (length b)) e ∙ drop_at b y (length b) refl,
)

-- a length is told by its two bytes
pub told_len : (m n : ℕ) → m < 2 ^ 16 → n < 2 ^ 16 → to_be_bytes w16 m ≡ to_be_bytes w16 n → m ≡ n
told_len m n fits fits_too e = sym (exact16.read m fits) ∙ ap (λ (l : List ℕ). from_be_bytes w16 l) e
    ∙ exact16.read n fits_too

-- lawful fields; where `field` is after the agreement message's length, it fits into two bytes
pub record Fits (agreement field : ℕ) (f : Fields) : Type 0 where
  pub lawful : IsLawful agreement f
  pub fits : 6 ≤ field → length f.agreement < 2 ^ 16

-- the fields before a field tell its size
same_size : (agreement : ℕ) (f g : Fields) (k : ℕ) → k < 10 → Fits agreement k f → Fits agreement k g → take k
    (pieces_of f) ≡ take k (pieces_of g)
    → length (get_or (pieces_of f) k []) ≡ length (get_or (pieces_of g) k [])
same_size agreement f g zero below a b e = refl
same_size agreement f g (suc zero) below a b e = a.lawful.session_len ∙ sym b.lawful.session_len
same_size agreement f g (suc (suc zero)) below a b e = refl
same_size agreement f g (suc (suc (suc zero))) below a b e = refl
same_size agreement f g (suc (suc (suc (suc zero)))) below a b e = refl
same_size agreement f g (suc (suc (suc (suc (suc zero))))) below a b e = refl
same_size agreement f g (suc (suc (suc (suc (suc (suc zero)))))) below a b e = told_len _ _ (a.fits (omega arith))
    (b.fits (omega arith)) (ap (λ (l : List (List ℕ)). get_or l 5 []) e)
same_size agreement f g (suc (suc (suc (suc (suc (suc (suc zero))))))) below a b e = refl
same_size agreement f g (suc (suc (suc (suc (suc (suc (suc (suc zero)))))))) below a b e = told_len _ _
    (text_small _ _ a.lawful.text_fits) (text_small _ _ b.lawful.text_fits) (ap (λ (l : List (List ℕ)). get_or l 7 []) e)
same_size agreement f g (suc (suc (suc (suc (suc (suc (suc (suc (suc zero))))))))) below a b e = a.lawful.tag_len
    ∙ sym b.lawful.tag_len
same_size agreement f g (suc (suc (suc (suc (suc (suc (suc (suc (suc (suc k)))))))))) below a b e = absurd (omega arith)

-- a lawful packet that begins with the first fields of another has these fields too
pub begins_same : (agreement : ℕ) (f g : Fields) (k : ℕ) (rest : List ℕ) → k ≤ 10 → Fits agreement 6 f →
    ((j : ℕ) → j < k → Fits agreement j g)
    → packet_of f ≡ concat (take k (pieces_of g)) ++ rest → (take k (pieces_of f) ≡ take k (pieces_of g)) ×
    (concat (drop k (pieces_of f)) ≡ rest)
begins_same agreement f g zero rest within a b e = (refl, sym (packet_of-pieces f) ∙ e)
begins_same agreement f g (suc k) rest within a b e =
    let below : k < 10 = omega arith in
    let next : List ℕ = get_or (pieces_of g) k [] in
    let before = begins_same agreement f g k (next ++ rest) (omega arith) a (λ j lt. b j (omega arith))
    (e ∙ ap (λ (t : List ℕ). t ++ rest) (concat-take (pieces_of g) k below) ∙ append_assoc
    (concat (take k (pieces_of g))) next rest) in
    let a_here : Fits agreement k f = record { lawful = a.lawful; fits = λ h. a.fits (omega arith) } in
    let fronts = same_fronts (get_or (pieces_of f) k []) next (concat (drop (suc k) (pieces_of f))) rest
    (same_size agreement f g k below a_here (b k (omega arith)) before.0)
    (sym (concat-drop (pieces_of f) k below) ∙ before.1) in (
      take-suc (pieces_of f) k [] below ∙ ap₂ (λ (l : List (List ℕ)) (x : List ℕ). l ++ x ∷ []) before.0 fronts.0 ∙ sym
          (take-suc (pieces_of g) k [] below),
      fronts.1,
    )
