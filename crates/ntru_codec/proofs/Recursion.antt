-- What a call for the next level takes and gives, in the words of the call above it.
use Rattle.std.proofs.Common.{◌≡◌, ℕ, ◌+◌, ◌-◌, ◌*◌, ◌/◌, ◌%◌, ◌^◌, ◌<◌, ◌≤◌, List, [], ◌∷◌, ◌++◌, length, get_or, set, take, drop, refl, ap, sym, ◌∙◌, subst, arith}
use Rattle.std.specs.List.{All, AllZip}
use Rattle.std.proofs.lemmas.List.{append-nil, append_assoc, take_all, take_at, drop_at, drop-drop, take_rest, length-drop}
use Rattle.ntru_codec.specs.Numbers.{number_of, low_bytes, bytes_out, IsLimit}
use Rattle.ntru_codec.specs.Levels.{pair_bytes, pair_length, next_values, next_limits, pair_values}
use Rattle.ntru_codec.specs.Coding.{encoded, encoded_length, decoded}
use Rattle.ntru_codec.proofs.NextLevel.{length-next_limits, All-next_limits, next_below, length-pair_bytes, small_from_below}
use Rattle.ntru_codec.proofs.Steps.{encoded-level, encoded_length-level, decoded-level, encoded-one, encoded_length-one, decoded-one}
use Rattle.ntru_codec.proofs.Undo.{decoded-below}

-- the front of the next limits' array is the next list
pub record IsNext (limits array : List ℕ) (count : ℕ) : Type 0 where
  pub several : 1 < length limits
  pub half : count ≡ length limits - length limits / 2
  pub front : take (length limits - length limits / 2) array ≡ next_limits limits

pub next-is : (limits array : List ℕ) (count : ℕ) → IsNext limits array count → take count array ≡ next_limits limits
next-is limits array count h = ap (λ n. take n array) h.half ∙ h.front

pub next-count : (limits : List ℕ) (count : ℕ) → count ≡ length limits - length limits / 2 → length (next_limits limits) ≡ count
next-count limits count h = let e = length-next_limits limits in omega arith

pub next-All : (limits array : List ℕ) (count : ℕ) → IsNext limits array count → All IsLimit limits → All IsLimit (take count array)
next-All limits array count h k = let P : List ℕ → Type 0 = λ xs. All IsLimit xs in subst P (sym (next-is limits array count h)) (All-next_limits limits k)

pub next-length : (limits array : List ℕ) (count : ℕ) → IsNext limits array count → length (take count array) ≡ count
next-length limits array count h = ap length (next-is limits array count h) ∙ next-count limits count h.half

pub next-bytes : (bytes limits array : List ℕ) (count at : ℕ) → IsNext limits array count → at ≡ pair_length limits → length bytes ≡ encoded_length limits →
    length (take (length bytes - at) (drop at bytes)) ≡ encoded_length (take count array)
next-bytes bytes limits array count at h at-is whole =
    let level = encoded_length-level limits h.several in
    let same : encoded_length (take count array) ≡ encoded_length (next_limits limits) = ap encoded_length (next-is limits array count h) in
    rw (take_rest bytes at, length-drop at bytes) (omega arith)

pub decoded-next : (bytes limits array values : List ℕ) (count at : ℕ) → IsNext limits array count → at ≡ pair_length limits →
    take (length (take count array)) values ≡ decoded (take (length bytes - at) (drop at bytes)) (take count array) → take count values ≡ decoded (drop (pair_length limits) bytes) (next_limits limits)
decoded-next bytes limits array values count at h at-is e =
    let long = next-length limits array count h in
    let is = next-is limits array count h in
    let rest : take (length bytes - at) (drop at bytes) ≡ drop (pair_length limits) bytes = take_rest bytes at ∙ ap (λ k. drop k bytes) at-is in
    let e1 : take count values ≡ decoded (take (length bytes - at) (drop at bytes)) (take count array) = ap (λ n. take n values) (sym long) ∙ e in
    e1 ∙ (rw (rest, is) refl)

pub decoded-small : (bytes limits values : List ℕ) → All IsLimit limits → values ≡ decoded bytes (next_limits limits) → All (λ v. v < 16384) values
decoded-small bytes limits values k e =
    let P : List ℕ → Type 0 = λ xs. All (λ v. v < 16384) xs in
    subst P (sym e) (small_from_below (decoded bytes (next_limits limits)) (next_limits limits) (decoded-below bytes (next_limits limits) (All-next_limits limits k)) (All-next_limits limits k))

pub decoded-whole : (bytes limits next out : List ℕ) → 1 < length limits → next ≡ decoded (drop (pair_length limits) bytes) (next_limits limits) → take (length limits) out ≡ pair_values bytes limits next → take (length limits) out ≡ decoded bytes limits
decoded-whole bytes limits next out h e w = w ∙ ap (λ t. pair_values bytes limits t) e ∙ sym (decoded-level bytes limits h)

-- a single entry
pub decoded-single : (bytes limits out : List ℕ) (count number v : ℕ) → length limits ≡ 1 → 0 < length out → length bytes ≡ encoded_length limits → count ≡ bytes_out 2 (get_or limits 0 0) → number ≡ number_of (take count (drop 0 bytes)) + 256 ^ count * 0 → v ≡ number % get_or limits 0 0 →
    take (length limits) (set out 0 v) ≡ decoded bytes limits
decoded-single bytes limits [] count number v one some whole count-is number-is v-is = absurd (omega arith)
decoded-single bytes limits (x ∷ xs) count number v one some whole count-is number-is v-is =
    let size = encoded_length-one limits one in
    let all : take count bytes ≡ bytes = take_all count bytes (omega arith) in
    let same : number ≡ number_of bytes = number-is ∙ (rw all (omega arith)) in
    rw (decoded-one bytes limits one, one, v-is, same) refl

-- the front of the next values' array is the next list too
pub next-values-is : (values limits array front : List ℕ) (count : ℕ) → IsNext limits front count → take (length limits - length limits / 2) array ≡ next_values values limits → take count array ≡ next_values values limits
next-values-is values limits array front count h e = ap (λ n. take n array) h.half ∙ e

pub next-below : (values limits front array : List ℕ) (count : ℕ) → IsNext limits front count → take (length limits - length limits / 2) array ≡ next_values values limits → AllZip ◌<◌ values limits → AllZip ◌<◌ (take count array) (take count front)
next-below values limits front array count h e below =
    rw (next-is limits front count h, next-values-is values limits array front count h e) (next_below values limits below)

pub next-room : (limits front out : List ℕ) (count at : ℕ) → IsNext limits front count → at ≡ pair_length limits → encoded_length limits ≤ length out → encoded_length (take count front) ≤ length (take (length out - at) (drop at out))
next-room limits front out count at h at-is room =
    let level = encoded_length-level limits h.several in
    let same : encoded_length (take count front) ≡ encoded_length (next_limits limits) = ap encoded_length (next-is limits front count h) in
    rw (take_rest out at, length-drop at out) (omega arith)

pub encoded-whole : (values limits front array out sub tail old : List ℕ) (count at r : ℕ) → IsNext limits front count → at ≡ pair_length limits →
    take (length limits - length limits / 2) array ≡ next_values values limits → AllZip ◌<◌ values limits → out ≡ pair_bytes values limits ++ drop (pair_length limits) old →
    sub ≡ encoded (take count array) (take count front) ++ drop r (take (length out - at) (drop at out)) → tail ≡ [] → take at out ++ (sub ++ tail) ≡ encoded values limits ++ drop (at + r) old
encoded-whole values limits front array out sub tail old count at r h at-is e below out-is sub-is none =
    let pairs = pair_bytes values limits in
    let long : length pairs ≡ at = length-pair_bytes values limits below ∙ sym at-is in
    let start : take at out ≡ pairs = ap (take at) out-is ∙ take_at pairs (drop (pair_length limits) old) at long in
    let behind : drop at out ≡ drop at old = ap (drop at) out-is ∙ drop_at pairs (drop (pair_length limits) old) at long ∙ ap (λ k. drop k old) (sym at-is) in
    let rest : drop r (take (length out - at) (drop at out)) ≡ drop (at + r) old = ap (drop r) (take_rest out at ∙ behind) ∙ drop-drop r at old in
    let next : encoded (take count array) (take count front) ≡ encoded (next_values values limits) (next_limits limits) =
    ap (λ vs. encoded vs (take count front)) (next-values-is values limits array front count h e) ∙ ap (λ ms. encoded (next_values values limits) ms) (next-is limits front count h) in
    rw (none, append-nil, start, sub-is, rest, next, encoded-level values limits h.several, append_assoc) refl

pub encoded-single : (values limits new old : List ℕ) (count number : ℕ) → length limits ≡ 1 → count ≡ bytes_out 2 (get_or limits 0 0) → number ≡ get_or values 0 0 → new ≡ take 0 old ++ low_bytes count number ++ drop (0 + count) old → new ≡ encoded values limits ++ drop count old
encoded-single values limits new old count number one count-is number-is new-is =
    let start : 0 + count ≡ count = omega arith in
    rw (new-is, start, encoded-one values limits one, number-is, ← count-is) refl
