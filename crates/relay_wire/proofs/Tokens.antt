-- A token's bytes, and what stands behind them.
use Rattle.std.proofs.Common.{◌≡◌, ℕ, ◌+◌, ◌≤◌, ◌^◌, ◌<◌, true, List, ◌++◌, length, take, drop, Option, Some, None, refl, ◌∙◌, ap, ap₂, append_assoc, arith}
use Rattle.std.specs.Prelude.{nat_le}
use Rattle.std.specs.Int.{w64, to_be_bytes, from_be_bytes}
use Rattle.std.proofs.lemmas.Bool.{le-leb}
use Rattle.std.proofs.lemmas.List.{take_at, drop_at, length-append}
use Rattle.dr_base.proofs.Widths.{exact64}
use Rattle.relay_guard.specs.Guards.{Token}
use Rattle.relay_wire.specs.declared.limits.TheConstants.{TOKEN_LEN}
use Rattle.relay_wire.specs.Requests.{IsLawfulToken, token_of, token_text}

module _ (counter : ℕ) (tag body : List ℕ) (fits : counter < 2 ^ 64) (long : length tag ≡ 32) where
  -- a counter, a tag, and a body
  abbrev pub text : List ℕ
  text = (to_be_bytes w64 counter ++ tag) ++ body

  pub token_read : token_of text ≡ record { counter = counter; tag = tag }
  token_read =
      let parts : text ≡ to_be_bytes w64 counter ++ (tag ++ body) = append_assoc (to_be_bytes w64 counter) tag body in
      let number : from_be_bytes w64 (take 8 text) ≡ counter =
      ap (λ (t : List ℕ). from_be_bytes w64 (take 8 t)) parts
      ∙ ap (from_be_bytes w64) (take_at (to_be_bytes w64 counter) (tag ++ body) 8 refl) ∙ exact64.read counter fits in
      let bytes : take 32 (drop 8 text) ≡ tag =
      ap (λ (t : List ℕ). take 32 (drop 8 t)) parts
      ∙ ap (take 32) (drop_at (to_be_bytes w64 counter) (tag ++ body) 8 refl) ∙ take_at tag body 32 long in
      ap₂ (λ (c : ℕ) (t : List ℕ). let token : Token = record { counter = c; tag = t } in token) number bytes

  head_long : length (to_be_bytes w64 counter ++ tag) ≡ TOKEN_LEN
  head_long = omega (arith, length-append (to_be_bytes w64 counter) tag, long)

  pub behind_token : drop TOKEN_LEN text ≡ body
  behind_token = drop_at (to_be_bytes w64 counter ++ tag) body TOKEN_LEN head_long

  pub token_fits : nat_le TOKEN_LEN (length text) ≡ true
  token_fits = le-leb _ _ (omega (arith, length-append (to_be_bytes w64 counter ++ tag) body, head_long))

-- what a token adds to a request
pub token_short : (token : Option Token) → IsLawfulToken token → length (token_text token) ≤ 1 + TOKEN_LEN
token_short None is = omega arith
token_short (Some token) is = omega (arith, length-append (to_be_bytes w64 token.counter) token.tag, is.1)
