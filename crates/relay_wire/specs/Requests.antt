-- Requests, as a printer and a reader of the bodies of their frames.
use Rattle.std.specs.Prelude.{◌≡◌, ⊤, ℕ, ◌^◌, ◌<◌, ◌==◌, ◌&&◌, Bool, true, nat_le, List, [], ◌∷◌, ◌++◌, length, take, drop, Option, Some, None, Result, Ok, Err, if◌then◌else◌}
use Rattle.std.specs.Int.{w64, to_be_bytes, from_be_bytes}
use Rattle.relay_guard.specs.Guards.{Token}
use Rattle.relay_wire.specs.declared.limits.TheConstants.{TOKEN_LEN}
use Rattle.relay_wire.specs.Names.{is_name, is_packet}

-- what is asked of a box: to keep a packet, to show the oldest one, to drop the one of a number
pub data Asking : Type 0 where
  posts : List ℕ → Asking
  fetches : Asking
  acks : ℕ → Asking

-- a request: the name of a box, what is asked of it, and the token that goes along, if one does
pub record Asked : Type 0 where
  pub name : List ℕ
  pub ask : Asking
  pub token : Option Token

-- a request without a token
abbrev pub bare_request : List ℕ → Asking → Asked
bare_request name ask = record { name = name; ask = ask; token = None }

abbrev pub IsLawfulToken : Option Token → Type 0
IsLawfulToken None = ⊤
IsLawfulToken (Some token) = (token.counter < 2 ^ 64) × (length token.tag ≡ 32)

abbrev pub IsLawfulAsking : Asking → Type 0
IsLawfulAsking (posts packet) = is_packet packet ≡ true
IsLawfulAsking fetches = ⊤
IsLawfulAsking (acks number) = number < 2 ^ 64

abbrev pub IsLawfulAsked : Asked → Type 0
IsLawfulAsked asked =
    (is_name asked.name ≡ true) × IsLawfulAsking asked.ask × IsLawfulToken asked.token

-- ---- printed: the token, where there is one, after a byte that says so; a byte that says what is
-- asked, the name after its length in one byte, and the rest

abbrev pub ask_byte : Asking → ℕ
ask_byte (posts packet) = 1
ask_byte fetches = 2
ask_byte (acks number) = 3

abbrev pub ask_rest : Asking → List ℕ
ask_rest (posts packet) = packet
ask_rest fetches = []
ask_rest (acks number) = to_be_bytes w64 number

abbrev pub token_byte : ℕ
token_byte = 4

-- what stands before a request with a token
abbrev pub token_text : Option Token → List ℕ
token_text None = []
token_text (Some token) = token_byte ∷ (to_be_bytes w64 token.counter ++ token.tag)

-- a request as its tag covers it: without the token
unfoldable pub plain_body : List ℕ → Asking → List ℕ
plain_body name ask = ask_byte ask ∷ (length name ∷ (name ++ ask_rest ask))

unfoldable pub request_body : Asked → List ℕ
request_body asked = token_text asked.token ++ plain_body asked.name asked.ask

-- ---- read: the request, or the kind of what is wrong; kinds are looked for from 1 to 4

-- Kind 4: what stands after the name isn't as it must be.
unfoldable pub read_rest : ℕ → List ℕ → Result Asking ℕ
read_rest first rest =
    if first == 1 then (if is_packet rest then Ok (posts rest) else Err 4)
    else (if first == 2 then (if length rest == 0 then Ok fetches else Err 4)
    else (if length rest == 8 then Ok (acks (from_be_bytes w64 rest)) else Err 4))

abbrev pub of_name : List ℕ → Result Asking ℕ → Result Asked ℕ
of_name name (Ok ask) = Ok (bare_request name ask)
of_name name (Err kind) = Err kind

-- Kind 3: no name stands after its length.
unfoldable pub read_named : ℕ → List ℕ → Result Asked ℕ
read_named first [] = Err 3
read_named first (n ∷ more) =
    if nat_le n (length more) && is_name (take n more)
    then of_name (take n more) (read_rest first (drop n more))
    else Err 3

abbrev pub is_ask_byte : ℕ → Bool
is_ask_byte first = nat_le 1 first && nat_le first 3

-- a counter and a tag
abbrev pub token_of : List ℕ → Token
token_of bytes = record { counter = from_be_bytes w64 (take 8 bytes); tag = take 32 (drop 8 bytes) }

abbrev pub with_token : Token → Result Asked ℕ → Result Asked ℕ
with_token token (Ok asked) = Ok (record asked { token = Some token })
with_token token (Err kind) = Err kind

-- Kind 4: no request stands behind a token.
unfoldable pub read_inner : List ℕ → Result Asked ℕ
read_inner [] = Err 4
read_inner (first ∷ more) = if is_ask_byte first then read_named first more else Err 4

-- Kind 4: the token is cut short.
unfoldable pub read_guarded : List ℕ → Result Asked ℕ
read_guarded bytes =
    if nat_le TOKEN_LEN (length bytes)
    then with_token (token_of bytes) (read_inner (drop TOKEN_LEN bytes))
    else Err 4

-- Kind 2: the first byte says nothing that may be asked. Kind 1: the frame has no lawful length,
-- hence no body.
unfoldable pub read_request : List ℕ → Result Asked ℕ
read_request [] = Err 1
read_request (first ∷ more) =
    if first == token_byte then read_guarded more
    else (if is_ask_byte first then read_named first more else Err 2)
