-- What a relay replies to the bytes of requests.
use Rattle.std.proofs.Common.{◌≡◌, ℕ, zero, suc, ◌+◌, ◌≤◌, Bool, true, false, List, [], ◌∷◌, ◌++◌, length, take, drop, get_or, Result, Ok, refl, sym, ◌∙◌, ap, ap₂, arith, map}
use Rattle.std.specs.Prelude.{flat_map, nat_le, All, ◌&&◌, if◌then◌else◌}
use Rattle.std.specs.List.{AllByRecursion, list_all}
use Rattle.std.specs.Int.{w16, w64, to_be_bytes, from_be_bytes}
use Rattle.std.proofs.lemmas.Nat.{from_be_bytes-to_be_bytes_2}
use Rattle.std.proofs.lemmas.Bool.{leb-true, and_parts}
use Rattle.std.proofs.lemmas.Bool.Decides.{nat_tests}
use Rattle.std.proofs.lemmas.List.{length-append, drop_at}
use Rattle.relay_wire.specs.Names.{is_name, is_name_byte, is_packet}
use Rattle.relay_wire.specs.Requests.{Asking, posts, fetches, acks, Asked, IsLawfulAsking, IsLawfulAsked, plain_body, request_body, read_request, token_text}
use Rattle.relay_wire.specs.Replies.{Replied, stored, item, empty, acked, box_full, unknown, absent, bad, denied, IsLawfulReplied, reply_body, read_reply}
use Rattle.relay_wire.specs.Frames.{IsFrame, framed, is_body_size, size_of, frames_of}
use Rattle.relay_wire.specs.declared.limits.TheConstants.{BODY_LIMIT, NAME_LIMIT, PACKET_LIMIT, TOKEN_LEN}
use Rattle.relay_wire.specs.declared.reply.BadReply.{BadReply}
use Rattle.relay_wire.proofs.Asked.{request}
use Rattle.relay_wire.proofs.Tokens.{token_short}
use Rattle.relay_wire.proofs.Replied.{reply}
use Rattle.relay_wire.proofs.Joining.{flat, frames_of_flat}
use Rattle.relay_core.specs.Boxes.{Box, answers_of, answers_read}
use Rattle.relay_core.specs.Lawful.{IsLawfulBox}
use Rattle.relay_core.specs.Streams.{Exchange, Served, exchange_then, nothing_served, served, served_within, reply_frame, reply_bytes, is_last}
use Rattle.relay_core.specs.declared.limits.TheConstants.{EXCHANGE_LIMIT}
use Rattle.relay_core.proofs.Lawfully.{lawful_reply, lawful_next}
use Rattle.sync_model.specs.Carried.{relay_replies, relay_after}
use Rattle.relay_wire.specs.Framed.{request_frame, reply_text}

-- ---- requests in a row

pub replies_append : (boxes : List Box) (a b : List Asked) → relay_replies boxes (a ++ b) ≡ relay_replies boxes a ++ relay_replies (relay_after boxes a) b
replies_append boxes [] b = refl
replies_append boxes (x ∷ a) b = ap (λ (rs : List Replied). (answers_of boxes x).reply ∷ rs) (replies_append (answers_of boxes x).next a b)

pub replies_count : (boxes : List Box) (a : List Asked) → length (relay_replies boxes a) ≡ length a
replies_count boxes [] = refl
replies_count boxes (x ∷ a) = ap suc (replies_count (answers_of boxes x).next a)

pub replies_lawful : (boxes : List Box) (xs : List Asked) → All IsLawfulBox boxes → AllByRecursion IsLawfulAsked xs → AllByRecursion IsLawfulReplied (relay_replies boxes xs)
replies_lawful boxes [] are lawful = tt
replies_lawful boxes (x ∷ xs) are lawful =
    (lawful_reply boxes (Ok x) are lawful.0, replies_lawful (answers_of boxes x).next xs (lawful_next boxes (Ok x) are lawful.0) lawful.1)

-- ---- what is read back

pub read_back : (a : Asked) → IsLawfulAsked a → read_request (drop 2 (request_frame a)) ≡ Ok a
read_back a lawful = ap read_request (drop_at (to_be_bytes w16 (length (request_body a))) (request_body a) 2 refl) ∙ request a lawful

pub reply_back : (r : Replied) → IsLawfulReplied r → read_reply (drop 2 (reply_text r)) ≡ Ok r
reply_back r lawful = ap read_reply (drop_at (to_be_bytes w16 (length (reply_body r))) (reply_body r) 2 refl) ∙ reply r lawful

abbrev pub served_one : ℕ → List Box → List (List ℕ) → Result Asked ℕ → Served
served_one n boxes fs asked =
    exchange_then (record { asked = asked; reply = (answers_read boxes asked).reply }) (if is_last asked then nothing_served (answers_read boxes asked).next else served_within n (answers_read boxes asked).next fs)

served_requests : (n : ℕ) (boxes : List Box) (xs : List Asked) → length xs ≤ n → AllByRecursion IsLawfulAsked xs
    → map (λ (e : Exchange). e.reply) (served_within n boxes (map request_frame xs)).exchanges ≡ relay_replies boxes xs
served_requests zero boxes [] le lawful = refl
served_requests (suc n) boxes [] le lawful = refl
served_requests zero boxes (a ∷ xs) le lawful = absurd (omega (arith, le))
served_requests (suc n) boxes (a ∷ xs) le lawful =
    ap (λ (x : Result Asked ℕ). map (λ (e : Exchange). e.reply) (served_one n boxes (map request_frame xs) x).exchanges) (read_back a lawful.0)
    ∙ ap (λ (rs : List Replied). (answers_of boxes a).reply ∷ rs) (served_requests n (answers_of boxes a).next xs (omega (arith, le)) lawful.1)

-- and the boxes after them
served_after : (n : ℕ) (boxes : List Box) (xs : List Asked) → length xs ≤ n → AllByRecursion IsLawfulAsked xs
    → (served_within n boxes (map request_frame xs)).next ≡ relay_after boxes xs
served_after zero boxes [] le lawful = refl
served_after (suc n) boxes [] le lawful = refl
served_after zero boxes (a ∷ xs) le lawful = absurd (omega (arith, le))
served_after (suc n) boxes (a ∷ xs) le lawful =
    ap (λ (x : Result Asked ℕ). (served_one n boxes (map request_frame xs) x).next) (read_back a lawful.0) ∙ served_after n (answers_of boxes a).next xs (omega (arith, le)) lawful.1

-- ---- frames

size_chosen : (n m : ℕ) → m ≡ n → 1 ≤ n → n ≤ BODY_LIMIT → (if is_body_size m then 2 + m else 2) ≡ 2 + n
size_chosen n m is from to = by_test (is_body_size m) refl
  where
    by_test : (t : Bool) → (nat_le 1 m && nat_le m BODY_LIMIT) ≡ t → (if t then 2 + m else 2) ≡ 2 + n
    by_test true h = omega (arith, is)
    by_test false h = absurd (let e : (nat_le 1 m && nat_le m BODY_LIMIT) ≡ true = grind (arith, nat_tests, is, from, to) in let f : true ≡ false = sym e ∙ h in cc)

framed_whole : (body : List ℕ) → 1 ≤ length body → length body ≤ BODY_LIMIT → IsFrame (framed body)
framed_whole body from to =
    let n = length body in
    let long : length (framed body) ≡ 2 + n = omega (arith, length-append (to_be_bytes w16 n) body) in
    let sized : from_be_bytes w16 (to_be_bytes w16 n) ≡ n = from_be_bytes-to_be_bytes_2 n (omega (arith, to)) in
    long ∙ sym (size_chosen n (size_of (get_or (to_be_bytes w16 n) 0 0) (get_or (to_be_bytes w16 n) 1 0)) (let e : size_of (get_or (to_be_bytes w16 n) 0 0) (get_or (to_be_bytes w16 n) 1 0) ≡ n = omega (arith, sized) in e) from to)

pub flat_of : {X : Type 0} (f : X → List ℕ) (xs : List X) → flat_map f xs ≡ flat (map f xs)
flat_of f [] = refl
flat_of f (x ∷ xs) = ap (λ (r : List ℕ). f x ++ r) (flat_of f xs)

pub reply_bytes_of : (es : List Exchange) → flat_map reply_frame es ≡ flat (map reply_text (map (λ (e : Exchange). e.reply) es))
reply_bytes_of [] = refl
reply_bytes_of (e ∷ es) = ap (λ (r : List ℕ). reply_frame e ++ r) (reply_bytes_of es)

name_short : (name : List ℕ) → is_name name ≡ true → length name ≤ NAME_LIMIT
unfolding is_name
name_short name is =
    leb-true (length name) NAME_LIMIT (and_parts (nat_le 1 (length name)) (nat_le (length name) NAME_LIMIT) (and_parts (nat_le 1 (length name) && nat_le (length name) NAME_LIMIT) (list_all is_name_byte name) is).0).1

packet_short : (packet : List ℕ) → is_packet packet ≡ true → length packet ≤ PACKET_LIMIT
unfolding is_packet
packet_short packet is = leb-true (length packet) PACKET_LIMIT (and_parts (nat_le 1 (length packet)) (nat_le (length packet) PACKET_LIMIT) is).1

plain_short : (name : List ℕ) (ask : Asking) → is_name name ≡ true → IsLawfulAsking ask
    → (1 ≤ length (plain_body name ask)) × (length (plain_body name ask) + (1 + TOKEN_LEN) ≤ BODY_LIMIT)
unfolding plain_body
plain_short name (posts packet) named is =
    let l : length packet ≤ PACKET_LIMIT = packet_short packet is in
    (omega (arith, length-append name packet), omega (arith, length-append name packet, name_short name named, l))
plain_short name fetches named is =
    (omega (arith, length-append name []), omega (arith, length-append name [], name_short name named))
plain_short name (acks n) named is =
    (omega (arith, length-append name (to_be_bytes w64 n)), omega (arith, length-append name (to_be_bytes w64 n), name_short name named))

pub request_short : (a : Asked) → IsLawfulAsked a → (1 ≤ length (request_body a)) × (length (request_body a) ≤ BODY_LIMIT)
unfolding request_body
request_short a lawful =
    let plain = plain_short a.name a.ask lawful.0 lawful.1 in
    let long = length-append (token_text a.token) (plain_body a.name a.ask) in
    let short = token_short a.token lawful.2 in
    let least = plain.0 in let most = plain.1 in
    (omega (arith, long, least), omega (arith, long, short, most))

reply_short : (r : Replied) → IsLawfulReplied r → (1 ≤ length (reply_body r)) × (length (reply_body r) ≤ BODY_LIMIT)
unfolding reply_body
reply_short (stored n) lawful = (omega arith, omega arith)
reply_short (item n packet) lawful = let l : length packet ≤ PACKET_LIMIT = packet_short packet lawful.1 in (omega (arith, length-append (to_be_bytes w64 n) packet), omega (arith, length-append (to_be_bytes w64 n) packet, l))
reply_short empty lawful = (omega arith, omega arith)
reply_short acked lawful = (omega arith, omega arith)
reply_short box_full lawful = (omega arith, omega arith)
reply_short unknown lawful = (omega arith, omega arith)
reply_short (absent n) lawful = (omega arith, omega arith)
reply_short (bad kind) lawful = (omega arith, omega arith)
reply_short (denied rule last) lawful = (omega arith, omega arith)

pub request_frames : (xs : List Asked) → AllByRecursion IsLawfulAsked xs → AllByRecursion IsFrame (map request_frame xs)
request_frames [] lawful = tt
request_frames (a ∷ xs) lawful = let s = request_short a lawful.0 in (framed_whole (request_body a) s.0 s.1, request_frames xs lawful.1)

pub reply_frames : (rs : List Replied) → AllByRecursion IsLawfulReplied rs → AllByRecursion IsFrame (map reply_text rs)
reply_frames [] lawful = tt
reply_frames (r ∷ rs) lawful = let s = reply_short r lawful.0 in (framed_whole (reply_body r) s.0 s.1, reply_frames rs lawful.1)

-- what the relay replies to the bytes of requests
pub relay_bytes : (boxes : List Box) (xs : List Asked) → AllByRecursion IsLawfulAsked xs → length xs ≤ EXCHANGE_LIMIT
    → reply_bytes (served boxes (flat_map request_frame xs)) ≡ flat (map reply_text (relay_replies boxes xs))
unfolding served
relay_bytes boxes xs lawful few =
    ap (λ (sent : List ℕ). reply_bytes (served_within EXCHANGE_LIMIT boxes (frames_of sent))) (flat_of request_frame xs)
    ∙ ap (λ (fs : List (List ℕ)). reply_bytes (served_within EXCHANGE_LIMIT boxes fs)) (frames_of_flat (map request_frame xs) (request_frames xs lawful))
    ∙ reply_bytes_of (served_within EXCHANGE_LIMIT boxes (map request_frame xs)).exchanges
    ∙ ap (λ (rs : List Replied). flat (map reply_text rs)) (served_requests EXCHANGE_LIMIT boxes xs few lawful)

-- and its boxes then
pub relay_boxes : (boxes : List Box) (xs : List Asked) → AllByRecursion IsLawfulAsked xs → length xs ≤ EXCHANGE_LIMIT
    → (served boxes (flat_map request_frame xs)).next ≡ relay_after boxes xs
unfolding served
relay_boxes boxes xs lawful few =
    ap (λ (sent : List ℕ). (served_within EXCHANGE_LIMIT boxes (frames_of sent)).next) (flat_of request_frame xs)
    ∙ ap (λ (fs : List (List ℕ)). (served_within EXCHANGE_LIMIT boxes fs).next) (frames_of_flat (map request_frame xs) (request_frames xs lawful))
    ∙ served_after EXCHANGE_LIMIT boxes xs few lawful

-- ---- a beginning of frames

ok_is : (a b : Replied) (x : Result Replied BadReply) → x ≡ Ok a → x ≡ Ok b → a ≡ b
ok_is a b x one two = cc

front_is : (a b : List ℕ) (xs bs : List (List ℕ)) → a ∷ xs ≡ b ∷ bs → a ≡ b
front_is a b xs bs h = cc

back_is : (a b : List ℕ) (xs bs : List (List ℕ)) → a ∷ xs ≡ b ∷ bs → xs ≡ bs
back_is a b xs bs h = cc

-- replies whose frames begin others are the first of these
pub first_replies : (rs others : List Replied) (fs : List (List ℕ)) → AllByRecursion IsLawfulReplied rs → AllByRecursion IsLawfulReplied others
    → map reply_text others ≡ map reply_text rs ++ fs → take (length rs) others ≡ rs
first_replies [] others fs one two is = refl
first_replies (r ∷ rs) [] fs one two is = absurd (let e : [] ≡ reply_text r ∷ (map reply_text rs ++ fs) = is in cc)
first_replies (r ∷ rs) (o ∷ others) fs one two is =
    let head : reply_text o ≡ reply_text r = front_is _ _ _ _ is in
    let same : read_reply (drop 2 (reply_text o)) ≡ Ok r = ap (λ (f : List ℕ). read_reply (drop 2 f)) head ∙ reply_back r one.0 in
    ap₂ (λ (x : Replied) (xs : List Replied). x ∷ xs) (ok_is o r _ (reply_back o two.0) same) (first_replies rs others fs one.1 two.1 (back_is _ _ _ _ is))
