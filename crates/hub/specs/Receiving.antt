-- What the peers answer to what a hub has for them.
use Rattle.std.specs.Prelude.{Err, IsNone, List, None, Ok, Option, Result, Some, slice_get, ℕ, ⊤, ◌≡◌}
use Rattle.boxes.specs.Posts.{Post}
use Rattle.book_model.specs.Rows.{Rows, under}
use Rattle.client.specs.Beginning.{begun_client}
use Rattle.kem_laws.specs.Mechanism.{Mechanism}
use Rattle.session_model.specs.Clients.{Client, TakenPacket, take_on}
use Rattle.session_model.specs.Schedule.{agreement_seed}
use Rattle.session_model.specs.declared.answer.Answer.{Answer}
use Rattle.session_model.specs.declared.answer.Answer.TheVariants.{Nothing, Opened, Refused}
use Rattle.session_model.specs.declared.answer.Refusal.{Refusal}
use Rattle.hub.specs.Peers.{peer_begin, peer_key, peer_name}
use Rattle.hub.specs.declared.playing.FanPlayError.{FanPlayError}
use Rattle.hub.specs.declared.playing.FanPlayError.TheVariants.{Memory, NoPair}

-- ---- an answer

abbrev pub taken_answer : Result TakenPacket Refusal → Answer
taken_answer (Ok taken) = Opened taken.position
taken_answer (Err refusal) = Refused refusal

-- a peer's, as Second, to the bytes of a packet
abbrev pub answer_to : Mechanism → ℕ → List ℕ → Answer
answer_to k number packet = taken_answer (take_on k (begun_client k (peer_begin number)) packet)

-- to a packet, if there is one
abbrev pub answer_to_post : Mechanism → ℕ → Option Post → Answer
answer_to_post k number None = Nothing
answer_to_post k number (Some post) = answer_to k number post.packet

-- what a session has for its peer first
abbrev pub first_post : Option Client → Option Post
first_post None = None
first_post (Some kept) = slice_get kept.outbox 0

-- to what rows have for the peer under its name
abbrev pub answer_of : Mechanism → ℕ → Rows Client → Answer
answer_of k number rows = answer_to_post k number (first_post (under (peer_name number) rows))

-- ---- how a call ends that gives it

-- so, or the peer's key has no pair, or memory was wanting
abbrev pub AnswersAs : Mechanism → ℕ → Answer → Result Answer FanPlayError → Type 0
AnswersAs k number answer (Ok given) = given ≡ answer
AnswersAs k number answer (Err NoPair) =
    IsNone (k.meaning.pair_of (agreement_seed (peer_key number).bytes))
AnswersAs k number answer (Err Memory) = ⊤
AnswersAs k number answer (Err _) = ⊥
