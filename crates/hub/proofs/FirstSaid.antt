-- The first text of a session that begins: a turn, whose epoch it begins.
use Rattle.std.proofs.Common.{Err, List, None, Ok, Option, Some, [], ap, ℕ, ◌++◌, ◌∷◌, ◌≡◌}
use Rattle.std.specs.Prelude.{option_map}
use Rattle.bodies.specs.Bodies.{Body}
use Rattle.client.specs.Beginning.{begun_client}
use Rattle.dr_base.specs.Position.{position_at}
use Rattle.kem_laws.specs.Mechanism.{Mechanism}
use Rattle.session_model.specs.Clients.{Client, SaidText, accept_send, say_on}
use Rattle.session_model.specs.Contents.{text_content}
use Rattle.session_model.specs.Saying.{body_of, draft_send, draft_turn}
use Rattle.session_model.specs.Sealing.{posted}
use Rattle.session_model.specs.Turns.{first_turn}
use Rattle.session_model.specs.declared.answer.Refusal.TheVariants.{NoPair}
use Rattle.hub.specs.Peers.{hub_begin, peer_key}

-- what is said by a turn: its secret, its agreement message and its key
abbrev pub turned : Client → Body → List ℕ × List ℕ × List ℕ → SaidText
turned client body turn = record {
  post = (draft_turn client.state body turn).post;
  next = record client {
    state = (draft_turn client.state body turn).next;
    outbox = client.outbox ++ (draft_turn client.state body turn).post ∷ [];
  };
}

-- some turn is behind it
pub record IsTurned (client : Client) (body : Body) (said : SaidText) : Type 0 where
  pub turn : List ℕ × List ℕ × List ℕ
  pub is : said ≡ turned client body turn

by_turn : (client : Client) (body : Body) (turn : Option (List ℕ × List ℕ × List ℕ)) (said : SaidText)
    → accept_send client (option_map (draft_turn client.state body) turn) ≡ Ok said → IsTurned client body said
by_turn client body None said is = absurd (let e : Err NoPair ≡ Ok said = is in cc)
by_turn client body (Some turn) said is =
    record { turn = turn; is = let e : Ok (turned client body turn) ≡ Ok said = is in cc }

-- the body of the text
abbrev pub first_body : Mechanism → ℕ → List ℕ → Body
first_body k number text = body_of (begun_client k (hub_begin number)).state (text_content text)

pub first_said : (k : Mechanism) (number : ℕ) (text seed : List ℕ) (said : SaidText)
    → say_on k (begun_client k (hub_begin number)) (text_content text) seed ≡ Ok said
    → IsTurned (begun_client k (hub_begin number)) (first_body k number text) said
unfolding draft_send
first_said k number text seed said is =
    let sealed = k.meaning.encap_of (first_turn k (peer_key number).bytes).public seed in
    by_turn (begun_client k (hub_begin number)) (first_body k number text)
    (option_map (λ pair. (pair.1, sealed.0 ++ pair.0, sealed.1)) (k.meaning.pair_of seed)) said is

pub first_position : (k : Mechanism) (number : ℕ) (text seed : List ℕ) (said : SaidText)
    → say_on k (begun_client k (hub_begin number)) (text_content text) seed ≡ Ok said
    → said.post.position ≡ position_at 1 1
unfolding posted
first_position k number text seed said is =
    ap (λ (s : SaidText). s.post.position) (first_said k number text seed said is).is
