-- A conversation: all that both sides have said so far, and the seeds of their turns.
use Rattle.std.specs.Prelude.{Bool, List, Option, [], filter, if◌then◌else◌, length, map, nat_le, slice_index_or, ℕ, ◌&&◌, ◌++◌, ◌+◌, ◌-◌, ◌==◌, ◌∷◌}
use Rattle.bodies.specs.Bodies.{Body, text_body}
use Rattle.bodies.specs.Receipts.{Receipt}
use Rattle.dr_base.specs.declared.position.Position.{Position}
use Rattle.dr_model.specs.Conversations.Formats.{Formats}

-- what was said, in its epoch: a text, with the receipt that its side sent along, if there is one
pub record Said : Type 0 where
  pub epoch : ℕ
  pub body : Body

pub record Conversation : Type 0 where
  -- the shared key
  pub key : List ℕ
  -- how each side seals its texts
  pub formats : Formats
  -- the seeds of the turns that began the epochs 1, 2, and so on
  pub seeds : List (List ℕ)
  -- the texts, in the order that they were said
  pub said : List Said

-- where a conversation begins
abbrev pub opening_conversation : List ℕ → Formats → Conversation
opening_conversation key formats = record { key = key; formats = formats; seeds = []; said = [] }

-- the texts of an epoch, each as what was said
abbrev pub bodies_of : List Said → ℕ → List Body
bodies_of said epoch = map (λ s. s.body) (filter (λ s. s.epoch == epoch) said)

-- how many texts an epoch has
abbrev pub count_of : Conversation → ℕ → ℕ
count_of c epoch = length (bodies_of c.said epoch)

-- how many texts the epoch two before has, the last one of the same side
abbrev pub previous_of : Conversation → ℕ → ℕ
previous_of c epoch = if nat_le 2 epoch then count_of c (epoch - 2) else 0

-- what was said at a position
abbrev pub body_at : Conversation → Position → Body
body_at c p = slice_index_or (bodies_of c.said p.epoch) (p.index - 1) (text_body [])

-- the kind of the text there, the text, and the receipt
abbrev pub kind_at : Conversation → Position → ℕ
kind_at c p = (body_at c p).kind

abbrev pub text_at : Conversation → Position → List ℕ
text_at c p = (body_at c p).content

abbrev pub receipt_at : Conversation → Position → Option Receipt
receipt_at c p = (body_at c p).receipt

-- a text was said at this position
abbrev pub is_said : Conversation → Position → Bool
is_said c p = nat_le 1 p.index && nat_le p.index (count_of c p.epoch)

-- the position of the next text of an epoch
abbrev pub next_position : List Said → ℕ → Position
next_position said epoch = record { epoch = epoch; index = length (bodies_of said epoch) + 1 }

-- the positions of texts, in the order that they were said, where others were said before
unfoldable pub positions_after : List Said → List Said → List Position
positions_after before [] = []
positions_after before (s ∷ rest) = next_position before s.epoch ∷ positions_after (before ++ s ∷ []) rest

-- the positions of all texts, in the order that they were said
abbrev pub positions : Conversation → List Position
positions c = positions_after [] c.said

-- one text more, in the epoch that stands
abbrev pub with_text : Conversation → ℕ → Body → Conversation
with_text c epoch body = record c { said = c.said ++ record { epoch = epoch; body = body } ∷ [] }

-- one turn more, and the first text of its epoch
abbrev pub with_turn : Conversation → List ℕ → ℕ → Body → Conversation
with_turn c seed epoch body =
    record c { seeds = c.seeds ++ seed ∷ []; said = c.said ++ record { epoch = epoch; body = body } ∷ [] }
