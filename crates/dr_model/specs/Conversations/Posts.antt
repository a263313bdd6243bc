-- The packets of a conversation.
use Rattle.std.specs.Prelude.{List, [], filter, map, slice_index_or, suc, zero, ℕ}
use Rattle.bodies.specs.Formats.{version_of}
use Rattle.bodies.specs.declared.format.Format.{Format}
use Rattle.boxes.specs.Posts.{Post}
use Rattle.dr_base.specs.Position.{is_own, side_of}
use Rattle.dr_base.specs.declared.key.Kept.{Kept}
use Rattle.dr_base.specs.declared.position.Position.{Position}
use Rattle.dr_base.specs.declared.position.Side.{Side}
use Rattle.fs_aead.specs.Chain.{message_key}
use Rattle.kem_laws.specs.Mechanism.{Mechanism}
use Rattle.packet.specs.Packet.{Fields}
use Rattle.session_model.specs.Schedule.{agreement_seed, session_of}
use Rattle.session_model.specs.Sealing.{posted, sealing}
use Rattle.session_model.specs.Turns.{Turn, turn_at}
use Rattle.dr_model.specs.Conversations.Conversation.{Conversation, positions, previous_of, body_at}
use Rattle.dr_model.specs.Conversations.Formats.{side_format}

-- the keys of an epoch of a conversation
abbrev pub turn_of_epoch : Mechanism → Conversation → ℕ → Turn
turn_of_epoch k c epoch = turn_at k c.key c.seeds epoch

-- the seed of the pair of an epoch
abbrev pub pair_seed : Conversation → ℕ → List ℕ
pair_seed c zero = agreement_seed c.key
pair_seed c (suc epoch) = slice_index_or c.seeds epoch []

-- the message key of a position, under it
abbrev pub key_of : Mechanism → Conversation → Position → Kept
key_of k c p = record { position = p; key = record { bytes = message_key (turn_of_epoch k c p.epoch).stream p.index } }

-- how the side of an epoch seals its texts, and the version of its packets
abbrev pub epoch_format : Conversation → ℕ → Format
epoch_format c epoch = side_format c.formats (side_of epoch)

abbrev pub epoch_version : Conversation → ℕ → ℕ
epoch_version c epoch = version_of (epoch_format c epoch)

-- the fields of the packet of a position
abbrev pub post_fields : Mechanism → Conversation → Position → Fields
post_fields k c p =
    sealing (epoch_version c p.epoch) (session_of c.key) p (previous_of c p.epoch) (turn_of_epoch k c p.epoch).agreement
    (message_key (turn_of_epoch k c p.epoch).stream p.index) (body_at c p)

-- the packet of a position
abbrev pub post_at : Mechanism → Conversation → Position → Post
post_at k c p =
    posted (epoch_version c p.epoch) (session_of c.key) p (previous_of c p.epoch) (turn_of_epoch k c p.epoch).agreement
    (message_key (turn_of_epoch k c p.epoch).stream p.index) (body_at c p)

-- all packets, in the order that the texts were said; the network holds them all
abbrev pub posts : Mechanism → Conversation → List Post
posts k c = map (post_at k c) (positions c)

-- the packets of a side
abbrev pub posts_of : Mechanism → Conversation → Side → List Post
posts_of k c side = map (post_at k c) (filter (λ p. is_own side p.epoch) (positions c))
