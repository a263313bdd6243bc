-- A packet of a lawful outbox has bytes.
use Rattle.std.proofs.Common.{List, None, Ok, Option, Some, [], arith, length, subst, sym, ℕ, ◌<◌, ◌∷◌, ◌≡◌, ◌≤◌}
use Rattle.std.specs.Prelude.{All, IfSome, option_map, slice_get, slice_index_or}
use Rattle.std.proofs.lemmas.Option.{get_or_from_slice_get, slice_get_within}
use Rattle.boxes.specs.Posts.{Post}
use Rattle.kem_laws.specs.Mechanism.{Mechanism}
use Rattle.packet.specs.Packet.{Fields}
use Rattle.packet.specs.Reading.{field, lawful, number, read_packet}
use Rattle.session_model.specs.States.{State}
use Rattle.session_record.specs.Lawful.{IsLawfulPost}

pub packet_some : (agreement : ℕ) (bytes : List ℕ) (f : Fields) → read_packet agreement bytes ≡ Ok f → 1 ≤ length bytes
unfolding read_packet lawful number field
packet_some agreement [] f is = absurd (cc is)
packet_some agreement (b ∷ bytes) f is = omega arith

pub posts_some : {A : Type 0} (k : Mechanism) (s : State) (item_of : A → Post) (outbox : List Post) (at : ℕ) (shown : Option A)
    → All (IsLawfulPost k s) outbox → option_map item_of shown ≡ slice_get outbox at
    → IfSome shown (λ a. 1 ≤ length (item_of a).packet)
posts_some k s item_of outbox at None each is = tt
posts_some k s item_of outbox at (Some a) each is =
    let inside : at < length outbox = slice_get_within outbox at (item_of a) (sym is) in
    let there : slice_index_or outbox at (item_of a) ≡ item_of a = get_or_from_slice_get outbox at (item_of a) (item_of a) (sym is) in
    let post = subst (IsLawfulPost k s) there (each at (item_of a) inside) in
    packet_some _ _ post.fields post.reads
