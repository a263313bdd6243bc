-- An act adds to the network's packets what depends on what the side keeps alone.
use Rattle.std.proofs.Common.{◌≡◌, ℕ, Bool, true, false, List, [], ◌∷◌, ◌++◌, length, Option, Some, None, Result, Ok, Err, refl, sym, ◌∙◌, ap, ap₂, append-nil}
use Rattle.std.specs.Prelude.{is_some}
use Rattle.boxes.specs.Posts.{Post}
use Rattle.dr_base.specs.declared.position.Side.{Side}
use Rattle.dr_base.specs.declared.position.Side.TheVariants.{First, Second}
use Rattle.kem_laws.specs.Mechanism.{IsLawfulMechanism, Mechanism}
use Rattle.session_model.specs.Contents.{Content}
use Rattle.session_model.specs.Clients.{Client, SaidText, say_check, say_on}
use Rattle.session_model.specs.declared.answer.Refusal.{Refusal}
use Rattle.dr_model.specs.Conversations.Posts.{posts}
use Rattle.dr_model.specs.Machines.Acts.{Act, act_on, dropping, needs_seed, saying, taking}
use Rattle.dr_model.specs.Machines.Draws.{after_draw, drawn, given_or, next_seed}
use Rattle.dr_model.specs.Machines.Sides.{Sides, client_of, said_on, saying_on, settled_on, step_on, with_client}
use Rattle.dr_model.specs.Machines.Steps.{Step}
use Rattle.dr_model.specs.Machines.WorldActs.{act_in, event_of, with_draw, world_for}
use Rattle.dr_model.specs.Machines.WorldSides.{kept_in, sides_of}
use Rattle.dr_model.specs.Machines.Worlds.{World}
use Rattle.dr_model.specs.Theorems.Acting.{IsFairAct}
use Rattle.dr_model.specs.Theorems.LawfulWorlds.{IsLawfulWorld}
use Rattle.dr_model.proofs.Acting.ActsFollowing.{act_keeps, draw_given, drop_called, fair_event, lawful_for, same_need}
use Rattle.dr_model.proofs.Worlds.Following.{step_follows}

-- the packet of a text that was said, by what the side keeps
abbrev said_posts : Result SaidText Refusal → List Post
said_posts (Ok said) = said.post ∷ []
said_posts (Err refusal) = []

abbrev saying_posts : Mechanism → Client → Content → Option (List ℕ) → Result Bool Refusal → List Post
saying_posts k client content draw (Ok turns) = said_posts (say_on k client content (given_or [] draw))
saying_posts k client content draw (Err refusal) = []

abbrev pub act_posts : Mechanism → Client → Act → List Post
act_posts k client (saying content draw) = saying_posts k client content draw (say_check client content)
act_posts k client _ = []

-- ---- on both sides

client_leaves : (s : Sides) (side : Side) (client : Client) → (with_client s side client).posts ≡ s.posts ++ []
client_leaves s First client = sym (append-nil s.posts)
client_leaves s Second client = sym (append-nil s.posts)

said_grows : (s : Sides) (side : Side) (r : Result SaidText Refusal) → (said_on s side r).next.posts ≡ s.posts ++ said_posts r
said_grows s side (Ok said) = refl
said_grows s side (Err refusal) = sym (append-nil s.posts)

saying_grows : (k : Mechanism) (s : Sides) (side : Side) (content : Content) (draw : Option (List ℕ)) (r : Result Bool Refusal)
    → is_some draw ≡ needs_seed r → (is_some draw ≡ true → s.draws.given ≡ draw)
    → (saying_on k s side content r).next.posts ≡ s.posts ++ saying_posts k (client_of s side) content draw r
saying_grows k s side content draw (Err refusal) needed given = sym (append-nil s.posts)
saying_grows k s side content None (Ok false) needed given = said_grows s side (say_on k (client_of s side) content [])
saying_grows k s side content (Some seed) (Ok false) needed given = absurd (let e : true ≡ false = needed in cc)
saying_grows k s side content None (Ok true) needed given = absurd (let e : false ≡ true = needed in cc)
saying_grows k s side content (Some seed) (Ok true) needed given =
    said_grows (record s { draws = after_draw s.draws }) side (say_on k (client_of s side) content (next_seed s.key s.draws))
    ∙ ap (λ (seed : List ℕ). s.posts ++ said_posts (say_on k (client_of s side) content seed))
    (ap (given_or (drawn s.key s.draws.made)) (given refl))

settled_grows : (s : Sides) (side : Side) (r : Result (Step Client) Refusal) → (settled_on s side r).next.posts ≡ s.posts ++ []
settled_grows s side (Ok made) = client_leaves s side made.next
settled_grows s side (Err refusal) = sym (append-nil s.posts)

-- ---- in a world

acted_grows : (k : Mechanism) (w : World) (side : Side) (act : Act) → IsLawfulWorld k w → IsFairAct k w side act
    → (step_on k (sides_of k (world_for w act)) (event_of side act)).next.posts
    ≡ posts k (world_for w act).conversation ++ act_posts k (client_of (sides_of k (world_for w act)) side) act
acted_grows k w side (saying content draw) lawful fair =
    let s = sides_of k (with_draw w draw) in
    saying_grows k s side content draw (say_check (client_of s side) content) (same_need k w side content draw lawful fair)
    (draw_given k w draw)
acted_grows k w side (taking bytes) lawful fair =
    settled_grows (sides_of k w) side (act_on k (client_of (sides_of k w) side) (taking bytes))
acted_grows k w side (dropping which) lawful fair =
    let s = sides_of k w in
    ap (λ (made : Step Sides). made.next.posts) (drop_called k s side which)
    ∙ settled_grows s side (act_on k (client_of s side) (dropping which))

draw_leaves : (k : Mechanism) (w : World) (draw : Option (List ℕ)) → posts k (with_draw w draw).conversation ≡ posts k w.conversation
draw_leaves k w None = refl
draw_leaves k w (Some seed) = refl

posts_for : (k : Mechanism) (w : World) (act : Act) → posts k (world_for w act).conversation ≡ posts k w.conversation
posts_for k w (saying content draw) = draw_leaves k w draw
posts_for k w act = refl

pub act_grows : (k : Mechanism) (w : World) (side : Side) (act : Act) → IsLawfulMechanism k → IsLawfulWorld k w → IsFairAct k w side act
    → posts k (act_in k w side act).next.conversation ≡ posts k w.conversation ++ act_posts k (kept_in k w side) act
act_grows k w side act law lawful fair =
    sym (ap (λ (made : Step Sides). made.next.posts)
    (step_follows k (world_for w act) (event_of side act) law (lawful_for k w side act lawful fair) (fair_event k w side act fair)))
    ∙ acted_grows k w side act lawful fair
    ∙ ap₂ (λ (before : List Post) (client : Client). before ++ act_posts k client act) (posts_for k w act) (act_keeps k w side act)
