-- A step on both sides, as one side keeps it.
use Rattle.std.proofs.Common.{◌≡◌, ℕ, Bool, true, false, List, [], Option, Some, None, Result, Ok, Err, refl, ◌∙◌, ap, ap₂}
use Rattle.std.specs.Prelude.{is_some}
use Rattle.dr_base.specs.Position.{peer_of}
use Rattle.dr_base.specs.declared.position.Side.{Side}
use Rattle.dr_base.specs.declared.position.Side.TheVariants.{First, Second}
use Rattle.kem_laws.specs.Mechanism.{Mechanism}
use Rattle.session_model.specs.Contents.{Content}
use Rattle.session_model.specs.Clients.{Client, SaidText, say_on}
use Rattle.session_model.specs.declared.answer.Refusal.{Refusal}
use Rattle.dr_model.specs.Machines.Acts.{needs_seed, said_by, saying_by}
use Rattle.dr_model.specs.Machines.Draws.{Draws, after_draw, drawn, given_or, next_seed}
use Rattle.dr_model.specs.Machines.Sides.{Sides, client_of, said_on, saying_on, settled_on, with_client}
use Rattle.dr_model.specs.Machines.Steps.{Step, settled}

-- what the side then keeps, and whether the other side keeps what it kept
abbrev pub kept_on : Side → Step Sides → Step Client
kept_on side made = record { answer = made.answer; shown = made.shown; next = client_of made.next side }

abbrev pub Leaves : Side → Sides → Step Sides → Type 0
Leaves side s made = client_of made.next (peer_of side) ≡ client_of s (peer_of side)

pub own_client : (s : Sides) (side : Side) (client : Client) → client_of (with_client s side client) side ≡ client
own_client s First client = refl
own_client s Second client = refl

others : (s : Sides) (side : Side) (client : Client)
    → client_of (with_client s side client) (peer_of side) ≡ client_of s (peer_of side)
others s First client = refl
others s Second client = refl

-- what a side makes of an act by itself
pub settled_kept : (s : Sides) (side : Side) (r : Result (Step Client) Refusal)
    → kept_on side (settled_on s side r) ≡ settled (client_of s side) r
settled_kept s side (Ok made) =
    ap (λ (c : Client). record { answer = made.answer; shown = made.shown; next = c }) (own_client s side made.next)
settled_kept s side (Err refusal) = refl

pub settled_leaves : (s : Sides) (side : Side) (r : Result (Step Client) Refusal) → Leaves side s (settled_on s side r)
settled_leaves s side (Ok made) = others s side made.next
settled_leaves s side (Err refusal) = refl

-- a text is said
said_kept : (s : Sides) (side : Side) (r : Result SaidText Refusal)
    → kept_on side (said_on s side r) ≡ settled (client_of s side) (said_by r)
said_kept s First (Ok said) = refl
said_kept s Second (Ok said) = refl
said_kept s side (Err refusal) = refl

said_leaves : (s : Sides) (side : Side) (r : Result SaidText Refusal) → Leaves side s (said_on s side r)
said_leaves s First (Ok said) = refl
said_leaves s Second (Ok said) = refl
said_leaves s side (Err refusal) = refl

-- once a draw was made
drawn_client : (s : Sides) (side : Side) (draws : Draws) → client_of (record s { draws = draws }) side ≡ client_of s side
drawn_client s First draws = refl
drawn_client s Second draws = refl

-- with the seed that was drawn for it, where one is needed
pub saying_kept : (k : Mechanism) (s : Sides) (side : Side) (content : Content) (draw : Option (List ℕ))
    (r : Result Bool Refusal) → is_some draw ≡ needs_seed r
    → (is_some draw ≡ true → s.draws.given ≡ draw)
    → kept_on side (saying_on k s side content r) ≡ settled (client_of s side) (saying_by k (client_of s side) content draw r)
saying_kept k s side content draw (Err refusal) needed given = refl
saying_kept k s side content None (Ok false) needed given = said_kept s side (say_on k (client_of s side) content [])
saying_kept k s side content (Some seed) (Ok false) needed given = cc
saying_kept k s side content None (Ok true) needed given = cc
saying_kept k s side content (Some seed) (Ok true) needed given =
    said_kept (record s { draws = after_draw s.draws }) side (say_on k (client_of s side) content (next_seed s.key s.draws))
    ∙ ap₂ (λ (client : Client) seed. settled client (said_by (say_on k (client_of s side) content seed)))
    (drawn_client s side (after_draw s.draws))
    (ap (given_or (drawn s.key s.draws.made)) (given refl))

pub saying_leaves : (k : Mechanism) (s : Sides) (side : Side) (content : Content) (r : Result Bool Refusal)
    → Leaves side s (saying_on k s side content r)
saying_leaves k s side content (Err refusal) = refl
saying_leaves k s side content (Ok false) = said_leaves s side (say_on k (client_of s side) content [])
saying_leaves k s side content (Ok true) =
    said_leaves (record s { draws = after_draw s.draws }) side (say_on k (client_of s side) content (next_seed s.key s.draws))
    ∙ drawn_client s (peer_of side) (after_draw s.draws)
