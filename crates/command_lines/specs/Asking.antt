-- What each command asks of the client.
use Rattle.std.specs.Prelude.{List, None, Some, [], false, length, true, ℕ, ⊤, ◌∷◌, ◌≡◌}
use Rattle.dr_base.specs.Causes.{Rose}
use Rattle.dr_model.specs.Machines.Acts.{Act, needs_seed, saying, taking}
use Rattle.dr_model.specs.Theorems.Fairness.{IsUnforged}
use Rattle.dr_ports.specs.Seeds.{drawn}
use Rattle.dr_ports.specs.States.{DrawsState}
use Rattle.kem_laws.specs.Mechanism.{Mechanism}
use Rattle.session_model.specs.Clients.{Client, say_check}
use Rattle.session_model.specs.Contents.{Content, text_content}
use Rattle.command_lines.specs.Acting.{ClientAsk}

-- a content, with a seed exactly where what is kept needs one: the one that the draws gave
pub data SaysContent {W : Type 0} (draws : W → DrawsState) (content : Content) (source left : W)
    (kept : Client)
    : Act → Type 0 where
  without_seed : needs_seed (say_check kept content) ≡ false → left ≡ source
      → SaysContent draws content source left kept (saying content None)
  with_seed : (seed : List ℕ) → needs_seed (say_check kept content) ≡ true → length seed ≡ 32
      → (draws source).coming ≡ drawn (seed ∷ []) (draws left).coming
      → (draws left).faults ≡ (draws source).faults
      → SaysContent draws content source left kept (saying content (Some seed))

-- a seed is needed, and none could be drawn
pub record LacksSeed {W : Type 0} (draws : W → DrawsState) (content : Content) (source left : W)
    (kept : Client)
    : Type 0 where
  pub needed : needs_seed (say_check kept content) ≡ true
  pub rose : Rose (draws source).faults (draws left).faults
  pub none : (draws left).coming ≡ (draws source).coming

-- a text, or a part of a long one
abbrev pub asked_content : {W : Type 0} → (W → DrawsState) → Content → W → W → ClientAsk
asked_content draws content source left = record {
  acts = SaysContent draws content source left;
  undrawn = LacksSeed draws content source left;
  idle = left ≡ source;
  fair = λ w side. ⊤;
}

abbrev pub asked_say : {W : Type 0} → (W → DrawsState) → List ℕ → W → W → ClientAsk
asked_say draws text source left = asked_content draws (text_content text) source left

abbrev pub asked_take : Mechanism → List ℕ → ClientAsk
asked_take k packet = record {
  acts = λ kept act. act ≡ taking packet;
  undrawn = λ kept. ⊥;
  idle = ⊤;
  fair = λ w side. IsUnforged k w side packet;
}

-- an act for which nothing is drawn and nothing is premised
abbrev pub asked_drop : Act → ClientAsk
asked_drop drop = record {
  acts = λ kept act. act ≡ drop;
  undrawn = λ kept. ⊥;
  idle = ⊤;
  fair = λ w side. ⊤;
}
