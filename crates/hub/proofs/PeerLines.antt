-- The lines of a fan, put one after the other.
use Rattle.std.proofs.Common.{Bool, Err, List, Ok, [], ap, append_assoc, arith, suc, sym, ℕ, ◌+◌, ◌++◌, ◌<◌, ◌∙◌, ◌≡◌}
use Rattle.std.proofs.lemmas.List.{append-nil}
use Rattle.book_model.specs.Rows.{Rows}
use Rattle.kem_laws.specs.Mechanism.{Mechanism}
use Rattle.session_model.specs.Clients.{Client}
use Rattle.hub.specs.Lines.{PutsLines, PutsPeer, end_line, fan_lines, peer_line, peer_lines}
use Rattle.hub.specs.Receiving.{answer_of}
use Rattle.hub.specs.declared.playing.FanPlayError.{FanPlayError}
use Rattle.hub.specs.declared.playing.FanPlayError.TheVariants.{Memory, NoPair, Peer, Write}

module _ (k : Mechanism) (acknowledged : Bool) (rows : Rows Client) where
  pub first_lines : (old text new : List ℕ) → old ≡ [] → text ≡ end_line acknowledged rows → new ≡ old ++ text
      → new ≡ fan_lines k 0 acknowledged rows
  first_lines old text new empty is puts =
      puts ∙ ap (λ (l : List ℕ). l ++ text) empty ∙ is ∙ sym (append-nil (end_line acknowledged rows))

  pub next_lines : (at : ℕ) (old new : List ℕ) → old ≡ fan_lines k at acknowledged rows
      → PutsPeer k (at + 1) rows old new (Ok tt) → new ≡ fan_lines k (at + 1) acknowledged rows
  next_lines at old new are puts =
      puts
      ∙ ap (λ n. old ++ peer_line n (answer_of k n rows)) number_is
      ∙ ap (λ (l : List ℕ). l ++ peer_line (suc at) (answer_of k (suc at) rows)) are
      ∙ append_assoc (end_line acknowledged rows) (peer_lines k rows at) (peer_line (suc at) (answer_of k (suc at) rows))
      ∙ ap (λ n. fan_lines k n acknowledged rows) (sym number_is)
    where
      number_is : at + 1 ≡ suc at
      number_is = omega arith

  pub no_lines : (peers at : ℕ) → at < peers → (old new : List ℕ) (error : FanPlayError)
      → PutsPeer k (at + 1) rows old new (Err error) → PutsLines k peers acknowledged rows new (Err error)
  no_lines peers at lt old new NoPair none = record { number = at + 1; among = omega (arith, lt); none = none }
  no_lines peers at lt old new Memory none = tt
  no_lines peers at lt old new (Peer place refusal) none = none
  no_lines peers at lt old new Write none = none
