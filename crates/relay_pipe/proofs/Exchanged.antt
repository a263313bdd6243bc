-- What a pipe gave and took, from its calls.
use Rattle.std.proofs.Common.{◌≡◌, ℕ, List, [], ◌++◌, Option, Some, None, refl, sym, ◌∙◌, ap, subst, append_assoc, append-nil}
use Rattle.std.specs.Prelude.{option_map}
use Rattle.dr_ports.specs.Wires.{Port, Told, Gave, Took, given, taken}
use Rattle.relay_wire.specs.Frames.{Held}
use Rattle.relay_pipe.specs.Exchanging.{exchanged, Exchanges}
use Rattle.relay_pipe.specs.Pulling.{Pulled}

only_gave : (got : List ℕ) (o : Option Told) → option_map (given got) o ≡ option_map (exchanged got []) o
only_gave got None = refl
only_gave got (Some t) = ap (λ (b : List ℕ). Some (record t { now = record t.now { received = t.now.received ++ got; sent = b } })) (sym (append-nil t.now.sent))

pub gave_exchanges : (got : List ℕ) (start now : Port) → Gave got start now → Exchanges got [] start now
gave_exchanges got start now gave = gave ∙ only_gave got start.told

then_gave : (got put : List ℕ) (o : Option Told) → option_map (given got) (option_map (taken put) o) ≡ option_map (exchanged got put) o
then_gave got put None = refl
then_gave got put (Some t) = refl

pub answered_exchanges : (got put : List ℕ) (start mid now : Port) → Took put start mid → Gave got mid now → Exchanges got put start now
answered_exchanges got put start mid now took gave = gave ∙ ap (option_map (given got)) took ∙ then_gave got put start.told

twice : (g h p q : List ℕ) (o : Option Told) → option_map (exchanged h q) (option_map (exchanged g p) o) ≡ option_map (exchanged (g ++ h) (p ++ q)) o
twice g h p q None = refl
twice g h p q (Some t) =
    ap (λ (b : List ℕ). Some (record t { now = record t.now { received = b; sent = (t.now.sent ++ p) ++ q } })) (append_assoc t.now.received g h)
    ∙ ap (λ (b : List ℕ). Some (record t { now = record t.now { received = t.now.received ++ (g ++ h); sent = b } })) (append_assoc t.now.sent p q)

-- one exchange after another
pub both : (g h p q : List ℕ) (start mid now : Port) → Exchanges g p start mid → Exchanges h q mid now → Exchanges (g ++ h) (p ++ q) start now
both g h p q start mid now one two = two ∙ ap (option_map (exchanged h q)) one ∙ twice g h p q start.told

no_bytes : (o : Option Told) → o ≡ option_map (exchanged [] []) o
no_bytes None = refl
no_bytes (Some t) = ap (λ (b : List ℕ). Some (record t { now = record t.now { received = b } })) (sym (append-nil t.now.received))
    ∙ ap (λ (b : List ℕ). Some (record t { now = record t.now { received = t.now.received ++ []; sent = b } })) (sym (append-nil t.now.sent))

pub nothing_yet : (port : Port) → Exchanges [] [] port port
nothing_yet port = no_bytes port.told

-- what a fresh reader pulled
pub pulled_held : (old new : Held) (start now : Port) → old.bytes ≡ [] → Pulled old new start now → Gave new.bytes start now
pulled_held old new start now fresh p =
    let same : p.got ≡ new.bytes = ap (λ (b : List ℕ). b ++ p.got) (sym fresh) ∙ sym p.sum in
    subst (λ (b : List ℕ). Gave b start now) same p.gave
