-- A pipe gives one piece after another.
use Rattle.std.proofs.Common.{◌≡◌, ℕ, ◌+◌, List, ◌++◌, take, drop, Option, Some, None, refl, sym, ◌∙◌, ap, append_assoc}
use Rattle.std.specs.Prelude.{option_map}
use Rattle.dr_ports.specs.Wires.{Port, Told, Took, taken}
use Rattle.relay_pipe.specs.Pulling.{TookBeginning}
use Rattle.std.proofs.lemmas.List.{take-append-drop}
use Rattle.std.proofs.Math.Seq.{take-add}

sent_twice : (a b : List ℕ) (o : Option Told) → option_map (taken b) (option_map (taken a) o) ≡ option_map (taken (a ++ b)) o
sent_twice a b None = refl
sent_twice a b (Some t) = ap (λ (r : List ℕ). Some (record t { now = record t.now { sent = r } })) (append_assoc t.now.sent a b)

pub took_more : (start mid now : Port) (bytes : List ℕ) (done count : ℕ) → Took (take done bytes) start mid → Took (take count (drop done bytes)) mid now → Took (take (done + count) bytes) start now
took_more start mid now bytes done count one two = two ∙ ap (option_map (taken (take count (drop done bytes)))) one ∙ sent_twice (take done bytes) (take count (drop done bytes)) start.told ∙ ap (λ (b : List ℕ). option_map (taken b) start.told) (sym (take-add done count bytes))

pub took_first : (start mid now : Port) (bytes : List ℕ) (done : ℕ) → Took (take done bytes) start mid → now.told ≡ mid.told → TookBeginning bytes start now
took_first start mid now bytes done one same = record { beginning = take done bytes; remainder = drop done bytes; split = sym (take-append-drop done bytes); took = same ∙ one }
