-- A door in memory: its pipe gives and takes, and it goes on to the next connection.
use Rattle.std.proofs.Common.{◌≡◌, ◌⊎◌, inl, inr, ℕ, zero, suc, ◌+◌, ◌-◌, ◌<◌, ◌≤◌, List, [], ◌∷◌, ◌++◌, length, take, drop, get_or, Option, Some, Result, Ok, Err, option_map, refl, sym, ◌∙◌, ap, ap₂, arith, add-zero}
use Rattle.std.specs.Prelude.{nat_lt, Bool, false, if◌then◌else◌}
use Rattle.std.proofs.lemmas.Bool.Decides.{nat_tests}
use Rattle.std.proofs.lemmas.List.{get_or_default}
use Rattle.std.proofs.Math.Path.{fun_ext}
use Rattle.dr_ports.specs.declared.pipe.Stand.{Stand}
use Rattle.dr_ports.specs.declared.pipe.Stand.TheVariants.{Up}
use Rattle.dr_ports.specs.Calls.{Receives, Sends}
use Rattle.dr_ports.specs.Wires.{Line, Told, Gave, Took, next_of, untold_fate}
use Rattle.dr_ports.specs.MemoryWires.{Flowing, Doorway, AreEnds, start_of, connection_of, coming_to, door_line, gone_on, nobody, place_at, port_of, door_port_of, wire_of}

-- the ends never fall and lie within the bytes
within : (size from : ℕ) (ends : List ℕ) → AreEnds size from ends → from ≤ size
within size from [] are = are
within size from (end ∷ ends) are = let later : end ≤ size = within size end ends are.1 in omega (arith, are.0, later)

order : (size from : ℕ) (ends : List ℕ) (n : ℕ) → AreEnds size from ends → n < length ends → (get_or (from ∷ ends) n 0 ≤ get_or ends n 0) × (get_or ends n 0 ≤ size)
order size from [] n are below = absurd (omega (arith, below))
order size from (end ∷ ends) zero are below = (are.0, within size end ends are.1)
order size from (end ∷ ends) (suc n) are below = order size end ends n are.1 (omega (arith, below))

start_is : (ends : List ℕ) (n : ℕ) → start_of ends n ≡ get_or (0 ∷ ends) n 0
start_is ends zero = refl
start_is ends (suc n) = refl

pub ends_hold : (size : ℕ) (ends : List ℕ) (n start end : ℕ) → AreEnds size 0 ends → n < length ends → start ≡ start_of ends n → end ≡ get_or ends n end → (start ≤ end) × (end ≤ size)
ends_hold size ends n start end are below begins is =
    let both : (get_or (0 ∷ ends) n 0 ≤ get_or ends n 0) × (get_or ends n 0 ≤ size) = order size 0 ends n are below in
    let first : start ≡ get_or (0 ∷ ends) n 0 = begins ∙ start_is ends n in
    let last : get_or ends n 0 ≡ end = get_or_default ends n 0 end below ∙ sym is in
    (omega (arith, both.0, first, last), omega (arith, both.1, last))

-- past the last of the ends a connection holds nothing
past : (all ends : List ℕ) (n : ℕ) → length ends ≤ n → connection_of all ends n ≡ []
past all ends n over =
    let no : nat_lt n (length ends) ≡ false = grind (arith, nat_tests) in
    ap (λ (b : Bool). if b then take (get_or ends n 0 - start_of ends n) (drop (start_of ends n) all) else []) no

-- the next connection is followed by those that followed it
follows : (all ends : List ℕ) (old new n : ℕ) → (new ≡ old + 1) ⊎ ((new ≡ old) × (length ends ≡ old)) → connection_of all ends (new + n) ≡ connection_of all ends (old + (n + 1))
follows all ends old new n (inl on) = let same : new + n ≡ old + (n + 1) = omega (arith, on) in ap (connection_of all ends) same
follows all ends old new n (inr (stays, last)) =
    past all ends (new + n) (omega (arith, stays, last)) ∙ sym (past all ends (old + (n + 1)) (omega (arith, last)))

pub went_on : (old new : Doorway) → new.pipe ≡ gone_on (connection_of old.pipe.all old.ends old.next) old.pipe
    → (new.next ≡ old.next + 1) ⊎ ((new.next ≡ old.next) × (length old.ends ≡ old.next)) → new.ends ≡ old.ends → new.port ≡ old.port → new.stand ≡ Up
    → (door_port_of new).told ≡ option_map next_of (door_port_of old).told
went_on old new pipe next ends port stand =
    let always : List ℕ → List ℕ → List ℕ = λ bytes sent. bytes in
    let each : (n : ℕ) → coming_to new n ≡ coming_to old (n + 1) = λ n. ap always
    (ap (λ (f : Flowing). connection_of f.all new.ends (new.next + n)) pipe
    ∙ ap (λ (e : List ℕ). connection_of old.pipe.all e (new.next + n)) ends
    ∙ follows old.pipe.all old.ends old.next new.next n next) in
    let line : door_line new ≡ record (door_line old) { stand = Up } = ap₂ (λ (p : Option ℕ) (s : Stand). record { place = place_at p; stand = s }) port stand in
    ap (λ (l : Line). Some (record { now = wire_of new.pipe; before = new.pipe.before; coming = coming_to new; line = l })) line
    ∙ ap (λ (f : Flowing). Some (record { now = wire_of f; before = f.before; coming = coming_to new; line = record (door_line old) { stand = Up } })) pipe
    ∙ ap (λ (coming : ℕ → List ℕ → List ℕ). Some (record { now = record { gives = λ (sent : List ℕ). connection_of old.pipe.all old.ends old.next; received = []; sent = []; fate = untold_fate }; before = old.pipe.before ++ old.pipe.sent; coming = coming; line = record (door_line old) { stand = Up } })) (fun_ext each)
    ∙ ap (λ (n : ℕ). Some (record { now = record { gives = λ (sent : List ℕ). connection_of old.pipe.all old.ends n; received = []; sent = []; fate = untold_fate }; before = old.pipe.before ++ old.pipe.sent; coming = λ (m : ℕ). coming_to old (m + 1); line = record (door_line old) { stand = Up } })) (sym (add-zero old.next))

-- what the pipe gives and takes, the door gives and takes
abbrev over : Doorway → List ℕ → ℕ → List ℕ → List ℕ
over old all n sent = connection_of all old.ends (old.next + n)

abbrev coming_as : (ℕ → List ℕ → List ℕ) → Line → Told → Told
coming_as coming line t = record t { coming = coming; line = line }

lent_gave : (old : Doorway) (pipe : Flowing) (piece : List ℕ) → Gave piece (port_of old.pipe) (port_of pipe) → pipe.all ≡ old.pipe.all → Gave piece (door_port_of old) (door_port_of (record old { pipe = pipe }))
lent_gave old pipe piece gave same =
    ap (option_map (coming_as (over old pipe.all) (door_line old))) gave
    ∙ ap (λ (all : List ℕ). Some (record { now = record (wire_of old.pipe) { received = take old.pipe.at old.pipe.held ++ piece }; before = old.pipe.before; coming = over old all; line = door_line old })) same

lent_took : (old : Doorway) (pipe : Flowing) (piece : List ℕ) → Took piece (port_of old.pipe) (port_of pipe) → pipe.all ≡ old.pipe.all → Took piece (door_port_of old) (door_port_of (record old { pipe = pipe }))
lent_took old pipe piece took same =
    ap (option_map (coming_as (over old pipe.all) (door_line old))) took
    ∙ ap (λ (all : List ℕ). Some (record { now = record (wire_of old.pipe) { sent = old.pipe.sent ++ piece }; before = old.pipe.before; coming = over old all; line = door_line old })) same

lent_stays : (old : Doorway) (pipe : Flowing) → (port_of pipe).told ≡ (port_of old.pipe).told → pipe.all ≡ old.pipe.all
    → (door_port_of (record old { pipe = pipe })).told ≡ (door_port_of old).told
lent_stays old pipe stays same =
    ap (option_map (coming_as (over old pipe.all) (door_line old))) stays
    ∙ ap (λ (all : List ℕ). Some (record { now = wire_of old.pipe; before = old.pipe.before; coming = over old all; line = door_line old })) same

-- a receive on the pipe is one on the door, and so is a send
pub lent_receives : {E : Type 0} (old : Doorway) (pipe : Flowing) (before after : List ℕ) (result : Result ℕ E)
    → Receives (port_of old.pipe) (port_of pipe) (nobody old.pipe) (nobody pipe) before after result → pipe.all ≡ old.pipe.all
    → Receives (door_port_of old) (door_port_of (record old { pipe = pipe })) (nobody old) (nobody (record old { pipe = pipe })) before after result
lent_receives old pipe before after (Ok count) r same = record {
  bound = r.bound;
  content = lent_gave old pipe (take count after) r.content same;
  end = r.end;
  err = tt;
  goes = r.goes;
  cause = r.cause;
  gate = refl;
  same = refl;
}
lent_receives old pipe before after (Err e) r same = record {
  bound = tt;
  content = tt;
  end = tt;
  err = lent_stays old pipe r.err same;
  goes = r.goes;
  cause = r.cause;
  gate = refl;
  same = refl;
}

pub lent_sends : {E : Type 0} (old : Doorway) (pipe : Flowing) (bytes : List ℕ) (result : Result ℕ E)
    → Sends (port_of old.pipe) (port_of pipe) (nobody old.pipe) (nobody pipe) bytes result → pipe.all ≡ old.pipe.all
    → Sends (door_port_of old) (door_port_of (record old { pipe = pipe })) (nobody old) (nobody (record old { pipe = pipe })) bytes result
lent_sends old pipe bytes (Ok count) r same = record {
  bound = r.bound;
  progress = r.progress;
  content = lent_took old pipe (take count bytes) r.content same;
  err = tt;
  goes = r.goes;
  cause = r.cause;
  gate = refl;
  same = refl;
}
lent_sends old pipe bytes (Err e) r same = record {
  bound = tt;
  progress = tt;
  content = tt;
  err = lent_stays old pipe r.err same;
  goes = r.goes;
  cause = r.cause;
  gate = refl;
  same = refl;
}
