-- The seeds of a script that was read have 32 bytes.
use Rattle.std.proofs.Common.{◌≡◌, ℕ, suc, Bool, true, false, List, [], ◌∷◌, Option, Some, None, Result, Ok, Err, subst}
use Rattle.std.specs.Prelude.{All, IfSome, IfOk, option_map, codes, if◌then◌else◌}
use Rattle.std.specs.Option.{option_and_then, option_or}
use Rattle.std.proofs.lemmas.List.Elements.{All-cons, All-nil}
use Rattle.dr_base.specs.declared.position.Side.{Side}
use Rattle.dr_disk.specs.declared.call.Mode.{Mode}
use Rattle.dr_model.specs.Machines.Events.{Event, SideCall}
use Rattle.dr_model.specs.Theorems.Fairness.{IsSeedWhole}
use Rattle.scripts.specs.Deeds.{Deed, acts, fails, joins, reopens, stops, syncs}
use Rattle.scripts.specs.Heads.{Headed, head_read}
use Rattle.scripts.specs.Longs.{join_words}
use Rattle.scripts.specs.Script.{deeds_of, kem_read, key_read, keyed, after_kem, lines_of, or_bad, script_of, script_of_lines, scripted, Scripted, with_deed}
use Rattle.scripts.specs.Deeds.{HasWholeSeed}
use Rattle.scripts.specs.Number.{script_number_read}
use Rattle.scripts.specs.Words.{after_prefix, call_words, crash_read, deed_words, fail_read, fail_words, halves_of, if_counted, is_text, line_read, mode_read, open_words, plain_read, side_named, sided, stop_read, stop_words, sync_words}
use Rattle.scripts.specs.declared.script.KemName.{KemName}
use Rattle.scripts.proofs.Seeds.{whole_plain}

-- ---- a stop

whole_if : (b : Bool) (deed : Deed) → HasWholeSeed deed → IfSome (if b then Some deed else None) HasWholeSeed
whole_if true deed h = h
whole_if false deed h = tt

-- no call gives a seed
whole_stops : (n : ℕ) (mode : Mode) (side : Side) (o : Option SideCall) → IfSome (option_map (stops n mode side) o) HasWholeSeed
whole_stops n mode side None = tt
whole_stops n mode side (Some call) = tt

whole_then : {A : Type 0} (f : A → Option Deed) (o : Option A)
    → ((a : A) → IfSome (f a) HasWholeSeed)
    → IfSome (option_and_then f o) HasWholeSeed
whole_then f None h = tt
whole_then f (Some a) h = h a

whole_stop : (side : Side) (words : List ℕ) → IfSome (stop_words side words) HasWholeSeed
unfolding stop_words
whole_stop side words =
    whole_then (stop_read side)
    (option_and_then (halves_of 32) (after_prefix (codes "stop ") words))
    (λ halves. whole_then (λ n. option_and_then (crash_read side n) (halves_of 32 halves.1))
    (script_number_read halves.0)
    (λ n. whole_then (crash_read side n) (halves_of 32 halves.1)
    (λ rest. whole_then (λ mode. option_map (stops n mode side) (call_words rest.1))
    (mode_read rest.0)
    (λ mode. whole_stops n mode side (call_words rest.1)))))

-- ---- a failure, and an opening

whole_fails : (n : ℕ) (side : Side) (o : Option SideCall) → IfSome (option_map (fails n side) o) HasWholeSeed
whole_fails n side None = tt
whole_fails n side (Some call) = tt

whole_fail : (side : Side) (words : List ℕ) → IfSome (fail_words side words) HasWholeSeed
unfolding fail_words
whole_fail side words =
    whole_then (fail_read side)
    (option_and_then (halves_of 32) (after_prefix (codes "fail ") words))
    (λ halves. whole_then (λ n. option_map (fails n side) (call_words halves.1))
    (option_and_then if_counted (script_number_read halves.0))
    (λ n. whole_fails n side (call_words halves.1)))

whole_open : (side : Side) (words : List ℕ) → IfSome (open_words side words) HasWholeSeed
unfolding open_words
whole_open side words = whole_if (is_text (codes "open") words) (reopens side) tt

-- ---- any line

-- an event's, or another's
whole_deed : (event : Option Event) (other : Option Deed) → IfSome event IsSeedWhole → IfSome other HasWholeSeed
    → IfSome (option_or (option_map acts event) other) HasWholeSeed
whole_deed None other h i = i
whole_deed (Some event) other h i = h

whole_syncs : (side : Side) (o : Option (Option ℕ)) → IfSome (option_map (syncs side) o) HasWholeSeed
whole_syncs side None = tt
whole_syncs side (Some lost) = tt

whole_joins : (side : Side) (o : Option ℕ) → IfSome (option_map (joins side) o) HasWholeSeed
whole_joins side None = tt
whole_joins side (Some id) = tt

whole_or : (a b : Option Deed) → IfSome a HasWholeSeed → IfSome b HasWholeSeed
    → IfSome (option_or a b) HasWholeSeed
whole_or None b h i = i
whole_or (Some deed) b h i = h

whole_deed_words : (side : Side) (words : List ℕ) → IfSome (deed_words side words) HasWholeSeed
unfolding deed_words
whole_deed_words side words =
    let sync = option_map (syncs side) (sync_words words) in
    let join = option_map (joins side) (join_words words) in
    let open_or = option_or (open_words side words) (option_or sync join) in
    let fail_or = option_or (fail_words side words) open_or in
    whole_or (stop_words side words) fail_or (whole_stop side words)
    (whole_or (fail_words side words) open_or (whole_fail side words)
    (whole_or (open_words side words) (option_or sync join) (whole_open side words)
    (whole_or sync join (whole_syncs side (sync_words words)) (whole_joins side (join_words words)))))

whole_line : (line : List ℕ) → IfSome (line_read line) HasWholeSeed
unfolding line_read
whole_line line =
    whole_deed (plain_read line) (sided deed_words line) (whole_plain line)
    (whole_then (λ (named : Side × List ℕ). deed_words named.0 named.1) (side_named line) (λ named. whole_deed_words named.0 named.1))

-- ---- a script

whole_with : (deed : Deed) (others : Result (List Deed) ℕ) → HasWholeSeed deed → IfOk others (All HasWholeSeed)
    → IfOk (with_deed deed others) (All HasWholeSeed)
whole_with deed (Err bad) h i = tt
whole_with deed (Ok deeds) h i = All-cons HasWholeSeed deed deeds h i

whole_or_bad : (o : Option Deed) (number : ℕ) (others : Result (List Deed) ℕ) → IfSome o HasWholeSeed → IfOk others (All HasWholeSeed)
    → IfOk (or_bad o number others) (All HasWholeSeed)
whole_or_bad None number others h i = tt
whole_or_bad (Some deed) number others h i = whole_with deed others h i

whole_deeds : (number : ℕ) (lines : List (List ℕ)) → IfOk (deeds_of number lines) (All HasWholeSeed)
unfolding deeds_of
whole_deeds number [] = All-nil HasWholeSeed
whole_deeds number (line ∷ lines) = whole_or_bad (line_read line) number (deeds_of (suc number) lines) (whole_line line) (whole_deeds (suc number) lines)

whole_scripted : (kem : KemName) (key : List ℕ) (head : Headed) (deeds : Result (List Deed) ℕ)
    → IfOk deeds (All HasWholeSeed)
    → IfOk (scripted kem key head deeds) (λ script. All HasWholeSeed script.deeds)
whole_scripted kem key head (Err bad) h = tt
whole_scripted kem key head (Ok deeds) h = h

whole_keyed : (kem : KemName) (key : Option (List ℕ)) (lines : List (List ℕ))
    → IfOk (keyed kem key lines) (λ script. All HasWholeSeed script.deeds)
whole_keyed kem None lines = tt
whole_keyed kem (Some key) lines =
    let head = head_read lines in
    whole_scripted kem key head (deeds_of head.number head.lines) (whole_deeds head.number head.lines)

whole_after : (kem : Option KemName) (lines : List (List ℕ)) → IfOk (after_kem kem lines) (λ script. All HasWholeSeed script.deeds)
whole_after None lines = tt
whole_after (Some kem) [] = tt
whole_after (Some kem) (line ∷ lines) = whole_keyed kem (key_read line) lines

whole_lines : (lines : List (List ℕ)) → IfOk (script_of_lines lines) (λ script. All HasWholeSeed script.deeds)
whole_lines [] = tt
whole_lines (line ∷ lines) = whole_after (kem_read line) lines

-- the seeds of a script that was read
pub whole_seeds : (text : List ℕ) (script : Scripted) → script_of text ≡ Ok script → All HasWholeSeed script.deeds
unfolding script_of
whole_seeds text script read = subst (λ r. IfOk r (λ script. All HasWholeSeed script.deeds)) read (whole_lines (lines_of text))
