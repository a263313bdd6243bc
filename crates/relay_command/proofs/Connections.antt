-- One connection more.
use Rattle.std.proofs.Common.{◌≡◌, inl, inr, ⊎_elim, ℕ, ◌+◌, List, [], ◌∷◌, ◌++◌, length, refl, sym, ◌∙◌, ap, arith, append_assoc, append-nil}
use Rattle.relay_core.specs.Streams.{served}
use Rattle.relay_server.specs.Serving.{Reached}
use Rattle.relay_command.specs.declared.connecting.Connected.{Connected}
use Rattle.relay_command.specs.declared.connecting.Connected.TheVariants.{Ended, Failed}
use Rattle.relay_command.specs.Connections.{AreServed, Connection, SentReplies, ConnectionStanding, HowItWent, WereReached, after_connection, behind_all, connection_line, ended, failed, lines_behind, stopped}
use Rattle.relay_command.specs.Turns.{IsConnected, line_of}

pub behind_more : (s : ConnectionStanding) (xs : List Connection) (x : Connection) → behind_all s (xs ++ x ∷ []) ≡ after_connection (behind_all s xs) x
behind_more s [] x = refl
behind_more s (y ∷ xs) x = behind_more (after_connection s y) xs x

pub served_more : (s : ConnectionStanding) (xs : List Connection) (x : Connection) → AreServed s xs → SentReplies (behind_all s xs) x x.went → AreServed s (xs ++ x ∷ [])
served_more s [] x so sent = (sent, tt)
served_more s (y ∷ xs) x so sent = (so.0, served_more (after_connection s y) xs x so.1 sent)

pub reached_before : (s : ConnectionStanding) (xs : List Connection) (x : Connection) (c : List ℕ) → WereReached s xs c → WereReached s (xs ++ x ∷ []) c
reached_before s [] x c was = absurd was
reached_before s (y ∷ xs) x c was = ⊎_elim (λ here. inl here) (λ later. inr (reached_before (after_connection s y) xs x c later)) was

pub reached_last : (s : ConnectionStanding) (xs : List Connection) (x : Connection) (c : List ℕ) → Reached (behind_all s xs).boxes x.got c → WereReached s (xs ++ x ∷ []) c
reached_last s [] x c is = inl is
reached_last s (y ∷ xs) x c is = inr (reached_last (after_connection s y) xs x c is)

-- the line of a connection in its place
abbrev pub own_line : ℕ → ConnectionStanding → Connection → List ℕ
own_line i s x = connection_line i (length (served s.boxes x.got).exchanges) x.went

pub lines_more : (i : ℕ) (s : ConnectionStanding) (xs : List Connection) (x : Connection) → lines_behind i s (xs ++ x ∷ []) ≡ lines_behind i s xs ++ own_line (i + length xs + 1) (behind_all s xs) x
lines_more i s [] x = append-nil (own_line (i + 1) s x) ∙ ap (λ (k : ℕ). own_line k s x) (let e : i + 1 ≡ i + 0 + 1 = omega arith in e)
lines_more i s (y ∷ xs) x =
    ap (λ (more : List ℕ). own_line (i + 1) s y ++ more) (lines_more (i + 1) (after_connection s y) xs x)
    ∙ sym (append_assoc (own_line (i + 1) s y) (lines_behind (i + 1) (after_connection s y) xs) (own_line (i + 1 + length xs + 1) (behind_all (after_connection s y) xs) x))
    ∙ ap (λ (k : ℕ). (own_line (i + 1) s y ++ lines_behind (i + 1) (after_connection s y) xs) ++ own_line k (behind_all (after_connection s y) xs) x) (let e : i + 1 + length xs + 1 ≡ i + length (y ∷ xs) + 1 = omega arith in e)

-- as the code writes it
line_by : (i n : ℕ) (went : HowItWent) → went ≡ failed → connection_line i 0 failed ≡ connection_line i n went
unfolding connection_line
line_by i n ended is = absurd (let e : ended ≡ failed = is in cc)
line_by i n failed is = refl
line_by i n stopped is = absurd (let e : stopped ≡ failed = is in cc)

pub line_is : (i : ℕ) (s : ConnectionStanding) (x : Connection) (connected : Connected) → IsConnected s x connected → line_of i connected ≡ own_line i s x
line_is i s x (Ended n) is = ap (λ (m : ℕ). connection_line i m ended) is.1 ∙ ap (connection_line i (length (served s.boxes x.got).exchanges)) (sym is.0)
line_is i s x Failed is = line_by i (length (served s.boxes x.got).exchanges) x.went is
