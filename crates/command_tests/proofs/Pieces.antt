-- What the commands on disks in memory come to.
use Rattle.std.proofs.Common.{Bool, Err, IfOk, IfSome, List, None, Ok, Option, Result, Some, arith, inl, inr, refl, subst, suc, sym, true, zero, [], ℕ, ⊎_elim, ◌∙◌, ◌∷◌, ◌≡◌, ◌⊎◌}
use Rattle.std.specs.Prelude.{Contains, slice_get}
use Rattle.bodies.specs.declared.format.Format.TheVariants.{Plain}
use Rattle.dr_base.specs.declared.position.Side.{Side}
use Rattle.dr_disk.specs.MemoryDisks.{IsLeftBy, state_of}
use Rattle.dr_disk.specs.MemoryLaws.{memory_lawful}
use Rattle.dr_disk.specs.State.{DiskState, IsLawful}
use Rattle.dr_disk.specs.declared.call.Mode.{Mode}
use Rattle.dr_disk.specs.declared.memory.MemoryDisk.{MemoryDisk}
use Rattle.dr_ports.specs.Memory.{Turning, steady_at, turning_at}
use Rattle.dr_ports.specs.States.{SinkState, SourceState}
use Rattle.endings.specs.Ending.{code_of}
use Rattle.endings.specs.Ends.{Ends}
use Rattle.endings.specs.declared.ending.Ending.{Ending}
use Rattle.endings.specs.declared.ending.Ending.TheVariants.{BadKey, Done, NotHex}
use Rattle.kem_laws.specs.Mechanism.{Mechanism}
use Rattle.client.specs.Beginning.{begin_of}
use Rattle.command_lines.specs.Asking.{asked_say}
use Rattle.command_lines.specs.Inputs.{IsNoInput, had_no_memory, is_bad, is_too_long, key_in_hex, packet_in_hex, read_failed}
use Rattle.command_lines.specs.Runs.{RunsAndCounts, had_no_packet, had_packet}
use Rattle.session_commands.specs.Acting.{RunsAct}
use Rattle.session_commands.specs.Beginning.{Began, RunsBegin, had_key, had_no_key}
use Rattle.session_commands.specs.Taking.{RunsTake}
use Rattle.session_commands.specs.WholeRuns.{LeavesAlone}
use Rattle.command_tests.specs.Talks.{HasBegun, HasSaidText, HasTaken}

done_of : (ending : Ending) → code_of ending ≡ 0 → ending ≡ Done
done_of Done is = refl
done_of ending is = absurd (omega (arith, is))

module _ (ending : Ending) (lines : List ℕ) (old new : SinkState) (code : ℕ)
    (ends : Ends ending lines old new code) where
  done_by : code ≡ 0 → ending ≡ Done
  done_by is =
      ⊎_elim (λ wrote. done_of ending (sym wrote.code_is ∙ is))
      (λ cut. absurd (omega (arith, cut.code_is, is))) ends

  code_by : (code ≡ 0) ⊎ (code ≡ 6) → code ≡ code_of ending
  code_by is =
      ⊎_elim (λ wrote. wrote.code_is)
      (λ cut. absurd (⊎_elim (λ none. omega (arith, cut.code_is, none)) (λ six. omega (arith, cut.code_is, six)) is))
      ends

-- no value was read: the status says so
none_read : (limit : ℕ) (parse : List ℕ → Option (List ℕ)) (bad : Ending) (from to : SourceState)
    (ending : Ending) → code_of bad ≡ 3 → IsNoInput limit parse bad from to ending
    → (code_of ending ≡ 0) ⊎ (code_of ending ≡ 6) → ⊥
none_read limit parse bad from to ending three (had_no_memory left quiet) is =
    ⊎_elim (λ e. omega (arith, e)) (λ e. omega (arith, e)) is
none_read limit parse bad from to ending three (read_failed gave rose) is =
    ⊎_elim (λ e. omega (arith, e)) (λ e. omega (arith, e)) is
none_read limit parse bad from to ending three (is_too_long long left quiet) is =
    ⊎_elim (λ e. omega (arith, e)) (λ e. omega (arith, e)) is
none_read limit parse bad from to ending three (is_bad text left quiet) is =
    ⊎_elim (λ e. omega (arith, e, three)) (λ e. omega (arith, e, three)) is

module _ (k : Mechanism) (from text : List ℕ) (same : from ≡ text) (to : SourceState)
    (start now : MemoryDisk) (others : Type 0) (old new : SinkState) (code : ℕ) where
  begun_by : (side : Side) (ending : Ending) (lines : List ℕ)
      → RunsBegin state_of k side Plain (steady_at from) to start now ending lines → ending ≡ Done
      → HasBegun k side text now
  begun_by side _ _ (had_no_key ending none alone) is =
      absurd (none_read _ key_in_hex BadKey (steady_at from) to ending refl none
      (inl (subst (λ e. code_of e ≡ 0) (sym is) refl)))
  begun_by side _ _ (had_key key ending lines input begins) is = record {
    key32 = key;
    key_is = subst (λ t. key_in_hex t ≡ Some key.bytes) same input.text.1;
    start = start;
    lines = lines;
    began = subst (λ e. Began state_of k (begin_of side Plain key) start now e lines) is begins.began;
  }

  pub begun_in : (side : Side)
      → RunsAndCounts (RunsBegin state_of k side Plain (steady_at from) to start now) others old new code
      → code ≡ 0 → HasBegun k side text now
  begun_in side runs is =
      begun_by side runs.runs.ending runs.runs.lines runs.runs.came
      (done_by runs.runs.ending runs.runs.lines old new code runs.runs.ends is)

  takes_by : (done : Bool) (ending : Ending) (lines : List ℕ)
      → RunsTake state_of k (steady_at from) to start now ending lines
      → (code_of ending ≡ 0) ⊎ (code_of ending ≡ 6) → (done ≡ true → ending ≡ Done)
      → HasTaken k text start now done
  takes_by done _ _ (had_no_packet ending none alone) codes is =
      absurd (none_read _ packet_in_hex NotHex (steady_at from) to ending refl none codes)
  takes_by done _ _ (had_packet packet ending lines input runs truly) codes is = record {
    packet = packet;
    hex = subst (λ t. packet_in_hex t ≡ Some packet) same input.text.1;
    ending = ending;
    lines = lines;
    takes = runs;
    is_done = is;
  }

  pub takes_in : (done : Bool)
      → RunsAndCounts (RunsTake state_of k (steady_at from) to start now) others old new code
      → (code ≡ 0) ⊎ (code ≡ 6) → (done ≡ true → code ≡ 0) → HasTaken k text start now done
  takes_in done runs codes is =
      let came = runs.runs in
      let code_is = code_by came.ending came.lines old new code came.ends codes in
      takes_by done came.ending came.lines came.came
      (⊎_elim (λ e. inl (sym code_is ∙ e)) (λ e. inr (sym code_is ∙ e)) codes)
      (λ d. done_by came.ending came.lines old new code came.ends (is d))

pub said_in : (k : Mechanism) (text : List ℕ) (source left : Turning) (start now : MemoryDisk)
    (others : Type 0) (old new : SinkState) (code : ℕ)
    → RunsAndCounts (RunsAct state_of k (asked_say turning_at text source left) start now) others old
    new code → code ≡ 0 → HasSaidText k text start now
said_in k text source left start now others old new code runs is =
    let came = runs.runs in record {
      source = source;
      left = left;
      lines = came.lines;
      says = subst (λ e. RunsAct state_of k (asked_say turning_at text source left) start now e came.lines)
          (done_by came.ending came.lines old new code came.ends is) came.came;
    }

-- what a crash left, one might have left before it
pub left_alone : (mode : Mode) (was now : DiskState) → IsLawful was → IsLeftBy mode was now
    → LeavesAlone was now
left_alone mode was now lawful left = λ c image.
    let same : left.bytes ≡ c =
    let e : Some left.bytes ≡ Some c = sym left.fresh.seen ∙ left.fresh.settled c image in cc in
    subst was.image same (lawful.leaves_now mode left.bytes left.left)

-- a disk in memory keeps the laws
pub memory_is_lawful : (disk : MemoryDisk) → IsLawful (state_of disk)
memory_is_lawful disk =
    memory_lawful disk.platter.bytes.items disk.platter.durable.items disk.platter.asked.items
    disk.platter.marks.items disk.meter.fate disk.meter.passed
    (record { reads = disk.reads; writes = disk.writes; syncs = disk.syncs; tried = disk.tried })
    disk.platter.agrees disk.platter.asks disk.platter.one_mark_each

-- ---- what a call answered

pub of_some : {X : Type 0} (P : X → Type 0) (o : Option X) (v : X) → o ≡ Some v → IfSome o P → P v
of_some P o v is has = subst (λ x. IfSome x P) is has

pub if_some : {X : Type 0} (P Q : X → Type 0) → ((v : X) → P v → Q v) → (o : Option X)
    → IfSome o P → IfSome o Q
if_some P Q leads None has = has
if_some P Q leads (Some v) has = leads v has

pub if_ok : {X E : Type 0} (P Q : X → Type 0) → ((v : X) → P v → Q v) → (r : Result (Option X) E)
    → IfOk r (λ o. IfSome o P) → IfOk r (λ o. IfSome o Q)
if_ok P Q leads (Err e) has = has
if_ok P Q leads (Ok o) has = if_some P Q leads o has

-- what stands at a place of a list stands in it
pub stands_at : {X : Type 0} (xs : List X) (i : ℕ) (x : X) → slice_get xs i ≡ Some x → Contains xs x
stands_at [] i x is = absurd (let e : None ≡ Some x = is in cc)
stands_at (y ∷ xs) zero x is =
    let same : y ≡ x = let e : Some y ≡ Some x = is in cc in (0, omega arith, same)
stands_at (y ∷ xs) (suc i) x is =
    let rest = stands_at xs i x is in (suc rest.0, omega (arith, rest.1), rest.2)
