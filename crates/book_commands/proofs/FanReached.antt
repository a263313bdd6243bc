-- The sessions of a fan that ends with status 0 reach their peers.
use Rattle.std.proofs.Common.{List, Ok, Option, ap, arith, length, subst, sym, ℕ, ◌∙◌, ◌≡◌}
use Rattle.dr_base.specs.declared.key.Key32.{Key32}
use Rattle.dr_disk.specs.State.{DiskState}
use Rattle.dr_model.specs.Theorems.Acting.{ActsFollow}
use Rattle.dr_model.specs.Theorems.Spoken.{SaidIsOpened}
use Rattle.dr_ports.specs.States.{DrawsState}
use Rattle.endings.specs.Ending.{code_of}
use Rattle.endings.specs.declared.ending.Ending.{Ending}
use Rattle.kem_laws.specs.Mechanism.{Mechanism}
use Rattle.session_model.specs.Clients.{Client}
use Rattle.book_model.specs.Rows.{Rows}
use Rattle.book.proofs.Fanning.Asked.{all_say, longer, named_there, still_listed}
use Rattle.book.proofs.Only.{only}
use Rattle.book.proofs.Worlds.Drawn.{asked_whole}
use Rattle.book.proofs.Worlds.Led.{named_after}
use Rattle.book.proofs.Worlds.Reached.{reaches_all}
use Rattle.book.specs.Fanning.{AsksInTurn}
use Rattle.book.specs.Fans.{AreListed, IsFanList, fan_of}
use Rattle.book.specs.RowKeepings.{row_at}
use Rattle.book.specs.Rows.{stored}
use Rattle.book_commands.specs.FanEndings.{listed_name}
use Rattle.book_commands.specs.FanWorlds.{ReachesInWorlds, ReachesNamed}
use Rattle.book_commands.specs.Fanning.{AreAdded, FansOn, IsOpenedFor, RunsFan, had_no_name, none_added, one_more, was_cut, was_fanned, was_opened, was_refused, wasnt_added, wasnt_opened}
use Rattle.book_commands.specs.Listing.{IsBookAtRestFor}
use Rattle.book_commands.proofs.Codes.{open_code}
use Rattle.book_commands.proofs.FanCodes.{add_code, peer_code}

-- the list of sessions that were added is one of a fan
pub record IsFair (rows : Rows Client) (list : List ℕ) : Type 0 where
  pub fair : IsFanList list
  pub listed : AreListed rows list

are_fair : (names : List (List ℕ)) (rows : Rows Client) (n : ℕ) (list : List ℕ) → AreAdded names rows n list
    → IsFair rows list
are_fair names rows n list none_added = record {
  fair = record { few = omega arith; once = λ i j less lt. absurd (omega (arith, lt)) };
  listed = λ i lt. absurd (omega (arith, lt));
}
are_fair names rows n list (one_more m before next added adds) =
    let rest = are_fair names rows m before added in
    subst (IsFair rows) (sym adds.4) (record {
      fair = longer before adds.0 rest.fair adds.2 adds.3;
      listed = still_listed before adds.0 rows rest.listed (named_there _ (row_at rows adds.0) adds.1.named);
    })

module _ {W : Type 0} (draws : W → DrawsState) (k : Mechanism) (follow : ActsFollow k) (opens : SaidIsOpened k)
    (text : List ℕ) (sessions : Rows Client) (list : List ℕ) (source left : W) (seeds : List (Option Key32)) where
  reach : (disk : DiskState) → IsBookAtRestFor sessions disk → IsFair sessions list
      → AsksInTurn draws k text sessions list source left seeds (Ok tt)
      → ReachesInWorlds k sessions (fan_of sessions list text seeds)
  reach disk rests fair asks worlds stands =
      let fan = fan_of sessions list text seeds in
      let all = all_say draws k text sessions list source left seeds asks fair.fair fair.listed in
      let whole = asked_whole draws k text sessions list source (length list) left seeds asks in
      let onlys = only sessions rests.book.store (rests.ready.holds ∙ ap stored rests.rows) rests.ready.rests.marked in (
        named_after k fan worlds (length list),
        reaches_all k follow opens fan all whole onlys worlds stands,
      )

module _ {X W : Type 0} (state : X → DiskState) (draws : W → DrawsState) (k : Mechanism) (follow : ActsFollow k)
    (opens : SaidIsOpened k) (text : List ℕ) (names : List (List ℕ)) (start now : X) (source left : W) where
  abbrev Reaches : Type 0
  Reaches = ReachesNamed state draws k text names start now source left

  fanned_on : (sessions : Rows Client) (mid : X) (ending : Ending) (lines : List ℕ)
      → IsOpenedFor state k sessions start mid
      → FansOn state draws k text names sessions start mid now source left ending lines
      → code_of ending ≡ 0 → Reaches
  fanned_on sessions mid _ _ opened (wasnt_added list error adds same drew) e = absurd (add_code error e)
  fanned_on sessions mid _ _ opened (had_no_name none same drew) e = absurd (omega (arith, e))
  fanned_on sessions mid _ _ opened (was_refused list seeds at refusal adds asks same) e =
      absurd (peer_code (listed_name sessions list at) refusal e)
  fanned_on sessions mid _ _ opened (was_cut list seeds call adds asks says rose) e = absurd (omega (arith, e))
  fanned_on sessions mid _ _ opened (was_fanned list seeds adds asks says rests quiet) e = record {
    sessions = sessions;
    read = opened.read;
    list = list;
    added = adds;
    seeds = seeds;
    asked = asks;
    reaches = reach draws k follow opens text sessions list source left seeds (state mid) opened.rests
        (are_fair names sessions (length names) list adds) asks;
    rests = rests;
  }

  pub fan_reaches : (ending : Ending) (lines : List ℕ)
      → RunsFan state draws k text names start now source left ending lines → code_of ending ≡ 0 → Reaches
  fan_reaches _ _ (wasnt_opened error why leaves drew) e = absurd (open_code error e)
  fan_reaches _ _ (was_opened sessions mid ending lines opened on) e = fanned_on sessions mid ending lines opened on e
