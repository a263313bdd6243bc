-- The lines of a sync of a side: those that its client prints, and one that tells how it broke off.
use Rattle.std.specs.Prelude.{ℕ, List, [], ◌++◌, codes, decimal}
use Rattle.dr_base.specs.declared.position.Side.{Side}
use Rattle.sync_model.specs.Moves.{Ending, Wait, box_is_full, denied_by, ended, inbox_full, no_such_box, over, wrong}
use Rattle.sync_model.specs.Parties.{Party}
use Rattle.sync_model.specs.Transfers.{Meeting}
use Rattle.client.specs.declared.syncing.faults.SyncFault.{SyncFault}
use Rattle.client.specs.declared.syncing.faults.SyncFault.TheVariants.{Link, Refused}
use Rattle.client.specs.declared.syncing.faults.SyncRefusal.TheVariants.{BoxFull, Denied, InboxFull, Unknown}
use Rattle.scripts.specs.Sides.{side_text}

-- what is said of a sync that broke off
abbrev pub fault_text : SyncFault → List ℕ
fault_text (Refused InboxFull) = codes "refused InboxFull\n"
fault_text (Refused BoxFull) = codes "refused BoxFull\n"
fault_text (Refused Unknown) = codes "refused Unknown\n"
fault_text (Refused (Denied rule)) = codes "refused Denied " ++ decimal rule ++ codes "\n"
fault_text Link = codes "link fault\n"
fault_text _ = []

-- in a line of its side
abbrev pub fault_line : Side → SyncFault → List ℕ
fault_line side fault = side_text side ++ fault_text fault

-- how a sync of a side ends, after the lines that it printed: a refusal of its own is told as any
-- is, and where it still waits for a reply the link has failed
abbrev pub ending_line : {S : Type 0} → Party S → Side → Ending → List ℕ
ending_line p side (ended which) = p.end_line which
ending_line p side inbox_full = fault_line side (Refused InboxFull)
ending_line p side box_is_full = fault_line side (Refused BoxFull)
ending_line p side no_such_box = fault_line side (Refused Unknown)
ending_line p side (denied_by rule) = fault_line side (Refused (Denied rule))
ending_line p side wrong = []

abbrev pub closing_line : {S : Type 0} → Party S → Side → Wait → List ℕ
closing_line p side (over ending) = ending_line p side ending
closing_line p side _ = fault_line side Link

abbrev pub sync_lines : {S : Type 0} → Party S → Side → Meeting S → List ℕ
sync_lines p side m = m.course.lines ++ closing_line p side m.course.wait
