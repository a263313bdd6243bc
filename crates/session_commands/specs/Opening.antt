-- How a command ends where no client was opened, or begun.
use Rattle.endings.specs.declared.ending.Ending.{Ending}
use Rattle.endings.specs.declared.ending.Ending.TheVariants.{Damaged, DiskFault, Exists, NoMemory, NoSession, Refused}
use Rattle.session_model.specs.declared.answer.Refusal.TheVariants.{NoPair}
use Rattle.client.specs.declared.refusals.BeginRefusal.{BeginRefusal}
use Rattle.client.specs.declared.refusals.BeginRefusal.TheVariants.{Damaged as BeginDamaged, Exists as BeginExists, Memory as BeginMemory, NoPair as BeginNoPair, StoreFault as BeginFault}
use Rattle.client.specs.declared.refusals.OpenRefusal.{OpenRefusal}
use Rattle.client.specs.declared.refusals.OpenRefusal.TheVariants.{Damaged as OpenDamaged, Memory as OpenMemory, NoSession as OpenNoSession, StoreFault as OpenFault}

abbrev pub ending_of_open : OpenRefusal → Ending
ending_of_open OpenMemory = NoMemory
ending_of_open (OpenFault call) = DiskFault
ending_of_open (OpenDamaged slot at) = Damaged slot at
ending_of_open OpenNoSession = NoSession

abbrev pub ending_of_begin : BeginRefusal → Ending
ending_of_begin BeginMemory = NoMemory
ending_of_begin (BeginFault call) = DiskFault
ending_of_begin (BeginDamaged slot at) = Damaged slot at
ending_of_begin BeginExists = Exists
ending_of_begin BeginNoPair = Refused NoPair
