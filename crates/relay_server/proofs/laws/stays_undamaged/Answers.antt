use Rattle.relay_server.proofs.Reopening.{each_undamaged, serving_undamaged}
use Rattle.relay_server.proofs.laws.stays_undamaged.Goals as goal

pub returns-clause-opening : goal.returns-clause-opening
returns-clause-opening g c = λ specs start image opening. (opening.entry, opening.image, opening.undamaged)

pub returns-clause-serving : goal.returns-clause-serving
returns-clause-serving g c = serving_undamaged

pub returns-clause-moments : goal.returns-clause-moments
returns-clause-moments g c = λ count n a stays. each_undamaged g.D.Disk.state count c.args.moments.now stays n a
