-- the boxes so far are loaded
use Rattle.relay_server.specs.Filling.{AreLoaded}
use Rattle.relay_server.proofs.filling.load_boxes.Given as goal

abbrev pub invariant-boxes : goal.invariant-boxes
invariant-boxes l = AreLoaded l.k l.fn.relay l.relay l.stores
