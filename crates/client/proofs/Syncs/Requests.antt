-- One request after another leaves a link as one does.
use Rattle.std.proofs.Common.{arith, refl, ◌∙◌}
use Rattle.dr_ports.specs.Wires.{Port}
use Rattle.relay_pipe.specs.Asking.{LeavesLink}

module _ {L B : Type 0} (port : L → Port) (behind : L → B) where
  pub leaves_all : (link : L) → LeavesLink port behind link link
  leaves_all link = record { flow = omega arith; gate = refl; stands = refl }

  pub leaves_again : (first mid last : L) → LeavesLink port behind first mid → LeavesLink port behind mid last
      → LeavesLink port behind first last
  leaves_again first mid last one two = record {
    flow = omega (arith, one.flow, two.flow);
    gate = two.gate ∙ one.gate;
    stands = two.stands ∙ one.stands;
  }
