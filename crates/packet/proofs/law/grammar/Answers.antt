use Rattle.packet.proofs.Faulty.{fault_is_first}
use Rattle.packet.proofs.Lengths.{length-ad_of, length-packet_of}
use Rattle.packet.proofs.Pieces.{packet_of-pieces}
use Rattle.packet.proofs.Printed.{printed_is_read}
use Rattle.packet.proofs.Read.{read_was_printed}
use Rattle.packet.proofs.law.grammar.Goals as goal

pub returns-clause-printed_is_read : goal.returns-clause-printed_is_read
returns-clause-printed_is_read c = printed_is_read

pub returns-clause-read_was_printed : goal.returns-clause-read_was_printed
returns-clause-read_was_printed c = read_was_printed

pub returns-clause-ad_len : goal.returns-clause-ad_len
returns-clause-ad_len c = λ agreement f lawful. length-ad_of f lawful.session_len

pub returns-clause-packet_len : goal.returns-clause-packet_len
returns-clause-packet_len c = λ agreement f lawful. length-packet_of f lawful.session_len lawful.tag_len

pub returns-clause-in_pieces : goal.returns-clause-in_pieces
returns-clause-in_pieces c = packet_of-pieces

pub returns-clause-fault_is_first : goal.returns-clause-fault_is_first
returns-clause-fault_is_first c = fault_is_first
