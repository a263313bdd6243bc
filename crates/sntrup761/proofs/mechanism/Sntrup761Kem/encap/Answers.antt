use Rattle.sntrup761.proofs.Encapsulation.{encapsulated-is}
use Rattle.sntrup761.proofs.mechanism.Sntrup761Kem.encap.Goals as goal

pub returns : goal.returns
returns c =
    encapsulated-is c.args.public.now c.args.seed.now.bytes c.array_at.result c.hash.result c.hide.new.ciphertext
    c.small_encode.result c.session.result c.draw_r-r.result.coefficients
    c.requires.public_size c.draw_r-r.ensures c.array_at.ensures c.hash.ensures c.hide.ensures c.small_encode.ensures
    c.session.ensures
