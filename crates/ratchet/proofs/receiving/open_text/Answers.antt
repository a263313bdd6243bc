use Rattle.std.proofs.Common.{◌∙◌, ap, length, sym, arith}
use Rattle.bodies.proofs.Short.{opened_short}
use Rattle.etm_aead.specs.Undoing.{length-ciphertext_of}
use Rattle.ratchet.proofs.receiving.open_text.Goals as goal

pub returns-in-Some-clause-fits : goal.returns-in-Some-clause-fits
returns-in-Some-clause-fits c =
    (opened_short c.version.result _ _ c.in-Some.body (sym c.in-Some.ensures.opens)
    (λ plain. omega (arith, ap length (c.as_slice.ensures.value ∙ c.in-Ok.ensures.ok), length-ciphertext_of c.args.key c.ciphertext.result.now, c.ciphertext.ensures.plain (sym c.version.ensures.value ∙ plain))))
