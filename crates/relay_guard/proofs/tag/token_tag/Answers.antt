use Rattle.std.proofs.Common.{◌≡◌, ◌++◌, List, ℕ, [], ◌∙◌, ap, append_assoc}
use Rattle.std.specs.Prelude.{codes}
use Rattle.hmac_hkdf.specs.Hmac.{hmac_of}
use Rattle.relay_guard.specs.Guards.{token_tag}
use Rattle.relay_guard.proofs.tag.token_tag.Goals as goal

joined : (a b c d e : List ℕ) → ((((([] ++ a) ++ b) ++ c) ++ d) ++ e) ≡ a ++ (b ++ (c ++ (d ++ e)))
joined a b c d e = append_assoc ((a ++ b) ++ c) d e ∙ append_assoc (a ++ b) c (d ++ e) ∙ append_assoc a b (c ++ (d ++ e))

pub returns : goal.returns
unfolding token_tag
returns c =
    let key = c.args.key.now.bytes in
    let first = c.update.ensures key [] (c.new-mac.ensures) in
    let second = c.update-2.ensures key _ first in
    let third = c.update-3.ensures key _ second in
    let fourth = c.update-4.ensures key _ third in
    let fifth = c.update-5.ensures key _ fourth in
    c.finish.ensures key _ fifth ∙ ap (hmac_of key) (joined (codes "relay token") c.to_be_bytes.result c.args.head.now c.args.name.now c.args.rest.now)
    ∙ ap (λ (b : List ℕ). hmac_of key (codes "relay token" ++ (b ++ (c.args.head.now ++ (c.args.name.now ++ c.args.rest.now))))) c.to_be_bytes.ensures
