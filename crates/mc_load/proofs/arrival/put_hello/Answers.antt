use Rattle.std.proofs.Common.{◌≡◌, ◌∙◌, ◌++◌, List, ℕ, ap, rules, subst, sym}
use Rattle.std.specs.Prelude.{codes}
use lib.IntN.{pos}
use Rattle.mc_frame.specs.Frame.{IsPayload}
use Rattle.mc_hello.specs.declared.handshake.Hand.{Hand}
use Rattle.mc_hello.specs.declared.handshake.Hand.TheVariants.{Handshake}
use Rattle.mc_hello.specs.Hand.{SpellsHand, spelling_of}
use Rattle.mc_load.proofs.Sendable.{hello_payload, hello_spelled}
use Rattle.mc_load.proofs.arrival.put_hello.Goals as goal

pub write_hand-written-requires : goal.write_hand-written-requires
write_hand-written-requires c =
    let is : c.in_ok-from_str.field-0 ≡ codes "localhost" = search rules in
    subst (λ (text : List ℕ). (bytes : List ℕ)
    × SpellsHand (Handshake (pos 47) text 25565 (pos 2)) bytes) (sym is) hello_spelled

pub write_frame-requires : goal.write_frame-requires
write_frame-requires c =
    let hello : List ℕ → Hand = λ text. Handshake (pos 47) text 25565 (pos 2) in
    let text = c.in_ok-from_str.field-0 in
    let named : text ≡ codes "localhost" = search rules in
    let is : c.as_slice.result.now ≡ spelling_of (hello text) =
    c.as_slice.ensures.value ∙ c.in_ok-written.ensures.ok
    ∙ ap (λ (t : List ℕ). t ++ spelling_of (hello text)) c.new-payload.ensures.items in
    subst IsPayload (sym (is ∙ ap (λ (t : List ℕ). spelling_of (hello t)) named)) hello_payload
