use Rattle.std.proofs.Common.{◌≡◌, ◌∙◌, ◌++◌, List, ℕ, ap, subst, sym}
use Rattle.mc_frame.specs.Frame.{IsPayload}
use Rattle.mc_up.specs.PlayUp.{spelling_of}
use Rattle.mc_load.proofs.framing.put_frame.Goals as goal

pub write_frame-requires : goal.write_frame-requires
write_frame-requires c =
    let packet = c.args.packet in
    let is : c.as_slice.result.now ≡ spelling_of packet =
    c.as_slice.ensures.value ∙ c.in_ok-written.ensures.ok
    ∙ ap (λ (t : List ℕ). t ++ spelling_of packet) c.in_ok-payload.ensures.items in
    subst IsPayload (sym is) c.requires.held
