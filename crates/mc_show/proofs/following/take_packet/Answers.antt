use Rattle.std.proofs.Common.{◌≡◌, Err, ap, sym, ◌∙◌}
use Rattle.mc_bytes.specs.declared.fault.ReadFault.{ReadFault}
use Rattle.mc_bytes.specs.declared.fault.ReadFault.TheVariants.{Field}
use Rattle.mc_show.proofs.Chunks.{fault_kept}
use Rattle.mc_show.proofs.following.take_packet.Goals as goal

pub returns-in-Err-Field : goal.returns-in-Err-Field
returns-in-Err-Field c =
    let fault = c.in-Err-Field._fault in
    let is : c.apply.result ≡ Err (Field fault) =
    c.in-Err-Field.is ∙ ap (λ (e : ReadFault). Err e) c.in-Err-Field.field-0-is in
    c.apply.ensures.kept fault is
    ∙ sym (fault_kept c.args.world.now c.args.packet.now fault ((c.apply.ensures.fault fault).0 is))
