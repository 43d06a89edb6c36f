use Rattle.std.proofs.Common.{◌≡◌, arith, sym, subst}
use Rattle.std.specs.Int.{w32}
use lib.IntN.{ℤ, pos}
use mir.Val.{to_z, of_z}
use Rattle.mc_packets.specs.declared.down.Down.TheVariants.{Change}
use Rattle.mc_model.specs.Things.{state_of_cell}
use Rattle.mc_model.proofs.FitsNotes.{noted_packet_clear}
use Rattle.mc_sending.specs.Sending.{IsClear}
use Rattle.mc_loads.proofs.Touched.{number_state}
use Rattle.mc_flush.proofs.noted.put_noted.Goals as goal

pub put_made-requires : goal.put_made-requires
put_made-requires g c =
    let land = c.args.land.now in
    let cell = c.args.cell.now in
    let state = state_of_cell land.terrain land.edits cell.x cell.y cell.z in
    let is : c.state_of-state.result ≡ state = c.state_of-state.ensures.is in
    let n : to_z w32 (of_z w32 c.from.result) ≡ pos state =
    number_state c.from.result c.state_of-state.result state (omega arith) c.from.ensures is in
    subst (λ (z : ℤ). IsClear (Change cell z)) (sym n) (noted_packet_clear land.terrain land.edits
    cell (c.is_sent.ensures.fits c.if-not-is_sent.false) (omega (arith, is)))
