use Rattle.std.proofs.Common.{◌≡◌, ◌++◌, [], ◌∷◌, arith, ap, sym, subst, ◌∙◌}
use Rattle.std.specs.Prelude.{slice_index}
use Rattle.std.specs.Int.{w32}
use lib.IntN.{pos}
use mir.Val.{to_z, of_z}
use Rattle.mc_packets.specs.declared.down.Down.{Down}
use Rattle.mc_packets.specs.declared.down.Down.TheVariants.{Change}
use Rattle.mc_model.specs.Delta.{cell_at}
use Rattle.mc_packets.proofs.Begun.{ok_as}
use Rattle.mc_model.specs.Packets.{frame_of, of_play}
use Rattle.mc_loads.specs.Cells.{states_at}
use Rattle.mc_sending.specs.Sending.{IsClear}
use Rattle.mc_sending.proofs.Pieces.{play_bytes-one}
use Rattle.mc_loads.proofs.Touched.{number_state, touched_clear}
use Rattle.mc_loads.proofs.cells.put_change.Goals as goal

pub put_made-requires : goal.put_made-requires
put_made-requires g c =
    let states = states_at c.args.land.now c.args.place.now in
    let n : to_z w32 (of_z w32 c.from.result) ≡ pos (slice_index states c.args.index) =
    number_state c.from.result c.state_at-state.result (slice_index states c.args.index) (omega
    arith) c.from.ensures c.state_at-state.ensures.state in
    let value : Change c.cell_at.result (to_z w32 (of_z w32 c.from.result))
    ≡ Change (cell_at c.args.place.now c.args.index) (pos (slice_index states c.args.index)) =
    λ i. Change (c.cell_at.ensures i) (n i) in
    subst IsClear (sym value) (touched_clear c.args.place.now states (c.args.index ∷ []) c.requires
    (omega arith) (c.state_at-state.ensures.cell, tt)).0

pub returns-clause-sent : goal.returns-clause-sent
returns-clause-sent g c =
    let states = states_at c.args.land.now c.args.place.now in
    let n : to_z w32 (of_z w32 c.from.result) ≡ pos (slice_index states c.args.index) =
    number_state c.from.result c.state_at-state.result (slice_index states c.args.index) (omega
    arith) c.from.ensures c.state_at-state.ensures.state in
    let value : Change c.cell_at.result (to_z w32 (of_z w32 c.from.result))
    ≡ Change (cell_at c.args.place.now c.args.index) (pos (slice_index states c.args.index)) =
    λ i. Change (c.cell_at.ensures i) (n i) in
    ok_as c.put_made.result c.put_made.new.out.items _ _
    (ap (λ (d : Down). c.args.out.now.items ++ frame_of (of_play d)) value
    ∙ ap (λ t. c.args.out.now.items ++ t) (play_bytes-one
    (Change (cell_at c.args.place.now c.args.index) (pos (slice_index states c.args.index)))))
    c.put_made.ensures.ok
