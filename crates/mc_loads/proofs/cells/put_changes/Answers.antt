use Rattle.std.proofs.Common.{◌≡◌, ◌++◌, length, map, arith, rules, ap, sym, subst, ◌∙◌}
use Rattle.std.specs.Int.{w32}
use Rattle.std.proofs.lemmas.Int.{to_z-of_z}
use Rattle.std.proofs.lemmas.List.{length-map}
use Rattle.mc_land.specs.declared.ready.Touched.{Touched}
use Rattle.mc_packets.specs.declared.down.Down.{Down}
use Rattle.mc_packets.specs.declared.down.Down.TheVariants.{MultiChange}
use Rattle.mc_model.specs.Delta.{cell_record}
use Rattle.mc_packets.proofs.Begun.{ok_as}
use Rattle.mc_model.specs.Packets.{frame_of, of_play}
use Rattle.mc_loads.specs.Cells.{indices, states_at}
use Rattle.mc_sending.specs.Sending.{AreClear, IsClear, play_bytes}
use Rattle.mc_sending.proofs.Pieces.{play_bytes-one}
use Rattle.mc_loads.proofs.Touched.{several_packets, touched_clear}
use Rattle.mc_loads.proofs.cells.put_changes.Goals as goal

pub put_made-requires : goal.put_made-requires
put_made-requires g c =
    let place = c.args.place.now in
    let states = states_at c.args.land.now place in
    let is = indices c.args.touched.now in
    let size : length is ≡ length c.args.touched.now =
    length-map c.args.touched.now (λ (t : Touched). t.index) in
    let x = to_z-of_z w32 place.0 (search rules) in
    let z = to_z-of_z w32 place.1 (search rules) in
    let clear : IsClear (MultiChange place.0 place.1 (map (cell_record states) is)) =
    (subst AreClear (several_packets place states is (omega (arith, size, c.requires.several)))
    (touched_clear place states is c.requires.place (omega (arith, size, c.requires.few))
    c.in_ok-records.ensures.cells)).0 in
    subst IsClear (sym (λ i. MultiChange (x i) (z i) (c.in_ok-records.ensures.records i))) clear

pub returns-clause-sent : goal.returns-clause-sent
returns-clause-sent g c =
    let place = c.args.place.now in
    let states = states_at c.args.land.now place in
    let is = indices c.args.touched.now in
    let size : length is ≡ length c.args.touched.now =
    length-map c.args.touched.now (λ (t : Touched). t.index) in
    let x = to_z-of_z w32 place.0 (search rules) in
    let z = to_z-of_z w32 place.1 (search rules) in
    ok_as c.put_made.result c.put_made.new.out.items _ _
    (ap (λ (d : Down). c.args.out.now.items ++ frame_of (of_play d))
    (λ i. MultiChange (x i) (z i) (c.in_ok-records.ensures.records i))
    ∙ ap (λ t. c.args.out.now.items ++ t)
    (play_bytes-one (MultiChange place.0 place.1 (map (cell_record states) is))
    ∙ ap play_bytes (sym (several_packets place states is
    (omega (arith, size, c.requires.several)))))) c.put_made.ensures.ok
