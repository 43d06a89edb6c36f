use Rattle.std.proofs.Common.{rules, ◌++◌, List, ℕ, sym, subst, ap, ◌∙◌, SFits, w32}
use Rattle.std.proofs.lemmas.Int.{to_z-of_z}
use Rattle.std.proofs.lemmas.Result.{err_from_is_err_and}
use Rattle.mc_capture.specs.FrameLines.{id_byte, line_end}
use Rattle.mc_capture.specs.Gathering.{Gathers, WritesPart}
use Rattle.mc_capture.proofs.FrameSteps.{line_is}
use Rattle.mc_capture.proofs.Gatherings.{gathers_three, part_early, part_second, part_third}
use Rattle.mc_capture.proofs.frame_lines.put_frame.Goals as goal

pub returns-in_err-put_head-clause-part : goal.returns-in_err-put_head-clause-part
returns-in_err-put_head-clause-part g c =
    let p = err_from_is_err_and c.from_residual.result c.from_residual.ensures.1 in
    let fits : SFits w32 c.in-Ok.id = search rules in
    let byte = c.id_byte.ensures ∙ ap id_byte (to_z-of_z w32 c.in-Ok.id fits) in
    let line = line_is c.args.k c.args.way c.args.state c.args.frame.now c.new-cursor.result
    c.take_varint.new.cursor c.take_varint.new.cursor c.in-Ok.id c.id_byte.result
    c.new-cursor.ensures c.in-Ok.ensures (λ i. c.take_varint.new.cursor) byte in
    let P : List ℕ → Type 0 = λ t. WritesPart (g.O.Sink.held c.args.out.now)
    (g.O.Sink.held c.put_head.new.out) (c.args.lines.now.items ++ t) in
    rw p.1 (subst P (sym line) (part_early _ _ c.args.lines.now.items _ _
    c.in_err-put_head.ensures.part))

pub returns-in_err-put_fields-clause-part : goal.returns-in_err-put_fields-clause-part
returns-in_err-put_fields-clause-part g c =
    let p = err_from_is_err_and c.from_residual-in_err-put_fields.result
    c.from_residual-in_err-put_fields.ensures.1 in
    let fits : SFits w32 c.in-Ok.id = search rules in
    let byte = c.id_byte.ensures ∙ ap id_byte (to_z-of_z w32 c.in-Ok.id fits) in
    let line = line_is c.args.k c.args.way c.args.state c.args.frame.now c.new-cursor.result
    c.take_varint.new.cursor c.rest.result.now c.in-Ok.id c.id_byte.result
    c.new-cursor.ensures c.in-Ok.ensures c.rest.ensures byte in
    let P : List ℕ → Type 0 = λ t. WritesPart (g.O.Sink.held c.args.out.now)
    (g.O.Sink.held c.put_fields.new.out) (c.args.lines.now.items ++ t) in
    rw p.1 (subst P (sym line) (part_second _ (g.O.Sink.held c.put_head.new.out) _
    c.args.lines.now.items _ _ line_end _ c.in_ok-put_head.ensures.gathers
    c.in_err-put_fields.ensures.part))

pub returns-in_err-put-clause-part : goal.returns-in_err-put-clause-part
returns-in_err-put-clause-part g c =
    let p = err_from_is_err_and c.from_residual-in_err-put.result
    c.from_residual-in_err-put.ensures.1 in
    let fits : SFits w32 c.in-Ok.id = search rules in
    let byte = c.id_byte.ensures ∙ ap id_byte (to_z-of_z w32 c.in-Ok.id fits) in
    let line = line_is c.args.k c.args.way c.args.state c.args.frame.now c.new-cursor.result
    c.take_varint.new.cursor c.rest.result.now c.in-Ok.id c.id_byte.result
    c.new-cursor.ensures c.in-Ok.ensures c.rest.ensures byte in
    let P : List ℕ → Type 0 = λ t. WritesPart (g.O.Sink.held c.args.out.now)
    (g.O.Sink.held c.put.new.out) (c.args.lines.now.items ++ t) in
    rw p.1 (subst P (sym line) (part_third _ (g.O.Sink.held c.put_head.new.out)
    (g.O.Sink.held c.put_fields.new.out) _ c.args.lines.now.items _ _ line_end _ _
    c.in_ok-put_head.ensures.gathers c.in_ok-put_fields.ensures.gathers
    c.in_err-put.ensures.part))

pub returns-clause-gathers : goal.returns-clause-gathers
returns-clause-gathers g c =
    let fits : SFits w32 c.in-Ok.id = search rules in
    let byte = c.id_byte.ensures ∙ ap id_byte (to_z-of_z w32 c.in-Ok.id fits) in
    let line = line_is c.args.k c.args.way c.args.state c.args.frame.now c.new-cursor.result
    c.take_varint.new.cursor c.rest.result.now c.in-Ok.id c.id_byte.result
    c.new-cursor.ensures c.in-Ok.ensures c.rest.ensures byte in
    let P : List ℕ → Type 0 = λ t. Gathers (g.O.Sink.held c.args.out.now)
    (g.O.Sink.held c.put.new.out) (c.args.lines.now.items ++ t) c.put.new.lines.items in
    subst P (sym line) (gathers_three _ (g.O.Sink.held c.put_head.new.out)
    (g.O.Sink.held c.put_fields.new.out) _ c.args.lines.now.items _ _ line_end _ _ _
    c.in_ok-put_head.ensures.gathers c.in_ok-put_fields.ensures.gathers
    c.in_ok-put.ensures.gathers)
