use Rattle.std.proofs.lemmas.Result.{err_from_is_err_and}
use Rattle.mc_text.proofs.Passing.{breaks_next, passes_next}
use Rattle.mc_replica.specs.Dump.{text_of, times_lines}
use Rattle.mc_replica.proofs.Dumping.{breaks_last, dump_begins, passes_last}
use Rattle.mc_replica.proofs.replica.Replica.put_lines.Goals as goal

pub returns-in_err-put_text-clause-breaks : goal.returns-in_err-put_text-clause-breaks
returns-in_err-put_text-clause-breaks g c =
    let times = text_of (times_lines c.age-age.result c.beat-beat.result) in
    let begun = dump_begins c.args.self.now c.listed-players.result.now c.age-age.ensures
    c.beat-beat.ensures c.listed-players.ensures c.column_rows-columns.ensures
    c.entities-entities.ensures c.window-window.ensures c.chat-chat.ensures
    (g.S.Sink.held c.args.sink.now) c.args.lines.now.items in
    let p = err_from_is_err_and c.from_residual.result
    c.from_residual.ensures.1 in
    rw p.1 (breaks_next _ _ _ _ _ _ times _ begun
    (c.in_err-put_text.ensures.breaks _ c.times_text.ensures))

pub returns-in_err-put_all-clause-breaks : goal.returns-in_err-put_all-clause-breaks
returns-in_err-put_all-clause-breaks g c =
    let times = text_of (times_lines c.age-age.result c.beat-beat.result) in
    let begun = dump_begins c.args.self.now c.listed-players.result.now c.age-age.ensures
    c.beat-beat.ensures c.listed-players.ensures c.column_rows-columns.ensures
    c.entities-entities.ensures c.window-window.ensures c.chat-chat.ensures
    (g.S.Sink.held c.args.sink.now) c.args.lines.now.items in
    let after_1 = passes_next _ _ _ _ _ _ times _ _ begun
    (c.in_ok-put_text.ensures.passes _ c.times_text.ensures) in
    let p = err_from_is_err_and c.from_residual-in_err-put_all.result
    c.from_residual-in_err-put_all.ensures.1 in
    rw p.1 (breaks_next _ _ _ _ _ _ _ _ after_1
    (c.in_err-put_all.ensures.breaks))

pub returns-in_err-put_all-2-clause-breaks : goal.returns-in_err-put_all-2-clause-breaks
returns-in_err-put_all-2-clause-breaks g c =
    let times = text_of (times_lines c.age-age.result c.beat-beat.result) in
    let begun = dump_begins c.args.self.now c.listed-players.result.now c.age-age.ensures
    c.beat-beat.ensures c.listed-players.ensures c.column_rows-columns.ensures
    c.entities-entities.ensures c.window-window.ensures c.chat-chat.ensures
    (g.S.Sink.held c.args.sink.now) c.args.lines.now.items in
    let after_1 = passes_next _ _ _ _ _ _ times _ _ begun
    (c.in_ok-put_text.ensures.passes _ c.times_text.ensures) in
    let after_2 = passes_next _ _ _ _ _ _ _ _ _ after_1
    (c.in_ok-put_all.ensures.passes) in
    let p = err_from_is_err_and c.from_residual-in_err-put_all-2.result
    c.from_residual-in_err-put_all-2.ensures.1 in
    rw p.1 (breaks_next _ _ _ _ _ _ _ _ after_2
    (c.in_err-put_all-2.ensures.breaks))

pub returns-in_err-put_all-3-clause-breaks : goal.returns-in_err-put_all-3-clause-breaks
returns-in_err-put_all-3-clause-breaks g c =
    let times = text_of (times_lines c.age-age.result c.beat-beat.result) in
    let begun = dump_begins c.args.self.now c.listed-players.result.now c.age-age.ensures
    c.beat-beat.ensures c.listed-players.ensures c.column_rows-columns.ensures
    c.entities-entities.ensures c.window-window.ensures c.chat-chat.ensures
    (g.S.Sink.held c.args.sink.now) c.args.lines.now.items in
    let after_1 = passes_next _ _ _ _ _ _ times _ _ begun
    (c.in_ok-put_text.ensures.passes _ c.times_text.ensures) in
    let after_2 = passes_next _ _ _ _ _ _ _ _ _ after_1
    (c.in_ok-put_all.ensures.passes) in
    let after_3 = passes_next _ _ _ _ _ _ _ _ _ after_2
    (c.in_ok-put_all-2.ensures.passes) in
    let p = err_from_is_err_and c.from_residual-in_err-put_all-3.result
    c.from_residual-in_err-put_all-3.ensures.1 in
    rw p.1 (breaks_next _ _ _ _ _ _ _ _ after_3
    (c.in_err-put_all-3.ensures.breaks))

pub returns-in_err-put_text-2-clause-breaks : goal.returns-in_err-put_text-2-clause-breaks
returns-in_err-put_text-2-clause-breaks g c =
    let times = text_of (times_lines c.age-age.result c.beat-beat.result) in
    let begun = dump_begins c.args.self.now c.listed-players.result.now c.age-age.ensures
    c.beat-beat.ensures c.listed-players.ensures c.column_rows-columns.ensures
    c.entities-entities.ensures c.window-window.ensures c.chat-chat.ensures
    (g.S.Sink.held c.args.sink.now) c.args.lines.now.items in
    let after_1 = passes_next _ _ _ _ _ _ times _ _ begun
    (c.in_ok-put_text.ensures.passes _ c.times_text.ensures) in
    let after_2 = passes_next _ _ _ _ _ _ _ _ _ after_1
    (c.in_ok-put_all.ensures.passes) in
    let after_3 = passes_next _ _ _ _ _ _ _ _ _ after_2
    (c.in_ok-put_all-2.ensures.passes) in
    let after_4 = passes_next _ _ _ _ _ _ _ _ _ after_3
    (c.in_ok-put_all-3.ensures.passes) in
    let p = err_from_is_err_and c.from_residual-in_err-put_text-2.result
    c.from_residual-in_err-put_text-2.ensures.1 in
    rw p.1 (breaks_next _ _ _ _ _ _ _ _ after_4
    (c.in_err-put_text-2.ensures.breaks _ c.to_text.ensures))

pub returns-in_err-put_all-4-clause-breaks : goal.returns-in_err-put_all-4-clause-breaks
returns-in_err-put_all-4-clause-breaks g c =
    let times = text_of (times_lines c.age-age.result c.beat-beat.result) in
    let begun = dump_begins c.args.self.now c.listed-players.result.now c.age-age.ensures
    c.beat-beat.ensures c.listed-players.ensures c.column_rows-columns.ensures
    c.entities-entities.ensures c.window-window.ensures c.chat-chat.ensures
    (g.S.Sink.held c.args.sink.now) c.args.lines.now.items in
    let after_1 = passes_next _ _ _ _ _ _ times _ _ begun
    (c.in_ok-put_text.ensures.passes _ c.times_text.ensures) in
    let after_2 = passes_next _ _ _ _ _ _ _ _ _ after_1
    (c.in_ok-put_all.ensures.passes) in
    let after_3 = passes_next _ _ _ _ _ _ _ _ _ after_2
    (c.in_ok-put_all-2.ensures.passes) in
    let after_4 = passes_next _ _ _ _ _ _ _ _ _ after_3
    (c.in_ok-put_all-3.ensures.passes) in
    let after_5 = passes_next _ _ _ _ _ _ _ _ _ after_4
    (c.in_ok-put_text-2.ensures.passes _ c.to_text.ensures) in
    let p = err_from_is_err_and c.from_residual-in_err-put_all-4.result
    c.from_residual-in_err-put_all-4.ensures.1 in
    rw p.1 (breaks_last _ _ _ _ _ _ _ after_5
    (c.in_err-put_all-4.ensures.breaks))

pub returns-clause-passes : goal.returns-clause-passes
returns-clause-passes g c =
    let times = text_of (times_lines c.age-age.result c.beat-beat.result) in
    let begun = dump_begins c.args.self.now c.listed-players.result.now c.age-age.ensures
    c.beat-beat.ensures c.listed-players.ensures c.column_rows-columns.ensures
    c.entities-entities.ensures c.window-window.ensures c.chat-chat.ensures
    (g.S.Sink.held c.args.sink.now) c.args.lines.now.items in
    let after_1 = passes_next _ _ _ _ _ _ times _ _ begun
    (c.in_ok-put_text.ensures.passes _ c.times_text.ensures) in
    let after_2 = passes_next _ _ _ _ _ _ _ _ _ after_1
    (c.in_ok-put_all.ensures.passes) in
    let after_3 = passes_next _ _ _ _ _ _ _ _ _ after_2
    (c.in_ok-put_all-2.ensures.passes) in
    let after_4 = passes_next _ _ _ _ _ _ _ _ _ after_3
    (c.in_ok-put_all-3.ensures.passes) in
    let after_5 = passes_next _ _ _ _ _ _ _ _ _ after_4
    (c.in_ok-put_text-2.ensures.passes _ c.to_text.ensures) in
    passes_last _ _ _ _ _ _ _ _ after_5
    c.in_ok-put_all-4.ensures.passes
