use Rattle.std.proofs.Common.{rules, ◌≡◌, ◌<◌, ◌≤◌, ◌++◌, [], length, refl, inl, sym, subst}
use Rattle.std.proofs.Common.{arith}
use Rattle.std.proofs.lemmas.List.{append-nil, nil_from_length}
use Rattle.std.specs.List.{fold}
use Rattle.std.proofs.lemmas.List.Sums.{fold-append}
use Rattle.std.proofs.lemmas.Result.{err_from_is_err_and}
use Rattle.mc_bytes.specs.Numbers.{IsBytes-after, IsBytes-take}
use Rattle.mc_bytes.specs.Reading.{IsBytes}
use Rattle.mc_wire.proofs.Counts.{StandsOrRises-trans}
use Rattle.mc_text.specs.Passes.{SendsPart}
use Rattle.mc_status.specs.StatusText.{Exchange, receives}
use Rattle.mc_status.specs.Playing.{Meets}
use Rattle.mc_status.proofs.Received.{next_meets, next_stops, none_meets}
use Rattle.mc_status.proofs.Texts.{fold_parts, part_all, parts_next}
use Rattle.mc_status.proofs.playing.Client.receive.Goals as goal

pub loop-rest-init : goal.loop-rest-init
loop-rest-init g c = record {
  done = [];
  parts = refl;
  received = λ start x m. m;
  counts = inl refl;
}

pub loop-rest-smaller : goal.loop-rest-smaller
loop-rest-smaller g c = omega (arith, c.if-count-eq0.false, c.split_at.ensures.back_len)

pub returns-then-count-eq0-clause-received : goal.returns-then-count-eq0-clause-received
returns-then-count-eq0-clause-received g c start x m =
    let i = c.loop-rest.invariant in
    let some : 0 < length c.loop-rest.rest.now = search rules in
    let none : c.room.result ≡ 0 = search rules in
    let P : Exchange → Type 0 = λ y. Meets c.args.most start (g.O.Sink.held c.loop-rest.out)
    c.loop-rest.self.server c.loop-rest.self.lines.items y in
    subst P (sym (fold_parts x i.done c.loop-rest.rest.now c.args.line.now i.parts))
    (none_meets c.args.most c.requires.few start _ c.loop-rest.self.server
    c.loop-rest.self.lines.items (fold receives x i.done) (i.received start x m) c.room.result
    c.room.ensures c.loop-rest.rest.now none
    (IsBytes-after c.args.line.now i.done c.loop-rest.rest.now i.parts
    (λ n. (c.type_inv.line n).fits)))

pub loop-rest-preserved : goal.loop-rest-preserved
loop-rest-preserved g c =
    let i = c.loop-rest.invariant in
    let n = c.min-count.result in
    let piece = c.split_at.result.0.now in
    let rest = c.loop-rest.rest.now in
    let parts = parts_next i.done rest c.args.line.now piece c.split_at.result.1.now n i.parts
    c.split_at.ensures.front c.split_at.ensures.back in
    let bytes : IsBytes piece = subst IsBytes (sym c.split_at.ensures.front)
    (IsBytes-take n c.loop-rest.rest.now (IsBytes-after c.args.line.now i.done
    c.loop-rest.rest.now i.parts (λ k. (c.type_inv.line k).fits))) in
    let len : length piece ≡ n = c.split_at.ensures.front_len in
    let few : n ≤ c.room.result = search rules in
    record {
      done = i.done ++ piece;
      parts = parts;
      received = λ start x m. subst (λ (y : Exchange). Meets c.args.most start
          (g.O.Sink.held c.play.new.out) c.play.new.self.server c.play.new.self.lines.items y)
          (sym (fold-append receives x i.done piece))
          (next_meets c.args.most c.requires.few start _ c.loop-rest.self.server
          c.loop-rest.self.lines.items (fold receives x i.done) (i.received start x m)
          c.room.result c.room.ensures piece (omega (arith, len, c.if-count-eq0.false))
          (omega (arith, len, few)) bytes _ c.play.new.self.server c.play.new.self.lines.items
          c.in_ok-play.ensures.played);
      counts = StandsOrRises-trans _ _ _ i.counts c.play.ensures.counts;
    }

pub returns-in_err-play-clause-stopped : goal.returns-in_err-play-clause-stopped
returns-in_err-play-clause-stopped g c =
    let i = c.loop-rest.invariant in
    let n = c.min-count.result in
    let piece = c.split_at.result.0.now in
    let parts = parts_next i.done c.loop-rest.rest.now c.args.line.now piece
    c.split_at.result.1.now n i.parts c.split_at.ensures.front c.split_at.ensures.back in
    let bytes : IsBytes piece = subst IsBytes (sym c.split_at.ensures.front)
    (IsBytes-take n c.loop-rest.rest.now (IsBytes-after c.args.line.now i.done
    c.loop-rest.rest.now i.parts (λ k. (c.type_inv.line k).fits))) in
    let len : length piece ≡ n = c.split_at.ensures.front_len in
    let few : n ≤ c.room.result = search rules in
    let p = err_from_is_err_and c.from_residual.result c.from_residual.ensures.1 in
    rw p.1 (λ start x m. part_all start _ x (i.done ++ piece) c.split_at.result.1.now
    c.args.line.now parts (subst (λ (y : Exchange). SendsPart start
    (g.O.Sink.held c.play.new.out) y.text) (sym (fold-append receives x i.done piece))
    (next_stops c.args.most c.requires.few start _ c.loop-rest.self.server
    c.loop-rest.self.lines.items (fold receives x i.done) (i.received start x m) c.room.result
    c.room.ensures piece (omega (arith, len, c.if-count-eq0.false)) (omega (arith, len, few)) bytes
    _ c.in_err-play.ensures.breaks)))

pub returns-clause-received : goal.returns-clause-received
returns-clause-received g c start x m =
    let i = c.loop-rest.invariant in
    let none : length c.loop-rest.rest.now ≡ 0 = search rules in
    rw (i.parts, nil_from_length c.loop-rest.rest.now none, append-nil i.done)
    (i.received start x m)
