use Rattle.std.proofs.Common.{◌≡◌, ◌≤◌, ℕ, ◌+◌, ◌*◌, ◌++◌, length, List, ap, sym, subst, ◌∙◌}
use Rattle.mc_column.specs.Sizes.{cells}
use Rattle.mc_frame.specs.Kept.{joined}
use Rattle.mc_land.specs.Places.{Place}
use Rattle.mc_sending.specs.Sending.{play_bytes}
use Rattle.mc_loads.specs.ColumnFrames.{unencoded}
use Rattle.mc_loads.specs.Columns.{IsReady, load_packets}
use Rattle.mc_loads.proofs.Places.{piece_pushed}
use Rattle.mc_loads.proofs.ColumnFrames.{next_load, next_within}
use Rattle.mc_sending.proofs.Pieces.{next_piece, next_holds}
use Rattle.mc_loads.proofs.columns_view.ColumnsView.push_loads.Goals as goal

pub loop-place-preserved : goal.loop-place-preserved
loop-place-preserved g c =
    let i = c.loop-place.invariant in
    let next = c.in-Some.ensures.steps in
    let land = c.args.self.now.land.now in
    let put : joined c.push.new.self.items ≡ joined c.loop-place.out.items ++ c.in_ok-piece.piece =
    piece_pushed c.loop-place.out.items c.push.new.self.items c.in_ok-piece.piece
    c.in_ok-push.ensures.items in
    record {
      ready = (next_holds (IsReady land) c.loop-place.place-iterator c.next.new.self c.in-Some.place
          next i.ready).1;
      sent = next_piece (joined c.loop-place.out.items) (joined c.push.new.self.items)
          (joined c.args.out.now.items ++ play_bytes (load_packets land
          c.into_iter-place-iterator.result)) c.in_ok-piece.piece
          (play_bytes (load_packets land c.next.new.self)) (play_bytes (load_packets land
          c.loop-place.place-iterator))
          (ap (λ (places : List Place). play_bytes (load_packets land places)) next
          ∙ ap (λ (t : List ℕ). t ++ play_bytes (load_packets land c.next.new.self)) (sym
          c.in_ok-piece.ensures.is)) i.sent put;
      cost = next_load c.loop-place.steps c.load.new.steps
          (c.args.steps.now + cells * length (unencoded c.args.self.now.encoded.now
          c.into_iter-place-iterator.result)) c.args.self.now.encoded.now
          c.loop-place.place-iterator
          c.next.new.self c.in-Some.place next i.cost c.in_ok-piece.ensures.cost;
    }

pub returns-in_err-piece-clause-bounded : goal.returns-in_err-piece-clause-bounded
returns-in_err-piece-clause-bounded g c =
    let encoded = c.args.self.now.encoded.now in
    let all : c.into_iter-place-iterator.result ≡ c.args.columns =
    c.into_iter-place-iterator.ensures.into_iter_gives in
    subst (λ (places : List Place). c.load.new.steps ≤ c.args.steps.now + cells * length (unencoded
    encoded places)) all
    (next_within c.loop-place.steps c.load.new.steps
    (c.args.steps.now + cells * length (unencoded encoded c.into_iter-place-iterator.result))
    encoded
    c.loop-place.place-iterator c.next.new.self c.in-Some.place c.in-Some.ensures.steps
    c.loop-place.invariant.cost c.load.ensures.bounded)

pub returns-in_err-push-clause-bounded : goal.returns-in_err-push-clause-bounded
returns-in_err-push-clause-bounded g c =
    let encoded = c.args.self.now.encoded.now in
    let all : c.into_iter-place-iterator.result ≡ c.args.columns =
    c.into_iter-place-iterator.ensures.into_iter_gives in
    subst (λ (places : List Place). c.load.new.steps ≤ c.args.steps.now + cells * length (unencoded
    encoded places)) all
    (next_within c.loop-place.steps c.load.new.steps
    (c.args.steps.now + cells * length (unencoded encoded c.into_iter-place-iterator.result))
    encoded
    c.loop-place.place-iterator c.next.new.self c.in-Some.place c.in-Some.ensures.steps
    c.loop-place.invariant.cost c.load.ensures.bounded)
