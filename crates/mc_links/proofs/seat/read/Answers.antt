use Rattle.std.proofs.Common.{◌≡◌, ◌<◌, length, refl, ◌∙◌, arith, rules}
use Rattle.mc_links.proofs.Reading.{done_over, reading_begun, reading_fed}
use Rattle.mc_links.proofs.seat.read.Goals as goal

pub loop-rest-init : goal.loop-rest-init
loop-rest-init c = record {
  is_open = c.requires;
  reading = λ unread holds.
      reading_begun c.args.game.now c.args.connection.now unread c.args.bytes.now holds;
  age = refl;
}

pub loop-rest-preserved : goal.loop-rest-preserved
loop-rest-preserved c = record {
  is_open = c.in_ok-goes.ensures.opened c.if-not-goes.false;
  reading = λ unread holds.
      let r = c.loop-rest.invariant.reading unread holds in
      let fed = reading_fed unread.before _ c.loop-rest.rest.now c.args.game.now c.loop-rest.game
      c.args.connection.now c.loop-rest.connection c.feed.new.self c.in_ok-count.count
      c.in_ok-count.ensures.rest c.in_ok-count.ensures.fed r.0 in
      rw c.split_at.ensures.back (rw c.if-not-goes.false at
      (c.in_ok-goes.ensures.read unread.before _ _ c.args.game.now c.args.connection.now fed));
  age = c.in_ok-goes.ensures.age ∙ c.loop-rest.invariant.age;
}

pub returns-then-count-eq0-clause-done : goal.returns-then-count-eq0-clause-done
returns-then-count-eq0-clause-done c = λ unread holds.
    let r = c.loop-rest.invariant.reading unread holds in
    let some : 0 < length c.loop-rest.rest.now = search rules in
    let more = c.in_ok-count.ensures.some r.1 r.0.underway.fine some in
    absurd (omega (arith, more, c.if-count-eq0.true))

pub returns-then-not-goes-clause-done : goal.returns-then-not-goes-clause-done
returns-then-not-goes-clause-done c = λ unread holds.
    let r = c.loop-rest.invariant.reading unread holds in
    let fed = reading_fed unread.before _ c.loop-rest.rest.now c.args.game.now c.loop-rest.game
    c.args.connection.now c.loop-rest.connection c.feed.new.self c.in_ok-count.count
    c.in_ok-count.ensures.rest c.in_ok-count.ensures.fed r.0 in
    rw c.if-not-goes.true at
    (c.in_ok-goes.ensures.read unread.before _ _ c.args.game.now c.args.connection.now fed)

pub returns-clause-done : goal.returns-clause-done
returns-clause-done c = λ unread holds.
    let none : length c.loop-rest.rest.now ≡ 0 = search rules in
    done_over unread.before _ c.loop-rest.rest.now c.args.game.now c.loop-rest.game
    c.args.connection.now c.loop-rest.connection none
    (c.loop-rest.invariant.reading unread holds)
