use Rattle.std.proofs.Common.{ℕ, List, length, refl, sym, subst, ap, ◌∙◌, arith}
use Rattle.mc_model.specs.Step.{on_frame}
use Rattle.mc_model.specs.World.{Unread, nothing_unread}
use Rattle.mc_links.specs.Kept.{ConnectionValue}
use Rattle.mc_links.specs.Seats.{Becomes, seat_with}
use Rattle.mc_links.proofs.Ages.{closed_age, framed_age}
use Rattle.mc_links.proofs.Cuts.{frame_shortens}
use Rattle.mc_links.proofs.Reading.{done_bad, done_closed, reading_frame}
use Rattle.mc_links.proofs.seat.frames.Goals as goal

pub taking-init : goal.taking-init
taking-init c = record {
  is_open = c.requires;
  reading = λ count all left_ v d r. r;
  age = refl;
}

pub taking-preserved-then-branch : goal.taking-preserved-then-branch
taking-preserved-then-branch c = record {
  is_open = c.in_ok-reply_kept.ensures.opened c.taking.invariant.is_open;
  reading = λ count all left_ v d r.
      c.in_ok-reply_kept.ensures.read count all left_ v d
      (c.taking.invariant.reading count all left_ v d r);
  age = c.taking.invariant.age;
}

pub taking-preserved : goal.taking-preserved
taking-preserved c =
    let m = c.take.new.self in
    let takes = rw c.in-Frame.is at c.in_ok-payload.ensures.takes in
    let does = (let P : List ℕ → Type 0 = λ f. (u : Unread) →
    Becomes c.taking.game c.on_frame.new.game m c.on_frame.new.connection
    (on_frame m.id (seat_with c.taking.game m u) f).seat in
    subst P c.as_slice.ensures c.in_ok-on_frame-in-Frame.ensures) in
    record {
      is_open = sym c.is_closed.ensures ∙ c.if-is_closed.false;
      reading = λ count all left_ v d r.
          reading_frame (c.in_ok-reply_kept.ensures.read count all left_ v d
          (c.taking.invariant.reading count all left_ v d r)) m
          c.in_ok-payload.ensures.rest c.on_frame.new.game c.on_frame.new.connection
          c.in-Frame.payload takes does;
      age = framed_age c.taking.game c.on_frame.new.game m c.on_frame.new.connection
          c.in-Frame.payload (does nothing_unread) ∙ c.taking.invariant.age;
    }

pub taking-smaller-then-branch : goal.taking-smaller-then-branch
taking-smaller-then-branch c = c.in_ok-reply_kept.ensures.fewer c.if-branch.true

pub taking-smaller : goal.taking-smaller
taking-smaller c =
    let takes = rw c.in-Frame.is at c.in_ok-payload.ensures.takes in
    let less = frame_shortens c.reply_kept.new.connection.splitter c.in-Frame.payload
    c.take.new.self.splitter takes in
    let same = ap (λ (d : ConnectionValue). length d.splitter.held)
    (c.in_ok-on_frame-in-Frame.ensures nothing_unread).link in
    let kept = ap (λ (d : ConnectionValue). length d.splitter.held)
    (c.in_ok-reply_kept.ensures.same c.if-branch.false) in
    omega (arith, less, same, kept)

pub returns-then-is_closed-clause-read : goal.returns-then-is_closed-clause-read
returns-then-is_closed-clause-read c = λ count all left_ v d r.
    let m = c.take.new.self in
    let takes = rw c.in-Frame.is at c.in_ok-payload.ensures.takes in
    let does = (let P : List ℕ → Type 0 = λ f. (u : Unread) →
    Becomes c.taking.game c.on_frame.new.game m c.on_frame.new.connection
    (on_frame m.id (seat_with c.taking.game m u) f).seat in
    subst P c.as_slice.ensures c.in_ok-on_frame-in-Frame.ensures) in
    done_closed count all left_ v c.on_frame.new.game d c.on_frame.new.connection
    (reading_frame (c.in_ok-reply_kept.ensures.read count all left_ v d
    (c.taking.invariant.reading count all left_ v d r)) m
    c.in_ok-payload.ensures.rest c.on_frame.new.game c.on_frame.new.connection
    c.in-Frame.payload takes does)
    (sym c.is_closed.ensures ∙ c.if-is_closed.true)

pub returns-then-is_closed-clause-age : goal.returns-then-is_closed-clause-age
returns-then-is_closed-clause-age c =
    let m = c.take.new.self in
    let does = (let P : List ℕ → Type 0 = λ f. (u : Unread) →
    Becomes c.taking.game c.on_frame.new.game m c.on_frame.new.connection
    (on_frame m.id (seat_with c.taking.game m u) f).seat in
    subst P c.as_slice.ensures c.in_ok-on_frame-in-Frame.ensures) in
    framed_age c.taking.game c.on_frame.new.game m c.on_frame.new.connection c.in-Frame.payload
    (does nothing_unread) ∙ c.taking.invariant.age

pub returns-in-Bad-clause-age : goal.returns-in-Bad-clause-age
returns-in-Bad-clause-age c =
    closed_age c.taking.game c.close.new.game c.take.new.self c.close.new.connection _
    (c.in_ok-close-in-Bad.ensures nothing_unread) ∙ c.taking.invariant.age

pub returns-in-Bad-clause-read : goal.returns-in-Bad-clause-read
returns-in-Bad-clause-read c = λ count all left_ v d r.
    done_bad count all left_ v c.taking.game c.close.new.game d c.reply_kept.new.connection
    c.take.new.self c.close.new.connection c.in-Bad.fault c.in_ok-payload.ensures.rest
    (rw c.in-Bad.is at c.in_ok-payload.ensures.takes)
    (c.in_ok-reply_kept.ensures.opened c.taking.invariant.is_open) c.in_ok-close-in-Bad.ensures
    (c.in_ok-reply_kept.ensures.read count all left_ v d
    (c.taking.invariant.reading count all left_ v d r))
