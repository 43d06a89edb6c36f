-- The seat of the one connection in a world, and what events make of both.
use Rattle.std.proofs.Common.{◌≡◌, ℕ, ◌+◌, Bool, true, false, cond, List, [], ◌∷◌, ◌++◌, length}
use Rattle.std.proofs.Common.{drop, refl, sym, subst, ap, ◌∙◌, arith}
use Rattle.std.specs.Prelude.{Option, Some, None, is_some, unwrap_or, ◌&&◌, nat_lt, not}
use Rattle.std.specs.Ordering.{nat_cmp}
use Rattle.std.specs.FinMap.{empty, entries, get-empty, len-empty, len-entries}
use Rattle.std.proofs.lemmas.List.{nil_from_length}
use Rattle.std.proofs.Math.Seq.{drop-length}
use Rattle.std.proofs.lemmas.Bool.{lt-leb}
use Rattle.mc_frame.proofs.Stops.{nothing_part}
use Rattle.mc_model.specs.Game.{new_game}
use Rattle.mc_model.specs.Link.{Link, new_link}
use Rattle.mc_model.specs.Run.{owed_in, owed_of, to}
use Rattle.mc_model.specs.Stages.{is_closed}
use Rattle.mc_model.specs.Step.{came, on_bytes, step, took}
use Rattle.mc_model.specs.World.{Seat, Unread, World, nothing_unread, seat_of, unread_of}
use Rattle.mc_model.proofs.Maps.Lookups.{put_same}
use Rattle.mc_laws.specs.Pieces.{SameSeat, emptied}
use Rattle.mc_laws.proofs.Apart.Outs.{to_own}
use Rattle.mc_laws.proofs.Cutting.Reads.{bytes_same}
use Rattle.mc_events.specs.Asking.{is_inside_in}
use Rattle.mc_words.specs.declared.bad_input.InputFault.{InputFault}
use Rattle.mc_status.specs.StatusText.{Exchange, ends_inside, first_exchange, goes_on, receives}
use Rattle.mc_status.specs.StatusText.{lone_settings, sent_lines, session_fault, shown_fault}
use Rattle.mc_status.specs.StatusText as told
use Rattle.mc_status.specs.Playing.{Asks, Sits}

-- ---- seats

abbrev unread_by : Option Unread → Unread
unread_by o = unwrap_or o nothing_unread

-- another that is the same
pub sits_same : (w : World) (s v : Seat) → Sits w s → SameSeat s v → Sits w v
sits_same w s v h same = record {
  game = h.game ∙ same.game;
  link = h.link ∙ ap Some same.link;
  unread = λ open_.
      let still = subst (λ (l : Link). is_closed l.stage ≡ false) (sym same.link) open_ in
      h.unread still ∙ same.unread still;
}

-- whether its bytes end inside a frame
abbrev pub inside_at : Seat → Bool
inside_at s = not (is_closed s.link.stage) && nat_lt 0 (length s.unread.rest)

pub ends_at : (w : World) (s : Seat) → Sits w s → ends_inside w ≡ inside_at s
ends_at w s h = rw h.link (step_at (is_closed s.link.stage) refl)
  where
    step_at : (b : Bool) → is_closed s.link.stage ≡ b →
        (not b && nat_lt 0 (length (unread_of 0 w).rest))
        ≡ (not b && nat_lt 0 (length s.unread.rest))
    step_at true t = refl
    step_at false t = ap (λ (u : Unread). nat_lt 0 (length u.rest)) (h.unread t)

pub inside_at_once : (w : World) (s : Seat) → Sits w s → is_inside_in 0 w ≡ ends_inside w
inside_at_once w s h = rw h.link refl

-- ---- events

-- bytes come
pub came_sits : (w : World) (s : Seat) (bytes : List ℕ) → Sits w s →
    Sits (step w (came 0 bytes)).world (on_bytes 0 s bytes).seat
    × (to 0 (step w (came 0 bytes)).out ≡ (on_bytes 0 s bytes).handed)
unfolding step
came_sits w s bytes h =
    let v : Seat = seat_of w 0 s.link in
    let t = on_bytes 0 v bytes in
    let same = bytes_same 0 v s bytes
    (record { game = h.game; link = refl; unread = h.unread }) in
    rw h.link (
      record {
        game = same.seat.game;
        link = put_same w.links 0 t.seat.link ∙ ap Some same.seat.link;
        unread = λ open_. ap unread_by (put_same w.unread 0 t.seat.unread)
            ∙ same.seat.unread (subst (λ (l : Link). is_closed l.stage ≡ false)
            (sym same.seat.link) open_);
      },
      to_own 0 t.handed ∙ same.handed,
    )

-- it takes bytes of what it is owed
pub took_sits : (w : World) (s : Seat) (n : ℕ) → Sits w s →
    Sits (step w (took 0 n)).world
    (record s { link = record s.link { owed = drop n s.link.owed } })
unfolding step
took_sits w s n h = rw h.link (record {
  game = h.game;
  link = put_same w.links 0 (record s.link { owed = drop n s.link.owed });
  unread = λ open_. ap unread_by (put_same w.unread 0 (unread_of 0 w)) ∙ h.unread open_;
})

-- it takes all
pub emptied_sits : (w : World) (s : Seat) → Sits w s → Sits (told.emptied w) (emptied s)
emptied_sits w s h =
    let n : ℕ = length (owed_in 0 w) in
    let none : drop n s.link.owed ≡ [] =
    ap (λ (o : Option Link). drop (length (owed_of o)) s.link.owed) h.link
    ∙ drop-length s.link.owed in
    subst (λ (bytes : List ℕ). Sits (step w (took 0 n)).world
    (record s { link = record s.link { owed = bytes } })) none (took_sits w s n h)

-- ---- the exchange

-- it has this seat in an exchange, and nothing else is wrong with it than what shows there
pub record Gets (x : Exchange) (s : Seat) : Type 0 where
  pub sits : Sits x.world s
  pub fault : x.fault ≡ session_fault s.link.stage s.link.cause

-- a byte comes, where nothing is wrong
pub receives_gets : (x : Exchange) (s : Seat) (b : ℕ) → Gets x s → x.fault ≡ None →
    Gets (receives x b) (emptied (on_bytes 0 s (b ∷ [])).seat)
    × ((receives x b).text ≡ x.text ++ sent_lines (on_bytes 0 s (b ∷ [])).handed)
receives_gets x s b h fine =
    let o = step x.world (came 0 (b ∷ [])) in
    let t = on_bytes 0 s (b ∷ []) in
    let c = came_sits x.world s (b ∷ []) h.sits in
    let is : receives x b ≡ goes_on x o =
    ap (λ (f : Option InputFault). cond (is_some f) x (goes_on x o)) fine in
    subst (λ (y : Exchange). Gets y (emptied t.seat)
    × (y.text ≡ x.text ++ sent_lines t.handed)) (sym is) (
      record {
        sits = emptied_sits o.world t.seat c.0;
        fault = ap shown_fault c.0.link;
      },
      ap (λ ps. x.text ++ sent_lines ps) c.1,
    )

-- ---- the first one

abbrev pub first_seat : ℕ → Seat
first_seat most = record {
  game = new_game (lone_settings most) 0;
  link = new_link;
  unread = nothing_unread;
}

pub first_sits : (most : ℕ) → Sits (first_exchange most).world (first_seat most)
unfolding step
first_sits most =
    let none : entries (empty {X = Link} {R = nat_cmp}) ≡ [] =
    nil_from_length _ (sym (len-entries empty) ∙ len-empty nat_cmp Link) in
    rw (none, lt-leb (most + 16) 0 (omega arith)) (record {
      game = refl;
      link = put_same empty 0 new_link;
      unread = λ open_. ap unread_by (get-empty nat_cmp 0);
    })

pub first_asks : (most : ℕ) → Asks most (first_seat most)
first_asks most = record {
  game = refl;
  stage = refl;
  owed = refl;
  waits = record { are = λ i. omega arith; part = λ open_. nothing_part };
}
