-- What a client in play is handed between two ticks.
use Rattle.std.proofs.Common.{◌≡◌, ◌≢◌, ℕ, true, false, List, [], ◌++◌, Option, Some, None, refl}
use Rattle.std.proofs.Common.{sym, subst, ap, ◌∙◌}
use Rattle.std.specs.Prelude.{nat_le, option_map, length}
use Rattle.std.specs.FinMap.{get}
use Rattle.std.proofs.lemmas.Bool.{and_parts}
use Rattle.std.proofs.lemmas.List.{append-nil}
use Rattle.mc_hello.specs.declared.login_down.LoginDown.TheVariants as login_down
use Rattle.mc_packets.specs.declared.down.Down.TheVariants as down
use Rattle.mc_model.specs.declared.cause.Cause.{Cause}
use Rattle.mc_model.specs.declared.cause.Cause.TheVariants as causes
use Rattle.mc_model.specs.declared.stage.Stage.{Stage}
use Rattle.mc_model.specs.declared.stage.Stage.TheVariants as stages
use Rattle.mc_model.specs.declared.player.Player.{Player}
use Rattle.mc_model.specs.Packets.{Sent, of_login, of_play}
use Rattle.mc_model.specs.Run.{to}
use Rattle.mc_model.specs.Step.{Event, ticked, on_bytes, step, turn}
use Rattle.mc_model.specs.Talk.{as_chat, farewell}
use Rattle.mc_model.specs.Texts.{farewell_text}
use Rattle.mc_model.specs.Stages.{is_closed, is_play}
use Rattle.mc_model.specs.Game.{Game}
use Rattle.mc_model.specs.Link.{Handing, Link, gone, mark_closed}
use Rattle.mc_model.specs.World.{Seat, Turn, World, seat_of}
use Rattle.mc_model.specs.Good.{GoodWorld, in_play}
use Rattle.mc_model.specs.Headline.{Between, ends, plays_on}
use Rattle.mc_model.proofs.Maps.Options.{none_some, some_is}
use Rattle.mc_laws.proofs.Deeds.Onwards.{name_of}
use Rattle.mc_laws.proofs.Acts.ActOn.{act_on}
use Rattle.mc_laws.proofs.Walk.Handings.{hand_cases}
use Rattle.mc_laws.proofs.Walk.Moves.{AreLast, Kept, answers, bids_farewell, bytes_walk, closes}
use Rattle.mc_laws.proofs.Walk.Moves.{comes_in, does, keeps, pongs, refuses, shakes, walked_keeps}
use Rattle.mc_laws.proofs.Runs.OneSteps.{OneStep, comes, departs, goes, one_step, reads, rests}
use Rattle.mc_laws.proofs.Runs.OneSteps.{takes, ticks}
use Rattle.mc_laws.proofs.Runs.Owing.{heard_link}
use Rattle.mc_laws.proofs.Runs.Seats.{nobody_yet}
use Rattle.mc_laws.proofs.Runs.Worlds.{step_good}
use Rattle.mc_laws.proofs.Decoding.Streams.{has_stage}
use Rattle.mc_laws.proofs.Shown.Showing.{plays_there}

-- no stage is two
two_stages : (stage at to : Stage) → stage ≡ at → stage ≡ to → at ≡ to
two_stages stage at to is into = sym is ∙ into

-- ---- what bytes of one in play come to

-- It plays on under a name, and nothing more was handed to it; or it is closed, and was handed the
-- farewell of its cause.
pub data PlaysOn (k : ℕ) (name : List ℕ) (before : List Sent) (s : Seat) (ps : List Sent) : Type 0
  where
    plays : s.link.stage ≡ stages.Play →
        option_map name_of (get s.game.players k) ≡ Some name → ps ≡ before →
        PlaysOn k name before s ps
    ended : (cause : Cause) → s.link.stage ≡ stages.Closed → s.link.cause ≡ Some cause →
        ps ≡ before ++ farewell stages.Play cause → PlaysOn k name before s ps

-- the last packets of one that plays are its farewell
last_bids : (cause : Cause) (ps : List Sent) (stage : Stage) → stage ≡ stages.Play →
    AreLast stage cause ps → ps ≡ farewell stages.Play cause
last_bids cause ps stage at (bids_farewell is) =
    is ∙ ap (λ (x : Stage). farewell x cause) at
last_bids cause ps stage at (pongs packet status done is) =
    (let clash = two_stages stage stages.Status stages.Play status at in absurd cc)
last_bids cause ps stage at (refuses why login refused is) =
    (let clash = two_stages stage stages.Login stages.Play login at in absurd cc)

nothing_said : (before : List Sent) → before ≡ before ++ farewell stages.Play causes.Backlog
unfolding farewell
nothing_said before = sym (append-nil before)

module _ (k : ℕ) (name : List ℕ) (before : List Sent) where
  abbrev pub On : Seat → List Sent → Type 0
  On s ps = PlaysOn k name before s ps

  pub on_kept : Kept k On
  on_kept s t ps (keeps unread is) (plays at there same) =
      subst (λ (x : Turn). On x.seat (ps ++ x.handed)) (sym is)
      (plays at there (append-nil ps ∙ same))
  on_kept s t ps (keeps unread is) (ended cause at of_it same) =
      subst (λ (x : Turn). On x.seat (ps ++ x.handed)) (sym is)
      (ended cause at of_it (append-nil ps ∙ same))
  on_kept s t ps (does packet g at_play did is) (plays at there same) =
      let heard_ = heard_link packet s.link in
      subst (λ (x : Turn). On x.seat (ps ++ x.handed)) (sym is)
      (plays (heard_.2 ∙ at) ((act_on k packet s.game g did).names k ∙ there)
      (append-nil ps ∙ same))
  on_kept s t ps (does packet g at_play did is) (ended cause at of_it same) =
      (let clash = two_stages s.link.stage stages.Play stages.Closed at_play at in absurd cc)
  on_kept s t ps (shakes protocol stage from play closed is) (plays at there same) =
      (let clash = two_stages s.link.stage stages.Hand stages.Play from at in absurd cc)
  on_kept s t ps (shakes protocol stage from play closed is) (ended cause at of_it same) =
      (let clash = two_stages s.link.stage stages.Hand stages.Closed from at in absurd cc)
  on_kept s t ps (answers packet from is) (plays at there same) =
      (let clash = two_stages s.link.stage stages.Status stages.Play from at in absurd cc)
  on_kept s t ps (answers packet from is) (ended cause at of_it same) =
      (let clash = two_stages s.link.stage stages.Status stages.Closed from at in absurd cc)
  on_kept s t ps (closes cause packets open_ last other is) (plays at there same) =
      subst (λ (x : Turn). On x.seat (ps ++ x.handed)) (sym is)
      (hand_cases (mark_closed s.link cause) packets
      (λ (h : Handing). On (turn k s h).seat (ps ++ h.handed))
      (λ fits. ended cause refl refl (ap (λ (qs : List Sent). qs ++ packets) same
      ∙ ap (λ (qs : List Sent). before ++ qs) (last_bids cause packets s.link.stage at last)))
      (λ much. ended causes.Backlog refl refl
      (append-nil ps ∙ same ∙ nothing_said before)))
  on_kept s t ps (closes cause packets open_ last other is) (ended shut at of_it same) =
      (let clash : true ≡ false = sym (ap is_closed at) ∙ open_ in absurd cc)
  on_kept s t ps (comes_in name_ from free is) (plays at there same) =
      (let clash = two_stages s.link.stage stages.Login stages.Play from at in absurd cc)
  on_kept s t ps (comes_in name_ from free is) (ended cause at of_it same) =
      (let clash = two_stages s.link.stage stages.Login stages.Closed from at in absurd cc)

-- ---- a closed one

-- it stays closed for its cause, and nothing more is handed to it
pub record StaysShut (cause : Cause) (before : List Sent) (s : Seat) (ps : List Sent) : Type 0 where
  pub stage : s.link.stage ≡ stages.Closed
  pub cause_is : s.link.cause ≡ Some cause
  pub handed : ps ≡ before

pub shut_kept : (k : ℕ) (cause : Cause) (before : List Sent) →
    Kept k (λ s ps. StaysShut cause before s ps)
shut_kept k cause before s t ps (keeps unread is) h =
    subst (λ (x : Turn). StaysShut cause before x.seat (ps ++ x.handed)) (sym is)
    (record { stage = h.stage; cause_is = h.cause_is; handed = append-nil ps ∙ h.handed })
shut_kept k cause before s t ps (does packet g from did is) h =
    (let clash = two_stages s.link.stage stages.Play stages.Closed from h.stage in absurd cc)
shut_kept k cause before s t ps (shakes protocol stage from play closed is) h =
    (let clash = two_stages s.link.stage stages.Hand stages.Closed from h.stage in absurd cc)
shut_kept k cause before s t ps (answers packet from is) h =
    (let clash = two_stages s.link.stage stages.Status stages.Closed from h.stage in absurd cc)
shut_kept k cause before s t ps (closes other packets open_ last not_much is) h =
    (let clash : true ≡ false = sym (ap is_closed h.stage) ∙ open_ in absurd cc)
shut_kept k cause before s t ps (comes_in name from free is) h =
    (let clash = two_stages s.link.stage stages.Login stages.Closed from h.stage in absurd cc)

-- ---- any event

-- a cause without a text has no farewell
pub no_words : (stage : Stage) (cause : Cause) → farewell_text cause ≡ None →
    farewell stage cause ≡ []
unfolding farewell
no_words stages.Login cause none = ap (as_chat (λ json. of_login (login_down.Disconnect json))) none
no_words stages.Asked cause none = ap (as_chat (λ json. of_login (login_down.Disconnect json))) none
no_words stages.Play cause none = ap (as_chat (λ json. of_play (down.Disconnect json))) none
no_words other cause none = refl

-- one that was open goes for a cause
pub gone_open : (cause : Cause) (l : Link) → is_closed l.stage ≡ false →
    ((gone cause l).stage ≡ stages.Closed) × ((gone cause l).cause ≡ Some cause)
gone_open cause l open_ = rw open_ (refl, refl)

-- a player under a name is there
named_player : (o : Option Player) (name : List ℕ) → option_map name_of o ≡ Some name →
    (q : Player) × (o ≡ Some q) × (q.name ≡ name)
named_player None name e = absurd cc
named_player (Some q) name e = (q, refl, some_is q.name name e)

pub shut_player : (w : World) (k : ℕ) (m : Link) → GoodWorld w → get w.links k ≡ Some m →
    m.stage ≡ stages.Closed → get w.game.players k ≡ None
shut_player w k m good there shut = nobody_yet (get w.game.players k)
    (good.plays k ∙ ap in_play there ∙ ap is_play shut)

module _ (w : World) (e : Event) (k : ℕ) (p : Player) (l : Link) (good : GoodWorld w)
    (later : GoodWorld (step w e).world) (there : get w.links k ≡ Some l)
    (playing : get w.game.players k ≡ Some p) where
  at_play : l.stage ≡ stages.Play
  at_play = has_stage w k l p good there playing

  same_link : (m : Link) → get w.links k ≡ Some m → m.stage ≡ stages.Play
  same_link m too = ap (λ (x : Link). x.stage) (some_is m l (sym too ∙ there)) ∙ at_play

  named : option_map name_of (get w.game.players k) ≡ Some p.name
  named = ap (option_map name_of) playing

  goes_on : (m : Link) → get (step w e).world.links k ≡ Some m → m.stage ≡ stages.Play →
      option_map name_of (get (step w e).world.game.players k) ≡ Some p.name →
      get (step w e).world.shown k ≡ get w.shown k → to k (step w e).out ≡ [] →
      Between w e k p
  goes_on m now at name shown none =
      let q = named_player (get (step w e).world.game.players k) p.name name in
      plays_on m q.0 now at q.1 q.2 shown none

  ends_so : (cause : Cause) (m : Link) → get (step w e).world.links k ≡ Some m →
      m.stage ≡ stages.Closed → m.cause ≡ Some cause →
      to k (step w e).out ≡ farewell stages.Play cause → Between w e k p
  ends_so cause m now shut of_it last =
      ends cause m now shut of_it (shut_player (step w e).world k m later now shut) last

  between_by : e ≢ ticked → OneStep k w e → Between w e k p
  between_by no_tick (rests st none) =
      goes_on l (st.link ∙ there) at_play (st.name ∙ named) st.shown st.handed
  between_by no_tick (reads bytes m is too sits came_) =
      by_walk (walked_keeps k (On k p.name []) (on_kept k p.name []) (seat_of w k m) _ []
      (bytes_walk k (seat_of w k m) bytes) (plays (same_link m too) named refl))
    where
      by_walk : PlaysOn k p.name [] (on_bytes k (seat_of w k m) bytes).seat
          (on_bytes k (seat_of w k m) bytes).handed → Between w e k p
      by_walk (plays at name none) = goes_on _ sits.link at
          (ap (λ (g : Game). option_map name_of (get g.players k)) sits.game ∙ name) sits.shown
          (sits.handed ∙ none)
      by_walk (ended cause shut of_it last) =
          ends_so cause _ sits.link shut of_it (sits.handed ∙ last)
  between_by no_tick (departs cause m wordless too sits none) =
      let shut = gone_open cause m (ap is_closed (same_link m too)) in
      ends_so cause (gone cause m) sits.link shut.0 shut.1
      (sits.handed ∙ sym (no_words stages.Play cause wordless))
  between_by no_tick (takes n m too sits none) = goes_on _ sits.link (same_link m too)
      (ap (λ (g : Game). option_map name_of (get g.players k)) sits.game ∙ named) sits.shown
      sits.handed
  between_by no_tick (comes c none) = absurd (none_some _ l (good.fresh k c.new) there)
  between_by no_tick (goes m g none) =
      (let closed = (and_parts (is_closed m.stage) (nat_le (length m.owed) 0) g.done).0 in
      let clash : false ≡ true = sym (ap is_closed (same_link m g.there)) ∙ closed in absurd cc)
  between_by no_tick (ticks is) = absurd (no_tick is)

pub between : (w : World) (e : Event) (k : ℕ) (p : Player) → GoodWorld w →
    get w.game.players k ≡ Some p → e ≢ ticked → Between w e k p
between w e k p good playing no_tick =
    let at = plays_there w k p good playing in
    between_by w e k p at.0 good (step_good w e good) at.1 playing no_tick
    (one_step w e k good)
