-- Whatever happens to one connection, its seat stays good, and of the players of others nothing
-- changes but what is noted for them.
use Rattle.std.proofs.Common.{◌≡◌, ◌≢◌, ℕ, ◌≤◌, Bool, true, false, List, Option, Some, None, refl}
use Rattle.std.proofs.Common.{sym, subst, ap, ◌∙◌, arith}
use Rattle.std.specs.Prelude.{◌==◌, not, is_some, option_map, if◌then◌else◌}
use Rattle.std.proofs.lemmas.Bool.{eq-eqb}
use Rattle.std.specs.List.{list_any}
use Rattle.std.specs.FinMap.{get}
use lib.IntN.{ℤ}
use Rattle.mc_model.specs.declared.cause.Cause.{Cause}
use Rattle.mc_model.specs.declared.cause.Refusal.TheVariants as refusals
use Rattle.mc_model.specs.declared.stage.Stage.{Stage}
use Rattle.mc_model.specs.declared.stage.Stage.TheVariants as stages
use Rattle.mc_model.specs.declared.player.Player.{Player}
use Rattle.mc_model.specs.Names.{is_name, offline_uuid}
use Rattle.mc_model.specs.Packets.{Sent}
use Rattle.mc_model.specs.Step.{is_47, depart, entered, refusal, take_from, turn}
use Rattle.mc_model.specs.Stages.{is_closed, is_play}
use Rattle.mc_model.specs.Game.{Game, players_of}
use Rattle.mc_model.specs.Deeds.{enter_as}
use Rattle.mc_model.specs.Leaving.{leave}
use Rattle.mc_model.specs.Link.{Handing, Link, gone, hand, mark_closed, quiet}
use Rattle.mc_model.specs.World.{Seat, Turn}
use Rattle.mc_model.specs.Fitting.{Told}
use Rattle.mc_model.specs.Good.{AreChests, AreShown, Good}
use Rattle.mc_model.specs.Apart.{traits_of}
use Rattle.mc_model.proofs.Maps.Lookups.{any_found, put_other, put_same}
use Rattle.mc_laws.proofs.Deeds.Chests.{GoodGame, same_chests}
use Rattle.mc_laws.proofs.Deeds.Coming.{enter_good}
use Rattle.mc_laws.proofs.Deeds.Leaving.{leave_chests, leave_good, leave_more, leave_other}
use Rattle.mc_laws.proofs.Deeds.Leaving.{leave_same, leave_stays, leave_told}
use Rattle.mc_laws.proofs.Acts.ActOn.{act_good, act_on, act_shown}
use Rattle.mc_laws.proofs.Fits.Acts.{act_tells, enter_tells}
use Rattle.mc_laws.proofs.Fits.Sound.{welcome_of}
use Rattle.mc_laws.proofs.Walk.Handings.{gone_closed, hand_cases, heard_stage, not_in_play}
use Rattle.mc_laws.proofs.Walk.Moves.{Kept, keeps, does, shakes, answers, closes, comes_in}
use Rattle.mc_laws.proofs.Windows.Games.{enter_shown, leave_shown}

-- what of a game one connection leaves as it was: the players of others, and what all rests on
pub record OthersStay (k : ℕ) (g v : Game) : Type 0 where
  pub traits : (j : ℕ) → j ≢ k →
      option_map traits_of (get v.players j) ≡ option_map traits_of (get g.players j)
  pub settings : v.settings ≡ g.settings
  pub more : g.eids ≤ v.eids

-- a seat whose game is good, and so are its chests and windows, and such that packets can tell it,
-- where there is a player exactly while the connection is in play, and what it left of the game
-- before
pub record GoodSeat (k : ℕ) (before : Game) (s : Seat) : Type 0 where
  pub game : Good s.game
  pub chests : AreChests s.game
  pub windows : AreShown s.game
  pub told : Told s.game
  pub plays : is_some (get s.game.players k) ≡ is_play s.link.stage
  pub others : OthersStay k before s.game

stay_on : (k : ℕ) (g v u : Game) → OthersStay k g v → OthersStay k v u → OthersStay k g u
stay_on k g v u a b = record {
  traits = λ j ne. b.traits j ne ∙ a.traits j ne;
  settings = b.settings ∙ a.settings;
  more = (let m = a.more in let n = b.more in omega (arith, m, n));
}

pub all_stay : (k : ℕ) (g : Game) → OthersStay k g g
all_stay k g = record { traits = λ j ne. refl; settings = refl; more = omega arith }

leave_stay : (k : ℕ) (g : Game) → OthersStay k g (leave k g)
leave_stay k g = let s = leave_stays k g in record {
  traits = λ j ne. ap (option_map traits_of) (leave_other k j g ne);
  settings = s.settings;
  more = leave_more k g;
}

-- ---- closing

-- who is closed has left
closed_seat : (k : ℕ) (before : Game) (s : Seat) (l : Link) → GoodGame s.game → Told s.game →
    AreShown s.game → OthersStay k before s.game → is_closed l.stage ≡ true →
    GoodSeat k before (turn k s (quiet l)).seat
closed_seat k before s l w t shown others is = step (is_closed l.stage) is
  where
    step : (b : Bool) → b ≡ true → GoodSeat k before
        (record s { game = if b then leave k s.game else s.game; link = l })
    step true e = record {
      game = leave_good k s.game w.0;
      chests = leave_chests k s.game w.1;
      windows = leave_shown k s.game w.0 shown;
      told = leave_told k s.game w.0 t;
      plays = ap is_some (leave_same k s.game) ∙ sym (not_in_play l.stage is);
      others = stay_on k before s.game (leave k s.game) others (leave_stay k s.game);
    }
    step false e = absurd cc

-- and who is not has not
open_seat : (k : ℕ) (before : Game) (s : Seat) (l : Link) → GoodGame s.game → Told s.game →
    AreShown s.game → OthersStay k before s.game →
    (is_closed l.stage ≡ false → is_some (get s.game.players k) ≡ is_play l.stage) →
    GoodSeat k before (turn k s (quiet l)).seat
open_seat k before s l w t shown others plays = step (is_closed l.stage) refl
  where
    step : (b : Bool) → is_closed l.stage ≡ b → GoodSeat k before (turn k s (quiet l)).seat
    step true is = closed_seat k before s l w t shown others is
    step false is = rw is
        (record {
          game = w.0;
          chests = w.1;
          windows = shown;
          told = t;
          plays = plays is;
          others = others;
        })

handed_seat : (k : ℕ) (before : Game) (s : Seat) (m : Link) (packets : List Sent) →
    GoodGame s.game → Told s.game → AreShown s.game → OthersStay k before s.game →
    (is_closed m.stage ≡ false → is_some (get s.game.players k) ≡ is_play m.stage) →
    GoodSeat k before (turn k s (hand m packets)).seat
handed_seat k before s m packets w t shown others plays =
    hand_cases m packets (λ (h : Handing). GoodSeat k before (turn k s h).seat)
    (λ fits. open_seat k before s (record m { owed = _ }) w t shown others plays)
    (λ much. closed_seat k before s (record (mark_closed m _) { owed = _ }) w t shown others refl)

free_of : (v n t f : Bool) → (if v then Some refusals.Version else if n then Some refusals.Name
    else if t then Some refusals.Taken else if f then Some refusals.Full else None) ≡ None →
    t ≡ false
free_of true n t f e = absurd cc
free_of false true t f e = absurd cc
free_of false false true f e = absurd cc
free_of false false false f e = refl

pub free_name : (g : Game) (protocol : ℤ) (name : List ℕ) → refusal g protocol name ≡ None →
    (j : ℕ) (q : Player) → get g.players j ≡ Some q → q.uuid ≢ offline_uuid name
free_name g protocol name none j q there same =
    let free = free_of (not (is_47 protocol)) (not (is_name name))
    (list_any (λ (p : Player). p.uuid == offline_uuid name) (players_of g)) _ none in
    let is = any_found (λ (p : Player). p.uuid == offline_uuid name) g.players j q free there in
    let clash : true ≡ false = sym (eq-eqb q.uuid (offline_uuid name) same) ∙ is in
    absurd cc

enter_stay : (k : ℕ) (name : List ℕ) (g : Game) → OthersStay k g (enter_as k name g)
enter_stay k name g = record {
  traits = λ j ne. ap (option_map traits_of) (put_other g.players k j _ ne);
  settings = refl;
  more = omega arith;
}

-- ---- any move

pub nobody_yet : (o : Option Player) → is_some o ≡ false → o ≡ None
nobody_yet None e = refl
nobody_yet (Some p) e = absurd cc

no_play : (stage : Stage) → stage ≡ stages.Hand → is_play stage ≡ false
no_play stage is = ap is_play is

pub seat_kept : (k : ℕ) (before : Game) → Kept k (λ s ps. GoodSeat k before s)
seat_kept k before s t ps (keeps unread is) a =
    subst (λ (x : Turn). GoodSeat k before x.seat) (sym is)
    (record {
      game = a.game;
      chests = a.chests;
      windows = a.windows;
      told = a.told;
      plays = a.plays;
      others = a.others;
    })
seat_kept k before s t ps (does packet g at did is) a =
    let on = act_on k packet s.game g did in
    let good = act_good k packet s.game g did (a.game, a.chests) in
    subst (λ (x : Turn). GoodSeat k before x.seat) (sym is) (record {
      game = good.0;
      chests = good.1;
      windows = act_shown k packet s.game g did a.game a.chests a.windows;
      told = act_tells k packet s.game g did (a.game, a.chests) a.told;
      plays = on.keys k ∙ a.plays ∙ ap is_play (sym (heard_stage packet s.link));
      others = stay_on k before s.game g a.others
          (record { traits = on.traits; settings = on.settings; more = on.more });
    })
seat_kept k before s t ps (shakes protocol stage at play closed is) a =
    subst (λ (x : Turn). GoodSeat k before x.seat) (sym is) (record {
      game = a.game;
      chests = a.chests;
      windows = a.windows;
      told = a.told;
      plays = a.plays ∙ no_play s.link.stage at ∙ sym play;
      others = a.others;
    })
seat_kept k before s t ps (answers packet at is) a =
    subst (λ (x : Turn). GoodSeat k before x.seat) (sym is)
    (handed_seat k before s s.link _ (a.game, a.chests) a.told a.windows a.others
    (λ open_. a.plays))
seat_kept k before s t ps (closes cause packets open_ last other is) a =
    subst (λ (x : Turn). GoodSeat k before x.seat) (sym is)
    (handed_seat k before s (mark_closed s.link cause) packets (a.game, a.chests) a.told a.windows
    a.others (λ open_. absurd cc))
seat_kept k before s t ps (comes_in name at free is) a =
    subst (λ (x : Turn). GoodSeat k before x.seat) (sym is)
    (handed_seat k before (entered k s name) (entered k s name).link _ (
      enter_good k name s.game a.game other nobody,
      same_chests refl refl refl a.chests,
    )
    (enter_tells k name s.game (welcome_of s.game s.link.protocol name free).numbers a.game a.told)
    (enter_shown k name s.game a.game other nobody a.windows)
    (stay_on k before s.game (enter_as k name s.game) a.others (enter_stay k name s.game))
    (λ open_. ap is_some (put_same s.game.players k _)))
  where
    other : (j : ℕ) (q : Player) → get s.game.players j ≡ Some q → q.uuid ≢ offline_uuid name
    other = free_name s.game s.link.protocol name free

    nobody : get s.game.players k ≡ None
    nobody = nobody_yet (get s.game.players k) (a.plays ∙ ap is_play at)

-- it goes, or takes some of what it is owed
pub departed_seat : (k : ℕ) (before : Game) (cause : Cause) (s : Seat) → GoodSeat k before s →
    GoodSeat k before (depart k cause s).seat
departed_seat k before cause s a =
    closed_seat k before s (gone cause s.link) (a.game, a.chests) a.told a.windows a.others
    (gone_closed cause s.link)

pub taken_seat : (k : ℕ) (before : Game) (n : ℕ) (s : Seat) → GoodSeat k before s →
    GoodSeat k before (take_from n s).seat
taken_seat k before n s a =
    record {
      game = a.game;
      chests = a.chests;
      windows = a.windows;
      told = a.told;
      plays = a.plays;
      others = a.others;
    }
