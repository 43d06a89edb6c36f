-- No item is lost or made along a run.
use Rattle.std.proofs.Common.{◌≡◌, ℕ, true, false, List, [], ◌∷◌, length, refl, sym, subst, ap, ◌∙◌}
use Rattle.std.proofs.Common.{arith}
use Rattle.std.specs.Prelude.{if◌then◌else◌}
use Rattle.std.specs.declared.cmp.Ordering.{Ordering}
use Rattle.std.specs.FinMap.{empty, entries, get, len-empty, len-entries}
use Rattle.mc_slots.specs.declared.pile.Pile.{Pile}
use Rattle.mc_land.specs.Places.{key_cmp}
use Rattle.mc_windows.specs.Pack.{PackValue}
use Rattle.mc_model.specs.declared.stage.Stage.{Stage}
use Rattle.mc_model.specs.Names.{offline_uuid}
use Rattle.mc_model.specs.Packets.{Sent, of_status}
use Rattle.mc_model.specs.Step.{Event, entered, step}
use Rattle.mc_model.specs.Talk.{accepted}
use Rattle.mc_model.specs.Stages.{is_closed, is_play}
use Rattle.mc_model.specs.Maps.{name_cmp}
use Rattle.mc_model.specs.Game.{Game}
use Rattle.mc_model.specs.Minds.{Start, plans_of}
use Rattle.mc_model.specs.Deeds.{enter_as}
use Rattle.mc_model.specs.Leaving.{leave, leave_all, left_by}
use Rattle.mc_model.specs.Link.{Handing, Link, disconnect, gone, hand}
use Rattle.mc_model.specs.World.{Outcome, Seat, Turn, World, closed_by, each, new_world, seat_of}
use Rattle.mc_model.specs.Tick.{aged, at_tick, beats, shown_all}
use Rattle.mc_model.specs.Run.{history}
use Rattle.mc_model.specs.Windows.{shut}
use Rattle.mc_model.specs.Good.{Good, GoodWorld}
use Rattle.mc_model.specs.Balance.{Balance, sort_of}
use Rattle.mc_laws.proofs.Deeds.Coming.{enter_good}
use Rattle.mc_laws.proofs.Deeds.Leaving.{leave_cases, leave_good}
use Rattle.mc_laws.proofs.Deeds.Shutting.{shut_good, shut_here, shuts}
use Rattle.mc_laws.proofs.Walk.Each.{told_good}
use Rattle.mc_laws.proofs.Walk.Moves.{Kept, OutMove, keeps, does, shakes, answers, closes, comes_in}
use Rattle.mc_laws.proofs.Walk.Moves.{walked_keeps}
use Rattle.mc_laws.proofs.Walk.Steps.{Move, departs, forgets, joins, passes, rests, sits}
use Rattle.mc_laws.proofs.Walk.Steps.{step_moves, takes}
use Rattle.mc_laws.proofs.Minds.Beginning.{none_weigh}
use Rattle.mc_laws.proofs.TickRules.{rules_good, tick_rules}
use Rattle.mc_laws.proofs.Runs.Seats.{GoodSeat, free_name, nobody_yet, seat_kept}
use Rattle.mc_laws.proofs.Runs.Worlds.{at_tick_world, beats_world, first_seat, new_good}
use Rattle.mc_laws.proofs.Runs.Worlds.{step_good}
use Rattle.mc_laws.proofs.Weighing.Acts.{act_even, made_weighs}
use Rattle.mc_laws.proofs.Weighing.Spending.{balance_on, enter_balance, go_weighs}

leave_balance : (k : ℕ) (g : Game) → Good g → Balance g → Balance (leave k g)
leave_balance k g w even = leave_cases k g Balance (λ none. even) (λ p there.
    let v : Game = shut k p g in
    let good = shut_good k p g there w in
    balance_on v _ (λ id damage some few low.
    go_weighs id damage k _ v good (shut_here k p g there))
    (balance_on g v (λ id damage some few low.
    made_weighs _ _ _ id damage k g v (shuts k p g there) w some low w) even))

left_balance : (k : ℕ) (stage : Stage) (g : Game) → Good g → Balance g →
    Balance (left_by k stage g)
left_balance k stage g w even = elim (is_closed stage) as
    (λ b. Balance (if b then leave k g else g)) [
      | true ↦ leave_balance k g w even
      | false ↦ even
    ]

all_balance : (ks : List ℕ) (g : Game) → Good g → Balance g → Balance (leave_all ks g)
all_balance [] g w even = even
all_balance (k ∷ ks) g w even =
    all_balance ks (leave k g) (leave_good k g w) (leave_balance k g w even)

-- ---- one connection

record EvenSeat (k : ℕ) (before : Game) (s : Seat) : Type 0 where
  seat : GoodSeat k before s
  even : Balance s.game

even_after : (k : ℕ) (before : Game) (s : Seat) (t : Turn) (ps : List Sent) → OutMove k s t →
    EvenSeat k before s → Balance t.seat.game
even_after k before s t ps (keeps unread is) a = rw is a.even
even_after k before s t ps (does packet g at did is) a =
    subst (λ (x : Turn). Balance x.seat.game) (sym is)
    (balance_on s.game g (λ id damage some few low.
    act_even id damage some low k packet s.game g (a.seat.game, a.seat.chests) did) a.even)
even_after k before s t ps (shakes protocol stage at play closed is) a = rw is a.even
even_after k before s t ps (answers packet at is) a =
    subst (λ (x : Turn). Balance x.seat.game) (sym is)
    (left_balance k (hand s.link (of_status packet ∷ [])).link.stage s.game a.seat.game a.even)
even_after k before s t ps (closes cause packets open_ last other is) a =
    subst (λ (x : Turn). Balance x.seat.game) (sym is)
    (left_balance k (disconnect s.link cause packets).link.stage s.game a.seat.game a.even)
even_after k before s t ps (comes_in name at free is) a =
    subst (λ (x : Turn). Balance x.seat.game) (sym is)
    (left_balance k
    (hand (entered k s name).link (accepted (offline_uuid name) name)).link.stage
    (enter_as k name s.game)
    (enter_good k name s.game a.seat.game (free_name s.game s.link.protocol name free)
    (nobody_yet (get s.game.players k) (a.seat.plays ∙ ap is_play at)))
    (enter_balance k name s.game a.even))

even_kept : (k : ℕ) (before : Game) → Kept k (λ s ps. EvenSeat k before s)
even_kept k before s t ps move a = record {
  seat = seat_kept k before s t ps move a.seat;
  even = even_after k before s t ps move a;
}

-- ---- worlds

each_balance : (f : ℕ → Link → Handing) (w : World) → Good w.game → Balance w.game →
    Balance (each f w).game
unfolding each
each_balance f w good even = all_balance (closed_by f w) w.game good even

rules_balance : (w : World) → GoodWorld w → Balance w.game → Balance (tick_rules w.plans w.game)
rules_balance w a even = balance_on w.game (tick_rules w.plans w.game)
    (λ id damage some few low. (rules_good w.plans w.game a.game a.told).weighs id damage) even

moves_balance : (w : World) (o : Outcome) → Move w o → GoodWorld w → Balance w.game →
    Balance o.world.game
moves_balance w o (rests is) a even = subst (λ (x : Outcome). Balance x.world.game) (sym is) even
moves_balance w o (sits k l t there walked is) a even =
    subst (λ (x : Outcome). Balance x.world.game) (sym is)
    (walked_keeps k (λ (s : Seat) ps. EvenSeat k w.game s) (even_kept k w.game) (seat_of w k l) t []
    walked (record { seat = first_seat w k l there a; even = even })).even
moves_balance w o (departs k l cause there wordless is) a even =
    subst (λ (x : Outcome). Balance x.world.game) (sym is)
    (left_balance k (gone cause l).stage w.game a.game even)
moves_balance w o (takes k n l there is) a even = rw is even
moves_balance w o (joins k new is) a even = rw is even
moves_balance w o (forgets k l there done is) a even = rw is even
moves_balance w o (passes is) a even = subst (λ (x : Outcome). Balance x.world.game) (sym is)
    (each_balance _ (shown_all (at_tick w)) (told_good (at_tick w).game (at_tick_world w a).game)
    (rules_balance (beats (aged w)) (beats_world w a)
    (each_balance _ (aged w) a.game even)))

run_balance : (w : World) (events : List Event) → GoodWorld w → Balance w.game →
    Balance (history w events).game
run_balance w [] a even = even
run_balance w (e ∷ events) a even = run_balance (step w e).world events (step_good w e a)
    (moves_balance w (step w e) (step_moves w e) a even)

no_entries : {A : Type 0} (es : List A) → length es ≡ 0 → es ≡ []
no_entries [] is = refl
no_entries (e ∷ es) is = absurd (omega arith)

none_there : {K X : Type 0} (R : K → K → Ordering) → entries (empty {X = X} {R = R}) ≡ []
none_there {X = X} R =
    no_entries (entries (empty {X = X} {R = R})) (sym (len-entries empty) ∙ len-empty R X)

new_balance : (start : Start) → Balance (new_world start).game
new_balance start id damage some few low =
    rw (
      none_there name_cmp,
      none_there {X = ℕ} key_cmp,
      none_there {X = List Pile} key_cmp,
      len-empty name_cmp PackValue,
      none_weigh (sort_of id damage) start.settings.terrain (length (plans_of start)),
    ) (omega arith)

pub always_even : (start : Start) (events : List Event) →
    Balance (history (new_world start) events).game
always_even start events =
    run_balance (new_world start) events (new_good start) (new_balance start)
