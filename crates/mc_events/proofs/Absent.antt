-- Of a connection that is not there nothing is unread, and nothing was shown to it:
-- along every run.
use Rattle.std.proofs.Common.{◌≡◌, ℕ, false, List, [], ◌∷◌, Option, Some, None, refl, sym, subst}
use Rattle.std.proofs.Common.{ap, ◌∙◌, inl, inr}
use Rattle.std.specs.Prelude.{is_some, option_map}
use Rattle.std.proofs.lemmas.Bool.{cases_eq}
use Rattle.std.specs.FinMap.{get, get-empty, insert, remove}
use Rattle.std.specs.Ordering.{nat_cmp}
use Rattle.mc_model.specs.Step.{Event, depart, step, take_from}
use Rattle.mc_model.specs.declared.player.Player.{Player}
use Rattle.mc_model.specs.Good.{GoodWorld, in_play}
use Rattle.mc_model.specs.Link.{Handing, Link}
use Rattle.mc_model.specs.Run.{history}
use Rattle.mc_model.specs.Showing.{last_shown, sight_of}
use Rattle.mc_model.specs.Tick.{aged, at_tick, beat, grown, tick}
use Rattle.mc_model.specs.World.{Outcome, Turn, World, new_world, seat_of, seated}
use Rattle.mc_model.proofs.Maps.Lookups.{gone_other, gone_same, put_other, put_same}
use Rattle.mc_laws.proofs.Runs.Worlds.{at_tick_world, new_good, step_good}
use Rattle.mc_laws.proofs.Walk.Steps.{Move, departs, forgets, joins, passes, rests, sits}
use Rattle.mc_laws.proofs.Walk.Steps.{step_moves, takes}
use Rattle.mc_laws.proofs.Walk.Each.{each_links}
use Rattle.mc_events.specs.Stands.{IsReached}
use Rattle.mc_laws.proofs.Walk.Ticking.{after_tick, tick_link, tick_shown, tick_unread}

pub record Absent (w : World) : Type 0 where
  pub unread : (k : ℕ) → get w.links k ≡ None → get w.unread k ≡ None
  pub shown : (k : ℕ) → get w.links k ≡ None → get w.shown k ≡ None

-- a look-up that finds something
found_some : {A : Type 0} (x : A) → ◌≡◌ {A = Option A} (Some x) None → ⊥
found_some x e = cc

-- after a step of a connection
seated_absent : (w : World) (k : ℕ) (t : Turn) → Absent w → Absent (seated w k t).world
seated_absent w k t a = record {
  unread = λ j none. elim (cases_eq j k) [
    | inl same ↦ absurd (found_some t.seat.link (sym (put_same w.links k t.seat.link)
        ∙ ap (get (insert w.links k t.seat.link)) (sym same) ∙ none))
    | inr ne ↦ put_other w.unread k j t.seat.unread ne
        ∙ a.unread j (sym (put_other w.links k j t.seat.link ne) ∙ none)
  ];
  shown = λ j none. elim (cases_eq j k) [
    | inl same ↦ absurd (found_some t.seat.link (sym (put_same w.links k t.seat.link)
        ∙ ap (get (insert w.links k t.seat.link)) (sym same) ∙ none))
    | inr ne ↦ a.shown j (sym (put_other w.links k j t.seat.link ne) ∙ none)
  ];
}

-- after a tick
module _ (w : World) (good : GoodWorld w) (a : Absent w) where
  was : {A B : Type 0} (f : A → B) (o : Option A) → option_map f o ≡ None → o ≡ None
  was f None e = refl
  was f (Some x) e = absurd (found_some (f x) e)

  before : (j : ℕ) → get (tick w).world.links j ≡ None → get w.links j ≡ None
  before j none = was (λ (l : Link). (after_tick w j l).link) (get w.links j)
      (sym (tick_link w j) ∙ none)

  nobody : (o : Option Player) → is_some o ≡ false → o ≡ None
  nobody None e = refl
  nobody (Some p) e = absurd cc

  none_plays : (j : ℕ) → get w.links j ≡ None → get (at_tick w).game.players j ≡ None
  none_plays j none =
      let f : ℕ → Link → Handing =
      λ (k : ℕ) (l : Link). beat (grown w.game) (get w.shown k) k l in
      nobody (get (at_tick w).game.players j) ((at_tick_world w good).plays j
      ∙ ap in_play (each_links f (aged w) j
      ∙ ap (option_map (λ (l : Link). (f j l).link)) none))

  tick_absent : Absent (tick w).world
  tick_absent = record {
    unread = λ j none. ap (λ m. get m j) (tick_unread w) ∙ a.unread j (before j none);
    shown = λ j none. tick_shown w j
        ∙ ap (option_map (λ (p : Player).
        sight_of (at_tick w).game p (last_shown (get w.shown j))))
        (none_plays j (before j none));
  }

pub move_absent : (w : World) (o : Outcome) → Move w o → GoodWorld w → Absent w → Absent o.world
move_absent w o (rests is) good a = subst (λ (x : Outcome). Absent x.world) (sym is) a
move_absent w o (sits k l t there walked is) good a =
    subst (λ (x : Outcome). Absent x.world) (sym is) (seated_absent w k t a)
move_absent w o (departs k l cause there wordless is) good a =
    subst (λ (x : Outcome). Absent x.world) (sym is)
    (seated_absent w k (depart k cause (seat_of w k l)) a)
move_absent w o (takes k n l there is) good a =
    subst (λ (x : Outcome). Absent x.world) (sym is)
    (seated_absent w k (take_from n (seat_of w k l)) a)
move_absent w o (joins k new is) good a = subst (λ (x : Outcome). Absent x.world) (sym is) (record {
  unread = λ j none. elim (cases_eq j k) [
    | inl same ↦ absurd (found_some _ (sym (put_same w.links k _)
        ∙ ap (get (insert w.links k _)) (sym same) ∙ none))
    | inr ne ↦ a.unread j (sym (put_other w.links k j _ ne) ∙ none)
  ];
  shown = λ j none. elim (cases_eq j k) [
    | inl same ↦ absurd (found_some _ (sym (put_same w.links k _)
        ∙ ap (get (insert w.links k _)) (sym same) ∙ none))
    | inr ne ↦ a.shown j (sym (put_other w.links k j _ ne) ∙ none)
  ];
})
move_absent w o (forgets k l there done is) good a =
    subst (λ (x : Outcome). Absent x.world) (sym is) (record {
      unread = λ j none. elim (cases_eq j k) [
        | inl same ↦ ap (get (remove w.unread k)) same ∙ gone_same w.unread k
        | inr ne ↦ gone_other w.unread k j ne
            ∙ a.unread j (sym (gone_other w.links k j ne) ∙ none)
      ];
      shown = λ j none. elim (cases_eq j k) [
        | inl same ↦ ap (get (remove w.shown k)) same ∙ gone_same w.shown k
        | inr ne ↦ gone_other w.shown k j ne
            ∙ a.shown j (sym (gone_other w.links k j ne) ∙ none)
      ];
    })
move_absent w o (passes is) good a =
    subst (λ (x : Outcome). Absent x.world) (sym is) (tick_absent w good a)

pub run_absent : (w : World) (events : List Event) → GoodWorld w → Absent w →
    Absent (history w events)
run_absent w [] good a = a
run_absent w (e ∷ events) good a = run_absent (step w e).world events (step_good w e good)
    (move_absent w (step w e) (step_moves w e) good a)

-- so it is of a world that some events lead to
pub reached_absent : (w : World) → IsReached w → Absent w
reached_absent w reached = subst Absent (sym reached.is)
    (run_absent (new_world reached.start) reached.events (new_good reached.start) (record {
      unread = λ k none. get-empty nat_cmp k;
      shown = λ k none. get-empty nat_cmp k;
    }))
