-- Of which deeds a click in a window is made: that of a chest, or the own.
use Rattle.std.proofs.Common.{◌≡◌, ℕ, ◌+◌, Bool, true, false, List, [], ◌∷◌, ◌++◌, Option, Some}
use Rattle.std.proofs.Common.{None, refl, sym, subst, ap, ◌∙◌, arith}
use Rattle.std.specs.Prelude.{is_some, nat_lt, if◌then◌else◌}
use Rattle.std.specs.List.{AllByRecursion}
use Rattle.std.specs.Option.{option_and_then}
use Rattle.std.specs.FinMap.{get}
use Rattle.mc_fields.specs.declared.position.Cell.{Cell}
use Rattle.mc_slots.specs.declared.pile.Item.{Item}
use Rattle.mc_slots.specs.declared.pile.Pile.{Pile}
use Rattle.mc_slots.specs.declared.pile.Pile.TheVariants.{Full}
use Rattle.mc_slots.specs.Chest.{IsChest}
use Rattle.mc_slots.specs.Pile.{IsPile, Sort, held}
use Rattle.mc_windows.specs.declared.clicking.Clicked.{Clicked}
use Rattle.mc_windows.specs.declared.request.Click.{Click}
use Rattle.mc_windows.specs.Pack.{PackValue}
use Rattle.mc_windows.specs.Stock.{in_chest, in_pack}
use Rattle.mc_windows.specs.Clicks.{answer_of, chest_after, dropped as drops, outcome, pack_after}
use Rattle.mc_windows.proofs.Keeping.{chest_stays, click_keeps, none_left}
use Rattle.mc_windows.proofs.Ranges.{Holds, IsShown, click_holds, drops_with_room, left_by}
use Rattle.mc_entities.specs.declared.entity.EntityKind.TheVariants as kinds
use Rattle.mc_model.specs.declared.notes.Answered.{Answered}
use Rattle.mc_model.specs.declared.notes.Notes.{Notes}
use Rattle.mc_model.specs.declared.player.Player.{Player}
use Rattle.mc_model.specs.Balance.{sort_of}
use Rattle.mc_model.specs.Notes.{again, with_answer}
use Rattle.mc_model.specs.Windows.{answering, feet_of, is_accepted, is_sent_again, let_fall, press}
use Rattle.mc_model.specs.Windows.{restocking}
use Rattle.mc_model.specs.Game.{Game, chest_at, chest_of, pack_of, room_in}
use Rattle.mc_model.specs.Deeds.{noting, repack_of, restocked}
use Rattle.mc_model.specs.Fitting.{Told}
use Rattle.mc_model.proofs.AllFacts.{all_joined}
use Rattle.mc_model.proofs.FitsNotes.{ConfirmFits, NotesFit}
use Rattle.mc_laws.proofs.Deeds.Chests.{GoodGame, lies_chest}
use Rattle.mc_laws.proofs.Deeds.Packs.{named_is_pack}
use Rattle.mc_laws.proofs.Deeds.Made.{Deed, Made, MadeWith, by_notes, first, repacks, restocks}
use Rattle.mc_laws.proofs.Deeds.Shutting.{can_fall, falls, has_room}
use Rattle.mc_laws.proofs.Fits.Told.{CanCome}

-- packets can tell the answer to a click, whatever it is
abbrev pub AnswersFit : Click → Type 0
AnswersFit click = (accepted : Bool) → ConfirmFits (record {
  window = click.window;
  number = click.number;
  accepted = accepted;
})

answering_fits : (click : Click) (came : Clicked) (notes : Notes) → AnswersFit click →
    NotesFit notes → NotesFit (answering click came notes)
answering_fits click came notes fits fit = step (is_sent_again click came)
  where
    answer : Answered
    answer = record {
      window = click.window;
      number = click.number;
      accepted = is_accepted came;
    }

    told : NotesFit (with_answer answer notes)
    told =
        let all : AllByRecursion ConfirmFits (notes.confirms ++ answer ∷ []) =
        all_joined ConfirmFits notes.confirms (answer ∷ []) (search fit)
        (fits (is_accepted came), tt) in
        search all

    step : (b : Bool) →
        NotesFit (if b then again (with_answer answer notes) else with_answer answer notes)
    step true = told
    step false = told

-- what lies in a chest that may be there is what a chest holds
there_is : (chest : Option (List Pile)) →
    ((piles : List Pile) → chest ≡ Some piles → IsChest piles) → IsShown chest
there_is None are = tt
there_is (Some piles) are = are piles refl

shown_is : (g : Game) (chest : Option Cell) → GoodGame g →
    IsShown (option_and_then (chest_at g) chest)
shown_is g None w = tt
shown_is g (Some cell) w = there_is (chest_at g cell) (lies_chest g cell w.1)

module _ (H : Type 0) (k : ℕ) (p : Player) (g : Game) (there : get g.players k ≡ Some p)
    (click : Click) (fits : H → AnswersFit click) where
  abbrev T : Type 0
  T = GoodGame g × Told g

  -- what the click is made on, and what it leaves
  abbrev chest : Option (List Pile)
  chest = chest_of g p

  abbrev room : Bool
  room = nat_lt 0 (room_in g)

  abbrev answer : Clicked
  answer = answer_of (outcome (pack_of g p) chest click room)

  abbrev pack : PackValue
  pack = pack_after (pack_of g p) click.number (outcome (pack_of g p) chest click room)

  abbrev left : Option (List Pile)
  left = chest_after chest (outcome (pack_of g p) chest click room)

  holds : GoodGame g → Holds (left_by (pack_of g p) chest click.number
      (outcome (pack_of g p) chest click room))
  holds w = click_holds (pack_of g p) chest click room click.number (named_is_pack g p.name w.0)
      (shown_is g p.chest w)

  keeps : (sort : Sort) → in_pack sort pack + (in_chest sort left + held sort (drops answer))
      ≡ in_pack sort (pack_of g p) + in_chest sort chest
  keeps sort = click_keeps sort (pack_of g p) chest click room click.number

  still : is_some left ≡ is_some chest
  still = chest_stays (pack_of g p) chest click room

  abbrev carried : Game
  carried = repack_of p pack g

  abbrev carries : Deed (GoodGame g) T H k g carried
  carries = repacks k p pack there (λ w. (holds w).pack) refl

  can : (item : Item) → drops answer ≡ Full item → T →
      CanCome (kinds.Dropped item g.age) (feet_of p carried) carried.entities g.eids
  can item full = can_fall (GoodGame g) T H k k p g there (λ t. t) pack item
      (λ w. (holds w).pack) (λ w. subst IsPile full (holds w).floor)
      (has_room g (drops_with_room (pack_of g p) chest click room item full))

  -- what is dropped falls, and the click is answered
  abbrev done : Game → Game
  done u = noting (answering click answer) k (let_fall p (drops answer) u)

  answered : (u : Game) → ((item : Item) → drops answer ≡ Full item → T →
      CanCome (kinds.Dropped item u.age) (feet_of p u) u.entities u.eids) →
      MadeWith (GoodGame g) T H k (λ (sort : Sort). held sort (drops answer)) u (done u)
  answered u can = falls (GoodGame g) T H k p u _ (drops answer) can
      (by_notes (GoodGame g) T H k k (answering click answer)
      (λ t h notes fit. answering_fits click answer notes (fits h) fit) _)

  -- where it is shown no chest
  alone : left ≡ None → Made (GoodGame g) T H k g (done carried)
  alone none =
      first (GoodGame g) T H k (λ (sort : Sort). 0) (λ (sort : Sort). held sort (drops answer)) g
      carried _ carries
      (λ w id damage some low. let keep = keeps (sort_of id damage) in
      let after = ap (in_chest (sort_of id damage)) none in
      let before = ap (in_chest (sort_of id damage))
      (none_left chest (sym still ∙ ap is_some none)) in
      omega (arith, keep, after, before))
      (answered carried can)

  -- and where it is shown one
  beside : (cell : Cell) (piles : List Pile) → chest ≡ chest_at g cell → left ≡ Some piles →
      Made (GoodGame g) T H k g (done (restocked cell piles carried))
  beside cell piles at is = record {
    games = carried ∷ restocked cell piles carried ∷ later.games;
    deeds = (
      carries,
      (
        restocks cell piles (sym (ap is_some at) ∙ sym still ∙ ap is_some is)
            (λ w. subst IsShown is (holds w).chest) refl,
        later.deeds,
      ),
    );
    even = λ w id damage some low. (let keep = keeps (sort_of id damage) in
        let rest = later.even w id damage some low in
        let after = ap (in_chest (sort_of id damage)) is in
        let before = ap (in_chest (sort_of id damage)) at in
        omega (arith, keep, rest, after, before));
  }
    where
      later : MadeWith (GoodGame g) T H k (λ (sort : Sort). held sort (drops answer))
          (restocked cell piles carried) (done (restocked cell piles carried))
      later = answered (restocked cell piles carried) can

  pub press_made : Made (GoodGame g) T H k g (press k p click g)
  press_made = step p.chest left refl refl
    where
      step : (o : Option Cell) (l : Option (List Pile)) → p.chest ≡ o → left ≡ l →
          Made (GoodGame g) T H k g (done (restocking o l carried))
      step None None at is = alone is
      step (Some cell) None at is = alone is
      step (Some cell) (Some piles) at is =
          beside cell piles (ap (option_and_then (chest_at g)) at) is
      step None (Some piles) at is = (let clash : false ≡ true =
          sym (still ∙ ap (λ (o : Option Cell). is_some (option_and_then (chest_at g) o)) at)
          ∙ ap is_some is in absurd cc)
