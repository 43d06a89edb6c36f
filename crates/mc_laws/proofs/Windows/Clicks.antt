-- No click and no pickup changes the number of the window that is shown.
use Rattle.std.proofs.Common.{◌≡◌, ℕ, Bool, List, [], ◌∷◌, Option, None, Some, refl}
use Rattle.std.proofs.Common.{arith}
use Rattle.std.specs.Prelude.{nat_lt}
use Rattle.std.proofs.lemmas.Bool.Decides.{nat_tests}
use lib.IntN.{ℤ}
use Rattle.mc_slots.specs.declared.pile.Item.{Item}
use Rattle.mc_slots.specs.declared.pile.Pile.{Pile}
use Rattle.mc_slots.specs.declared.pile.Pile.TheVariants.{Full}
use Rattle.mc_windows.specs.declared.request.Click.{Click}
use Rattle.mc_windows.specs.declared.request.Why.{Why}
use Rattle.mc_windows.specs.Pack.{PackValue, answered_pack}
use Rattle.mc_windows.specs.Moves.{made, run}
use Rattle.mc_windows.specs.Clicks.{admitted, answer_of, chest_after, desk_of, dropped, outcome}
use Rattle.mc_windows.specs.Clicks.{pack_after, plan, refused_pack}
use Rattle.mc_windows.specs.Storing.{stored}
use Rattle.mc_windows.proofs.Keeping.{worked_cases}
use Rattle.mc_fields.specs.declared.position.Cell.{Cell}
use Rattle.mc_model.specs.declared.player.Player.{Player}
use Rattle.mc_model.specs.Deeds.{repack_of}
use Rattle.mc_model.specs.Game.{Game, chest_of, pack_of, room_in}
use Rattle.mc_model.specs.Windows.{answering, let_fall, press, restocking}
use Rattle.mc_laws.proofs.Windows.Same.{SameWindows, fallen_same, noted_same, repacked_same}
use Rattle.mc_laws.proofs.Windows.Same.{restocked_same, same_on, same_parts}

run_window : (steps : List _) (desk : _) → (run steps desk).pack.window ≡ desk.pack.window
unfolding run made
run_window [] desk = refl
run_window (step ∷ steps) desk = grind (arith, nat_tests, run_window steps (made step desk))

pub stored_window : (pack : PackValue) (item : Item) → (stored pack item).pack.window ≡ pack.window
unfolding stored
stored_window pack item = run_window _ (record { pack = pack; chest = None; floor = Full item })

refused_window : (pack : PackValue) (number : ℤ) (why : Why) →
    (refused_pack pack number why).window ≡ pack.window
refused_window pack number why = grind (arith, nat_tests)

pub click_window : (pack : PackValue) (chest : Option (List Pile)) (click : Click) (room : Bool) →
    (pack_after pack click.number (outcome pack chest click room)).window ≡ pack.window
click_window pack chest click room =
    worked_cases (λ came. (pack_after pack click.number came).window ≡ pack.window)
    (desk_of pack chest) room (admitted (desk_of pack chest) click)
    (λ row. run_window (plan (desk_of pack chest) row) (desk_of pack chest))
    (λ why. refused_window pack click.number why)

pub answered_window : (window : ℕ) (number : ℤ) (pack : PackValue) →
    (answered_pack window number pack).window ≡ pack.window
answered_window window number pack = grind (arith, nat_tests)

-- ---- games

-- a chest that is shown has other piles, if there is one
restocking_same : (cell : Option Cell) (piles : Option (List Pile)) (g : Game) →
    SameWindows g (restocking cell piles g)
restocking_same None piles g = same_parts refl refl refl
restocking_same (Some cell) None g = same_parts refl refl refl
restocking_same (Some cell) (Some piles) g = restocked_same cell piles g

pub press_same : (k : ℕ) (p : Player) (click : Click) (g : Game) →
    SameWindows g (press k p click g)
press_same k p click g =
    let room = nat_lt 0 (room_in g) in
    let came = outcome (pack_of g p) (chest_of g p) click room in
    let left = chest_after (chest_of g p) came in
    let carried : Game = repack_of p (pack_after (pack_of g p) click.number came) g in
    let filled : Game = restocking p.chest left carried in
    let fallen : Game = let_fall p (dropped (answer_of came)) filled in
    same_on {u = carried} (repacked_same p (pack_after (pack_of g p) click.number came) g
    (click_window (pack_of g p) (chest_of g p) click room))
    (same_on {u = filled} (restocking_same p.chest left carried)
    (same_on {u = fallen} (fallen_same p (dropped (answer_of came)) filled)
    (noted_same k (answering click (answer_of came)) fallen)))
