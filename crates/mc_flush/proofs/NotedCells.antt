-- The noted cells: what is sent of them fits, and they are sent one after another.
use Rattle.std.proofs.Common.{◌≡◌, ℕ, ◌+◌, ◌≤◌, Bool, true, false, cond, List, [], ◌∷◌, ◌++◌, map}
use Rattle.std.proofs.Common.{zero-add, refl, sym, ap, ◌∙◌, arith}
use Rattle.std.specs.Prelude.{unsigned_abs}
use Rattle.std.specs.Int.Signed.{lt_z}
use Rattle.std.specs.List.{filter, sum_by}
use Rattle.std.specs.FinMap.{FinMap}
use Rattle.std.proofs.lemmas.Int.{ints}
use Rattle.std.proofs.lemmas.List.Sums.{sum_by-append}
use Rattle.std.proofs.lemmas.Bool.Decides.{nat_tests}
use lib.IntN.{ℤ, pos, negsuc, neg_ℤ}
use lib.Signed.{◌≤ℤ◌}
use Rattle.mc_fields.specs.declared.position.Cell.{Cell}
use Rattle.mc_fields.specs.Position.{FitsCell}
use Rattle.mc_land.specs.declared.terrain.Terrain.{Terrain}
use Rattle.mc_land.specs.Places.{Place, column_number, key_cmp}
use Rattle.mc_view.specs.declared.view_set.ViewSet.{ViewSet}
use Rattle.mc_view.specs.declared.view_set.TheConstants.{MIDDLE_BORDER}
use Rattle.mc_view.specs.Sets.{has}
use Rattle.mc_packets.specs.declared.down.Down.{Down}
use Rattle.mc_model.specs.Notes.{cell_packet, is_sent, noted_packets}
use Rattle.mc_model.proofs.FitsNotes.{sent_fits}
use Rattle.mc_sending.specs.Sending.{play_bytes}
use Rattle.mc_flush.specs.Encoding.{looks_at, noted_cost}
use Rattle.mc_sending.proofs.Pieces.{next_piece, play_bytes-append}

-- a cell that is not too low and not too high is sent where its column is shown
pub sent_where : (view : ViewSet) (cell : Cell) (x y z : ℤ) (seen : Bool) → y ≡ cell.y →
    lt_z y (negsuc 2047) ≡ false → lt_z (pos 2047) y ≡ false → x ≡ column_number cell.x →
    z ≡ column_number cell.z → seen ≡ has view (x, z) → seen ≡ is_sent (has view) cell
sent_where view cell x y z seen same low high at_x at_z is = grind (arith, nat_tests)

-- a number of a view's middle is not far
middle_small : (z : ℤ) → neg_ℤ (pos MIDDLE_BORDER) ≤ℤ z → z ≤ℤ pos MIDDLE_BORDER →
    unsigned_abs z ≤ MIDDLE_BORDER + 1
middle_small (pos n) low high = omega (arith, ints, high)
middle_small (negsuc n) low high = omega (arith, ints, low)

-- a cell that is sent where a view is shown has a position
pub cell_fits : (view : ViewSet) (cell : Cell) → neg_ℤ (pos MIDDLE_BORDER) ≤ℤ view.cx →
    view.cx ≤ℤ pos MIDDLE_BORDER → neg_ℤ (pos MIDDLE_BORDER) ≤ℤ view.cz →
    view.cz ≤ℤ pos MIDDLE_BORDER → view.d ≤ 8 →
    is_sent (has view) cell ≡ true → FitsCell cell
cell_fits view cell x_low x_high z_low z_high few sent =
    sent_fits (view.cx, view.cz) view.d cell (middle_small view.cx x_low x_high)
    (middle_small view.cz z_low z_high) few sent

-- a cell, and those behind it
noted_next : (terrain : Terrain) (edits : FinMap key_cmp ℕ) (seen : Place → Bool) (cell : Cell)
    (rest : List Cell) →
    play_bytes (noted_packets terrain edits seen (cell ∷ rest))
    ≡ play_bytes (noted_packets terrain edits seen (cell ∷ []))
    ++ play_bytes (noted_packets terrain edits seen rest)
noted_next terrain edits seen cell rest =
    let f : Cell → Down = cell_packet terrain edits in
    let later : List Cell = filter (is_sent seen) rest in
    elim (is_sent seen cell) as (λ b. play_bytes (map f (cond b (cell ∷ later) later))
    ≡ play_bytes (map f (cond b (cell ∷ []) [])) ++ play_bytes (map f later)) [
      | true ↦ play_bytes-append (f cell ∷ []) (map f later)
      | false ↦ refl
    ]

-- the next of what is left was sent
pub noted_put : (terrain : Terrain) (edits : FinMap key_cmp ℕ) (seen : Place → Bool) (cell : Cell)
    (left rest : List Cell) (now after total : List ℕ) → left ≡ cell ∷ rest →
    now ++ play_bytes (noted_packets terrain edits seen left) ≡ total →
    after ≡ now ++ play_bytes (noted_packets terrain edits seen (cell ∷ [])) →
    after ++ play_bytes (noted_packets terrain edits seen rest) ≡ total
noted_put terrain edits seen cell left rest now after total is all put =
    next_piece now after total (play_bytes (noted_packets terrain edits seen (cell ∷ [])))
    (play_bytes (noted_packets terrain edits seen rest))
    (play_bytes (noted_packets terrain edits seen left))
    (ap (λ (cells : List Cell). play_bytes (noted_packets terrain edits seen cells)) is
    ∙ noted_next terrain edits seen cell rest) all put

-- likewise what they cost
cost_of_next : (view : ViewSet) (cell : Cell) (rest : List Cell) →
    noted_cost view (cell ∷ rest) ≡ noted_cost view (cell ∷ []) + noted_cost view rest
cost_of_next view cell rest =
    let later : List Cell = filter (is_sent (has view)) rest in
    elim (is_sent (has view) cell) as (λ b. sum_by looks_at (cond b (cell ∷ later) later)
    ≡ sum_by looks_at (cond b (cell ∷ []) []) + sum_by looks_at later) [
      | true ↦ sum_by-append looks_at (cell ∷ []) later
      | false ↦ sym (zero-add (sum_by looks_at later))
    ]

pub noted_paid : (view : ViewSet) (cell : Cell) (left rest : List Cell) (now after total : ℕ) →
    left ≡ cell ∷ rest → now + noted_cost view left ≡ total →
    after ≡ now + noted_cost view (cell ∷ []) → after + noted_cost view rest ≡ total
noted_paid view cell left rest now after total is all put =
    let whole : noted_cost view left ≡ noted_cost view (cell ∷ []) + noted_cost view rest =
    ap (noted_cost view) is ∙ cost_of_next view cell rest in
    omega (arith, whole, all, put)
