-- The packets of the list of players fit, of so many players as may be in play.
use Rattle.std.proofs.Common.{◌≡◌, ℕ, ◌^◌, ◌<◌, ◌≤◌, true, List, ◌∷◌, map, length, refl, arith, []}
use Rattle.std.proofs.Common.{lit≤}
use Rattle.std.specs.List.{AllByRecursion}
use Rattle.std.proofs.lemmas.List.{length-map}
use Rattle.std.specs.Int.{w32}
use lib.IntN.{ℤ, pos}
use mir.Val.{SFits}
use Rattle.mc_packets.specs.declared.down.Down.{Down}
use Rattle.mc_packets.specs.declared.down.Down.TheVariants.{List as PlayerList}
use Rattle.mc_packets.specs.declared.player.Player.{Player}
use Rattle.mc_packets.specs.PlayerChange.{is_action, player_wire}
use Rattle.mc_model.specs.Packets.{of_play, for_play}
use Rattle.mc_model.specs.Delta.{leaver, joiner, about}
use Rattle.mc_model.proofs.Decodes.{IsClear, play_clear}
use Rattle.mc_model.proofs.FitsText.{IsShort, short_string}
use Rattle.mc_model.proofs.FitsSize.{all_fit, all_few, fields}
use Rattle.mc_model.proofs.AllFacts.{all_mapped}

-- an identifier and a name that a packet can carry
pub record PairFits (e : ℕ × List ℕ) : Type 0 where
  pub uuid : e.0 < 2 ^ 128
  pub name : IsShort 16 e.1

-- a player that has a spelling, and none of too many bytes
pub record PlayerFits (action : ℤ) (p : Player) : Type 0 where
  pub fits : (player_wire action).fits p
  pub few : (player_wire action).most p ≤ 60

-- a player that leaves has a spelling
leaver_fits : (e : ℕ × List ℕ) → PairFits e → PlayerFits (pos 4) (leaver e)
leaver_fits e f = record { fits = (tt, (f.uuid, (refl, tt))); few = omega arith }

-- a player that joins has one
joiner_fits : (e : ℕ × List ℕ) → PairFits e → PlayerFits (pos 0) (joiner e)
joiner_fits e f =
    let name = short_string 16 e.1 (lit≤ tt) f.name in
    record { fits = search (fields, f.uuid, name); few = omega (arith, f.name.few) }

-- ---- a packet about some players

-- a packet about 50 players at most
list_clear : (action : ℕ) (players : List Player) → is_action (pos action) ≡ true → action < 100 →
    length players ≤ 50
    → AllByRecursion (PlayerFits (pos action)) players →
    IsClear for_play (of_play (PlayerList (pos action) players))
list_clear action players is small few f =
    let A = PlayerFits (pos action) in
    let all = all_fit A (player_wire (pos action)).fits (λ p fits. fits.fits) players f in
    let le = all_few A (player_wire (pos action)).most 60 (λ p fits. fits.few) players f in
    let counted : SFits w32 (pos (length players)) = record { sfits = omega (arith, few) } in
    let told : SFits w32 (pos action) = record { sfits = omega (arith, small) } in
    play_clear (PlayerList (pos action) players) (search (fields, all)) (omega (arith, le, few))

-- packets of play that a client decodes
abbrev pub AreClear : List Down → Type 0
AreClear packets = AllByRecursion (λ (packet : Down). IsClear for_play (of_play packet)) packets

-- that packet, or none about nobody
about_clear : (action : ℕ) (players : List Player) → is_action (pos action) ≡ true → action < 100 →
    length players ≤ 50
    → AllByRecursion (PlayerFits (pos action)) players → AreClear (about (pos action) players)
about_clear action [] is small few f = tt
about_clear action (p ∷ players) is small few f = search (arith, list_clear)

-- the packet about those that left
pub leavers_clear : (es : List (ℕ × List ℕ)) → length es ≤ 50 → AllByRecursion PairFits es
    → AreClear (about (pos 4) (map leaver es))
leavers_clear es few f = about_clear 4 (map leaver es) refl (omega arith)
    (rw (length-map es leaver) few)
    (all_mapped PairFits (PlayerFits (pos 4)) leaver leaver_fits es f)

-- the packet about those that joined
pub joiners_clear : (es : List (ℕ × List ℕ)) → length es ≤ 50 → AllByRecursion PairFits es
    → AreClear (about (pos 0) (map joiner es))
joiners_clear es few f = about_clear 0 (map joiner es) refl (omega arith)
    (rw (length-map es joiner) few)
    (all_mapped PairFits (PlayerFits (pos 0)) joiner joiner_fits es f)
