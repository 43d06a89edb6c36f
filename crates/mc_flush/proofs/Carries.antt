-- Packets of the list of players can carry the players of a list.
use Rattle.std.proofs.Common.{◌≡◌, ℕ, ◌*◌, ◌^◌, ◌<◌, ◌≤◌, false, true, List, [], ◌∷◌}
use Rattle.std.proofs.Common.{◌++◌, length, refl, arith, append_assoc, ap, sym, ◌∙◌}
use Rattle.std.specs.Prelude.{None}
use Rattle.std.specs.List.{AllByRecursion}
use Rattle.std.specs.Str.{IsUtf8}
use Rattle.std.proofs.lemmas.List.{length-append}
use lib.IntN.{ℤ, pos}
use Rattle.mc_bytes.specs.Many.{all_spelling}
use Rattle.mc_fields.specs.Varint.{varint_spelling}
use Rattle.mc_packets.specs.declared.down.Down.TheVariants.{List as PlayerList}
use Rattle.mc_packets.specs.declared.player.Player.{Player}
use Rattle.mc_packets.specs.declared.player.Property.{Property}
use Rattle.mc_packets.specs.declared.player.PlayerChange.TheVariants.{Join}
use Rattle.mc_packets.specs.PlayerChange.{is_action, player_wire}
use Rattle.mc_packets.specs.Down.{FitsDown, entry_of}
use Rattle.mc_model.specs.Delta.{leaver, joiner, about}
use Rattle.mc_model.proofs.FitsSize.{AtMost, few_bytes, at_most_joined, varint_size}
use Rattle.mc_model.proofs.FitsSize.{spelling_payload, fields, all_fit}
use Rattle.mc_flush.specs.Carried.{IsCarried}
use Rattle.mc_sending.specs.Sending.{IsClear, AreClear}
use Rattle.mc_model.proofs.FitsChat.{utf8_fits}
use mir.Val.{SFits}
use Rattle.std.specs.Int.{w32}

varint_few : (n : ℕ) → n < 100 → AtMost 5 (varint_spelling (pos n))
varint_few n small = (varint_size (pos n) (record { sfits = omega (arith, small) })).1

-- what has a spelling, and by its format none of too many bytes, can be carried
carried : (action : ℤ) (p : Player) → (player_wire action).fits p →
    (player_wire action).most p ≤ 110 → IsCarried action p
carried action p fits few =
    let le = (player_wire action).bounded p ((player_wire action).spelling p)
    ((player_wire action).spelled p fits) in
    record { fits = fits; few = omega (arith, few, le) }

pub leaver_carried : (e : ℕ × List ℕ) → e.0 < 2 ^ 128 → IsCarried (pos 4) (leaver e)
leaver_carried e uuid = carried (pos 4) (leaver e) (tt, (uuid, (refl, tt))) (omega arith)

pub joiner_carried : (e : ℕ × List ℕ) → e.0 < 2 ^ 128 → IsUtf8 e.1 → length e.1 ≤ 64 →
    IsCarried (pos 0) (joiner e)
joiner_carried e uuid utf8 short =
    let name = utf8_fits e.1 utf8 (omega (arith, short)) in
    carried (pos 0) (joiner e) (search (fields, uuid, name)) (omega (arith, short))

-- the same of a name that was copied
pub joiner_copied : (uuid : ℕ) (name copy : List ℕ) (none : List Property) → none ≡ [] →
    copy ≡ name → uuid < 2 ^ 128 → IsUtf8 name → length name ≤ 64 →
    IsCarried (pos 0) (record { uuid = uuid; change = Join copy none (pos 0) (pos 0) false None })
joiner_copied uuid name copy none empty same fits utf8 short = rw (empty, same) (joiner_carried
    (uuid, name) fits utf8 short)

-- one more player at the end
pub carried_more : (action : ℤ) (players : List Player) (p : Player) →
    AllByRecursion (IsCarried action) players → IsCarried action p →
    AllByRecursion (IsCarried action) (players ++ p ∷ [])
carried_more action [] p all more = (more, tt)
carried_more action (q ∷ players) p all more = (all.0, carried_more action players p all.1 more)

-- what was made and what is left make all
pub next_made : (now new left rest : List Player) (x : Player) (total : List Player) →
    left ≡ x ∷ rest → now ++ left ≡ total → new ≡ now ++ x ∷ [] → new ++ rest ≡ total
next_made now new left rest x total next all put = ap (λ (ps : List Player). ps ++ rest) put
    ∙ append_assoc now (x ∷ []) rest ∙ ap (λ (ps : List Player). now ++ ps) (sym next) ∙ all

-- ---- a packet about some players

all_few : (action : ℤ) (players : List Player) → AllByRecursion (IsCarried action) players →
    AtMost (length players * 110) (all_spelling (player_wire action).spelling players)
all_few action [] f = omega arith
all_few action (p ∷ players) f =
    let here = f.0.few in
    let later = all_few action players f.1 in
    omega (
      arith,
      here,
      later,
      length-append ((player_wire action).spelling p) (all_spelling
          (player_wire action).spelling players),
    )

list_clear : (action : ℕ) (players : List Player) → is_action (pos action) ≡ true → action < 100 →
    length players ≤ 50 → AllByRecursion (IsCarried (pos action)) players →
    IsClear (PlayerList (pos action) players)
list_clear action players is small few f =
    let all = all_fit (IsCarried (pos action)) (player_wire (pos action)).fits
    (λ p fits. fits.fits) players f in
    let counted : SFits w32 (pos (length players)) = record { sfits = omega (arith, few) } in
    let told : SFits w32 (pos action) = record { sfits = omega (arith, small) } in
    let fits : FitsDown (PlayerList (pos action) players) = search (fields, all) in
    let many : AtMost 5500 (all_spelling (player_wire (pos action)).spelling players) = (let all =
    all_few (pos action) players f in omega (arith, all, few)) in
    let size : AtMost 5510 _ = at_most_joined 5 5505 _ _ (varint_few action small) (at_most_joined 5
    5500 _ _ (varint_few (length players) (omega (arith, few))) many) in (
      fits,
      spelling_payload (entry_of (PlayerList (pos action) players)) fits (few_bytes 5510 _
          (omega arith) size),
    )

pub about_clear : (action : ℕ) (players : List Player) → is_action (pos action) ≡ true →
    action < 100 → length players ≤ 50 → AllByRecursion (IsCarried (pos action)) players →
    AreClear (about (pos action) players)
about_clear action [] is small few f = tt
about_clear action (p ∷ players) is small few f = (
  list_clear action (p ∷ players) is small few f,
  tt,
)
