-- Whatever a player does is made of deeds, and leaves all in play shown chests as they should be:
-- the one law by packets.
use Rattle.std.proofs.Common.{◌≡◌, ℕ, List, Option, Some, None, refl, subst, arith}
use Rattle.std.specs.Int.{cast_unsigned, w8}
use Rattle.std.specs.Option.{option_and_then}
use Rattle.std.specs.FinMap.{get}
use Rattle.std.proofs.lemmas.Str.{IsUtf8-from_ascii}
use Rattle.mc_fields.specs.declared.position.Spot.{Spot}
use Rattle.mc_up.specs.declared.play_up.PlayUp.{PlayUp}
use Rattle.mc_up.specs.declared.play_up.PlayUp.TheVariants.{Chat, Position, Look, PositionLook}
use Rattle.mc_up.specs.declared.play_up.PlayUp.TheVariants.{Held, Settings, Digging, Placement}
use Rattle.mc_up.specs.declared.play_up.PlayUp.TheVariants.{ClickWindow, CloseWindow, Confirm}
use Rattle.mc_up.specs.declared.play_up.PlayUp.TheVariants.{Creative}
use Rattle.mc_up.specs.PlayUp.{FitsPlayUp}
use Rattle.mc_windows.specs.declared.request.Click.{Click}
use Rattle.mc_model.specs.declared.player.Player.{Player}
use Rattle.mc_model.specs.Chat.{line_of}
use Rattle.mc_model.specs.Movement.{moved, turned}
use Rattle.mc_model.specs.Notes.{again}
use Rattle.mc_model.specs.Game.{Game, spot_of}
use Rattle.mc_model.specs.Acts.{act, act_by, act_of}
use Rattle.mc_model.proofs.FitsChat.{LineFits, line_clear}
use Rattle.mc_model.proofs.FitsText.{IsShort}
use Rattle.mc_model.proofs.Maps.Options.{some_is}
use Rattle.mc_laws.proofs.Landings.{both_turned, moved_turned, spot_turned, turned_turned}
use Rattle.mc_laws.proofs.Deeds.Made.{by_deed, by_own, says}
use Rattle.mc_laws.proofs.Fits.Told.{spot_told}
use Rattle.mc_laws.proofs.Acts.Clicks.{AnswersFit, press_made}
use Rattle.mc_laws.proofs.Acts.Topics.{Becomes, arrive_made, close_made, confirm_made}
use Rattle.mc_laws.proofs.Acts.Topics.{digging_made, keeping, notes_own, place_made, stays}
use Rattle.mc_laws.proofs.Acts.Topics.{take_up_made}
use Rattle.mc_laws.proofs.Windows.Same.{same_parts, touched_same}
use Rattle.mc_laws.proofs.Windows.Clicks.{press_same}

-- what a player says can be told, whose name is short, in a packet that can be sent
abbrev pub Speaks : Game → ℕ → PlayUp → Type 0
Speaks g k packet =
    ((p : Player) → get g.players k ≡ Some p → IsShort 16 p.name) × FitsPlayUp packet

-- the player of a connection makes a game of another, where what is said can be told by `H`
abbrev MakesBy : Type 0 → ℕ → Game → Game → Type 0
MakesBy H k g v = Becomes H k g v

abbrev pub Makes : ℕ → PlayUp → Game → Game → Type 0
Makes k packet g v = MakesBy (Speaks g k packet) k g v

done : (H : Type 0) (k : ℕ) (g u v : Game) → Some u ≡ Some v → MakesBy H k g u → MakesBy H k g v
done H k g u v e made = subst (MakesBy H k g) (some_is u v e) made

said_fits : (k : ℕ) (p : Player) (text : List ℕ) (g : Game) → get g.players k ≡ Some p →
    Speaks g k (Chat text) → LineFits (line_of p.name text)
said_fits k p text g there given =
    let name = given.0 p there in
    let fits = given.1 in
    line_clear p.name text (IsUtf8-from_ascii p.name name.ascii) fits.1.fits.utf8
    (omega (arith, name.few)) (omega (arith, fits.1.fits.few_bytes))

-- a click of a packet has a window of a byte, and a number of 16 bits
click_fits : (click : Click) → FitsPlayUp (ClickWindow click.window click.slot click.button
    click.number click.mode click.item) → AnswersFit click
click_fits click fits accepted = record { window = fits.1.0; number = fits.1.1.1.1.0.0 }

act_of_made : (k : ℕ) (p : Player) (packet : PlayUp) (g v : Game) → get g.players k ≡ Some p →
    act_of k p packet g ≡ Some v → Makes k packet g v
act_of_made k p (Chat text) g v there e = done _ k g _ v e
    (keeping (by_deed _ _ _ k g _ (says (line_of p.name text) (said_fits k p text g there) refl)
    (λ id damage. refl)) (same_parts refl refl refl))
act_of_made k p (Position x y z on_ground) g v there e =
    arrive_made _ k p g there (moved (spot_of g p) x y z) v
    (λ t to is. moved_turned (spot_of g p) to x y z
    (spot_turned (spot_of g p) (spot_told g p t)) is) e
act_of_made k p (Look yaw pitch on_ground) g v there e =
    arrive_made _ k p g there (turned (spot_of g p) yaw pitch) v
    (λ t to is. turned_turned (spot_of g p) to yaw pitch is) e
act_of_made k p (PositionLook x y z yaw pitch on_ground) g v there e =
    arrive_made _ k p g there (option_and_then (λ (to : Spot). turned to yaw pitch)
    (moved (spot_of g p) x y z)) v
    (λ t to is. both_turned (moved (spot_of g p) x y z) to yaw pitch is) e
act_of_made k p (Digging status cell face) g v there e =
    done _ k g _ v e (digging_made _ k p g there status cell)
act_of_made k p (Placement cell face item x y z) g v there e =
    done _ k g _ v e (place_made _ k p g there cell face)
act_of_made k p (Held place) g v there e =
    done _ k g _ v e (take_up_made _ k p g there place)
act_of_made k p (ClickWindow window slot button number mode item) g v there e =
    done _ k g _ v e
    (keeping (press_made _ k p g there _ (λ h. click_fits _ h.1)) (press_same k p _ g))
act_of_made k p (Confirm window number accepted) g v there e =
    done _ k g _ v e (confirm_made _ k p g there (cast_unsigned w8 window) number)
act_of_made k p (CloseWindow window) g v there e =
    done _ k g _ v e (close_made _ k p g there window)
act_of_made k p (Creative slot item) g v there e =
    done _ k g _ v e (notes_own again (λ n fit. fit))
act_of_made k p (Settings locale view chat_mode colours skin) g v there e =
    done _ k g _ v e
    (keeping (by_own _ _ _ k (λ (q : Player). record q { view_byte = view })
    (λ q. record { eid = refl; uuid = refl; name = refl; hand = refl }) (λ t h q fit. fit) g)
    (touched_same k (λ (q : Player). record q { view_byte = view }) (λ q. refl) g))
act_of_made k p other g v there e = done _ k g _ v e stays

pub act_made : (k : ℕ) (packet : PlayUp) (g v : Game) → act g k packet ≡ Some v →
    Makes k packet g v
unfolding act
act_made k packet g v e = step (get g.players k) refl e
  where
    step : (o : Option Player) → get g.players k ≡ o → act_by g k packet o ≡ Some v →
        Makes k packet g v
    step None there e = done _ k g g v e stays
    step (Some p) there e = act_of_made k p packet g v there e
