-- What a bot sends first has bytes, and a frame has room for it.
use Rattle.std.proofs.Common.{ℕ, ◌^◌, ◌<◌, List, refl, lit<, lit≤, arith}
use Rattle.std.specs.Prelude.{codes}
use lib.IntN.{pos}
use Rattle.mc_fields.specs.RowLaws.{fits_spelled}
use Rattle.mc_fields.specs.Text.{FitsText}
use Rattle.mc_fields.specs.TextFormat.{SpellableText}
use Rattle.mc_frame.specs.Frame.{IsPayload}
use Rattle.mc_frame.specs.FrameLaws.{packet_payload}
use Rattle.mc_hello.specs.declared.handshake.Hand.TheVariants.{Handshake}
use Rattle.mc_hello.specs.declared.login_up.LoginUp.TheVariants.{Start}
use Rattle.mc_hello.specs.Hand as hand
use Rattle.mc_hello.specs.LoginUp as login_up
use Rattle.mc_model.proofs.FitsSize.{fields}
use Rattle.mc_model.proofs.FitsText.{short_fits, short_less, short_where}

handshake_fits : (port : ℕ) → port < 2 ^ 16 →
    hand.FitsHand (Handshake (pos 47) (codes "localhost") port (pos 2))
handshake_fits port range =
    let address : SpellableText 255 (codes "localhost") = short_fits 255 (codes "localhost")
    (lit< tt) (short_less 9 255 (codes "localhost") (lit≤ tt)
    (short_where 9 (codes "localhost") refl)) in
    search fields

pub handshake_spelled : (port : ℕ) → port < 2 ^ 16 → (bytes : List ℕ) ×
    hand.SpellsHand (Handshake (pos 47) (codes "localhost") port (pos 2)) bytes
handshake_spelled port range = (
  _,
  fits_spelled (hand.entry_of (Handshake (pos 47) (codes "localhost") port (pos 2)))
      (handshake_fits port range),
)

pub handshake_framed : (port : ℕ) → port < 2 ^ 16 →
    IsPayload (hand.spelling_of (Handshake (pos 47) (codes "localhost") port (pos 2)))
handshake_framed port range =
    packet_payload (hand.entry_of (Handshake (pos 47) (codes "localhost") port (pos 2)))
    (handshake_fits port range) (lit< tt)

start_fits : (name : List ℕ) → FitsText 16 name → login_up.FitsLoginUp (Start name)
start_fits name fits =
    let spellable : SpellableText 16 name =
    record { fits = fits; sized = omega (arith, fits.few_bytes) } in
    search fields

pub start_spelled : (name : List ℕ) → FitsText 16 name →
    (bytes : List ℕ) × login_up.SpellsLoginUp (Start name) bytes
start_spelled name fits =
    (_, fits_spelled (login_up.entry_of (Start name)) (start_fits name fits))

pub start_framed : (name : List ℕ) → FitsText 16 name →
    IsPayload (login_up.spelling_of (Start name))
start_framed name fits = packet_payload (login_up.entry_of (Start name)) (start_fits name fits)
    (omega (arith, fits.few_bytes))
