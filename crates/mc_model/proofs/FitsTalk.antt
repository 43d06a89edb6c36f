-- The packets of the status and of the login that are handed out fit.
use Rattle.std.proofs.Common.{ℕ, List, lit<, arith, lit≤}
use Rattle.std.specs.Int.{w64}
use lib.IntN.{ℤ}
use mir.Val.{SFits}
use Rattle.mc_hello.specs.declared.status_down.StatusDown.TheVariants.{Response, Pong}
use Rattle.mc_hello.specs.declared.login_down.LoginDown.TheVariants.{Disconnect, Success}
use Rattle.mc_model.specs.Packets.{of_status, of_login, for_status, for_login}
use Rattle.mc_model.proofs.Decodes.{IsClear, status_clear, login_clear}
use Rattle.mc_model.proofs.FitsText.{IsShort, short_fits, short_string}
use Rattle.mc_model.proofs.FitsSize.{fields}

-- Response
pub response_clear : (json : List ℕ) → IsShort 200 json →
    IsClear for_status (of_status (Response json))
response_clear json s =
    status_clear (Response json) (lit< tt, short_string 200 json (lit≤ tt) s) (omega (arith, s.few))

-- Pong
pub pong_clear : (number : ℤ) → SFits w64 number → IsClear for_status (of_status (Pong number))
pong_clear number s =
    status_clear (Pong number) (search fields) (lit< tt)

-- Disconnect, before play
pub refusal_clear : (reason : List ℕ) → IsShort 200 reason →
    IsClear for_login (of_login (Disconnect reason))
refusal_clear reason s =
    login_clear (Disconnect reason) (lit< tt, short_string 200 reason (lit≤ tt) s)
    (omega (arith, s.few))

-- Success
pub success_clear : (uuid name : List ℕ) → IsShort 36 uuid → IsShort 16 name →
    IsClear for_login (of_login (Success uuid name))
success_clear uuid name u n =
    let at_uuid = short_fits 36 uuid (lit< tt) u in
    let at_name = short_fits 16 name (lit< tt) n in
    login_clear (Success uuid name) (lit< tt, (at_uuid, at_name)) (omega (arith, u.few, n.few))
