-- Handing out to a connection, and closing it: what its value becomes.
use Rattle.std.proofs.Common.{◌≡◌, ℕ, ◌+◌, ◌≤◌, List, [], ◌∷◌, ◌++◌, length, Bool, true, false}
use Rattle.std.proofs.Common.{nat_le, sym, ap, ◌∙◌, arith, length-append}
use Rattle.std.proofs.lemmas.Bool.Decides.{nat_tests}
use Rattle.mc_frame.specs.Kept.{joined, outbox_max}
use Rattle.mc_model.specs.declared.cause.Cause.{Cause}
use Rattle.mc_model.specs.declared.cause.Cause.TheVariants as causes
use Rattle.mc_model.specs.declared.stage.Stage.TheVariants as stages
use Rattle.mc_model.specs.Packets.{Sent, bytes_of}
use Rattle.mc_model.specs.Stages.{is_closed}
use Rattle.mc_model.specs.Link.{Link, disconnect, gone, hand, mark_closed}
use Rattle.mc_links.specs.Kept.{ConnectionValue}

-- ---- handing out

-- there is room: the bytes are owed too
fits : (l : Link) (packets : List Sent) (bytes : List ℕ) → bytes ≡ bytes_of packets →
    nat_le (length l.owed + length bytes) outbox_max ≡ true →
    record l { owed = l.owed ++ bytes } ≡ (hand l packets).link
unfolding hand
fits l packets bytes e room = grind (arith, nat_tests)

-- there is none: it is closed, and owed nothing
drops : (l : Link) (packets : List Sent) (bytes : List ℕ) → bytes ≡ bytes_of packets →
    nat_le (length l.owed + length bytes) outbox_max ≡ false →
    record (mark_closed l causes.Backlog) { owed = [] } ≡ (hand l packets).link
unfolding hand
drops l packets bytes e none = grind (arith, nat_tests)

-- the numbers that are compared
tested : (held more : ℕ) (owed bytes : List ℕ) (has is : Bool) → held ≡ length owed →
    more ≡ length bytes → has ≡ nat_le (held + more) outbox_max → has ≡ is →
    nat_le (length owed + length bytes) outbox_max ≡ is
tested held more owed bytes has is a b test e = cc

pub hand_fits : (v c : ConnectionValue) (packets : List Sent) (bytes owed : List ℕ) (held more : ℕ)
    (has : Bool) → v ≡ c → bytes ≡ bytes_of packets → owed ≡ v.link.owed ++ bytes →
    held ≡ length c.link.owed → more ≡ length bytes → has ≡ nat_le (held + more) outbox_max →
    has ≡ true →
    record v { link = record v.link { owed = owed } }
    ≡ record c { link = (hand c.link packets).link }
hand_fits v c packets bytes owed held more has same e put a b test room =
    grind (arith, nat_tests, fits, tested)

pub hand_drops : (c t : ConnectionValue) (packets : List Sent) (bytes : List ℕ) (held more : ℕ)
    (has : Bool) →
    t ≡ record c { link = record (mark_closed c.link causes.Backlog) { owed = [] } } →
    bytes ≡ bytes_of packets → held ≡ length c.link.owed → more ≡ length bytes →
    has ≡ nat_le (held + more) outbox_max → has ≡ false →
    t ≡ record c { link = (hand c.link packets).link }
hand_drops c t packets bytes held more has is e a b test none =
    grind (arith, nat_tests, drops, tested)

-- ---- leaving

pub left_closed : (cause : Cause) (v c : ConnectionValue) → v ≡ c → is_closed c.link.stage ≡ true →
    record v { link = record v.link { owed = [] } } ≡ record c { link = gone cause c.link }
left_closed cause v c same over = grind (arith, nat_tests)

pub left_open : (cause : Cause) (c t : ConnectionValue) →
    t ≡ record c { link = mark_closed c.link cause } → is_closed c.link.stage ≡ false →
    record t { link = record t.link { owed = [] } } ≡ record c { link = gone cause c.link }
left_open cause c t made open_ = grind (arith, nat_tests)

-- ---- closing

-- marked closed first, and handed its last packets then
pub disconnected : (c t u : ConnectionValue) (cause : Cause) (packets : List Sent) →
    t ≡ record c { link = mark_closed c.link cause } →
    u ≡ record t { link = (hand t.link packets).link } →
    u ≡ record c { link = (disconnect c.link cause packets).link }
disconnected c t u cause packets first then_ =
    then_ ∙ ap (λ (d : ConnectionValue). record d { link = (hand d.link packets).link }) first

-- its session closed first
pub disconnected_last : (c t u : ConnectionValue) (cause : Cause) (packets : List Sent) →
    t ≡ record c { link = record c.link { stage = stages.Closed } } →
    u ≡ record t { link = (disconnect t.link cause packets).link } →
    u ≡ record c { link = (disconnect c.link cause packets).link }
disconnected_last c t u cause packets first then_ =
    then_
    ∙ ap (λ (d : ConnectionValue). record d { link = (disconnect d.link cause packets).link }) first

-- ---- pieces, one after another

-- the first of the pieces that are left has room
pub room_for : (held old : List ℕ) (pieces rest all : List (List ℕ)) (piece : List ℕ) (most : ℕ) →
    pieces ≡ piece ∷ rest → held ++ joined pieces ≡ old ++ joined all →
    length old + length (joined all) ≤ most → length held + length piece ≤ most
room_for held old pieces rest all piece most first same few =
    let e : held ++ (piece ++ joined rest) ≡ old ++ joined all =
    ap (λ (ps : List (List ℕ)). held ++ joined ps) (sym first) ∙ same in
    omega (arith, simp length-append at (ap length e), few)
