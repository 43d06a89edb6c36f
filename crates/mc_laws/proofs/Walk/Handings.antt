-- Handing out and closing: what a link becomes, case by case.
use Rattle.std.proofs.Common.{◌≡◌, ◌+◌, Bool, true, false, [], ◌++◌, length, refl}
use Rattle.std.specs.Prelude.{nat_le, if◌then◌else◌, List}
use Rattle.mc_frame.specs.Kept.{outbox_max}
use Rattle.mc_up.specs.declared.play_up.PlayUp.{PlayUp}
use Rattle.mc_up.specs.declared.play_up.PlayUp.TheVariants.{KeepAlive}
use Rattle.mc_model.specs.declared.cause.Cause.{Cause}
use Rattle.mc_model.specs.declared.cause.Cause.TheVariants as causes
use Rattle.mc_model.specs.declared.stage.Stage.{Stage}
use Rattle.mc_model.specs.declared.stage.Stage.TheVariants as stages
use Rattle.mc_model.specs.Packets.{Sent, bytes_of}
use Rattle.mc_model.specs.Stages.{is_closed, is_play}
use Rattle.mc_model.specs.Link.{Handing, Link, gone, hand, mark_closed}
use Rattle.mc_model.specs.Step.{heard}

-- packets are owed behind what was owed, or the link is closed and owed nothing
pub hand_cases : (l : Link) (packets : List Sent) (P : Handing → Type 0) →
    (nat_le (length l.owed + length (bytes_of packets)) outbox_max ≡ true →
    P (record { link = record l { owed = l.owed ++ bytes_of packets }; handed = packets })) →
    (nat_le (length l.owed + length (bytes_of packets)) outbox_max ≡ false →
    P (record { link = record (mark_closed l causes.Backlog) { owed = [] }; handed = [] })) →
    P (hand l packets)
unfolding hand
hand_cases l packets P fits much =
    step (nat_le (length l.owed + length (bytes_of packets)) outbox_max) refl
  where
    step : (b : Bool) → nat_le (length l.owed + length (bytes_of packets)) outbox_max ≡ b →
        P (if b
        then record { link = record l { owed = l.owed ++ bytes_of packets }; handed = packets }
        else record { link = record (mark_closed l causes.Backlog) { owed = [] }; handed = [] })
    step true t = fits t
    step false t = much t

-- a stage is not both closed and in play
pub not_in_play : (stage : Stage) → is_closed stage ≡ true → is_play stage ≡ false
not_in_play stages.Closed is = refl
not_in_play stages.Play is = absurd cc
not_in_play other is = refl

-- whoever left is closed
pub gone_closed : (cause : Cause) (l : Link) → is_closed (gone cause l).stage ≡ true
gone_closed cause l = step (is_closed l.stage) refl
  where
    step : (b : Bool) → is_closed l.stage ≡ b → is_closed (if b then record l { owed = [] }
        else record (mark_closed l cause) { owed = [] }).stage ≡ true
    step true t = t
    step false t = refl

-- an answer to a beat keeps the stage
pub heard_stage : (packet : PlayUp) (l : Link) → (heard packet l).stage ≡ l.stage
heard_stage (KeepAlive beat) l = refl
heard_stage other l = refl
