use Rattle.std.proofs.Common.{◌≡◌, refl}
use Rattle.mc_packets.specs.declared.down.Down.{Down}
use Rattle.mc_packets.specs.declared.down.Down.TheVariants.{KeepAlive, JoinGame, Chat, Time, List}
use Rattle.mc_packets.specs.declared.down.Down.TheVariants.{MultiChange, Change, SpawnPlayer}
use Rattle.mc_packets.specs.declared.down.Down.TheVariants.{SpawnObject, SpawnMob, Destroy, Step}
use Rattle.mc_packets.specs.declared.down.Down.TheVariants.{Look, StepLook, Teleport, HeadLook}
use Rattle.mc_packets.specs.declared.down.Down.TheVariants.{Equipment, Meta, OpenWindow, SetSlot}
use Rattle.mc_packets.specs.declared.down.Down.TheVariants.{CloseWindow, WindowItems}
use Rattle.mc_model.specs.Replica.{apply}
use Rattle.mc_replica.specs.Faults.{taken}
use Rattle.mc_replica.proofs.replica.Replica.take.Goals as goal

-- every other packet changes nothing
pub returns-in_default : goal.returns-in_default
unfolding apply
returns-in_default c = record { ok = step c.args.packet.now refl }
  where
    step : (p : Down) → c.args.packet.now ≡ p → c.args.self.now ≡ taken c.args.self.now p
    step (KeepAlive a) e = absurd (c.in_default.not-KeepAlive a e)
    step (JoinGame a b d f g h i) e = absurd (c.in_default.not-JoinGame a b d f g h i e)
    step (Chat a b) e = absurd (c.in_default.not-Chat a b e)
    step (Time a b) e = absurd (c.in_default.not-Time a b e)
    step (List a b) e = absurd (c.in_default.not-List a b e)
    step (MultiChange a b d) e = absurd (c.in_default.not-MultiChange a b d e)
    step (Change a b) e = absurd (c.in_default.not-Change a b e)
    step (SpawnPlayer a b d f g h i j k) e =
        absurd (c.in_default.not-SpawnPlayer a b d f g h i j k e)
    step (SpawnObject a b d f g h i j k) e =
        absurd (c.in_default.not-SpawnObject a b d f g h i j k e)
    step (SpawnMob a b d f g h i j k l m n) e =
        absurd (c.in_default.not-SpawnMob a b d f g h i j k l m n e)
    step (Destroy a) e = absurd (c.in_default.not-Destroy a e)
    step (Step a b d f g) e = absurd (c.in_default.not-Step a b d f g e)
    step (Look a b d f) e = absurd (c.in_default.not-Look a b d f e)
    step (StepLook a b d f g h i) e = absurd (c.in_default.not-StepLook a b d f g h i e)
    step (Teleport a b d f g h i) e = absurd (c.in_default.not-Teleport a b d f g h i e)
    step (HeadLook a b) e = absurd (c.in_default.not-HeadLook a b e)
    step (Equipment a b d) e = absurd (c.in_default.not-Equipment a b d e)
    step (Meta a b) e = absurd (c.in_default.not-Meta a b e)
    step (OpenWindow a b d f g) e = absurd (c.in_default.not-OpenWindow a b d f g e)
    step (CloseWindow a) e = absurd (c.in_default.not-CloseWindow a e)
    step (SetSlot a b d) e = absurd (c.in_default.not-SetSlot a b d e)
    step (WindowItems a b) e = absurd (c.in_default.not-WindowItems a b e)
    step other e = refl
