use Rattle.std.proofs.Common.{ℕ, ◌<◌, subst, sym}
use Rattle.mc_play.proofs.Clicking.{repacked_room}
use Rattle.mc_play.proofs.game.Game.repack_and_drop.Goals as goal

pub let_fall-requires-clause-room : goal.let_fall-requires-clause-room
let_fall-requires-clause-room c = λ item full. subst (λ (n : ℕ). 0 < n)
    (sym (repacked_room c.args.connection c.args.pack c.args.self.now c.repack.new.self
    c.repack.ensures)) (c.requires.room item full)
