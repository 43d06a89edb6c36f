use Rattle.std.proofs.Common.{refl, []}
use Rattle.mc_words.proofs.Delivering.{delivered, delivered_none, delivered_unread}
use Rattle.mc_top.specs.ReplayPromise.{replay_told, start_of}
use Rattle.mc_top.proofs.Replays.{plays, replay_telling}
use Rattle.mc_top.proofs.replay.replay.Goals as goal

pub returns-clause-delivered : goal.returns-clause-delivered
returns-clause-delivered g c =
    rw c.told.ensures (delivered (replay_told _) _ _ _ _ _ _ _ _ c.in-Ok.text.items
    c.tell_script.result (replay_telling _) c.in-Ok.ensures.reads c.tell_script.ensures.told)

pub returns-clause-plays : goal.returns-clause-plays
returns-clause-plays g c =
    rw c.told.ensures (plays _ _ _ _ _ _ _ c.in-Ok.text.items c.tell_script.result
    c.requires c.in-Ok.ensures.reads c.tell_script.ensures.told c.tell_script.ensures.script)

pub returns-in-Err-Failed-clause-delivered : goal.returns-in-Err-Failed-clause-delivered
returns-in-Err-Failed-clause-delivered g c =
    delivered_unread (replay_told (start_of [] c.args.options)) (g.I.Source.left c.args.input.now)
    (g.I.Source.left c.read_text.new.input) _ _ _ _
    (c.in-Err-Failed.ensures.failed (rw c.in-Err-Failed.field-0-is refl))

pub returns-in-Err-NoMemory-clause-delivered : goal.returns-in-Err-NoMemory-clause-delivered
returns-in-Err-NoMemory-clause-delivered g c =
    delivered_none (replay_told _) (g.I.Source.left c.args.input.now)
    (g.I.Source.left c.read_text.new.input) _ (g.I.Source.faults c.args.input.now)
    (g.I.Source.faults c.read_text.new.input) _
