use Rattle.std.proofs.Common.{refl}
use Rattle.mc_words.proofs.Delivering.{delivered, delivered_none, delivered_unread, tells_of}
use Rattle.mc_status.specs.StatusText.{status_told}
use Rattle.mc_top.proofs.LongTexts.{status_telling}
use Rattle.mc_top.proofs.command.status.Goals as goal

pub returns : goal.returns
returns g c =
    let told = status_told c.args.most in
    let text = c.in-Ok.text.items in
    let w = rw c.deref.ensures.value at c.write_status.ensures in
    rw c.told.ensures (delivered told _ _ _ _ _ _ _ _ text c.write_status.result
    (status_telling c.args.most) c.in-Ok.ensures.reads
    (tells_of (told text) c.write_status.result _ _ _ _ w.text w.fault w.stopped w.failed
    w.counts))

pub returns-in-Err-Failed : goal.returns-in-Err-Failed
returns-in-Err-Failed g c =
    delivered_unread (status_told c.args.most) (g.I.Source.left c.args.input.now)
    (g.I.Source.left c.read_text.new.input) _ _ _ _
    (c.in-Err-Failed.ensures.failed (rw c.in-Err-Failed.field-0-is refl))

pub returns-in-Err-NoMemory : goal.returns-in-Err-NoMemory
returns-in-Err-NoMemory g c =
    delivered_none (status_told c.args.most) (g.I.Source.left c.args.input.now)
    (g.I.Source.left c.read_text.new.input) _ (g.I.Source.faults c.args.input.now)
    (g.I.Source.faults c.read_text.new.input) _
