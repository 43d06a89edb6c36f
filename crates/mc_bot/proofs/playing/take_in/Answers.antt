use Rattle.std.proofs.Common.{refl}
use Rattle.mc_bot.proofs.Taking.{not_refused}
use Rattle.mc_bot.proofs.playing.take_in.Goals as goal

pub returns-in-Ok : goal.returns-in-Ok
returns-in-Ok g c = (
  not_refused _ (λ fault is. let wrong = (c.in-Ok.ensures.fault fault).1 is in absurd cc),
  c.in-Ok.ensures.ok,
)

pub returns-in-Err-Field : goal.returns-in-Err-Field
returns-in-Err-Field g c =
    let is = c.in-Err-Field.field-0-is in
    (c.in-Err-Field.ensures.fault c.in-Err-Field.fault).0 (rw is refl)
