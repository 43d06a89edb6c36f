use Rattle.std.proofs.Common.{arith}
use Rattle.mc_fields.proofs.Floors.{raised_low, raised_high, place_few}
use Rattle.mc_fields.proofs.parts.raised.Goals as goal

pub returns-clause-value : goal.returns-clause-value
returns-clause-value c = omega (
  arith,
  raised_high c.args.size c.args.top c.args.place
      c.requires.most c.requires.room,
  place_few c.args.place c.requires.few,
)

pub returns-clause-low : goal.returns-clause-low
returns-clause-low c = omega (
  arith,
  raised_low c.args.size c.args.top c.args.place c.requires.least
      c.requires.room,
  raised_high c.args.size c.args.top c.args.place c.requires.most
      c.requires.room,
  place_few c.args.place c.requires.few,
)

pub returns-clause-high : goal.returns-clause-high
returns-clause-high c = omega (
  arith,
  raised_high c.args.size c.args.top c.args.place
      c.requires.most c.requires.room,
  place_few c.args.place c.requires.few,
)
