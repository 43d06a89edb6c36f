use Rattle.std.proofs.Common.{rules}
use Rattle.mc_capture_rows.proofs.tapes.run.Goals as goal

pub returns : goal.returns
returns g c = (
  c.run_since-taped.result.state,
  λ a b xs ys first is held held'. c.run_since-taped.ensures.tape a b xs ys
      (search rules) (search rules) (search rules) (search rules),
)
