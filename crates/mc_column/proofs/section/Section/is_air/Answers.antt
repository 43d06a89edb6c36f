use Rattle.std.proofs.lemmas.Bool.{eq-eqb, eqb-true}
use Rattle.mc_column.specs.Cells.{paired}
use Rattle.mc_column.proofs.KeptFacts.{air_counted, counted_test}
use Rattle.mc_column.proofs.section.Section.is_air.Goals as goal

pub returns-clause-value : goal.returns-clause-value
returns-clause-value c =
    rw (← c.self.view_is) (
      (λ h. (air_counted _ _ c.self.invariant.counted).0 (eqb-true _ _ h)),
      (λ air. eq-eqb _ _ ((air_counted _ _ c.self.invariant.counted).1 air)),
    )

pub returns-clause-test : goal.returns-clause-test
returns-clause-test c = rw (← c.self.view_is) (counted_test (paired c.self.inside.bytes.items) _
    c.self.invariant.counted)
