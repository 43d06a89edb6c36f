use Rattle.std.proofs.Common.{arith, rules, sym, subst}
use Rattle.mc_model.proofs.PatternFacts.{degrees_one}
use Rattle.mc_sending.specs.Sending.{IsClear}
use Rattle.mc_flush.proofs.Placings.{IsHeld, pattern_at, placing_is, placing_clear}
use Rattle.mc_flush.proofs.notes.placing_packet.Goals as goal

pub returns-clause-value : goal.returns-clause-value
returns-clause-value c =
    let s = c.args.place.now in
    placing_is s c.pattern.result c.pattern-2.result c.pattern-3.result c.degrees.result
    c.degrees-2.result
    (pattern_at s.x c.pattern.result (search rules) c.pattern.type_inv c.pattern.ensures.zero
    c.pattern.ensures.stands)
    (pattern_at s.y c.pattern-2.result (search rules) c.pattern-2.type_inv c.pattern-2.ensures.zero
    c.pattern-2.ensures.stands)
    (pattern_at s.z c.pattern-3.result (search rules) c.pattern-3.type_inv c.pattern-3.ensures.zero
    c.pattern-3.ensures.stands)
    (degrees_one s.yaw c.degrees.result (omega arith) c.degrees.type_inv c.degrees.ensures.zero
    c.degrees.ensures.stands)
    (degrees_one s.pitch c.degrees-2.result (omega arith) c.degrees-2.type_inv
    c.degrees-2.ensures.zero c.degrees-2.ensures.stands)

pub returns-clause-clear : goal.returns-clause-clear
returns-clause-clear c =
    let held : IsHeld c.args.place.now =
    record {
      x = search rules;
      y = search rules;
      z = search rules;
      yaw = omega arith;
      pitch = omega
          arith;
    } in
    subst IsClear (sym (returns-clause-value c)) (placing_clear c.args.place.now held)
