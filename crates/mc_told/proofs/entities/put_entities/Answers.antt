use Rattle.std.proofs.Common.{ℕ, ◌+◌, ◌∙◌, List, ◌++◌, ap, drop, refl}
use Rattle.std.proofs.lemmas.List.{append-nil, drop_more}
use Rattle.mc_model.specs.Sight.{others}
use Rattle.mc_sending.specs.Sending.{play_bytes}
use Rattle.mc_told.specs.Runs.{LooksValue}
use Rattle.mc_told.specs.Telling.{rows_in, rows_packets}
use Rattle.mc_told.proofs.Told.{step_kept, step_sent}
use Rattle.mc_told.proofs.entities.put_entities.Goals as goal

pub loop-entity-init : goal.loop-entity-init
loop-entity-init c =
    let v = c.args.view.now in
    let out = c.args.out.now.items in
    let all = play_bytes (rows_packets c.args.told.now
    (rows_in v.view (others v.me c.args.entities.now))) in
    let none = ap (λ (looks : LooksValue). looks.due) c.new-encoded.ensures in
    record {
      encoded = ap (λ (looks : LooksValue). looks.encoded) c.new-encoded.ensures;
      looks = c.looks-looks.ensures;
      sent = ap (λ (due : List ℕ). (out ++ due) ++ all) none
          ∙ ap (λ (t : List ℕ). t ++ all) (append-nil out);
      kept = refl;
    }

pub loop-entity-preserved : goal.loop-entity-preserved
loop-entity-preserved c =
    let v = c.args.view.now in
    let es = c.args.entities.now in
    let i = c.loop-entity.entity-index in
    let h = c.loop-entity.invariant in
    let is = drop_more es i _ c.loop-entity-test.true in
    record {
      encoded = c.put_entity.ensures.encoded ∙ h.encoded;
      looks = c.in_ok-put_entity.ensures.same ∙ h.looks;
      sent = step_sent v.view v.me _ (drop i es) (drop (i + 1) es) is c.args.told.now
          c.loop-entity.looks (c.loop-entity.out.items ++ c.loop-entity.encoded.due)
          (c.put_entity.new.out.items ++ c.put_entity.new.encoded.due) _ h.looks
          c.in_ok-put_entity.ensures.sent h.sent;
      kept = step_kept v.view v.me _ (drop i es) (drop (i + 1) es) is c.loop-entity.now
          c.put_entity.new.now _ c.in_ok-put_entity.ensures.now h.kept;
    }
