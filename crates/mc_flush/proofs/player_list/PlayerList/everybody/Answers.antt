use Rattle.std.proofs.Common.{◌≤◌, length, sym, subst, ◌∙◌}
use Rattle.std.specs.List.{AllByRecursion}
use Rattle.std.specs.FinMap as map
use Rattle.mc_flush.specs.Seeing.{IsNamed}
use Rattle.mc_flush.proofs.Missing.{Players}
use Rattle.mc_flush.proofs.Changes.{all_put, missing_few, missing_named}
use Rattle.mc_flush.proofs.player_list.PlayerList.everybody.Goals as goal

pub put_came-requires : goal.put_came-requires
put_came-requires c =
    let list = c.args.self.now in
    record {
      few = subst (λ (es : Players). length es ≤ 50) (sym c.in_ok-all.ensures)
          (missing_few list.present map.empty c.requires.few);
      named = subst (AllByRecursion IsNamed) (sym c.in_ok-all.ensures)
          (missing_named list.present map.empty c.requires.named);
    }

pub returns : goal.returns
returns c =
    c.in_ok-from_vec.ensures.ok
    ∙ all_put c.args.self.now _ c.new-bytes.result.items c.put_came.new.out.items
    c.in_ok-all.ensures
    c.new-bytes.ensures.items c.in_ok-put_came.ensures
