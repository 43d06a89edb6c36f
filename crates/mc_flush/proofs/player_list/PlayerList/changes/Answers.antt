use Rattle.std.proofs.Common.{◌≤◌, length, sym, subst, ◌∙◌}
use Rattle.std.specs.List.{AllByRecursion}
use Rattle.mc_flush.specs.Seeing.{IsNamed}
use Rattle.mc_flush.proofs.Missing.{Players}
use Rattle.mc_flush.proofs.Changes.{changes_put, missing_few, missing_named}
use Rattle.mc_flush.proofs.player_list.PlayerList.changes.Goals as goal

pub put_left-requires : goal.put_left-requires
put_left-requires c =
    let list = c.args.self.now in
    subst (λ (es : Players). length es ≤ 50) (sym c.in_ok-left.ensures)
    (missing_few list.last list.present c.requires.few_before)

pub put_came-requires : goal.put_came-requires
put_came-requires c =
    let list = c.args.self.now in
    record {
      few = subst (λ (es : Players). length es ≤ 50) (sym c.in_ok-came.ensures)
          (missing_few list.present list.last c.requires.few);
      named = subst (AllByRecursion IsNamed) (sym c.in_ok-came.ensures)
          (missing_named list.present list.last c.requires.named);
    }

pub returns : goal.returns
returns c =
    c.in_ok-from_vec.ensures.ok
    ∙ changes_put c.args.self.now _ _ c.new-bytes.result.items c.put_left.new.out.items
    c.put_came.new.out.items
    c.in_ok-left.ensures c.in_ok-came.ensures c.new-bytes.ensures.items c.in_ok-put_left.ensures
    c.in_ok-put_came.ensures
