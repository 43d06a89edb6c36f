use Rattle.std.proofs.Common.{length, ◌≡◌, ◌++◌, ◌∷◌, [], ◌∙◌, ap, refl}
use Rattle.mc_land.proofs.KeptLandFacts.{inserted}
use Rattle.mc_land.proofs.ChangeFacts.{index_push}
use Rattle.mc_land.proofs.land.push_ready.Goals as goal

pub returns-clause-indexed : goal.returns-clause-indexed
returns-clause-indexed c =
    let items : c.push.new.self.items ≡ c.args.columns.now.items ++ c.args.ready ∷ [] =
    c.push.ensures.items ∙ rw (c.unwrap.ensures, c.reserve.ensures.items) refl in
    rw items (index_push c.args.columns.now.items c.args.index.now.entries _ c.args.ready
    c.requires.indexed c.requires.new (λ q. inserted c.args.index.now.entries
    c.insert.new.self.entries c.place.result.now c.args.ready.place q _ _
    (c.in_ok-_none.ensures.updates.0 q) c.place.ensures (ap length (c.as_slice.ensures.value ∙
    c.reserve.ensures.items))))
