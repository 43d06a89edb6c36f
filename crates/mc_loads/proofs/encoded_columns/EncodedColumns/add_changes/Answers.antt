use Rattle.std.proofs.Common.{◌≡◌, ℕ, List, false, rules, sym, subst, ap, ◌∙◌}
use Rattle.std.specs.FinMap.{FinMap, from_entries, insert}
use Rattle.mc_land.specs.Places.{place_cmp}
use Rattle.mc_land.proofs.Orders.{places_total, exact_places}
use Rattle.mc_loads.specs.ColumnFrames.{AreColumnFrames, ColumnsValue, has_changes, change_bytes}
use Rattle.mc_loads.specs.ColumnFrames.{is_clean}
use Rattle.mc_loads.proofs.ColumnFrames.{changes_added, changes_new}
use Rattle.mc_bytes.proofs.Trees.{entry_put}
use Rattle.mc_loads.proofs.encoded_columns.EncodedColumns.add_changes.Goals as goal

pub returns-clause-ok : goal.returns-clause-ok
returns-clause-ok g c =
    let old = c.args.self.now in
    let land = c.args.land.now in
    let place = c.args.place.now in
    let none : has_changes old place ≡ false = search rules in
    let some : is_clean land place ≡ false = search rules in
    let inside = c.self.inside in
    let es = inside.changes.entries in
    let piece : List ℕ = c.in_ok-piece.piece in
    let put : from_entries {R = place_cmp} c.insert.new.self.entries ≡ insert (from_entries es)
    place piece =
    entry_put places_total exact_places es c.insert.new.self.entries place piece
    (λ q. c.in_ok-insert.ensures.updates.0 q) in
    changes_new old _ land place none some
    (ap (λ (m : FinMap place_cmp (List ℕ)). record {
      loads = from_entries inside.loads.entries;
      changes = m;
    }) put
    ∙ ap (λ (v : List ℕ). record {
      loads = from_entries inside.loads.entries;
      changes = insert (from_entries {R = place_cmp} es) place v;
    }) c.in_ok-piece.ensures.is
    ∙ ap (λ (e : ColumnsValue). record e {
      changes = insert e.changes place (change_bytes land place);
    })
    c.self.view_is)

pub returns-clause-frames : goal.returns-clause-frames
returns-clause-frames g c = λ frames.
    subst (AreColumnFrames c.args.land.now) (sym (returns-clause-ok g c))
    (changes_added c.args.land.now c.args.self.now c.args.place.now frames)
