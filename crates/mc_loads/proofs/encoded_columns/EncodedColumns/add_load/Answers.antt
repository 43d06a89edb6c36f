use Rattle.std.proofs.Common.{◌≡◌, ℕ, List, false, rules, sym, subst, ap, ◌∙◌}
use Rattle.std.specs.FinMap.{FinMap, from_entries, insert}
use Rattle.mc_land.specs.Places.{place_cmp}
use Rattle.mc_land.proofs.Orders.{places_total, exact_places}
use Rattle.mc_loads.specs.ColumnFrames.{AreColumnFrames, ColumnsValue, has_load, load_bytes}
use Rattle.mc_loads.proofs.ColumnFrames.{load_added, load_new}
use Rattle.mc_bytes.proofs.Trees.{entry_put}
use Rattle.mc_loads.proofs.encoded_columns.EncodedColumns.add_load.Goals as goal

pub returns-clause-ok : goal.returns-clause-ok
returns-clause-ok g c =
    let old = c.args.self.now in
    let land = c.args.land.now in
    let place = c.args.place.now in
    let none : has_load old place ≡ false = search rules in
    let inside = c.self.inside in
    let es = inside.loads.entries in
    let piece : List ℕ = c.in_ok-piece.piece in
    let put : from_entries {R = place_cmp} c.insert.new.self.entries ≡ insert (from_entries es)
    place piece =
    entry_put places_total exact_places es c.insert.new.self.entries place piece
    (λ q. c.in_ok-insert.ensures.updates.0 q) in
    load_new old _ land place none
    (ap (λ (m : FinMap place_cmp (List ℕ)). record {
      loads = m;
      changes = from_entries inside.changes.entries;
    }) put
    ∙ ap (λ (v : List ℕ). record {
      loads = insert (from_entries {R =
          place_cmp} es) place v;
      changes = from_entries inside.changes.entries;
    }) c.in_ok-piece.ensures.is
    ∙ ap (λ (e : ColumnsValue). record e { loads = insert e.loads place (load_bytes land place) })
    c.self.view_is)

pub returns-clause-frames : goal.returns-clause-frames
returns-clause-frames g c = λ frames.
    subst (AreColumnFrames c.args.land.now) (sym (returns-clause-ok g c))
    (load_added c.args.land.now c.args.self.now c.args.place.now frames)
