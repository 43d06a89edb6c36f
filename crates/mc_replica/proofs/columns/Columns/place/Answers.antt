use Rattle.std.proofs.Common.{rules, ◌≡◌, ◌<◌, ◌≤◌, get_or, length}
use Rattle.mc_land.specs.Places.{place_cmp}
use Rattle.mc_replica.proofs.Rows.{key_at, no_key}
use Rattle.mc_replica.proofs.columns.Columns.place.Goals as goal

pub returns : goal.returns
returns c =
    let rows = c.self.inside.rows.items in
    let was = c.index.result.now in
    let read : was ≡ get_or rows c.args.i was = search rules in
    let within : c.args.i < length rows = search rules in
    rw (← c.self.view_is) (key_at place_cmp rows c.args.i was c.self.invariant within read)

pub returns-then-i-as_slice : goal.returns-then-i-as_slice
returns-then-i-as_slice c =
    let rows = c.self.inside.rows.items in
    let past : length rows ≤ c.args.i = search rules in
    rw (← c.self.view_is) (no_key place_cmp rows c.args.i c.self.invariant past)
