use Rattle.std.proofs.Common.{◌≡◌, ℕ, ◌+◌, ◌*◌, ◌<◌, length, get_or}
use Rattle.mc_land.specs.Terrain.{hills_id}
use Rattle.mc_land.proofs.growing.push_tops.Given as goal

-- the cells below the place come after what was there
abbrev pub invariant-loop-top : goal.invariant-loop-top
invariant-loop-top l =
    (length l.out.items ≡ length l.fn.out.items + l.top-index)
    × ((k : ℕ) → k < length l.fn.out.items → get_or l.out.items k 0 ≡ get_or l.fn.out.items k 0)
    × ((k : ℕ) → k < l.top-index → get_or l.out.items (length l.fn.out.items + k) 0 ≡
    hills_id (get_or l.tops k 0) l.y * 16)
