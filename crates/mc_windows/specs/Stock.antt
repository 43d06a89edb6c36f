-- How many items of one sort (id and damage) a pack, a chest and a desk hold (rules of this
-- project).
use Rattle.std.specs.Prelude.{ℕ, ◌+◌, List, Option, Some, None}
use Rattle.std.specs.List.{sum_by}
use Rattle.mc_slots.specs.declared.pile.Pile.{Pile}
use Rattle.mc_slots.specs.Pile.{Sort, held}
use Rattle.mc_windows.specs.Pack.{PackValue}

abbrev pub in_piles : Sort → List Pile → ℕ
in_piles sort piles = sum_by (held sort) piles

abbrev pub in_pack : Sort → PackValue → ℕ
in_pack sort pack = in_piles sort pack.slots + held sort pack.cursor

abbrev pub in_chest : Sort → Option (List Pile) → ℕ
in_chest sort None = 0
in_chest sort (Some piles) = in_piles sort piles
