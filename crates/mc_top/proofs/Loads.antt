-- The promise of `load`, with its last line, of which there is none.
use Rattle.std.proofs.Common.{◌≡◌, ℕ, ◌⊎◌, inl, inr, List, Option, refl}
use Rattle.mc_wire.specs.Count.{Rose}
use Rattle.mc_words.specs.declared.arguments.LoadOptions.{LoadOptions}
use Rattle.mc_words.specs.declared.ended.Ended.{Ended}
use Rattle.mc_words.specs.declared.ended.Ended.TheVariants as ended
use Rattle.mc_words.specs.Devices.{Devices}
use Rattle.mc_words.specs.Finishing.{Finishes}
use Rattle.mc_top.specs.LoadPromise.{LoadPromise, Loads}

pub load_kept : (options : LoadOptions) (how result : Ended) (held held' held'' : Option (List ℕ))
    (faults faults' faults'' : ℕ) → Loads options how held held' faults faults' →
    Finishes how result held' held'' faults' faults'' →
    Loads options result held held'' faults faults''
load_kept options how result held held' held'' faults faults' faults'' = by how
  where
    same : (e : Ended) → (result ≡ e) × ((held'' ≡ held') × (faults'' ≡ faults')) →
        Loads options e held held' faults faults' → Loads options result held held'' faults faults''
    same e is said = rw (is.0, is.1.0, is.1.1) said

    by : (e : Ended) → Loads options e held held' faults faults' →
        Finishes e result held' held'' faults' faults'' →
        Loads options result held held'' faults faults''
    by ended.Done said last = same ended.Done last said
    by ended.NoMemory said last = same ended.NoMemory last said
    by ended.Usage said last = absurd said
    by ended.ReadFault said last = absurd said
    by ended.WriteFault said last = same ended.WriteFault last said
    by ended.NetFault said last = absurd said
    by (ended.BadInput bad) said last = absurd said
    by (ended.Budget n) said last = absurd said
    by (ended.Refused why) said last = absurd said

-- a load is told, unless memory runs out or the output fails
pub load_served : (options : LoadOptions) (how : Ended) (before after : Devices) →
    LoadPromise options how before after → ¬ Rose before.write_faults after.write_faults →
    (how ≡ ended.Done) ⊎ (how ≡ ended.NoMemory)
load_served options ended.Done before after p writes = inl refl
load_served options ended.NoMemory before after p writes = inr refl
load_served options ended.Usage before after p writes = absurd p
load_served options ended.ReadFault before after p writes = absurd p
load_served options ended.WriteFault before after p writes = absurd (writes p.0)
load_served options ended.NetFault before after p writes = absurd p
load_served options (ended.BadInput bad) before after p writes = absurd p
load_served options (ended.Budget n) before after p writes = absurd p
load_served options (ended.Refused why) before after p writes = absurd p
