-- The promise of `serve`, from what its function says and from its last line.
use Rattle.std.proofs.Common.{◌≡◌, ℕ, ◌⊎◌, inl, inr, List, Option, sym, subst, refl, ap, ◌∙◌}
use Rattle.std.proofs.Common.{arith, Bool, true, false}
use Rattle.std.proofs.lemmas.Bool.Decides.{nat_tests}
use Rattle.mc_wire.specs.Count.{Rose}
use Rattle.mc_wire.specs.LobbyCounts.{LobbyCounts}
use Rattle.mc_wire.specs.LobbyTold.{LobbyTold}
use Rattle.mc_model.specs.Minds.{Plans}
use Rattle.mc_words.specs.declared.arguments.ServeOptions.{ServeOptions}
use Rattle.mc_words.specs.declared.ended.Ended.{Ended}
use Rattle.mc_words.specs.declared.ended.Ended.TheVariants as ended
use Rattle.mc_words.specs.Devices.{Devices, LinkDevice, WroteLast, devices}
use Rattle.mc_words.specs.Ended.{budget_line, net_fault_line}
use Rattle.mc_words.specs.Finishing.{Finishes}
use Rattle.mc_top.specs.RecordPromise.{Records, ServePromise, ServesBy}
use Rattle.mc_top.specs.ServePromise.{EndsServing, HasLost, HasServedPart, HasSpent, Summed}
use Rattle.mc_top.specs.ServePromise.{SummedPart, Sums}

-- nothing was written since
still_holds : (P : Option (List ℕ) → Type 0) (held held' : Option (List ℕ)) → held' ≡ held →
    P held → P held'
still_holds P held held' same holds = subst P (sym same) holds

pub still_rose : (faults mid faults' : ℕ) → faults' ≡ mid → Rose faults mid → Rose faults faults'
still_rose faults mid faults' same rose = grind (arith, nat_tests)

-- nothing was written before the last line
pub only_last : (A : Type 0) (view : A → Option (List ℕ)) (count : A → ℕ) (old mid new : A)
    (line : List ℕ) → mid ≡ old → WroteLast (view mid) (view new) (count mid) (count new) line →
    WroteLast (view old) (view new) (count old) (count new) line
only_last A view count old mid new line same wrote = grind (arith, nat_tests)

-- what `serve` says of how it ended
pub record ServeEnded (A : Type 0) (view : A → Option (List ℕ)) (count : A → ℕ)
    (plans : Plans) (options : ServeOptions) (how : Ended)
    (told told' : Option LobbyTold) (counts counts' : LobbyCounts) (old mid : A) : Type 0 where
  pub done : how ≡ ended.Done → Summed plans options told told' (view old) (view mid)
  pub no_memory : how ≡ ended.NoMemory → HasServedPart plans options told told' × (mid ≡ old)
  pub ends : EndsServing how
  pub write_fault : how ≡ ended.WriteFault →
      Rose (count old) (count mid) × SummedPart plans options told told' (view old) (view mid)
  pub net_fault : how ≡ ended.NetFault →
      Rose counts.faults counts'.faults × HasLost plans options told told' × (mid ≡ old)
  pub budget : (n : ℕ) → how ≡ ended.Budget n → HasSpent plans options n told told' × (mid ≡ old)

-- the promise holds once the last line is written
pub serve_kept : (A : Type 0) (view : A → Option (List ℕ)) (count : A → ℕ)
    (plans : Plans) (options : ServeOptions) (how result : Ended)
    (told told' : Option LobbyTold) (counts counts' : LobbyCounts) (link : LinkDevice)
    (left : Option (List ℕ)) (reads : ℕ) (old mid new : A) →
    ServeEnded A view count plans options how told told' counts counts' old mid →
    Finishes how result (view mid) (view new) (count mid) (count new) →
    Sums plans options result (devices told counts link left reads (view old) (count old))
    (devices told' counts' link left reads (view new) (count new))
serve_kept A view count plans options how result told told' counts counts' link left reads old mid
    new s f = kept how s f
  where
    P : Ended → Type 0
    P e = Sums plans options e (devices told counts link left reads (view old) (count old))
        (devices told' counts' link left reads (view new) (count new))

    kept : (e : Ended) →
        ServeEnded A view count plans options e told told' counts counts' old mid →
        Finishes e result (view mid) (view new) (count mid) (count new) → P result
    kept ended.Done said last = subst P (sym last.0)
        (still_holds (λ h. Summed plans options told told' (view old) h) (view mid) (view new)
        last.1.0 (said.done refl))
    kept ended.NoMemory said last = let asked = said.no_memory refl in
        subst P (sym last.0) (asked.0, last.1.0 ∙ ap view asked.1)
    kept ended.Usage said last = absurd said.ends
    kept ended.ReadFault said last = absurd said.ends
    kept ended.WriteFault said last = let fault = said.write_fault refl in
        subst P (sym last.0) (
          still_rose (count old) (count mid) (count new) last.1.1 fault.0,
          still_holds (λ h. SummedPart plans options told told' (view old) h) (view mid) (view new)
              last.1.0 fault.1,
        )
    kept ended.NetFault said last = let fault = said.net_fault refl in
        subst P (sym last.0) (
          fault.0,
          fault.1,
          only_last A view count old mid new net_fault_line fault.2 last.1,
        )
    kept (ended.BadInput bad) said last = absurd said.ends
    kept (ended.Refused why) said last = absurd said.ends
    kept (ended.Budget n) said (inl last) = let spent = said.budget n refl in
        subst P (sym last.0)
        (spent.0, only_last A view count old mid new (budget_line n) spent.1 last.1)
    kept (ended.Budget n) said (inr last) = let spent = said.budget n refl in
        subst P (sym last.0)
        (inr (_, spent.0), last.1.0 ∙ ap view spent.1)

-- a lobby is served, unless memory runs out, a device fails or all events that may come did
serve_served_by : (capture : Bool) (plans : Plans) (options : ServeOptions) (how : Ended)
    (before after : Devices) → ServesBy capture plans options how before after →
    ¬ Rose before.write_faults after.write_faults →
    ¬ Rose before.counts.faults after.counts.faults →
    ((how ≡ ended.Done) ⊎ ((n : ℕ) × (how ≡ ended.Budget n))) ⊎ (how ≡ ended.NoMemory)
serve_served_by capture plans options ended.Done before after p writes faults = inl (inl refl)
serve_served_by capture plans options ended.NoMemory before after p writes faults = inr refl
serve_served_by capture plans options (ended.Budget n) before after p writes faults =
    inl (inr (n, refl))
serve_served_by false plans options ended.Usage before after p writes faults = absurd p
serve_served_by false plans options ended.ReadFault before after p writes faults = absurd p
serve_served_by false plans options ended.WriteFault before after p writes faults =
    absurd (writes p.0)
serve_served_by false plans options ended.NetFault before after p writes faults = absurd (faults p.0)
serve_served_by false plans options (ended.BadInput bad) before after p writes faults = absurd p
serve_served_by false plans options (ended.Refused why) before after p writes faults = absurd p
serve_served_by true plans options ended.Usage before after p writes faults = absurd p
serve_served_by true plans options ended.ReadFault before after p writes faults = absurd p
serve_served_by true plans options ended.WriteFault before after p writes faults =
    absurd (writes p.0)
serve_served_by true plans options ended.NetFault before after p writes faults = absurd (faults p.0)
serve_served_by true plans options (ended.BadInput bad) before after p writes faults = absurd p
serve_served_by true plans options (ended.Refused why) before after p writes faults = absurd p

pub serve_served : (plans : Plans) (options : ServeOptions) (how : Ended)
    (before after : Devices) →
    ServePromise plans options how before after → ¬ Rose before.write_faults after.write_faults →
    ¬ Rose before.counts.faults after.counts.faults →
    ((how ≡ ended.Done) ⊎ ((n : ℕ) × (how ≡ ended.Budget n))) ⊎ (how ≡ ended.NoMemory)
serve_served plans options = serve_served_by options.capture plans options
