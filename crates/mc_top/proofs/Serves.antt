-- What `serve` made of a lobby, by how serving it ended.
use Rattle.std.proofs.Common.{◌≡◌, ℕ, List, Option, Result, Ok, Err, inl, inr, subst, ap}
use Rattle.std.proofs.Common.{◌∙◌}
use Rattle.std.proofs.Common.{arith}
use Rattle.std.proofs.lemmas.Bool.Decides.{nat_tests}
use Rattle.mc_wire.specs.Becoming.{ToldBecomes}
use Rattle.mc_wire.specs.Count.{NeverFalls, Rose}
use Rattle.mc_wire.specs.LobbyTold.{LobbyTold, with_pace}
use Rattle.mc_model.specs.Minds.{Plans}
use Rattle.mc_server.specs.declared.service.Budget.{Budget}
use Rattle.mc_server.specs.declared.service.DriveFault.{DriveFault}
use Rattle.mc_server.specs.declared.service.DriveFault.TheVariants.{Listen, Next, Events, NoMemory}
use Rattle.mc_server.specs.declared.service.Ended as drives
use Rattle.mc_server.specs.declared.service.Tally.{Tally}
use Rattle.mc_server.specs.Drives.{DroveNew}
use Rattle.mc_events.specs.Served.{ServerValue, age_of}
use Rattle.mc_words.specs.declared.arguments.ServeOptions.{ServeOptions}
use Rattle.mc_words.specs.declared.ended.Ended.TheVariants as ended
use Rattle.mc_top.specs.ReplayPromise.{start_of}
use Rattle.mc_top.specs.ServePromise.{HasLost, HasServed, HasServedAll, HasSpent}
use Rattle.mc_top.specs.ServePromise.{budget_of, ended_by, summary_line, tally_of}

module _ (plans : Plans) (options : ServeOptions) (old paced new : Option LobbyTold)
    (pace : ToldBecomes old paced (with_pace options.pace)) (budget : Budget)
    (is : budget ≡ budget_of options) where
  -- it was served by a server of a new world
  pub has_served : (server : ServerValue) (result : Result drives.Ended DriveFault) →
      DroveNew budget paced new (start_of plans options.world) server result →
      HasServed plans options old new result
  has_served server result drove =
      let P : Budget → Type 0 =
      λ b. DroveNew b paced new (start_of plans options.world) server result in
      record { paced = paced; pace = pace; server = server; drove = subst P is drove }

  -- it was served to its end, and this line sums that up
  pub served_all : (server : ServerValue) (end : drives.Ended) (ticks : ℕ) (tally : Tally) →
      DroveNew budget paced new (start_of plans options.world) server (Ok end) →
      ticks ≡ age_of server → tally ≡ tally_of end →
      HasServedAll plans options old new (summary_line ticks tally)
  unfolding has_served
  served_all server end ticks tally drove age counted =
      let s = has_served server (Ok end) drove in
      record {
        end = end;
        served = s;
        summary = ap (λ (n : ℕ). summary_line n tally) (age ∙ s.drove.drove.age (λ e. cc))
            ∙ ap (summary_line _) counted;
      }

-- serving ended by a fault
abbrev fails : DriveFault → Result drives.Ended DriveFault
fails fault = Err fault

module _ (plans : Plans) (options : ServeOptions) (old new : Option LobbyTold) where
  -- the lobby was lost by it
  pub lost_by : (fault : DriveFault) → HasServed plans options old new (fails fault) →
      ended_by fault ≡ ended.NetFault → HasLost plans options old new
  lost_by Listen served is = inl served
  lost_by Next served is = inr served
  lost_by (Events n) served is = absurd cc
  lost_by NoMemory served is = absurd cc

  -- all events that may come did
  pub spent_by : (fault : DriveFault) (n : ℕ) → HasServed plans options old new (fails fault) →
      ended_by fault ≡ ended.Budget n → HasSpent plans options n old new
  spent_by (Events m) n served is =
      let P : ℕ → Type 0 = λ k. HasSpent plans options k old new in
      let same : m ≡ n = cc in
      subst P same served
  spent_by Listen n served is = absurd cc
  spent_by Next n served is = absurd cc
  spent_by NoMemory n served is = absurd cc

-- its faults rose then, over all calls
pub rose_by : (before mid after : ℕ) (fault : DriveFault) → NeverFalls before mid →
    (fails fault ≡ fails Listen → Rose mid after) → (fails fault ≡ fails Next → Rose mid after) →
    ended_by fault ≡ ended.NetFault → Rose before after
rose_by before mid after fault falls unheard failed is = grind (arith, nat_tests)
