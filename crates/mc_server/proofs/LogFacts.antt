-- What a log adds to another: the world after both, what is counted in both, and what writes and
-- closings leave alone.
use Rattle.std.proofs.Common.{◌≡◌, ◌≢◌, ◌+◌, ℕ, Bool, false, cond, List, [], ◌∷◌, ◌++◌, map, Option}
use Rattle.std.proofs.Common.{Some, None, refl, sym, ap, ◌∙◌, inl, inr, arith, append-nil}
use Rattle.std.proofs.lemmas.Bool.Decides.{nat_tests}
use Rattle.std.specs.List.{count_by}
use Rattle.std.specs.FinMap.{get}
use Rattle.std.proofs.lemmas.Grind.{flat_map-append}
use Rattle.std.proofs.lemmas.List.Elements.{Contains-append_left, Contains-append_right}
use Rattle.std.proofs.lemmas.List.Sums.{sum_by-append, sum_by-cons}
use Rattle.mc_wire.specs.declared.log.LogEntry.{LogEntry}
use Rattle.mc_wire.specs.declared.log.LogEntry.TheVariants.{Closed, Stalled}
use Rattle.mc_wire.specs.LobbyTold.{LobbyTold}
use Rattle.mc_wire.proofs.LobbyCalls.{Logs-trans}
use Rattle.mc_model.specs.declared.cause.Cause.{Cause}
use Rattle.mc_model.specs.declared.cause.Cause.TheVariants as causes
use Rattle.mc_model.specs.Log.{log_of, logged}
use Rattle.mc_model.specs.Step.{broke, took, depart, step, take_from}
use Rattle.mc_model.specs.Link.{Link, gone}
use Rattle.mc_model.specs.World.{Seat, Turn, World, on_link, on_seat, seat_of}
use Rattle.mc_model.specs.Run.{owed_in, owed_of}
use Rattle.mc_model.specs.Turns.{AreTurns, AreWrites, IsTurn, IsWrite}
use Rattle.mc_model.proofs.Maps.Lookups.{put_same}
use Rattle.mc_laws.proofs.Runs.Effects.{seat_rests}
use Rattle.mc_laws.proofs.Serving.Logs.{logged_more}
use Rattle.mc_events.specs.Served.{ServerValue}
use Rattle.mc_events.proofs.Numbers.{keys_kept}
use Rattle.mc_server.specs.Drives.{ours_at, ours_in}
use Rattle.mc_server.specs.TurnParts.{Adds, IsServed, numbers_in}

-- ---- one log behind another

pub log_of_more : (turns : List (List LogEntry)) (turn : List LogEntry) →
    log_of (turns ++ turn ∷ []) ≡ log_of turns ++ turn
log_of_more turns turn = flat_map-append (λ (t : List LogEntry). t) turns (turn ∷ [])
    ∙ ap (λ (t : List LogEntry). log_of turns ++ t) (append-nil turn)

pub ours_append : (w : World) (xs ys : List LogEntry) →
    ours_in w (xs ++ ys) ≡ ours_in w xs + ours_in (logged w xs) ys
ours_append w [] ys = omega arith
ours_append w (x ∷ xs) ys = grind (arith, nat_tests, ours_append (logged w (x ∷ [])) xs ys)

pub writes_append : (w : World) (xs ys : List LogEntry) → AreWrites w xs →
    AreWrites (logged w xs) ys → AreWrites w (xs ++ ys)
writes_append w [] ys first second = second
writes_append w (x ∷ xs) ys first second =
    grind (arith, nat_tests, writes_append (logged w (x ∷ [])) xs ys first.1)

pub turns_more : (w : World) (turns : List (List LogEntry)) (turn : List LogEntry) →
    AreTurns w turns → IsTurn (logged w (log_of turns)) turn → AreTurns w (turns ++ turn ∷ [])
turns_more w [] turn all one = (one, tt)
turns_more w (first ∷ turns) turn all one =
    grind (arith, nat_tests, turns_more (logged w first) turns turn all.1, logged_more)

-- what was added to a log, and what was added behind it
pub adds_more : (old mid new : Option LobbyTold) (w : World) (before after : ServerValue)
    (xs ys : List LogEntry) → Adds old mid w before xs → Adds mid new (logged w xs) after ys →
    Adds old new w after (xs ++ ys)
adds_more old mid new w before after xs ys a b = record {
  told = Logs-trans old mid new xs ys a.told b.told;
  stands = rw (logged_more w xs ys) b.stands;
}

-- ---- counting

-- what no write and no closing is
pub record IsNoWrite (test : LogEntry → Bool) : Type 0 where
  pub writes : (w : World) (x : LogEntry) → IsWrite w x → test x ≡ false
  pub closings : (k : ℕ) → test (Closed k) ≡ false

writes_count : (test : LogEntry → Bool) → IsNoWrite test → (w : World) (xs : List LogEntry) →
    AreWrites w xs → count_by test xs ≡ 0
writes_count test none w [] are = refl
writes_count test none w (x ∷ xs) are = grind (
  arith,
  nat_tests,
  none.writes w x are.0,
  writes_count test none (logged w (x ∷ [])) xs are.1,
)

closings_count : (test : LogEntry → Bool) → IsNoWrite test → (ks : List ℕ) →
    count_by test (map Closed ks) ≡ 0
closings_count test none [] = refl
closings_count test none (k ∷ ks) =
    grind (arith, nat_tests, none.closings k, closings_count test none ks)

-- of a turn, what is neither a write nor a closing is what happened
pub turn_count : (test : LogEntry → Bool) → IsNoWrite test → (w : World) (entry : LogEntry)
    (writes : List LogEntry) (ks : List ℕ) → AreWrites w writes →
    count_by test (entry ∷ writes ++ map Closed ks) ≡ cond (test entry) 1 0
turn_count test none w entry writes ks are =
    let one : LogEntry → ℕ = λ y. cond (test y) 1 0 in
    let all = sum_by-cons one entry (writes ++ map Closed ks) in
    let both = sum_by-append one writes (map Closed ks) in
    let first = writes_count test none w writes are in
    let second = closings_count test none ks in
    omega (arith, all, both, first, second)

pub ticks_more : (turns : List (List LogEntry)) (turn : List LogEntry) (test : LogEntry → Bool) →
    count_by test (log_of (turns ++ turn ∷ [])) ≡ count_by test (log_of turns) + count_by test turn
ticks_more turns turn test = grind (arith, nat_tests, log_of_more, sum_by-append)

-- no write closes anything
ours_write : (w : World) (x : LogEntry) → IsWrite w x → ours_at w x ≡ 0
ours_write w x is = grind (arith, nat_tests)

pub ours_writes : (w : World) (xs : List LogEntry) → AreWrites w xs → ours_in w xs ≡ 0
ours_writes w [] are = refl
ours_writes w (x ∷ xs) are =
    grind (arith, nat_tests, ours_write w x are.0, ours_writes (logged w (x ∷ [])) xs are.1)

-- ---- what a write leaves as it was

pub record Keeps (k : ℕ) (w v : World) : Type 0 where
  pub others : (j : ℕ) → j ≢ k → get v.links j ≡ get w.links j
  pub numbers : numbers_in v ≡ numbers_in w

pub keeps_same : (k : ℕ) (w : World) → Keeps k w w
keeps_same k w = record { others = λ j ne. refl; numbers = refl }

-- by more entries
pub keeps_more : (k : ℕ) (w : World) (xs ys : List LogEntry) → Keeps k w (logged w xs) →
    Keeps k (logged w xs) (logged (logged w xs) ys) → Keeps k w (logged w (xs ++ ys))
keeps_more k w xs ys a b = rw (logged_more w xs ys) (record {
  others = λ j ne. b.others j ne ∙ a.others j ne;
  numbers = b.numbers ∙ a.numbers;
})

-- a step of one connection
pub seat_keeps : (k : ℕ) (w : World) (f : Seat → Turn) → Keeps k w (on_seat w k f).world
seat_keeps k w f = record {
  others = λ j ne. (seat_rests w j k f (λ same. ne (sym same))).0;
  numbers = at_link (get w.links k) refl;
}
  where
    at_link : (o : Option Link) → get w.links k ≡ o →
        numbers_in (on_link w k f o).world ≡ numbers_in w
    at_link None is = refl
    at_link (Some l) is = keys_kept w.links k l (f (seat_of w k l)).seat.link is

pub took_keeps : (k n : ℕ) (w : World) → Keeps k w (step w (took k n)).world
unfolding step
took_keeps k n w = seat_keeps k w (take_from n)

pub broke_keeps : (k : ℕ) (w : World) → Keeps k w (step w (broke k)).world
unfolding step
broke_keeps k w = seat_keeps k w (depart k causes.Broke)

-- who is gone is owed nothing
gone_owed : (cause : Cause) (l : Link) → (gone cause l).owed ≡ []
gone_owed cause l = grind (arith, nat_tests)

pub broke_owes : (k : ℕ) (w : World) → owed_in k (step w (broke k)).world ≡ []
unfolding step
broke_owes k w = at_link (get w.links k) refl
  where
    at_link : (o : Option Link) → get w.links k ≡ o →
        owed_in k (on_link w k (depart k causes.Broke) o).world ≡ []
    at_link None is = ap owed_of is
    at_link (Some l) is = ap owed_of (put_same w.links k (gone causes.Broke l))
        ∙ gone_owed causes.Broke l

-- ---- who is served

pub served_more : (w : World) (xs ys : List LogEntry) (k : ℕ) → IsServed (logged w xs) ys k →
    IsServed w (xs ++ ys) k
served_more w xs ys k served = elim served [
  | inl none ↦ inl (ap (owed_in k) (logged_more w xs ys) ∙ none)
  | inr stalled ↦ inr (Contains-append_right xs ys (Stalled k) stalled)
]

-- one that is owed what it was
pub served_still : (w : World) (xs ys : List LogEntry) (k : ℕ) →
    owed_in k (logged (logged w xs) ys) ≡ owed_in k (logged w xs) → IsServed w xs k →
    IsServed w (xs ++ ys) k
served_still w xs ys k same served = elim served [
  | inl none ↦ inl (ap (owed_in k) (logged_more w xs ys) ∙ same ∙ none)
  | inr stalled ↦ inr (Contains-append_left xs ys (Stalled k) stalled)
]
