-- No more connections go than come: those that went closed by the server itself, and those that are
-- there, are no more than there were and joined.
use Rattle.std.proofs.Common.{◌≡◌, ◌+◌, ◌≤◌, ℕ, Bool, true, false, cond, List, [], ◌∷◌, length}
use Rattle.std.proofs.Common.{Option, Some, None, refl, sym, ap, ◌∙◌, arith}
use Rattle.std.proofs.lemmas.Bool.Decides.{nat_tests}
use Rattle.std.proofs.lemmas.List.{length-map}
use Rattle.std.proofs.lemmas.List.Sums.{count_by-le-length, length-filter, sum_by-cons}
use Rattle.std.specs.Prelude.{is_some, option_map}
use Rattle.std.specs.List.{count_by}
use Rattle.std.specs.Cmp.{nat_cmp_total}
use Rattle.std.specs.Ordering.{nat_cmp}
use Rattle.std.specs.FinMap.{FinMap, empty_of_len, get, get-empty, keys, len, len-entries}
use Rattle.std.specs.FinMap.{len-insert, len-remove, remove}
use Rattle.mc_wire.specs.declared.log.LogEntry.{LogEntry}
use Rattle.mc_wire.specs.declared.log.LogEntry.TheVariants.{Joined, Came, Left, Ticked, Ended, Put}
use Rattle.mc_wire.specs.declared.log.LogEntry.TheVariants.{Stalled, Broke, Closed}
use Rattle.mc_model.specs.declared.cause.Cause.TheVariants as causes
use Rattle.mc_model.specs.Step.{forgot, depart, join, joining, on_bytes, step, take_from}
use Rattle.mc_model.specs.Link.{Link, is_done}
use Rattle.mc_model.specs.World.{Seat, Turn, World, on_seat}
use Rattle.mc_model.specs.Tick.{tick}
use Rattle.mc_model.specs.Run.{cause_in}
use Rattle.mc_model.specs.Log.{logged}
use Rattle.mc_laws.proofs.Serving.Logs.{AreRight, IsRight, logged_more}
use Rattle.mc_laws.proofs.Walk.Ticking.{after_tick, tick_link}
use Rattle.mc_links.specs.Kept.{is_ours}
use Rattle.mc_events.specs.Asking.{ours_there}
use Rattle.mc_events.proofs.Numbers.{same_keys}
use Rattle.mc_server.specs.Drives.{is_join, one_if, ours_at, ours_in}
use Rattle.mc_server.proofs.LogFacts.{seat_keeps}

-- ---- how many there are

-- as many as keys
len_keys : {X : Type 0} (m : FinMap nat_cmp X) → length (keys m) ≡ len m
len_keys m = grind (arith, length-map, len-entries)

-- with the same keys as many are there
len_alike : (m n : FinMap nat_cmp Link) → keys m ≡ keys n → len m ≡ len n
len_alike m n same = sym (len_keys m) ∙ ap length same ∙ len_keys n

-- without one that was there it is one less
len_less : (m : FinMap nat_cmp Link) (k : ℕ) (l : Link) → get m k ≡ Some l →
    len (remove m k) + 1 ≡ len m
len_less m k l there =
    let less = len-remove nat_cmp_total m k in
    let none : len m ≡ 0 → get m k ≡ None = λ e.
    ap (λ (n : FinMap nat_cmp Link). get n k) (empty_of_len m e) ∙ get-empty nat_cmp k in
    grind (arith, nat_tests)

-- a step of one connection leaves as many
seat_len : (w : World) (k : ℕ) (f : Seat → Turn) →
    len (on_seat w k f).world.links ≡ len w.links
seat_len w k f = len_alike (on_seat w k f).world.links w.links (seat_keeps k w f).numbers

-- so does a tick
tick_len : (w : World) → len (tick w).world.links ≡ len w.links
tick_len w = len_alike (tick w).world.links w.links
    (same_keys (tick w).world.links w.links (λ q. ap is_some (tick_link w q)
    ∙ mapped (λ (l : Link). (after_tick w q l).link) (get w.links q)))
  where
    mapped : (f : Link → Link) (o : Option Link) → is_some (option_map f o) ≡ is_some o
    mapped f None = refl
    mapped f (Some l) = refl

-- one at most joins
join_len : (w : World) (k : ℕ) → len (join w k).links ≤ len w.links + 1
join_len w k = grind (arith, nat_tests, len-insert nat_cmp_total w.links k (joining w))

-- one that is closed and owed nothing goes
forgot_len : (w : World) (k : ℕ) (l : Link) → get w.links k ≡ Some l → is_done l ≡ true →
    len (step w (forgot k)).world.links + 1 ≡ len w.links
unfolding step
forgot_len w k l there done = rw (there, done) (len_less w.links k l there)

-- the server closed no more than are there
pub ours_few : (w : World) → ours_there w ≤ len w.links
ours_few w = grind (arith, nat_tests, length-filter, count_by-le-length, length-map, len-entries)

-- ---- a log

pub one_at_most : (b : Bool) → one_if b ≤ 1
one_at_most true = omega arith
one_at_most false = omega arith

-- one entry
few_entry : (w : World) (x : LogEntry) → IsRight w x →
    ours_at w x + len (logged w (x ∷ [])).links ≤ len w.links + cond (is_join x) 1 0
unfolding step
few_entry w (Joined k) right = let grown = join_len w k in omega (arith, grown)
few_entry w (Came k bytes) right = let same = seat_len w k (λ (s : Seat). on_bytes k s bytes) in
    omega (arith, same)
few_entry w (Left k) right = let same = seat_len w k (depart k causes.Gone) in omega (arith, same)
few_entry w Ticked right = let same = tick_len w in omega (arith, same)
few_entry w Ended right = omega arith
few_entry w (Put k bytes) right = let same = seat_len w k (take_from (length bytes)) in
    omega (arith, same)
few_entry w (Stalled k) right = omega arith
few_entry w (Broke k) right = let same = seat_len w k (depart k causes.Broke) in
    omega (arith, same)
few_entry w (Closed k) right =
    let goes = forgot_len w k right.0 right.1 right.2 in
    let one = one_at_most (is_ours (cause_in k w)) in
    omega (arith, goes, one)

-- all of them
pub few_log : (log : List LogEntry) (w : World) → AreRight w log →
    ours_in w log + len (logged w log).links ≤ len w.links + count_by is_join log
few_log [] w right = omega arith
few_log (x ∷ log) w right =
    let first = few_entry w x right.0 in
    let later = few_log log (logged w (x ∷ [])) right.1 in
    let world : len (logged w (x ∷ log)).links ≡ len (logged (logged w (x ∷ [])) log).links =
    ap (λ (v : World). len v.links) (logged_more w (x ∷ []) log) in
    let sum = sum_by-cons (λ (y : LogEntry). cond (is_join y) 1 0) x log in
    omega (arith, first, later, world, sum)
