-- Closing those that are closed in the world and owed nothing, one after another.
use Rattle.std.proofs.Common.{◌≡◌, ◌≢◌, ◌+◌, ◌≤◌, ℕ, Bool, true, false, cond, T, List, [], ◌∷◌}
use Rattle.std.proofs.Common.{◌++◌, map, Option, Some, refl, sym, subst, ap, ◌∙◌, arith}
use Rattle.std.proofs.Common.{append_assoc, append-nil}
use Rattle.std.proofs.lemmas.Bool.Decides.{nat_tests}
use Rattle.std.specs.Prelude.{if◌then◌else◌}
use Rattle.std.specs.List.{filter, flat_map}
use Rattle.std.specs.Ordering.{nat_cmp}
use Rattle.std.specs.FinMap.{entries, entries_sorted, find, get, get-entries, is_sorted}
use Rattle.std.specs.FinMap.Entries.{below_all}
use Rattle.mc_wire.specs.declared.log.LogEntry.{LogEntry}
use Rattle.mc_wire.specs.declared.log.LogEntry.TheVariants.{Closed}
use Rattle.mc_wire.specs.LobbyTold.{LobbyTold}
use Rattle.mc_wire.proofs.LobbyCalls.{Logs-refl}
use Rattle.mc_model.specs.Link.{Link, is_done}
use Rattle.mc_model.specs.World.{World}
use Rattle.mc_model.specs.Log.{logged}
use Rattle.mc_model.specs.Turns.{done_in}
use Rattle.mc_model.proofs.Maps.Sorted.{second as right_holds}
use Rattle.mc_model.proofs.Maps.Lookups.{tied_number}
use Rattle.mc_laws.proofs.Serving.Forgetting.{forgot_other}
use Rattle.mc_laws.proofs.Serving.Logs.{logged_more}
use Rattle.mc_links.specs.Kept.{is_pending}
use Rattle.mc_events.specs.Asking.{is_done_in, is_over, pending_in}
use Rattle.mc_events.specs.Served.{ServerValue}
use Rattle.mc_events.specs.Stands.{Stands}
use Rattle.mc_server.specs.Drives.{ours_in}
use Rattle.mc_server.specs.TurnParts.{Adds, HasClosed, HoldsDone, RiseFrom, closing_of, numbers_in}
use Rattle.mc_server.proofs.LogFacts.{adds_more, ours_append}
use Rattle.mc_server.proofs.Pending.{found_behind, passing, pending_rise}

-- ---- one connection

-- another is as it was
closing_other : (j k : ℕ) (w : World) → j ≢ k →
    get (logged w (closing_of w k)).links j ≡ get w.links j
closing_other j k w ne = elim (is_done_in k w) as
    (λ b. get (logged w (if b then Closed k ∷ [] else [])).links j ≡ get w.links j)
    [ true ↦ forgot_other w k j ne | false ↦ refl ]

-- one that is not closed in the world and owed nothing adds nothing
pub closed_none : (k : ℕ) (old : Option LobbyTold) (w : World) (server : ServerValue) →
    is_done_in k w ≡ false → Stands server w → HasClosed (closing_of w k) old old w server 0
closed_none k old w server none stands = rw none (record {
  adds = record { told = Logs-refl old; stands = stands };
  counted = refl;
})

-- ---- all of them

-- in the order of the map, those that are done are closed
closings_are : (w : World) (es : List (ℕ × Link)) → T (is_sorted nat_cmp es) →
    ((k : ℕ) (l : Link) → find nat_cmp k es ≡ Some l → get w.links k ≡ Some l) →
    flat_map (closing_of w) (map (λ (e : ℕ × Link). e.0) es) ≡
    map Closed (map (λ (e : ℕ × Link). e.0) (filter (λ (e : ℕ × Link). is_done e.1) es))
closings_are w [] sorted there = refl
closings_are w (e ∷ es) sorted there =
    let here : get w.links e.0 ≡ Some e.1 = there e.0 e.1 (rw (tied_number e.0) refl) in
    let rest = right_holds (below_all nat_cmp e.0 es) (is_sorted nat_cmp es) sorted in
    grind (
      arith,
      nat_tests,
      closings_are w es rest
          (λ k l found. there k l (found_behind e es sorted k l found)),
    )

all_closings : (w : World) → flat_map (closing_of w) (numbers_in w) ≡ map Closed (done_in w)
all_closings w = closings_are w (entries w.links) (entries_sorted w.links)
    (λ k l here. get-entries w.links k ∙ here)

not_done : (l : Link) → is_pending l ≡ false → is_done l ≡ false
not_done l open_ = grind (arith, nat_tests)

-- of entries in order, whose connections are as they were where they were not pending, those that
-- were are closed as all are
closings_pending : (v : World) (es : List (ℕ × Link)) → T (is_sorted nat_cmp es) →
    ((k : ℕ) (l : Link) → find nat_cmp k es ≡ Some l → is_pending l ≡ false →
    get v.links k ≡ Some l) →
    flat_map (closing_of v)
    (map (λ (e : ℕ × Link). e.0) (filter (λ (e : ℕ × Link). is_pending e.1) es))
    ≡ flat_map (closing_of v) (map (λ (e : ℕ × Link). e.0) es)
closings_pending v [] sorted others = refl
closings_pending v (e ∷ es) sorted others =
    if_kept (is_pending e.1) refl (closings_pending v es
    (right_holds (below_all nat_cmp e.0 es) (is_sorted nat_cmp es) sorted)
    (λ k l found open_. others k l (found_behind e es sorted k l found) open_))
  where
    none : is_pending e.1 ≡ false → closing_of v e.0 ≡ []
    none open_ =
        let here = others e.0 e.1 (rw (tied_number e.0) refl) open_ in
        ap (λ (o : Option Link). if is_over o then Closed e.0 ∷ [] else []) here
        ∙ ap (λ (b : Bool). if b then Closed e.0 ∷ [] else []) (not_done e.1 open_)

    if_kept : (b : Bool) → is_pending e.1 ≡ b →
        flat_map (closing_of v) (map (λ (f : ℕ × Link). f.0) (passing is_pending es))
        ≡ flat_map (closing_of v) (map (λ (f : ℕ × Link). f.0) es) →
        flat_map (closing_of v) (map (λ (f : ℕ × Link). f.0)
        (cond b (e ∷ passing is_pending es) (passing is_pending es)))
        ≡ flat_map (closing_of v) (map (λ (f : ℕ × Link). f.0) (e ∷ es))
    if_kept true is rest = ap (λ (xs : List LogEntry). closing_of v e.0 ++ xs) rest
    if_kept false is rest = rest ∙ ap (λ (xs : List LogEntry). xs ++ flat_map (closing_of v)
        (map (λ (f : ℕ × Link). f.0) es)) (sym (none is))

-- those that were pending hold who is done once these were written to
pub pending_hold : (w v : World) → numbers_in v ≡ numbers_in w →
    ((k : ℕ) (l : Link) → get w.links k ≡ Some l → is_pending l ≡ false →
    get v.links k ≡ Some l) → HoldsDone v (pending_in w)
pending_hold w v numbers others = record {
  rising = pending_rise w;
  closings = closings_pending v (entries w.links) (entries_sorted w.links)
      (λ k l found open_. others k l (get-entries w.links k ∙ found) open_)
      ∙ ap (flat_map (closing_of v)) (sym numbers) ∙ all_closings v;
}

-- some are closed, and the others are left
pub record IsClosing (left_ : List ℕ) (old new : Option LobbyTold) (w : World)
    (server : ServerValue) (count : ℕ) : Type 0 where
  pub log : List LogEntry
  pub adds : Adds old new w server log
  pub counted : count ≡ ours_in w log
  pub next : ℕ
  pub rising : RiseFrom next left_
  pub same : (j : ℕ) → next ≤ j → get (logged w log).links j ≡ get w.links j
  pub all : log ++ flat_map (closing_of w) left_ ≡ map Closed (done_in w)

pub closing_start : (ks : List ℕ) (old : Option LobbyTold) (w : World) (server : ServerValue) →
    Stands server w → HoldsDone w ks → IsClosing ks old old w server 0
closing_start ks old w server stands holds = record {
  log = [];
  adds = record { told = Logs-refl old; stands = stands };
  counted = refl;
  next = 0;
  rising = holds.rising;
  same = λ j above. refl;
  all = holds.closings;
}

-- one more was closed, or not
pub closing_step : (k : ℕ) (left_ ks : List ℕ) (old mid new : Option LobbyTold) (w : World)
    (before after : ServerValue) (count one : ℕ) → left_ ≡ k ∷ ks →
    IsClosing left_ old mid w before count →
    ((v : World) → Stands before v → HasClosed (closing_of v k) mid new v after one) →
    IsClosing ks old new w after (count + one)
closing_step k left_ ks old mid new w before after count one first so_far closes =
    let a = rw first at so_far in
    let v : World = logged w a.log in
    let h = closes v a.adds.stands in
    let closing : List LogEntry = closing_of v k in
    let world = logged_more w a.log closing in
    let own : closing ≡ closing_of w k =
    ap (λ (o : Option Link). if is_over o then Closed k ∷ [] else []) (a.same k a.rising.0) in
    let sum = ours_append w a.log closing in
    let was = a.counted in
    let now = h.counted in
    record {
      log = a.log ++ closing;
      adds = adds_more old mid new w before after a.log closing a.adds h.adds;
      counted = omega (arith, sum, was, now);
      next = k + 1;
      rising = a.rising.1;
      same = λ j above.
          let low = a.rising.0 in
          ap (λ (u : World). get u.links j) world
          ∙ closing_other j k v (omega (arith, above)) ∙ a.same j (omega (arith, low, above));
      all = append_assoc a.log closing (flat_map (closing_of w) ks)
          ∙ ap (λ (xs : List LogEntry). a.log ++ (xs ++ flat_map (closing_of w) ks)) own ∙ a.all;
    }

pub closed_all : (left_ : List ℕ) (old new : Option LobbyTold) (w : World) (server : ServerValue)
    (count : ℕ) → left_ ≡ [] → IsClosing left_ old new w server count →
    HasClosed (map Closed (done_in w)) old new w server count
closed_all left_ old new w server count end a =
    let none : a.log ++ flat_map (closing_of w) left_ ≡ a.log =
    ap (λ (js : List ℕ). a.log ++ flat_map (closing_of w) js) end ∙ append-nil a.log in
    subst (λ (log : List LogEntry). HasClosed log old new w server count) (sym none ∙ a.all)
    (record { adds = a.adds; counted = a.counted })
