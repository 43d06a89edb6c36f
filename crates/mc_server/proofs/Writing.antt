-- Writing to one connection, piece by piece, and to all, one after another.
use Rattle.std.proofs.Common.{◌≡◌, ◌≢◌, inl, inr, ◌+◌, ◌<◌, ◌≤◌, ℕ, List, [], ◌∷◌, ◌++◌, length}
use Rattle.std.proofs.Common.{take, Option, Some, true, false, refl, sym, subst, ap, ◌∙◌, arith}
use Rattle.std.proofs.Common.{append_assoc, append-nil, length-take, take-take}
use Rattle.std.proofs.lemmas.Bool.Decides.{nat_tests}
use Rattle.std.specs.Prelude.{◌↔◌}
use Rattle.std.specs.List.{AllByRecursion}
use Rattle.std.specs.FinMap.{entries, entries_sorted, get, get-entries}
use Rattle.std.proofs.lemmas.Bool.{cases_eq}
use Rattle.mc_wire.specs.declared.log.LogEntry.{LogEntry}
use Rattle.mc_wire.specs.declared.log.LogEntry.TheVariants.{Put, Stalled, Broke}
use Rattle.mc_wire.specs.LobbyTold.{LobbyTold}
use Rattle.mc_wire.specs.Becoming.{Logs}
use Rattle.mc_wire.proofs.LobbyCalls.{Logs-refl}
use Rattle.mc_model.specs.Step.{broke, took, step}
use Rattle.mc_model.specs.Turns.{Rises, AreWrites}
use Rattle.mc_model.specs.Link.{Link}
use Rattle.mc_model.specs.World.{World}
use Rattle.mc_model.specs.Run.{owed_in, owed_of}
use Rattle.mc_model.specs.Log.{logged}
use Rattle.mc_model.proofs.Maps.Lookups.{untied_number}
use Rattle.mc_laws.proofs.Serving.Logs.{logged_more}
use Rattle.mc_links.specs.Kept.{is_pending}
use Rattle.mc_events.specs.Asking.{pending_in}
use Rattle.mc_events.specs.Served.{ServerValue}
use Rattle.mc_events.specs.Stands.{Stands}
use Rattle.mc_events.proofs.Loops.{is_of}
use Rattle.mc_server.specs.TurnParts.{Adds, HasSent, HasSentAll, IsServed, Leads, RiseFrom}
use Rattle.mc_server.specs.TurnParts.{numbers_in}
use Rattle.mc_server.proofs.LogFacts.{Keeps, adds_more, broke_keeps, broke_owes, keeps_more}
use Rattle.mc_server.proofs.LogFacts.{keeps_same, served_more, served_still, took_keeps}
use Rattle.mc_server.proofs.LogFacts.{writes_append}
use Rattle.mc_server.proofs.Pending.{all_pend, owed_there, pending_rise, pends, true_false}

-- ---- rising numbers

pub rises_lower : (least more : ℕ) (xs : List LogEntry) → least ≤ more → Rises more xs →
    Rises least xs
rises_lower least more [] le r = tt
rises_lower least more (Put k bytes ∷ xs) le r = (omega (arith, le, r.0), r.1)
rises_lower least more (Stalled k ∷ xs) le r = (omega (arith, le, r.0), r.1)
rises_lower least more (Broke k ∷ xs) le r = (omega (arith, le, r.0), r.1)
rises_lower least more (other ∷ xs) le r = absurd r

-- writes behind writes
leads_onward : (first next last : ℕ) (xs ys : List LogEntry) → Leads first next xs →
    Leads next last ys → Leads first last (xs ++ ys)
leads_onward first next last xs ys a b =
    λ later r. rw (append_assoc xs ys later) (a (ys ++ later) (b later r))

-- ---- one connection

-- pieces were put to it
pub record IsSending (k : ℕ) (old new : Option LobbyTold) (w : World) (server : ServerValue)
    : Type 0 where
  pub puts : List LogEntry
  pub adds : Adds old new w server puts
  pub are_writes : AreWrites w puts
  pub leads : Leads k k puts
  pub keeps : Keeps k w (logged w puts)

pub sending_start : (k : ℕ) (old : Option LobbyTold) (w : World) (server : ServerValue) →
    Stands server w → IsSending k old old w server
sending_start k old w server stands = record {
  puts = [];
  adds = record { told = Logs-refl old; stands = stands };
  are_writes = tt;
  leads = λ later r. r;
  keeps = keeps_same k w;
}

-- the first bytes of a front are those that are owed
piece_first : (n count : ℕ) (front owed : List ℕ) → count ≤ length front →
    n ≤ length (take count front) → take (length front) owed ≡ front →
    take n owed ≡ take n (take count front)
piece_first n count front owed few within first =
    let cut = length-take count front in
    let le : n ≤ count = omega (arith, few, within, cut) in
    sym (take-take n (length front) owed (omega (arith, le, few)))
    ∙ ap (take n) first ∙ sym (take-take n count front le)

piece_length : (n : ℕ) (piece : List ℕ) → n ≤ length piece → length (take n piece) ≡ n
piece_length n piece within = omega (arith, within, length-take n piece)

-- a piece more was put
pub sending_next : (k n count : ℕ) (front : List ℕ) (old mid new : Option LobbyTold) (w : World)
    (before after : ServerValue) → count ≤ length front → count ≤ 65536 →
    ((v : World) → Stands before v → take (length front) (owed_in k v) ≡ front) →
    (0 < n) × (n ≤ length (take count front)) →
    Logs mid new (Put k (take n (take count front)) ∷ []) →
    ((v : World) → Stands before v → Stands after (step v (took k n)).world) →
    IsSending k old mid w before → IsSending k old new w after
sending_next k n count front old mid new w before after few most first within told follows s =
    let v : World = logged w s.puts in
    let bytes : List ℕ = take n (take count front) in
    let entry : LogEntry = Put k bytes in
    let long : length bytes ≡ n = piece_length n (take count front) within.1 in
    let cut = length-take count front in
    let less = within.1 in
    let some = within.0 in
    let owed : take (length bytes) (owed_in k v) ≡ bytes =
    ap (λ (m : ℕ). take m (owed_in k v)) long
    ∙ piece_first n count front (owed_in k v) few less (first v s.adds.stands) in
    record {
      puts = s.puts ++ entry ∷ [];
      adds = adds_more old mid new w before after s.puts (entry ∷ []) s.adds (record {
        told = told;
        stands = rw long (follows v s.adds.stands);
      });
      are_writes = writes_append w s.puts (entry ∷ []) s.are_writes
          ((omega (arith, long, some), omega (arith, long, less, cut, most), owed), tt);
      leads = leads_onward k k k s.puts (entry ∷ []) s.leads (λ later r. (omega arith, r));
      keeps = keeps_more k w s.puts (entry ∷ []) s.keeps (took_keeps k (length bytes) v);
    }

-- the last write, or none
module _ (k : ℕ) (old mid new : Option LobbyTold) (w : World) (before after : ServerValue)
    (s : IsSending k old mid w before) where
  sent_with : (last : List LogEntry) → Adds mid new (logged w s.puts) after last →
      AreWrites (logged w s.puts) last → Leads k (k + 1) last → IsServed (logged w s.puts) last k →
      Keeps k (logged w s.puts) (logged (logged w s.puts) last) → HasSent k old new w after
  sent_with last adds are lead served keeps =
      let kept = keeps_more k w s.puts last s.keeps keeps in
      record {
        writes = s.puts ++ last;
        adds = adds_more old mid new w before after s.puts last s.adds adds;
        are_writes = writes_append w s.puts last s.are_writes are;
        leads = leads_onward k k (k + 1) s.puts last s.leads lead;
        served = served_more w s.puts last k served;
        others = kept.others;
        numbers = kept.numbers;
      }

  pub sent_broke : ((v : World) → Stands before v → owed_in k v ≢ []) →
      Logs mid new (Broke k ∷ []) →
      ((v : World) → Stands before v → Stands after (step v (broke k)).world) →
      HasSent k old new w after
  sent_broke some told follows =
      let v : World = logged w s.puts in
      sent_with (Broke k ∷ []) (record { told = told; stands = follows v s.adds.stands })
      (some v s.adds.stands, tt) (λ later r. (omega arith, r)) (inl (broke_owes k v))
      (broke_keeps k v)

pub sent_all_of_it : (k : ℕ) (old mid : Option LobbyTold) (w : World) (server : ServerValue) →
    ((v : World) → Stands server v → owed_in k v ≡ []) → IsSending k old mid w server →
    HasSent k old mid w server
sent_all_of_it k old mid w server none s =
    let v : World = logged w s.puts in
    sent_with k old mid mid w server server s []
    (record { told = Logs-refl mid; stands = s.adds.stands }) tt
    (λ later r. rises_lower k (k + 1) later (omega arith) r) (inl (none v s.adds.stands))
    (keeps_same k v)

pub sent_stalled : (k : ℕ) (old mid new : Option LobbyTold) (w : World) (server : ServerValue) →
    ((v : World) → Stands server v → owed_in k v ≢ []) → Logs mid new (Stalled k ∷ []) →
    IsSending k old mid w server → HasSent k old new w server
sent_stalled k old mid new w server some told s =
    let v : World = logged w s.puts in
    sent_with k old mid new w server server s (Stalled k ∷ [])
    (record { told = told; stands = s.adds.stands }) (some v s.adds.stands, tt)
    (λ later r. (omega arith, r)) (inr (0, omega arith, refl)) (keeps_same k v)

-- what is at the front shows whether anything is owed
no_bytes : (bytes : List ℕ) → length bytes ≡ 0 → bytes ≡ []
no_bytes [] none = refl
no_bytes (b ∷ bytes) none = absurd (omega (arith, none))

pub front_none : (front owed : List ℕ) → length front ≡ 0 → (front ≡ []) ↔ (owed ≡ []) → owed ≡ []
front_none front owed none same = same.0 (no_bytes front none)

pub front_some : (front owed : List ℕ) → 0 < length front → (front ≡ []) ↔ (owed ≡ []) → owed ≢ []
front_some front owed some same none = grind (arith, nat_tests)

-- ---- all of them

-- those that are not left were served, and who is not pending is as it was
pub record IsSendingAll (left_ : List ℕ) (old new : Option LobbyTold) (w : World)
    (server : ServerValue) : Type 0 where
  pub writes : List LogEntry
  pub adds : Adds old new w server writes
  pub are_writes : AreWrites w writes
  pub next : ℕ
  pub leads : Leads 0 next writes
  pub rising : RiseFrom next left_
  pub pend : AllByRecursion (λ (k : ℕ). pends (get w.links k) ≡ true) left_
  pub served : (k : ℕ) → is_of k left_ ≡ false → IsServed w writes k
  pub others : (k : ℕ) (l : Link) → get w.links k ≡ Some l → is_pending l ≡ false →
      get (logged w writes).links k ≡ Some l
  pub numbers : numbers_in (logged w writes) ≡ numbers_in w

pub sending_all_start : (ks : List ℕ) (old : Option LobbyTold) (w : World) (server : ServerValue) →
    Stands server w → ks ≡ pending_in w → IsSendingAll ks old old w server
sending_all_start ks old w server stands named = record {
  writes = [];
  adds = record { told = Logs-refl old; stands = stands };
  are_writes = tt;
  next = 0;
  leads = λ later r. r;
  rising = subst (RiseFrom 0) (sym named) (pending_rise w);
  pend = subst (AllByRecursion (λ (k : ℕ). pends (get w.links k) ≡ true)) (sym named)
      (all_pend w (entries w.links) (entries_sorted w.links)
      (λ k l found. get-entries w.links k ∙ found));
  served = λ k no. inl (owed_there k w (ap (is_of k) (sym named) ∙ no));
  others = λ k l there open_. there;
  numbers = refl;
}

-- one connection more was written to
pub sending_all_step : (k : ℕ) (left_ ks : List ℕ) (old mid new : Option LobbyTold) (w : World)
    (before after : ServerValue) → left_ ≡ k ∷ ks → IsSendingAll left_ old mid w before →
    ((v : World) → Stands before v → HasSent k mid new v after) → IsSendingAll ks old new w after
sending_all_step k left_ ks old mid new w before after first so_far sent =
    let a = rw first at so_far in
    let one = sent (logged w a.writes) a.adds.stands in
    record {
      writes = a.writes ++ one.writes;
      adds = adds_more old mid new w before after a.writes one.writes a.adds one.adds;
      are_writes = writes_append w a.writes one.writes a.are_writes one.are_writes;
      next = k + 1;
      leads = leads_onward 0 a.next (k + 1) a.writes one.writes a.leads (λ later r.
          rises_lower a.next k (one.writes ++ later) a.rising.0 (one.leads later r));
      rising = a.rising.1;
      pend = a.pend.1;
      served = λ j away. elim (cases_eq j k) [
        | inl same ↦ rw same (served_more w a.writes one.writes k one.served)
        | inr ne ↦ served_still w a.writes one.writes j (ap owed_of (one.others j ne))
            (a.served j (rw (untied_number j k ne) away))
      ];
      others = λ j l there open_. ap (λ (u : World). get u.links j)
          (logged_more w a.writes one.writes)
          ∙ one.others j (λ same. not_both j l there open_
          (ap (λ (n : ℕ). pends (get w.links n)) same ∙ a.pend.0)) ∙ a.others j l there open_;
      numbers = ap numbers_in (logged_more w a.writes one.writes) ∙ one.numbers ∙ a.numbers;
    }
  where
    not_both : (j : ℕ) (l : Link) → get w.links j ≡ Some l → is_pending l ≡ false →
        pends (get w.links j) ≡ true → ⊥
    not_both j l there open_ pending = true_false (sym pending ∙ ap pends there ∙ open_)

pub sent_to_all : (left_ : List ℕ) (old new : Option LobbyTold) (w : World) (server : ServerValue) →
    left_ ≡ [] → IsSendingAll left_ old new w server → HasSentAll old new w server
sent_to_all left_ old new w server end a = record {
  writes = a.writes;
  adds = a.adds;
  are_writes = a.are_writes;
  rises = (let all = a.leads [] tt in rw append-nil at all);
  served = λ k. a.served k (ap (is_of k) end);
  others = a.others;
  numbers = a.numbers;
}
