-- Bytes about players, what is appended of a tick, and the places of a view.
use Rattle.std.proofs.Common.{◌≡◌, ℕ, ◌≤◌, not, List, [], ◌++◌, map, length, sym, ap, ◌∙◌, arith}
use Rattle.std.proofs.Common.{append_assoc}
use Rattle.std.specs.List.{AllByRecursion, filter}
use Rattle.std.specs.Ordering.{nat_cmp}
use Rattle.std.specs.FinMap.{empty, entries, len, len-entries, len-empty, get}
use Rattle.std.proofs.lemmas.List.{nil_from_length}
use Rattle.std.proofs.lemmas.Grind.{flat_map-append}
use lib.IntN.{pos}
use Rattle.mc_frame.specs.Kept.{joined}
use Rattle.mc_land.specs.Places.{IsPlace}
use Rattle.mc_packets.specs.declared.down.Down.{Down}
use Rattle.mc_model.specs.Delta.{Pairs, missing, is_named, leaver, joiner, about}
use Rattle.mc_view.specs.declared.view_set.ViewSet.{ViewSet}
use Rattle.mc_flush.specs.Lists.{ListValue}
use Rattle.mc_sending.specs.Sending.{play_bytes}
use Rattle.mc_flush.specs.Seeing.{MarkValue, IsNamed, loaded, player_packets}
use Rattle.mc_flush.specs.Encoding.{player_bytes}
use Rattle.mc_loads.proofs.Places.{IsMiddle, entered_holds, view_places}
use Rattle.mc_sending.proofs.Pieces.{few_filtered, all_filtered, play_bytes-append}

-- ---- players

-- of few players few are missing
pub missing_few : (m n : Pairs) → len m ≤ 50 → length (missing m n) ≤ 50
missing_few m n few =
    let fewer = few_filtered (λ (e : ℕ × List ℕ). not (is_named (get n e.0) e.1)) (entries m) in
    omega (arith, fewer, few, len-entries m)

-- and their names can be carried
pub missing_named : (m n : Pairs) → AllByRecursion IsNamed (entries m) →
    AllByRecursion IsNamed (missing m n)
missing_named m n named = all_filtered IsNamed (λ (e : ℕ × List ℕ). not (is_named (get n e.0) e.1))
    (entries m) named

-- nobody has no entry
no_entries : entries (empty {X = List ℕ} {R = nat_cmp}) ≡ []
no_entries = nil_from_length _ (sym (len-entries empty) ∙ len-empty nat_cmp (List ℕ))

-- those who leave, of nobody
nobody_left : (n : Pairs) → about (pos 4) (map leaver (missing empty n)) ≡ []
nobody_left n =
    ap (λ (es : List (ℕ × List ℕ)). about (pos 4) (map leaver (filter (λ (e : ℕ × List ℕ).
    not (is_named (get n e.0) e.1)) es))) no_entries

-- ---- the frames about players

-- of all of them
pub all_put : (list : ListValue) (all : List (ℕ × List ℕ)) (b0 b1 : List ℕ) →
    all ≡ missing list.present empty → b0 ≡ [] →
    b1 ≡ b0 ++ play_bytes (about (pos 0) (map joiner all)) →
    b1 ≡ play_bytes (player_packets empty list.present)
all_put list all b0 b1 is none put =
    put ∙ rw (none, is) (ap (λ (ds : List Down). play_bytes (ds ++ about (pos 0)
    (map joiner (missing list.present empty)))) (sym (nobody_left list.present)))

-- of who left and of who came
pub changes_put : (list : ListValue) (left_ came : List (ℕ × List ℕ)) (b0 b1 b2 : List ℕ) →
    left_ ≡ missing list.last list.present → came ≡ missing list.present list.last → b0 ≡ [] →
    b1 ≡ b0 ++ play_bytes (about (pos 4) (map leaver left_)) →
    b2 ≡ b1 ++ play_bytes (about (pos 0) (map joiner came)) → b2 ≡ player_bytes list
changes_put list left_ came b0 b1 b2 l c none first second =
    second ∙ rw (first, none, l, c) (sym (play_bytes-append
    (about (pos 4) (map leaver (missing list.last list.present)))
    (about (pos 0) (map joiner (missing list.present list.last)))))

-- ---- what is appended

-- all of a tick, behind what was there: what differs, the cells that were noted, and all else
pub tick_put : (old new p0 p1 p2 p3 : List (List ℕ)) (cs ds ns ms : List Down) → p0 ≡ [] →
    joined p1 ≡ joined p0 ++ play_bytes cs → joined p2 ≡ joined p1 ++ play_bytes ns →
    joined p3 ≡ joined p2 ++ play_bytes ms → new ≡ old ++ p3 → ds ≡ cs →
    joined new ≡ joined old ++ play_bytes (ds ++ (ns ++ ms))
tick_put old new p0 p1 p2 p3 cs ds ns ms none first second third put same =
    ap joined put ∙ flat_map-append (λ (p : List ℕ). p) old p3
    ∙ ap (λ (t : List ℕ). joined old ++ t) (third ∙ ap (λ (t : List ℕ). t ++ play_bytes ms)
    (second ∙ ap (λ (t : List ℕ). t ++ play_bytes ns)
    (first ∙ ap (λ (ps : List (List ℕ)). joined ps ++ play_bytes cs) none))
    ∙ append_assoc (play_bytes cs) (play_bytes ns) (play_bytes ms)
    ∙ ap (λ (t : List ℕ). play_bytes cs ++ t) (sym (play_bytes-append ns ms))
    ∙ sym (play_bytes-append cs (ns ++ ms))
    ∙ ap (λ (xs : List Down). play_bytes (xs ++ (ns ++ ms))) (sym same))

-- what is loaded lies in the world
pub loaded_places : (mark : MarkValue) (view : ViewSet) → IsMiddle view →
    AllByRecursion IsPlace (loaded mark view)
loaded_places mark view m = entered_holds IsPlace mark.view view (view_places view m)
