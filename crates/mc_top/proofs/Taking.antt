-- The lines that tell what connections took and which were forgotten, one after another, are those of
-- a world.
use Rattle.std.proofs.Common.{◌≡◌, ℕ, Bool, cond, List, [], ◌∷◌, ◌++◌}
use Rattle.std.proofs.Common.{take, drop, refl, sym, ap, ◌∙◌, arith}
use Rattle.std.specs.Prelude.{◌/◌, ◌%◌, slice_index}
use Rattle.std.specs.List.{filter, flat_map}
use Rattle.std.specs.FinMap.{entries}
use Rattle.std.proofs.lemmas.Bool.Decides.{nat_tests}
use Rattle.std.proofs.lemmas.Grind.{flat_map-append}
use Rattle.std.proofs.lemmas.List.{take-append-drop}
use Rattle.std.proofs.lemmas.List.Folds.{flat_map-map}
use Rattle.hex.specs.Hex.{encode_lower, encode_with}
use Rattle.mc_model.specs.Link.{Link}
use Rattle.mc_model.specs.World.{World}
use Rattle.mc_events.specs.Asking.{pending_in}
use Rattle.mc_events.proofs.Loops.{AreOnce}
use Rattle.mc_measure.specs.Settling.{all_taken, forgotten, is_shut, owes, taken}
use Rattle.mc_measure.proofs.Taken.{emptied}
use Rattle.mc_measure.proofs.Takings.{AreAt, as_is, done_is, forgotten_still, numbers, owing_among}
use Rattle.mc_measure.proofs.Takings.{pending_entries, pending_once, pending_there, shut_among}
use Rattle.mc_measure.proofs.Takings.{taken_still, takes_all}
use Rattle.mc_top.specs.ReplayText.{tells_sent, tells_shut, telling_line, tellings, lines_after}
use Rattle.mc_top.specs.Replaying.{sent_by, shut_by, all_sent, all_shut}

-- ---- hex

encode_append : (t xs ys : List ℕ) → encode_with t (xs ++ ys) ≡ encode_with t xs ++ encode_with t ys
unfolding encode_with
encode_append t [] ys = refl
encode_append t (x ∷ xs) ys =
    ap (λ (r : List ℕ). slice_index t (x / 16) ∷ slice_index t (x % 16) ∷ r) (encode_append t xs ys)

pub encode_parts : (n : ℕ) (bytes : List ℕ) →
    encode_lower (take n bytes) ++ encode_lower (drop n bytes) ≡ encode_lower bytes
encode_parts n bytes =
    sym (encode_append _ (take n bytes) (drop n bytes)) ∙ ap encode_lower (take-append-drop n bytes)

pub encode_none : (bytes : List ℕ) → bytes ≡ [] → encode_lower bytes ≡ []
unfolding encode_with
encode_none bytes none = ap encode_lower none

-- ---- who takes all

-- the lines of one connection
abbrev pub sent_line : ℕ × Link → List ℕ
sent_line e = telling_line (tells_sent e.0 e.1.owed)

abbrev pub shut_line : ℕ × Link → List ℕ
shut_line e = telling_line (tells_shut e.0)

-- the line of one before those of others
sent_first : (e : ℕ × Link) (es : List (ℕ × Link)) →
    sent_by e.0 e.1.owed ++ flat_map sent_line es ≡ flat_map sent_line (cond (owes e) (e ∷ es) es)
sent_first e es = grind (arith, nat_tests)

sends_all : (v : World) (es : List (ℕ × Link)) → AreOnce (numbers es) → AreAt as_is v es →
    all_sent (numbers es) v ≡ flat_map sent_line (filter owes es)
sends_all v [] once there = refl
sends_all v (e ∷ es) once there =
    grind (arith, nat_tests, sends_all (taken e.0 v) es once.1 (taken_still v e es once.0 there.1))

-- ---- who is forgotten

shut_first : (e : ℕ × Link) (b : Bool) (es : List (ℕ × Link)) →
    shut_by e.0 b ++ flat_map shut_line es ≡ flat_map shut_line (cond b (e ∷ es) es)
shut_first e b es = grind (arith, nat_tests)

shuts_all : (v : World) (es : List (ℕ × Link)) → AreOnce (numbers es) → AreAt emptied v es →
    all_shut (numbers es) v ≡ flat_map shut_line (filter is_shut es)
shuts_all v [] once there = refl
shuts_all v (e ∷ es) once there =
    ap (λ (b : Bool). shut_by e.0 b ++ all_shut (numbers es) (forgotten e.0 v))
    (done_is v e there.0)
    ∙ ap (λ (t : List ℕ). shut_by e.0 (is_shut e) ++ t)
    (shuts_all (forgotten e.0 v) es once.1 (forgotten_still v e es once.0 there.1))
    ∙ shut_first e (is_shut e) (filter is_shut es)

-- ---- all of it

told_lines : (w : World) → lines_after w ≡ flat_map sent_line (filter owes (entries w.links))
    ++ flat_map shut_line (filter is_shut (entries w.links))
unfolding lines_after tellings
told_lines w = simp (flat_map-append, flat_map-map)

-- the lines of those that are owed bytes or closed, each in turn
pub all_told : (w : World) →
    all_sent (pending_in w) w ++ all_shut (pending_in w) (all_taken (pending_in w) w)
    ≡ lines_after w
all_told w =
    let es = pending_entries w in
    ap (λ (t : List ℕ). t ++ all_shut (numbers es) (all_taken (numbers es) w))
    (sends_all w es (pending_once w) (pending_there w)
    ∙ ap (flat_map sent_line) (owing_among (entries w.links)))
    ∙ ap (λ (t : List ℕ). flat_map sent_line (filter owes (entries w.links)) ++ t)
    (shuts_all (all_taken (numbers es) w) es (pending_once w)
    (takes_all w es (pending_once w) (pending_there w))
    ∙ ap (flat_map shut_line) (shut_among (entries w.links)))
    ∙ sym (told_lines w)
