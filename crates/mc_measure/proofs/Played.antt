-- Playing events one after another, and how many bytes are taken then.
use Rattle.std.proofs.Common.{◌≡◌, ℕ, zero, suc, ◌+◌, List, [], ◌∷◌, ◌++◌, length, map, refl, sym}
use Rattle.std.proofs.Common.{subst, ap, ◌∙◌, append_assoc, arith}
use Rattle.std.specs.List.{filter, flat_map, range_with_len}
use Rattle.std.specs.FinMap.{entries}
use Rattle.std.proofs.lemmas.List.{append-nil}
use Rattle.std.proofs.lemmas.List.FromFn.{map-range_with_len_more}
use Rattle.std.proofs.lemmas.List.Sums.{fold-append}
use Rattle.std.proofs.lemmas.Grind.{flat_map-append}
use Rattle.mc_model.specs.Link.{Link}
use Rattle.mc_model.specs.Minds.{Plans}
use Rattle.mc_model.specs.Run.{AreBytes, history}
use Rattle.mc_model.specs.Step.{Event, came, forgot, joined, step, took}
use Rattle.mc_model.specs.World.{World}
use Rattle.mc_events.specs.declared.input.Input.{Input}
use Rattle.mc_events.specs.declared.input.Input.TheVariants.{Join, Bytes, Gone, Broke, Tick}
use Rattle.mc_events.specs.Inputs.{event_of}
use Rattle.mc_events.specs.Served.{ServerValue}
use Rattle.mc_events.specs.Stands.{Stands}
use Rattle.mc_server.specs.Minded.{ServedValue, StandsFor}
use Rattle.mc_server.proofs.Plans.{step_plans}
use Rattle.mc_load.specs.Load.{arrival, arrival_bytes}
use Rattle.mc_measure.specs.Plays.{HasPlayed, bytes_taken, taken_at}
use Rattle.mc_measure.specs.Settling.{NeverFull, NoneFull}
use Rattle.mc_measure.specs.Settling.{is_shut, owes, settled, settled_log, settled_world, takings}
use Rattle.mc_measure.proofs.Full.{never_more, takings_never}
use Rattle.mc_measure.proofs.Takings.{bytes_more, settled_is, tooks}

-- ---- some events and then others

pub log_more : (w : World) (xs ys : List Event) →
    settled_log w (xs ++ ys) ≡ settled_log w xs ++ settled_log (settled_world w xs) ys
log_more w [] ys = refl
log_more w (e ∷ xs) ys =
    grind (arith, append_assoc, log_more (settled (step w e).world) xs ys)

pub world_more : (w : World) (xs ys : List Event) →
    settled_world w (xs ++ ys) ≡ settled_world (settled_world w xs) ys
world_more w [] ys = refl
world_more w (e ∷ xs) ys = world_more (settled (step w e).world) xs ys

-- the world is the one that the log leads to
pub world_is : (w : World) (events : List Event) →
    settled_world w events ≡ history w (settled_log w events)
world_is w [] = refl
world_is w (e ∷ events) =
    let v : World = (step w e).world in
    world_is (settled v) events
    ∙ sym (fold-append _ v (takings v) (settled_log (settled v) events))

played_bytes : (w : World) (xs ys : List Event) → bytes_taken w (settled_log w (xs ++ ys))
    ≡ bytes_taken w (settled_log w xs)
    + bytes_taken (settled_world w xs) (settled_log (settled_world w xs) ys)
played_bytes w xs ys =
    ap (bytes_taken w) (log_more w xs ys)
    ∙ bytes_more w (settled_log w xs) (settled_log (settled_world w xs) ys)
    ∙ ap (λ (v : World). bytes_taken w (settled_log w xs)
    + bytes_taken v (settled_log (settled_world w xs) ys)) (sym (world_is w xs))

pub bytes_both : (xs ys : List Event) → AreBytes xs → AreBytes ys → AreBytes (xs ++ ys)
bytes_both [] ys none are = are
bytes_both (came k bytes ∷ xs) ys are later = (are.0, bytes_both xs ys are.1 later)
bytes_both (other ∷ xs) ys are later = bytes_both xs ys are later

pub played_two : (xs ys : List Event) (w : World) (middle served : ServedValue) (a b : ℕ) →
    HasPlayed xs w middle a → HasPlayed ys (settled_world w xs) served b →
    HasPlayed (xs ++ ys) w served (a + b)
played_two xs ys w middle served a b first later =
    let one = first.counted in
    let two = later.counted in
    record {
      bytes = bytes_both xs ys first.bytes later.bytes;
      stands = subst (StandsFor served) (sym (world_more w xs ys)) later.stands;
      counted = omega (arith, one, two, played_bytes w xs ys);
      clear = subst (NeverFull w) (sym (log_more w xs ys))
          (never_more w (settled_log w xs) (settled_log (settled_world w xs) ys) first.clear
          (subst (λ (v : World). NeverFull v (settled_log (settled_world w xs) ys)) (world_is w xs)
          later.clear));
    }

pub played_none : (w : World) (served : ServedValue) → StandsFor served w →
    HasPlayed [] w served 0
played_none w served stands =
    record { bytes = tt; stands = stands; counted = refl; clear = tt }

-- ---- one event

-- taking and forgetting leave what mobs are still to do
pub tooks_plans : (es : List (ℕ × Link)) (w : World) →
    (history w (map (λ (e : ℕ × Link). took e.0 (length e.1.owed)) es)).plans ≡ w.plans
tooks_plans [] w = refl
tooks_plans (e ∷ es) w =
    let now = took e.0 (length e.1.owed) in
    tooks_plans es (step w now).world ∙ step_plans w now (λ tick. cc)

pub forgots_plans : (es : List (ℕ × Link)) (w : World) →
    (history w (map (λ (e : ℕ × Link). forgot e.0) es)).plans ≡ w.plans
forgots_plans [] w = refl
forgots_plans (e ∷ es) w =
    forgots_plans es (step w (forgot e.0)).world ∙ step_plans w (forgot e.0) (λ tick. cc)

-- the server stands with its minds for the world that is settled
pub stands_settled : (w : World) (server : ServerValue) (plans : Plans) →
    Stands server (settled w) → w.plans ≡ plans →
    StandsFor (record { server = server; plans = plans }) (settled w)
stands_settled w server plans stands are = record {
  stands = stands;
  plans = ap (λ (v : World). v.plans) (settled_is w)
      ∙ forgots_plans (filter is_shut (entries w.links)) (history w (tooks w))
      ∙ tooks_plans (filter owes (entries w.links)) w ∙ are;
}

-- no input takes anything
input_none : (w : World) (input : Input) → taken_at w (event_of input) ≡ 0
input_none w (Join k) = refl
input_none w (Bytes k bytes) = refl
input_none w (Gone k) = refl
input_none w (Broke k) = refl
input_none w Tick = refl

pub played_one : (input : Input) (w : World) (server : ServerValue) (plans : Plans) (count : ℕ) →
    AreBytes (event_of input ∷ []) → Stands server (settled (step w (event_of input)).world) →
    (step w (event_of input)).world.plans ≡ plans →
    count ≡ bytes_taken (step w (event_of input)).world
    (takings (step w (event_of input)).world) → NoneFull (step w (event_of input)).world →
    HasPlayed (event_of input ∷ []) w (record { server = server; plans = plans }) count
played_one input w server plans count bytes stands are counted none =
    let v : World = (step w (event_of input)).world in
    record {
      bytes = bytes;
      stands = stands_settled v server plans stands are;
      counted = counted ∙ ap (bytes_taken v) (sym (append-nil (takings v)))
          ∙ omega (arith, input_none w input);
      clear =
          (none, subst (NeverFull v) (sym (append-nil (takings v))) (takings_never v none));
    }

-- what came, under another name
pub came_as : (k : ℕ) (sent bytes : List ℕ) (w : World) (served : ServedValue) (count : ℕ) →
    sent ≡ bytes → HasPlayed (came k sent ∷ []) w served count →
    HasPlayed (came k bytes ∷ []) w served count
came_as k sent bytes w served count is =
    subst (λ (b : List ℕ). HasPlayed (came k b ∷ []) w served count) is

-- a client joined and came
pub arrived : (k : ℕ) (sent : List ℕ) (w : World) (middle served : ServedValue) (a b c d : ℕ) →
    sent ≡ arrival_bytes k → c ≡ a → d ≡ b → HasPlayed (joined k ∷ []) w middle a →
    HasPlayed (came k sent ∷ []) (settled_world w (joined k ∷ [])) served b →
    HasPlayed (arrival k) w served (c + d)
arrived k sent w middle served a b c d is one two first later =
    subst (λ (n : ℕ). HasPlayed (arrival k) w served (n + d)) (sym one)
    (subst (λ (n : ℕ). HasPlayed (arrival k) w served (a + n)) (sym two)
    (played_two (joined k ∷ []) (came k (arrival_bytes k) ∷ []) w middle served a b first
    (came_as k sent (arrival_bytes k) _ served b is later)))

-- ---- a list of them that grows

-- one more
pub played_next : (xs ys zs : List Event) (w : World) (middle served : ServedValue) (a b : ℕ) →
    zs ≡ xs ++ ys → HasPlayed xs w middle a → HasPlayed ys (settled_world w xs) served b →
    HasPlayed zs w served (a + b)
played_next xs ys zs w middle served a b is first later =
    subst (λ (events : List Event). HasPlayed events w served (a + b)) (sym is)
    (played_two xs ys w middle served a b first later)

-- likewise, where its bytes are a number of another width
pub played_as : (xs ys zs : List Event) (w : World) (middle served : ServedValue) (a b c : ℕ) →
    zs ≡ xs ++ ys → c ≡ b → HasPlayed xs w middle a → HasPlayed ys (settled_world w xs) served b →
    HasPlayed zs w served (a + c)
played_as xs ys zs w middle served a b c is same first later =
    subst (λ (n : ℕ). HasPlayed zs w served (a + n)) (sym same)
    (played_next xs ys zs w middle served a b is first later)

counting : (from n k : ℕ) → from + n ≡ k →
    range_with_len from (suc n) ≡ range_with_len from n ++ k ∷ []
counting from zero k is = ap (λ (j : ℕ). j ∷ []) (omega (arith, is))
counting from (suc n) k is =
    ap (λ (ks : List ℕ). from ∷ ks) (counting (from + 1) n k (omega (arith, is)))

-- the events of the numbers from one on, and those of the next number
pub next_number : (f : ℕ → List Event) (from n k : ℕ) → from + n ≡ k →
    flat_map f (range_with_len from (n + 1)) ≡ flat_map f (range_with_len from n) ++ f k
next_number f from n k is =
    let one : n + 1 ≡ suc n = omega arith in
    ap (λ (m : ℕ). flat_map f (range_with_len from m)) one
    ∙ ap (flat_map f) (counting from n k is)
    ∙ flat_map-append f (range_with_len from n) (k ∷ [])
    ∙ ap (λ (es : List Event). flat_map f (range_with_len from n) ++ es) (append-nil (f k))

pub next_one : (f : ℕ → Event) (n : ℕ) →
    map f (range_with_len 0 (n + 1)) ≡ map f (range_with_len 0 n) ++ f n ∷ []
next_one f n = map-range_with_len_more f 0 n n (omega arith)
