-- Playing events one after another.
use Rattle.std.proofs.Common.{◌≡◌, ℕ, suc, ◌+◌, ◌<◌, ◌≤◌, List, [], ◌∷◌, ◌++◌, length, get_or, take}
use Rattle.std.proofs.Common.{drop, map, refl, sym, subst, ap, ◌∙◌, append_assoc, arith}
use Rattle.std.specs.Prelude.{Option, replicate}
use Rattle.std.specs.List.{filter}
use Rattle.std.specs.FinMap.{entries}
use Rattle.std.proofs.lemmas.Bool.Decides.{nat_tests}
use Rattle.std.proofs.lemmas.List.{append-nil, take_all, take-append-drop, take-replicate}
use Rattle.std.proofs.lemmas.List.{replicate_more, take_more}
use Rattle.std.proofs.lemmas.List.Sums.{sum_by-cons}
use Rattle.std.proofs.lemmas.Grind.{flat_map-append}
use Rattle.std.proofs.Math.Seq.{take-append-add, drop-cons}
use Rattle.mc_wire.specs.Stream.{Grows}
use Rattle.mc_model.specs.Link.{Link}
use Rattle.mc_model.specs.Minds.{Plans}
use Rattle.mc_model.specs.Run.{history}
use Rattle.mc_model.specs.Step.{Event, forgot, step, ticked, took}
use Rattle.mc_model.specs.World.{World}
use Rattle.mc_events.specs.Served.{ServerValue}
use Rattle.mc_events.specs.Stands.{Stands}
use Rattle.mc_server.specs.Minded.{ServedValue, StandsFor}
use Rattle.mc_server.proofs.Plans.{step_plans}
use Rattle.mc_words.specs.declared.script_line.ScriptEvent.{ScriptEvent}
use Rattle.mc_text.proofs.Growing.{grows_two, part_of}
use Rattle.mc_measure.specs.Settling.{settled}
use Rattle.mc_top.specs.ReplayText.{lines_after, replay_text, line_events, events_of}
use Rattle.mc_measure.specs.Settling.{is_shut, owes}
use Rattle.mc_measure.specs.Settling.{settled_world}
use Rattle.mc_top.specs.Replaying.{HasPlayed, HasStopped, line_ticks, ticks_of}
use Rattle.mc_measure.proofs.Takings.{settled_is, tooks}

-- ---- some events and then others

text_more : (w : World) (xs ys : List Event) →
    replay_text w (xs ++ ys) ≡ replay_text w xs ++ replay_text (settled_world w xs) ys
text_more w [] ys = refl
text_more w (e ∷ xs) ys =
    grind (arith, nat_tests, append_assoc, text_more (settled (step w e).world) xs ys)

world_more : (w : World) (xs ys : List Event) →
    settled_world w (xs ++ ys) ≡ settled_world (settled_world w xs) ys
world_more w [] ys = refl
world_more w (e ∷ xs) ys = world_more (settled (step w e).world) xs ys

pub played_two : (xs ys : List Event) (w : World) (middle server : ServedValue)
    (held half held' : Option (List ℕ)) → HasPlayed xs w middle held half →
    HasPlayed ys (settled_world w xs) server half held' → HasPlayed (xs ++ ys) w server held held'
played_two xs ys w middle server held half held' a b =
    grind (arith, nat_tests, world_more, text_more, grows_two)

pub stopped_two : (xs ys : List Event) (w : World)
    (middle : ServedValue) (held half held' : Option (List ℕ)) → HasPlayed xs w middle held half →
    HasStopped ys (settled_world w xs) half held' → HasStopped (xs ++ ys) w held held'
stopped_two xs ys w middle held half held' a b =
    let Q : List ℕ → Type 0 = λ t. Grows held held' t in
    let more : List ℕ = replay_text (settled_world w xs) ys in
    record {
      len = length (replay_text w xs) + b.len;
      wrote = subst Q (sym (ap (take (length (replay_text w xs) + b.len)) (text_more w xs ys)
          ∙ take-append-add (replay_text w xs) more b.len))
          (grows_two held half held' (replay_text w xs) (take b.len more) a.wrote b.wrote);
    }

pub stopped_before : (xs ys : List Event) (w : World) (held held' : Option (List ℕ)) →
    HasStopped xs w held held' → HasStopped (xs ++ ys) w held held'
stopped_before xs ys w held held' s =
    let Q : List ℕ → Type 0 = λ t. Grows held held' t in
    let part = part_of s.len (replay_text w xs) (replay_text (settled_world w xs) ys) in
    record {
      len = part.0;
      wrote = subst Q (sym (ap (take part.0) (text_more w xs ys) ∙ part.1)) s.wrote;
    }

-- ---- one event

-- taking and forgetting leave what mobs are still to do
tooks_plans : (es : List (ℕ × Link)) (w : World) →
    (history w (map (λ (e : ℕ × Link). took e.0 (length e.1.owed)) es)).plans ≡ w.plans
tooks_plans [] w = refl
tooks_plans (e ∷ es) w =
    let now = took e.0 (length e.1.owed) in
    tooks_plans es (step w now).world ∙ step_plans w now (λ tick. cc)

forgots_plans : (es : List (ℕ × Link)) (w : World) →
    (history w (map (λ (e : ℕ × Link). forgot e.0) es)).plans ≡ w.plans
forgots_plans [] w = refl
forgots_plans (e ∷ es) w =
    forgots_plans es (step w (forgot e.0)).world ∙ step_plans w (forgot e.0) (λ tick. cc)

-- the server stands with its minds for the world that is settled
pub stands_settled : (w : World) (server : ServerValue) (plans : Plans) →
    Stands server (settled w) → w.plans ≡ plans →
    StandsFor (record { server = server; plans = plans }) (settled w)
stands_settled w server plans stands are = record {
  stands = stands;
  plans = ap (λ (v : World). v.plans) (settled_is w)
      ∙ forgots_plans (filter is_shut (entries w.links)) (history w (tooks w))
      ∙ tooks_plans (filter owes (entries w.links)) w ∙ are;
}

pub played_one : (e : Event) (w : World) (served : ServedValue)
    (held held' : Option (List ℕ)) (text : List ℕ) → StandsFor served (settled (step w e).world) →
    text ≡ lines_after (step w e).world → Grows held held' text →
    HasPlayed (e ∷ []) w served held held'
played_one e w served held held' text stands is wrote = grind (arith, nat_tests, append-nil)

pub stopped_one : (e : Event) (w : World) (held held' : Option (List ℕ)) (text : List ℕ) →
    text ≡ lines_after (step w e).world → (n : ℕ) × Grows held held' (take n text) →
    HasStopped (e ∷ []) w held held'
stopped_one e w held held' text is part = grind (arith, nat_tests, append-nil)

-- ---- ticks

-- one more of them
ticks_next : (n count : ℕ) → n < count → replicate count ticked
    ≡ (replicate n ticked ++ ticked ∷ []) ++ drop (n + 1) (replicate count ticked)
ticks_next n count less =
    sym (take-append-drop (n + 1) (replicate count ticked))
    ∙ ap (λ (es : List Event). es ++ drop (n + 1) (replicate count ticked))
    (take-replicate (n + 1) count ticked (omega (arith, less)) ∙ sym (replicate_more n ticked))

pub ticks_played : (n : ℕ) (w : World) (middle server : ServedValue)
    (held half held' : Option (List ℕ)) → HasPlayed (replicate n ticked) w middle held half →
    HasPlayed (ticked ∷ []) (settled_world w (replicate n ticked)) server half held' →
    HasPlayed (replicate (n + 1) ticked) w server held held'
ticks_played n w middle server held half held' a b =
    let P : List Event → Type 0 = λ es. HasPlayed es w server held held' in
    subst P (replicate_more n ticked)
    (played_two (replicate n ticked) (ticked ∷ []) w middle server held half held' a b)

pub ticks_stopped : (n count : ℕ) (w : World)
    (middle : ServedValue) (held half held' : Option (List ℕ)) → n < count →
    HasPlayed (replicate n ticked) w middle held half →
    HasStopped (ticked ∷ []) (settled_world w (replicate n ticked)) half held' →
    HasStopped (replicate count ticked) w held held'
ticks_stopped n count w middle held half held' less a b =
    let P : List Event → Type 0 = λ es. HasStopped es w held held' in
    subst P (sym (ticks_next n count less))
    (stopped_before (replicate n ticked ++ ticked ∷ []) (drop (n + 1) (replicate count ticked)) w
    held held' (stopped_two (replicate n ticked) (ticked ∷ []) w middle held half held' a b))

-- ---- lines

-- one more of them
lines_next : (events : List ScriptEvent) (i : ℕ) (e : ScriptEvent) →
    i < length events → e ≡ get_or events i e →
    events_of (take (i + 1) events) ≡ events_of (take i events) ++ line_events e
lines_next events i e within is =
    ap events_of (take_more events i e within
    ∙ ap (λ (x : ScriptEvent). take i events ++ x ∷ []) (sym is))
    ∙ flat_map-append line_events (take i events) (e ∷ [])
    ∙ ap (λ (es : List Event). events_of (take i events) ++ es) (append-nil (line_events e))

lines_before : (events : List ScriptEvent) (i : ℕ) →
    events_of events ≡ events_of (take i events) ++ events_of (drop i events)
lines_before events i = ap events_of (sym (take-append-drop i events))
    ∙ flat_map-append line_events (take i events) (drop i events)

pub lines_played : (events : List ScriptEvent) (i : ℕ) (e : ScriptEvent) (w : World)
    (middle server : ServedValue) (held half held' : Option (List ℕ)) → i < length events →
    e ≡ get_or events i e → HasPlayed (events_of (take i events)) w middle held half →
    HasPlayed (line_events e) (settled_world w (events_of (take i events))) server half held' →
    HasPlayed (events_of (take (i + 1) events)) w server held held'
lines_played events i e w middle server held half held' within is a b =
    let P : List Event → Type 0 = λ es. HasPlayed es w server held held' in
    subst P (sym (lines_next events i e within is))
    (played_two (events_of (take i events)) (line_events e) w middle server held half held' a b)

pub lines_stopped : (events : List ScriptEvent) (i : ℕ) (e : ScriptEvent)
    (w : World) (middle : ServedValue) (held half held' : Option (List ℕ)) → i < length events →
    e ≡ get_or events i e → HasPlayed (events_of (take i events)) w middle held half →
    HasStopped (line_events e) (settled_world w (events_of (take i events))) half held' →
    HasStopped (events_of events) w held held'
lines_stopped events i e w middle held half held' within is a b =
    let P : List Event → Type 0 = λ es. HasStopped es w held held' in
    let first : HasStopped (events_of (take (i + 1) events)) w held held' =
    subst P (sym (lines_next events i e within is))
    (stopped_two (events_of (take i events)) (line_events e) w middle held half held' a b) in
    subst P (sym (lines_before events (i + 1))) (stopped_before (events_of (take (i + 1) events))
    (events_of (drop (i + 1) events)) w held held' first)

pub lines_done : (events : List ScriptEvent) (i : ℕ)
    (w : World) (server : ServedValue) (held held' : Option (List ℕ)) →
    length events ≤ i → HasPlayed (events_of (take i events)) w server held held' →
    HasPlayed (events_of events) w server held held'
lines_done events i w server held held' all a =
    let P : List ScriptEvent → Type 0 = λ es. HasPlayed (events_of es) w server held held' in
    subst P (take_all i events all) a

-- the ticks that are left, by the next line
pub ticks_left : (events : List ScriptEvent) (i : ℕ) (e : ScriptEvent) → i < length events →
    e ≡ get_or events i e → ticks_of (drop i events) ≡ line_ticks e + ticks_of (drop (i + 1) events)
ticks_left events i e within is =
    let one : suc i ≡ i + 1 = omega arith in
    ap ticks_of (drop-cons events i e within ∙ ap (λ (x : ScriptEvent). x ∷ drop (suc i) events)
    (sym is) ∙ ap (λ (j : ℕ). e ∷ drop j events) one)
    ∙ sum_by-cons line_ticks e (drop (i + 1) events)
