-- What holds of all that happens in a load: the whole promise about a run, and that each client
-- took just the bytes that it was handed.
use Rattle.std.proofs.Common.{◌≡◌, ◌≤◌, ℕ, List, [], ◌∷◌, ◌++◌, length, map, refl, sym, subst, ap}
use Rattle.std.proofs.Common.{◌∙◌, append_assoc, arith}
use Rattle.std.specs.List.{filter}
use Rattle.std.specs.FinMap.{entries, get-empty}
use Rattle.std.specs.Ordering.{nat_cmp}
use Rattle.std.proofs.lemmas.Bool.Decides.{nat_tests}
use Rattle.std.proofs.lemmas.List.{append-nil}
use Rattle.std.proofs.lemmas.List.Sums.{fold-append}
use Rattle.mc_model.specs.Game.{AreSettings}
use Rattle.mc_model.specs.Link.{Link}
use Rattle.mc_model.specs.Run.{AreBytes, history, lost, lost_at, owed_in, owed_of, taken}
use Rattle.mc_model.specs.Step.{Event, came, forgot, step, took}
use Rattle.mc_model.specs.World.{World}
use Rattle.mc_laws.proofs.Decoding.Worlds.{IsEvent, first_bytes}
use Rattle.mc_laws.proofs.Headline.Promise.{headline}
use Rattle.mc_play.specs.declared.census.Census.{Census}
use Rattle.mc_play.specs.Census.{census_of}
use Rattle.mc_load.specs.Load.{load_events}
use Rattle.mc_measure.specs.LoadText.{KeepsAll, after_load, before_load, load_bytes, load_census}
use Rattle.mc_measure.specs.LoadText.{load_log, load_outcome, load_size, load_start, load_text}
use Rattle.mc_measure.specs.Settling.{NeverFull, is_shut, owes, settled, settled_log}
use Rattle.mc_measure.specs.Settling.{takings}
use Rattle.mc_measure.proofs.Full.{never_why}
use Rattle.mc_measure.proofs.Takings.{settled_none}

-- ---- the bytes of a log

bytes_both : (e : Event) (events : List Event) → IsEvent e → AreBytes events →
    AreBytes (e ∷ events)
bytes_both (came k bytes) events first later = (first, later)
bytes_both other events first later = later

pub bytes_append : (xs ys : List Event) → AreBytes xs → AreBytes ys → AreBytes (xs ++ ys)
bytes_append [] ys a b = b
bytes_append (e ∷ xs) ys a b = grind (arith, nat_tests, bytes_append xs ys)

tooks_fit : (es : List (ℕ × Link)) →
    AreBytes (map (λ (e : ℕ × Link). took e.0 (length e.1.owed)) es)
tooks_fit [] = tt
tooks_fit (e ∷ es) = tooks_fit es

forgots_fit : (es : List (ℕ × Link)) → AreBytes (map (λ (e : ℕ × Link). forgot e.0) es)
forgots_fit [] = tt
forgots_fit (e ∷ es) = forgots_fit es

pub takings_fit : (w : World) → AreBytes (takings w)
unfolding takings
takings_fit w =
    let owing : List (ℕ × Link) = filter owes (entries w.links) in
    let shut : List (ℕ × Link) = filter is_shut (entries w.links) in
    bytes_append (map (λ (e : ℕ × Link). took e.0 (length e.1.owed)) owing)
    (map (λ (e : ℕ × Link). forgot e.0) shut) (tooks_fit owing) (forgots_fit shut)

pub log_fits : (w : World) (events : List Event) → AreBytes events → AreBytes (settled_log w events)
log_fits w [] fit = tt
log_fits w (e ∷ events) fit =
    let v : World = (step w e).world in
    let parts = first_bytes e events fit in
    bytes_append (e ∷ takings v) (settled_log (settled v) events)
    (bytes_both e (takings v) parts.0 (takings_fit v)) (log_fits (settled v) events parts.1)

-- ---- at the end nothing is owed

abbrev pub OwesNone : World → Type 0
OwesNone w = (k : ℕ) → owed_in k w ≡ []

pub log_none : (w : World) (events : List Event) → OwesNone w →
    OwesNone (history w (settled_log w events))
log_none w [] none = none
log_none w (e ∷ events) none =
    let v : World = (step w e).world in
    let P : World → Type 0 = λ u. OwesNone u in
    subst P (sym (fold-append _ v (takings v) (settled_log (settled v) events)))
    (log_none (settled v) events (settled_none v))

-- ---- nothing is lost

-- one that goes is owed nothing to lose
pub lost_none : (k : ℕ) (w : World) (e : Event) → owed_in k w ≡ [] → lost_at k w e ≡ []
lost_none k w e none = grind (arith, nat_tests, none)

pub lost_more : (k : ℕ) (w : World) (xs ys : List Event) →
    lost k w (xs ++ ys) ≡ lost k w xs ++ lost k (history w xs) ys
lost_more k w [] ys = refl
lost_more k w (e ∷ xs) ys =
    grind (arith, nat_tests, append_assoc, lost_more k (step w e).world xs ys)

-- taking and forgetting lose nothing
took_lost : (k : ℕ) (w : World) (es : List (ℕ × Link)) →
    lost k w (map (λ (e : ℕ × Link). took e.0 (length e.1.owed)) es) ≡ []
took_lost k w [] = refl
took_lost k w (e ∷ es) = took_lost k (step w (took e.0 (length e.1.owed))).world es

forgot_lost : (k : ℕ) (w : World) (es : List (ℕ × Link)) →
    lost k w (map (λ (e : ℕ × Link). forgot e.0) es) ≡ []
forgot_lost k w [] = refl
forgot_lost k w (e ∷ es) = forgot_lost k (step w (forgot e.0)).world es

pub takings_lost : (k : ℕ) (w : World) → lost k w (takings w) ≡ []
unfolding takings
takings_lost k w = rw (lost_more, took_lost, forgot_lost) refl

pub log_lost : (k : ℕ) (w : World) (events : List Event) → OwesNone w →
    lost k w (settled_log w events) ≡ []
log_lost k w [] none = refl
log_lost k w (e ∷ events) none =
    let v : World = (step w e).world in
    rw (
      lost_none k w e (none k),
      lost_more k v (takings v) (settled_log (settled v) events),
      takings_lost,
      log_lost k (settled v) events (settled_none v),
    ) refl

-- ---- all of it

pub keeps_all : (n ticks : ℕ) → AreSettings n 2 → AreBytes (load_events n ticks) →
    NeverFull (before_load n) (load_log n ticks) → KeepsAll n ticks
keeps_all n ticks are bytes never =
    let w : World = before_load n in
    let log : List Event = load_log n ticks in
    let promise = headline (load_start n) log are (log_fits w (load_events n ticks) bytes) in
    let begins : OwesNone w = λ j. ap owed_of (get-empty {X = Link} nat_cmp j) in
    record {
      promise = promise;
      kept = λ i. never_why i w log never;
      whole = λ i.
          let p = promise.promised log [] i (sym (append-nil log)) in
          let none = log_none w (load_events n ticks) begins i in
          let lost = log_lost i w (load_events n ticks) begins in
          sym (rw (lost, none, append-nil (taken i w log)) at
          (p.whole (never_why i w log never)));
    }

pub settings_are : (n : ℕ) → 1 ≤ n → n ≤ 50 → AreSettings n 2
settings_are n some few = record {
  some = some;
  few = few;
  wide = omega arith;
  near = omega arith;
}

-- ---- what is told

pub census_is : (n ticks : ℕ) (census : Census) → census ≡ census_of (after_load n ticks).game →
    census ≡ load_census n ticks
unfolding load_census
census_is n ticks census is = is

pub text_is : (n ticks : ℕ) (census : Census) (bytes : ℕ) (line : List ℕ) →
    census ≡ load_census n ticks → bytes ≡ load_bytes n ticks →
    line ≡ load_size n ticks ++ load_outcome census bytes → line ≡ load_text n ticks
unfolding load_text
text_is n ticks census bytes line same count is =
    is ∙ ap (λ (c : Census). load_size n ticks ++ load_outcome c bytes) same
    ∙ ap (λ (b : ℕ). load_size n ticks ++ load_outcome (load_census n ticks) b) count
