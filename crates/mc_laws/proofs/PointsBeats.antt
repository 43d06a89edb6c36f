-- What the packets of the beat and of the age make of what a client sees: they are those that are
-- wanted.
use Rattle.std.proofs.Common.{◌≡◌, Bool, true, false, cond, [], ◌∷◌, Option, Some, None, is_some}
use Rattle.std.proofs.Common.{refl, ap}
use Rattle.std.proofs.lemmas.Bool.Decides.{Decides-int_eq}
use lib.IntN.{ℤ}
use Rattle.mc_packets.specs.declared.down.Down.TheVariants.{KeepAlive, Time}
use Rattle.mc_model.specs.Sight.{Sight}
use Rattle.mc_model.specs.Replica.{apply}
use Rattle.mc_model.specs.Ticks.{time_of_day}
use Rattle.mc_model.specs.Delta.{Follows, is_told, beat_packets, time_packets, beat_point}
use Rattle.mc_model.specs.Delta.{time_point}
use Rattle.mc_laws.proofs.Leading.{Leads, no_packets, led}

-- a number that was told is the one that was told last
told_same : (old : Option ℤ) (n : ℤ) → is_told old n ≡ true → old ≡ Some n
told_same None n t = absurd cc
told_same (Some m) n t = ap (λ (k : ℤ). Some k) ((Decides-int_eq m n).0 t)

-- ---- the beat

-- with a beat
abbrev with_beat : Sight → Option ℤ → Sight
with_beat s beat = record s { beat = beat }

-- its packet tells a beat
beat_told : (s : Sight) (old : Option ℤ) (beat : ℤ) →
    Leads (with_beat s old) (KeepAlive beat ∷ []) (with_beat s (Some beat))
unfolding apply
beat_told s old beat = record { is = refl }

-- the beat that is wanted, if there is one
beats_lead : (s : Sight) (old new : Option ℤ) → is_some new ≡ true →
    Leads (with_beat s old) (beat_packets old new) (with_beat s new)
beats_lead s old None some = absurd cc
beats_lead s old (Some beat) some = cases (is_told old beat) refl
  where
    cases : (told : Bool) → is_told old beat ≡ told →
        Leads (with_beat s old) (cond told [] (KeepAlive beat ∷ [])) (with_beat s (Some beat))
    cases true t = led (ap (with_beat s) (told_same old beat t)) refl
        (no_packets (with_beat s (Some beat)))
    cases false t = beat_told s old beat

-- the beat is the one that is wanted
pub beat_point_leads : (p q s : Sight) → Follows p q →
    Leads (record s { beat = p.beat }) (beat_point p q) (record s { beat = q.beat })
beat_point_leads p q s follows = beats_lead s p.beat q.beat follows.beat

-- ---- the age

-- with an age
abbrev with_age : Sight → Option ℤ → Sight
with_age s age = record s { age = age }

-- its packet tells an age
age_told : (s : Sight) (old : Option ℤ) (age : ℤ) →
    Leads (with_age s old) (Time age (time_of_day age) ∷ []) (with_age s (Some age))
unfolding apply
age_told s old age = record { is = refl }

-- the age that is wanted, if there is one
ages_lead : (s : Sight) (old new : Option ℤ) → is_some new ≡ true →
    Leads (with_age s old) (time_packets old new) (with_age s new)
ages_lead s old None some = absurd cc
ages_lead s old (Some age) some = cases (is_told old age) refl
  where
    cases : (told : Bool) → is_told old age ≡ told →
        Leads (with_age s old) (cond told [] (Time age (time_of_day age) ∷ []))
        (with_age s (Some age))
    cases true t = led (ap (with_age s) (told_same old age t)) refl
        (no_packets (with_age s (Some age)))
    cases false t = age_told s old age

-- the age is the one that is wanted
pub time_point_leads : (p q s : Sight) → Follows p q →
    Leads (record s { age = p.age }) (time_point p q) (record s { age = q.age })
time_point_leads p q s follows = ages_lead s p.age q.age follows.age
