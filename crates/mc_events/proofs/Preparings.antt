-- Columns that are made ready for clients one after another, by the numbers of their connections.
use Rattle.std.proofs.Common.{◌≡◌, ℕ, zero, suc, ◌+◌, ◌<◌, ◌≤◌, true, false, List, [], ◌∷◌, drop}
use Rattle.std.proofs.Common.{length, get_or, arith, refl, sym, subst, ap, ◌∙◌, inl, inr}
use Rattle.std.proofs.lemmas.List.{drop_more}
use Rattle.std.specs.Prelude.{Option, Some, None, is_some}
use Rattle.std.specs.Ordering.{nat_cmp}
use Rattle.std.proofs.lemmas.Bool.{cases_eq}
use Rattle.std.specs.FinMap.{FinMap, contains_key-keys, get, keys}
use Rattle.mc_model.proofs.Maps.Lookups.{untied_number}
use Rattle.mc_links.specs.Kept.{ConnectionValue}
use Rattle.mc_play.specs.Kept.{GameValue}
use Rattle.mc_showing.specs.Preparing.{IsReadyFor, Prepares}
use Rattle.mc_showing.proofs.ReadyFacts.{ready_stays}
use Rattle.mc_events.specs.Ticking.{AreReady}
use Rattle.mc_events.proofs.Loops.{is_of}

-- all is ready for each that is not to come
abbrev pub AreReadySo : GameValue → List ℕ → FinMap nat_cmp ConnectionValue → Type 0
AreReadySo v later m = (k : ℕ) (c : ConnectionValue) → is_of k later ≡ false →
    get m k ≡ Some c → IsReadyFor v c.id c.mark

pub ready_first : (v : GameValue) (ids : List ℕ) (m : FinMap nat_cmp ConnectionValue) →
    ids ≡ keys m → AreReadySo v ids m
ready_first v ids m are k c far there =
    let clash : true ≡ false = ap is_some (sym there) ∙ contains_key-keys m k
    ∙ ap (is_of k) (sym are) ∙ far in absurd cc

pub ready_next : (v u : GameValue) (k : ℕ) (later : List ℕ) (m : FinMap nat_cmp ConnectionValue)
    (c : ConnectionValue) → Prepares v u → AreReadySo v (k ∷ later) m → get m k ≡ Some c →
    IsReadyFor u c.id c.mark → AreReadySo u later m
ready_next v u k later m c grown so there is j d far found = elim (cases_eq j k) [
  | inl same ↦
      (let both : Some c ≡ Some d = sym there ∙ ap (get m) (sym same) ∙ found in
      let same : c ≡ d = cc in
      subst (λ (x : ConnectionValue). IsReadyFor u x.id x.mark) same is)
  | inr ne ↦ ready_stays v u d.id d.mark grown
      (so j d (rw (untied_number j k ne) far) found)
]

pub ready_skip : (v : GameValue) (k : ℕ) (later : List ℕ) (m : FinMap nat_cmp ConnectionValue) →
    AreReadySo v (k ∷ later) m → get m k ≡ None → AreReadySo v later m
ready_skip v k later m so none j d far found = elim (cases_eq j k) [
  | inl same ↦
      (let clash : ◌≡◌ {A = Option ConnectionValue} None (Some d) =
      sym none ∙ ap (get m) (sym same) ∙ found in absurd cc)
  | inr ne ↦ so j d (rw (untied_number j k ne) far) found
]

pub ready_last : (v : GameValue) (m : FinMap nat_cmp ConnectionValue) → AreReadySo v [] m →
    AreReady v m
ready_last v m so k c there = so k c refl there

-- by the places of the numbers
module _ (ids : List ℕ) (i : ℕ) (m : FinMap nat_cmp ConnectionValue) (lt : i < length ids) where
  pub ready_on : (v u : GameValue) (c : ConnectionValue) → Prepares v u →
      AreReadySo v (drop i ids) m → get m (get_or ids i 0) ≡ Some c → IsReadyFor u c.id c.mark →
      AreReadySo u (drop (i + 1) ids) m
  ready_on v u c grown so there is = ready_next v u (get_or ids i 0) (drop (i + 1) ids) m c grown
      (subst (λ (ks : List ℕ). AreReadySo v ks m) (drop_more ids i 0 lt) so) there is

  pub ready_past : (v : GameValue) → AreReadySo v (drop i ids) m →
      get m (get_or ids i 0) ≡ None → AreReadySo v (drop (i + 1) ids) m
  ready_past v so none = ready_skip v (get_or ids i 0) (drop (i + 1) ids) m
      (subst (λ (ks : List ℕ). AreReadySo v ks m) (drop_more ids i 0 lt) so) none

pub nothing_left : (i : ℕ) (ids : List ℕ) → length ids ≤ i → drop i ids ≡ []
nothing_left zero [] le = refl
nothing_left (suc i) [] le = refl
nothing_left zero (k ∷ ids) le = absurd (omega (arith, le))
nothing_left (suc i) (k ∷ ids) le = nothing_left i ids (omega (arith, le))

pub ready_done : (v : GameValue) (ids : List ℕ) (i : ℕ) (m : FinMap nat_cmp ConnectionValue) →
    length ids ≤ i → AreReadySo v (drop i ids) m → AreReady v m
ready_done v ids i m le so = ready_last v m
    (subst (λ (ks : List ℕ). AreReadySo v ks m) (nothing_left i ids le) so)
