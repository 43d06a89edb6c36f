-- What forgetting connections that are done leaves of all: the others are as they were, nobody is
-- owed more, and of those whose numbers are among the closed ones none is done.
use Rattle.std.proofs.Common.{◌≡◌, ◌≢◌, ℕ, List, [], ◌∷◌, map, refl, sym, subst, ap, ◌∙◌, inl, inr}
use Rattle.std.proofs.Common.{T}
use Rattle.std.specs.Prelude.{◌⊎◌, Bool, true, false, cond, Option, Some, None, if◌then◌else◌}
use Rattle.std.specs.List.{filter}
use Rattle.std.specs.Ordering.{eq_by_cmp, nat_cmp}
use Rattle.std.specs.Cmp.{nat_cmp_total}
use Rattle.std.specs.FinMap.{find, get, is_sorted, nat_cmp-IsAntisymmetric, remove}
use Rattle.std.proofs.lemmas.Bool.{cases_eq}
use Rattle.mc_wire.specs.declared.log.LogEntry.TheVariants.{Closed}
use Rattle.mc_model.specs.Step.{forgot, forget, step}
use Rattle.mc_model.specs.Link.{Link, is_done}
use Rattle.mc_model.specs.World.{World}
use Rattle.mc_model.specs.Run.{owed_in, owed_of}
use Rattle.mc_model.specs.Log.{logged}
use Rattle.mc_model.proofs.Maps.Sorted.{equal, find_again, second}
use Rattle.mc_model.proofs.Maps.Options.{none_some, some_is}
use Rattle.mc_model.proofs.Maps.Lookups.{gone_other, gone_same, tied_number, untied_number}
use Rattle.mc_laws.proofs.Serving.Logs.{AreRight}

-- ---- one

-- the connections once one was forgotten
forgot_links : (w : World) (j : ℕ) (P : (ℕ → Option Link) → Type 0) →
    P (get w.links) →
    ((l : Link) → get w.links j ≡ Some l → is_done l ≡ true → P (get (remove w.links j))) →
    P (get (step w (forgot j)).world.links)
unfolding step
forgot_links w j P stays goes = at_link (get w.links j) refl
  where
    at_done : (l : Link) → get w.links j ≡ Some l → (b : Bool) → is_done l ≡ b →
        P (get (if b then record w {
          links = remove w.links j;
          unread = remove w.unread j;
          shown = remove w.shown j;
        } else w).links)
    at_done l is true t = goes l is t
    at_done l is false t = stays

    at_link : (o : Option Link) → get w.links j ≡ o → P (get (forget w j o).links)
    at_link None is = stays
    at_link (Some l) is = at_done l is (is_done l) refl

-- another stays
pub forgot_other : (w : World) (j k : ℕ) → k ≢ j →
    get (step w (forgot j)).world.links k ≡ get w.links k
forgot_other w j k ne = forgot_links w j (λ (f : ℕ → Option Link). f k ≡ get w.links k) refl
    (λ l is done. gone_other w.links j k ne)

-- one that is done goes
pub forgot_done : (w : World) (k : ℕ) (l : Link) → get w.links k ≡ Some l → is_done l ≡ true →
    get (step w (forgot k)).world.links k ≡ None
unfolding step
forgot_done w k l there done = subst (λ (o : Option Link). get (forget w k o).links k ≡ None)
    (sym there) (subst (λ (b : Bool). get (if b then record w {
      links = remove w.links k;
      unread = remove w.unread k;
      shown = remove w.shown k;
    } else w).links k ≡ None) (sym done) (gone_same w.links k))

-- what is there after it was there before it, and is not the one that was done
forgot_left : (w : World) (j k : ℕ) (m : Link) →
    get (step w (forgot j)).world.links k ≡ Some m →
    (get w.links k ≡ Some m) × (is_done m ≡ true → j ≢ k)
forgot_left w j k m there = elim (cases_eq k j) [
  | inl same ↦ subst (λ (n : ℕ). get (step w (forgot n)).world.links k ≡ Some m →
      (get w.links k ≡ Some m) × (is_done m ≡ true → n ≢ k)) same (mine (get w.links k) refl) there
  | inr ne ↦ (sym (forgot_other w j k ne) ∙ there, λ done own. ne (sym own))
]
  where
    mine : (o : Option Link) → get w.links k ≡ o →
        get (step w (forgot k)).world.links k ≡ Some m →
        (get w.links k ≡ Some m) × (is_done m ≡ true → k ≢ k)
    mine o is now =
        let before = forgot_links w k
        (λ (f : ℕ → Option Link). f k ≡ Some m → get w.links k ≡ Some m) (λ here. here)
        (λ l is done here. absurd (none_some _ m (gone_same w.links k) here)) now in
        (before, λ done. absurd (none_some _ m (forgot_done w k m before done) now))

-- who is owed nothing is owed nothing
forgot_owed : (w : World) (j k : ℕ) → owed_in k w ≡ [] → owed_in k (step w (forgot j)).world ≡ []
forgot_owed w j k none = forgot_links w j (λ (f : ℕ → Option Link). owed_of (f k) ≡ []) none
    (λ l is done. elim (cases_eq k j) [
      | inl same ↦ ap owed_of (ap (get (remove w.links j)) same ∙ gone_same w.links j)
      | inr ne ↦ ap owed_of (gone_other w.links j k ne) ∙ none
    ])

-- ---- many

pub closed_owed : (k : ℕ) (ks : List ℕ) (w : World) → owed_in k w ≡ [] →
    owed_in k (logged w (map Closed ks)) ≡ []
closed_owed k [] w none = none
closed_owed k (j ∷ js) w none =
    closed_owed k js (step w (forgot j)).world (forgot_owed w j k none)

abbrev pub IsAmong : ℕ → List ℕ → Type 0
IsAmong k [] = ⊥
IsAmong k (j ∷ js) = (j ≡ k) ⊎ IsAmong k js

pub closed_left : (k : ℕ) (m : Link) (ks : List ℕ) (w : World) →
    get (logged w (map Closed ks)).links k ≡ Some m →
    (get w.links k ≡ Some m) × (is_done m ≡ true → IsAmong k ks → ⊥)
closed_left k m [] w there = (there, λ done among. among)
closed_left k m (j ∷ js) w there =
    let later = closed_left k m js (step w (forgot j)).world there in
    let here = forgot_left w j k m later.0 in (
      here.0,
      λ done among. elim among [
        | inl same ↦ here.1 done same
        | inr rest ↦ later.1 done rest
      ],
    )

-- the numbers of those that are done
abbrev pub done_of : List (ℕ × Link) → List ℕ
done_of es = map (λ (e : ℕ × Link). e.0) (filter (λ (e : ℕ × Link). is_done e.1) es)

pub done_among : (k : ℕ) (l : Link) (es : List (ℕ × Link)) → find nat_cmp k es ≡ Some l →
    is_done l ≡ true → IsAmong k (done_of es)
done_among k l [] there done = absurd cc
done_among k l (e ∷ es) there done =
    step_at (eq_by_cmp nat_cmp k e.0) refl there (λ later. done_among k l es later done)
  where
    Here : List (ℕ × Link) → Type 0
    Here rest = IsAmong k (map (λ (x : ℕ × Link). x.0) rest)

    mine : e.0 ≡ k → (b : Bool) → b ≡ true → IsAmong k
        (map (λ (x : ℕ × Link). x.0) (cond b (e ∷ filter (λ (x : ℕ × Link). is_done x.1) es)
        (filter (λ (x : ℕ × Link). is_done x.1) es)))
    mine same true t = inl same
    mine same false t = absurd cc

    behind : (b : Bool) → IsAmong k (done_of es) → IsAmong k
        (map (λ (x : ℕ × Link). x.0) (cond b (e ∷ filter (λ (x : ℕ × Link). is_done x.1) es)
        (filter (λ (x : ℕ × Link). is_done x.1) es)))
    behind true among = inr among
    behind false among = among

    step_at : (b : Bool) → eq_by_cmp nat_cmp k e.0 ≡ b →
        cond b (Some e.1) (find nat_cmp k es) ≡ Some l →
        (find nat_cmp k es ≡ Some l → IsAmong k (done_of es)) → IsAmong k (done_of (e ∷ es))
    step_at true t is later = mine (sym (nat_cmp-IsAntisymmetric k e.0 (equal _ t)))
        (is_done e.1) (ap is_done (some_is e.1 l is) ∙ done)
    step_at false t is later = behind (is_done e.1) (later is)

-- ---- all that are done

-- one that stands behind another has another number, and is found behind it
found_later : (k : ℕ) (e : ℕ × Link) (l : Link) (es : List (ℕ × Link)) →
    T (is_sorted nat_cmp (e ∷ es)) → find nat_cmp k es ≡ Some l →
    (k ≢ e.0) × (find nat_cmp k (e ∷ es) ≡ Some l)
found_later k e l es sorted here =
    let other : k ≢ e.0 = λ same. none_some (find nat_cmp k es) l
    (find_again nat_cmp_total k e es sorted
    (ap (eq_by_cmp nat_cmp k) (sym same) ∙ tied_number k)) here in (
      other,
      ap (λ (b : Bool). cond b (Some e.1) (find nat_cmp k es)) (untied_number k e.0 other) ∙ here,
    )

-- of connections that are all there, those that are done may be closed one after another
pub closings_right : (es : List (ℕ × Link)) (w : World) → T (is_sorted nat_cmp es) →
    ((k : ℕ) (l : Link) → find nat_cmp k es ≡ Some l → get w.links k ≡ Some l) →
    AreRight w (map Closed (done_of es))
closings_right [] w sorted there = tt
closings_right (e ∷ es) w sorted there = elim (is_done e.1) as (λ b. is_done e.1 ≡ b →
    AreRight w (map Closed (map (λ (x : ℕ × Link). x.0)
    (cond b (e ∷ filter (λ (x : ℕ × Link). is_done x.1) es)
    (filter (λ (x : ℕ × Link). is_done x.1) es))))) [
      | true ↦ λ done. (
        (
          e.1,
          there e.0 e.1 (ap (λ (b : Bool). cond b (Some e.1) (find nat_cmp e.0 es))
              (tied_number e.0)),
          done,
        ),
        closings_right es (step w (forgot e.0)).world (second _ _ sorted)
            (λ k l here. let later = found_later k e l es sorted here in
            forgot_other w e.0 k later.0 ∙ there k l later.1),
      )
      | false ↦ λ waits. closings_right es w (second _ _ sorted)
          (λ k l here. there k l (found_later k e l es sorted here).1)
    ] refl
