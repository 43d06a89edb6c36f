-- Two players leave in either order, where nothing hangs on the cursor of one of them: that one
-- drops nothing, and what the other drops is the same.
use Rattle.std.proofs.Common.{◌≡◌, ◌≢◌, ℕ, ◌+◌, ◌≤◌, Bool, true, false, List, [], ◌∷◌, ◌++◌}
use Rattle.std.proofs.Common.{Option, Some, None, refl, sym, subst, ap, ◌∙◌, inl, inr, arith}
use Rattle.std.specs.Prelude.{◌-◌, ◌≤ℤ◌, min, not, nat_lt, unwrap_or}
use Rattle.std.specs.Prelude.{if◌then◌else◌}
use Rattle.std.proofs.lemmas.Bool.{cases_eq}
use Rattle.std.proofs.lemmas.Bool.Decides.{Decides-int_eq, nat_tests}
use Rattle.std.proofs.lemmas.Int.{ints}
use Rattle.std.proofs.lemmas.List.Elements.{filter-append}
use Rattle.std.specs.List.{filter}
use Rattle.std.specs.Ordering.{int_eq, nat_cmp}
use Rattle.std.specs.Cmp.Lexicographic.{nat_list_cmp_total}
use Rattle.std.specs.FinMap.{FinMap, get, remove, same_map}
use lib.IntN.{ℤ, pos}
use Rattle.mc_fields.specs.declared.position.Spot.{Spot}
use Rattle.mc_slots.specs.declared.pile.Pile.{Pile}
use Rattle.mc_slots.specs.declared.pile.Pile.TheVariants.{Empty, Full}
use Rattle.mc_windows.specs.Pack.{PackValue, finished_pack, kit_pack}
use Rattle.mc_entities.specs.declared.entity.Entity.{Entity}
use Rattle.mc_entities.specs.declared.entity.EntityKind.TheVariants as kinds
use Rattle.mc_entities.specs.declared.entity.TheConstants.{DROPPED_MAX, EID_MAX}
use Rattle.mc_entities.specs.Kinds.{is_dropped}
use Rattle.mc_entities.specs.Numbers.{Rise, changed, numbered, without}
use Rattle.mc_entities.specs.Folk.{dropped_in, eid_of}
use Rattle.mc_model.specs.declared.player.Player.{Player}
use Rattle.mc_model.specs.Notes.{again}
use Rattle.mc_model.specs.Things.{holding, in_hand}
use Rattle.mc_model.specs.Maps.{modify, name_cmp}
use Rattle.mc_model.specs.Game.{Game, of_player, pack_of, room_in}
use Rattle.mc_model.specs.Deeds.{go_of, noting, repack_of, thrown, watching}
use Rattle.mc_model.specs.Leaving.{leave}
use Rattle.mc_model.specs.Windows.{feet_of, kept_in_hand, let_fall, shut}
use Rattle.mc_model.specs.Good.{Good}
use Rattle.mc_model.proofs.Maps.Options.{none_some}
use Rattle.mc_model.proofs.Maps.Lookups.{changed_other, gone_other, gone_same, maps_alike}
use Rattle.mc_model.proofs.Maps.Lookups.{name_cases, name_changed_other, name_changed_same}
use Rattle.mc_model.proofs.Maps.Lookups.{names_apart}
use Rattle.mc_model.proofs.Maps.Entities.{KeepsEid, other_eid, without_no_eid}
use Rattle.mc_laws.proofs.Deeds.Goods.{holds}
use Rattle.mc_laws.proofs.Deeds.Keeping.{names_apart as names_differ}
use Rattle.mc_laws.proofs.Deeds.Leaving.{leave_cases, leave_good, leave_nobody, leave_other}
use Rattle.mc_laws.proofs.Deeds.Leaving.{leave_same}
use Rattle.mc_laws.proofs.Deeds.Shutting.{same_feet}

-- ---- entities and maps

-- two tests, in either order
pub filter_swap : {X : Type 0} (p q : X → Bool) (xs : List X) →
    filter p (filter q xs) ≡ filter q (filter p xs)
filter_swap p q [] = refl
filter_swap p q (x ∷ xs) = grind (arith, nat_tests, filter_swap p q xs)

-- one that is taken out may have changed
without_changed : (n : ℤ) (f : Entity → Entity) (es : List Entity) → KeepsEid f →
    without eid_of n (changed eid_of n f es) ≡ without eid_of n es
without_changed n f [] keeps = refl
without_changed n f (e ∷ es) keeps =
    grind (arith, nat_tests, keeps.is e, without_changed n f es keeps)

-- nothing is taken out below all that are there
without_low : (n low high : ℤ) (es : List Entity) → n ≤ℤ low → Rise eid_of low es high →
    without eid_of n es ≡ es
without_low n low high [] le r = refl
without_low n low high (e ∷ es) le r =
    grind (arith, nat_tests, ints, Decides-int_eq, without_low n e.eid high es)

-- one of another number that is there behind all stays
without_behind : (n : ℤ) (es : List Entity) (x : Entity) → int_eq x.eid n ≡ false →
    without eid_of n (es ++ x ∷ []) ≡ without eid_of n es ++ x ∷ []
without_behind n es x other = filter-append (λ (e : Entity). not (int_eq (eid_of e) n)) es (x ∷ [])
    ∙ ap (λ (b : Bool). without eid_of n es ++ (if not b then x ∷ [] else [])) other

-- as many items lie there once one went that is none
lying_without : (n low high : ℤ) (es : List Entity) (x : Entity) → Rise eid_of low es high →
    numbered eid_of n es ≡ Some x → is_dropped x.kind ≡ false →
    dropped_in (without eid_of n es) ≡ dropped_in es
lying_without n low high [] x r found none = refl
lying_without n low high (e ∷ es) x r found none =
    grind (
      arith,
      nat_tests,
      ints,
      Decides-int_eq,
      without_low n e.eid high es,
      lying_without n e.eid high es x,
    )

removed_changed : {X : Type 0} (k : ℕ) (f : X → X) (m : FinMap nat_cmp X) →
    remove (modify k f m) k ≡ remove m k
removed_changed k f m = maps_alike (remove (modify k f m) k) (remove m k)
    (λ q. grind (arith, nat_tests, cases_eq q k, gone_same, gone_other, changed_other))

removed_swap : {X : Type 0} (m : FinMap nat_cmp X) (j k : ℕ) →
    remove (remove m j) k ≡ remove (remove m k) j
removed_swap m j k = maps_alike (remove (remove m j) k) (remove (remove m k) j)
    (λ q. grind (arith, nat_tests, cases_eq q j, cases_eq q k, gone_same, gone_other))

-- two names change
modified_swap : {X : Type 0} (m : FinMap name_cmp X) (a b : List ℕ) (f h : X → X) → a ≢ b →
    modify a f (modify b h m) ≡ modify b h (modify a f m)
modified_swap m a b f h ne = same_map nat_list_cmp_total names_apart
    (modify a f (modify b h m)) (modify b h (modify a f m)) (λ q. grind (
      arith,
      nat_tests,
      name_cases q a,
      name_cases q b,
      name_changed_same,
      name_changed_other,
    ))

-- ---- what leaving comes to

-- a player is gone with its entity, and another pack is kept of its name
abbrev pub gone_with : ℕ → Player → PackValue → Game → Game
gone_with k p pack g = record g {
  entities = without eid_of (pos p.eid) g.entities;
  packs = modify p.name (λ (old : PackValue). pack) g.packs;
  players = remove g.players k;
}

-- the pack that is kept, and what falls, with room for that or without
abbrev kept_pack : Bool → PackValue → PackValue
kept_pack room pack = if room then finished_pack pack else kept_in_hand pack

abbrev falls_at : Bool → Pile → Spot → Game → Game
falls_at true (Full item) spot g = thrown item spot g
falls_at room pile spot g = g

module _ (k : ℕ) (p : Player) (g : Game) where
  abbrev pack : PackValue
  pack = pack_of g p

  left_is : p.eid ≤ g.eids → go_of k p (shut k p g)
      ≡ falls_at (nat_lt 0 (room_in g)) pack.cursor (feet_of p g)
      (gone_with k p (kept_pack (nat_lt 0 (room_in g)) pack) g)
  left_is given = step (nat_lt 0 (room_in g)) pack.cursor
    where
      none : Player → Player
      none q = record q { chest = None }

      bare : (held : Pile) → without eid_of (pos p.eid)
          (changed eid_of (pos p.eid) (holding held) g.entities)
          ≡ without eid_of (pos p.eid) g.entities
      bare held = without_changed (pos p.eid) (holding held) g.entities (holds held)

      step : (b : Bool) (pile : Pile) → go_of k p (watching None k
          (if b then let_fall p pile (repack_of p (finished_pack pack) g)
          else noting again k (repack_of p (kept_in_hand pack) g)))
          ≡ falls_at b pile (feet_of p g) (gone_with k p (kept_pack b pack) g)
      step true Empty = λ i. record (gone_with k p (finished_pack pack) g) {
        entities = bare (in_hand (finished_pack pack) p.hand) i;
        players = removed_changed k none g.players i;
      }
      step true (Full item) =
          let held = in_hand (finished_pack pack) p.hand in
          let es = changed eid_of (pos p.eid) (holding held) g.entities in
          let x : Spot → Entity = λ spot. record {
            eid = pos (g.eids + 1);
            kind = kinds.Dropped item g.age;
            spot = spot;
          } in
          λ i. record (thrown item (feet_of p g) (gone_with k p (finished_pack pack) g)) {
            entities = (without_behind (pos p.eid) es _ (other_eid (g.eids + 1) p.eid
                (λ same. absurd (omega (arith, given, same))))
                ∙ (λ j. bare held j ++ x (same_feet p held g j) ∷ [])) i;
            players = removed_changed k none g.players i;
          }
      step false pile = λ i. record (gone_with k p (kept_in_hand pack) g) {
        entities = bare (in_hand (kept_in_hand pack) p.hand) i;
        players = (removed_changed k none (modify k (λ (q : Player).
            record q { notes = again q.notes }) g.players)
            ∙ removed_changed k (λ (q : Player). record q { notes = again q.notes }) g.players) i;
      }

-- ---- who has nothing on its cursor

-- nothing hangs on the cursor of a connection's player, if it has one
abbrev pub HasNothing : ℕ → Game → Type 0
HasNothing k g = (p : Player) → get g.players k ≡ Some p → (pack_of g p).cursor ≡ Empty

module _ (k : ℕ) (p : Player) (g : Game) (there : get g.players k ≡ Some p) (w : Good g) where
  left_by : leave k g ≡ falls_at (nat_lt 0 (room_in g)) (pack_of g p).cursor (feet_of p g)
      (gone_with k p (kept_pack (nat_lt 0 (room_in g)) (pack_of g p)) g)
  unfolding leave
  left_by = ap (of_player g (λ (q : Player). go_of k q (shut k q g))) there
      ∙ left_is k p g (w.own k p there).given

  -- whose leaving drops nothing
  pub left_empty : (pack_of g p).cursor ≡ Empty →
      leave k g ≡ gone_with k p (finished_pack (pack_of g p)) g
  left_empty none = left_by ∙ step (nat_lt 0 (room_in g)) (pack_of g p) none
    where
      step : (b : Bool) (pack : PackValue) → pack.cursor ≡ Empty →
          falls_at b pack.cursor (feet_of p g) (gone_with k p (kept_pack b pack) g)
          ≡ gone_with k p (finished_pack pack) g
      step true pack is = ap (λ (pile : Pile).
          falls_at true pile (feet_of p g) (gone_with k p (finished_pack pack) g)) is
      step false pack is = ap (λ (pile : Pile).
          gone_with k p (record (finished_pack pack) { cursor = pile }) g) is

-- another that leaves changes nothing of its pack
pub pack_stays : (k j : ℕ) (p : Player) (g : Game) → get g.players k ≡ Some p → k ≢ j → Good g →
    pack_of (leave j g) p ≡ pack_of g p
pack_stays k j p g there ne w = leave_cases j g (λ (v : Game). pack_of v p ≡ pack_of g p)
    (λ none. refl)
    (λ q is. ap (λ (v : Game). pack_of v p) (left_is j q g (w.own j q is).given)
    ∙ ap (λ m. unwrap_or (get m p.name) kit_pack) (same_packs _ _ _ _)
    ∙ ap (λ o. unwrap_or o kit_pack)
    (name_changed_other g.packs q.name p.name (λ (old : PackValue). _)
    (names_differ g.entities g.eids g.packs p q (w.own k p there) (w.own j q is)
    (w.apart k j p q there is ne))))
  where
    same_packs : (b : Bool) (pile : Pile) (spot : Spot) (v : Game) →
        (falls_at b pile spot v).packs ≡ v.packs
    same_packs true Empty spot v = refl
    same_packs true (Full item) spot v = refl
    same_packs false pile spot v = refl

pub leaves_nothing : (k j : ℕ) (g : Game) → Good g → HasNothing k g → HasNothing k (leave j g)
leaves_nothing k j g w none p there = elim (cases_eq k j) [
  | inl same ↦ absurd (none_some (get (leave j g).players k) p
      (ap (get (leave j g).players) same ∙ leave_same j g) there)
  | inr ne ↦ (let was = sym (leave_other j k g ne) ∙ there in
      ap (λ (pack : PackValue). pack.cursor) (pack_stays k j p g was ne w) ∙ none p was)
]

-- ---- two players

module _ (k j : ℕ) (p q : Player) (g : Game) (there : get g.players k ≡ Some p)
    (too : get g.players j ≡ Some q) (ne : k ≢ j) (w : Good g)
    (none : (pack_of g p).cursor ≡ Empty) where
  abbrev kept : PackValue
  kept = finished_pack (pack_of g p)

  -- the game without the one that drops nothing
  abbrev without_one : Game
  without_one = gone_with k p kept g

  names : q.name ≢ p.name
  names same = names_differ g.entities g.eids g.packs p q (w.own k p there) (w.own j q too)
      (w.apart k j p q there too ne) (sym same)

  same_room : room_in without_one ≡ room_in g
  same_room = ap (λ (n : ℕ). min (DROPPED_MAX - n) (EID_MAX - g.eids))
      (lying_without (pos p.eid) (pos 0) (pos g.eids) g.entities _ w.rise (w.own k p there).body
      refl)

  same_spot : feet_of q without_one ≡ feet_of q g
  same_spot = (let other = (w.apart k j p q there too ne).eid in
      grind (arith, nat_tests, without_no_eid q.eid p.eid g.entities, other))

  same_pack : pack_of without_one q ≡ pack_of g q
  same_pack = ap (λ (o : Option PackValue). unwrap_or o kit_pack)
      (name_changed_other g.packs p.name q.name (λ (old : PackValue). kept) names)

  gone_swap : (other : PackValue) →
      gone_with j q other without_one ≡ gone_with k p kept (gone_with j q other g)
  gone_swap other = λ i. record g {
    entities = filter_swap (λ (e : Entity). not (int_eq (eid_of e) (pos q.eid)))
        (λ (e : Entity). not (int_eq (eid_of e) (pos p.eid))) g.entities i;
    packs = modified_swap g.packs q.name p.name (λ (old : PackValue). other)
        (λ (old : PackValue). kept) names i;
    players = removed_swap g.players k j i;
  }

  fallen_swap : (b : Bool) (pile : Pile) (spot : Spot) (v : Game) → v.eids ≡ g.eids →
      falls_at b pile spot (gone_with k p kept v) ≡ gone_with k p kept (falls_at b pile spot v)
  fallen_swap true Empty spot v same = refl
  fallen_swap true (Full item) spot v same =
      λ i. record (thrown item spot (gone_with k p kept v)) { entities = ends i }
    where
      comes : Entity
      comes = record { eid = pos (v.eids + 1); kind = kinds.Dropped item v.age; spot = spot }

      ends : without eid_of (pos p.eid) v.entities ++ comes ∷ []
          ≡ without eid_of (pos p.eid) (v.entities ++ comes ∷ [])
      ends = sym (without_behind (pos p.eid) v.entities comes (other_eid (v.eids + 1) p.eid
          (λ e. absurd (let given = (w.own k p there).given in omega (arith, given, e, same)))))
  fallen_swap false pile spot v same = refl

  both_left : leave k (leave j g) ≡ leave j (leave k g)
  both_left =
      left_empty k p (leave j g) (leave_other j k g ne ∙ there) (leave_good j g w)
      (ap (λ (pack : PackValue). pack.cursor) (pack_stays k j p g there ne w) ∙ none)
      ∙ (λ i. gone_with k p (finished_pack (pack_stays k j p g there ne w i))
      (left_by j q g too w i))
      ∙ sym (fallen_swap (nat_lt 0 (room_in g)) (pack_of g q).cursor (feet_of q g) _ refl)
      ∙ sym (ap (falls_at (nat_lt 0 (room_in g)) (pack_of g q).cursor (feet_of q g))
      (gone_swap (kept_pack (nat_lt 0 (room_in g)) (pack_of g q))))
      ∙ sym (λ i. falls_at (nat_lt 0 (same_room i)) (same_pack i).cursor (same_spot i)
      (gone_with j q (kept_pack (nat_lt 0 (same_room i)) (same_pack i)) without_one))
      ∙ sym (left_by j q without_one here good)
      ∙ ap (leave j) (sym (left_empty k p g there w none))
    where
      good : Good without_one
      good = subst Good (left_empty k p g there w none) (leave_good k g w)

      here : get without_one.players j ≡ Some q
      here = gone_other g.players k j (λ e. ne (sym e)) ∙ too

pub leave_swap : (k j : ℕ) (g : Game) → Good g → HasNothing k g →
    leave k (leave j g) ≡ leave j (leave k g)
leave_swap k j g w none = elim (cases_eq k j) [
  | inl same ↦ subst (λ (n : ℕ). leave k (leave n g) ≡ leave n (leave k g)) same refl
  | inr ne ↦ apart ne (get g.players k) (get g.players j) refl refl
]
  where
    apart : k ≢ j → (o r : Option Player) → get g.players k ≡ o → get g.players j ≡ r →
        leave k (leave j g) ≡ leave j (leave k g)
    apart ne None r is too = leave_nobody k (leave j g) (leave_other j k g ne ∙ is)
        ∙ ap (leave j) (sym (leave_nobody k g is))
    apart ne (Some p) None is too = ap (leave k) (leave_nobody j g too)
        ∙ sym (leave_nobody j (leave k g) (leave_other k j g (λ same. ne (sym same)) ∙ too))
    apart ne (Some p) (Some q) is too = both_left k j p q g is too ne w (none p is)
