-- Items that go into a player's pack one after another, and players that pick up one after another.
use Rattle.std.proofs.Common.{◌≡◌, ℕ, List, [], ◌∷◌, ◌++◌, refl, sym, ap, ◌∙◌, ℤ, true, cond, arith}
use Rattle.std.proofs.lemmas.Bool.Decides.{Decides-int_eq, nat_tests}
use Rattle.std.proofs.lemmas.Cmp.{int_cmp_total}
use Rattle.std.proofs.lemmas.Map.Lookups.{exact_signed}
use Rattle.std.specs.Bool.{one_answer}
use Rattle.std.specs.Cmp.{tied_itself}
use Rattle.std.specs.declared.cmp.Ordering.{Ordering}
use Rattle.std.specs.declared.cmp.Ordering.TheVariants.{Equal}
use Rattle.std.proofs.lemmas.List.{append_assoc}
use Rattle.std.proofs.lemmas.List.Elements.{filter_map-append}
use Rattle.std.specs.Prelude.{Option, Some}
use Rattle.std.specs.List.{filter_map, fold}
use Rattle.std.specs.Ordering.{int_cmp, int_eq, is_eq, nat_cmp}
use lib.IntN.{pos}
use Rattle.mc_entities.specs.declared.entity.Entity.{Entity}
use Rattle.mc_entities.specs.Folk.{eid_of}
use Rattle.mc_entities.specs.Numbers.{changed, is_among, without, without_all}
use Rattle.std.specs.FinMap.{FinMap, get}
use Rattle.mc_slots.specs.declared.pile.Item.{Item}
use Rattle.mc_slots.specs.declared.pile.Pile.{Pile}
use Rattle.mc_slots.specs.declared.pile.Pile.TheVariants.{Empty, Full}
use Rattle.mc_windows.specs.Pack.{PackValue}
use Rattle.mc_windows.specs.Storing.{stored}
use Rattle.mc_model.specs.declared.player.Player.{Player}
use Rattle.mc_model.specs.Game.{Game, pack_of}
use Rattle.mc_model.specs.Deeds.{lessened, repack_of}
use Rattle.mc_model.specs.Things.{holding, in_hand, lying_as}
use Rattle.mc_model.specs.Pickups.{pick_up, ripe_for, stowed}
use Rattle.mc_land.specs.Places.{key_cmp}
use Rattle.mc_play.specs.Kept.{Aside, GameValue, by_player, played}
use Rattle.mc_play.specs.Picking.{all_stowed, stowed_by, without_those}
use Rattle.mc_play.proofs.Dropping.{by_some}
use Rattle.mc_play.proofs.Steps.{then_played}

-- once the first of those that are left is done, doing the others comes to all the same
pub done_next : {X : Type 0} (f : Game → X → Game) (xs now_ rest : List X) (x : X)
    (start v n : GameValue) → now_ ≡ x ∷ rest →
    played v (fold f v.game now_) v.aside ≡ played start (fold f start.game xs) v.aside →
    n ≡ played v (f v.game x) n.aside →
    played n (fold f n.game rest) n.aside ≡ played start (fold f start.game xs) n.aside
done_next f xs now_ rest x start v n next so made =
    let game : fold f n.game rest ≡ fold f start.game xs =
    ap (λ (w : GameValue). fold f w.game rest) made ∙ ap (fold f v.game) (sym next)
    ∙ ap (λ (w : GameValue). w.game) so in
    let settled : n.settled ≡ start.settled =
    ap (λ (w : GameValue). w.settled) made ∙ ap (λ (w : GameValue). w.settled) so in
    λ j. record { game = game j; settled = settled j; aside = n.aside }

-- what was found of the first of those that are left, behind what was found before, and what is
-- found among the others, are together all
pub found_next : {X Y : Type 0} (f : X → Option Y) (found next all : List Y)
    (x : X) (left_ rest : List X) → left_ ≡ x ∷ rest → found ++ filter_map f left_ ≡ all →
    next ≡ found ++ filter_map f (x ∷ []) → next ++ filter_map f rest ≡ all
found_next f found next all x left_ rest more made put =
    ap (λ ys. ys ++ filter_map f rest) put
    ∙ append_assoc found (filter_map f (x ∷ [])) (filter_map f rest)
    ∙ ap (λ ys. found ++ ys) (sym (filter_map-append f (x ∷ []) rest))
    ∙ ap (λ xs. found ++ filter_map f xs) (sym more) ∙ made

-- ---- entities that go at the end

-- nobody goes
none_go : (es : List Entity) → without_all eid_of [] es ≡ es
none_go [] = refl
none_go (e ∷ es) = ap (λ (t : List Entity). e ∷ t) (none_go es)

pub none_gone : (gone : List ℤ) (g : Game) → gone ≡ [] → without_those gone g ≡ g
none_gone gone g none = rw none (λ i. record g { entities = none_go g.entities i })

is_equal : (o : Ordering) → is_eq o ≡ true → o ≡ Equal
is_equal o e = grind (arith, nat_tests)

same_number : (a b : ℤ) → is_eq (int_cmp a b) ≡ int_eq b a
same_number a b = one_answer (is_eq (int_cmp a b)) (int_eq b a) (
  λ t. sym (exact_signed a b (is_equal (int_cmp a b) t)),
  λ e. rw e (ap is_eq (tied_itself int_cmp_total a)),
) (Decides-int_eq b a)

-- one more goes
one_more_goes : (gone more : List ℤ) (eid : ℤ) (es : List Entity) →
    ((n : ℤ) → is_among more n ≡ cond (is_eq (int_cmp eid n)) true (is_among gone n)) →
    without_all eid_of more es ≡ without eid_of eid (without_all eid_of gone es)
one_more_goes gone more eid [] are = refl
one_more_goes gone more eid (e ∷ es) are = grind (
  arith,
  nat_tests,
  one_more_goes gone more eid es are,
  are e.eid,
  same_number eid e.eid,
)

-- who goes changes before or not at all
changed_goes : (gone : List ℤ) (eid : ℤ) (f : Entity → Entity) (es : List Entity) →
    ((e : Entity) → (f e).eid ≡ e.eid) → without_all eid_of gone (changed eid_of eid f es) ≡
    changed eid_of eid f (without_all eid_of gone es)
changed_goes gone eid f [] keeps = refl
changed_goes gone eid f (e ∷ es) keeps =
    grind (arith, nat_tests, changed_goes gone eid f es keeps, keeps e)

pub repack_goes : (gone : List ℤ) (p : Player) (pack : PackValue) (g : Game) →
    without_those gone (repack_of p pack g) ≡ repack_of p pack (without_those gone g)
repack_goes gone p pack g i = record (repack_of p pack g) {
  entities = changed_goes gone (pos p.eid) (holding (in_hand pack p.hand)) g.entities
      (λ e. refl) i;
}

pub empty_goes : (gone more : List ℤ) (eid : ℤ) (g n : Game) → n ≡ g →
    ((k : ℤ) → is_among more k ≡ cond (is_eq (int_cmp eid k)) true (is_among gone k)) →
    without_those more n ≡ lessened eid Empty (without_those gone g)
empty_goes gone more eid g n same are =
    ap (without_those more) same
    ∙ (λ i. record g { entities = one_more_goes gone more eid g.entities are i })

pub rest_stays : (gone : List ℤ) (eid : ℤ) (item : Item) (g : Game) →
    without_those gone (lessened eid (Full item) g) ≡
    lessened eid (Full item) (without_those gone g)
rest_stays gone eid item g i = record g {
  entities = changed_goes gone eid (lying_as item) g.entities (λ e. refl) i;
}

-- ---- one item

-- what is stowed into the pack of the player of a connection, step by step
pub stows : (k : ℕ) (p : Player) (eid : ℤ) (item : Item) (e : ℤ × Item) (before pack : PackValue)
    (left_ : Pile) (u mid n : GameValue) (was now : List ℤ) → get u.game.players k ≡ Some p →
    (eid, item) ≡ e → before ≡ pack_of u.game p → pack ≡ (stored before item).pack →
    left_ ≡ (stored before item).floor →
    mid ≡ played u (by_player k (λ (q : Player). repack_of q pack) u.game) u.aside →
    without_those now n.game ≡ lessened eid left_ (without_those was mid.game) →
    without_those now n.game ≡ stowed_by k (without_those was u.game) e
stows k p eid item e before pack left_ u mid n was now plays is carried packed rest repacked made =
    let after = packed ∙ (λ i. (stored (carried i) (is i).1).pack) in
    let floor = rest ∙ (λ i. (stored (carried i) (is i).1).floor) in
    let amid : mid.game ≡ repack_of p pack u.game = ap (λ (v : GameValue). v.game) repacked
    ∙ by_some k (λ (q : Player). repack_of q pack) u.game p plays in
    made
    ∙ ap (λ (g : Game). lessened eid left_ (without_those was g)) amid
    ∙ ap (lessened eid left_) (repack_goes was p pack u.game)
    ∙ (λ i. lessened (is i).0 (floor i) (repack_of p (after i) (without_those was u.game)))
    ∙ sym (by_some k (λ (q : Player). stowed q e) (without_those was u.game) p plays)

-- once the first of those that are left is stowed, stowing the others comes to all the same
pub stow_next : (k : ℕ) (xs now_ rest : List (ℤ × Item)) (x : ℤ × Item) (start v n : Game) →
    now_ ≡ x ∷ rest → all_stowed k now_ v ≡ all_stowed k xs start → n ≡ stowed_by k v x →
    all_stowed k rest n ≡ all_stowed k xs start
stow_next k xs now_ rest x start v n next so made =
    ap (all_stowed k rest) made ∙ ap (λ es. all_stowed k es v) (sym next) ∙ so

-- a kept game is another by what it is and by what was settled
pub taken : (game next : Game) (settled was : FinMap key_cmp ℕ) (aside : Aside) → game ≡ next →
    settled ≡ was → ◌≡◌ {A = GameValue} (record { game = game; settled = settled; aside = aside })
    (record { game = next; settled = was; aside = aside })
taken game next settled was aside e f j = record { game = e j; settled = f j; aside = aside }

-- ---- all that one picks up

-- it changes no player
stowed_players : (p : Player) (e : ℤ × Item) (g : Game) → (stowed p e g).players ≡ g.players
stowed_players p e g =
    less (stored (pack_of g p) e.1).floor (repack_of p (stored (pack_of g p) e.1).pack g)
  where
    less : (pile : Pile) (h : Game) → (lessened e.0 pile h).players ≡ h.players
    less Empty h = refl
    less (Full item) h = refl

-- by the number of its connection it is the same
all_stowed_is : (k : ℕ) (p : Player) (found : List (ℤ × Item)) (g : Game) →
    get g.players k ≡ Some p →
    all_stowed k found g ≡ fold (λ (h : Game) (e : ℤ × Item). stowed p e h) g found
all_stowed_is k p [] g plays = refl
all_stowed_is k p (e ∷ found) g plays =
    ap (all_stowed k found) (by_some k (λ (q : Player). stowed q e) g p plays)
    ∙ all_stowed_is k p found (stowed p e g)
    (ap (λ (m : FinMap nat_cmp Player). get m k) (stowed_players p e g) ∙ plays)

pub picks : (k : ℕ) (p : Player) (found : List (ℤ × Item)) (g : Game) →
    get g.players k ≡ Some p → found ≡ ripe_for p g →
    all_stowed k found g ≡ by_player k pick_up g
picks k p found g plays is =
    all_stowed_is k p found g plays
    ∙ ap (fold (λ (h : Game) (e : ℤ × Item). stowed p e h) g) is
    ∙ sym (by_some k pick_up g p plays)
